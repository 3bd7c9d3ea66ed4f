use mathlib.Core.Path.{refl}
use Rattle.refusal_code.proofs.number.Goals as goal

-- src/lib.rt:7:1
pub returns-in-Ended : goal.returns-in-Ended
returns-in-Ended c = rw c.in-Ended.is refl

-- src/lib.rt:7:1
pub returns-in-Malformed : goal.returns-in-Malformed
returns-in-Malformed c = rw c.in-Malformed.is refl

-- src/lib.rt:7:1
pub returns-in-WrongKind : goal.returns-in-WrongKind
returns-in-WrongKind c = rw c.in-WrongKind.is refl

-- src/lib.rt:7:1
pub returns-in-OutsideLimits : goal.returns-in-OutsideLimits
returns-in-OutsideLimits c = rw c.in-OutsideLimits.is refl

-- src/lib.rt:7:1
pub returns-in-Trailing : goal.returns-in-Trailing
returns-in-Trailing c = rw c.in-Trailing.is refl

-- src/lib.rt:7:1
pub returns-in-BadRow : goal.returns-in-BadRow
returns-in-BadRow c = rw c.in-BadRow.is refl

-- src/lib.rt:7:1
pub returns-in-Crowded : goal.returns-in-Crowded
returns-in-Crowded c = rw c.in-Crowded.is refl

-- src/lib.rt:7:1
pub returns-in-WrongFigure : goal.returns-in-WrongFigure
returns-in-WrongFigure c = rw c.in-WrongFigure.is refl

-- src/lib.rt:7:1
pub returns-in-NoBlock : goal.returns-in-NoBlock
returns-in-NoBlock c = rw c.in-NoBlock.is refl

-- src/lib.rt:7:1
pub returns-in-ShortWork : goal.returns-in-ShortWork
returns-in-ShortWork c = rw c.in-ShortWork.is refl

-- src/lib.rt:7:1
pub returns-in-ShortOutput : goal.returns-in-ShortOutput
returns-in-ShortOutput c = rw c.in-ShortOutput.is refl

-- src/lib.rt:7:1
pub returns-in-BadOrder : goal.returns-in-BadOrder
returns-in-BadOrder c = rw c.in-BadOrder.is refl

-- src/lib.rt:7:1
pub returns-in-Unjoinable : goal.returns-in-Unjoinable
returns-in-Unjoinable c = rw c.in-Unjoinable.is refl

-- src/lib.rt:7:1
pub returns-in-BadWish : goal.returns-in-BadWish
returns-in-BadWish c = rw c.in-BadWish.is refl

-- src/lib.rt:7:1
pub returns-in-OutOfService : goal.returns-in-OutOfService
returns-in-OutOfService c = rw c.in-OutOfService.is refl

-- src/lib.rt:7:1
pub returns-in-BadCounts : goal.returns-in-BadCounts
returns-in-BadCounts c = rw c.in-BadCounts.is refl

-- src/lib.rt:7:1
pub returns-in-TooManySets : goal.returns-in-TooManySets
returns-in-TooManySets c = rw c.in-TooManySets.is refl

-- src/lib.rt:7:1
pub returns-in-BadRounds : goal.returns-in-BadRounds
returns-in-BadRounds c = rw c.in-BadRounds.is refl

-- src/lib.rt:7:1
pub returns-in-EarlierEvent : goal.returns-in-EarlierEvent
returns-in-EarlierEvent c = rw c.in-EarlierEvent.is refl

-- src/lib.rt:7:1
pub returns-in-BadEvent : goal.returns-in-BadEvent
returns-in-BadEvent c = rw c.in-BadEvent.is refl

-- src/lib.rt:7:1
pub returns-in-SharedFeeder : goal.returns-in-SharedFeeder
returns-in-SharedFeeder c = rw c.in-SharedFeeder.is refl
