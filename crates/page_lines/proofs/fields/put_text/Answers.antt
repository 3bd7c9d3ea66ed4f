-- `page_lines::fields::put_text` meets its contract. Assumes nothing.
use mathlib.Core.Path.{refl}
use lib.ListN.{length}
use Rattle.page_lines.proofs.Part.{put-part}
use Rattle.page_lines.proofs.fields.put_text.Goals as goal

pub returns : goal.returns
returns c =
    rw c.copy_from_slice.ensures.after
    (put-part c.args.out.now c.args.text.now c.args.at (length c.args.text.now) refl c.requires)
