-- `number_writer::writer::form_length` meets its contract: one group holds 128 numbers, two 16,384, three 2,097,152. Assumes nothing.
use mathlib.Core.Path.{sym}
use native.Mathlib.Omega.{arith}
use Rattle.number.proofs.Laws.{number_bytes-length-one}
use Rattle.number.proofs.Writing.{number_bytes-length, number_bytes-length-four}
use Rattle.number_writer.proofs.writer.form_length.Goals as goal

pub returns-then-v-lt128 : goal.returns-then-v-lt128
returns-then-v-lt128 c = sym (number_bytes-length-one _ (omega arith))

pub returns-then-v-lt16384 : goal.returns-then-v-lt16384
returns-then-v-lt16384 c = sym (number_bytes-length 1 _ (omega arith) (omega arith) (omega arith))

pub returns-then-v-lt2097152 : goal.returns-then-v-lt2097152
returns-then-v-lt2097152 c = sym (number_bytes-length 2 _ (omega arith) (omega arith) (omega arith))

pub returns : goal.returns
returns c = sym (number_bytes-length-four _ (omega arith))
