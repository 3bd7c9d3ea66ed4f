-- Document 01, "Seven cabinets": orders with the pack P. Assumes nothing.
use Rattle.std.specs.Prelude.{ℕ}
use Rattle.refusal.specs.Checked.{Checked}
use Rattle.packing.specs.SevenCabinets.{row245}
use Rattle.pack.specs.SevenCabinets.{pack_bytes}
use Rattle.placement.specs.Placement.{Placement}
use Rattle.planner.specs.Planning.{plan, work_most, output_most}

-- "With P: s .., k .., b ..": what planning gives, with slices as long as the largest order needs
abbrev pub plan_p : (s k b : ℕ) → Checked Placement
plan_p s k b = plan (pack_bytes row245) (record { s = s; k = k; b = b }) work_most output_most
