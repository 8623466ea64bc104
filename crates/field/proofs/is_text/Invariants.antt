-- `is_text` meets its contract. The loop's invariant: what is expected now, of the bytes that are left, is what the whole asks.
use Rattle.std.proofs.Common.{◌≡◌, drop}
use Rattle.field.specs.Text.{text, well_formed}
use Rattle.field.specs.Walk.{spans_of}
use Rattle.field.proofs.is_text.Given as goal

abbrev pub invariant-loop-b : goal.invariant-loop-b
invariant-loop-b l = well_formed (spans_of l.expected) (drop l.b-index l.bytes) ≡ text l.bytes
