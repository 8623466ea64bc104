-- `u16_at` meets its contract: a number of 2 bytes, written out.
use Rattle.std.proofs.Common.{arith}
use Rattle.field.specs.Number.{number}
use Rattle.field.proofs.u16_at.Goals as goal

pub returns : goal.returns
unfolding number
returns c = omega (arith, c.from_le_bytes.ensures)
