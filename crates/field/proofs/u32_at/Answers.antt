-- `u32_at` meets its contract: a number of 4 bytes, written out.
use Rattle.std.proofs.Common.{arith, add_assoc}
use Rattle.field.specs.Number.{number}
use Rattle.field.proofs.u32_at.Goals as goal

pub returns : goal.returns
unfolding number
returns c = simp add_assoc (omega (arith, c.from_le_bytes.ensures))
