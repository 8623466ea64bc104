-- `u8_at` meets its contract: a number of one byte is that byte.
use Rattle.std.proofs.Common.{arith}
use Rattle.field.specs.Number.{number}
use Rattle.field.proofs.u8_at.Goals as goal

pub returns : goal.returns
unfolding number
returns c = omega arith
