-- A law about flags.
use Rattle.std.proofs.Common.{ℕ, ◌^◌, ◌≤◌, ◌<◌, lt_of_lt_of_le, ◌≡◌, false, arith}
use native.Mathlib.Nat.{div-eq_of_lt, pow-le-pow_right}
use Rattle.fadt.specs.Flags.{flag_of}

-- A number below 2 ^ 64 has no bits from 64 on.
pub flag_past : (word bit : ℕ) → word < 2 ^ 64 → 64 ≤ bit → flag_of word bit ≡ false
unfolding flag_of
flag_past word bit h past = rw (div-eq_of_lt (lt_of_lt_of_le h (pow-le-pow_right {n = 2} (omega arith) past)))
