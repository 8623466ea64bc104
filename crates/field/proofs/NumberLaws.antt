-- Laws about numbers in a list of bytes.
use Rattle.std.proofs.Common.{◌≡◌, ℕ, zero, suc, ◌+◌, ◌*◌, ◌^◌, ◌<◌, ◌≤◌, List, take, drop, refl, add-zero, add_assoc, add-suc, mul_assoc, suc-add, zero-add, mul-add, one-add, arith, get_or-drop, get_or-take}
use native.Mathlib.Nat.{pow-succ'}
use Rattle.field.specs.Number.{number}

-- A number of m + n bytes is its first m bytes and, 256 ^ m times, the n bytes after them.
pub number_add : (m n : ℕ) (s : List ℕ) (at : ℕ) → number s at (m + n) ≡ number s at m + 256 ^ m * number s (at + m) n
unfolding number
number_add zero n s at = rw (zero-add, add-zero) (omega arith)
number_add (suc m) n s at =
    rw (suc-add m n, number_add m n s (at + 1), pow-succ')
    (simp (mul-add, mul_assoc, add_assoc, one-add) refl)

-- A number that lies inside the first k bytes is the same number there.
pub number_take : (n k : ℕ) (s : List ℕ) (at : ℕ) → at + n ≤ k → number (take k s) at n ≡ number s at n
unfolding number
number_take zero k s at h = refl
number_take (suc n) k s at h =
    let h₁ : at < k = omega (arith, add-suc at n) in
    let h₂ : at + 1 + n ≤ k = omega (arith, add-suc at n) in
    rw (get_or-take k s at 0 h₁, number_take n k s (at + 1) h₂)

-- A number behind the first k bytes is the number at the offset less k of what is left.
pub number_drop : (n k : ℕ) (s : List ℕ) (at : ℕ) → number (drop k s) at n ≡ number s (k + at) n
unfolding number
number_drop zero k s at = refl
number_drop (suc n) k s at = rw (get_or-drop k s at 0, number_drop n k s (at + 1)) (simp add_assoc)
