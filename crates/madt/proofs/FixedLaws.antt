-- Laws about the fixed part.
use Rattle.std.proofs.Common.{ℕ, ◌≤◌, ◌≡◌, refl, List, Bool, true, false, ◌||◌, length}
use Rattle.std.specs.Prelude.{Ok, Err}
use Rattle.refusal.specs.declared.Refusal.TheVariants.{TooShort}
use Rattle.field.specs.First.{when, less}
use Rattle.field.proofs.FirstLaws.{less_false, when_hit}
use Rattle.madt.specs.Fixed.{not_madt, madt_checked}

-- A slice that the check lets pass is a MADT, and has the fixed part.
pub is_madt : (s : List ℕ) → madt_checked s ≡ Ok tt → not_madt s ≡ false
unfolding madt_checked when
is_madt s h = go (not_madt s) refl
  where
    go : (t : Bool) → not_madt s ≡ t → not_madt s ≡ false
    go true e = absurd (cc (when_hit _ (Err TooShort) (Ok (tt {0})) e))
    go false e = e

pub has_fixed_part : (s : List ℕ) → madt_checked s ≡ Ok tt → 44 ≤ length s
unfolding not_madt
has_fixed_part s h = less_false _ _ (first (less (length s) 44) _ (is_madt s h))
  where
    first : (a b : Bool) → a || b ≡ false → a ≡ false
    first true b e = e
    first false b e = refl
