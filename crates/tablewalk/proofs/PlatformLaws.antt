-- Laws about the words of the platform.
use Rattle.std.proofs.Common.{ℕ, ◌≡◌, refl, List, [], ◌∷◌, get_or}
use Rattle.std.specs.Prelude.{Option, Some, None}
use Rattle.tablewalk.specs.Platform.{timer_values}
use Rattle.tablewalk.specs.declared.platform_info.PmTimer.{PmTimer}

-- The words of a timer are seven, so they are themselves one by one.
pub seven_words : (timer : Option PmTimer) (ws : List ℕ) → ws ≡ timer_values timer
    → get_or ws 0 0 ∷ get_or ws 1 0 ∷ get_or ws 2 0 ∷ get_or ws 3 0 ∷ get_or ws 4 0 ∷ get_or ws 5 0 ∷ get_or ws 6 0 ∷ [] ≡ timer_values timer
seven_words (Some t) ws e = rw e refl
seven_words None ws e = rw e refl
