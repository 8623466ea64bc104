-- The n-th valid element of a list of addresses, counted from 0. A check says of each address whether it is refused, and why.
use Rattle.std.specs.Prelude.{◌≡◌, ℕ, zero, suc, ◌≤◌, List, [], ◌∷◌, ◌++◌, Option, Some, None, Result, Ok}
use Rattle.std.specs.Result.{is_ok}
use Rattle.field.specs.First.{when}

unfoldable pub nth_valid : {R : Type 0} → (ℕ → Result (Unit {0}) R) → ℕ → List ℕ → Option ℕ
nth_valid check n [] = None
nth_valid check n (p ∷ ps) =
    when (is_ok (check p)) (elim n [ zero ↦ Some p | suc m ↦ nth_valid check m ps ]) (nth_valid check n ps)

-- the elements that are looked at until the n-th valid one is found, that one included; all where there is none
unfoldable pub looked_at : {R : Type 0} → (ℕ → Result (Unit {0}) R) → ℕ → List ℕ → List ℕ
looked_at check n [] = []
looked_at check n (p ∷ ps) =
    p ∷ when (is_ok (check p)) (elim n [ zero ↦ [] | suc m ↦ looked_at check m ps ]) (looked_at check n ps)

-- how many elements are valid
unfoldable pub count_valid : {R : Type 0} → (ℕ → Result (Unit {0}) R) → List ℕ → ℕ
count_valid check [] = 0
count_valid check (p ∷ ps) = when (is_ok (check p)) (suc (count_valid check ps)) (count_valid check ps)

-- p stands in the list, is valid, and n valid ones stand before it
pub record Nth {R : Type 0} (check : ℕ → Result (Unit {0}) R) (n : ℕ) (ps : List ℕ) (p : ℕ) : Type 0 where
  pub before : List ℕ
  pub after : List ℕ
  pub listed : ps ≡ before ++ p ∷ after
  pub valid : check p ≡ Ok tt
  pub counted : count_valid check before ≡ n

-- What is chosen is the n-th valid one, and nothing is chosen only where there are not more than n.
abbrev pub ChosenIsNth : Type 1
ChosenIsNth =
    (R : Type 0) (check : ℕ → Result (Unit {0}) R) (n : ℕ) (ps : List ℕ) (p : ℕ) → nth_valid check n ps ≡ Some p → Nth check n ps p

abbrev pub NothingMeansFew : Type 1
NothingMeansFew =
    (R : Type 0) (check : ℕ → Result (Unit {0}) R) (n : ℕ) (ps : List ℕ) → nth_valid check n ps ≡ None → count_valid check ps ≤ n

-- Every element has the property. The statement below is over this form, whose cases a reader matches on.
pub data All {A : Type 0} (P : A → Type 0) : List A → Type 0 where
  none : All P []
  with : {p : A} {ps : List A} → P p → All P ps → All P (p ∷ ps)

-- The choice depends on what is said of the elements looked at, and of no other.
abbrev pub OnlyLookedAt : Type 1
OnlyLookedAt =
    (R : Type 0) (check check' : ℕ → Result (Unit {0}) R) (n : ℕ) (ps : List ℕ)
    → All (λ p. check p ≡ check' p) (looked_at check n ps)
    → nth_valid check n ps ≡ nth_valid check' n ps
