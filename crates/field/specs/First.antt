-- The first refusal that applies. A question that may be refused for several reasons has a list of them, a test and its
-- refusal each, with ascending numbers: the answer is the refusal of the first test that holds, whose number is then the
-- smallest of those that apply.
use Rattle.std.specs.Prelude.{◌≡◌, ℕ, ◌≤◌, Bool, true, false, not, List, [], ◌∷◌, ◌==◌, nat_lt, Result, Ok, Err}

-- The tests of a refusal. They say what `nat_lt` and `==` say, and stay shut, so that laws can be found by their shape.
unfoldable pub less : ℕ → ℕ → Bool
less a b = nat_lt a b

unfoldable pub differ : ℕ → ℕ → Bool
differ a b = not (a == b)

-- x where the test holds, else the rest
unfoldable pub when : {A : Type 0} → Bool → A → A → A
when true x rest = x
when false x rest = rest

infix 20 ◌gives◌
-- a reason to refuse: where the test holds, the refusal applies
pub data Reason (R : Type 0) : Type 0 where
  ◌gives◌ : Bool → R → Reason R

-- the refusal of the first reason that holds; nothing is refused where none does
unfoldable pub checked : {R : Type 0} → List (Reason R) → Result (Unit {0}) R
checked [] = Ok tt
checked ((test gives r) ∷ rest) = when test (Err r) (checked rest)

-- the number of each refusal of the list is at least m, and they ascend
pub data Ascending {R : Type 0} (number : R → ℕ) : ℕ → List (Reason R) → Type 0 where
  no_more : {m : ℕ} → Ascending number m []
  then : {m : ℕ} {r : R} {test : Bool} {rest : List (Reason R)} → m ≤ number r → Ascending number (number r) rest
      → Ascending number m ((test gives r) ∷ rest)

-- the refusal r applies: a reason of the list that gives it holds
pub data Applies {R : Type 0} (r : R) : List (Reason R) → Type 0 where
  here : {test : Bool} {rest : List (Reason R)} → test ≡ true → Applies r ((test gives r) ∷ rest)
  later : {reason : Reason R} {rest : List (Reason R)} → Applies r rest → Applies r (reason ∷ rest)

-- something is refused, with a number of at most n
pub record RefusedBy {R : Type 0} (number : R → ℕ) (n : ℕ) (answer : Result (Unit {0}) R) : Type 0 where
  pub refusal : R
  pub given : answer ≡ Err refusal
  pub most : number refusal ≤ n

-- In a list that ascends, where a refusal applies the first that does is answered, and its number is the smallest that applies.
abbrev pub FirstIsSmallest : Type 1
FirstIsSmallest =
    (R : Type 0) (number : R → ℕ) (m : ℕ) (r : R) (reasons : List (Reason R)) → Ascending number m reasons → Applies r reasons
    → RefusedBy number (number r) (checked reasons)
