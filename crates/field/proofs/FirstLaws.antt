-- Laws about tests and the first refusal that applies.
use Rattle.std.proofs.Common.{◌≡◌, ℕ, ◌<◌, ◌≤◌, Bool, true, false, not, ◌&&◌, T, eqb, leb, List, [], ◌∷◌, ◌++◌, sym, refl, ap, ◌∙◌, subst, le_trans, le_refl, ltb-false, ltb-true, le-ltb, lt-ltb, eq-eqb, ne_eqb, eqb-true, leb-true}
use borrow.Author.Tests.{not-false}
use Rattle.std.specs.Prelude.{Result, Ok, Err}
use Rattle.field.specs.First.{less, differ, when, Reason, ◌gives◌, checked, Ascending, Applies, RefusedBy, FirstIsSmallest}
use Rattle.field.specs.First.Ascending.{no_more, then}
use Rattle.field.specs.First.Applies.{here, later}

-- What the tests say, in both directions.
pub less_yes : (a b : ℕ) → a < b → less a b ≡ true
unfolding less
less_yes a b h = lt-ltb a b h

pub less_no : (a b : ℕ) → b ≤ a → less a b ≡ false
unfolding less
less_no a b h = le-ltb a b h

pub less_true : (a b : ℕ) → less a b ≡ true → a < b
unfolding less
less_true a b e = ltb-true a b e

pub less_false : (a b : ℕ) → less a b ≡ false → b ≤ a
unfolding less
less_false a b e = ltb-false a b e

pub differ_yes : (a b : ℕ) → (a ≡ b → ⊥) → differ a b ≡ true
unfolding differ
differ_yes a b h = ap not (ne_eqb a b h)

pub differ_no : (a b : ℕ) → a ≡ b → differ a b ≡ false
unfolding differ
differ_no a b h = ap not (eq-eqb a b h)

pub differ_false : (a b : ℕ) → differ a b ≡ false → a ≡ b
unfolding differ
differ_false a b e = eqb-true a b (not-false (eqb a b) e)

-- A test that holds takes its value, one that fails goes on to the rest.
pub when_hit : {A : Type 0} (t : Bool) (x rest : A) → t ≡ true → when t x rest ≡ x
unfolding when
when_hit t x rest e = rw e

pub when_pass : {A : Type 0} (t : Bool) (x rest : A) → t ≡ false → when t x rest ≡ rest
unfolding when
when_pass t x rest e = rw e

-- What a choice gives it gives by its first case or by the rest.
pub when_cases : {A C : Type 0} (t : Bool) (x rest : A) {y : A} → when t x rest ≡ y → (t ≡ true → x ≡ y → C) → (t ≡ false → rest ≡ y → C) → C
unfolding when
when_cases true x rest e first others = first refl e
when_cases false x rest e first others = others refl e

-- The same for the first refusal that applies: the first reason holds, or it does not and the rest decides.
pub hit : {R : Type 0} (t : Bool) (r : R) (rest : List (Reason R)) → t ≡ true → checked ((t gives r) ∷ rest) ≡ Err r
unfolding checked
hit t r rest e = when_hit t (Err r) (checked rest) e

pub pass : {R : Type 0} (t : Bool) (r : R) (rest : List (Reason R)) {x : Result (Unit {0}) R} → t ≡ false → checked rest ≡ x
    → checked ((t gives r) ∷ rest) ≡ x
unfolding checked
pass t r rest e q = when_pass t (Err r) (checked rest) e ∙ q

pub clear : {R : Type 0} → checked {R = R} [] ≡ Ok tt
unfolding checked
clear = refl

-- Where nothing is refused, the first reason does not hold and none of the rest does.
pub record Clear {R : Type 0} (t : Bool) (rest : List (Reason R)) : Type 0 where
  pub fails : t ≡ false
  pub others : checked rest ≡ Ok tt

-- A refusal is no value.
refuses : {T E : Type 0} → Result T E → Bool
refuses (Ok x) = false
refuses (Err e) = true

pub err_not_ok : {T E X : Type 0} (x : T) (e : E) → ◌≡◌ {A = Result T E} (Err e) (Ok x) → X
unfolding refuses
err_not_ok x e q = absurd (subst T (ap refuses q) tt)

pub all_clear : {R : Type 0} (t : Bool) (r : R) (rest : List (Reason R)) → checked ((t gives r) ∷ rest) ≡ Ok tt → Clear t rest
unfolding checked when
all_clear true r rest e = err_not_ok tt r e
all_clear false r rest e = record { fails = refl; others = e }

-- Of two lists in a row the first decides where one of its reasons holds, else the second.
pub append_stops : {R : Type 0} (first rest : List (Reason R)) (r : R) → checked first ≡ Err r → checked (first ++ rest) ≡ Err r
unfolding checked when
append_stops [] rest r e = err_not_ok tt r (sym e)
append_stops ((true gives q) ∷ first) rest r e = e
append_stops ((false gives q) ∷ first) rest r e = append_stops first rest r e

pub append_passes : {R : Type 0} (first rest : List (Reason R)) → checked first ≡ Ok tt → checked (first ++ rest) ≡ checked rest
unfolding checked when
append_passes [] rest e = refl
append_passes ((true gives q) ∷ first) rest e = err_not_ok tt q e
append_passes ((false gives q) ∷ first) rest e = append_passes first rest e

-- In an ascending list every refusal that applies has at least the number that bounds the list.
at_least : {R : Type 0} {number : R → ℕ} {m : ℕ} {reasons : List (Reason R)} → Ascending number m reasons → {r : R} → Applies r reasons → m ≤ number r
at_least (no_more {m = m}) {r = r} a = elim a [ ]
at_least (then le rest) (here e) = le
at_least (then le rest) (later a) = le_trans le (at_least rest a)

-- The first reason of an ascending list holds, and its number is the smallest; or the rest decides.
smallest : {R : Type 0} {number : R → ℕ} {m : ℕ} {reasons : List (Reason R)} → Ascending number m reasons → {r : R} → Applies r reasons
    → RefusedBy number (number r) (checked reasons)
unfolding checked when
smallest (no_more {m = m}) {r = r} a = elim a [ ]
smallest {number = number} (then {r = q} {test = true} le rest) (here e) = record { refusal = q; given = refl; most = le_refl (number q) }
smallest (then {test = false} le rest) (here e) = absurd (subst T (sym e) tt)
smallest (then {r = q} {test = true} le rest) (later a) = record { refusal = q; given = refl; most = at_least rest a }
smallest (then {test = false} le rest) (later a) = smallest rest a

pub first_is_smallest : FirstIsSmallest
first_is_smallest R number m r reasons ascending applies = smallest ascending applies

-- whether each number of the list is at least the bound and the one before it
unfoldable pub ascends : {R : Type 0} → (R → ℕ) → ℕ → List (Reason R) → Bool
ascends number m [] = true
ascends number m ((test gives r) ∷ rest) = leb m (number r) && ascends number (number r) rest

-- A list of which that is computed ascends.
pub ascending : {R : Type 0} (number : R → ℕ) (m : ℕ) (reasons : List (Reason R)) → T (ascends number m reasons) → Ascending number m reasons
unfolding ascends
ascending number m [] t = no_more
ascending number m ((test gives r) ∷ rest) t = go (leb m (number r)) refl t (ascending number (number r) rest)
  where
    go : (b : Bool) → leb m (number r) ≡ b → T (b && ascends number (number r) rest)
        → (T (ascends number (number r) rest) → Ascending number (number r) rest) → Ascending number m ((test gives r) ∷ rest)
    go true e t more = then (leb-true m (number r) e) (more t)
    go false e t more = absurd t
