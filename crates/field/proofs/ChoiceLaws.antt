-- Laws about the n-th valid element of a list.
use Rattle.std.proofs.Common.{◌≡◌, ℕ, zero, suc, ◌≤◌, Bool, true, false, List, [], ◌∷◌, ◌++◌, sym, refl, ap, ◌∙◌, subst, arith, T}
use Rattle.std.specs.Prelude.{Option, Some, None, Result, Ok, Err}
use Rattle.std.specs.Result.{is_ok}
use Rattle.field.specs.First.{when}
use Rattle.field.specs.Choice.{nth_valid, looked_at, count_valid, Nth, ChosenIsNth, NothingMeansFew, All, OnlyLookedAt}
use Rattle.field.specs.Choice.All.{none, with}
use Rattle.field.proofs.FirstLaws.{when_hit, when_pass}

-- What a check answered, as a test of it, and back.
pub ok_yes : {R : Type 0} (r : Result (Unit {0}) R) → r ≡ Ok tt → is_ok r ≡ true
ok_yes r e = ap is_ok e

pub ok_no : {R : Type 0} {e : R} (r : Result (Unit {0}) R) → r ≡ Err e → is_ok r ≡ false
ok_no r q = ap is_ok q

pub is_ok_true : {R : Type 0} (r : Result (Unit {0}) R) → is_ok r ≡ true → r ≡ Ok tt
is_ok_true (Ok u) e = refl
is_ok_true (Err d) e = absurd (subst T (sym e) tt)

some_not_none : {X : Type 0} (p : ℕ) → ◌≡◌ {A = Option ℕ} (Some p) None → X
some_not_none p q = absurd (subst T (ap (λ (o : Option ℕ). elim o [ None ↦ false | Some k ↦ true ]) q) tt)

some_same : (p q : ℕ) → ◌≡◌ {A = Option ℕ} (Some p) (Some q) → p ≡ q
some_same p q e = ap (λ (o : Option ℕ). elim o [ None ↦ 0 | Some k ↦ k ]) e

module _ {R : Type 0} (check : ℕ → Result (Unit {0}) R) where
  -- A refused element is passed over; a valid one is the one.
  pub choice_refused : (n p : ℕ) (ps : List ℕ) → is_ok (check p) ≡ false → nth_valid check n (p ∷ ps) ≡ nth_valid check n ps
  unfolding nth_valid
  choice_refused n p ps e = when_pass _ _ _ e

  pub choice_here : (p : ℕ) (ps : List ℕ) → check p ≡ Ok tt → nth_valid check 0 (p ∷ ps) ≡ Some p
  unfolding nth_valid
  choice_here p ps e = when_hit _ _ _ (ok_yes (check p) e)

  pub choice_none : (n : ℕ) → nth_valid check n [] ≡ None
  unfolding nth_valid
  choice_none n = refl

  -- Of two lists in a row the first decides where it has a first valid one, else the second.
  pub append_found : (ps qs : List ℕ) (p : ℕ) → nth_valid check 0 ps ≡ Some p → nth_valid check 0 (ps ++ qs) ≡ Some p
  unfolding nth_valid
  append_found [] qs p e = some_not_none p (sym e)
  append_found (q ∷ ps) qs p e = go (is_ok (check q)) refl (append_found ps qs p)
    where
      go : (t : Bool) → is_ok (check q) ≡ t → (nth_valid check 0 ps ≡ Some p → nth_valid check 0 (ps ++ qs) ≡ Some p)
          → nth_valid check 0 (q ∷ (ps ++ qs)) ≡ Some p
      go false t later = when_pass _ _ _ t ∙ later (sym (when_pass _ (Some q) (nth_valid check 0 ps) t) ∙ e)
      go true t later = when_hit _ _ _ t ∙ sym (when_hit _ (Some q) (nth_valid check 0 ps) t) ∙ e

  pub append_none : (ps qs : List ℕ) → nth_valid check 0 ps ≡ None → nth_valid check 0 (ps ++ qs) ≡ nth_valid check 0 qs
  unfolding nth_valid
  append_none [] qs e = refl
  append_none (q ∷ ps) qs e = go (is_ok (check q)) refl (append_none ps qs)
    where
      go : (t : Bool) → is_ok (check q) ≡ t → (nth_valid check 0 ps ≡ None → nth_valid check 0 (ps ++ qs) ≡ nth_valid check 0 qs)
          → nth_valid check 0 (q ∷ (ps ++ qs)) ≡ nth_valid check 0 qs
      go false t later = when_pass _ _ _ t ∙ later (sym (when_pass _ (Some q) (nth_valid check 0 ps) t) ∙ e)
      go true t later = some_not_none q (sym (when_hit (is_ok (check q)) (Some q) (nth_valid check 0 ps) t) ∙ e)

  -- How many are valid changes in the same way.
  count_refused : (p : ℕ) (ps : List ℕ) → is_ok (check p) ≡ false → count_valid check (p ∷ ps) ≡ count_valid check ps
  unfolding count_valid
  count_refused p ps e = when_pass _ _ _ e

  count_valid_lem : (p : ℕ) (ps : List ℕ) → is_ok (check p) ≡ true → count_valid check (p ∷ ps) ≡ suc (count_valid check ps)
  unfolding count_valid
  count_valid_lem p ps e = when_hit _ _ _ e

  -- One element more in front of an n-th one, refused or counted.
  nth_refused : (n q : ℕ) (ps : List ℕ) (p : ℕ) → is_ok (check q) ≡ false → Nth check n ps p → Nth check n (q ∷ ps) p
  nth_refused n q ps p e f =
      record {
        before = q ∷ f.before;
        after = f.after;
        listed = ap (λ (l : List ℕ). q ∷ l) f.listed;
        valid = f.valid;
        counted = count_refused q f.before e ∙ f.counted;
      }

  nth_counted : (n q : ℕ) (ps : List ℕ) (p : ℕ) → is_ok (check q) ≡ true → Nth check n ps p → Nth check (suc n) (q ∷ ps) p
  nth_counted n q ps p e f =
      record {
        before = q ∷ f.before;
        after = f.after;
        listed = ap (λ (l : List ℕ). q ∷ l) f.listed;
        valid = f.valid;
        counted = count_valid_lem q f.before e ∙ ap suc f.counted;
      }

  chosen_nth : (n : ℕ) (ps : List ℕ) (p : ℕ) → nth_valid check n ps ≡ Some p → Nth check n ps p
  unfolding nth_valid count_valid
  chosen_nth n [] p e = some_not_none p (sym e)
  chosen_nth n (q ∷ ps) p e = go (is_ok (check q)) refl n e (λ m. chosen_nth m ps p)
    where
      go : (t : Bool) → is_ok (check q) ≡ t → (n : ℕ) → nth_valid check n (q ∷ ps) ≡ Some p
          → ((m : ℕ) → nth_valid check m ps ≡ Some p → Nth check m ps p) → Nth check n (q ∷ ps) p
      go false t n e later = nth_refused n q ps p t (later n (sym (when_pass _ _ _ t) ∙ e))
      go true t zero e later =
          let same : q ≡ p = some_same q p (sym (when_hit (is_ok (check q)) (Some q) (nth_valid check 0 ps) t) ∙ e) in
          record {
            before = [];
            after = ps;
            listed = ap (λ (k : ℕ). k ∷ ps) same;
            valid = ap check (sym same) ∙ is_ok_true _ t;
            counted = refl;
          }
      go true t (suc m) e later = nth_counted m q ps p t (later m (sym (when_hit _ _ (nth_valid check (suc m) ps) t) ∙ e))

  few : (n : ℕ) (ps : List ℕ) → nth_valid check n ps ≡ None → count_valid check ps ≤ n
  unfolding nth_valid count_valid
  few n [] e = omega arith
  few n (q ∷ ps) e = go (is_ok (check q)) refl n e (λ m. few m ps)
    where
      go : (t : Bool) → is_ok (check q) ≡ t → (n : ℕ) → nth_valid check n (q ∷ ps) ≡ None
          → ((m : ℕ) → nth_valid check m ps ≡ None → count_valid check ps ≤ m) → count_valid check (q ∷ ps) ≤ n
      go false t n e later = omega (arith, count_refused q ps t, later n (sym (when_pass _ _ _ t) ∙ e))
      go true t zero e later = some_not_none q (sym (when_hit (is_ok (check q)) (Some q) (nth_valid check 0 ps) t) ∙ e)
      go true t (suc m) e later = omega (arith, count_valid_lem q ps t, later m (sym (when_hit _ _ (nth_valid check (suc m) ps) t) ∙ e))

  same_choice : (check' : ℕ → Result (Unit {0}) R) (n : ℕ) (ps : List ℕ) → All (λ p. check p ≡ check' p) (looked_at check n ps)
      → nth_valid check n ps ≡ nth_valid check' n ps
  unfolding nth_valid looked_at
  same_choice check' n [] a = refl
  same_choice check' n (q ∷ ps) (with same rest) = go (is_ok (check q)) refl n rest (λ m. same_choice check' m ps)
    where
      go : (t : Bool) → is_ok (check q) ≡ t → (n : ℕ)
          → All (λ p. check p ≡ check' p) (when (is_ok (check q)) (elim n [ zero ↦ [] | suc m ↦ looked_at check m ps ]) (looked_at check n ps))
          → ((m : ℕ) → All (λ p. check p ≡ check' p) (looked_at check m ps) → nth_valid check m ps ≡ nth_valid check' m ps)
          → nth_valid check n (q ∷ ps) ≡ nth_valid check' n (q ∷ ps)
      go false e n a later =
          when_pass _ _ _ e
          ∙ later n (subst (All (λ p. check p ≡ check' p)) (when_pass _ _ _ e) a)
          ∙ sym (when_pass _ _ _ (ap is_ok (sym same) ∙ e))
      go true e zero a later = when_hit _ _ _ e ∙ sym (when_hit _ _ _ (ap is_ok (sym same) ∙ e))
      go true e (suc m) a later =
          when_hit _ _ _ e
          ∙ later m (subst (All (λ p. check p ≡ check' p)) (when_hit _ _ _ e) a)
          ∙ sym (when_hit _ _ _ (ap is_ok (sym same) ∙ e))

  -- The chosen element is among those looked at, so it has what they all have.
  pub all_chosen : (P : ℕ → Type 0) (n : ℕ) (ps : List ℕ) (p : ℕ) → nth_valid check n ps ≡ Some p → All P (looked_at check n ps) → P p
  unfolding nth_valid looked_at
  all_chosen P n [] p e a = some_not_none p (sym e)
  all_chosen P n (q ∷ ps) p e (with here rest) = go (is_ok (check q)) refl n e rest (λ m. all_chosen P m ps p)
    where
      go : (t : Bool) → is_ok (check q) ≡ t → (n : ℕ) → nth_valid check n (q ∷ ps) ≡ Some p
          → All P (when (is_ok (check q)) (elim n [ zero ↦ [] | suc m ↦ looked_at check m ps ]) (looked_at check n ps))
          → ((m : ℕ) → nth_valid check m ps ≡ Some p → All P (looked_at check m ps) → P p) → P p
      go false t n e a later = later n (sym (when_pass _ _ _ t) ∙ e) (subst (All P) (when_pass _ _ _ t) a)
      go true t zero e a later = subst P (some_same q p (sym (when_hit (is_ok (check q)) (Some q) (nth_valid check 0 ps) t) ∙ e)) here
      go true t (suc m) e a later =
          later m (sym (when_hit _ _ (nth_valid check (suc m) ps) t) ∙ e) (subst (All P) (when_hit _ (looked_at check m ps) _ t) a)

pub chosen_is_nth : ChosenIsNth
chosen_is_nth R check n ps p e = chosen_nth check n ps p e

pub nothing_means_few : NothingMeansFew
nothing_means_few R check n ps e = few check n ps e

pub only_looked_at : OnlyLookedAt
only_looked_at R check check' n ps a = same_choice check check' n ps a

-- All elements of two lists in a row have a property if those of each have.
pub all_left : {A : Type 0} {P : A → Type 0} (ps qs : List A) → All P (ps ++ qs) → All P ps
all_left [] qs a = none
all_left (p ∷ ps) qs (with h a) = with h (all_left ps qs a)

pub all_right : {A : Type 0} {P : A → Type 0} (ps qs : List A) → All P (ps ++ qs) → All P qs
all_right [] qs a = a
all_right (p ∷ ps) qs (with h a) = all_right ps qs a

-- A property that follows from another holds of all elements too.
pub all_map : {A : Type 0} {P Q : A → Type 0} {ps : List A} → ((p : A) → P p → Q p) → All P ps → All Q ps
all_map f none = none
all_map f (with {p = p} h a) = with (f p h) (all_map f a)
