-- Laws about the search: the walk over an area, and the two areas in a row.
use Rattle.std.proofs.Common.{ℕ, zero, suc, ◌+◌, ◌-◌, ◌*◌, ◌≤◌, ◌<◌, ◌≡◌, refl, ap, ap₂, sym, ◌∙◌, List, [], ◌∷◌, ◌++◌, true, false, not, ◌&&◌, Bool, ◌⊎◌, ⊎_elim, length, drop, sub-one, subst, T, max, arith}
use Rattle.std.specs.Prelude.{Option, Some, None, Result, Ok, Err}
use Rattle.std.specs.Result.{is_ok}
use Rattle.std.specs.Option.{is_some, ok_or}
use native.Mathlib.Decide.{ℕ_discrete}
use Rattle.std.proofs.lemmas.Bool.{and_right}
use Rattle.field.specs.First.{less, when}
use Rattle.field.specs.Choice.{nth_valid}
use Rattle.refusal.specs.declared.Refusal.{Refusal}
use Rattle.refusal.specs.declared.Refusal.TheVariants.{PointerNotFound}
use Rattle.field.proofs.FirstLaws.{less_yes, less_no, when_hit, when_pass, err_not_ok}
use Rattle.field.proofs.ChoiceLaws.{choice_here, choice_refused, choice_none, append_found, append_none, ok_no}
use Rattle.memory.specs.Ranges.{right, ranges_of}
use Rattle.memory.specs.Places.{view_of, place_of}
use Rattle.memory.proofs.PlaceLaws.{view_rest, view_none}
use Rattle.rsdp.specs.Pointer.{pointer_checked}
use Rattle.rsdp.specs.Search.{every_sixteen, candidates, segment_of, second_area, searched, checked_at, checked_in, search_of}
use Rattle.rsdp.proofs.PointerLaws.{pointer_short}

-- The walk over an area: one more place, and the end.
every_step : (n p : ℕ) → 0 < n → every_sixteen n p ≡ p ∷ every_sixteen (n - 1) (p + 16)
unfolding every_sixteen
every_step zero p h = absurd (omega arith)
every_step (suc n) p h = rw sub-one

pub area_here : (check : ℕ → Result (Unit {0}) Refusal) (n p : ℕ) → 0 < n → check p ≡ Ok tt → nth_valid check 0 (every_sixteen n p) ≡ Some p
area_here check n p h e = rw (every_step n p h) (choice_here check p (every_sixteen (n - 1) (p + 16)) e)

pub area_later : (check : ℕ → Result (Unit {0}) Refusal) (n p : ℕ) → 0 < n → is_ok (check p) ≡ false
    → nth_valid check 0 (every_sixteen n p) ≡ nth_valid check 0 (every_sixteen (n - 1) (p + 16))
area_later check n p h r = rw (every_step n p h) (choice_refused check 0 p (every_sixteen (n - 1) (p + 16)) r)

pub area_end : (check : ℕ → Result (Unit {0}) Refusal) (n p : ℕ) → n ≤ 0 → nth_valid check 0 (every_sixteen n p) ≡ None
unfolding every_sixteen
area_end check zero p h = choice_none check 0
area_end check (suc n) p h = absurd (omega arith)

-- The places of an area are the first m of them and those behind.
pub area_split : (m n p : ℕ) → m ≤ n → every_sixteen n p ≡ every_sixteen m p ++ every_sixteen (n - m) (p + 16 * m)
unfolding every_sixteen
area_split zero n p h =
    let here : p ≡ p + 16 * 0 = omega arith in
    let all : n ≡ n - 0 = omega arith in
    ap₂ every_sixteen all here
area_split (suc m) zero p h = absurd (omega arith)
area_split (suc m) (suc n) p h =
    let behind : p + 16 + 16 * m ≡ p + 16 * suc m = omega arith in
    let left : n - m ≡ suc n - suc m = omega arith in
    ap (λ (l : List ℕ). p ∷ l)
    (area_split m n (p + 16) (omega arith) ∙ ap₂ (λ (k q : ℕ). every_sixteen m (p + 16) ++ every_sixteen k q) left behind)

-- Where the check of each place of an area is the same, the same one is found.
pub area_same : (f g : ℕ → Result (Unit {0}) Refusal) (n p : ℕ) → ((k : ℕ) → k < n → f (p + 16 * k) ≡ g (p + 16 * k))
    → nth_valid f 0 (every_sixteen n p) ≡ nth_valid g 0 (every_sixteen n p)
unfolding every_sixteen nth_valid
area_same f g zero p same = refl
area_same f g (suc n) p same =
    let here : p ≡ p + 16 * 0 = omega arith in
    let first : f p ≡ g p = ap f here ∙ same 0 (omega arith) ∙ ap g (sym here) in
    ap₂ (λ (r : Result (Unit {0}) Refusal) c. when (is_ok r) (Some p) c) first (area_same f g n (p + 16) later)
  where
    later : (k : ℕ) → k < n → f (p + 16 + 16 * k) ≡ g (p + 16 + 16 * k)
    later k h =
        let e : p + 16 + 16 * k ≡ p + 16 * suc k = omega arith in
        ap f e ∙ same (suc k) (omega arith) ∙ ap g (sym e)

-- The check of the root pointer at an address of a view is that of the rest of the view from there on.
pub checked_into : (v : List ℕ) (start d : ℕ) → checked_in v start (start + d) ≡ pointer_checked (drop d v)
unfolding checked_in
checked_into v start d =
    let into : start + d - start ≡ d = omega arith in
    ap (λ (n : ℕ). pointer_checked (drop n v)) into

-- Where fewer than 20 bytes can be read no root pointer stands, and the places behind decide.
pub view_short : (image words v : List ℕ) (n p : ℕ) → v ≡ view_of image words p → length v < 20 → 0 < n
    → nth_valid (checked_at image words) 0 (every_sixteen n p) ≡ nth_valid (checked_at image words) 0 (every_sixteen (n - 1) (p + 16))
unfolding checked_at
view_short image words v n p view h k =
    area_later (checked_at image words) n p k (ok_no _ (ap pointer_checked (sym view) ∙ pointer_short v h))

-- Where no range holds the first k places no root pointer stands at them, and those behind decide.
pub unmapped_behind : (image words : List ℕ) (k left p : ℕ) → k ≤ left
    → ((i : ℕ) → i < k → place_of (ranges_of words) (p + 16 * i) ≡ None)
    → nth_valid (checked_at image words) 0 (every_sixteen left p)
    ≡ nth_valid (checked_at image words) 0 (every_sixteen (left - k) (p + 16 * k))
unmapped_behind image words zero left p h none =
    let all : left ≡ left - 0 = omega arith in
    let here : p ≡ p + 16 * 0 = omega arith in
    ap₂ (λ (n q : ℕ). nth_valid (checked_at image words) 0 (every_sixteen n q)) all here
unmapped_behind image words (suc k) left p h none =
    let here : p + 16 * 0 ≡ p = omega arith in
    let first = view_none image words p (ap (λ (q : ℕ). place_of (ranges_of words) q) (sym here) ∙ none 0 (omega arith)) in
    let later : (i : ℕ) → i < k → place_of (ranges_of words) (p + 16 + 16 * i) ≡ None =
    λ i b. (let on : p + 16 + 16 * i ≡ p + 16 * suc i = omega arith in ap (λ (q : ℕ). place_of (ranges_of words) q) on ∙ none (suc i) (omega arith)) in
    let places : left - 1 - k ≡ left - suc k = omega arith in
    let start : p + 16 + 16 * k ≡ p + 16 * suc k = omega arith in
    view_short image words [] left p (sym first) (omega arith) (omega arith)
    ∙ unmapped_behind image words k (left - 1) (p + 16) (omega arith) later
    ∙ ap₂ (λ (n q : ℕ). nth_valid (checked_at image words) 0 (every_sixteen n q)) places start

-- The first n places from p on lie in the view from p.
module _ (image words v : List ℕ) (p n : ℕ) (e : right (length image) words ≡ true) (view : v ≡ view_of image words p)
    (inside : 16 * n ≤ length v) where
  -- The view from each of them is the rest of the view from p, so this view says what is found at them.
  view_same : nth_valid (checked_in v p) 0 (every_sixteen n p) ≡ nth_valid (checked_at image words) 0 (every_sixteen n p)
  unfolding checked_at
  view_same =
      area_same _ _ n p (λ k h.
      checked_into v p (16 * k)
      ∙ ap pointer_checked (ap (drop (16 * k)) view ∙ sym (view_rest image words p (16 * k) e (omega (arith, ap length view)))))

  -- Of more places these decide, or else those behind them.
  module _ (left : ℕ) (more : n ≤ left) where
    pub view_found : (found : Option ℕ) → found ≡ nth_valid (checked_in v p) 0 (every_sixteen n p) → is_some found ≡ true
        → found ≡ nth_valid (checked_at image words) 0 (every_sixteen left p)
    view_found None f e = absurd (subst T (sym e) tt)
    view_found (Some q) f e =
        sym
        (ap (nth_valid (checked_at image words) 0) (area_split n left p more)
        ∙ append_found (checked_at image words) (every_sixteen n p) _ q (sym view_same ∙ sym f))

    view_passed : (found : Option ℕ) → found ≡ nth_valid (checked_in v p) 0 (every_sixteen n p) → is_some found ≡ false
        → nth_valid (checked_at image words) 0 (every_sixteen left p) ≡ nth_valid (checked_at image words) 0 (every_sixteen (left - n) (p + 16 * n))
    view_passed None f e =
        ap (nth_valid (checked_at image words) 0) (area_split n left p more)
        ∙ append_none (checked_at image words) (every_sixteen n p) _ (sym view_same ∙ sym f)
    view_passed (Some q) f e = absurd (subst T e tt)

    -- Where not even one place lies in the view, no root pointer stands at the first, and those behind it decide.
    pub view_behind : (found : Option ℕ) (passed : ℕ) → found ≡ nth_valid (checked_in v p) 0 (every_sixteen n p) → is_some found ≡ false
        → 0 < left → (n ≡ 0 → length v < 20) → passed ≡ max n 1
        → nth_valid (checked_at image words) 0 (every_sixteen left p)
        ≡ nth_valid (checked_at image words) 0 (every_sixteen (left - passed) (p + 16 * passed))
    view_behind found passed f e some short steps =
        elim (ℕ_discrete n 0) [
          | yes z ↦
              let one : passed ≡ 1 = omega arith in
              view_short image words v left p view (short z) some
              ∙ ap (λ (k : ℕ). nth_valid (checked_at image words) 0 (every_sixteen (left - k) (p + 16 * k))) (sym one)
          | no h ↦
              let all : passed ≡ n = omega arith in
              view_passed found f e
              ∙ ap (λ (k : ℕ). nth_valid (checked_at image words) 0 (every_sixteen (left - k) (p + 16 * k))) (sym all)
        ]

-- What a search answered says what was chosen.
pub found_at : (chosen : Option ℕ) (p : ℕ) → ok_or chosen PointerNotFound ≡ Ok p → chosen ≡ Some p
found_at None p e = err_not_ok p PointerNotFound e
found_at (Some q) p e = ap Some (let s : q ≡ p = cc in s)

pub found_none : (chosen : Option ℕ) (refusal : Refusal) → ok_or chosen PointerNotFound ≡ Err refusal → chosen ≡ None
found_none None refusal e = refl
found_none (Some q) refusal e = err_not_ok q refusal (sym e)

-- The first area decides, or else the second.
pub search_first : (image words : List ℕ) (p : ℕ) → nth_valid (checked_at image words) 0 (every_sixteen 8191 0xe0000) ≡ Some p
    → Ok p ≡ search_of image words
unfolding search_of searched candidates
search_first image words p e =
    sym (ap (λ (o : Option ℕ). ok_or o PointerNotFound) (append_found (checked_at image words) (every_sixteen 8191 0xe0000) _ p e))

pub search_second : (image words : List ℕ) → nth_valid (checked_at image words) 0 (every_sixteen 8191 0xe0000) ≡ None
    → ok_or (nth_valid (checked_at image words) 0 (second_area (segment_of (view_of image words 0x40e)))) PointerNotFound ≡ search_of image words
unfolding search_of searched candidates
search_second image words e =
    sym (ap (λ (o : Option ℕ). ok_or o PointerNotFound) (append_none (checked_at image words) (every_sixteen 8191 0xe0000) _ e))

-- The second area lies where the segment says, if it can.
pub second_there : (segment : ℕ) → 0x80000 ≤ segment * 16 → segment * 16 < 0x9ffff → second_area segment ≡ every_sixteen 63 (segment * 16)
unfolding second_area candidates
second_there segment h k = when_hit _ _ _ (rw (less_no (segment * 16) 0x80000 h, less_yes (segment * 16) 0x9ffff k))

pub second_elsewhere : (segment : ℕ) → (segment * 16 < 0x80000) ⊎ (0x9ffff ≤ segment * 16) → second_area segment ≡ every_sixteen 8191 0x80000
unfolding second_area candidates
second_elsewhere segment h =
    ⊎_elim
    (λ below. when_pass _ _ _ (ap (λ (t : Bool). not t && less (segment * 16) 0x9ffff) (less_yes (segment * 16) 0x80000 below)))
    (λ above.
    when_pass _ _ _
    (and_right (not (less (segment * 16) 0x80000)) (less (segment * 16) 0x9ffff) (less_no (segment * 16) 0x9ffff above)))
    h
