-- Laws about the list of ranges: how the flat list is read, and what a right list gives.
use Rattle.std.proofs.Common.{ℕ, zero, suc, ◌+◌, ◌-◌, ◌/◌, ◌%◌, ◌≤◌, ◌<◌, ◌≡◌, refl, List, [], ◌∷◌, map, true, false, arith, le-leb, lt-ltb, le-ltb, leb-true, ltb-true, length, get_or, ne_eqb, eq-eqb, ap, sym, ◌∙◌, true≢false, Bool, add-one}
use native.Mathlib.Decide.{dec_lt}
use Rattle.std.specs.List.{list_all, IsAllAdjacentAnswer}
use Rattle.std.specs.Simd.{first_chunks}
use Rattle.std.specs.List.Sorted.{IsNonDecreasingBy}
use Rattle.std.proofs.lemmas.List.Sorted.{IsNonDecreasingBy-from_all_adjacent}
use Rattle.std.proofs.lemmas.Bool.{and_parts, and_from, and_left, and_right, lt-leb}
use Rattle.memory.specs.Ranges.{range_of, ranges_of, most_ranges, inside, follows, ordered, right}
use Rattle.memory.specs.Places.{holds}
use Rattle.memory.specs.declared.Range.{Range}

-- The chunks of three numbers of the list are its ranges.
pub chunks_are_ranges : (n : ℕ) (words : List ℕ) → n ≡ length words / 3 → map range_of (first_chunks 3 n words) ≡ ranges_of words
unfolding ranges_of
chunks_are_ranges zero [] e = refl
chunks_are_ranges zero (a ∷ []) e = refl
chunks_are_ranges zero (a ∷ b ∷ []) e = refl
chunks_are_ranges zero (a ∷ b ∷ d ∷ words) e = absurd (omega arith)
chunks_are_ranges (suc n) [] e = absurd (omega arith)
chunks_are_ranges (suc n) (a ∷ []) e = absurd (omega arith)
chunks_are_ranges (suc n) (a ∷ b ∷ []) e = absurd (omega arith)
chunks_are_ranges (suc n) (a ∷ b ∷ d ∷ words) e =
    ap (λ (l : List Range). record { start = a; len = b; offset = d } ∷ l) (chunks_are_ranges n words (omega arith))

-- The list is in order where each range follows the one before it, and not where one does not.
ordered_all : (l : List (List ℕ))
    → ((k : ℕ) (d : List ℕ) → suc k < length l → follows (range_of (get_or l k d)) (range_of (get_or l (suc k) d)) ≡ true)
    → ordered (map range_of l) ≡ true
unfolding ordered
ordered_all [] h = refl
ordered_all (x ∷ []) h = refl
ordered_all (x ∷ y ∷ l) h = and_from _ _ (h 0 [] (omega arith)) (ordered_all (y ∷ l) (λ k d b. h (suc k) d (omega arith)))

ordered_not : (l : List (List ℕ)) (k : ℕ) → suc k < length l
    → ((d : List ℕ) → follows (range_of (get_or l k d)) (range_of (get_or l (suc k) d)) ≡ false) → ordered (map range_of l) ≡ false
unfolding ordered
ordered_not [] k b h = absurd (omega arith)
ordered_not (x ∷ []) k b h = absurd (omega arith)
ordered_not (x ∷ y ∷ l) zero b h = and_left _ _ (h [])
ordered_not (x ∷ y ∷ l) (suc k) b h = and_right _ _ (ordered_not (y ∷ l) k (omega arith) h)

pub ordered_is : (l : List (List ℕ)) (r : Bool) → IsAllAdjacentAnswer (λ x y b. b ≡ follows (range_of x) (range_of y)) l r
    → r ≡ ordered (map range_of l)
ordered_is l true h = sym (ordered_all l (λ k d b. sym (rw add-one at (h k d (omega arith)))))
ordered_is l false h = sym (ordered_not l h.0 (omega (arith, h.1)) (λ d. sym (rw add-one at (h.2 d))))

-- Each range of a list in order follows the one before it, so their starts ascend.
follows_at : (l : List (List ℕ)) (k : ℕ) (d : List ℕ) → ordered (map range_of l) ≡ true → suc k < length l
    → follows (range_of (get_or l k d)) (range_of (get_or l (suc k) d)) ≡ true
unfolding ordered
follows_at [] k d e b = absurd (omega arith)
follows_at (x ∷ []) k d e b = absurd (omega arith)
follows_at (x ∷ y ∷ l) zero d e b = (and_parts _ _ e).0
follows_at (x ∷ y ∷ l) (suc k) d e b = follows_at (y ∷ l) k d (and_parts _ _ e).1 (omega arith)

pub starts_ascend : (l : List (List ℕ)) → ordered (map range_of l) ≡ true → IsNonDecreasingBy (λ n. (range_of n).start) l
starts_ascend l e =
    IsNonDecreasingBy-from_all_adjacent (λ n. (range_of n).start) l (λ k d b.
    rw add-one
    (let up : (range_of (get_or l k d)).start < (range_of (get_or l (suc k) d)).start =
    ltb-true _ _ (and_parts _ _ (follows_at l k d e (omega arith))).0 in
    omega arith))

-- A range that is inside lies in the slice.
pub inside_slice : (size : ℕ) (r : Range) → inside size r ≡ true → r.offset + r.len ≤ size
inside_slice size r e = leb-true (r.offset + r.len) size (and_parts _ _ e).0

-- A range that follows another starts at its end or above.
pub follows_end : (r s : Range) → follows r s ≡ true → r.start + r.len ≤ s.start
follows_end r s e = leb-true (r.start + r.len) s.start (and_parts _ _ e).1

-- A range holds an address, or starts above it, or ends at it or below.
pub holds_yes : (r : Range) (p : ℕ) → r.start ≤ p → p - r.start < r.len → holds r p ≡ true
holds_yes r p h k = and_from _ _ (le-leb r.start p h) (lt-ltb (p - r.start) r.len k)

-- A range that starts at an address or below and does not hold it ends there or below.
pub holds_no : (r : Range) (p : ℕ) → r.start ≤ p → holds r p ≡ false → r.len ≤ p - r.start
holds_no r p h k =
    elim (dec_lt (p - r.start) r.len) [
      | yes inside ↦ absurd (true≢false (sym (holds_yes r p h inside) ∙ k))
      | no outside ↦ omega arith
    ]

pub holds_above : (r : Range) (p : ℕ) → p < r.start → holds r p ≡ false
holds_above r p h = and_left _ _ (lt-leb r.start p h)

pub holds_below : (r : Range) (p : ℕ) → r.len ≤ p - r.start → holds r p ≡ false
holds_below r p h = and_right _ _ (le-ltb (p - r.start) r.len h)

pub holds_start : (r : Range) (p : ℕ) → holds r p ≡ true → r.start ≤ p
holds_start r p e = leb-true r.start p (and_parts _ _ e).0

pub holds_len : (r : Range) (p : ℕ) → holds r p ≡ true → p - r.start < r.len
holds_len r p e = ltb-true (p - r.start) r.len (and_parts _ _ e).1

-- A right list has all ranges inside, in order.
pub right_inside : (size : ℕ) (words : List ℕ) → right size words ≡ true → list_all (inside size) (ranges_of words) ≡ true
unfolding right
right_inside size words e = (and_parts _ _ (and_parts _ _ e).0).1

pub right_ordered : (size : ℕ) (words : List ℕ) → right size words ≡ true → ordered (ranges_of words) ≡ true
unfolding right
right_ordered size words e = (and_parts _ _ e).1

-- A list is wrong if a range is cut off, if there are too many, or if one is not inside; else its order decides.
pub right_cut : (size : ℕ) (words : List ℕ) → (length words % 3 ≡ 0 → ⊥) → right size words ≡ false
unfolding right
right_cut size words h = rw (ne_eqb (length words % 3) 0 h)

pub right_many : (size : ℕ) (words : List ℕ) → most_ranges < length words / 3 → right size words ≡ false
unfolding right
right_many size words h = and_left _ _ (and_left _ _ (and_right _ _ (lt-leb (length words / 3) most_ranges h)))

pub right_outside : (size : ℕ) (words : List ℕ) → list_all (inside size) (ranges_of words) ≡ false → right size words ≡ false
unfolding right
right_outside size words e = and_left _ _ (and_right _ _ e)

pub right_order : (size : ℕ) (words : List ℕ) → length words % 3 ≡ 0 → length words / 3 ≤ most_ranges
    → list_all (inside size) (ranges_of words) ≡ true → right size words ≡ ordered (ranges_of words)
unfolding right
right_order size words h k e = rw (eq-eqb (length words % 3) 0 h, le-leb (length words / 3) most_ranges k, e)
