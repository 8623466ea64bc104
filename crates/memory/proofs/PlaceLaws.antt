-- Laws about places and views: the theorems of specs/Statements, and what the crates above use.
use Rattle.std.proofs.Common.{ℕ, zero, suc, ◌+◌, ◌-◌, ◌≤◌, ◌<◌, min, ◌≡◌, refl, ap, sym, ◌∙◌, List, [], ◌∷◌, ◌++◌, Bool, true, false, ◌⊎◌, inl, inr, ⊎_elim, arith, leb-true, leb-false, map, length, get_or, take, drop, set, length-take, length-take-le, length-drop, take-take, take_all, get_or-drop, ext_get_or, drop-set-lt}
use Rattle.std.specs.Prelude.{Option, Some, None}
use Rattle.std.proofs.lemmas.Option.{same_Some, none-some, slice_get-get_or}
use Rattle.std.proofs.lemmas.List.{get_or-take}
use Rattle.std.proofs.lemmas.List.Folds.{list_all-append}
use native.Mathlib.Decide.{dec_le, dec_lt}
use lib.Seq.{drop-set-add, take-set-le}
use Rattle.field.specs.First.{when}
use Rattle.field.specs.Part.{part}
use Rattle.field.proofs.FirstLaws.{when_hit, when_pass}
use Rattle.field.proofs.PartLaws.{part_length, part_at}
use Rattle.std.specs.List.{list_all, AllWithin, slice_get}
use Rattle.std.specs.List.Sorted.{IsPartitionPoint, IsPartitionedBy}
use Rattle.std.proofs.lemmas.List.Sorted.{IsPartitionedBy-leb}
use Rattle.std.specs.Option.{MatchOption, IfSome, is_some}
use Rattle.std.proofs.lemmas.Bool.{and_parts}
use Rattle.memory.specs.Ranges.{range_of, ranges_of, inside, ordered, right}
use Rattle.memory.specs.Places.{holds, place_in, place_of, starts_up_to, bytes_at, view_of, Unmapped}
use Rattle.memory.specs.Statements.{OneHolder, InsideTheSlice, InsideOneRange, ReadableIfHeld, OtherBytesStay}
use Rattle.memory.specs.declared.Range.{Range}
use Rattle.memory.specs.declared.Place.{Place}
use Rattle.memory.proofs.RangeLaws.{starts_ascend, right_inside, right_ordered, inside_slice, follows_end, holds_start, holds_len, holds_yes, holds_no, holds_above, holds_below}

-- A place that was found is that in a range of the list that holds the address.
pub record Found (rs : List Range) (p : ℕ) (place : Place) : Type 0 where
  pub before : List Range
  pub range : Range
  pub after : List Range
  pub listed : rs ≡ before ++ range ∷ after
  pub held : holds range p ≡ true
  pub there : place_in range p ≡ place

place_found : (rs : List Range) (p : ℕ) (place : Place) → place_of rs p ≡ Some place → Found rs p place
unfolding place_of
place_found [] p place e = absurd (none-some place e)
place_found (r ∷ rs) p place e = go (holds r p) refl (place_found rs p place)
  where
    go : (t : Bool) → holds r p ≡ t → (place_of rs p ≡ Some place → Found rs p place) → Found (r ∷ rs) p place
    go true h later =
        record { before = []; range = r; after = rs; listed = refl; held = h; there = same_Some _ _ (sym (when_hit _ _ _ h) ∙ e) }
    go false h later =
        let f = later (sym (when_pass _ (Some (place_in r p)) _ h) ∙ e) in
        record {
          before = r ∷ f.before;
          range = f.range;
          after = f.after;
          listed = ap (λ (l : List Range). r ∷ l) f.listed;
          held = f.held;
          there = f.there;
        }

-- What `place_in` says, as numbers.
record Numbers (r : Range) (p : ℕ) (place : Place) : Type 0 where
  pub at : r.offset + (p - r.start) ≡ place.offset
  pub left : r.len - (p - r.start) ≡ place.room

numbers : (r : Range) (p : ℕ) (place : Place) → place_in r p ≡ place → Numbers r p place
numbers r p place e = record { at = ap (λ (q : Place). q.offset) e; left = ap (λ (q : Place). q.room) e }

-- And the other way round.
place_of_numbers : (r : Range) (p offset room : ℕ) → r.offset + (p - r.start) ≡ offset → r.len - (p - r.start) ≡ room
    → place_in r p ≡ record { offset = offset; room = room }
place_of_numbers r p offset room at left = λ i. record { offset = at i; room = left i }

pub inside_the_slice : InsideTheSlice
inside_the_slice size words p place e q =
    let f = place_found (ranges_of words) p place q in
    let n = numbers f.range p place f.there in
    let within = ap (list_all (inside size)) (sym f.listed) ∙ right_inside size words e in
    let late =
    (and_parts (list_all (inside size) f.before) (list_all (inside size) (f.range ∷ f.after))
    (sym (list_all-append (inside size) f.before (f.range ∷ f.after)) ∙ within)).1 in
    let i = inside_slice size f.range (and_parts (inside size f.range) (list_all (inside size) f.after) late).0 in
    omega (arith, holds_len f.range p f.held)

pub inside_one_range : InsideOneRange
inside_one_range words p place q =
    let f = place_found (ranges_of words) p place q in
    let n = numbers f.range p place f.there in
    let h = holds_start f.range p f.held in
    let k = holds_len f.range p f.held in
    record {
      before = f.before;
      range = f.range;
      after = f.after;
      listed = f.listed;
      starts = h;
      ends = omega arith;
      stands = omega arith;
      some = omega arith;
    }

-- In an ordered list a range ends before every later one starts.
ends_before : (b : Range) (between after : List Range) (r : Range) → ordered (b ∷ (between ++ r ∷ after)) ≡ true → b.start + b.len ≤ r.start
unfolding ordered
ends_before b [] after r e = follows_end b r (and_parts _ _ e).0
ends_before b (c ∷ between) after r e =
    omega (arith, follows_end b c (and_parts _ _ e).0, ends_before c between after r (and_parts _ _ e).1)

ordered_tail : (b : Range) (rs : List Range) → ordered (b ∷ rs) ≡ true → ordered rs ≡ true
unfolding ordered
ordered_tail b [] e = refl
ordered_tail b (r ∷ rs) e = (and_parts _ _ e).1

-- In an ordered list no range before one that starts at the address or below holds it.
place_passed : (before after : List Range) (r : Range) (p : ℕ) → ordered (before ++ r ∷ after) ≡ true → r.start ≤ p
    → place_of (before ++ r ∷ after) p ≡ place_of (r ∷ after) p
unfolding place_of
place_passed [] after r p e h = refl
place_passed (b ∷ before) after r p e h =
    when_pass _ _ _ (holds_below b p (omega (arith, ends_before b before after r e)))
    ∙ place_passed before after r p (ordered_tail b (before ++ r ∷ after) e) h

one_holder_in : (before after : List Range) (r : Range) (p : ℕ) → ordered (before ++ r ∷ after) ≡ true → holds r p ≡ true
    → place_of (before ++ r ∷ after) p ≡ Some (place_in r p)
unfolding place_of
one_holder_in before after r p e h = place_passed before after r p e (holds_start r p h) ∙ when_hit _ _ _ h

pub one_holder : OneHolder
one_holder size words before after r p e listed h =
    ap (λ (l : List Range). place_of l p) listed
    ∙ one_holder_in before after r p (ap ordered (sym listed) ∙ right_ordered size words e) h

-- Where each range starts above the address, none holds it.
none_above : (l : List (List ℕ)) (p : ℕ) → AllWithin (λ n. starts_up_to p n ≡ false) l 0 (length l) → place_of (map range_of l) p ≡ None
unfolding place_of
none_above [] p h = refl
none_above (n ∷ l) p h =
    when_pass _ _ _ (holds_above (range_of n) p (leb-false _ p (h 0 [] (omega arith) (omega arith))))
    ∙ none_above l p (λ k d low high. h (suc k) d (omega arith) (omega arith))

-- Where no range holds an address, none holds a later one, where each starts at the former or below, or above the latter.
none_up_to : (l : List (List ℕ)) (p q : ℕ) → p ≤ q
    → ((k : ℕ) (d : List ℕ) → k < length l → ((range_of (get_or l k d)).start ≤ p) ⊎ (q < (range_of (get_or l k d)).start))
    → place_of (map range_of l) p ≡ None → place_of (map range_of l) q ≡ None
unfolding place_of
none_up_to [] p q le apart none = refl
none_up_to (n ∷ l) p q le apart none = go (holds (range_of n) p) refl (none_up_to l p q le (λ k d b. apart (suc k) d (omega arith)))
  where
    go : (t : Bool) → holds (range_of n) p ≡ t → (place_of (map range_of l) p ≡ None → place_of (map range_of l) q ≡ None)
        → place_of (map range_of (n ∷ l)) q ≡ None
    go true h later = absurd (none-some _ (sym none ∙ when_hit _ _ _ h))
    go false h later =
        when_pass _ _ _
        (⊎_elim (λ low. holds_below (range_of n) q (omega (arith, holds_no (range_of n) p low h))) (λ high. holds_above (range_of n) q high) (apart 0 [] (omega arith)))
        ∙ later (sym (when_pass _ _ _ h) ∙ none)

-- Of the ranges of an ordered list that start at the address or below, the last decides.
last_decides : (l : List (List ℕ)) (i p : ℕ) → ordered (map range_of l) ≡ true → i < length l
    → AllWithin (λ n. starts_up_to p n ≡ true) l 0 (suc i) → AllWithin (λ n. starts_up_to p n ≡ false) l (suc i) (length l)
    → place_of (map range_of l) p ≡ when (holds (range_of (get_or l i [])) p) (Some (place_in (range_of (get_or l i [])) p)) None
unfolding place_of ordered
last_decides [] i p e b below above = absurd (omega arith)
last_decides (n ∷ l) zero p e b below above =
    ap (when (holds (range_of n) p) (Some (place_in (range_of n) p))) (none_above l p (λ k d low high. above (suc k) d (omega arith) (omega arith)))
last_decides (n ∷ []) (suc i) p e b below above = absurd (omega arith)
last_decides (n ∷ m ∷ l) (suc i) p e b below above =
    let next : (range_of m).start ≤ p = leb-true _ p (below 1 [] (omega arith) (omega arith)) in
    when_pass _ _ _ (holds_below (range_of n) p (omega (arith, follows_end (range_of n) (range_of m) (and_parts _ _ e).0)))
    ∙ last_decides (m ∷ l) i p (and_parts _ _ e).1 (omega arith)
    (λ k d low high. below (suc k) d (omega arith) (omega arith))
    (λ k d low high. above (suc k) d (omega arith) (omega arith))

-- What is the place in a range where the range holds the address, and else nothing, is what that range decides.
pub placed : (r : Range) (p : ℕ) (found : Option Place) → is_some found ≡ holds r p → IfSome found (λ place. place ≡ place_in r p)
    → found ≡ when (holds r p) (Some (place_in r p)) None
placed r p None held there = sym (when_pass _ _ _ (sym held))
placed r p (Some place) held there = ap Some there ∙ sym (when_hit _ _ _ (sym held))

-- Each range of a list whose ranges are all inside is.
inside_at : (size : ℕ) (l : List (List ℕ)) (i : ℕ) (d : List ℕ) → list_all (inside size) (map range_of l) ≡ true → i < length l
    → inside size (range_of (get_or l i d)) ≡ true
inside_at size [] i d e b = absurd (omega arith)
inside_at size (n ∷ l) zero d e b = (and_parts _ _ e).0
inside_at size (n ∷ l) (suc i) d e b = inside_at size l i d (and_parts _ _ e).1 (omega arith)

-- A search parted the ranges of a right list into those that start at the address or below and those above it: the last of the
-- former decides, and where there is none no range holds the address.
module _ (size : ℕ) (words : List ℕ) (p : ℕ) (l : List (List ℕ)) (e : right size words ≡ true) (same : map range_of l ≡ ranges_of words) where
  abbrev pub Decides : Option (List ℕ) → Type 0
  Decides last =
      MatchOption last (place_of (ranges_of words) p ≡ None) (λ n.
      (inside size (range_of n) ≡ true) × (place_of (ranges_of words) p ≡ when (holds (range_of n) p) (Some (place_in (range_of n) p)) None))

  last_in_front : (i : ℕ) → i ≤ length l → IsPartitionPoint (λ n. starts_up_to p n ≡ true) (λ n. starts_up_to p n ≡ false) l i
      → Decides (slice_get (take i l) (length (take i l) - 1))
  last_in_front zero b point = ap (λ (rs : List Range). place_of rs p) (sym same) ∙ none_above l p point.1
  last_in_front (suc i) b point =
      let last : slice_get (take (suc i) l) (length (take (suc i) l) - 1) ≡ Some (get_or l i []) =
      let len : length (take (suc i) l) - 1 ≡ i = omega (arith, length-take-le (suc i) l b) in
      ap (slice_get (take (suc i) l)) len
      ∙ slice_get-get_or (take (suc i) l) i [] (omega (arith, length-take-le (suc i) l b))
      ∙ ap Some (get_or-take (suc i) l i [] (omega arith)) in
      let order = ap ordered same ∙ right_ordered size words e in
      let within = ap (list_all (inside size)) same ∙ right_inside size words e in
      rw last
      (inside_at size l i [] within (omega arith), ap (λ (rs : List Range). place_of rs p) (sym same) ∙ last_decides l i p order (omega arith) point.0 point.1)

  pub last_of_part : (i : ℕ) → i ≤ length l
      → (IsPartitionedBy (starts_up_to p) l → IsPartitionPoint (λ n. starts_up_to p n ≡ true) (λ n. starts_up_to p n ≡ false) l i)
      → Decides (slice_get (take i l) (length (take i l) - 1))
  last_of_part i b parted =
      let order = ap ordered same ∙ right_ordered size words e in
      last_in_front i b (parted (IsPartitionedBy-leb (λ (n : List ℕ). (range_of n).start) l p (starts_ascend l order)))

  -- Where no range holds the address, none holds a later one up to where the next range starts.
  pub next_of_part : (i : ℕ) → i ≤ length l
      → (IsPartitionedBy (starts_up_to p) l → IsPartitionPoint (λ n. starts_up_to p n ≡ true) (λ n. starts_up_to p n ≡ false) l i)
      → place_of (ranges_of words) p ≡ None → (s : ℕ) → ((d : List ℕ) → i < length l → s ≤ (range_of (get_or l i d)).start) → Unmapped words p s
  next_of_part i b parted none s next q le below =
      let order = ap ordered same ∙ right_ordered size words e in
      let ascend = starts_ascend l order in
      let point = parted (IsPartitionedBy-leb (λ (n : List ℕ). (range_of n).start) l p ascend) in
      ap (λ (rs : List Range). place_of rs q) (sym same)
      ∙ none_up_to l p q le
      (λ k d h.
      elim (dec_lt k i) [
        | yes early ↦ inl (leb-true _ p (point.0 k d (omega arith) early))
        | no late ↦ inr (omega (arith, next d (omega arith), ascend i k d (omega arith) h))
      ])
      (ap (λ (rs : List Range). place_of rs p) same ∙ none)

-- The view at a place is that part of the slice.
pub view_at : (image words : List ℕ) (p : ℕ) (place : Place) → place_of (ranges_of words) p ≡ Some place
    → view_of image words p ≡ part image place.offset place.room
unfolding view_of bytes_at
view_at image words p place q = ap (bytes_at image) q

pub view_none : (image words : List ℕ) (p : ℕ) → place_of (ranges_of words) p ≡ None → view_of image words p ≡ []
unfolding view_of bytes_at
view_none image words p q = ap (bytes_at image) q

-- In a right list the view has all the room of its place.
pub view_room : (image words : List ℕ) (p : ℕ) (place : Place) → right (length image) words ≡ true → place_of (ranges_of words) p ≡ Some place
    → length (view_of image words p) ≡ place.room
view_room image words p place e q =
    ap length (view_at image words p place q) ∙ part_length image place.offset place.room (inside_the_slice (length image) words p place e q)

-- And where the view is empty no range holds the address, since each place has room.
pub view_empty : (image words : List ℕ) (p : ℕ) → right (length image) words ≡ true → length (view_of image words p) ≡ 0
    → place_of (ranges_of words) p ≡ None
view_empty image words p e empty = go (place_of (ranges_of words) p) refl
  where
    go : (found : Option Place) → place_of (ranges_of words) p ≡ found → found ≡ None
    go None q = refl
    go (Some place) q = absurd (omega (arith, view_room image words p place e q, (inside_one_range words p place q).some, empty))

pub readable_if_held : ReadableIfHeld
readable_if_held image words before after r p n e listed h k =
    let held = holds_yes r p h (omega arith) in
    let q = one_holder (length image) words before after r p e listed held in
    omega (arith, view_room image words p (place_in r p) e q)

-- All but the first d bytes of a part are the part that begins d later and has d fewer.
part_drop : (s : List ℕ) (at n d : ℕ) → drop d (part s at n) ≡ part s (at + d) (n - d)
part_drop s at n d = ext_get_or 0 (drop d (part s at n)) (part s (at + d) (n - d)) lengths elements
  where
    lengths : length (drop d (part s at n)) ≡ length (part s (at + d) (n - d))
    lengths = unfold part in simp (length-take, length-drop) (omega arith)

    elements : (i : ℕ) → i < length (drop d (part s at n)) → get_or (drop d (part s at n)) i 0 ≡ get_or (part s (at + d) (n - d)) i 0
    elements i b =
        let l : length (drop d (part s at n)) ≤ n - d = unfold part in simp (length-drop, length-take) (omega arith) in
        let e : at + (d + i) ≡ at + d + i = omega arith in
        get_or-drop d (part s at n) i 0
        ∙ part_at s at n (d + i) (omega arith)
        ∙ ap (λ (k : ℕ). get_or s k 0) e
        ∙ sym (part_at s (at + d) (n - d) i (omega arith))

-- In a right list the range that holds an address holds all of its view, so the view from an address inside is the rest of it.
pub view_rest : (image words : List ℕ) (p d : ℕ) → right (length image) words ≡ true → d < length (view_of image words p)
    → view_of image words (p + d) ≡ drop d (view_of image words p)
view_rest image words p d e h = go (place_of (ranges_of words) p) refl
  where
    go : (found : Option Place) → place_of (ranges_of words) p ≡ found → view_of image words (p + d) ≡ drop d (view_of image words p)
    go (Some place) q =
        let w = inside_one_range words p place q in
        let r = w.range in
        let l = view_room image words p place e q in
        let starts = w.starts in
        let ends = w.ends in
        let stands = w.stands in
        let rest : Place = record { offset = place.offset + d; room = place.room - d } in
        let held = holds_yes r (p + d) (omega arith) (omega arith) in
        let here = place_of_numbers r (p + d) rest.offset rest.room (omega arith) (omega arith) in
        view_at image words (p + d) rest (one_holder (length image) words w.before w.after r (p + d) e w.listed held ∙ ap Some here)
        ∙ sym (part_drop image place.offset place.room d)
        ∙ ap (drop d) (sym (view_at image words p place q))
    go None q = absurd (omega (arith, ap length (view_none image words p q)))

-- How long a view is depends on how long the slice is, and not on its bytes.
place_length_same : (image image' : List ℕ) (place : Option Place) → length image ≡ length image'
    → length (bytes_at image place) ≡ length (bytes_at image' place)
unfolding bytes_at part
place_length_same image image' (Some place) e = simp (length-take, length-drop) (ap (λ (n : ℕ). min place.room (n - place.offset)) e)
place_length_same image image' None e = refl

pub view_length_same : (image image' words : List ℕ) (p : ℕ) → length image ≡ length image'
    → length (view_of image words p) ≡ length (view_of image' words p)
unfolding view_of
view_length_same image image' words p e = place_length_same image image' (place_of (ranges_of words) p) e

-- The first n of the first room elements are the first elements of the smaller number.
take_min : (n room : ℕ) (l : List ℕ) → take n (take room l) ≡ take (min n room) l
take_min n room l =
    elim (dec_le n room) [
      | yes h ↦
          let e : n ≡ min n room = omega arith in
          take-take n room l h ∙ ap (λ (k : ℕ). take k l) e
      | no h ↦
          let e : room ≡ min n room = omega arith in
          take_all n (take room l) (rw length-take (omega arith)) ∙ ap (λ (k : ℕ). take k l) e
    ]

-- A byte outside a part can change, and the part stays.
pub part_stays : (image : List ℕ) (offset room n j b : ℕ) → (j < offset) ⊎ (offset + min n room ≤ j)
    → take n (part (set image j b) offset room) ≡ take n (part image offset room)
unfolding part
part_stays image offset room n j b outside =
    take_min n room (drop offset (set image j b))
    ∙ ⊎_elim
    (λ before. ap (take (min n room)) (drop-set-lt offset image j b before))
    (λ behind.
    let e : j ≡ offset + (j - offset) = omega arith in
    ap (λ (i : ℕ). take (min n room) (drop offset (set image i b))) e
    ∙ ap (take (min n room)) (drop-set-add offset image (j - offset) b)
    ∙ take-set-le (min n room) (drop offset image) (j - offset) b (omega arith))
    outside
    ∙ sym (take_min n room (drop offset image))

place_stays : (image : List ℕ) (found : Option Place) (n j b : ℕ)
    → ((place : Place) → found ≡ Some place → (j < place.offset) ⊎ (place.offset + min n place.room ≤ j))
    → take n (bytes_at (set image j b) found) ≡ take n (bytes_at image found)
unfolding bytes_at
place_stays image (Some place) n j b elsewhere = part_stays image place.offset place.room n j b (elsewhere place refl)
place_stays image None n j b elsewhere = refl

pub other_bytes_stay : OtherBytesStay
unfolding view_of
other_bytes_stay image words p n j b elsewhere = place_stays image (place_of (ranges_of words) p) n j b elsewhere
