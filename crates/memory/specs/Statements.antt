-- What is shown of ranges and places beside the contracts.
use Rattle.std.specs.Prelude.{ℕ, suc, ◌+◌, ◌≤◌, ◌<◌, ◌≡◌, List, ◌∷◌, ◌++◌, true, length, take, set, Some}
use Rattle.memory.specs.Ranges.{ranges_of, right}
use Rattle.memory.specs.Places.{holds, place_in, place_of, view_of, Elsewhere}
use Rattle.memory.specs.declared.Range.{Range}
use Rattle.memory.specs.declared.Place.{Place}

-- In a right list the first range that holds an address is the one that holds it: any that does gives the place.
abbrev pub OneHolder : Type 0
OneHolder =
    (size : ℕ) (words : List ℕ) (before after : List Range) (r : Range) (p : ℕ)
    → right size words ≡ true → ranges_of words ≡ before ++ r ∷ after → holds r p ≡ true
    → place_of (ranges_of words) p ≡ Some (place_in r p)

-- What is located lies inside the slice.
abbrev pub InsideTheSlice : Type 0
InsideTheSlice =
    (size : ℕ) (words : List ℕ) (p : ℕ) (place : Place)
    → right size words ≡ true → place_of (ranges_of words) p ≡ Some place → place.offset + place.room ≤ size

-- What is located lies inside one range, which holds the address: the place is so far into it, and has the rest of it.
pub record Within (words : List ℕ) (p : ℕ) (place : Place) : Type 0 where
  pub before : List Range
  pub range : Range
  pub after : List Range
  pub listed : ranges_of words ≡ before ++ range ∷ after
  pub starts : range.start ≤ p
  pub ends : p + place.room ≡ range.start + range.len
  pub stands : place.offset + range.start ≡ range.offset + p
  pub some : 0 < place.room

abbrev pub InsideOneRange : Type 0
InsideOneRange =
    (words : List ℕ) (p : ℕ) (place : Place) → place_of (ranges_of words) p ≡ Some place → Within words p place

-- n bytes can be read at p exactly if one range holds all n.
abbrev pub ReadableIfHeld : Type 0
ReadableIfHeld =
    (image words : List ℕ) (before after : List Range) (r : Range) (p n : ℕ)
    → right (length image) words ≡ true → ranges_of words ≡ before ++ r ∷ after
    → r.start ≤ p → p + suc n ≤ r.start + r.len → suc n ≤ length (view_of image words p)

-- A byte that stands elsewhere can change, and what is read from p stays.
abbrev pub OtherBytesStay : Type 0
OtherBytesStay =
    (image words : List ℕ) (p n j b : ℕ) → Elsewhere words p n j
    → take n (view_of (set image j b) words p) ≡ take n (view_of image words p)
