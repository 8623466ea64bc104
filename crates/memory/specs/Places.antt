-- Where a physical address stands in the slice (docs/TABLES.md, "Memory").
use Rattle.std.specs.Prelude.{ℕ, ◌+◌, ◌-◌, ◌≤◌, ◌<◌, min, ◌≡◌, ◌⊎◌, List, [], ◌∷◌, Bool, ◌&&◌, leb, nat_le, nat_lt, Option, Some, None}
use Rattle.field.specs.First.{when}
use Rattle.field.specs.Part.{part}
use Rattle.memory.specs.Ranges.{range_of, ranges_of}
use Rattle.memory.specs.declared.Range.{Range}
use Rattle.memory.specs.declared.Place.{Place}

-- the range has the byte at the physical address p
abbrev pub holds : Range → ℕ → Bool
holds r p = nat_le r.start p && nat_lt (p - r.start) r.len

-- the numbers of a range that starts at p or below
abbrev pub starts_up_to : ℕ → List ℕ → Bool
starts_up_to p numbers = leb (range_of numbers).start p

-- its offset in the slice, and how many bytes the range has from there on
abbrev pub place_in : Range → ℕ → Place
place_in r p = record { offset = r.offset + (p - r.start); room = r.len - (p - r.start) }

-- the place of p in the first range that holds it
unfoldable pub place_of : List Range → ℕ → Option Place
place_of [] p = None
place_of (r ∷ rs) p = when (holds r p) (Some (place_in r p)) (place_of rs p)

unfoldable pub bytes_at : List ℕ → Option Place → List ℕ
bytes_at image (Some place) = part image place.offset place.room
bytes_at image None = []

-- The view from p: all bytes from p to the end of its range, none where p is not mapped. n bytes at p can be read if the
-- view has n bytes or more.
unfoldable pub view_of : List ℕ → List ℕ → ℕ → List ℕ
view_of image words p = bytes_at image (place_of (ranges_of words) p)

-- No range holds an address from p on, up to s.
abbrev pub Unmapped : List ℕ → ℕ → ℕ → Type 0
Unmapped words p s = (q : ℕ) → p ≤ q → q < s → place_of (ranges_of words) q ≡ None

-- The byte at offset j of the slice is none of the first n bytes that can be read from p on.
abbrev pub Elsewhere : List ℕ → ℕ → ℕ → ℕ → Type 0
Elsewhere words p n j =
    (place : Place) → place_of (ranges_of words) p ≡ Some place → (j < place.offset) ⊎ (place.offset + min n place.room ≤ j)
