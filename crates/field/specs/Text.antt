-- Which bytes are UTF-8: the Unicode Standard, section 3.9, Table 3-7, "Well-Formed UTF-8 Byte Sequences".
use Rattle.std.specs.Prelude.{ℕ, Bool, true, false, ◌&&◌, List, [], ◌∷◌, nat_le, Option, Some, None}
use Rattle.field.specs.First.{when}

-- the bytes from the low one up to and including the high one
pub record Span : Type 0 where
  pub low : ℕ
  pub high : ℕ

infix 40 ◌to◌
abbrev pub ◌to◌ : ℕ → ℕ → Span
low to high = record { low = low; high = high }

unfoldable pub within : Span → ℕ → Bool
within span b = nat_le span.low b && nat_le b span.high

-- a row of the table: the first byte's span, and the spans of the bytes that follow it
pub record Row : Type 0 where
  pub first : Span
  pub following : List Span

-- Table 3-7, row by row
unfoldable pub table : List Row
table =
    record { first = 0x00 to 0x7f; following = [] }
    ∷ record { first = 0xc2 to 0xdf; following = (0x80 to 0xbf) ∷ [] }
    ∷ record { first = 0xe0 to 0xe0; following = (0xa0 to 0xbf) ∷ (0x80 to 0xbf) ∷ [] }
    ∷ record { first = 0xe1 to 0xec; following = (0x80 to 0xbf) ∷ (0x80 to 0xbf) ∷ [] }
    ∷ record { first = 0xed to 0xed; following = (0x80 to 0x9f) ∷ (0x80 to 0xbf) ∷ [] }
    ∷ record { first = 0xee to 0xef; following = (0x80 to 0xbf) ∷ (0x80 to 0xbf) ∷ [] }
    ∷ record { first = 0xf0 to 0xf0; following = (0x90 to 0xbf) ∷ (0x80 to 0xbf) ∷ (0x80 to 0xbf) ∷ [] }
    ∷ record { first = 0xf1 to 0xf3; following = (0x80 to 0xbf) ∷ (0x80 to 0xbf) ∷ (0x80 to 0xbf) ∷ [] }
    ∷ record { first = 0xf4 to 0xf4; following = (0x80 to 0x8f) ∷ (0x80 to 0xbf) ∷ (0x80 to 0xbf) ∷ [] }
    ∷ []

-- what has to follow a first byte: the spans of the first row that has it
unfoldable pub following_in : List Row → ℕ → Option (List Span)
following_in [] b = None
following_in (row ∷ rows) b = when (within row.first b) (Some row.following) (following_in rows b)

-- the bytes s are well formed where the bytes still to come of a sequence that has begun are those of the spans
unfoldable pub well_formed : List Span → List ℕ → Bool
well_formed [] [] = true
well_formed (span ∷ spans) [] = false
well_formed (span ∷ spans) (b ∷ s) = within span b && well_formed spans s
well_formed [] (b ∷ s) = elim (following_in table b) [ None ↦ false | Some spans ↦ well_formed spans s ]

-- the bytes are UTF-8
unfoldable pub text : List ℕ → Bool
text s = well_formed [] s
