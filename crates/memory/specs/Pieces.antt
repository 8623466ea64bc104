-- Pieces of physical memory, and when two images agree on them. What an answer depends on is said as a list of pieces.
use Rattle.std.specs.Prelude.{ℕ, ◌≡◌, List, take, set}
use Rattle.field.specs.Choice.{All}
use Rattle.memory.specs.Places.{view_of, Elsewhere}

-- so many bytes from a physical address on, as far as they are mapped
pub record Piece : Type 0 where
  pub start : ℕ
  pub size : ℕ

-- what can be read of the piece is the same in both images
abbrev pub AgreeOn : List ℕ → List ℕ → List ℕ → Piece → Type 0
AgreeOn image image' words piece = take piece.size (view_of image words piece.start) ≡ take piece.size (view_of image' words piece.start)

-- the byte at offset j of the slice is none of the piece
abbrev pub OutsideOf : List ℕ → ℕ → Piece → Type 0
OutsideOf words j piece = Elsewhere words piece.start piece.size j

-- the byte at offset j of the slice is one that no range holds
abbrev pub NotMapped : List ℕ → ℕ → Type 0
NotMapped words j = (p n : ℕ) → Elsewhere words p n j

-- An image in which one byte outside the pieces is changed agrees with it on them.
abbrev pub OthersAgree : Type 0
OthersAgree =
    (image words : List ℕ) (j b : ℕ) (pieces : List Piece) → All (OutsideOf words j) pieces
    → All (AgreeOn image (set image j b) words) pieces

-- A byte that no range holds is outside all pieces.
abbrev pub NotMappedOutside : Type 0
NotMappedOutside = (words : List ℕ) (j : ℕ) (pieces : List Piece) → NotMapped words j → All (OutsideOf words j) pieces
