-- The bytes that count: the pieces of memory that an answer depends on (docs/PROMISES.md, demand 3).
use Rattle.std.specs.Prelude.{ℕ, ◌≡◌, List, [], ◌∷◌, ◌++◌, length, set, flat_map, Result, Ok, Err}
use Rattle.field.specs.First.{when}
use Rattle.field.specs.Choice.{looked_at, All}
use Rattle.refusal.specs.declared.Refusal.{Refusal}
use Rattle.memory.specs.Places.{view_of}
use Rattle.memory.specs.Pieces.{Piece, AgreeOn, OutsideOf, NotMapped}
use Rattle.rsdp.specs.Asked.{root_pointer_at}
use Rattle.rsdp.specs.Statements.{named_pointer}
use Rattle.rsdp.specs.declared.Rsdp.{Rsdp}
use Rattle.sdt.specs.Header.{header_size, length_of}
use Rattle.sdt.specs.Valid.{wrong_signature}
use Rattle.sdt.specs.declared.Wanted.{Wanted}
use Rattle.tables.specs.Root.{kind_of, address_of, root_of, listed}
use Rattle.tables.specs.Tables.{checked_at}
use Rattle.tables.specs.declared.RootTable.{RootTable}

-- the header of the table at an address, and the whole of the table: as many bytes as it states
abbrev pub header_at : ℕ → Piece
header_at p = record { start = p; size = header_size }

abbrev pub whole_at : List ℕ → List ℕ → ℕ → Piece
whole_at image words p = record { start = p; size = length_of (view_of image words p) }

-- The table at an address: its header, and the whole of it if its signature is the wanted one.
unfoldable pub named_table : List ℕ → List ℕ → ℕ → Wanted → List Piece
named_table image words p wanted =
    header_at p ∷ when (wrong_signature wanted (view_of image words p)) [] (whole_at image words p ∷ [])

-- Where the root pointer is valid, the root table: its header, and the whole of it.
unfoldable pub named_from : List ℕ → List ℕ → Result Rsdp Refusal → List Piece
named_from image words (Ok pointer) =
    header_at (address_of (kind_of pointer) pointer) ∷ whole_at image words (address_of (kind_of pointer) pointer) ∷ []
named_from image words (Err refusal) = []

-- The root table and its entries: the root pointer's 20 bytes, 36 where its revision is not 0, and then the root table.
unfoldable pub named_root : List ℕ → List ℕ → ℕ → List Piece
named_root image words rsdp = named_pointer image words rsdp ∷ named_from image words (root_pointer_at image words rsdp)

-- Where the root table is valid, each table that is looked at until the n-th valid one is found.
unfoldable pub named_listed : List ℕ → List ℕ → Wanted → ℕ → ℕ → Result RootTable Refusal → List Piece
named_listed image words wanted least n (Ok root) =
    flat_map (λ p. named_table image words p wanted) (looked_at (checked_at image words wanted least) n (listed image words root))
named_listed image words wanted least n (Err refusal) = []

-- The n-th valid table: the root pointer and the root table, and then the tables looked at.
unfoldable pub named_find : List ℕ → List ℕ → ℕ → Wanted → ℕ → ℕ → List Piece
named_find image words rsdp wanted least n =
    named_root image words rsdp ++ named_listed image words wanted least n (root_of image words rsdp)

-- An answer to a question about an image depends on the named bytes, and on no other.
pub record OnlyNamed {ℓ} {A : Type ℓ} (answer : List ℕ → List ℕ → A) (named : List ℕ → List ℕ → List Piece) : Type ℓ where
  -- two images of one length that agree on the named bytes have the same answer
  pub agreed : (image image' words : List ℕ) → length image ≡ length image' → All (AgreeOn image image' words) (named image words)
      → answer image words ≡ answer image' words
  -- change any other byte, and the answer stays
  pub others : (image words : List ℕ) (j b : ℕ) → All (OutsideOf words j) (named image words) → answer (set image j b) words ≡ answer image words
  -- change a byte that no range holds, and the answer stays
  pub unmapped : (image words : List ℕ) (j b : ℕ) → NotMapped words j → answer (set image j b) words ≡ answer image words
