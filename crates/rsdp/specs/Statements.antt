-- What is shown of the root pointer and of its search beside the contracts.
use Rattle.std.specs.Prelude.{ℕ, ◌%◌, ◌≤◌, ◌≡◌, List, ◌∷◌, map, true, length, take, set, sum, Ok, Err}
use Rattle.field.specs.First.{Ascending}
use Rattle.field.specs.Number.{number}
use Rattle.field.specs.Part.{part}
use Rattle.field.specs.Text.{text}
use Rattle.field.specs.Choice.{looked_at, count_valid, Nth, All}
use Rattle.memory.specs.Places.{view_of}
use Rattle.memory.specs.Pieces.{Piece, AgreeOn, OutsideOf, NotMapped}
use Rattle.rsdp.specs.Pointer.{rsd_ptr, needed_of, summed_of, pointer_reasons, pointer_checked, root_pointer_of}
use Rattle.rsdp.specs.Search.{searched, checked_at, search_of}
use Rattle.rsdp.specs.Asked.{root_pointer_at, search_asked}
use Rattle.refusal.specs.declared.Refusal.{Refusal}
use Rattle.refusal.specs.Number.{number_of}

-- The numbers ascend, so that the first that applies is the smallest.
abbrev pub PointerReasonsAscend : Type 0
PointerReasonsAscend = (v : List ℕ) → Ascending number_of 2 (pointer_reasons v)

-- A valid root pointer is mapped whole, has the signature and a maker's id that is text, and sums to 0 over a length that can
-- be right.
pub record ValidPointer (v : List ℕ) : Type 0 where
  pub mapped : needed_of v ≤ length v
  pub signature : number v 0 8 ≡ rsd_ptr
  pub maker : text (part v 9 6) ≡ true
  pub least : 20 ≤ summed_of v
  pub most : summed_of v ≤ 36
  pub sums : sum (take (summed_of v) v) % 256 ≡ 0

abbrev pub ValidPointerSums : Type 0
ValidPointerSums = (v : List ℕ) → pointer_checked v ≡ Ok tt → ValidPointer v

-- What a search finds is the first valid root pointer of all that are searched, and it finds none only where none is valid.
abbrev pub SearchedIsFirst : Type 0
SearchedIsFirst =
    (image words : List ℕ) (p : ℕ) → search_of image words ≡ Ok p → Nth (checked_at image words) 0 (searched image words) p

abbrev pub NotFoundMeansNone : Type 0
NotFoundMeansNone =
    (image words : List ℕ) (refusal : Refusal) → search_of image words ≡ Err refusal → count_valid (checked_at image words) (searched image words) ≡ 0

-- The answer depends on the root pointer's 20 bytes, 36 where its revision is not 0, and on how much is mapped.
abbrev pub PointerBytes : Type 0
PointerBytes =
    (v v' : List ℕ) → length v ≡ length v' → take (needed_of v) v ≡ take (needed_of v) v' → root_pointer_of v ≡ root_pointer_of v'

-- the bytes that count of a root pointer at an address
abbrev pub named_pointer : List ℕ → List ℕ → ℕ → Piece
named_pointer image words p = record { start = p; size = needed_of (view_of image words p) }

-- the bytes that count in a search: the word at 40e, and of each address at which it looks those of the root pointer there
unfoldable pub named_search : List ℕ → List ℕ → List Piece
named_search image words =
    record { start = 0x40e; size = 2 }
    ∷ map (named_pointer image words) (looked_at (checked_at image words) 0 (searched image words))

-- Two images of one length that agree on the named bytes have the same answer.
abbrev pub PointerAtBytes : Type 0
PointerAtBytes =
    (image image' words : List ℕ) (address : ℕ) → length image ≡ length image'
    → AgreeOn image image' words (named_pointer image words address)
    → root_pointer_at image words address ≡ root_pointer_at image' words address

abbrev pub SearchBytes : Type 0
SearchBytes =
    (image image' words : List ℕ) → length image ≡ length image' → All (AgreeOn image image' words) (named_search image words)
    → search_asked image words ≡ search_asked image' words

-- Change any other byte, and the answer stays.
abbrev pub PointerOthersStay : Type 0
PointerOthersStay =
    (image words : List ℕ) (address j b : ℕ) → OutsideOf words j (named_pointer image words address)
    → root_pointer_at (set image j b) words address ≡ root_pointer_at image words address

abbrev pub SearchOthersStay : Type 0
SearchOthersStay =
    (image words : List ℕ) (j b : ℕ) → All (OutsideOf words j) (named_search image words)
    → search_asked (set image j b) words ≡ search_asked image words

-- Change a byte that no range holds, and the answer stays.
abbrev pub PointerMappedOnly : Type 0
PointerMappedOnly =
    (image words : List ℕ) (address j b : ℕ) → NotMapped words j
    → root_pointer_at (set image j b) words address ≡ root_pointer_at image words address

abbrev pub SearchMappedOnly : Type 0
SearchMappedOnly =
    (image words : List ℕ) (j b : ℕ) → NotMapped words j → search_asked (set image j b) words ≡ search_asked image words
