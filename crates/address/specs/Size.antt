-- Access sizes (ACPI 6.5, section 5.2.3.2, Table 5.1, field Access Size).
use Rattle.std.specs.Prelude.{ℕ, ◌≡◌, List, [], ◌∷◌, length, slice_index_or, Result, Ok, Err}
use Rattle.refusal.specs.declared.Refusal.{Refusal}
use Rattle.refusal.specs.declared.Refusal.TheVariants.{UnknownSpaceOrSize}
use Rattle.field.specs.First.{less, when}
use Rattle.address.specs.declared.AccessSize.{AccessSize}
use Rattle.address.specs.declared.AccessSize.TheVariants.{Undefined, ByteAccess, WordAccess, DWordAccess, QWordAccess}

-- the number of each access size
abbrev pub size_number : AccessSize → ℕ
size_number Undefined = 0
size_number ByteAccess = 1
size_number WordAccess = 2
size_number DWordAccess = 3
size_number QWordAccess = 4

-- the access sizes that the numbers from 0 on name
abbrev pub sizes : List AccessSize
sizes = Undefined ∷ ByteAccess ∷ WordAccess ∷ DWordAccess ∷ QWordAccess ∷ []

-- The access size that the number n names.
unfoldable pub size_of : ℕ → Result AccessSize Refusal
size_of n = when (less n (length sizes)) (Ok (slice_index_or sizes n Undefined)) (Err UnknownSpaceOrSize)

-- An access size that a number names has that number.
abbrev pub SizeHasItsNumber : Type 0
SizeHasItsNumber = (n : ℕ) (size : AccessSize) → size_of n ≡ Ok size → size_number size ≡ n
