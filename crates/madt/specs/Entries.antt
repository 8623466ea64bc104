-- The entries of the MADT, one after the other from offset 44 up to the table's end (ACPI 6.5, section 5.2.12). An entry begins
-- with its kind and its length, one byte each.
use Rattle.std.specs.Prelude.{ℕ, zero, suc, ◌+◌, ◌≡◌, List, [], ◌∷◌, ◌++◌, Bool, true, false, length, drop, slice_get, unwrap_or, Option, Some, None, Result, Ok, Err}
use Rattle.refusal.specs.declared.Refusal.{Refusal}
use Rattle.refusal.specs.declared.Refusal.TheVariants.{NotThere, InconsistentEntry}
use Rattle.field.specs.Number.{number}
use Rattle.field.specs.Part.{part}
use Rattle.field.specs.First.{when, less}
use Rattle.field.specs.Then.{and_then}
use Rattle.madt.specs.declared.MadtEntry.{MadtEntry}
use Rattle.madt.specs.Kinds.{kind_of, least_length}
use Rattle.madt.specs.Fixed.{madt_checked}

-- the entry that begins at `at`, if one does
abbrev pub entry_at : List ℕ → ℕ → MadtEntry
entry_at s at = record { kind = kind_of (number s at 1); number = number s at 1; at = at; len = number s (at + 1) 1 }

-- What stands at `at`. There is no entry where a single byte is left, where the length is below the least of its kind, and where
-- it reaches past the table's end.
unfoldable pub item_at : List ℕ → ℕ → Result MadtEntry Refusal
item_at s at =
    when (less (length s) (at + 2)) (Err InconsistentEntry)
    (when (less (entry_at s at).len (least_length (entry_at s at).kind)) (Err InconsistentEntry)
    (when (less (length s) (at + (entry_at s at).len)) (Err InconsistentEntry)
    (Ok (entry_at s at))))

-- the same, and nothing where the table has ended
unfoldable pub next_at : List ℕ → ℕ → Option (Result MadtEntry Refusal)
next_at s at = when (less (length s) (at + 1)) None (Some (item_at s at))

-- The items from `at` on, in so many steps at most: entries, and as the last item a fault, from which on no entry can be told.
unfoldable pub walk : ℕ → List ℕ → ℕ → List (Result MadtEntry Refusal)
walk zero s at = []
walk (suc steps) s at =
    elim (next_at s at) [
      | None ↦ []
      | Some (Err r) ↦ Err r ∷ []
      | Some (Ok e) ↦ Ok e ∷ walk steps s (at + e.len)
    ]

-- An entry has two bytes at least, so as many steps as the table has bytes are enough.
unfoldable pub entries_from : List ℕ → ℕ → List (Result MadtEntry Refusal)
entries_from s at = walk (length s) s at

unfoldable pub entries : List ℕ → List (Result MadtEntry Refusal)
entries s = entries_from s 44

-- the walk has met a fault
unfoldable pub faulty : List (Result MadtEntry Refusal) → Bool
faulty [] = false
faulty (Ok e ∷ items) = faulty items
faulty (Err r ∷ items) = true

-- the entries among the items, without a fault
unfoldable pub entries_among : List (Result MadtEntry Refusal) → List MadtEntry
entries_among [] = []
entries_among (Ok e ∷ items) = e ∷ entries_among items
entries_among (Err r ∷ items) = entries_among items

-- The item that has k items in front of it.
unfoldable pub nth : List (Result MadtEntry Refusal) → ℕ → Result MadtEntry Refusal
nth items k = unwrap_or (slice_get items k) (Err NotThere)

unfoldable pub entry_of : List ℕ → ℕ → Result MadtEntry Refusal
entry_of s k = and_then (madt_checked s) (λ _. nth (entries s) k)

-- The bytes of the items from `at` on, one item behind the other. A fault has all that are left, so a second one would tell them twice.
unfoldable pub joined : List ℕ → ℕ → List (Result MadtEntry Refusal) → List ℕ
joined s at [] = []
joined s at (Ok e ∷ items) = part s e.at e.len ++ joined s (e.at + e.len) items
joined s at (Err r ∷ items) = drop at s ++ joined s at items

-- The entries, joined, are exactly the bytes behind the fixed part: none is skipped, none is told twice, and they are in order.
abbrev pub EntriesAreTheTable : Type 0
EntriesAreTheTable = (s : List ℕ) → joined s 44 (entries s) ≡ drop 44 s
