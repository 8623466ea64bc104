-- The entries of an MCFG table (PCI Firmware Specification 3.x, section 4.1.2, Table 4-2): the header and 8 reserved bytes, then
-- the configuration space base address allocation structures (Table 4-3), 16 bytes each.
use Rattle.std.specs.Prelude.{ℕ, zero, suc, ◌+◌, ◌-◌, ◌/◌, List, [], ◌∷◌, length, slice_get, Result, Ok}
use Rattle.std.specs.Option.{ok_or}
use Rattle.field.specs.Number.{number}
use Rattle.field.specs.First.{less, differ, ◌gives◌, checked}
use Rattle.field.specs.Then.{and_then}
use Rattle.refusal.specs.declared.Refusal.{Refusal}
use Rattle.refusal.specs.declared.Refusal.TheVariants.{TooShort, NotThere}
use Rattle.mcfg.specs.declared.McfgEntry.{McfgEntry}

-- the table is shorter than its fixed part, or not as long as it states
unfoldable pub length_checked : List ℕ → Result (Unit {0}) Refusal
length_checked table =
    checked ((less (length table) 44 gives TooShort) ∷ (differ (number table 4 4) (length table) gives TooShort) ∷ [])

-- the allocation structure at an offset: Base Address, PCI Segment Group Number, Start Bus Number, End Bus Number, 4 reserved bytes
unfoldable pub entry_at : List ℕ → ℕ → McfgEntry
entry_at table at =
    record {
      base_address = number table at 8;
      pci_segment_group = number table (at + 8) 2;
      bus_number_start = number table (at + 10) 1;
      bus_number_end = number table (at + 11) 1;
    }

-- n entries that follow one another, the first of them at an offset
unfoldable pub entries_at : List ℕ → ℕ → ℕ → List McfgEntry
entries_at table at zero = []
entries_at table at (suc n) = entry_at table at ∷ entries_at table (at + 16) n

-- the entries from an offset to the table's end; a cut-off rest is ignored
unfoldable pub entries_from : List ℕ → ℕ → List McfgEntry
entries_from table at = entries_at table at ((length table - at) / 16)

-- all entries
unfoldable pub entries : List ℕ → List McfgEntry
entries table = entries_from table 44

-- How many entries there are.
unfoldable pub entry_count_of : List ℕ → Result ℕ Refusal
entry_count_of table = and_then (length_checked table) (λ _. Ok (length (entries table)))

-- The k-th entry, counted from 0.
unfoldable pub entry_of : List ℕ → ℕ → Result McfgEntry Refusal
entry_of table k = and_then (length_checked table) (λ _. ok_or (slice_get (entries table) k) NotThere)
