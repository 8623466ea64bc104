-- The configuration space of PCI functions in memory (PCI Firmware Specification 3.x, section 4.1.2, and PCI Express Base
-- Specification, section 7.2.2): 4,096 bytes for a function, 8 functions for a device, 32 devices for a bus, so 2 ^ 20 bytes for a bus.
use Rattle.std.specs.Prelude.{ℕ, ◌+◌, ◌-◌, ◌*◌, ◌^◌, ◌≤◌, ◌≡◌, List, ◌∷◌, Bool, true, false, ◌&&◌, ◌==◌, nat_le, Option, Result, Ok, Err}
use Rattle.std.specs.List.{find}
use Rattle.std.specs.Option.{ok_or}
use Rattle.field.specs.First.{less, when}
use Rattle.field.specs.Then.{and_then}
use Rattle.refusal.specs.declared.Refusal.{Refusal}
use Rattle.refusal.specs.declared.Refusal.TheVariants.{NotThere}
use Rattle.mcfg.specs.Entries.{length_checked, entries}
use Rattle.mcfg.specs.declared.McfgEntry.{McfgEntry}

-- the entry has the segment group, and the bus among its buses
abbrev pub includes : ℕ → ℕ → McfgEntry → Bool
includes segment bus e = e.pci_segment_group == segment && nat_le e.bus_number_start bus && nat_le bus e.bus_number_end

-- the first entry that includes the bus
abbrev pub window_of : ℕ → ℕ → List McfgEntry → Option McfgEntry
window_of segment bus es = find (includes segment bus) es

-- where a function's configuration space begins: the base address of an entry is that of its first bus
abbrev pub function_in : McfgEntry → ℕ → ℕ → ℕ → ℕ
function_in e bus device function = e.base_address + ((bus - e.bus_number_start) * 2 ^ 20 + device * 2 ^ 15 + function * 2 ^ 12)

-- the same as an answer: it is not there where it is no 64-bit number
unfoldable pub address_in : McfgEntry → ℕ → ℕ → ℕ → Result ℕ Refusal
address_in e bus device function =
    when (less (function_in e bus device function) (2 ^ 64)) (Ok (function_in e bus device function)) (Err NotThere)

-- The address of the configuration space of a function: TooShort for a table of a wrong length, NotThere where there is no such
-- device or function, and where no entry includes the bus.
unfoldable pub physical_address_of : List ℕ → ℕ → ℕ → ℕ → ℕ → Result ℕ Refusal
physical_address_of table segment bus device function =
    and_then (length_checked table)
    (λ _. when (less 31 device) (Err NotThere)
    (when (less 7 function) (Err NotThere)
    (and_then (ok_or (window_of segment bus (entries table)) NotThere) (λ e. address_in e bus device function))))

-- e is the first of a list that includes the bus: it does, and none before it does
pub data First (segment bus : ℕ) (e : McfgEntry) : List McfgEntry → Type 0 where
  here : {rest : List McfgEntry} → includes segment bus e ≡ true → First segment bus e (e ∷ rest)
  later : {other : McfgEntry} {rest : List McfgEntry} → includes segment bus other ≡ false → First segment bus e rest → First segment bus e (other ∷ rest)

-- an address that is answered lies in the window of the first entry that includes the bus, with all 4,096 bytes of the function
pub record InWindow (table : List ℕ) (segment bus address : ℕ) : Type 0 where
  pub entry : McfgEntry
  pub first : First segment bus entry (entries table)
  pub from : entry.base_address ≤ address
  pub to : address + 4096 ≤ entry.base_address + (entry.bus_number_end - entry.bus_number_start + 1) * 2 ^ 20

abbrev pub AddressIsInWindow : Type 0
AddressIsInWindow =
    (table : List ℕ) (segment bus device function address : ℕ) →
    physical_address_of table segment bus device function ≡ Ok address →
    InWindow table segment bus address
