-- The root table: ACPI 6.5, sections 5.2.7 "Root System Description Table" and 5.2.8 "Extended System Description Table".
use Rattle.std.specs.Prelude.{ℕ, zero, suc, ◌+◌, ◌-◌, ◌/◌, List, [], ◌∷◌, length, Option, Some, None, Result, Ok}
use Rattle.field.specs.First.{differ, when}
use Rattle.field.specs.Number.{number}
use Rattle.field.specs.Then.{and_then}
use Rattle.refusal.specs.declared.Refusal.{Refusal}
use Rattle.memory.specs.Ranges.{ranges_of}
use Rattle.memory.specs.Places.{place_of, view_of}
use Rattle.memory.specs.declared.Place.{Place}
use Rattle.rsdp.specs.Asked.{root_pointer_at}
use Rattle.rsdp.specs.declared.Rsdp.{Rsdp}
use Rattle.sdt.specs.Header.{header_size, length_of, whole_of}
use Rattle.sdt.specs.Valid.{root_checked}
use Rattle.sdt.specs.declared.Wanted.TheVariants.{Signature}
use Rattle.tables.specs.declared.RootTable.{RootTable}
use Rattle.tables.specs.declared.RootKind.{RootKind}
use Rattle.tables.specs.declared.RootKind.TheVariants.{Rsdt, Xsdt}

-- revision 0 leads to the RSDT, all others to the XSDT
unfoldable pub kind_of : Rsdp → RootKind
kind_of pointer = when (differ pointer.revision 0) Xsdt Rsdt

unfoldable pub address_of : RootKind → Rsdp → ℕ
address_of Rsdt pointer = pointer.rsdt_address
address_of Xsdt pointer = pointer.xsdt_address

-- "RSDT" and "XSDT", lowest byte first
unfoldable pub signature_of : RootKind → ℕ
signature_of Rsdt = 0x54445352
signature_of Xsdt = 0x54445358

-- the addresses in it have four bytes or eight
unfoldable pub size_of : RootKind → ℕ
size_of Rsdt = 4
size_of Xsdt = 8

-- n entries of the given size from offset `at` of the table on
unfoldable pub entries_from : ℕ → ℕ → ℕ → List ℕ → List ℕ
entries_from zero size at t = []
entries_from (suc n) size at t = number t at size ∷ entries_from n size (at + size) t

-- as many whole entries as follow the header; a cut-off rest is none
unfoldable pub entries_of : RootKind → List ℕ → List ℕ
entries_of kind t = entries_from ((length t - header_size) / size_of kind) (size_of kind) header_size t

-- the same of the bytes behind the header alone
unfoldable pub entries_in : RootKind → List ℕ → List ℕ
entries_in kind bytes = entries_from (length bytes / size_of kind) (size_of kind) 0 bytes

-- where an address stands in the slice
unfoldable pub offset_of : Option Place → ℕ
offset_of (Some place) = place.offset
offset_of None = 0

-- what is said of a root table that is valid: v is the view at its address
unfoldable pub root_table_in : List ℕ → RootKind → ℕ → List ℕ → RootTable
root_table_in words kind address v =
    record {
      kind = kind;
      address = address;
      at = offset_of (place_of (ranges_of words) address);
      len = length_of v;
      entry_size = size_of kind;
      entries = (length_of v - header_size) / size_of kind;
    }

-- the root table of a kind at an address, or what refuses it
unfoldable pub root_at : List ℕ → List ℕ → RootKind → ℕ → Result RootTable Refusal
root_at image words kind address =
    and_then (root_checked (Signature (signature_of kind)) (view_of image words address))
    (λ _. Ok (root_table_in words kind address (view_of image words address)))

-- the root table that the root pointer leads to, or the root pointer's refusal
unfoldable pub root_of : List ℕ → List ℕ → ℕ → Result RootTable Refusal
root_of image words rsdp =
    and_then (root_pointer_at image words rsdp) (λ pointer. root_at image words (kind_of pointer) (address_of (kind_of pointer) pointer))

-- the addresses that a root table lists
unfoldable pub listed : List ℕ → List ℕ → RootTable → List ℕ
listed image words root = entries_of root.kind (whole_of (view_of image words root.address))
