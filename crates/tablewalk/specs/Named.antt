-- The bytes that count for a table that another table leads to (docs/PROMISES.md, demand 3).
use Rattle.std.specs.Prelude.{ℕ, List, [], ◌++◌, Result, Ok, Err}
use Rattle.refusal.specs.declared.Refusal.{Refusal}
use Rattle.memory.specs.Places.{view_of}
use Rattle.memory.specs.Pieces.{Piece}
use Rattle.sdt.specs.Header.{whole_of}
use Rattle.sdt.specs.declared.Wanted.TheVariants.{Signature}
use Rattle.tables.specs.Tables.{nth_table}
use Rattle.tables.specs.Named.{named_table, named_find}
use Rattle.tables.specs.declared.Table.{Table}
use Rattle.fadt.specs.Values.{dsdt_address}

-- the DSDT at the address that a FADT gives
unfoldable pub named_at : List ℕ → List ℕ → Result ℕ Refusal → List Piece
named_at image words (Ok p) = named_table image words p (Signature 0x54445344)
named_at image words (Err e) = []

-- the DSDT that the FADT leads to, where there is a FADT
unfoldable pub named_behind : List ℕ → List ℕ → Result Table Refusal → List Piece
named_behind image words (Ok t) = named_at image words (dsdt_address (whole_of (view_of image words t.address)))
named_behind image words (Err e) = []

-- The DSDT: what finding the FADT depends on, and then the table that it leads to.
unfoldable pub named_dsdt : List ℕ → List ℕ → ℕ → List Piece
named_dsdt image words rsdp =
    named_find image words rsdp (Signature 0x50434146) 116 0
    ++ named_behind image words (nth_table image words rsdp (Signature 0x50434146) 116 0)

-- Power profile, model and timer: what finding the FADT depends on, and what finding the MADT does.
unfoldable pub named_platform : List ℕ → List ℕ → ℕ → List Piece
named_platform image words rsdp =
    named_find image words rsdp (Signature 0x50434146) 116 0 ++ named_find image words rsdp (Signature 0x43495041) 44 0
