-- Questions about a table that is found first, and about one that such a table leads to.
use Rattle.std.specs.Prelude.{ℕ, List, Result, Ok}
use Rattle.field.specs.Then.{and_then}
use Rattle.refusal.specs.declared.Refusal.{Refusal}
use Rattle.memory.specs.Places.{view_of}
use Rattle.sdt.specs.Header.{header_size, whole_of}
use Rattle.sdt.specs.declared.Wanted.TheVariants.{Signature}
use Rattle.tables.specs.Tables.{table_at}
use Rattle.tables.specs.declared.Table.{Table}
use Rattle.answers.specs.Aml.{aml_of}
use Rattle.answers.specs.declared.aml.Aml.{Aml}

-- what follows the header of the DSDT that a FADT leads to
unfoldable pub dsdt_of : List ℕ → List ℕ → Result ℕ Refusal → Result Aml Refusal
dsdt_of image words address = and_then address (λ p. and_then (table_at image words p (Signature 0x54445344) header_size) aml_of)

-- a question about a table that is found first: the table's bytes decide, or the refusal of finding it
abbrev pub asked_of : {A : Type 0} → List ℕ → List ℕ → (List ℕ → Result A Refusal) → Result Table Refusal → Result A Refusal
asked_of image words ask found = and_then found (λ t. ask (whole_of (view_of image words t.address)))

-- the bytes of a table that is found
abbrev pub whole_found : List ℕ → List ℕ → Result Table Refusal → Result (List ℕ) Refusal
whole_found image words found = asked_of image words Ok found
