-- The AML of a DSDT or an SSDT: what follows its header (ACPI 6.5, section 5.2.11).
use Rattle.std.specs.Prelude.{◌+◌, ◌-◌, ◌^◌, Result, Ok, Err}
use Rattle.field.specs.First.{less, when}
use Rattle.refusal.specs.declared.Refusal.{Refusal}
use Rattle.refusal.specs.declared.Refusal.TheVariants.{NotThere}
use Rattle.sdt.specs.Header.{header_size}
use Rattle.tables.specs.declared.Table.{Table}
use Rattle.answers.specs.declared.aml.Aml.{Aml}

-- physical address and length of what follows the header; NotThere where that address would be 2^64
unfoldable pub aml_of : Table → Result Aml Refusal
aml_of t =
    when (less (t.address + header_size) (2 ^ 64))
    (Ok (record { address = t.address + header_size; length = t.len - header_size }))
    (Err NotThere)
