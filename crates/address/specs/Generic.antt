-- A generic address in a table (ACPI 6.5, section 5.2.3.2, Table 5.1): 12 bytes, of which
-- Address Space ID is byte 0, Register Bit Width 1, Register Bit Offset 2, Access Size 3, and Address the eight bytes from 4 on.
use Rattle.std.specs.Prelude.{ℕ, ◌+◌, List, Result, Ok}
use Rattle.refusal.specs.declared.Refusal.{Refusal}
use Rattle.field.specs.Number.{number}
use Rattle.field.specs.Then.{and_then}
use Rattle.address.specs.Space.{space_of}
use Rattle.address.specs.Size.{size_of}
use Rattle.address.specs.declared.GenericAddress.{GenericAddress}

-- The address at an offset, which is refused where its space or its access size is unknown.
unfoldable pub generic_address_at : List ℕ → ℕ → Result GenericAddress Refusal
generic_address_at bytes at =
    and_then (space_of (number bytes at 1)) (λ space.
    and_then (size_of (number bytes (at + 3) 1)) (λ size.
    Ok
    (record {
      address_space = space;
      bit_width = number bytes (at + 1) 1;
      bit_offset = number bytes (at + 2) 1;
      access_size = size;
      address = number bytes (at + 4) 8;
    })))
