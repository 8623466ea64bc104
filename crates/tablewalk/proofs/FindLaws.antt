-- Laws about a table that was found: its header is mapped, so its bytes can be handed to its reader.
use Rattle.std.proofs.Common.{ℕ, ◌≤◌, ◌≡◌, List, true, length}
use Rattle.std.specs.Prelude.{Ok}
use Rattle.memory.specs.Ranges.{right}
use Rattle.memory.specs.Places.{view_of}
use Rattle.sdt.specs.Header.{header_size}
use Rattle.sdt.specs.declared.Wanted.{Wanted}
use Rattle.tables.specs.Tables.{checked_at, nth_table}
use Rattle.tables.specs.declared.Table.{Table}
use Rattle.tables.proofs.TableLaws.{valid_header}
use Rattle.tables.proofs.FoundLaws.{found_is_good, found_is_nth}

pub record Mapped (image words : List ℕ) (address : ℕ) : Type 0 where
  pub ranged : right (length image) words ≡ true
  pub header : header_size ≤ length (view_of image words address)

-- What is found is good, and at an address that is not refused.
pub found_mapped : (image words : List ℕ) (rsdp : ℕ) (wanted : Wanted) (least n : ℕ) (t : Table)
    → nth_table image words rsdp wanted least n ≡ Ok t → Mapped image words t.address
unfolding checked_at
found_mapped image words rsdp wanted least n t e =
    record {
      ranged = (found_is_good image words rsdp wanted least n t e).ranged;
      header = valid_header wanted least (view_of image words t.address) (found_is_nth image words rsdp wanted least n t e).nth.valid;
    }
