-- What is shown of the root table, of its entries and of the tables that it lists beside the contracts.
use Rattle.std.specs.Prelude.{ℕ, ◌+◌, ◌%◌, ◌≤◌, ◌≡◌, List, true, false, length, sum, Some, Ok, Err}
use Rattle.field.specs.Number.{number}
use Rattle.field.specs.Part.{part}
use Rattle.field.specs.Choice.{count_valid, Nth}
use Rattle.memory.specs.Ranges.{ranges_of, right}
use Rattle.memory.specs.Places.{place_of, view_of}
use Rattle.memory.specs.Statements.{Within}
use Rattle.refusal.specs.declared.Refusal.{Refusal}
use Rattle.refusal.specs.declared.Refusal.TheVariants.{NoValidTable}
use Rattle.sdt.specs.Header.{header_size, whole_of}
use Rattle.sdt.specs.Valid.{wrong_signature}
use Rattle.sdt.specs.declared.Wanted.{Wanted}
use Rattle.sdt.specs.declared.Wanted.TheVariants.{Signature}
use Rattle.tables.specs.Root.{signature_of, root_of, listed}
use Rattle.tables.specs.Tables.{checked_at, entry_of, table_at, nth_table}
use Rattle.tables.specs.Named.{named_table, named_root, named_find, OnlyNamed}
use Rattle.tables.specs.declared.RootTable.{RootTable}
use Rattle.tables.specs.declared.Table.{Table}

-- A table that was found lies whole in one mapped range and inside the slice, where the answer says. Its bytes there are those
-- at its address, state the length that the answer says, are as many as was asked, have the signature wanted, and sum to 0.
pub record GoodTable (image words : List ℕ) (wanted : Wanted) (least : ℕ) (table : Table) : Type 0 where
  pub ranged : right (length image) words ≡ true
  pub room : ℕ
  pub place : place_of (ranges_of words) table.address ≡ Some (record { offset = table.at; room = room })
  pub held : Within words table.address (record { offset = table.at; room = room })
  pub fits : table.len ≤ room
  pub inside : table.at + table.len ≤ length image
  pub bytes : part image table.at table.len ≡ whole_of (view_of image words table.address)
  pub stated : number (part image table.at table.len) 4 4 ≡ table.len
  pub header : header_size ≤ table.len
  pub enough : least ≤ table.len
  pub kind : wrong_signature wanted (part image table.at table.len) ≡ false
  pub sums : sum (part image table.at table.len) % 256 ≡ 0

-- what is said of a root table as of any table
abbrev pub as_table : RootTable → Table
as_table root = record { address = root.address; at = root.at; len = root.len }

-- Every table that is answered is good: the n-th valid one, the one at an address, and the root table.
abbrev pub FoundIsGood : Type 0
FoundIsGood =
    (image words : List ℕ) (rsdp : ℕ) (wanted : Wanted) (least n : ℕ) (table : Table)
    → nth_table image words rsdp wanted least n ≡ Ok table → GoodTable image words wanted least table

abbrev pub TableAtIsGood : Type 0
TableAtIsGood =
    (image words : List ℕ) (address : ℕ) (wanted : Wanted) (least : ℕ) (table : Table)
    → table_at image words address wanted least ≡ Ok table → GoodTable image words wanted least table

abbrev pub RootIsGood : Type 0
RootIsGood =
    (image words : List ℕ) (rsdp : ℕ) (root : RootTable)
    → root_of image words rsdp ≡ Ok root
    → GoodTable image words (Signature (signature_of root.kind)) header_size (as_table root)

-- What is found is the n-th valid one, counted from 0, of the tables that the root table lists.
pub record NthListed (image words : List ℕ) (rsdp : ℕ) (wanted : Wanted) (least n : ℕ) (table : Table) : Type 0 where
  pub root : RootTable
  pub rooted : root_of image words rsdp ≡ Ok root
  pub nth : Nth (checked_at image words wanted least) n (listed image words root) table.address

abbrev pub FoundIsNth : Type 0
FoundIsNth =
    (image words : List ℕ) (rsdp : ℕ) (wanted : Wanted) (least n : ℕ) (table : Table)
    → nth_table image words rsdp wanted least n ≡ Ok table → NthListed image words rsdp wanted least n table

-- Where there is a root table the only refusal is that no table is valid, and it means that not more than n of the listed ones are.
abbrev pub NotFoundMeansFew : Type 0
NotFoundMeansFew =
    (image words : List ℕ) (rsdp : ℕ) (wanted : Wanted) (least n : ℕ) (root : RootTable) (refusal : Refusal)
    → root_of image words rsdp ≡ Ok root → nth_table image words rsdp wanted least n ≡ Err refusal
    → (refusal ≡ NoValidTable) × (count_valid (checked_at image words wanted least) (listed image words root) ≤ n)

-- Only the named bytes count, in every question.
abbrev pub RootNamed : Type 0
RootNamed = (rsdp : ℕ) → OnlyNamed (λ image words. root_of image words rsdp) (λ image words. named_root image words rsdp)

abbrev pub EntryNamed : Type 0
EntryNamed = (rsdp k : ℕ) → OnlyNamed (λ image words. entry_of image words rsdp k) (λ image words. named_root image words rsdp)

abbrev pub TableNamed : Type 0
TableNamed =
    (address : ℕ) (wanted : Wanted) (least : ℕ)
    → OnlyNamed (λ image words. table_at image words address wanted least) (λ image words. named_table image words address wanted)

abbrev pub FindNamed : Type 0
FindNamed =
    (rsdp : ℕ) (wanted : Wanted) (least n : ℕ)
    → OnlyNamed (λ image words. nth_table image words rsdp wanted least n) (λ image words. named_find image words rsdp wanted least n)
