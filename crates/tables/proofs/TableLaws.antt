-- Laws about the tables that addresses lead to.
use Rattle.std.proofs.Common.{ℕ, zero, suc, ◌≤◌, ◌≡◌, refl, List, [], ◌∷◌, false, arith, length}
use Rattle.std.specs.Prelude.{Option, Result, Ok, Err}
use Rattle.std.specs.Option.{ok_or}
use Rattle.std.specs.Result.{result_ok}
use Rattle.std.specs.List.{filter_map, slice_get}
use Rattle.field.specs.First.{when}
use Rattle.field.specs.Choice.{nth_valid}
use Rattle.field.proofs.ThenLaws.{then_ok, then_err}
use Rattle.refusal.specs.declared.Refusal.{Refusal}
use Rattle.refusal.specs.declared.Refusal.TheVariants.{WrongRanges, NoValidTable, NotThere}
use Rattle.memory.specs.Ranges.{right}
use Rattle.memory.specs.Places.{view_of}
use Rattle.sdt.specs.Header.{header_size}
use Rattle.sdt.specs.Valid.{table_checked}
use Rattle.sdt.specs.declared.Wanted.{Wanted}
use Rattle.sdt.proofs.ValidLaws.{valid_sums}
use Rattle.tables.specs.Root.{root_of, listed}
use Rattle.tables.specs.Tables.{entry_of, table_in, checked_at, valid_table, nth_listed, nth_table}
use Rattle.tables.specs.declared.Table.{Table}
use Rattle.tables.specs.declared.RootTable.{RootTable}
use Rattle.tables.proofs.RootLaws.{root_wrong}

-- A valid table has its header mapped.
pub valid_header : (wanted : Wanted) (least : ℕ) (v : List ℕ) → table_checked wanted least v ≡ Ok tt → header_size ≤ length v
valid_header wanted least v e =
    let valid = valid_sums wanted least v e in
    omega arith

-- The table at an address, as the check there answers.
module _ (image words : List ℕ) (wanted : Wanted) (least p : ℕ) where
  pub table_refused : (r : Refusal) → table_checked wanted least (view_of image words p) ≡ Err r → valid_table image words wanted least p ≡ Err r
  unfolding valid_table checked_at
  table_refused r e = then_err _ e

  pub table_told : table_checked wanted least (view_of image words p) ≡ Ok tt → valid_table image words wanted least p ≡ Ok (table_in image words p)
  unfolding valid_table checked_at
  table_told e = then_ok _ e

-- The n-th of the tables that a list of addresses leads to is the one at the n-th valid address.
module _ (image words : List ℕ) (wanted : Wanted) (least : ℕ) where
  pub nth_shown : (n : ℕ) (ps : List ℕ)
      → slice_get (filter_map (λ p. result_ok (valid_table image words wanted least p)) ps) n ≡ nth_listed image words wanted least n ps
  unfolding nth_listed nth_valid valid_table when
  nth_shown n [] = refl
  nth_shown n (p ∷ ps) = go (checked_at image words wanted least p) refl n (λ m. nth_shown m ps)
    where
      tables : ℕ → Option Table
      tables q = result_ok (valid_table image words wanted least q)

      go : (r : Result (Unit {0}) Refusal) → checked_at image words wanted least p ≡ r → (n : ℕ)
          → ((m : ℕ) → slice_get (filter_map tables ps) m ≡ nth_listed image words wanted least m ps)
          → slice_get (filter_map tables (p ∷ ps)) n ≡ nth_listed image words wanted least n (p ∷ ps)
      go (Err d) e n later = rw e (later n)
      go (Ok u) e zero later = rw e refl
      go (Ok u) e (suc m) later = rw e (later m)

-- The answers follow the root table's, and a wrong list of ranges is refused.
module _ (image words : List ℕ) (rsdp : ℕ) where
  pub entry_of_table : (k : ℕ) (root : RootTable) → root_of image words rsdp ≡ Ok root → entry_of image words rsdp k ≡ ok_or (slice_get (listed image words root) k) NotThere
  unfolding entry_of
  entry_of_table k root e = then_ok _ e

  pub entry_of_refused : (k : ℕ) (r : Refusal) → root_of image words rsdp ≡ Err r → entry_of image words rsdp k ≡ Err r
  unfolding entry_of
  entry_of_refused k r e = then_err _ e

  pub entry_wrong : (k : ℕ) → right (length image) words ≡ false → entry_of image words rsdp k ≡ Err WrongRanges
  entry_wrong k e = entry_of_refused k WrongRanges (root_wrong image words rsdp e)

  module _ (wanted : Wanted) (least n : ℕ) where
    pub nth_of_table : (root : RootTable) → root_of image words rsdp ≡ Ok root
        → nth_table image words rsdp wanted least n ≡ ok_or (nth_listed image words wanted least n (listed image words root)) NoValidTable
    unfolding nth_table
    nth_of_table root e = then_ok _ e

    pub nth_of_refused : (r : Refusal) → root_of image words rsdp ≡ Err r → nth_table image words rsdp wanted least n ≡ Err r
    unfolding nth_table
    nth_of_refused r e = then_err _ e

    pub nth_wrong : right (length image) words ≡ false → nth_table image words rsdp wanted least n ≡ Err WrongRanges
    nth_wrong e = nth_of_refused WrongRanges (root_wrong image words rsdp e)
