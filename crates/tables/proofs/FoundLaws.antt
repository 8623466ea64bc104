-- Laws about what is found: every table that is answered is good, and it is the n-th valid one of those listed.
use Rattle.std.proofs.Common.{ℕ, ◌%◌, ◌≤◌, ◌≡◌, refl, ap, sym, ◌∙◌, subst, List, Bool, true, false, not, arith, length, take, sum}
use Rattle.std.specs.Prelude.{Option, Some, None, Result, Ok, Err}
use Rattle.std.specs.Option.{option_map, ok_or}
use Rattle.field.specs.First.{differ}
use Rattle.field.specs.Number.{number}
use Rattle.field.specs.Part.{part}
use Rattle.field.specs.Text.{text}
use Rattle.field.specs.Choice.{nth_valid, Nth}
use Rattle.field.proofs.FirstLaws.{err_not_ok}
use Rattle.field.proofs.NumberLaws.{number_take}
use Rattle.field.proofs.PartLaws.{part_take, part_of_take}
use Rattle.field.proofs.ChoiceLaws.{chosen_is_nth, nothing_means_few}
use Rattle.refusal.specs.declared.Refusal.{Refusal}
use Rattle.refusal.specs.declared.Refusal.TheVariants.{WrongRanges, NoValidTable}
use Rattle.memory.specs.Ranges.{ranges_of, right}
use Rattle.memory.specs.Places.{place_of, view_of}
use Rattle.memory.specs.declared.Place.{Place}
use Rattle.memory.proofs.PlaceLaws.{inside_the_slice, inside_one_range, view_at, view_none, view_room}
use Rattle.memory.proofs.AskedLaws.{asked_right, asked_wrong}
use Rattle.sdt.specs.Header.{header_size, length_of, whole_of}
use Rattle.sdt.specs.Valid.{wrong_signature}
use Rattle.sdt.specs.Statements.{ValidTable}
use Rattle.sdt.specs.declared.Wanted.{Wanted}
use Rattle.sdt.specs.declared.Wanted.TheVariants.{Signature, Any}
use Rattle.sdt.proofs.ValidLaws.{valid_sums}
use Rattle.tables.specs.Root.{signature_of, offset_of, root_of, listed}
use Rattle.tables.specs.Tables.{table_in, checked_at, valid_table, table_at, nth_listed, nth_table}
use Rattle.tables.specs.Statements.{GoodTable, FoundIsGood, TableAtIsGood, RootIsGood, FoundIsNth, NotFoundMeansFew}
use Rattle.tables.specs.declared.RootTable.{RootTable}
use Rattle.tables.specs.declared.Table.{Table}
use Rattle.tables.proofs.RootLaws.{Led, led, ok_same, rooted}
use Rattle.tables.proofs.TableLaws.{nth_of_table}

-- The signature stands in the first bytes, so that of the table alone is that of all that is mapped.
kind_of_whole : (wanted : Wanted) (k : ℕ) (v : List ℕ) → 4 ≤ k → wrong_signature wanted (take k v) ≡ wrong_signature wanted v
unfolding wrong_signature
kind_of_whole (Signature n) k v h = ap (λ (s : ℕ). differ s n) (number_take 4 k v 0 h)
kind_of_whole Any k v h = ap (λ (l : List ℕ). not (text l)) (part_of_take v k 0 4 h)

-- A valid table at an address is good: its place has room for all of it, so its bytes are those of the slice there.
good_at : (image words : List ℕ) (wanted : Wanted) (least p : ℕ) → right (length image) words ≡ true
    → ValidTable wanted least (view_of image words p)
    → GoodTable image words wanted least (record { address = p; at = offset_of (place_of (ranges_of words) p); len = length_of (view_of image words p) })
unfolding offset_of
good_at image words wanted least p ranged valid = go (place_of (ranges_of words) p) refl
  where
    v : List ℕ
    v = view_of image words p

    go : (place : Option Place) → place_of (ranges_of words) p ≡ place
        → GoodTable image words wanted least (record { address = p; at = offset_of place; len = length_of (view_of image words p) })
    go (Some place) q =
        let fits : length_of v ≤ place.room = omega (arith, valid.mapped, view_room image words p place ranged q) in
        let bytes : part image place.offset (length_of v) ≡ whole_of v =
        sym (part_take image place.offset place.room (length_of v) fits) ∙ ap (take (length_of v)) (sym (view_at image words p place q)) in
        record {
          ranged = ranged;
          room = place.room;
          place = q;
          held = inside_one_range words p place q;
          fits = fits;
          inside = omega (arith, inside_the_slice (length image) words p place ranged q);
          bytes = bytes;
          stated = ap (λ (l : List ℕ). number l 4 4) bytes ∙ number_take 4 (length_of v) v 4 (omega (arith, valid.header));
          header = valid.header;
          enough = valid.enough;
          kind = ap (wrong_signature wanted) bytes ∙ kind_of_whole wanted (length_of v) v (omega (arith, valid.header)) ∙ valid.kind;
          sums = ap (λ (l : List ℕ). sum l % 256) bytes ∙ valid.sums;
        }
    go None q = absurd (omega (arith, valid.mapped, valid.header, ap length (view_none image words p q)))

-- The same of a table that nothing refuses.
good_in : (image words : List ℕ) (wanted : Wanted) (least p : ℕ) → right (length image) words ≡ true
    → checked_at image words wanted least p ≡ Ok tt → GoodTable image words wanted least (table_in image words p)
unfolding table_in checked_at
good_in image words wanted least p ranged e = good_at image words wanted least p ranged (valid_sums wanted least (view_of image words p) e)

-- Where a table is found there is a root table, and what is answered is the table at the chosen address of those listed.
record FoundFrom (image words : List ℕ) (rsdp : ℕ) (wanted : Wanted) (least n : ℕ) (table : Table) : Type 0 where
  pub root : RootTable
  pub rooted : root_of image words rsdp ≡ Ok root
  pub address : ℕ
  pub nth : Nth (checked_at image words wanted least) n (listed image words root) address
  pub told : table_in image words address ≡ table

found_from : (image words : List ℕ) (rsdp : ℕ) (wanted : Wanted) (least n : ℕ) (table : Table)
    → nth_table image words rsdp wanted least n ≡ Ok table → FoundFrom image words rsdp wanted least n table
unfolding nth_table nth_listed
found_from image words rsdp wanted least n table e = choose (nth_valid check n (listed image words root.value)) refl root.leads
  where
    check : ℕ → Result (Unit {0}) Refusal
    check = checked_at image words wanted least

    root : Led (root_of image words rsdp) (λ r. ok_or (option_map (table_in image words) (nth_valid check n (listed image words r))) NoValidTable) table
    root = led _ _ table e

    choose : (c : Option ℕ) → nth_valid check n (listed image words root.value) ≡ c → ok_or (option_map (table_in image words) c) NoValidTable ≡ Ok table
        → FoundFrom image words rsdp wanted least n table
    choose None q same = err_not_ok table NoValidTable same
    choose (Some p) q same =
        record { root = root.value; rooted = root.was; address = p; nth = chosen_is_nth Refusal check n (listed image words root.value) p q; told = ok_same _ table same }

-- The choice is the n-th valid one of the list, and the answer tells its address.
pub found_is_nth : FoundIsNth
unfolding table_in
found_is_nth image words rsdp wanted least n table e =
    let f = found_from image words rsdp wanted least n table e in
    record {
      root = f.root;
      rooted = f.rooted;
      nth = subst (λ (t : Table). Nth (checked_at image words wanted least) n (listed image words f.root) t.address) f.told f.nth;
    }

-- The chosen table is valid, and the list of ranges is right where there is a root table.
pub found_is_good : FoundIsGood
found_is_good image words rsdp wanted least n table e =
    let f = found_from image words rsdp wanted least n table e in
    subst (GoodTable image words wanted least) f.told
    (good_in image words wanted least f.address (rooted image words rsdp f.root f.rooted).ranged f.nth.valid)

-- The only refusal of a choice is that no table is valid, and it means that nothing was chosen.
not_listed : {T : Type 0} (told : ℕ → T) (c : Option ℕ) (refusal : Refusal) → ok_or (option_map told c) NoValidTable ≡ Err refusal
    → (refusal ≡ NoValidTable) × (c ≡ None)
not_listed told None refusal e = (cc, refl)
not_listed told (Some p) refusal e = err_not_ok (told p) refusal (sym e)

-- Nothing is chosen only where not more than n are valid.
pub not_found_means_few : NotFoundMeansFew
unfolding nth_listed
not_found_means_few image words rsdp wanted least n root refusal e refused =
    let none =
    not_listed (table_in image words) (nth_valid (checked_at image words wanted least) n (listed image words root)) refusal
    (sym (nth_of_table image words rsdp wanted least n root e) ∙ refused) in
    (none.0, nothing_means_few Refusal (checked_at image words wanted least) n (listed image words root) none.1)

-- At an address a table is answered only where the list of ranges is right and nothing refuses it.
pub table_at_is_good : TableAtIsGood
unfolding table_at valid_table
table_at_is_good image words address wanted least table e = go (right (length image) words) refl
  where
    go : (b : Bool) → right (length image) words ≡ b → GoodTable image words wanted least table
    go false q = err_not_ok table WrongRanges (sym (asked_wrong image words _ q) ∙ e)
    go true q =
        let checked = led (checked_at image words wanted least address) _ table (sym (asked_right image words _ q) ∙ e) in
        subst (GoodTable image words wanted least) (ok_same _ table checked.leads) (good_in image words wanted least address q checked.was)

-- The root table is valid where it is answered, and stands where that says.
pub root_is_good : RootIsGood
root_is_good image words rsdp root e =
    let r = rooted image words rsdp root e in
    subst (GoodTable image words (Signature (signature_of root.kind)) header_size)
    (λ i. record { address = root.address; at = sym r.good.stands i; len = sym r.good.long i })
    (good_at image words _ header_size root.address r.ranged r.valid)
