-- Laws about the list of entries.
use Rattle.std.proofs.Common.{ℕ, zero, suc, ◌+◌, ◌<◌, ◌≤◌, ◌≡◌, refl, ap, ap₂, sym, ◌∙◌, List, ◌∷◌, arith, length, map, take, drop, get_or}
use Rattle.std.specs.Simd.{first_chunks}
use Rattle.std.proofs.lemmas.List.{drop-drop}
use Rattle.std.proofs.lemmas.Option.{slice_get-map, slice_get_past, slice_get-get_or}
use Rattle.std.specs.Prelude.{Ok, Err, Some, slice_get}
use Rattle.std.specs.Option.{ok_or, option_map}
use Rattle.refusal.specs.declared.Refusal.{Refusal}
use Rattle.refusal.specs.declared.Refusal.TheVariants.{NotThere}
use Rattle.field.specs.Number.{number}
use Rattle.field.proofs.ThenLaws.{then_ok, then_err}
use Rattle.field.proofs.NumberLaws.{number_take, number_drop}
use Rattle.sdt.specs.Valid.{whole_checked}
use Rattle.mcfg.specs.Entries.{length_checked, entry_at, entries_at, entries, entry_count_of, entry_of}
use Rattle.mcfg.specs.declared.McfgEntry.{McfgEntry}

number_in : (table : List ℕ) (at o n : ℕ) → o + n ≤ 16 → number (take 16 (drop at table)) o n ≡ number table (at + o) n
number_in table at o n h = number_take n 16 (drop at table) o h ∙ number_drop n at table o

number_first : (table : List ℕ) (at n : ℕ) → n ≤ 16 → number (take 16 (drop at table)) 0 n ≡ number table at n
number_first table at n h = number_in table at 0 n (omega arith) ∙ ap (λ (o : ℕ). number table o n) (omega arith)

-- An entry is in its own 16 bytes.
entry_in : (table : List ℕ) (at : ℕ) → entry_at (take 16 (drop at table)) 0 ≡ entry_at table at
unfolding entry_at
entry_in table at =
    rw (number_first table at 8 (omega arith), number_in table at 8 2 (omega arith), number_in table at 10 1 (omega arith), number_in table at 11 1 (omega arith))

-- The chunks of 16 bytes from an offset on are the entries there.
pub chunks_are_entries : (n at : ℕ) (table : List ℕ) → map (λ bytes. entry_at bytes 0) (first_chunks 16 n (drop at table)) ≡ entries_at table at n
unfolding entries_at
chunks_are_entries zero at table = refl
chunks_are_entries (suc n) at table =
    ap₂ (λ (e : McfgEntry) es. e ∷ es) (entry_in table at)
    (ap (λ l. map (λ bytes. entry_at bytes 0) (first_chunks 16 n l)) (drop-drop 16 at table) ∙ chunks_are_entries n (at + 16) table)

-- The table is whole by the definition of the tables that are handed over.
pub length_is_whole : (table : List ℕ) → whole_checked 44 table ≡ length_checked table
unfolding whole_checked length_checked
length_is_whole table = refl

pub refused_length : (table : List ℕ) {refusal : Refusal} → whole_checked 44 table ≡ Err refusal → length_checked table ≡ Err refusal
refused_length table e = sym (length_is_whole table) ∙ e

-- A table that is refused has no entries that could be told or counted.
pub refused_count : (table : List ℕ) {refusal : Refusal} → length_checked table ≡ Err refusal → entry_count_of table ≡ Err refusal
unfolding entry_count_of
refused_count table e = then_err _ e

pub refused_entry : (table : List ℕ) (k : ℕ) {refusal : Refusal} → length_checked table ≡ Err refusal → entry_of table k ≡ Err refusal
unfolding entry_of
refused_entry table k e = then_err _ e

-- Of a whole table the k-th entry is that of the k-th chunk, where there is one.
module _ (table : List ℕ) (list : List (List ℕ)) (k : ℕ) (e : length_checked table ≡ Ok tt) (same : map (λ bytes. entry_at bytes 0) list ≡ entries table) where
  entry_is : entry_of table k ≡ ok_or (option_map (λ bytes. entry_at bytes 0) (slice_get list k)) NotThere
  unfolding entry_of
  entry_is =
      then_ok _ e ∙ ap (λ es. ok_or (slice_get es k) NotThere) (sym same) ∙ ap (λ o. ok_or o NotThere) (slice_get-map (λ bytes. entry_at bytes 0) list k)

  pub entry_missing : length list ≤ k → entry_of table k ≡ Err NotThere
  entry_missing h = entry_is ∙ ap (λ o. ok_or (option_map (λ bytes. entry_at bytes 0) o) NotThere) (slice_get_past list k h)

  pub entry_found : (bytes : List ℕ) → k < length list → bytes ≡ get_or list k bytes → entry_of table k ≡ Ok (entry_at bytes 0)
  entry_found bytes h there =
      entry_is ∙ ap (λ o. ok_or (option_map (λ bytes. entry_at bytes 0) o) NotThere) (slice_get-get_or list k bytes h ∙ ap Some (sym there))
