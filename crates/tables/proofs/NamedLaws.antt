-- Laws about the bytes that count: an answer is the same in two images that agree on the bytes it names.
use Rattle.std.proofs.Common.{ℕ, ◌≡◌, refl, ap, ap₂, sym, ◌∙◌, subst, List, [], ◌∷◌, flat_map, arith, length, take, set, length-set}
use Rattle.std.specs.Prelude.{Option, Some, None, slice_get, Result, Ok, Err}
use Rattle.std.specs.Option.{option_map, ok_or}
use Rattle.field.specs.Then.{and_then}
use Rattle.field.specs.Choice.{nth_valid, looked_at, All}
use Rattle.field.specs.Choice.All.{none, with}
use Rattle.field.proofs.FirstLaws.{when_pass, err_not_ok}
use Rattle.field.proofs.ChoiceLaws.{only_looked_at, all_chosen, all_left, all_right, all_map}
use Rattle.refusal.specs.declared.Refusal.{Refusal}
use Rattle.refusal.specs.declared.Refusal.TheVariants.{NoValidTable, NotThere}
use Rattle.memory.specs.Places.{view_of}
use Rattle.memory.specs.Pieces.{Piece, AgreeOn, OutsideOf}
use Rattle.memory.proofs.PlaceLaws.{view_length_same}
use Rattle.memory.proofs.PieceLaws.{others_agree, not_mapped_outside}
use Rattle.memory.proofs.AskedLaws.{same_asked}
use Rattle.rsdp.specs.Asked.{root_pointer_at}
use Rattle.rsdp.specs.declared.Rsdp.{Rsdp}
use Rattle.rsdp.proofs.NamedLaws.{pointer_at_bytes, same_number}
use Rattle.sdt.specs.Header.{header_size, length_of, whole_of}
use Rattle.sdt.specs.Valid.{root_checked}
use Rattle.sdt.specs.declared.Wanted.{Wanted}
use Rattle.sdt.specs.declared.Wanted.TheVariants.{Signature}
use Rattle.sdt.proofs.ValidLaws.{table_bytes, root_bytes}
use Rattle.tables.specs.Root.{kind_of, address_of, signature_of, entries_of, root_table_in, root_at, root_of, listed}
use Rattle.tables.specs.Tables.{entry_of, table_in, checked_at, valid_table, table_at, nth_listed, nth_table}
use Rattle.tables.specs.Named.{header_at, whole_at, named_table, named_from, named_root, named_listed, named_find, OnlyNamed}
use Rattle.tables.specs.Statements.{RootNamed, EntryNamed, TableNamed, FindNamed}
use Rattle.tables.specs.declared.RootTable.{RootTable}
use Rattle.tables.specs.declared.RootKind.{RootKind}
use Rattle.tables.specs.declared.Table.{Table}
use Rattle.tables.proofs.RootLaws.{led, ok_same}

-- All there is to show is that two images that agree have the same answer: one with another byte changed is as long and agrees
-- on the named bytes, and a byte that no range holds is outside all pieces.
pub only_named {ℓ} : {A : Type ℓ} (answer : List ℕ → List ℕ → A) (named : List ℕ → List ℕ → List Piece)
    → ((image image' words : List ℕ) → length image ≡ length image' → All (AgreeOn image image' words) (named image words)
    → answer image words ≡ answer image' words)
    → OnlyNamed answer named
only_named answer named agreed =
    record {
      agreed = agreed;
      others = others;
      unmapped = λ image words j b e. others image words j b (not_mapped_outside words j (named image words) e);
    }
  where
    others : (image words : List ℕ) (j b : ℕ) → All (OutsideOf words j) (named image words) → answer (set image j b) words ≡ answer image words
    others image words j b outside =
        sym (agreed image (set image j b) words (sym (length-set image j b)) (others_agree image words j b (named image words) outside))

-- The first element of a list has what all have.
pub first : {A : Type 0} {P : A → Type 0} {p : A} {ps : List A} → All P (p ∷ ps) → P p
first (with h a) = h

-- What all pieces of some addresses have, those of each address have.
pub all_of_each : {A B : Type 0} {P : B → Type 0} (f : A → List B) (ps : List A) → All P (flat_map f ps) → All (λ p. All P (f p)) ps
all_of_each f [] a = none
all_of_each f (p ∷ ps) a = with (all_left (f p) (flat_map f ps) a) (all_of_each f ps (all_right (f p) (flat_map f ps) a))

-- A root table that is answered is the one at the address asked.
root_address : (image words : List ℕ) (kind : RootKind) (p : ℕ) (root : RootTable) → root_at image words kind p ≡ Ok root → p ≡ root.address
unfolding root_at root_table_in
root_address image words kind p root e =
    let checked = led (root_checked (Signature (signature_of kind)) (view_of image words p)) (λ _. Ok (root_table_in words kind p (view_of image words p))) root e in
    ap (λ (r : RootTable). r.address) (ok_same (root_table_in words kind p (view_of image words p)) root checked.leads)

-- Two images of one length.
module _ (image image' words : List ℕ) (l : length image ≡ length image') where
  -- Where the headers agree, so do the lengths they state; where that many bytes agree, the tables are the same.
  same_length : (p : ℕ) → AgreeOn image image' words (header_at p) → length_of (view_of image words p) ≡ length_of (view_of image' words p)
  same_length p header = same_number header_size _ _ header 4 4 (omega arith)

  pub same_whole : (p : ℕ) → AgreeOn image image' words (header_at p) → AgreeOn image image' words (whole_at image words p)
      → whole_of (view_of image words p) ≡ whole_of (view_of image' words p)
  same_whole p header whole = whole ∙ ap (λ (n : ℕ). take n (view_of image' words p)) (same_length p header)

  -- A table at an address: its check is the same, and what is said of it.
  same_check : (wanted : Wanted) (least p : ℕ) → All (AgreeOn image image' words) (named_table image words p wanted)
      → checked_at image words wanted least p ≡ checked_at image' words wanted least p
  unfolding checked_at named_table
  same_check wanted least p (with header whole) =
      table_bytes wanted least (view_of image words p) (view_of image' words p) (view_length_same image image' words p l) header
      (λ kind. first (subst (All (AgreeOn image image' words)) (when_pass _ _ _ kind) whole))

  same_told : (p : ℕ) → AgreeOn image image' words (header_at p) → table_in image words p ≡ table_in image' words p
  unfolding table_in
  same_told p header = rw (same_length p header)

  pub same_header : (wanted : Wanted) (p : ℕ) → All (AgreeOn image image' words) (named_table image words p wanted) → AgreeOn image image' words (header_at p)
  unfolding named_table
  same_header wanted p (with header whole) = header

  same_table : (p : ℕ) (wanted : Wanted) (least : ℕ) → All (AgreeOn image image' words) (named_table image words p wanted)
      → valid_table image words wanted least p ≡ valid_table image' words wanted least p
  unfolding valid_table
  same_table p wanted least agree =
      ap₂ (λ r t. and_then r (λ _. Ok t)) (same_check wanted least p agree) (same_told p (same_header wanted p agree))

  table_agreed : (p : ℕ) (wanted : Wanted) (least : ℕ) → All (AgreeOn image image' words) (named_table image words p wanted)
      → table_at image words p wanted least ≡ table_at image' words p wanted least
  unfolding table_at
  table_agreed p wanted least agree = same_asked image image' words l (same_table p wanted least agree)

  -- The root table at an address, and the one that a root pointer leads to.
  same_root_at : (kind : RootKind) (p : ℕ) → AgreeOn image image' words (header_at p) → AgreeOn image image' words (whole_at image words p)
      → root_at image words kind p ≡ root_at image' words kind p
  unfolding root_at root_table_in
  same_root_at kind p header whole =
      ap₂ (λ r t. and_then r (λ _. Ok t))
      (root_bytes (Signature (signature_of kind)) (view_of image words p) (view_of image' words p) (view_length_same image image' words p l) header whole)
      (rw (same_length p header))

  -- what a root pointer leads to
  led_by : List ℕ → Rsdp → Result RootTable Refusal
  led_by i pointer = root_at i words (kind_of pointer) (address_of (kind_of pointer) pointer)

  same_from : (p : Result Rsdp Refusal) → All (AgreeOn image image' words) (named_from image words p) → and_then p (led_by image) ≡ and_then p (led_by image')
  unfolding named_from led_by
  same_from (Ok pointer) (with header (with whole none)) = same_root_at (kind_of pointer) (address_of (kind_of pointer) pointer) header whole
  same_from (Err refusal) none = refl

  root_agreed : (rsdp : ℕ) → All (AgreeOn image image' words) (named_root image words rsdp) → root_of image words rsdp ≡ root_of image' words rsdp
  unfolding root_of named_root led_by
  root_agreed rsdp (with pointer table) =
      same_from (root_pointer_at image words rsdp) table
      ∙ ap (λ r. and_then r (led_by image')) (pointer_at_bytes image image' words rsdp l pointer)

  -- What it lists is the same, since it is the table whose bytes are named.
  same_listed_from : (p : Result Rsdp Refusal) (root : RootTable) → and_then p (led_by image) ≡ Ok root → All (AgreeOn image image' words) (named_from image words p)
      → listed image words root ≡ listed image' words root
  unfolding named_from listed led_by
  same_listed_from (Ok pointer) root e (with header (with whole none)) =
      let whole' = same_whole (address_of (kind_of pointer) pointer) header whole in
      ap (entries_of root.kind) (subst (λ (a : ℕ). whole_of (view_of image words a) ≡ whole_of (view_of image' words a)) (root_address image words (kind_of pointer) _ root e) whole')
  same_listed_from (Err refusal) root e none = err_not_ok root refusal e

  same_listed : (rsdp : ℕ) (root : RootTable) → root_of image words rsdp ≡ Ok root → All (AgreeOn image image' words) (named_root image words rsdp)
      → listed image words root ≡ listed image' words root
  unfolding root_of named_root led_by
  same_listed rsdp root e (with pointer table) = same_listed_from (root_pointer_at image words rsdp) root e table

  -- So an entry is the same too.
  entry_agreed : (rsdp k : ℕ) → All (AgreeOn image image' words) (named_root image words rsdp) → entry_of image words rsdp k ≡ entry_of image' words rsdp k
  unfolding entry_of
  entry_agreed rsdp k agree = go (root_of image words rsdp) refl ∙ ap (λ r. and_then r (entry image')) (root_agreed rsdp agree)
    where
      entry : List ℕ → RootTable → Result ℕ Refusal
      entry i root = ok_or (slice_get (listed i words root) k) NotThere

      go : (r : Result RootTable Refusal) → root_of image words rsdp ≡ r → and_then r (entry image) ≡ and_then r (entry image')
      go (Ok root) e = ap (λ (ps : List ℕ). ok_or (slice_get ps k) NotThere) (same_listed rsdp root e agree)
      go (Err refusal) e = refl

  -- Each table that is looked at is refused for the same reason, so the same one is chosen; and the same is said of it.
  module _ (wanted : Wanted) (least n : ℕ) where
    same_nth : (ps : List ℕ) → All (λ p. All (AgreeOn image image' words) (named_table image words p wanted)) (looked_at (checked_at image words wanted least) n ps)
        → nth_listed image words wanted least n ps ≡ nth_listed image' words wanted least n ps
    unfolding nth_listed
    same_nth ps agree =
        go (nth_valid (checked_at image words wanted least) n ps) refl
        ∙ ap (option_map (table_in image' words)) (only_looked_at Refusal (checked_at image words wanted least) (checked_at image' words wanted least) n ps (all_map (same_check wanted least) agree))
      where
        go : (c : Option ℕ) → nth_valid (checked_at image words wanted least) n ps ≡ c → option_map (table_in image words) c ≡ option_map (table_in image' words) c
        go None e = refl
        go (Some p) e = ap Some (same_told p (same_header wanted p (all_chosen (checked_at image words wanted least) _ n ps p e agree)))

    find_agreed : (rsdp : ℕ) → All (AgreeOn image image' words) (named_find image words rsdp wanted least n)
        → nth_table image words rsdp wanted least n ≡ nth_table image' words rsdp wanted least n
    unfolding nth_table named_find named_listed
    find_agreed rsdp agree =
        go (root_of image words rsdp) refl (all_right (named_root image words rsdp) _ agree)
        ∙ ap (λ r. and_then r (nth image')) (root_agreed rsdp (all_left (named_root image words rsdp) _ agree))
      where
        nth : List ℕ → RootTable → Result Table Refusal
        nth i root = ok_or (nth_listed i words wanted least n (listed i words root)) NoValidTable

        go : (r : Result RootTable Refusal) → root_of image words rsdp ≡ r → All (AgreeOn image image' words) (named_listed image words wanted least n r)
            → and_then r (nth image) ≡ and_then r (nth image')
        go (Ok root) e tables =
            ap (λ o. ok_or o NoValidTable)
            (same_nth (listed image words root) (all_of_each (λ p. named_table image words p wanted) _ tables)
            ∙ ap (nth_listed image' words wanted least n) (same_listed rsdp root e (all_left (named_root image words rsdp) _ agree)))
        go (Err refusal) e none = refl

-- The four questions: what two images that agree have in common is shown above.
pub root_named : RootNamed
root_named rsdp = only_named _ _ (λ image image' words l. root_agreed image image' words l rsdp)

pub entry_named : EntryNamed
entry_named rsdp k = only_named _ _ (λ image image' words l. entry_agreed image image' words l rsdp k)

pub table_named : TableNamed
table_named address wanted least = only_named _ _ (λ image image' words l. table_agreed image image' words l address wanted least)

pub find_named : FindNamed
find_named rsdp wanted least n = only_named _ _ (λ image image' words l. find_agreed image image' words l wanted least n rsdp)
