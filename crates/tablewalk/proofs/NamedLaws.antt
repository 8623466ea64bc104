-- Only the named bytes count in the questions about tables that are found first.
use Rattle.std.proofs.Common.{ℕ, ◌≡◌, refl, ap, sym, ◌∙◌, subst, List, length}
use Rattle.std.specs.Prelude.{Option, Some, None, Result, Ok, Err}
use Rattle.std.specs.Option.{option_map, ok_or}
use Rattle.field.specs.Choice.{nth_valid, looked_at, All}
use Rattle.field.specs.Choice.All.{with}
use Rattle.field.specs.Then.{and_then}
use Rattle.field.proofs.FirstLaws.{when_pass, err_not_ok}
use Rattle.field.proofs.ChoiceLaws.{all_left, all_right, all_chosen, chosen_is_nth}
use Rattle.refusal.specs.declared.Refusal.{Refusal}
use Rattle.refusal.specs.declared.Refusal.TheVariants.{NoValidTable}
use Rattle.memory.specs.Places.{view_of}
use Rattle.memory.specs.Pieces.{AgreeOn}
use Rattle.sdt.specs.Header.{header_size, whole_of}
use Rattle.sdt.specs.declared.Wanted.{Wanted}
use Rattle.sdt.specs.declared.Wanted.TheVariants.{Signature}
use Rattle.sdt.proofs.ValidLaws.{valid_sums}
use Rattle.tables.specs.Root.{root_of, listed}
use Rattle.tables.specs.Tables.{table_in, checked_at, nth_listed, nth_table}
use Rattle.tables.specs.Named.{named_table, named_root, named_listed, named_find}
use Rattle.tables.specs.declared.Table.{Table}
use Rattle.tables.proofs.RootLaws.{Led, led, ok_same}
use Rattle.tables.proofs.NamedLaws.{only_named, first, all_of_each, same_whole, table_named, find_named}
use Rattle.fadt.specs.Values.{dsdt_address}
use Rattle.platform.specs.Model.{model_of}
use Rattle.answers.specs.Answer.{answer_of}
use Rattle.answers.specs.Aml.{aml_of}
use Rattle.answers.specs.declared.aml.Aml.{Aml}
use Rattle.tablewalk.specs.Asked.{dsdt_of, asked_of}
use Rattle.tablewalk.specs.Lists.{Untouched, FilledNumber, ListsAsked}
use Rattle.tablewalk.specs.Platform.{unknown_model, model_part, info_with, platform_info_of, platform_values, platform_answer}
use Rattle.tablewalk.specs.Named.{named_at, named_behind, named_dsdt, named_platform}
use Rattle.tablewalk.specs.Statements.{AskedNamed, ListsNamed, DsdtNamed, PlatformNamed}
use Rattle.refusal.specs.Number.{number_of as refusal_number}

-- Two images of one length, and a table that was found in the first.
module _ (image image' words : List ℕ) (l : length image ≡ length image') (wanted : Wanted) (least n : ℕ) where
  check : ℕ → Result (Unit {0}) Refusal
  check = checked_at image words wanted least

  -- A valid table's signature is the wanted one, so the whole of it is named.
  whole_at_lem : (p : ℕ) → checked_at image words wanted least p ≡ Ok tt → All (AgreeOn image image' words) (named_table image words p wanted)
      → whole_of (view_of image words p) ≡ whole_of (view_of image' words p)
  unfolding checked_at named_table
  whole_at_lem p valid (with header whole) =
      same_whole image image' words l p header
      (first (subst (All (AgreeOn image image' words)) (when_pass _ _ _ (valid_sums wanted least (view_of image words p) valid).kind) whole))

  -- The table that is chosen is among those looked at, and what is found is told of it.
  whole_chosen : (ps : List ℕ) (t : Table)
      → All (λ p. All (AgreeOn image image' words) (named_table image words p wanted)) (looked_at (checked_at image words wanted least) n ps)
      → ok_or (nth_listed image words wanted least n ps) NoValidTable ≡ Ok t
      → whole_of (view_of image words t.address) ≡ whole_of (view_of image' words t.address)
  unfolding nth_listed table_in
  whole_chosen ps t agree e = choose (nth_valid (checked_at image words wanted least) n ps) refl e
    where
      choose : (c : Option ℕ) → nth_valid (checked_at image words wanted least) n ps ≡ c → ok_or (option_map (table_in image words) c) NoValidTable ≡ Ok t
          → whole_of (view_of image words t.address) ≡ whole_of (view_of image' words t.address)
      choose None q same = err_not_ok t NoValidTable same
      choose (Some p) q same =
          subst (λ (u : Table). whole_of (view_of image words u.address) ≡ whole_of (view_of image' words u.address)) (ok_same (table_in image words p) t same)
          (whole_at_lem p (chosen_is_nth Refusal (checked_at image words wanted least) n ps p q).valid
          (all_chosen (checked_at image words wanted least) _ n ps p q agree))

  whole_found : (rsdp : ℕ) (t : Table) → All (AgreeOn image image' words) (named_find image words rsdp wanted least n)
      → nth_table image words rsdp wanted least n ≡ Ok t
      → whole_of (view_of image words t.address) ≡ whole_of (view_of image' words t.address)
  unfolding nth_table named_find named_listed
  whole_found rsdp t agree e =
      let root : Led (root_of image words rsdp) (λ r. ok_or (nth_listed image words wanted least n (listed image words r)) NoValidTable) t = led _ _ t e in
      whole_chosen (listed image words root.value) t
      (all_of_each (λ p. named_table image words p wanted) _
      (subst (λ (r : Result _ Refusal). All (AgreeOn image image' words) (named_listed image words wanted least n r)) root.was
      (all_right (named_root image words rsdp) _ agree)))
      root.leads

-- What is answered of a table that was found, and of a refusal, by the table's bytes and by the refusal alone: the same table is
-- found, and its bytes are the same, so the answer is.
found_agreed {ℓ} : {A : Type ℓ} (part : List ℕ → List ℕ → Result Table Refusal → A) (by_table : List ℕ → A) (by_refusal : Refusal → A)
    → ((image words : List ℕ) (t : Table) → part image words (Ok t) ≡ by_table (whole_of (view_of image words t.address)))
    → ((image words : List ℕ) (k : Refusal) → part image words (Err k) ≡ by_refusal k)
    → (rsdp : ℕ) (wanted : Wanted) (least n : ℕ) (image image' words : List ℕ) → length image ≡ length image'
    → All (AgreeOn image image' words) (named_find image words rsdp wanted least n)
    → part image words (nth_table image words rsdp wanted least n) ≡ part image' words (nth_table image' words rsdp wanted least n)
found_agreed part by_table by_refusal table refusal rsdp wanted least n image image' words l agree =
    go (nth_table image words rsdp wanted least n) refl
    ∙ ap (part image' words) ((find_named rsdp wanted least n).agreed image image' words l agree)
  where
    go : (f : Result Table Refusal) → nth_table image words rsdp wanted least n ≡ f → part image words f ≡ part image' words f
    go (Ok t) e =
        table image words t ∙ ap by_table (whole_found image image' words l wanted least n rsdp t agree e) ∙ sym (table image' words t)
    go (Err k) e = refusal image words k ∙ sym (refusal image' words k)

pub asked_named : AskedNamed
asked_named A rsdp wanted least n ask =
    only_named _ _
    (found_agreed (λ image words. asked_of image words ask) ask Err (λ image words t. refl) (λ image words k. refl) rsdp wanted least n)

pub lists_named : ListsNamed
lists_named rsdp wanted least n =
    only_named _ _
    (found_agreed ListsAsked FilledNumber (λ k. Untouched (refusal_number k)) (λ image words t. refl) (λ image words k. refl) rsdp wanted least n)

-- The table at the DSDT's address is the same, and so is what is answered of it.
module _ (image image' words : List ℕ) (l : length image ≡ length image') where
  dsdt_agreed : (v : Result ℕ Refusal) → All (AgreeOn image image' words) (named_at image words v) → dsdt_of image words v ≡ dsdt_of image' words v
  unfolding dsdt_of named_at
  dsdt_agreed (Ok p) agree =
      ap (λ (t : Result Table Refusal). and_then t aml_of) ((table_named p (Signature 0x54445344) header_size).agreed image image' words l agree)
  dsdt_agreed (Err k) agree = refl

  behind_agreed : (f : Result Table Refusal) → All (AgreeOn image image' words) (named_behind image words f)
      → asked_of image words (λ (t : List ℕ). dsdt_of image words (dsdt_address t)) f ≡ asked_of image words (λ (t : List ℕ). dsdt_of image' words (dsdt_address t)) f
  unfolding named_behind
  behind_agreed (Ok t) agree = dsdt_agreed (dsdt_address (whole_of (view_of image words t.address))) agree
  behind_agreed (Err k) agree = refl

pub dsdt_named : DsdtNamed
unfolding named_dsdt
dsdt_named rsdp =
    only_named _ _
    (λ image image' words l agree.
    behind_agreed image image' words l _ (all_right (named_find image words rsdp (Signature 0x50434146) 116 0) _ agree)
    ∙ (asked_named Aml rsdp (Signature 0x50434146) 116 0 (λ (t : List ℕ). dsdt_of image' words (dsdt_address t))).agreed image image' words l (all_left _ _ agree))

-- The same FADT and the same model.
pub platform_named : PlatformNamed
unfolding platform_answer platform_info_of model_part named_platform
platform_named rsdp =
    only_named _ _
    (λ image image' words l agree.
    ap (answer_of platform_values)
    ((asked_named _ rsdp (Signature 0x50434146) 116 0 (info_with (model_part image words (nth_table image words rsdp (Signature 0x43495041) 44 0)))).agreed image image' words l (all_left _ _ agree)
    ∙ ap (λ model. asked_of image' words (info_with model) (nth_table image' words rsdp (Signature 0x50434146) 116 0))
    (found_agreed model_part model_of (λ k. Ok unknown_model) (λ image words t. refl) (λ image words k. refl) rsdp (Signature 0x43495041) 44 0 image image' words l
    (all_right (named_find image words rsdp (Signature 0x50434146) 116 0) _ agree))))
