-- Laws about what refuses a table: what each finding of the reader makes of the answer, and what a valid table is.
use Rattle.std.proofs.Common.{ℕ, ◌+◌, ◌%◌, ◌≤◌, ◌<◌, max, ◌≡◌, refl, ap, ap₂, sym, ◌∙◌, List, [], ◌∷◌, ◌++◌, Bool, true, false, not, ◌&&◌, arith, length, take, sum, ◌⊎◌, inl, inr}
use Rattle.std.specs.Prelude.{Ok, Err, slice_range}
use Rattle.std.proofs.lemmas.Slice.{between_from_start}
use Rattle.refusal.specs.Number.{number_of}
use Rattle.refusal.specs.declared.Refusal.{Refusal}
use Rattle.refusal.specs.declared.Refusal.TheVariants.{RootNotMapped, WrongSignature, WrongOemId, WrongTableId, WrongChecksum, TooShort, NoValidTable}
use Rattle.field.specs.First.{less, differ, when, Reason, ◌gives◌, checked}
use Rattle.field.specs.Number.{number}
use Rattle.field.specs.Part.{part}
use Rattle.field.specs.Text.{text}
use Rattle.field.proofs.FirstLaws.{less_yes, less_no, less_false, differ_false, hit, pass, all_clear, append_stops, append_passes, ascends, ascending}
use Rattle.field.proofs.NumberLaws.{number_take}
use Rattle.field.proofs.PartLaws.{part_of_take}
use Rattle.sdt.specs.Header.{header_size, length_of, maker_of, table_id_of, whole_of}
use Rattle.sdt.specs.Valid.{wrong_signature, wrong_sum, cut_off, header_reasons, table_reasons, table_checked, root_reasons, root_checked}
use Rattle.sdt.specs.Statements.{ValidSums, ValidRootSums, TableBytes, RootBytes, TableReasonsAscend, RootReasonsAscend}
use Rattle.sdt.specs.declared.Wanted.{Wanted}
use Rattle.sdt.specs.declared.Wanted.TheVariants.{Signature, Any}

-- The two last reasons to refuse a whole table, which `check_sum` and `check_length` test.
abbrev pub sum_reason : List ℕ → List (Reason Refusal)
sum_reason whole = (differ (sum whole % 256) 0 gives WrongChecksum) ∷ []

abbrev pub length_reason : ℕ → ℕ → List (Reason Refusal)
length_reason len least = (less len (max header_size least) gives TooShort) ∷ []

-- What `get` hands out up to the stated length is the whole table.
pub got_whole : (t table : List ℕ) (n : ℕ) → n ≡ length_of t → table ≡ slice_range t 0 n → table ≡ whole_of t
got_whole t table n e h = h ∙ between_from_start t n ∙ ap (λ (k : ℕ). take k t) e

cut : (t : List ℕ) → length t < length_of t → cut_off t ≡ true
unfolding cut_off
cut t h = less_yes _ _ h

whole : (t : List ℕ) → length_of t ≤ length t → cut_off t ≡ false
unfolding cut_off
whole t h = less_no _ _ h

-- What the reader of a table finds, step by step, and what its answer then is.
module _ (wanted : Wanted) (least : ℕ) (t : List ℕ) where
  pub table_unmapped : length t < header_size → table_checked wanted least t ≡ Err NoValidTable
  unfolding table_checked
  table_unmapped h = hit _ NoValidTable _ (less_yes (length t) header_size h)

  module _ (mapped : header_size ≤ length t) where
    pub table_header : (r : Refusal) → checked (header_reasons wanted t) ≡ Err r → table_checked wanted least t ≡ Err r
    unfolding table_checked table_reasons
    table_header r e = pass _ NoValidTable _ (less_no (length t) header_size mapped) (append_stops (header_reasons wanted t) _ r e)

    module _ (good : checked (header_reasons wanted t) ≡ Ok tt) where
      table_rest : {b : Bool} → cut_off t ≡ b
          → table_checked wanted least t ≡ checked ((not b && wrong_sum t gives WrongChecksum) ∷ (length_reason (length_of t) least ++ (b gives NoValidTable) ∷ []))
      unfolding table_checked table_reasons
      table_rest e =
          pass _ NoValidTable _ (less_no (length t) header_size mapped)
          (append_passes (header_reasons wanted t) _ good
          ∙ ap (λ (b : Bool). checked ((not b && wrong_sum t gives WrongChecksum) ∷ (length_reason (length_of t) least ++ (b gives NoValidTable) ∷ []))) e)

      module _ (behind : length t < length_of t) where
        pub cut_short : (r : Refusal) → checked (length_reason (length_of t) least) ≡ Err r → table_checked wanted least t ≡ Err r
        unfolding checked when
        cut_short r e = table_rest (cut t behind) ∙ append_stops (length_reason (length_of t) least) ((true gives NoValidTable) ∷ []) r e

        pub cut_long : checked (length_reason (length_of t) least) ≡ Ok tt → table_checked wanted least t ≡ Err NoValidTable
        unfolding checked when
        cut_long e = table_rest (cut t behind) ∙ append_passes (length_reason (length_of t) least) ((true gives NoValidTable) ∷ []) e

      module _ (all : length_of t ≤ length t) where
        table_whole : table_checked wanted least t ≡ checked (sum_reason (whole_of t) ++ length_reason (length_of t) least)
        unfolding wrong_sum checked when
        table_whole = table_rest (whole t all)

        pub table_sum : (r : Refusal) → checked (sum_reason (whole_of t)) ≡ Err r → table_checked wanted least t ≡ Err r
        table_sum r e = table_whole ∙ append_stops (sum_reason (whole_of t)) _ r e

        pub table_length : checked (sum_reason (whole_of t)) ≡ Ok tt → table_checked wanted least t ≡ checked (length_reason (length_of t) least)
        table_length e = table_whole ∙ append_passes (sum_reason (whole_of t)) _ e

-- The same of the root table.
module _ (wanted : Wanted) (t : List ℕ) where
  pub root_unmapped : (length t < header_size) ⊎ (length t < length_of t) → root_checked wanted t ≡ Err RootNotMapped
  unfolding root_checked root_reasons checked when
  root_unmapped (inl h) = rw (less_yes (length t) header_size h)
  root_unmapped (inr h) = go (less (length t) header_size) refl
    where
      go : (b : Bool) → less (length t) header_size ≡ b → root_checked wanted t ≡ Err RootNotMapped
      go true e = rw e
      go false e = rw (e, cut t h)

  module _ (mapped : header_size ≤ length t) where
    module _ (all : length_of t ≤ length t) where
      root_rest : root_checked wanted t ≡ checked (header_reasons wanted t ++ (sum_reason (whole_of t) ++ length_reason (length_of t) header_size))
      unfolding root_checked root_reasons wrong_sum
      root_rest = pass _ RootNotMapped _ (less_no (length t) header_size mapped) (pass _ RootNotMapped _ (whole t all) refl)

      pub root_header : (r : Refusal) → checked (header_reasons wanted t) ≡ Err r → root_checked wanted t ≡ Err r
      root_header r e = root_rest ∙ append_stops (header_reasons wanted t) _ r e

      module _ (good : checked (header_reasons wanted t) ≡ Ok tt) where
        pub root_sum : (r : Refusal) → checked (sum_reason (whole_of t)) ≡ Err r → root_checked wanted t ≡ Err r
        root_sum r e = root_rest ∙ append_passes (header_reasons wanted t) _ good ∙ append_stops (sum_reason (whole_of t)) _ r e

        pub root_length : checked (sum_reason (whole_of t)) ≡ Ok tt → root_checked wanted t ≡ checked (length_reason (length_of t) header_size)
        root_length e = root_rest ∙ append_passes (header_reasons wanted t) _ good ∙ append_passes (sum_reason (whole_of t)) _ e

-- Where nothing is refused, no test of the list holds.
pub valid_sums : ValidSums
unfolding table_checked table_reasons header_reasons cut_off wrong_sum
valid_sums wanted least t e =
    let c₁ = all_clear _ NoValidTable _ e in
    let c₂ = all_clear _ WrongSignature _ c₁.others in
    let c₃ = all_clear _ WrongOemId _ c₂.others in
    let c₄ = all_clear _ WrongTableId _ c₃.others in
    let c₅ = all_clear _ WrongChecksum _ c₄.others in
    let c₆ = all_clear _ TooShort _ c₅.others in
    let c₇ = all_clear _ NoValidTable _ c₆.others in
    let mapped = less_false (length t) (length_of t) c₇.fails in
    let enough = less_false (length_of t) (max header_size least) c₆.fails in
    record {
      kind = c₂.fails;
      mapped = mapped;
      header = omega arith;
      enough = omega arith;
      sums = differ_false (sum (whole_of t) % 256) 0 (sym (ap (λ (b : Bool). not b && wrong_sum t) c₇.fails) ∙ c₅.fails);
    }

pub valid_root_sums : ValidRootSums
unfolding root_checked root_reasons header_reasons cut_off wrong_sum
valid_root_sums wanted t e =
    let c₁ = all_clear _ RootNotMapped _ e in
    let c₂ = all_clear _ RootNotMapped _ c₁.others in
    let c₃ = all_clear _ WrongSignature _ c₂.others in
    let c₄ = all_clear _ WrongOemId _ c₃.others in
    let c₅ = all_clear _ WrongTableId _ c₄.others in
    let c₆ = all_clear _ WrongChecksum _ c₅.others in
    let c₇ = all_clear _ TooShort _ c₆.others in
    let header = less_false (length_of t) header_size c₇.fails in
    record {
      kind = c₃.fails;
      mapped = less_false (length t) (length_of t) c₂.fails;
      header = header;
      enough = header;
      sums = differ_false (sum (whole_of t) % 256) 0 c₆.fails;
    }

pub table_reasons_ascend : TableReasonsAscend
unfolding table_reasons header_reasons ascends
table_reasons_ascend wanted least t = ascending number_of 7 (table_reasons wanted least t) tt

pub root_reasons_ascend : RootReasonsAscend
unfolding root_reasons header_reasons ascends
root_reasons_ascend wanted t = ascending number_of 6 (root_reasons wanted t) tt

-- What the header says is the same where the headers agree.
record SameHeader (wanted : Wanted) (t t' : List ℕ) : Type 0 where
  pub kind : wrong_signature wanted t ≡ wrong_signature wanted t'
  pub len : length_of t ≡ length_of t'
  pub maker : maker_of t ≡ maker_of t'
  pub id : table_id_of t ≡ table_id_of t'

-- A number or a part inside the header is that of the header alone.
same_number : (t t' : List ℕ) (at n : ℕ) → at + n ≤ header_size → take header_size t ≡ take header_size t' → number t at n ≡ number t' at n
same_number t t' at n h e =
    sym (number_take n header_size t at h) ∙ ap (λ (l : List ℕ). number l at n) e ∙ number_take n header_size t' at h

same_part : (t t' : List ℕ) (at n : ℕ) → at + n ≤ header_size → take header_size t ≡ take header_size t' → part t at n ≡ part t' at n
same_part t t' at n h e =
    sym (part_of_take t header_size at n h) ∙ ap (λ (l : List ℕ). part l at n) e ∙ part_of_take t' header_size at n h

same_kind : (wanted : Wanted) (t t' : List ℕ) → take header_size t ≡ take header_size t' → wrong_signature wanted t ≡ wrong_signature wanted t'
unfolding wrong_signature
same_kind (Signature n) t t' e = ap (λ (k : ℕ). differ k n) (same_number t t' 0 4 (omega arith) e)
same_kind Any t t' e = ap (λ (l : List ℕ). not (text l)) (same_part t t' 0 4 (omega arith) e)

same_header : (wanted : Wanted) (t t' : List ℕ) → take header_size t ≡ take header_size t' → SameHeader wanted t t'
same_header wanted t t' e =
    record {
      kind = same_kind wanted t t' e;
      len = same_number t t' 4 4 (omega arith) e;
      maker = same_part t t' 10 6 (omega arith) e;
      id = same_part t t' 16 8 (omega arith) e;
    }

same_cut : (t t' : List ℕ) → length t ≡ length t' → length_of t ≡ length_of t' → cut_off t ≡ cut_off t'
unfolding cut_off
same_cut t t' l h = ap₂ less l h

same_sum : (t t' : List ℕ) → length_of t ≡ length_of t' → whole_of t ≡ take (length_of t) t' → wrong_sum t ≡ wrong_sum t'
unfolding wrong_sum
same_sum t t' h e = ap (λ (l : List ℕ). differ (sum l % 256) 0) (e ∙ ap (λ (n : ℕ). take n t') h)

-- A wrong signature is answered before anything behind the header is looked at.
wrong_kind : (wanted : Wanted) (least : ℕ) (t : List ℕ) → wrong_signature wanted t ≡ true
    → table_checked wanted least t ≡ when (less (length t) header_size) (Err NoValidTable) (Err WrongSignature)
unfolding table_checked table_reasons header_reasons checked when
wrong_kind wanted least t e =
    rw e

-- Past the signature the whole table counts.
right_kind : (wanted : Wanted) (least : ℕ) (t t' : List ℕ) → length t ≡ length t' → SameHeader wanted t t'
    → whole_of t ≡ take (length_of t) t' → table_checked wanted least t ≡ table_checked wanted least t'
unfolding table_checked table_reasons header_reasons
right_kind wanted least t t' l same w =
    let cuts = same_cut t t' l same.len in
    let sums = same_sum t t' same.len w in
    rw (l, same.kind, same.maker, same.id, cuts, sums, same.len)

pub table_bytes : TableBytes
table_bytes wanted least t t' l e w = go (wrong_signature wanted t) refl
  where
    same : SameHeader wanted t t'
    same = same_header wanted t t' e

    go : (b : Bool) → wrong_signature wanted t ≡ b → table_checked wanted least t ≡ table_checked wanted least t'
    go true q =
        wrong_kind wanted least t q
        ∙ ap (λ (n : ℕ). when (less n header_size) (Err NoValidTable) (Err WrongSignature)) l
        ∙ sym (wrong_kind wanted least t' (sym same.kind ∙ q))
    go false q = right_kind wanted least t t' l same (w q)

pub root_bytes : RootBytes
unfolding root_checked root_reasons header_reasons
root_bytes wanted t t' l e w =
    let same = same_header wanted t t' e in
    let cuts = same_cut t t' l same.len in
    let sums = same_sum t t' same.len w in
    rw (l, same.kind, same.maker, same.id, cuts, sums, same.len)
