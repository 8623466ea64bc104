-- Laws about the root table: its answer, and what it is where there is one.
use Rattle.std.proofs.Common.{ℕ, ◌≤◌, ◌≡◌, refl, sym, ◌∙◌, subst, List, Bool, true, false, arith, length, length-take-le}
use Rattle.std.specs.Prelude.{Result, Ok, Err}
use Rattle.field.specs.Then.{and_then}
use Rattle.field.proofs.FirstLaws.{err_not_ok}
use Rattle.field.proofs.ThenLaws.{then_ok, then_err}
use Rattle.refusal.specs.declared.Refusal.{Refusal}
use Rattle.refusal.specs.declared.Refusal.TheVariants.{WrongRanges}
use Rattle.memory.specs.Ranges.{right}
use Rattle.memory.specs.Places.{view_of}
use Rattle.memory.proofs.AskedLaws.{asked_right, asked_wrong}
use Rattle.rsdp.specs.Asked.{root_pointer_at}
use Rattle.rsdp.specs.Pointer.{root_pointer_of}
use Rattle.rsdp.specs.declared.Rsdp.{Rsdp}
use Rattle.sdt.specs.Header.{header_size, length_of, whole_of}
use Rattle.sdt.specs.Valid.{root_checked}
use Rattle.sdt.specs.Statements.{ValidTable}
use Rattle.sdt.specs.declared.Wanted.TheVariants.{Signature}
use Rattle.sdt.proofs.ValidLaws.{valid_root_sums}
use Rattle.tables.specs.Root.{kind_of, address_of, signature_of, root_table_in, root_at, root_of}
use Rattle.tables.specs.Good.{GoodRoot}
use Rattle.tables.specs.declared.RootTable.{RootTable}
use Rattle.tables.specs.declared.RootKind.{RootKind}

-- What an answer was that led on to a value.
pub record Led {T U E : Type 0} (r : Result T E) (next : T → Result U E) (y : U) : Type 0 where
  pub value : T
  pub was : r ≡ Ok value
  pub leads : next value ≡ Ok y

pub led : {T U E : Type 0} (r : Result T E) (next : T → Result U E) (y : U) → and_then r next ≡ Ok y → Led r next y
led (Ok x) next y e = record { value = x; was = refl; leads = e }
led (Err d) next y e = err_not_ok y d e

-- Two answers with a value are the same only if the values are.
pub ok_same : {T E : Type 0} (x y : T) → ◌≡◌ {A = Result T E} (Ok x) (Ok y) → x ≡ y
ok_same x y e = cc

-- The root table follows the root pointer's answer, and a wrong list of ranges is refused.
module _ (image words : List ℕ) (rsdp : ℕ) where
  module _ (ranged : right (length image) words ≡ true) where
    pub root_unled : (r : Refusal) → root_pointer_of (view_of image words rsdp) ≡ Err r → root_of image words rsdp ≡ Err r
    unfolding root_of root_pointer_at
    root_unled r e = then_err _ (asked_right image words _ ranged ∙ e)

    pub root_led : (pointer : Rsdp) → root_pointer_of (view_of image words rsdp) ≡ Ok pointer
        → root_of image words rsdp ≡ root_at image words (kind_of pointer) (address_of (kind_of pointer) pointer)
    unfolding root_of root_pointer_at
    root_led pointer e = then_ok _ (asked_right image words _ ranged ∙ e)

  pub root_wrong : right (length image) words ≡ false → root_of image words rsdp ≡ Err WrongRanges
  unfolding root_of root_pointer_at
  root_wrong e = then_err _ (asked_wrong image words _ e)

  pub root_right : (root : RootTable) → root_of image words rsdp ≡ Ok root → right (length image) words ≡ true
  root_right root e = go (right (length image) words) refl
    where
      go : (b : Bool) → right (length image) words ≡ b → right (length image) words ≡ true
      go true q = q
      go false q = err_not_ok root WrongRanges (sym (root_wrong q) ∙ e)

-- The root table of a kind at an address, as the check there answers.
module _ (image words : List ℕ) (kind : RootKind) (address : ℕ) where
  pub root_refused : (r : Refusal) → root_checked (Signature (signature_of kind)) (view_of image words address) ≡ Err r → root_at image words kind address ≡ Err r
  unfolding root_at
  root_refused r e = then_err _ e

  pub root_valid : root_checked (Signature (signature_of kind)) (view_of image words address) ≡ Ok tt
      → root_at image words kind address ≡ Ok (root_table_in words kind address (view_of image words address))
  unfolding root_at
  root_valid e = then_ok _ e

-- Where there is a root table, the list of ranges is right and the table is valid and good.
pub record Rooted (image words : List ℕ) (root : RootTable) : Type 0 where
  pub ranged : right (length image) words ≡ true
  pub valid : ValidTable (Signature (signature_of root.kind)) header_size (view_of image words root.address)
  pub good : GoodRoot image words root

rooted_in : (image words : List ℕ) (kind : RootKind) (address : ℕ) → right (length image) words ≡ true
    → ValidTable (Signature (signature_of kind)) header_size (view_of image words address)
    → Rooted image words (root_table_in words kind address (view_of image words address))
unfolding root_table_in
rooted_in image words kind address ranged valid =
    record {
      ranged = ranged;
      valid = valid;
      good = record { mapped = valid.mapped; header = valid.header; sums = valid.sums; stands = refl; long = refl; sized = refl; counted = refl };
    }

pub rooted_at : (image words : List ℕ) (kind : RootKind) (address : ℕ) (root : RootTable) → right (length image) words ≡ true
    → root_at image words kind address ≡ Ok root → Rooted image words root
unfolding root_at
rooted_at image words kind address root ranged e =
    let checked = led _ _ root e in
    subst (Rooted image words) (ok_same _ root checked.leads)
    (rooted_in image words kind address ranged (valid_root_sums _ (view_of image words address) checked.was))

pub rooted : (image words : List ℕ) (rsdp : ℕ) (root : RootTable) → root_of image words rsdp ≡ Ok root → Rooted image words root
unfolding root_of
rooted image words rsdp root e =
    let pointer = led (root_pointer_at image words rsdp) _ root e in
    rooted_at image words _ _ root (root_right image words rsdp root e) pointer.leads

-- Its table is mapped whole, so all of it can be read, the header first.
pub whole_long : {image words : List ℕ} {root : RootTable} → Rooted image words root
    → header_size ≤ length (whole_of (view_of image words root.address))
whole_long {image} {words} {root} r =
    let v = view_of image words root.address in
    omega (arith, length-take-le (length_of v) v r.good.mapped, r.good.header)
