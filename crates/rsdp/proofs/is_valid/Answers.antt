-- `is_valid` meets its contract: a valid root pointer has the signature, and where that stands the check decides.
use Rattle.std.proofs.Common.{◌≡◌, ap, sym, ◌∙◌, arith, ℕ, ◌+◌, drop, ne_eqb}
use Rattle.std.proofs.lemmas.Bool.{false_from_ne_true}
use Rattle.field.specs.Number.{number}
use Rattle.field.proofs.NumberLaws.{number_drop}
use Rattle.field.proofs.ChoiceLaws.{is_ok_true}
use Rattle.rsdp.proofs.ValidLaws.{valid_pointer_sums}
use Rattle.rsdp.proofs.is_valid.Goals as goal

pub returns-else-u64_at-eq-RSD_PTR : goal.returns-else-u64_at-eq-RSD_PTR
returns-else-u64_at-eq-RSD_PTR c =
    let a = c.args in
    let v = a.view.now in
    let here : a.at + 0 ≡ a.at = omega arith in
    ne_eqb _ _ c.if-u64_at-eq-RSD_PTR.false
    ∙ sym
    (false_from_ne_true _ (λ valid.
    c.if-u64_at-eq-RSD_PTR.false
    (c.u64_at.ensures
    ∙ ap (λ (n : ℕ). number v n 8) (sym here)
    ∙ sym (number_drop 8 a.at v 0)
    ∙ (valid_pointer_sums (drop a.at v) (is_ok_true _ valid)).signature)))
