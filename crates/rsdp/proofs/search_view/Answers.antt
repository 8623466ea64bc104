use Rattle.std.proofs.Common.{◌≡◌, ap, ap₂, sym, ◌∙◌, arith, ℕ, ◌+◌, ◌-◌, ◌*◌}
use Rattle.std.specs.Result.{is_ok}
use Rattle.field.specs.Choice.{nth_valid}
use Rattle.field.proofs.ChoiceLaws.{is_ok_true}
use Rattle.rsdp.specs.Search.{every_sixteen, checked_in}
use Rattle.rsdp.proofs.SearchLaws.{area_here, area_later, area_end, checked_into}
use Rattle.rsdp.proofs.search_view.Goals as goal

pub loop-k-init : goal.loop-k-init
loop-k-init c =
    let a = c.args.area in
    let n : a.places - 0 ≡ a.places = omega arith in
    let p : a.start + 0 ≡ a.start = omega arith in
    ap₂ (λ (n p : ℕ). nth_valid (checked_in c.args.view.now a.start) 0 (every_sixteen n p)) n p

pub returns-then-is_valid : goal.returns-then-is_valid
returns-then-is_valid c =
    let v = c.args.view.now in
    let a = c.args.area in
    let l = c.loop-k in
    let valid = checked_into v a.start (16 * l.k) ∙ is_ok_true _ (sym c.is_valid.ensures ∙ c.if-is_valid.true) in
    sym (sym l.invariant ∙ area_here (checked_in v a.start) (a.places - l.k) (a.start + 16 * l.k) (omega arith) valid)

pub loop-k-preserved : goal.loop-k-preserved
loop-k-preserved c =
    let v = c.args.view.now in
    let a = c.args.area in
    let l = c.loop-k in
    let f = checked_in v a.start in
    let n : a.places - (l.k + 1) ≡ a.places - l.k - 1 = omega arith in
    let p : a.start + 16 * (l.k + 1) ≡ a.start + 16 * l.k + 16 = omega arith in
    let refused = ap is_ok (checked_into v a.start (16 * l.k)) ∙ sym c.is_valid.ensures ∙ c.if-is_valid.false in
    ap₂ (λ (n p : ℕ). nth_valid f 0 (every_sixteen n p)) n p
    ∙ sym (area_later f (a.places - l.k) (a.start + 16 * l.k) (omega arith) refused)
    ∙ l.invariant

pub returns : goal.returns
returns c =
    let a = c.args.area in
    let l = c.loop-k in
    sym (sym l.invariant ∙ area_end (checked_in c.args.view.now a.start) (a.places - l.k) (a.start + 16 * l.k) (omega arith))
