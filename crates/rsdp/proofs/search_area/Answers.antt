use Rattle.std.proofs.Common.{sym, ◌≡◌, ◌+◌, ◌*◌, ◌∙◌, arith, ap, ap₂, ℕ, rules}
use native.Mathlib.Decide.{ℕ_discrete}
use Rattle.field.specs.Choice.{nth_valid}
use Rattle.rsdp.specs.Search.{every_sixteen, checked_at, checked_in}
use Rattle.memory.specs.Ranges.{ranges_of}
use Rattle.memory.specs.Places.{place_of}
use Rattle.memory.proofs.PlaceLaws.{view_empty}
use Rattle.rsdp.proofs.SearchLaws.{area_end, view_found, view_behind, unmapped_behind}
use Rattle.rsdp.proofs.search_area.Goals as goal

pub returns-then-is_some : goal.returns-then-is_some
returns-then-is_some c =
    let m = c.args.memory in
    let l = c.loop-left.left in
    let v = c.view-view in
    let n = c.within-here.result.places in
    let here = c.search_view-found.ensures ∙ ap (λ (p : ℕ). nth_valid (checked_in v.result.now p) 0 (every_sixteen n p)) c.within-here.ensures.0 in
    view_found m.image.now m.ranges.now v.result.now l.start n m.right_ranges v.ensures (omega arith) l.places (omega arith)
    c.search_view-found.result here (sym c.is_some.ensures ∙ c.if-is_some.true)
    ∙ c.loop-left.invariant

pub loop-left-preserved-then-is_empty : goal.loop-left-preserved-then-is_empty
loop-left-preserved-then-is_empty c =
    let m = c.args.memory in
    let l = c.loop-left.left in
    let none = view_empty m.image.now m.ranges.now l.start m.right_ranges (search rules) in
    let gap = c.unmapped_up_to.ensures none in
    ap₂ (λ (places start : ℕ). nth_valid (checked_at m.image.now m.ranges.now) 0 (every_sixteen places start)) c.behind-left.ensures.1 c.behind-left.ensures.0
    ∙ sym
    (unmapped_behind m.image.now m.ranges.now c.max.result l.places l.start (omega arith) (λ i b.
    elim (ℕ_discrete i 0) [
      | yes z ↦ (let here : l.start + 16 * i ≡ l.start = omega arith in ap (λ (q : ℕ). place_of (ranges_of m.ranges.now) q) here ∙ none)
      | no h ↦ gap (l.start + 16 * i) (omega arith) (omega arith)
    ]))
    ∙ c.loop-left.invariant

pub loop-left-preserved : goal.loop-left-preserved
loop-left-preserved c =
    let m = c.args.memory in
    let l = c.loop-left.left in
    let v = c.view-view in
    let n = c.within-here.result.places in
    let here = c.search_view-found.ensures ∙ ap (λ (p : ℕ). nth_valid (checked_in v.result.now p) 0 (every_sixteen n p)) c.within-here.ensures.0 in
    ap₂ (λ (places start : ℕ). nth_valid (checked_at m.image.now m.ranges.now) 0 (every_sixteen places start)) c.behind-left-in-loop-left.ensures.1 c.behind-left-in-loop-left.ensures.0
    ∙ sym
    (view_behind m.image.now m.ranges.now v.result.now l.start n m.right_ranges v.ensures (omega arith) l.places (omega arith)
    c.search_view-found.result c.max-in-loop-left.result here (sym c.is_some.ensures ∙ c.if-is_some.false)
    (omega arith) (λ none. omega arith) c.max-in-loop-left.ensures)
    ∙ c.loop-left.invariant

pub returns : goal.returns
returns c =
    let m = c.args.memory in
    let l = c.loop-left.left in
    sym (sym c.loop-left.invariant ∙ area_end (checked_at m.image.now m.ranges.now) l.places l.start (omega arith))
