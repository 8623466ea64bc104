-- `next` meets its contract: a byte begins a sequence, lies outside the next span, or takes the walk one byte on.
use Rattle.std.proofs.Common.{sym, ap, ◌∙◌, arith}
use Rattle.field.specs.Text.{◌to◌}
use Rattle.field.specs.Walk.{well_formed_after}
use Rattle.std.specs.Prelude.{Option}
use Rattle.field.specs.declared.utf8.Expected.{Expected}
use Rattle.field.proofs.TextLaws.{below, above}
use Rattle.field.proofs.WalkLaws.{begins, stops, steps}
use Rattle.field.proofs.utf8.next.Goals as goal

pub returns-then-left-eq0 : goal.returns-then-left-eq0
returns-then-left-eq0 c s = begins c.args.e c.args.b c.begin.result s c.if-left-eq0.true c.begin.ensures

pub returns-then-b-e : goal.returns-then-b-e
returns-then-b-e c s =
    let a = c.args in
    stops a.e a.b s c.if-left-eq0.false (below (a.e.low to a.e.high) a.b (omega arith))

pub returns-then-e-b : goal.returns-then-e-b
returns-then-e-b c s =
    let a = c.args in
    stops a.e a.b s c.if-left-eq0.false (above (a.e.low to a.e.high) a.b (omega arith))

pub returns : goal.returns
returns c s =
    let a = c.args in
    steps a.e a.b s c.if-left-eq0.false (omega arith) (omega arith)
    ∙ ap (λ (r : Option Expected). well_formed_after r s) (sym c.expect.ensures)
