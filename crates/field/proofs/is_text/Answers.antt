use Rattle.std.proofs.Common.{refl, arith}
use Rattle.std.specs.Prelude.{Some, None}
use Rattle.field.specs.Text.{text}
use Rattle.field.specs.Walk.{spans, spans_of, well_formed_after}
use Rattle.field.proofs.WalkLaws.{walk_step, walk_end}
use Rattle.field.proofs.is_text.Goals as goal

pub loop-b-init : goal.loop-b-init
unfolding text spans_of spans
loop-b-init c = refl

pub returns-in-None : goal.returns-in-None
unfolding well_formed_after
returns-in-None c =
    let l = c.loop-b in
    walk_step c.args.bytes.now l.b-index l.expected c.next.result None (omega arith) c.next.ensures l.invariant c.in-None.is

pub loop-b-preserved : goal.loop-b-preserved
unfolding well_formed_after
loop-b-preserved c =
    let l = c.loop-b in
    walk_step c.args.bytes.now l.b-index l.expected c.next.result (Some c.in-Some.ahead) (omega arith) c.next.ensures l.invariant c.in-Some.is

pub returns : goal.returns
returns c = cc (walk_end c.args.bytes.now c.loop-b.b-index c.loop-b.expected (omega arith))
