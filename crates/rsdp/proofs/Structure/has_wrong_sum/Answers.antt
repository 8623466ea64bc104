-- `has_wrong_sum` meets its contract: the length is tested first, then the bytes decide.
use Rattle.std.proofs.Common.{ap, sym, ◌∙◌, arith, ℕ, ◌%◌, take, ⊎_elim}
use Rattle.std.specs.Prelude.{sum}
use Rattle.field.specs.First.{differ}
use Rattle.rsdp.proofs.PointerLaws.{sum_short, sum_long, sum_decides}
use Rattle.rsdp.proofs.Structure.has_wrong_sum.Goals as goal

pub returns-then-len-lt20 : goal.returns-then-len-lt20
returns-then-len-lt20 c =
    let v = c.args.self.view.now in
    sym (⊎_elim (λ short. sum_short v (omega arith)) (λ long. sum_long v (omega arith)) c.then-len-lt20.either)

pub returns : goal.returns
unfolding differ
returns c =
    let v = c.args.self.view.now in
    ap (λ (n : ℕ). differ n 0) (c.sum.ensures ∙ ap (λ (n : ℕ). sum (take n v) % 256) c.summed-len.ensures)
    ∙ sym (sum_decides v (omega arith) (omega arith))
