use Rattle.std.proofs.Common.{◌<◌, [], length, rules}
use Rattle.std.proofs.lemmas.List.Sums.{fold_more}
use Rattle.std.proofs.lemmas.List.Elements.{All-more}
use Rattle.cases.specs.Case.{offset_of}
use Rattle.cases.proofs.case.patch_all.Goals as goal

pub loop-one-preserved : goal.loop-one-preserved
loop-one-preserved c = record {
  patched = search (rules, fold_more);
  inside = All-more (λ p. offset_of p < length c.args.image.now) _ _ [] c.loop-one-test.true c.loop-one.invariant.inside (search rules);
}
