-- The stored numbers and the values are compared in pairs, and there are as many of each.
use Rattle.std.proofs.Common.{rules, tests}
use Rattle.std.proofs.lemmas.Iterator.{YieldsList-from_map, YieldsList-from_slice, YieldsList-from_zip, same_from_all}
use Rattle.std.proofs.lemmas.List.{length-map}
use Rattle.std.specs.Int.{from_le_bytes, w64}
use Rattle.cases.proofs.case.Stored.has.Goals as goal

pub returns-then-self-values : goal.returns-then-self-values
returns-then-self-values c =
    let decided = same_from_all c.all.new.self _ _ _ _ c.all.ensures.ran (YieldsList-from_zip (YieldsList-from_map _ (from_le_bytes w64) (YieldsList-from_slice c.args.self.now.values.now cc) c.map.ensures.closure (λ x r q k. search (rules, tests))) (YieldsList-from_slice c.args.values.now cc)) (search (rules, length-map)) (λ x q k. search (rules, tests)) (λ x q k. search (rules, tests)) in
    search (rules, decided)
