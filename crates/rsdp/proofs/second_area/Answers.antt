-- `second_area` meets its contract: the segment says where, if it can.
use Rattle.std.proofs.Common.{◌≤◌, ◌<◌, ◌*◌, ◌⊎◌, sym, arith}
use Rattle.std.proofs.lemmas.Bool.Decides.{nat_tests}
use Rattle.rsdp.proofs.SearchLaws.{second_there, second_elsewhere}
use Rattle.rsdp.proofs.second_area.Goals as goal
use Rattle.rsdp.proofs.second_area.Goals.{then-contains, else-contains}

pub returns : goal.returns
returns c =
    elim c.if-contains.branch [
      | then-contains w ↦
          let cases = w.if-contains.ensures.cases in
          let low : 0x80000 ≤ c.args.segment * 16 = grind (arith, nat_tests) in
          let high : c.args.segment * 16 < 0x9ffff = grind (arith, nat_tests) in
          rw (w.result-is, c.from.ensures) (sym (second_there c.args.segment low high))
      | else-contains w ↦
          let cases = w.if-contains.ensures.cases in
          let outside : (c.args.segment * 16 < 0x80000) ⊎ (0x9ffff ≤ c.args.segment * 16) = grind (arith, nat_tests) in
          rw w.result-is (sym (second_elsewhere c.args.segment outside))
    ]
