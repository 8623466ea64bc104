-- `entry_count` meets its contract: the entries are as many as the chunks.
use Rattle.std.proofs.Common.{rules, sym, ap, ◌∙◌, length}
use Rattle.std.specs.Prelude.{Ok}
use Rattle.std.proofs.lemmas.List.{length-map}
use Rattle.field.proofs.ThenLaws.{then_ok}
use Rattle.mcfg.specs.Entries.{entry_count_of}
use Rattle.mcfg.proofs.EntryLaws.{refused_count}
use Rattle.mcfg.proofs.entry_count.Goals as goal

pub returns-in_err-structures-clause-value : goal.returns-in_err-structures-clause-value
returns-in_err-structures-clause-value c = search (rules, refused_count)

pub returns-clause-value : goal.returns-clause-value
unfolding entry_count_of
returns-clause-value c =
    let found = c.in_ok-structures in
    sym (then_ok _ found.ensures.long ∙ ap Ok (sym (ap length found.ensures.entries) ∙ length-map found.field-0.now _))
