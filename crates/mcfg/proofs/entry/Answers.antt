-- `entry` meets its contract: the k-th chunk holds the k-th entry, and where there is none it is not there.
use Rattle.std.proofs.Common.{rules, sym, ap, subst, ◌≡◌, ◌∙◌, ltb-true, ltb-false, get_or}
use Rattle.std.specs.Prelude.{Ok, IfSome}
use Rattle.mcfg.proofs.EntryLaws.{refused_entry, entry_missing, entry_found}
use Rattle.mcfg.proofs.entry.Goals as goal

pub returns-in_err-structures : goal.returns-in_err-structures
returns-in_err-structures c = search (rules, refused_entry)

pub returns-in_err-bytes : goal.returns-in_err-bytes
returns-in_err-bytes c =
    let list = c.in_ok-structures in
    let behind = ltb-false _ _ (sym c.get.ensures.lookup.0 ∙ sym c.in_err-bytes.ensures.variant) in
    let missing = entry_missing c.args.table.now list.field-0.now c.args.k list.ensures.long list.ensures.entries behind in
    rw missing (search rules)

pub returns : goal.returns
returns c =
    let list = c.in_ok-structures in
    let bytes = c.in_ok-bytes in
    let inside = ltb-true _ _ (sym c.get.ensures.lookup.0 ∙ sym bytes.ensures.variant) in
    let there = subst (λ o. IfSome o (λ x. x.now ≡ get_or list.field-0.now c.args.k x.now)) bytes.ensures.ok_part c.get.ensures.lookup.1 in
    ap Ok c.read.ensures ∙ sym (entry_found c.args.table.now list.field-0.now c.args.k list.ensures.long list.ensures.entries bytes.bytes.now inside there)
