-- `search_for_on_bios` meets its contract: the first area decides where it has a valid root pointer, else the second.
use Rattle.std.proofs.Common.{rules, ap, sym, ◌∙◌, ℕ, List}
use Rattle.std.specs.Prelude.{Option}
use Rattle.std.specs.Option.{ok_or}
use Rattle.refusal.specs.declared.Refusal.TheVariants.{PointerNotFound}
use Rattle.field.specs.Choice.{nth_valid}
use Rattle.memory.proofs.AskedLaws.{asked_lent, asked_wrong}
use Rattle.rsdp.specs.Search.{checked_at, second_area, search_of}
use Rattle.rsdp.specs.Asked.{search_asked}
use Rattle.rsdp.proofs.SearchLaws.{search_first, search_second}
use Rattle.rsdp.proofs.search_for_on_bios.Goals as goal

pub returns-in_err-memory : goal.returns-in_err-memory
unfolding search_asked
returns-in_err-memory c =
    let wrong = c.in_err-memory.ensures.wrong in
    search (rules, asked_wrong)

pub returns-in-Some : goal.returns-in-Some
unfolding search_asked
returns-in-Some c =
    let m = c.in_ok-memory.memory in
    search_first m.image.now m.ranges.now c.in-Some.p (sym c.search_area.ensures ∙ c.in-Some.is)
    ∙ asked_lent m c.args.image.now c.args.ranges.now search_of c.in_ok-memory.ensures.lent

pub returns-in-None : goal.returns-in-None
unfolding search_asked
returns-in-None c =
    let m = c.in_ok-memory.memory in
    c.ok_or.ensures.value
    ∙ ap (λ (o : Option ℕ). ok_or o PointerNotFound)
    (c.search_area-in-None.ensures
    ∙ ap (λ (l : List ℕ). nth_valid (checked_at m.image.now m.ranges.now) 0 l) (c.second_area.ensures ∙ ap second_area c.segment.ensures))
    ∙ search_second m.image.now m.ranges.now (sym c.search_area.ensures ∙ c.in-None.is)
    ∙ asked_lent m c.args.image.now c.args.ranges.now search_of c.in_ok-memory.ensures.lent
