-- `entry` meets its contract: of a MADT the item that the walk comes to after k others is answered.
use Rattle.std.proofs.Common.{◌≡◌, ap, sym, ◌∙◌}
use Rattle.std.specs.Prelude.{Option, Err, slice_get, unwrap_or}
use Rattle.std.proofs.lemmas.Iterator.Adapters.{option_map_id}
use Rattle.std.proofs.lemmas.Iterator.Consumers.{nth_from_yields_List, YieldsList-from_first}
use Rattle.refusal.specs.declared.Refusal.TheVariants.{NotThere}
use Rattle.field.proofs.ThenLaws.{then_ok}
use Rattle.madt.specs.Entries.{entries, nth, entry_of}
use Rattle.madt.proofs.EntryLaws.{Item}
use Rattle.madt.specs.Walk.{left}
use Rattle.madt.proofs.entry.Goals as goal

pub returns : goal.returns
unfolding entry_of nth
returns c =
    let items = YieldsList-from_first (λ x. x) left _ c.entries.ensures in
    let found : c.nth.result ≡ slice_get (entries c.args.table.now) c.args.k =
    sym (option_map_id _) ∙ nth_from_yields_List _ c.nth.new.self _ c.nth.ensures.ran items in
    c.unwrap_or.ensures
    ∙ (ap (λ (o : Option Item). unwrap_or o (Err NotThere)) found
    ∙ sym (then_ok _ (sym c.check_madt.ensures ∙ c.in_ok-check_madt.was)))
