-- `nth_listed` meets its contract: what the chain gives is each table that an address leads to.
use Rattle.std.proofs.Common.{◌∙◌, sym, refl, rules, tests}
use Rattle.std.proofs.lemmas.Iterator.Consumers.{nth_from_yields_List, YieldsList-from_filter_map, YieldsList-from_first, YieldsList-at}
use Rattle.std.proofs.lemmas.Iterator.Adapters.{option_map_id}
use Rattle.std.specs.Result.{result_ok}
use Rattle.tables.specs.Root.{entries_in}
use Rattle.tables.specs.Tables.{valid_table}
use Rattle.tables.specs.declared.listing.Entries.{Entries}
use Rattle.tables.proofs.TableLaws.{nth_shown}
use Rattle.tables.proofs.nth_listed.Goals as goal

pub returns : goal.returns
returns c =
    let a = c.args in
    let image = a.memory.image.now in
    let words = a.memory.ranges.now in
    let listed = YieldsList-at c.filter_map.ensures.source (YieldsList-from_first (λ x. x) (λ (s : Entries). entries_in s.kind s.bytes.now) _ refl) in
    let got =
    nth_from_yields_List c.nth.result c.nth.new.self _ c.nth.ensures.ran
    (YieldsList-from_filter_map _ (λ p. result_ok (valid_table image words a.wanted a.least p)) listed c.filter_map.ensures.closure (λ x r q k. search (rules, tests))) in
    sym (option_map_id c.nth.result) ∙ got ∙ nth_shown image words a.wanted a.least a.n (entries_in a.entries.kind a.entries.bytes.now)
