-- `locate` meets its contract: the last range that starts at the address or below decides.
use Rattle.std.proofs.Common.{rules, tests, sym, ◌∙◌}
use Rattle.memory.proofs.PlaceLaws.{placed}
use Rattle.memory.proofs.Memory.locate.Goals as goal

pub returns : goal.returns
returns c =
    placed c.in_ok-range.range c.args.p c.then.result (c.then.ensures.variant ∙ c.has.ensures) (search (rules, tests))
    ∙ sym c.in_ok-range.ensures.1
