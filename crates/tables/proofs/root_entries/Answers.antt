-- `root_entries` meets its contract: the entries are those behind the header of the root table, which is mapped whole.
use Rattle.std.proofs.Common.{sym, ◌∙◌, arith, ap, List, ℕ, drop, length}
use Rattle.sdt.specs.Header.{header_size}
use Rattle.tables.specs.Root.{entries_in, listed}
use Rattle.tables.proofs.RootLaws.{Rooted, rooted, whole_long}
use Rattle.tables.proofs.EntryLaws.{entries_behind}
use Rattle.tables.proofs.root_entries.Goals as goal
use Rattle.tables.proofs.root_entries.Goals.{In_ok-root}

-- There is a root table.
found : (c : In_ok-root) → Rooted c.args.memory.image.now c.args.memory.ranges.now c.in_ok-root.root
found c = rooted _ _ c.args.rsdp _ (sym c.root_in.ensures ∙ c.in_ok-root.was)

pub whole_in-table-requires : goal.whole_in-table-requires
whole_in-table-requires c =
    let root = found (goal.at.whole_in-table-requires c).In_ok-root in
    omega (arith, root.good.mapped, root.good.header)

pub split_at-requires : goal.split_at-requires
split_at-requires c =
    omega (arith, ap length c.whole_in-table.ensures, whole_long (found (goal.at.split_at-requires c).In_ok-root))

pub returns : goal.returns
unfolding listed
returns c =
    let root = c.in_ok-root.root in (
      root,
      sym c.root_in.ensures ∙ c.in_ok-root.was,
      ap (entries_in root.kind) (c.split_at.ensures.back ∙ ap (λ (t : List ℕ). drop header_size t) c.whole_in-table.ensures)
          ∙ entries_behind root.kind _,
    )
