-- `structures` meets its contract: the chunks of 16 bytes behind the fixed part are the entries.
use Rattle.std.proofs.Common.{ℕ, rules, sym, ap, ◌∙◌, ◌/◌, ◌-◌, List, length, map, drop, length-drop, take_all, arith}
use Rattle.std.specs.Simd.{first_chunks}
use Rattle.mcfg.specs.Entries.{entry_at, entries_at, entries, entries_from}
use Rattle.mcfg.proofs.EntryLaws.{chunks_are_entries, length_is_whole, refused_length}
use Rattle.mcfg.proofs.structures.Goals as goal

pub returns-in_err-check_whole-clause-short : goal.returns-in_err-check_whole-clause-short
returns-in_err-check_whole-clause-short c = search (rules, refused_length)

pub returns-clause-long : goal.returns-clause-long
returns-clause-long c =
    sym (length_is_whole c.args.table.now) ∙ sym c.check_whole.ensures.value ∙ c.in_ok-check_whole.was

pub returns-clause-entries : goal.returns-clause-entries
unfolding entries entries_from
returns-clause-entries c =
    let table = c.args.table.now in
    let len = length-drop 44 table in
    let rest = take_all (length table - 44) (drop 44 table) (omega (arith, len)) in
    ap (map (λ bytes. entry_at bytes 0)) (c.as_chunks.ensures.front ∙ ap (λ (l : List ℕ). first_chunks 16 (length l / 16) l) rest)
    ∙ chunks_are_entries (length (drop 44 table) / 16) 44 table
    ∙ ap (λ (n : ℕ). entries_at table 44 (n / 16)) len
