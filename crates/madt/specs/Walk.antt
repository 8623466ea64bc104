-- What the walk through the entries has left.
use Rattle.std.specs.Prelude.{List, Result}
use Rattle.refusal.specs.declared.Refusal.{Refusal}
use Rattle.madt.specs.declared.MadtEntry.{MadtEntry}
use Rattle.madt.specs.declared.Walk.{Walk}
use Rattle.madt.specs.Entries.{entries_from}

abbrev pub left : Walk → List (Result MadtEntry Refusal)
left w = entries_from w.table.now w.at
