-- What the walk has left where no fault is to come: the items are entries.
use Rattle.std.specs.Prelude.{List}
use Rattle.madt.specs.declared.MadtEntry.{MadtEntry}
use Rattle.madt.specs.declared.SoundEntries.{SoundEntries}
use Rattle.madt.specs.Entries.{entries_from, entries_among}

abbrev pub sound_left : SoundEntries → List MadtEntry
sound_left w = entries_among (entries_from w.table.now w.at)
