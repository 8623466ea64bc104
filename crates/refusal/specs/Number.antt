-- The number of each refusal, as docs/TABLES.md lists them under "Answers".
use Rattle.std.specs.Prelude.{ℕ}
use Rattle.refusal.specs.declared.Refusal.{Refusal}
use Rattle.refusal.specs.declared.Refusal.TheVariants.{WrongRanges, PointerNotMapped, WrongPointerSignature, WrongPointerOemId, WrongPointerChecksum, RootNotMapped, WrongSignature, WrongOemId, WrongTableId, WrongChecksum, TooShort, NoValidTable, NotThere, UnknownSpaceOrSize, InconsistentEntry, WrongEntryField, BufferTooShort, PointerNotFound}

abbrev pub number_of : Refusal → ℕ
number_of WrongRanges = 1
number_of PointerNotMapped = 2
number_of WrongPointerSignature = 3
number_of WrongPointerOemId = 4
number_of WrongPointerChecksum = 5
number_of RootNotMapped = 6
number_of WrongSignature = 7
number_of WrongOemId = 8
number_of WrongTableId = 9
number_of WrongChecksum = 10
number_of TooShort = 11
number_of NoValidTable = 12
number_of NotThere = 13
number_of UnknownSpaceOrSize = 14
number_of InconsistentEntry = 15
number_of WrongEntryField = 16
number_of BufferTooShort = 17
number_of PointerNotFound = 18
