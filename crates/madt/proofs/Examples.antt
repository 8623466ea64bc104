-- Small tables, worked out by the definitions: they test the definitions, and nothing is proved from them.
use Rattle.std.proofs.Common.{ℕ, ◌≡◌, refl, List, [], ◌∷◌, ◌++◌}
use Rattle.std.specs.Prelude.{Ok, Err}
use Rattle.refusal.specs.declared.Refusal.TheVariants.{InconsistentEntry}
use Rattle.field.specs.Number.{number}
use Rattle.field.specs.First.{when, less}
use Rattle.madt.specs.declared.Kind.TheVariants.{
  LocalApic,
  IoApic,
  InterruptSourceOverride,
  LocalApicNmi,
  Reserved,
}
use Rattle.madt.specs.Kinds.{kinds, kind_of}
use Rattle.madt.specs.Entries.{item_at, next_at, walk, entries_from, entries}

-- The fixed part of the MADT of docs/TABLES.md, section 12, with a stated length below 256, and the table's entries.
unfoldable pub fixed : ℕ → List ℕ
fixed n =
    0x41 ∷ 0x50 ∷ 0x49 ∷ 0x43 ∷ n ∷ 0x00 ∷ 0x00 ∷ 0x00 ∷ 0x04 ∷ 0xca ∷ 0x52 ∷ 0x4f ∷ 0x57 ∷ 0x41 ∷ 0x4e ∷ 0x53
    ∷ 0x42 ∷ 0x4c ∷ 0x41 ∷ 0x44 ∷ 0x45 ∷ 0x2d ∷ 0x30 ∷ 0x37 ∷ 0x01 ∷ 0x00 ∷ 0x00 ∷ 0x00 ∷ 0x52 ∷ 0x57 ∷ 0x4e ∷ 0x20
    ∷ 0x01 ∷ 0x00 ∷ 0x00 ∷ 0x00 ∷ 0x00 ∷ 0x00 ∷ 0xe0 ∷ 0xfe ∷ 0x01 ∷ 0x00 ∷ 0x00 ∷ 0x00 ∷ []

unfoldable pub sample : List ℕ
sample =
    0x00 ∷ 0x08 ∷ 0x00 ∷ 0x00 ∷ 0x01 ∷ 0x00 ∷ 0x00 ∷ 0x00 ∷ 0x00 ∷ 0x08 ∷ 0x01 ∷ 0x02 ∷ 0x01 ∷ 0x00 ∷ 0x00 ∷ 0x00
    ∷ 0x01 ∷ 0x0c ∷ 0x02 ∷ 0x00 ∷ 0x00 ∷ 0x00 ∷ 0xc0 ∷ 0xfe ∷ 0x00 ∷ 0x00 ∷ 0x00 ∷ 0x00 ∷ 0x02 ∷ 0x0a ∷ 0x00 ∷ 0x00
    ∷ 0x02 ∷ 0x00 ∷ 0x00 ∷ 0x00 ∷ 0x00 ∷ 0x00 ∷ 0x04 ∷ 0x06 ∷ 0xff ∷ 0x05 ∷ 0x00 ∷ 0x01 ∷ []

sample_entries :
    entries (fixed 88 ++ sample)
    ≡ Ok (record { kind = LocalApic; number = 0; at = 44; len = 8 })
    ∷ Ok (record { kind = LocalApic; number = 0; at = 52; len = 8 })
    ∷ Ok (record { kind = IoApic; number = 1; at = 60; len = 12 })
    ∷ Ok (record { kind = InterruptSourceOverride; number = 2; at = 72; len = 10 })
    ∷ Ok (record { kind = LocalApicNmi; number = 4; at = 82; len = 6 })
    ∷ []
unfolding entries entries_from walk next_at item_at number when less kind_of kinds fixed sample
sample_entries = refl

-- A reserved kind is passed over by its length; a length of 0, a length past the end, a kind of another interrupt model and a
-- single byte are faults.
reserved_then_zero :
    entries (fixed 49 ++ 0x80 ∷ 3 ∷ 9 ∷ 0x80 ∷ 0 ∷ []) ≡ Ok (record { kind = Reserved; number = 0x80; at = 44; len = 3 }) ∷ Err InconsistentEntry ∷ []
unfolding entries entries_from walk next_at item_at number when less kind_of kinds fixed
reserved_then_zero = refl

past_the_end : entries (fixed 52 ++ 0 ∷ 9 ∷ 0 ∷ 0 ∷ 1 ∷ 0 ∷ 0 ∷ 0 ∷ []) ≡ Err InconsistentEntry ∷ []
unfolding entries entries_from walk next_at item_at number when less kind_of kinds fixed
past_the_end = refl

another_model : entries (fixed 48 ++ 12 ∷ 4 ∷ 0 ∷ 0 ∷ []) ≡ Err InconsistentEntry ∷ []
unfolding entries entries_from walk next_at item_at number when less kind_of kinds fixed
another_model = refl

one_byte : entries (fixed 45 ++ 0x80 ∷ []) ≡ Err InconsistentEntry ∷ []
unfolding entries entries_from walk next_at item_at number when less kind_of kinds fixed
one_byte = refl
