-- The definitions on tables with one and two entries: a function of bus 12 in a window for 64 buses at 0xb0000000, the first of two
-- windows for one bus, a sum of 2 ^ 64, and a rest of four bytes that is ignored.
use Rattle.std.proofs.Common.{ℕ, ◌+◌, ◌≡◌, refl, List, [], ◌∷◌, ◌++◌, length, replicate}
use Rattle.std.specs.Prelude.{Ok, Err}
use Rattle.field.specs.Number.{number}
use Rattle.field.specs.First.{less, differ, when, checked}
use Rattle.refusal.specs.declared.Refusal.TheVariants.{NotThere}
use Rattle.mcfg.specs.Entries.{length_checked, entry_at, entries_at, entries_from, entries, entry_count_of}
use Rattle.mcfg.specs.Physical.{address_in, physical_address_of}

abbrev table : List ℕ → List ℕ
table rest = 0x4d ∷ 0x43 ∷ 0x46 ∷ 0x47 ∷ (44 + length rest) ∷ 0 ∷ 0 ∷ 0 ∷ [] ++ replicate 36 0 ++ rest

abbrev window : ℕ → ℕ → ℕ → ℕ → List ℕ
window high low first last = 0 ∷ 0 ∷ 0 ∷ low ∷ high ∷ high ∷ high ∷ high ∷ 0 ∷ 0 ∷ first ∷ last ∷ 0 ∷ 0 ∷ 0 ∷ 0 ∷ []

in_one : physical_address_of (table (window 0 0xb0 0 63)) 0 12 3 1 ≡ Ok 0xb0c1_9000
unfolding physical_address_of address_in entries entries_from entries_at entry_at length_checked checked number less differ when
in_one = refl

in_first : physical_address_of (table (window 0 0xb0 8 63 ++ window 0 0xc0 0 63)) 0 12 0 0 ≡ Ok 0xb040_0000
unfolding physical_address_of address_in entries entries_from entries_at entry_at length_checked checked number less differ when
in_first = refl

too_high : physical_address_of (table (window 0xff 0xff 0 63)) 0 16 0 0 ≡ Err NotThere
unfolding physical_address_of address_in entries entries_from entries_at entry_at length_checked checked number less differ when
too_high = refl

cut_off : entry_count_of (table (window 0 0xb0 0 63 ++ 1 ∷ 2 ∷ 3 ∷ 4 ∷ [])) ≡ Ok 1
unfolding entry_count_of entries entries_from entries_at length_checked checked number less differ when
cut_off = refl
