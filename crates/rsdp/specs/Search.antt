-- The search for the root pointer: ACPI 6.5, section 5.2.5.1 "Finding the RSDP on IA-PC Systems" (docs/TABLES.md, "Root pointer").
use Rattle.std.specs.Prelude.{ℕ, zero, suc, ◌+◌, ◌-◌, ◌*◌, ◌/◌, List, [], ◌∷◌, ◌++◌, not, ◌&&◌, length, drop, Result}
use Rattle.std.specs.Option.{ok_or}
use Rattle.field.specs.First.{less, when}
use Rattle.field.specs.Number.{number}
use Rattle.field.specs.Choice.{nth_valid}
use Rattle.memory.specs.Places.{view_of}
use Rattle.refusal.specs.declared.Refusal.{Refusal}
use Rattle.refusal.specs.declared.Refusal.TheVariants.{PointerNotFound}
use Rattle.rsdp.specs.Pointer.{pointer_checked}

-- n addresses from p on, every 16 bytes
unfoldable pub every_sixteen : ℕ → ℕ → List ℕ
every_sixteen zero p = []
every_sixteen (suc n) p = p ∷ every_sixteen n (p + 16)

-- the addresses of an area, every 16 bytes, at which 20 bytes still fit into it
unfoldable pub candidates : ℕ → ℕ → List ℕ
candidates start size = every_sixteen ((size - 20) / 16 + 1) start

-- the word at 40e is the segment of the extended BIOS data area; where it is not mapped it counts as out of bounds
unfoldable pub segment_of : List ℕ → ℕ
segment_of v = when (less (length v) 2) 0 (number v 0 2)

-- the first kilobyte of the extended BIOS data area, if that can be one, else all of the memory that could hold it
unfoldable pub second_area : ℕ → List ℕ
second_area segment =
    when (not (less (segment * 16) 0x80000) && less (segment * 16) 0x9ffff)
    (candidates (segment * 16) 1024)
    (candidates 0x80000 0x20000)

-- the read-only memory of the BIOS first
unfoldable pub searched : List ℕ → List ℕ → List ℕ
searched image words = candidates 0xe0000 0x20000 ++ second_area (segment_of (view_of image words 0x40e))

-- the check of the root pointer at an address
unfoldable pub checked_at : List ℕ → List ℕ → ℕ → Result (Unit {0}) Refusal
checked_at image words p = pointer_checked (view_of image words p)

-- the check of the root pointer at an address of the view v, which begins at start
unfoldable pub checked_in : List ℕ → ℕ → ℕ → Result (Unit {0}) Refusal
checked_in v start p = pointer_checked (drop (p - start) v)

-- the first address searched at which a valid root pointer stands
unfoldable pub search_of : List ℕ → List ℕ → Result ℕ Refusal
search_of image words = ok_or (nth_valid (checked_at image words) 0 (searched image words)) PointerNotFound
