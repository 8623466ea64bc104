-- The root pointer: ACPI 6.5, section 5.2.5.3, Table 5.3 "RSDP Structure". v is the view at its address: the bytes from there
-- to the end of what is mapped.
use Rattle.std.specs.Prelude.{ℕ, ◌%◌, List, [], ◌∷◌, Bool, not, ◌||◌, length, take, sum, Result, Ok}
use Rattle.field.specs.First.{less, differ, when, Reason, ◌gives◌, checked}
use Rattle.field.specs.Number.{number}
use Rattle.field.specs.Part.{part}
use Rattle.field.specs.Text.{text}
use Rattle.field.specs.Then.{and_then}
use Rattle.refusal.specs.declared.Refusal.{Refusal}
use Rattle.refusal.specs.declared.Refusal.TheVariants.{PointerNotMapped, WrongPointerSignature, WrongPointerOemId, WrongPointerChecksum}
use Rattle.rsdp.specs.declared.Rsdp.{Rsdp}

-- "RSD PTR " with its trailing blank, lowest byte first
abbrev pub rsd_ptr : ℕ
rsd_ptr = 0x2052545020445352

abbrev pub revision_of : List ℕ → ℕ
revision_of v = number v 15 1

-- Revision 0 is the structure of ACPI 1.0, 20 bytes; all others have 36.
unfoldable pub needed_of : List ℕ → ℕ
needed_of v = when (differ (revision_of v) 0) 36 20

-- how many bytes are summed: all 20 of the first structure, or as many as the field Length says
unfoldable pub summed_of : List ℕ → ℕ
summed_of v = when (differ (revision_of v) 0) (number v 20 4) 20

-- the length cannot be right, or the bytes do not sum to 0 over it
unfoldable pub wrong_sum : List ℕ → Bool
wrong_sum v = less (summed_of v) 20 || less 36 (summed_of v) || differ (sum (take (summed_of v) v) % 256) 0

unfoldable pub pointer_reasons : List ℕ → List (Reason Refusal)
pointer_reasons v =
    (less (length v) 20 gives PointerNotMapped)
    ∷ (less (length v) (needed_of v) gives PointerNotMapped)
    ∷ (differ (number v 0 8) rsd_ptr gives WrongPointerSignature)
    ∷ (not (text (part v 9 6)) gives WrongPointerOemId)
    ∷ (wrong_sum v gives WrongPointerChecksum)
    ∷ []

-- whether a valid root pointer stands at the view's start, or what refuses it
unfoldable pub pointer_checked : List ℕ → Result (Unit {0}) Refusal
pointer_checked v = checked (pointer_reasons v)

-- what a valid root pointer says; ACPI 1.0 knows no XSDT
unfoldable pub pointer_of : List ℕ → Rsdp
pointer_of v =
    record {
      revision = revision_of v;
      length = summed_of v;
      rsdt_address = number v 16 4;
      xsdt_address = when (differ (revision_of v) 0) (number v 24 8) 0;
    }

unfoldable pub root_pointer_of : List ℕ → Result Rsdp Refusal
root_pointer_of v = and_then (pointer_checked v) (λ _. Ok (pointer_of v))
