-- The mailbox through which an operating system wakes processors (ACPI 6.5, section 5.2.12.19).
use Rattle.std.specs.Prelude.{ℕ, List, [], ◌∷◌, Bool, true, false, Result, Ok, Err}
use Rattle.refusal.specs.declared.Refusal.{Refusal}
use Rattle.refusal.specs.declared.Refusal.TheVariants.{TooShort, InconsistentEntry}
use Rattle.field.specs.First.{when, checked}
use Rattle.field.specs.First.Reason.{◌gives◌}
use Rattle.field.specs.Then.{and_then}
use Rattle.madt.specs.Fields.{value, mailbox_address}
use Rattle.madt.specs.Fixed.{not_madt}
use Rattle.madt.specs.Entries.{entries, faulty}
use Rattle.madt.specs.declared.MadtEntry.{MadtEntry}
use Rattle.madt.specs.declared.Kind.{Kind}
use Rattle.madt.specs.declared.Kind.TheVariants.{MultiprocessorWakeup}

abbrev pub is_wakeup : Kind → Bool
is_wakeup MultiprocessorWakeup = true
is_wakeup _ = false

-- the mailbox of the first Multiprocessor Wakeup entry, InconsistentEntry where there is none
unfoldable pub first_mailbox : List ℕ → List (Result MadtEntry Refusal) → Result ℕ Refusal
first_mailbox s [] = Err InconsistentEntry
first_mailbox s (Ok e ∷ items) = when (is_wakeup e.kind) (Ok (value s e.at mailbox_address)) (first_mailbox s items)
first_mailbox s (Err r ∷ items) = Err r

-- A table with a fault has no mailbox, wherever the fault stands.
unfoldable pub mailbox_of : List ℕ → Result ℕ Refusal
mailbox_of s =
    and_then (checked ((not_madt s gives TooShort) ∷ (faulty (entries s) gives InconsistentEntry) ∷ []))
    (λ _. first_mailbox s (entries s))
