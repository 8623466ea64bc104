-- Filling the five lent tables.
use Rattle.std.specs.Prelude.{ℕ, ◌≡◌, List, [], ◌∷◌, ◌++◌, Bool, ◌||◌, length, drop, Result, Ok, Err}
use Rattle.refusal.specs.Number.{number_of}
use Rattle.refusal.specs.declared.Refusal.{Refusal}
use Rattle.refusal.specs.declared.Refusal.TheVariants.{BufferTooShort}
use Rattle.field.specs.First.{less, Reason, checked, Ascending}
use Rattle.field.specs.First.Reason.{◌gives◌}
use Rattle.platform.specs.Lists.ListName.{processors, io_apics, interrupt_source_overrides, nmi_sources, local_apic_nmi_lines}
use Rattle.platform.specs.Records.{list}
use Rattle.platform.specs.Model.{refusals}

-- a lent table, of which the lengths are given in the order of the lists, is too short for its list
unfoldable pub too_short : List ℕ → ℕ → ℕ → ℕ → ℕ → ℕ → Bool
too_short s p i o n l =
    less p (length (list processors s))
    || less i (length (list io_apics s))
    || less o (length (list interrupt_source_overrides s))
    || less n (length (list nmi_sources s))
    || less l (length (list local_apic_nmi_lines s))

-- why the tables are not filled: what refuses the model, or a table that is too short
unfoldable pub fill_refusals : List ℕ → ℕ → ℕ → ℕ → ℕ → ℕ → List (Reason Refusal)
fill_refusals s p i o n l = refusals s ++ (too_short s p i o n l gives BufferTooShort) ∷ []

unfoldable pub fill_checked : List ℕ → ℕ → ℕ → ℕ → ℕ → ℕ → Result (Unit {0}) Refusal
fill_checked s p i o n l = checked (fill_refusals s p i o n l)

-- These reasons ascend too.
abbrev pub FillRefusalsAscend : Type 0
FillRefusalsAscend = (s : List ℕ) (p i o n l : ℕ) → Ascending number_of 11 (fill_refusals s p i o n l)

-- the words, followed by what was there before
unfoldable pub over : List ℕ → List ℕ → List ℕ
over words before = words ++ drop (length words) before

-- a table after the answer: a refusal leaves it as it was
abbrev pub written : Result (Unit {0}) Refusal → List ℕ → List ℕ → List ℕ
written (Ok _) words before = over words before
written (Err r) words before = before

-- the answer, and each table after it
pub record Filled (s : List ℕ) (r : Result (Unit {0}) Refusal) (p p' i i' o o' n n' l l' : List ℕ) : Type 0 where
  pub answer : r ≡ fill_checked s (length p) (length i) (length o) (length n) (length l)
  pub processors : p' ≡ written r (list processors s) p
  pub io_apics : i' ≡ written r (list io_apics s) i
  pub interrupt_source_overrides : o' ≡ written r (list interrupt_source_overrides s) o
  pub nmi_sources : n' ≡ written r (list nmi_sources s) n
  pub local_apic_nmi_lines : l' ≡ written r (list local_apic_nmi_lines s) l
