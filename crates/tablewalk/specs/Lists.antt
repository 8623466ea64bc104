-- Filling the five lent lists from a MADT that is found first: a refusal leaves all of them as they were.
use Rattle.std.specs.Prelude.{ℕ, ◌≡◌, List, Result, Ok, Err}
use Rattle.refusal.specs.Number.{number_of as refusal_number}
use Rattle.refusal.specs.declared.Refusal.{Refusal}
use Rattle.memory.specs.Places.{view_of}
use Rattle.sdt.specs.Header.{whole_of}
use Rattle.platform.specs.Fill.{Filled}
use Rattle.tables.specs.declared.Table.{Table}
use Rattle.answers.specs.Answer.{number_of}

-- the lists are filled or left, and the answer is the number that says so: 0, or that of the refusal
pub record FilledNumber (table : List ℕ) (r : ℕ) (p p' i i' o o' s s' l l' : List ℕ) : Type 0 where
  pub outcome : Result (Unit {0}) Refusal
  pub number : r ≡ number_of outcome
  pub filled : Filled table outcome p p' i i' o o' s s' l l'

-- the answer is the refusal, and each list is as it was
pub record Untouched (n r : ℕ) (p p' i i' o o' s s' l l' : List ℕ) : Type 0 where
  pub answer : r ≡ n
  pub processors : p' ≡ p
  pub io_apics : i' ≡ i
  pub interrupt_source_overrides : o' ≡ o
  pub nmi_sources : s' ≡ s
  pub local_apic_nmi_lines : l' ≡ l

abbrev pub ListsAsked : List ℕ → List ℕ → Result Table Refusal → ℕ → List ℕ → List ℕ → List ℕ → List ℕ → List ℕ → List ℕ → List ℕ → List ℕ → List ℕ → List ℕ → Type 0
ListsAsked image words (Ok t) r p p' i i' o o' s s' l l' = FilledNumber (whole_of (view_of image words t.address)) r p p' i i' o o' s s' l l'
ListsAsked image words (Err e) r p p' i i' o o' s s' l l' = Untouched (refusal_number e) r p p' i i' o o' s s' l l'
