-- Laws about the root pointer: what each finding of the reader makes of the answer, and on which bytes it depends.
use Rattle.std.proofs.Common.{ℕ, ◌%◌, ◌≤◌, ◌<◌, ◌≡◌, List, [], ◌∷◌, Bool, true, false, not, arith, length, take}
use native.Mathlib.Decide.{ℕ_discrete}
use Rattle.std.proofs.Math.Bool.{or-true}
use Rattle.field.specs.First.{less, differ, when, ◌gives◌, checked}
use Rattle.field.specs.Number.{number}
use Rattle.field.specs.Part.{part}
use Rattle.std.specs.Prelude.{sum, Result, Ok, Err}
use Rattle.field.proofs.ThenLaws.{then_ok, then_err}
use Rattle.refusal.specs.declared.Refusal.{Refusal}
use Rattle.refusal.specs.declared.Refusal.TheVariants.{PointerNotMapped, WrongPointerSignature, WrongPointerOemId, WrongPointerChecksum}
use Rattle.field.specs.Text.{text}
use Rattle.field.proofs.FirstLaws.{less_yes, less_no, differ_yes, differ_no, when_hit, when_pass, hit, pass, clear}
use Rattle.rsdp.specs.Pointer.{rsd_ptr, revision_of, needed_of, summed_of, wrong_sum, pointer_reasons, pointer_checked, pointer_of, root_pointer_of}

-- The structure of ACPI 1.0, and the later one.
pub needed_first : (v : List ℕ) → revision_of v ≡ 0 → needed_of v ≡ 20
unfolding needed_of
needed_first v e = when_pass _ _ _ (differ_no (revision_of v) 0 e)

pub needed_later : (v : List ℕ) → (revision_of v ≡ 0 → ⊥) → needed_of v ≡ 36
unfolding needed_of
needed_later v h = when_hit _ _ _ (differ_yes (revision_of v) 0 h)

pub summed_first : (v : List ℕ) → revision_of v ≡ 0 → summed_of v ≡ 20
unfolding summed_of
summed_first v e = when_pass _ _ _ (differ_no (revision_of v) 0 e)

-- At least 20 bytes are needed.
pub needed_least : (v : List ℕ) → 20 ≤ needed_of v
unfolding needed_of when
needed_least v = go (differ (revision_of v) 0)
  where
    go : (t : Bool) → 20 ≤ when t 36 20
    go true = omega arith
    go false = omega arith

-- The sum is wrong where the length is too small or too large; else the bytes decide.
pub sum_short : (v : List ℕ) → summed_of v < 20 → wrong_sum v ≡ true
unfolding wrong_sum
sum_short v h = rw (less_yes (summed_of v) 20 h)

pub sum_long : (v : List ℕ) → 36 < summed_of v → wrong_sum v ≡ true
unfolding wrong_sum
sum_long v h = rw (less_yes 36 (summed_of v) h, or-true (less (summed_of v) 20))

pub sum_decides : (v : List ℕ) → 20 ≤ summed_of v → summed_of v ≤ 36 → wrong_sum v ≡ differ (sum (take (summed_of v) v) % 256) 0
unfolding wrong_sum
sum_decides v h k = rw (less_no (summed_of v) 20 h, less_no 36 (summed_of v) k)

-- What the reader finds, step by step, and what its answer then is.
module _ (v : List ℕ) where
  pub pointer_short : length v < 20 → pointer_checked v ≡ Err PointerNotMapped
  unfolding pointer_checked pointer_reasons
  pointer_short h = hit _ PointerNotMapped _ (less_yes (length v) 20 h)

  pub pointer_cut : 20 ≤ length v → length v < needed_of v → pointer_checked v ≡ Err PointerNotMapped
  unfolding pointer_checked pointer_reasons
  pointer_cut some h = pass _ PointerNotMapped _ (less_no (length v) 20 some) (hit _ PointerNotMapped _ (less_yes (length v) (needed_of v) h))

  module _ (all : needed_of v ≤ length v) where
    -- Past what is mapped the structure itself decides.
    pointer_rest : {x : Result (Unit {0}) Refusal}
        → checked
        ((differ (number v 0 8) rsd_ptr gives WrongPointerSignature)
        ∷ (not (text (part v 9 6)) gives WrongPointerOemId)
        ∷ (wrong_sum v gives WrongPointerChecksum)
        ∷ [])
        ≡ x
        → pointer_checked v ≡ x
    unfolding pointer_checked pointer_reasons
    pointer_rest e =
        pass _ PointerNotMapped _ (less_no (length v) 20 (omega (arith, needed_least v)))
        (pass _ PointerNotMapped _ (less_no (length v) (needed_of v) all) e)

    pub pointer_signature : (number v 0 8 ≡ rsd_ptr → ⊥) → pointer_checked v ≡ Err WrongPointerSignature
    pointer_signature h = pointer_rest (hit _ WrongPointerSignature _ (differ_yes (number v 0 8) rsd_ptr h))

    module _ (signature : number v 0 8 ≡ rsd_ptr) where
      pub pointer_maker : not (text (part v 9 6)) ≡ true → pointer_checked v ≡ Err WrongPointerOemId
      pointer_maker t = pointer_rest (pass _ WrongPointerSignature _ (differ_no (number v 0 8) rsd_ptr signature) (hit _ WrongPointerOemId _ t))

      module _ (maker : not (text (part v 9 6)) ≡ false) where
        pub pointer_sum : wrong_sum v ≡ true → pointer_checked v ≡ Err WrongPointerChecksum
        pointer_sum s =
            pointer_rest
            (pass _ WrongPointerSignature _ (differ_no (number v 0 8) rsd_ptr signature)
            (pass _ WrongPointerOemId _ maker (hit _ WrongPointerChecksum _ s)))

        pub pointer_valid : wrong_sum v ≡ false → pointer_checked v ≡ Ok tt
        pointer_valid s =
            pointer_rest
            (pass _ WrongPointerSignature _ (differ_no (number v 0 8) rsd_ptr signature)
            (pass _ WrongPointerOemId _ maker (pass _ WrongPointerChecksum _ s clear)))

-- The answer with its value, or the refusal.
pub answer_valid : (v : List ℕ) → pointer_checked v ≡ Ok tt → root_pointer_of v ≡ Ok (pointer_of v)
unfolding root_pointer_of
answer_valid v e = then_ok _ e

pub answer_refused : (v : List ℕ) (refusal : Refusal) → pointer_checked v ≡ Err refusal → root_pointer_of v ≡ Err refusal
unfolding root_pointer_of
answer_refused v refusal e = then_err _ e

-- What is summed lies inside what is needed, where its length can be right.
pub summed_within : (v : List ℕ) → summed_of v ≤ 36 → summed_of v ≤ needed_of v
summed_within v h =
    elim (ℕ_discrete (revision_of v) 0) [
      | yes e ↦ omega (arith, summed_first v e, needed_first v e)
      | no n ↦ omega (arith, needed_later v n)
    ]
