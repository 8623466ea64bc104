-- Laws about questions that are asked of a slice with its list of ranges.
use Rattle.std.proofs.Common.{ℕ, ◌≡◌, List, true, false, not, ap, ap₂, sym, ◌∙◌, length}
use Rattle.std.specs.Prelude.{Result, Err}
use Rattle.field.specs.First.{when}
use Rattle.field.proofs.FirstLaws.{when_hit, when_pass}
use Rattle.refusal.specs.declared.Refusal.{Refusal}
use Rattle.refusal.specs.declared.Refusal.TheVariants.{WrongRanges}
use Rattle.memory.specs.Ranges.{right}
use Rattle.memory.specs.Asked.{asked}
use Rattle.memory.specs.declared.Memory.{Memory}

-- Of a right list the memory answers, and a wrong one is refused.
pub asked_right : {T : Type 0} (image words : List ℕ) (answer : Result T Refusal) → right (length image) words ≡ true → asked image words answer ≡ answer
unfolding asked
asked_right image words answer e = when_pass _ _ _ (ap not e)

pub asked_wrong : {T : Type 0} (image words : List ℕ) (answer : Result T Refusal) → right (length image) words ≡ false
    → asked image words answer ≡ Err WrongRanges
unfolding asked
asked_wrong image words answer e = when_hit _ _ _ (ap not e)

-- Where two slices of one length give the same answer, so does the question that is asked of them.
pub same_asked : {T : Type 0} (image image' words : List ℕ) {answer answer' : Result T Refusal} → length image ≡ length image'
    → answer ≡ answer' → asked image words answer ≡ asked image' words answer'
unfolding asked
same_asked image image' words l e = ap₂ (λ (n : ℕ) r. when (not (right n words)) (Err WrongRanges) r) l e

-- What memory with the slice and its list answers is the answer to the question that is asked of these.
pub asked_lent : {T : Type 0} (memory : Memory) (image words : List ℕ) (answer : List ℕ → List ℕ → Result T Refusal)
    → (memory.image.now ≡ image) × (memory.ranges.now ≡ words)
    → answer memory.image.now memory.ranges.now ≡ asked image words (answer image words)
asked_lent memory image words answer lent =
    ap₂ answer lent.0 lent.1
    ∙ sym (asked_right image words _ (sym (ap₂ (λ (i w : List ℕ). right (length i) w) lent.0 lent.1) ∙ memory.right_ranges))
