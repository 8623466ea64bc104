-- How an answer reaches a caller in another language: its number is the result, its values go to a lent buffer, and a
-- refusal writes nothing. A buffer that is too short for the values is refused with BufferTooShort.
use Rattle.std.specs.Prelude.{ℕ, ◌≡◌, List, ◌++◌, length, drop, Result, Ok, Err}
use Rattle.field.specs.First.{less, when}
use Rattle.refusal.specs.Number.{number_of as refusal_number}
use Rattle.refusal.specs.declared.Refusal.{Refusal}
use Rattle.refusal.specs.declared.Refusal.TheVariants.{BufferTooShort}

-- the words of the value that a question has, or its refusal
abbrev pub answer_of : {T : Type 0} → (T → List ℕ) → Result T Refusal → Result (List ℕ) Refusal
answer_of values (Ok x) = Ok (values x)
answer_of values (Err e) = Err e

-- what comes of an answer, given how many words the buffer has
unfoldable pub outcome_of : Result (List ℕ) Refusal → ℕ → Result (Unit {0}) Refusal
outcome_of (Ok vs) room = when (less room (length vs)) (Err BufferTooShort) (Ok tt)
outcome_of (Err e) room = Err e

-- the number that says so: 0, or that of the refusal
abbrev pub number_of : Result (Unit {0}) Refusal → ℕ
number_of (Ok u) = 0
number_of (Err e) = refusal_number e

-- the buffer after the answer
unfoldable pub buffer_after : Result (List ℕ) Refusal → List ℕ → List ℕ
buffer_after (Ok vs) before = when (less (length before) (length vs)) before (vs ++ drop (length vs) before)
buffer_after (Err e) before = before

-- the outcome r and the buffer out after it are those of the answer
pub record Put (answer : Result (List ℕ) Refusal) (r : Result (Unit {0}) Refusal) (before out : List ℕ) : Type 0 where
  pub outcome : r ≡ outcome_of answer (length before)
  pub buffer : out ≡ buffer_after answer before

-- the result r and the buffer out after it are those of the answer
pub record Reported (answer : Result (List ℕ) Refusal) (r : ℕ) (before out : List ℕ) : Type 0 where
  pub number : r ≡ number_of (outcome_of answer (length before))
  pub buffer : out ≡ buffer_after answer before
