-- Laws about the walk over UTF-8: how what is expected changes with a byte.
use Rattle.std.proofs.Common.{◌≡◌, ℕ, zero, suc, ◌+◌, ◌-◌, ◌<◌, ◌≤◌, Bool, false, ◌&&◌, eqb, List, [], ◌∷◌, length, get_or, drop, sym, refl, ap, ◌∙◌, subst, add-one, sub-one, drop_of_length-le, drop-cons}
use lib.Dec.{eqb-suc-zero}
use Rattle.field.specs.Text.{Span, ◌to◌, within, table, following_in, well_formed}
use Rattle.std.specs.Prelude.{Option, Some, None}
use Rattle.field.specs.Walk.{spans, spans_of, meaning, well_formed_after}
use Rattle.field.specs.declared.utf8.Expected.{Expected}
use Rattle.field.proofs.TextLaws.{inside}

-- What a first byte leads to decides about the bytes behind it.
leads : (r : Option Expected) (b : ℕ) (s : List ℕ) → meaning r ≡ following_in table b → well_formed [] (b ∷ s) ≡ well_formed_after r s
unfolding well_formed meaning well_formed_after
leads None b s q = subst (λ (f : Option (List Span)). elim f [ None ↦ false | Some spans ↦ well_formed spans s ] ≡ false) q refl
leads (Some e) b s q =
    subst (λ (f : Option (List Span)). elim f [ None ↦ false | Some spans ↦ well_formed spans s ] ≡ well_formed (spans_of e) s) q refl

-- With nothing expected a byte begins a sequence.
pub begins : (e : Expected) (b : ℕ) (r : Option Expected) (s : List ℕ) → e.left ≡ 0 → meaning r ≡ following_in table b
    → well_formed (spans_of e) (b ∷ s) ≡ well_formed_after r s
unfolding spans_of spans
begins e b r s none q = ap (λ (n : ℕ). well_formed (spans n e.low e.high) (b ∷ s)) none ∙ leads r b s q

more_expected : (n low high b : ℕ) (s : List ℕ)
    → well_formed (spans (suc n) low high) (b ∷ s) ≡ within (low to high) b && well_formed (spans n 0x80 0xbf) s
unfolding well_formed spans
more_expected zero low high b s = refl
more_expected (suc n) low high b s = refl

-- With more expected a byte has to lie in the next span, and one less is expected after it.
pub goes_on : (e : Expected) (b : ℕ) (s : List ℕ) → (e.left ≡ 0 → ⊥)
    → well_formed (spans_of e) (b ∷ s) ≡ within (e.low to e.high) b && well_formed (spans (e.left - 1) 0x80 0xbf) s
unfolding spans_of
goes_on e b s h = go e.left h
  where
    go : (n : ℕ) → (n ≡ 0 → ⊥) → well_formed (spans n e.low e.high) (b ∷ s) ≡ within (e.low to e.high) b && well_formed (spans (n - 1) 0x80 0xbf) s
    go zero h = absurd (h refl)
    go (suc n) h = rw sub-one (more_expected n e.low e.high b s)

-- A byte outside the next span makes the bytes ill formed, one inside it lets the walk go on.
pub stops : (e : Expected) (b : ℕ) (s : List ℕ) → (e.left ≡ 0 → ⊥) → within (e.low to e.high) b ≡ false
    → well_formed (spans_of e) (b ∷ s) ≡ well_formed_after None s
unfolding well_formed_after
stops e b s h out = goes_on e b s h ∙ ap (λ (t : Bool). t && well_formed (spans (e.left - 1) 0x80 0xbf) s) out

pub steps : (e : Expected) (b : ℕ) (s : List ℕ) → (e.left ≡ 0 → ⊥) → e.low ≤ b → b ≤ e.high
    → well_formed (spans_of e) (b ∷ s) ≡ well_formed_after (Some (record { left = e.left - 1; low = 0x80; high = 0xbf })) s
unfolding well_formed_after spans_of
steps e b s h low high =
    goes_on e b s h ∙ ap (λ (t : Bool). t && well_formed (spans (e.left - 1) 0x80 0xbf) s) (inside (e.low to e.high) b low high)

-- The walk at place i takes the byte there and goes on behind it: what the byte led to says of the rest what the whole asks.
pub walk_step : (s : List ℕ) (i : ℕ) (e : Expected) (r r' : Option Expected) {whole : Bool} → i < length s
    → ((t : List ℕ) → well_formed (spans_of e) (get_or s i 0 ∷ t) ≡ well_formed_after r t)
    → well_formed (spans_of e) (drop i s) ≡ whole → r ≡ r' → well_formed_after r' (drop (i + 1) s) ≡ whole
walk_step s i e r r' h next all same = rw (add-one, ← same, ← next (drop (suc i) s), ← drop-cons s i 0 h) all

-- At the end the bytes are well formed if nothing more is expected.
ended : (n low high : ℕ) → well_formed (spans n low high) [] ≡ eqb n 0
unfolding spans well_formed
ended zero low high = refl
ended (suc n) low high = sym (eqb-suc-zero n)

pub walk_end : (s : List ℕ) (i : ℕ) (e : Expected) → length s ≤ i → well_formed (spans_of e) (drop i s) ≡ eqb e.left 0
unfolding spans_of
walk_end s i e h = rw (drop_of_length-le s h) (ended e.left e.low e.high)
