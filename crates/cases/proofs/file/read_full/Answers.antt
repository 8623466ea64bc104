use Rattle.std.proofs.Common.{◌≡◌, ℕ, ◌+◌, ◌-◌, ◌≤◌, List, ◌++◌, arith, length, take, slice_range, sym, ap, ◌∙◌, subst, le_refl, drop_at, length-take-le, rules}
use Rattle.std.proofs.lemmas.Slice.{take-put_mid_below}
use Rattle.std.specs.Io.KnownBytes.{Consumes}
use Rattle.std.proofs.KnownBytes.{Consumes-trans}
use borrow.Rule.Slice.PartMut.{put_mid, post_of}
use lib.Seq.{take-add, take-append-le}
use Rattle.cases.proofs.file.read_full.Goals as goal

-- What stands before place a, and what was put from there up to b, are the first b of what there is now.
take_joined : (a b : ℕ) (before now : List ℕ) → a ≤ b → take a now ≡ take a before → take a before ++ slice_range now a b ≡ take b now
take_joined a b before now h front =
    let same : a + (b - a) ≡ b = omega arith in
    ap (λ l. l ++ slice_range now a b) (sym front) ∙ sym (take-add a (b - a) now) ∙ ap (λ n. take n now) same

slice_range-put_mid : (a k n : ℕ) (xs ys : List ℕ) → a ≤ length xs → n ≤ length ys → slice_range (put_mid a k xs ys) a (a + n) ≡ take n ys
slice_range-put_mid a k n xs ys within fits =
    let same : (a + n) - a ≡ n = omega arith in
    let after = post_of a k xs in
    ap (take ((a + n) - a)) (drop_at (take a xs) (ys ++ after) a (length-take-le a xs within)) ∙ ap (λ m. take m (ys ++ after)) same ∙ take-append-le n ys after fits

-- A turn puts what it read behind what was read before.
pub loop-turn-preserved : goal.loop-turn-preserved
loop-turn-preserved g c =
    let from = c.loop-turn.done in
    let room = length c.loop-turn.buffer - from in
    let within = c.loop-turn.invariant.within in
    let part = slice_range-put_mid from room c.in_ok-n.n c.loop-turn.buffer c.read.new.buf within c.in_ok-n.ensures.bound.0 in
    let joined = take_joined from (from + c.in_ok-n.n) c.loop-turn.buffer (put_mid from room c.loop-turn.buffer c.read.new.buf) (omega arith) (take-put_mid_below _ _ _ _ _ (le_refl _) within) in
    record {
      counted = omega arith;
      within = search rules;
      consumed = subst (Consumes _ _) (ap (λ l. take from c.loop-turn.buffer ++ l) (sym part) ∙ joined) (Consumes-trans _ _ _ _ _ c.loop-turn.invariant.consumed c.in_ok-n.ensures.bytes.0);
    }
