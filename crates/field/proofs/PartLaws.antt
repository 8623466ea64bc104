-- Laws about parts of a list of bytes.
use Rattle.std.proofs.Common.{◌≡◌, ℕ, ◌+◌, ◌<◌, ◌≤◌, List, length, get_or, take, sym, ◌∙◌, arith, length-drop, length-take, get_or-drop, get_or-take, take-take, ext_get_or}
use Rattle.field.specs.Part.{part}

-- A part that lies inside is as long as asked.
pub part_length : (s : List ℕ) (at n : ℕ) → at + n ≤ length s → length (part s at n) ≡ n
unfolding part
part_length s at n h = simp (length-take, length-drop) (omega arith)

-- The i-th byte of a part is the byte i behind its start.
pub part_at : (s : List ℕ) (at n i : ℕ) → i < n → get_or (part s at n) i 0 ≡ get_or s (at + i) 0
unfolding part
part_at s at n i h = rw (get_or-take, get_or-drop)

-- The first k bytes of a part are the part of k bytes.
pub part_take : (s : List ℕ) (at n k : ℕ) → k ≤ n → take k (part s at n) ≡ part s at k
unfolding part
part_take s at n k h = rw take-take

-- A part that lies inside the first k bytes is the same part there.
pub part_of_take : (s : List ℕ) (k at n : ℕ) → at + n ≤ k → part (take k s) at n ≡ part s at n
part_of_take s k at n h = ext_get_or 0 (part (take k s) at n) (part s at n) lengths elements
  where
    lengths : length (part (take k s) at n) ≡ length (part s at n)
    lengths = unfold part in simp (length-take, length-drop) (omega arith)

    elements : (i : ℕ) → i < length (part (take k s) at n) → get_or (part (take k s) at n) i 0 ≡ get_or (part s at n) i 0
    elements i b =
        let l : length (part (take k s) at n) ≤ n = unfold part in rw length-take (omega arith) in
        let c : i < n = omega arith in
        part_at (take k s) at n i c ∙ get_or-take k s (at + i) 0 (omega arith) ∙ sym (part_at s at n i c)
