-- Laws about the bytes that count: an answer is the same in two images that agree on the bytes it names.
use Rattle.std.proofs.Common.{ℕ, ◌+◌, ◌≤◌, ◌≡◌, ap, ap₂, sym, ◌∙◌, List, [], ◌∷◌, ◌++◌, map, arith, length, take, set, length-set, take-take}
use native.Mathlib.Decide.{ℕ_discrete, dec_le}
use Rattle.field.specs.First.{less, differ, when}
use Rattle.field.specs.Number.{number}
use Rattle.field.specs.Part.{part}
use Rattle.field.specs.Choice.{nth_valid, All}
use Rattle.field.specs.Choice.All.{none, with}
use Rattle.field.proofs.FirstLaws.{differ_yes, differ_no, when_hit, when_pass}
use Rattle.field.proofs.NumberLaws.{number_take}
use Rattle.field.proofs.PartLaws.{part_of_take}
use Rattle.field.proofs.ChoiceLaws.{only_looked_at, all_map}
use Rattle.memory.specs.Places.{view_of}
use Rattle.memory.specs.Pieces.{AgreeOn}
use Rattle.memory.proofs.PlaceLaws.{view_length_same, other_bytes_stay}
use Rattle.memory.proofs.AskedLaws.{same_asked}
use Rattle.memory.proofs.PieceLaws.{others_agree, not_mapped_outside}
use Rattle.rsdp.specs.Pointer.{revision_of, needed_of, summed_of, wrong_sum, pointer_reasons, pointer_checked, pointer_of, root_pointer_of}
use Rattle.rsdp.specs.Search.{candidates, segment_of, second_area, searched, checked_at, search_of}
use Rattle.rsdp.specs.Asked.{root_pointer_at, search_asked}
use Rattle.rsdp.specs.Statements.{PointerBytes, named_pointer, named_search, PointerAtBytes, SearchBytes, PointerOthersStay, SearchOthersStay, PointerMappedOnly, SearchMappedOnly}
use Rattle.std.specs.Prelude.{Option, Ok}
use Rattle.std.specs.Option.{ok_or}
use Rattle.refusal.specs.declared.Refusal.TheVariants.{PointerNotFound}
use Rattle.field.specs.Then.{and_then}
use Rattle.rsdp.proofs.PointerLaws.{needed_least, needed_later, summed_within, sum_long}

-- What lies inside the first k bytes is the same where those are: fewer bytes, a number, a part.
module _ (k : ℕ) (v v' : List ℕ) (e : take k v ≡ take k v') where
  pub same_take : (n : ℕ) → n ≤ k → take n v ≡ take n v'
  same_take n h = sym (take-take n k v h) ∙ ap (take n) e ∙ take-take n k v' h

  pub same_number : (at n : ℕ) → at + n ≤ k → number v at n ≡ number v' at n
  same_number at n h = sym (number_take n k v at h) ∙ ap (λ (l : List ℕ). number l at n) e ∙ number_take n k v' at h

  pub same_part : (at n : ℕ) → at + n ≤ k → part v at n ≡ part v' at n
  same_part at n h = sym (part_of_take v k at n h) ∙ ap (λ (l : List ℕ). part l at n) e ∙ part_of_take v' k at n h

-- Two views that agree on the bytes that the first one needs.
module _ (v v' : List ℕ) (e : take (needed_of v) v ≡ take (needed_of v) v') where
  same_revision : revision_of v ≡ revision_of v'
  same_revision = same_number (needed_of v) v v' e 15 1 (omega (arith, needed_least v))

  same_needed : needed_of v ≡ needed_of v'
  unfolding needed_of
  same_needed = ap (λ (r : ℕ). when (differ r 0) 36 20) same_revision

  -- A field that only the later structure has is among the 36 bytes that are needed then.
  same_later : (at n other : ℕ) → at + n ≤ 36
      → when (differ (revision_of v) 0) (number v at n) other ≡ when (differ (revision_of v') 0) (number v' at n) other
  same_later at n other h =
      elim (ℕ_discrete (revision_of v) 0) [
        | yes z ↦ when_pass _ _ _ (differ_no _ 0 z) ∙ sym (when_pass _ _ _ (differ_no _ 0 (sym same_revision ∙ z)))
        | no z ↦
            when_hit _ _ _ (differ_yes _ 0 z)
            ∙ same_number (needed_of v) v v' e at n (omega (arith, needed_later v z))
            ∙ sym (when_hit _ _ _ (differ_yes _ 0 (λ y. z (same_revision ∙ y))))
      ]

  same_summed : summed_of v ≡ summed_of v'
  unfolding summed_of
  same_summed = same_later 20 4 20 (omega arith)

  -- A length that can be right stays inside what is needed; one that is too large is wrong whatever the bytes are.
  same_sum : wrong_sum v ≡ wrong_sum v'
  same_sum =
      elim (dec_le (summed_of v) 36) [
        | yes h ↦
            let bytes = same_take (needed_of v) v v' e (summed_of v) (summed_within v h) in
            unfold wrong_sum in
            rw (bytes, same_summed)
        | no h ↦ sum_long v (omega arith) ∙ sym (sum_long v' (omega (arith, same_summed)))
      ]

  -- Every test of the list of reasons is the same.
  pub same_check : length v ≡ length v' → pointer_checked v ≡ pointer_checked v'
  unfolding pointer_checked pointer_reasons
  same_check l =
      let signature = same_number (needed_of v) v v' e 0 8 (omega (arith, needed_least v)) in
      let maker = same_part (needed_of v) v v' e 9 6 (omega (arith, needed_least v)) in
      rw (l, same_needed, signature, maker, same_sum)

  -- Every field is.
  same_pointer : pointer_of v ≡ pointer_of v'
  unfolding pointer_of
  same_pointer =
      let rsdt = same_number (needed_of v) v v' e 16 4 (omega (arith, needed_least v)) in
      let xsdt = same_later 24 8 0 (omega arith) in
      λ i. record { revision = same_revision i; length = same_summed i; rsdt_address = rsdt i; xsdt_address = xsdt i }

-- The check and what a valid root pointer says are each the same.
pub pointer_bytes : PointerBytes
unfolding root_pointer_of
pointer_bytes v v' l e = ap₂ (λ r p. and_then r (λ _. Ok p)) (same_check v v' e l) (same_pointer v v' e)

-- At an address the view is as long in both images, and the list of ranges is as right.
pub pointer_at_bytes : PointerAtBytes
unfolding root_pointer_at
pointer_at_bytes image image' words address l agree =
    let pointers = pointer_bytes (view_of image words address) (view_of image' words address) (view_length_same image image' words address l) agree in
    same_asked image image' words l pointers

-- The check at an address is the same where the root pointer's bytes are.
pub same_check_at : (image image' words : List ℕ) (p : ℕ) → length image ≡ length image'
    → AgreeOn image image' words (named_pointer image words p) → checked_at image words p ≡ checked_at image' words p
unfolding checked_at
same_check_at image image' words p l agree =
    same_check (view_of image words p) (view_of image' words p) agree (view_length_same image image' words p l)

-- The word at 40e decides which addresses are searched.
same_segment : (v v' : List ℕ) → length v ≡ length v' → take 2 v ≡ take 2 v' → segment_of v ≡ segment_of v'
unfolding segment_of
same_segment v v' l e = ap₂ (λ (n m : ℕ). when (less n 2) 0 m) l (same_number 2 v v' e 0 2 (omega arith))

same_searched : (image image' words : List ℕ) → length image ≡ length image'
    → take 2 (view_of image words 0x40e) ≡ take 2 (view_of image' words 0x40e) → searched image words ≡ searched image' words
unfolding searched
same_searched image image' words l e =
    ap (λ (s : ℕ). candidates 0xe0000 0x20000 ++ second_area s) (same_segment _ _ (view_length_same image image' words 0x40e l) e)

-- What all pieces of a list of addresses have, the addresses have.
pub all_of_map : {A B : Type 0} {P : B → Type 0} (f : A → B) (ps : List A) → All P (map f ps) → All (λ p. P (f p)) ps
all_of_map f [] none = none
all_of_map f (p ∷ ps) (with h a) = with h (all_of_map f ps a)

-- The same addresses are searched, and the check of each at which the search looks is the same.
pub search_bytes : SearchBytes
unfolding search_asked search_of named_search
search_bytes image image' words l (with word agree) =
    let checks = all_map (λ (p : ℕ). same_check_at image image' words p l) (all_of_map (named_pointer image words) _ agree) in
    let looked = only_looked_at _ (checked_at image words) (checked_at image' words) 0 (searched image words) checks in
    let listed = ap (nth_valid (checked_at image' words) 0) (same_searched image image' words l word) in
    same_asked image image' words l (ap (λ (o : Option ℕ). ok_or o PointerNotFound) (looked ∙ listed))

-- An image in which another byte is changed is as long, and agrees on the named bytes.
pub pointer_others_stay : PointerOthersStay
pointer_others_stay image words address j b outside =
    sym
    (pointer_at_bytes image (set image j b) words address (sym (length-set image j b))
    (sym (other_bytes_stay image words address (needed_of (view_of image words address)) j b outside)))

pub search_others_stay : SearchOthersStay
search_others_stay image words j b outside =
    sym (search_bytes image (set image j b) words (sym (length-set image j b)) (others_agree image words j b (named_search image words) outside))

-- A byte that no range holds is outside all pieces.
pub pointer_mapped_only : PointerMappedOnly
pointer_mapped_only image words address j b unmapped = pointer_others_stay image words address j b (unmapped address _)

pub search_mapped_only : SearchMappedOnly
search_mapped_only image words j b unmapped =
    search_others_stay image words j b (not_mapped_outside words j (named_search image words) unmapped)
