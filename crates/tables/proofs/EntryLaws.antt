-- Laws about the entries of a root table.
use Rattle.std.proofs.Common.{ℕ, zero, suc, ◌+◌, ◌-◌, ◌*◌, ◌/◌, ◌≤◌, ◌<◌, ◌≡◌, refl, ap, ap₂, sym, ◌∙◌, List, [], ◌∷◌, zero-add, add-zero, zero-mul, suc-mul, add_assoc, arith, length, take, drop, length-drop}
use Rattle.std.specs.Prelude.{Some, None, slice_get, slice_range}
use Rattle.field.specs.Number.{number}
use Rattle.field.proofs.NumberLaws.{number_take, number_drop}
use Rattle.sdt.specs.Header.{header_size}
use Rattle.tables.specs.Root.{size_of, entries_from, entries_of, entries_in}
use Rattle.tables.specs.declared.RootKind.{RootKind}
use Rattle.tables.specs.declared.RootKind.TheVariants.{Rsdt, Xsdt}

-- An entry takes at least one byte.
pub some_size : (kind : RootKind) → 4 ≤ size_of kind
unfolding size_of
some_size Rsdt = omega arith
some_size Xsdt = omega arith

-- Entries behind the first d bytes are those from offset d on.
entries_shift : (n size at d : ℕ) (t : List ℕ) → entries_from n size at (drop d t) ≡ entries_from n size (d + at) t
unfolding entries_from
entries_shift zero size at d t = refl
entries_shift (suc n) size at d t =
    ap₂ (λ (p : ℕ) (ps : List ℕ). p ∷ ps) (number_drop size d t at)
    (entries_shift n size (at + size) d t ∙ ap (λ (i : ℕ). entries_from n size i t) (sym (add_assoc d at size)))

-- The entries of a table are those of the bytes behind its header.
pub entries_behind : (kind : RootKind) (t : List ℕ) → entries_in kind (drop header_size t) ≡ entries_of kind t
unfolding entries_in entries_of
entries_behind kind t =
    ap (λ (n : ℕ). entries_from (n / size_of kind) (size_of kind) 0 (drop header_size t)) (length-drop header_size t)
    ∙ entries_shift _ (size_of kind) 0 header_size t

-- One more whole entry fits: it is the first, and the others follow it.
pub entries_step : (kind : RootKind) (b : List ℕ) → size_of kind ≤ length b → entries_in kind b ≡ number b 0 (size_of kind) ∷ entries_in kind (drop (size_of kind) b)
unfolding entries_in size_of entries_from
entries_step Rsdt b h =
    let count : length b / 4 ≡ suc (length (drop 4 b) / 4) = rw length-drop (omega arith) in
    ap (λ (n : ℕ). entries_from n 4 0 b) count
    ∙ ap (λ (ps : List ℕ). number b 0 4 ∷ ps) (sym (entries_shift (length (drop 4 b) / 4) 4 0 4 b))
entries_step Xsdt b h =
    let count : length b / 8 ≡ suc (length (drop 8 b) / 8) = rw length-drop (omega arith) in
    ap (λ (n : ℕ). entries_from n 8 0 b) count
    ∙ ap (λ (ps : List ℕ). number b 0 8 ∷ ps) (sym (entries_shift (length (drop 8 b) / 8) 8 0 8 b))

-- The entry that the first bytes are, and those of the rest.
pub entries_first : (kind : RootKind) (b entry rest : List ℕ) (p size : ℕ) → size ≡ size_of kind → size ≤ length b → entry ≡ take size b → rest ≡ drop size b
    → p ≡ number entry 0 (size_of kind) → entries_in kind b ≡ p ∷ entries_in kind rest
entries_first kind b entry rest p size sized fits first others e =
    let number_here : p ≡ number b 0 (size_of kind) =
    e ∙ ap (λ (l : List ℕ). number l 0 (size_of kind)) first ∙ number_take (size_of kind) size b 0 (omega (arith, zero-add (size_of kind))) in
    let rest_here : rest ≡ drop (size_of kind) b = others ∙ ap (λ (n : ℕ). drop n b) sized in
    entries_step kind b (omega arith) ∙ sym (ap₂ (λ (q : ℕ) (l : List ℕ). q ∷ entries_in kind l) number_here rest_here)

-- No whole entry fits any more.
pub entries_end : (kind : RootKind) (b : List ℕ) → length b < size_of kind → entries_in kind b ≡ []
unfolding entries_in size_of entries_from
entries_end Rsdt b h =
    let e : length b / 4 ≡ 0 = omega arith in
    ap (λ (n : ℕ). entries_from n 4 0 b) e
entries_end Xsdt b h =
    let e : length b / 8 ≡ 0 = omega arith in
    ap (λ (n : ℕ). entries_from n 8 0 b) e

-- The k-th of n entries stands k sizes further on; behind the last there is none.
get_in : (n k size at : ℕ) (t : List ℕ) → k < n → slice_get (entries_from n size at t) k ≡ Some (number t (at + k * size) size)
unfolding entries_from
get_in zero k size at t h = absurd (omega arith)
get_in (suc n) zero size at t h =
    let e : at ≡ at + 0 * size = omega (arith, zero-mul size) in
    ap (λ (i : ℕ). Some (number t i size)) e
get_in (suc n) (suc k) size at t h =
    let e : at + size + k * size ≡ at + suc k * size = omega (arith, suc-mul k size) in
    get_in n k size (at + size) t (omega arith) ∙ ap (λ (i : ℕ). Some (number t i size)) e

get_out : (n k size at : ℕ) (t : List ℕ) → n ≤ k → slice_get (entries_from n size at t) k ≡ None
unfolding entries_from
get_out zero zero size at t h = refl
get_out zero (suc k) size at t h = refl
get_out (suc n) zero size at t h = absurd (omega arith)
get_out (suc n) (suc k) size at t h = get_out n k size (at + size) t (omega arith)

module _ (kind : RootKind) (b : List ℕ) (k size : ℕ) (sized : size ≡ size_of kind) where
  pub entry_there : k < length b / size → (entry : List ℕ) (p : ℕ) → entry ≡ slice_range b (k * size) (k * size + size) → p ≡ number entry 0 (size_of kind)
      → slice_get (entries_in kind b) k ≡ Some p
  unfolding entries_in
  entry_there h entry p e q =
      let there : p ≡ number b (k * size) (size_of kind) =
      q ∙ ap (λ (l : List ℕ). number l 0 (size_of kind)) e
      ∙ number_take (size_of kind) (k * size + size - k * size) (drop (k * size) b) 0 (omega arith)
      ∙ number_drop (size_of kind) (k * size) b 0 ∙ ap (λ (i : ℕ). number b i (size_of kind)) (add-zero (k * size)) in
      get_in _ k (size_of kind) 0 b (omega (arith, ap (λ (n : ℕ). length b / n) sized))
      ∙ ap (λ (i : ℕ). Some (number b i (size_of kind))) (zero-add _ ∙ ap (λ (n : ℕ). k * n) (sym sized))
      ∙ ap Some (sym there)

  pub entry_behind : length b / size ≤ k → slice_get (entries_in kind b) k ≡ None
  unfolding entries_in
  entry_behind h = get_out _ k (size_of kind) 0 b (omega (arith, ap (λ (n : ℕ). length b / n) sized))
