-- Laws about generic addresses, their spaces and their access sizes.
use Rattle.std.proofs.Common.{ℕ, zero, suc, ◌+◌, ◌<◌, ◌≡◌, refl, sym, ◌∙◌, List, [], ◌∷◌, map, add-suc, suc-add, zero-add, le_of_suc-le-suc, not-suc-le-zero, arith, length, get_or}
use Rattle.field.proofs.FirstLaws.{less_true, less_false, err_not_ok, when_cases}
use Rattle.address.specs.Space.{spaces, space_number, space_of, SpaceHasItsNumber}
use Rattle.address.specs.Size.{sizes, size_number, size_of, SizeHasItsNumber}
use Rattle.address.specs.declared.AddressSpace.TheVariants.{SystemMemory}
use Rattle.address.specs.declared.AccessSize.TheVariants.{Undefined}

-- the numbers from i on, n of them
abbrev numbers : ℕ → ℕ → List ℕ
numbers i zero = []
numbers i (suc n) = i ∷ numbers (suc i) n

-- Where the numbers of a list of names are those from i on, the k-th name has the number i + k.
in_order :
    {A : Type 0} (number_of : A → ℕ) (d : A) (names : List A) (i k : ℕ) →
    map number_of names ≡ numbers i (length names) →
    k < length names →
    number_of (get_or names k d) ≡ i + k
in_order number_of d [] i k e h = absurd (not-suc-le-zero h)
in_order number_of d (name ∷ names) i zero e h = let e₀ : number_of name ≡ i = cc in omega arith
in_order number_of d (name ∷ names) i (suc k) e h =
    let e₀ : map number_of names ≡ numbers (suc i) (length names) = cc in
    in_order number_of d names (suc i) k e₀ (le_of_suc-le-suc h) ∙ suc-add i k ∙ sym (add-suc i k)

-- By the rows of the table: the list is in the order of its numbers, 0x7f is the one number from 0x7f on below 0x80, and the
-- maker's own number is kept.
pub space_has_its_number : SpaceHasItsNumber
unfolding space_of
space_has_its_number n space e =
    when_cases _ _ _ e (λ t h. cc (in_order space_number SystemMemory spaces 0 n refl (less_true _ _ t), zero-add n))
    (λ _ e₁. when_cases _ _ _ e₁ (λ _ h. err_not_ok _ _ h)
    (λ t₁ e₂. when_cases _ _ _ e₂ (λ t₂ h. let n_is : 0x7f ≡ n = omega (arith, less_false _ _ t₁, less_true _ _ t₂) in cc)
    (λ _ e₃. when_cases _ _ _ e₃ (λ _ h. err_not_ok _ _ h) (λ _ h. cc))))

-- The list is in the order of its numbers.
pub size_has_its_number : SizeHasItsNumber
unfolding size_of
size_has_its_number n size e =
    when_cases _ _ _ e (λ t h. cc (in_order size_number Undefined sizes 0 n refl (less_true _ _ t), zero-add n))
    (λ _ h. err_not_ok _ _ h)
