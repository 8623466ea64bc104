-- Laws about valid root pointers: what a valid one is, and which one a search finds.
use Rattle.std.proofs.Common.{◌%◌, arith, length, take}
use borrow.Author.Tests.{not-false}
use Rattle.std.proofs.lemmas.Bool.{or_parts}
use Rattle.field.specs.Number.{number}
use Rattle.std.specs.Prelude.{sum}
use Rattle.refusal.specs.Number.{number_of}
use Rattle.field.proofs.FirstLaws.{less_false, differ_false, all_clear, ascends, ascending}
use Rattle.field.proofs.ChoiceLaws.{chosen_is_nth, nothing_means_few}
use Rattle.rsdp.specs.Pointer.{rsd_ptr, needed_of, summed_of, wrong_sum, pointer_reasons, pointer_checked}
use Rattle.rsdp.specs.Search.{searched, checked_at, search_of}
use Rattle.rsdp.specs.Statements.{PointerReasonsAscend, ValidPointerSums, SearchedIsFirst, NotFoundMeansNone}
use Rattle.rsdp.proofs.SearchLaws.{found_at, found_none}

-- The list of reasons is known, so its numbers can be compared.
pub pointer_reasons_ascend : PointerReasonsAscend
unfolding pointer_reasons ascends
pointer_reasons_ascend v = ascending number_of 2 (pointer_reasons v) tt

-- Where nothing refuses it, no test of the list holds, and none of the three that make the sum wrong.
pub valid_pointer_sums : ValidPointerSums
unfolding pointer_checked pointer_reasons wrong_sum
valid_pointer_sums v e =
    let c₁ = all_clear _ _ _ e in
    let c₂ = all_clear _ _ _ c₁.others in
    let c₃ = all_clear _ _ _ c₂.others in
    let c₄ = all_clear _ _ _ c₃.others in
    let c₅ = all_clear _ _ _ c₄.others in
    let sum_parts = or_parts _ _ c₅.fails in
    let length_parts = or_parts _ _ sum_parts.0 in
    record {
      mapped = less_false (length v) (needed_of v) c₂.fails;
      signature = differ_false (number v 0 8) rsd_ptr c₃.fails;
      maker = not-false _ c₄.fails;
      least = less_false (summed_of v) 20 length_parts.0;
      most = less_false 36 (summed_of v) length_parts.1;
      sums = differ_false (sum (take (summed_of v) v) % 256) 0 sum_parts.1;
    }

-- The search chooses the first valid address of the list, or nothing.
pub searched_is_first : SearchedIsFirst
unfolding search_of
searched_is_first image words p e = chosen_is_nth _ (checked_at image words) 0 (searched image words) p (found_at _ p e)

pub not_found_means_none : NotFoundMeansNone
unfolding search_of
not_found_means_none image words refusal e =
    omega (arith, nothing_means_few _ (checked_at image words) 0 (searched image words) (found_none _ refusal e))
