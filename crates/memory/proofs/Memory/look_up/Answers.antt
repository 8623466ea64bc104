-- `look_up` meets its contract: the place that `locate` found lies inside the slice, since the list is right, and the view is the
-- part there.
use Rattle.std.proofs.Common.{ap, sym, ◌∙◌, arith, ℕ, take, drop}
use native.Mathlib.Nat.{add-sub_cancel_left}
use Rattle.field.specs.Part.{part}
use Rattle.memory.proofs.PlaceLaws.{inside_the_slice, view_at, view_none}
use Rattle.memory.proofs.Memory.look_up.Goals as goal

pub overflow_add-result : goal.overflow_add-result
overflow_add-result c =
    let m = c.args.self in
    omega (arith, inside_the_slice _ m.ranges.now c.args.p c.in-Some.field-0 m.right_ranges (sym c.locate-place.ensures ∙ c.in-Some.is))

pub slice_bounds-result-end : goal.slice_bounds-result-end
slice_bounds-result-end c =
    let m = c.args.self in
    omega (arith, inside_the_slice _ m.ranges.now c.args.p c.in-Some.field-0 m.right_ranges (sym c.locate-place.ensures ∙ c.in-Some.is))

pub returns-in-Some-clause-bytes : goal.returns-in-Some-clause-bytes
unfolding part
returns-in-Some-clause-bytes c =
    let m = c.args.self in
    let place = c.in-Some.field-0 in
    ap (λ (n : ℕ). take n (drop place.offset m.image.now)) (add-sub_cancel_left place.offset place.room)
    ∙ sym (view_at m.image.now m.ranges.now c.args.p place (sym c.locate-place.ensures ∙ c.in-Some.is))

pub returns-in-None-clause-bytes : goal.returns-in-None-clause-bytes
returns-in-None-clause-bytes c =
    let m = c.args.self in
    sym (view_none m.image.now m.ranges.now c.args.p (sym c.locate-place.ensures ∙ c.in-None.is))
