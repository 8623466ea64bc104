-- Before each patch those in front of it are made, and each of them was inside.
use Rattle.std.proofs.Common.{◌≡◌, ◌<◌, All, length, fold, take}
use Rattle.cases.specs.Case.{offset_of, with_patch}
use Rattle.cases.proofs.case.patch_all.Given as goal

abbrev pub invariant-loop-one : goal.invariant-loop-one
invariant-loop-one l = record {
  patched : l.image ≡ fold with_patch l.initial.image (take l.one-index l.patches);
  inside : All (λ p. offset_of p < length l.initial.image) (take l.one-index l.patches);
}
