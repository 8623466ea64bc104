-- The numbers before place i are those that the file has there.
use Rattle.std.proofs.Common.{◌≡◌, length, map, take}
use Rattle.std.specs.Int.{from_le_bytes, w64}
use Rattle.cases.proofs.case.read_numbers.Given as goal

abbrev pub invariant-loop-i : goal.invariant-loop-i
invariant-loop-i l = record {
  long : length l.read ≡ length l.bytes;
  read : take l.i l.read ≡ map (from_le_bytes w64) (take l.i l.bytes);
}
