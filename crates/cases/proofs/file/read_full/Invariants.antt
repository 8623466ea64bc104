-- `read_full` meets its contract. The loop's invariant: what was read stands at the buffer's front, a byte at least for each turn.
use Rattle.std.proofs.Common.{◌≤◌, length, take}
use Rattle.std.specs.Io.KnownBytes.{Consumes}
use Rattle.cases.proofs.file.read_full.Given as goal

abbrev pub invariant-loop-turn : goal.invariant-loop-turn
invariant-loop-turn g l = record {
  counted : l.turn ≤ l.done;
  within : l.done ≤ length l.buffer;
  consumed : Consumes (g.F.Read.remaining l.initial.file) (g.F.Read.remaining l.file) (take l.done l.buffer);
}
