-- How answers are counted. The rule of the checksum is the one that tests/reference/utf8.py states.
use Rattle.std.specs.Prelude.{◌+◌, ◌*◌, ◌%◌, ◌≤◌, ◌<◌, Bool, true, false}
use Rattle.utf8_cases.specs.declared.Tally.{Tally}

-- These bounds leave room in a u64 for one answer more.
pub record Bounded (t : Tally) : Type 0 where
  pub taken_fits : t.taken < 4294967296
  pub well_formed_fits : t.well_formed ≤ t.taken
  pub checksum_fits : t.checksum < 1000000007

-- The checksum tells the order of the answers too: a well-formed string adds 1 to it, any other 2.
abbrev pub after_answer : Tally → Bool → Tally
after_answer t true =
    record { taken = t.taken + 1; well_formed = t.well_formed + 1; checksum = (t.checksum * 31 + 1) % 1000000007 }
after_answer t false =
    record { taken = t.taken + 1; well_formed = t.well_formed; checksum = (t.checksum * 31 + 2) % 1000000007 }
