-- Laws about whether a table holds a field.
use Rattle.std.proofs.Common.{ℕ, ◌≤◌, ◌<◌, ◌≡◌, refl, ◌∙◌, List, Bool, true, false, ◌||◌, length}
use Rattle.field.specs.Number.{number}
use Rattle.field.specs.First.{less, differ}
use Rattle.field.proofs.FirstLaws.{less_yes, less_no, differ_yes, differ_no, when_hit, when_pass}
use Rattle.fadt.specs.Room.{lacks}

-- Where one of two tests holds, one of three does.
either : (a b c : Bool) → a || (b || a) ≡ true → a || (b || c) ≡ true
either true b c e = refl
either false true c e = refl
either false false c e = cc

-- A slice that lacks the fixed part, or states another length, lacks whatever lies behind it.
pub lacks_all : (table : List ℕ) (end : ℕ) → lacks table 116 ≡ true → lacks table end ≡ true
unfolding lacks
lacks_all table end e = either (less (length table) 116) (differ (number table 4 4) (length table)) _ e

-- A slice that holds the fixed part and states its own length lacks what ends behind it, and nothing else.
pub lacks_end :
    (table : List ℕ) (end : ℕ) →
    116 ≤ length table →
    number table 4 4 ≡ length table →
    lacks table end ≡ less (length table) end
unfolding lacks
lacks_end table end fixed_part whole = rw (less_no _ _ fixed_part, differ_no _ _ whole)

pub lacks_yes : (table : List ℕ) (end : ℕ) → 116 ≤ length table → number table 4 4 ≡ length table → length table < end → lacks table end ≡ true
lacks_yes table end fixed_part whole behind = lacks_end table end fixed_part whole ∙ less_yes _ _ behind

pub lacks_no : (table : List ℕ) (end : ℕ) → 116 ≤ length table → number table 4 4 ≡ length table → end ≤ length table → lacks table end ≡ false
lacks_no table end fixed_part whole inside = lacks_end table end fixed_part whole ∙ less_no _ _ inside

-- What decides which way a definition goes.
pub ruleset tests = (when_hit, when_pass, less_yes, less_no, differ_yes, differ_no, lacks_all, lacks_yes, lacks_no)
