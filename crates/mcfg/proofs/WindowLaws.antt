-- Laws about the first entry that includes a bus, and about the addresses in its window.
use Rattle.std.proofs.Common.{cond, ℕ, ◌≤◌, ◌≡◌, refl, subst, List, [], ◌∷◌, Bool, true, false, arith}
use Rattle.std.specs.Prelude.{Option, Some, None, Result, Ok, Err}
use Rattle.std.specs.Option.{ok_or}
use Rattle.std.proofs.lemmas.Bool.Decides.{nat_tests}
use Rattle.field.specs.Then.{and_then}
use Rattle.field.proofs.FirstLaws.{less_false, err_not_ok, when_cases}
use Rattle.refusal.specs.declared.Refusal.TheVariants.{NotThere}
use Rattle.mcfg.specs.Entries.{length_checked, entries}
use Rattle.mcfg.specs.Physical.{includes, window_of, function_in, address_in, physical_address_of, First, InWindow, AddressIsInWindow}
use Rattle.mcfg.specs.Physical.First.{here, later}
use Rattle.mcfg.specs.declared.McfgEntry.{McfgEntry}

-- A value that an answer led to came from a value, and one that was looked for was found.
answered :
    {T U E C : Type 0} (r : Result T E) (next : T → Result U E) {y : U} →
    and_then r next ≡ Ok y →
    ((x : T) → r ≡ Ok x → next x ≡ Ok y → C) →
    C
answered (Ok x) next e then = then x refl e
answered (Err d) next e then = cc

found : {T E : Type 0} (o : Option T) (d : E) {x : T} → ok_or o d ≡ Ok x → o ≡ Some x
found None d e = cc
found (Some x) d e = cc

-- The window is that of the first entry that includes the bus.
window_first : (segment bus : ℕ) (es : List McfgEntry) (e : McfgEntry) → window_of segment bus es ≡ Some e → First segment bus e es
window_first segment bus [] e q = cc
window_first segment bus (x ∷ es) e q = go (includes segment bus x) refl q (window_first segment bus es e)
  where
    go : (t : Bool) → includes segment bus x ≡ t → cond t (Some x) (window_of segment bus es) ≡ Some e →
        (window_of segment bus es ≡ Some e → First segment bus e es) → First segment bus e (x ∷ es)
    go true t h rest = let same : x ≡ e = cc in subst (λ (y : McfgEntry). First segment bus y (x ∷ es)) same (here t)
    go false t h rest = later t (rest h)

first_includes : {segment bus : ℕ} {e : McfgEntry} {es : List McfgEntry} → First segment bus e es → includes segment bus e ≡ true
first_includes (here t) = t
first_includes (later _ f) = first_includes f

-- An entry that includes a bus has it between its first and its last.
bus_between : (segment bus : ℕ) (e : McfgEntry) → includes segment bus e ≡ true → (e.bus_number_start ≤ bus) × (bus ≤ e.bus_number_end)
bus_between segment bus e t = grind (arith, nat_tests)

-- The sum, in the window of the entry: the 4,096 bytes of a function fit into its bus's 2 ^ 20, and the bus is at most the last.
in_window :
    (table : List ℕ) (segment bus device function address : ℕ) (entry : McfgEntry) →
    window_of segment bus (entries table) ≡ Some entry →
    device ≤ 31 →
    function ≤ 7 →
    address_in entry bus device function ≡ Ok address →
    InWindow table segment bus address
unfolding address_in
in_window table segment bus device function address entry e d f q =
    when_cases _ _ _ q (λ _ h.
    let first = window_first segment bus (entries table) entry e in
    let is : function_in entry bus device function ≡ address = cc in
    let between = bus_between segment bus entry (first_includes first) in
    record { entry = entry; first = first; from = omega arith; to = omega arith })
    (λ _ h. cc)

-- Each test of the definition that could refuse has failed.
pub address_is_in_window : AddressIsInWindow
unfolding physical_address_of
address_is_in_window table segment bus device function address q =
    answered (length_checked table) _ q (λ _ _ q₁.
    when_cases _ _ _ q₁ (λ _ h. err_not_ok _ _ h)
    (λ d q₂. when_cases _ _ _ q₂ (λ _ h. err_not_ok _ _ h)
    (λ f q₃. answered (ok_or (window_of segment bus (entries table)) NotThere) _ q₃ (λ entry w a.
    in_window table segment bus device function address entry (found _ _ w) (less_false _ _ d) (less_false _ _ f) a))))
