-- Which form of an address counts. Many addresses stand in the table twice, in a narrow form and, from revision 2 of the table on,
-- in a wide one, whose field is named X_ and takes the place of the other if it is not zero (ACPI 6.5, Table 5.9).
use Rattle.std.specs.Prelude.{ℕ, ◌+◌, List, Result, Ok, Err}
use Rattle.refusal.specs.declared.Refusal.{Refusal}
use Rattle.refusal.specs.declared.Refusal.TheVariants.{TooShort}
use Rattle.field.specs.Number.{number}
use Rattle.field.specs.First.{differ, when}
use Rattle.fadt.specs.Room.{lacks, early}
use Rattle.fadt.specs.declared.Form.{Form}
use Rattle.fadt.specs.declared.Form.TheVariants.{Wide, Narrow}

-- The form that counts of an address whose wide form is the eight bytes from `at` on. A table that ends before the
-- wide form does is too short, since nothing tells whether that form is zero.
unfoldable pub form_of : List ℕ → ℕ → Result Form Refusal
form_of table at =
    when (lacks table 116) (Err TooShort)
    (when (early table) (Ok Narrow)
    (when (lacks table (at + 8)) (Err TooShort)
    (when (differ (number table at 8) 0) (Ok Wide)
    (Ok Narrow))))

-- one of two values by the form that counts
abbrev pub by_form : {A : Type 0} → Form → A → A → A
by_form Wide wide narrow = wide
by_form Narrow wide narrow = narrow
