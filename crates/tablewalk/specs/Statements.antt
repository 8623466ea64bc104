-- What is shown of the questions beside the contracts: only the named bytes count, and so no byte that no range holds.
use Rattle.std.specs.Prelude.{ℕ, List, Result}
use Rattle.refusal.specs.declared.Refusal.{Refusal}
use Rattle.sdt.specs.declared.Wanted.{Wanted}
use Rattle.sdt.specs.declared.Wanted.TheVariants.{Signature}
use Rattle.tables.specs.Tables.{nth_table}
use Rattle.tables.specs.Named.{named_find, OnlyNamed}
use Rattle.fadt.specs.Values.{dsdt_address}
use Rattle.tablewalk.specs.Asked.{dsdt_of, asked_of}
use Rattle.tablewalk.specs.Lists.{ListsAsked}
use Rattle.tablewalk.specs.Platform.{platform_answer}
use Rattle.tablewalk.specs.Named.{named_dsdt, named_platform}

-- A question about a table that is found first, whatever it asks of the table's bytes, depends on what finding the table
-- depends on, and on nothing else: the bytes of the table that is found are among those.
abbrev pub AskedNamed : Type 1
AskedNamed =
    (A : Type 0) (rsdp : ℕ) (wanted : Wanted) (least n : ℕ) (ask : List ℕ → Result A Refusal)
    → OnlyNamed (λ image words. asked_of image words ask (nth_table image words rsdp wanted least n))
    (λ image words. named_find image words rsdp wanted least n)

-- The same of the five lists: what is promised of the result and of the lent tables, before and after, is the same.
abbrev pub ListsNamed : Type 1
ListsNamed =
    (rsdp : ℕ) (wanted : Wanted) (least n : ℕ)
    → OnlyNamed (λ image words. ListsAsked image words (nth_table image words rsdp wanted least n))
    (λ image words. named_find image words rsdp wanted least n)

-- The question about the DSDT depends besides on the table at the address that the FADT gives.
abbrev pub DsdtNamed : Type 0
DsdtNamed =
    (rsdp : ℕ)
    → OnlyNamed (λ image words. asked_of image words (λ (t : List ℕ). dsdt_of image words (dsdt_address t)) (nth_table image words rsdp (Signature 0x50434146) 116 0))
    (λ image words. named_dsdt image words rsdp)

-- The question about the platform depends on what finding the FADT and the MADT depends on.
abbrev pub PlatformNamed : Type 0
PlatformNamed = (rsdp : ℕ) → OnlyNamed (λ image words. platform_answer image words rsdp) (λ image words. named_platform image words rsdp)
