-- What the machine is for (ACPI 6.5, section 5.2.9.1, "Preferred PM Profile System Types").
use Rattle.std.specs.Prelude.{ℕ, List, [], ◌∷◌, slice_index_or, Result, Ok, Err}
use Rattle.refusal.specs.declared.Refusal.{Refusal}
use Rattle.refusal.specs.declared.Refusal.TheVariants.{TooShort}
use Rattle.field.specs.Number.{number}
use Rattle.field.specs.First.{when}
use Rattle.fadt.specs.Room.{lacks}
use Rattle.fadt.specs.declared.PowerProfile.{PowerProfile}
use Rattle.fadt.specs.declared.PowerProfile.TheVariants.{Unspecified, Desktop, Mobile, Workstation, EnterpriseServer, SohoServer, AppliancePc, PerformanceServer, Tablet, Reserved}

-- the profiles of the numbers from 0 on
unfoldable pub profiles : List PowerProfile
profiles =
    Unspecified
    ∷ Desktop
    ∷ Mobile
    ∷ Workstation
    ∷ EnterpriseServer
    ∷ SohoServer
    ∷ AppliancePc
    ∷ PerformanceServer
    ∷ Tablet
    ∷ []

-- the profile of the number n: numbers behind the list are reserved
unfoldable pub profile_of : ℕ → PowerProfile
profile_of n = slice_index_or profiles n (Reserved n)

-- the number of each profile
abbrev pub profile_number : PowerProfile → ℕ
profile_number Unspecified = 0
profile_number Desktop = 1
profile_number Mobile = 2
profile_number Workstation = 3
profile_number EnterpriseServer = 4
profile_number SohoServer = 5
profile_number AppliancePc = 6
profile_number PerformanceServer = 7
profile_number Tablet = 8
profile_number (Reserved n) = n

-- Preferred_PM_Profile.
unfoldable pub power_profile : List ℕ → Result PowerProfile Refusal
power_profile table = when (lacks table 116) (Err TooShort) (Ok (profile_of (number table 45 1)))
