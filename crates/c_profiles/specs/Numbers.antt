-- The profiles by their numbers: 0 the model's own words; else the sum of 1 for Linux 6.12 or 2 for
-- 7.3, and of 16 with FWB, 32 with hVHE, 64 with LPA2.
use Rattle.std.specs.Prelude.{ℕ, ◌/◌, ◌%◌, ◌==◌, nat_le, Bool, Option, Some, None, if◌then◌else◌}
use Rattle.table_words.specs.Profiles.{guest_profile, host_profile, hypervisor_profile, model_profile}
use Rattle.table_words.specs.declared.profile.Profile.{Profile}
use Rattle.table_words.specs.declared.profile.Release.{Release}
use Rattle.table_words.specs.declared.profile.Release.TheVariants.{V6, V7}

-- whether a number has a bit, by the bit's value
abbrev pub has_bit : ℕ → ℕ → Bool
has_bit number bit = number / bit % 2 == 1

-- Linux' profile of a tree: 0 the host's and 2 and more a guest's, which have no hVHE; 1 the
-- hypervisor's, which has no FWB
abbrev pub linux_profile : ℕ → Release → Bool → Bool → Bool → Option Profile
linux_profile tree release fwb hvhe lpa2 =
    if tree == 1 then (if fwb then None else Some (hypervisor_profile release hvhe lpa2))
    else (if hvhe then None
    else (if tree == 0 then Some (host_profile release fwb lpa2)
    else Some (guest_profile release fwb lpa2)))

abbrev pub linux_from_c : ℕ → Release → ℕ → Option Profile
linux_from_c tree release number =
    linux_profile tree release (has_bit number 16) (has_bit number 32) (has_bit number 64)

-- the profile of a tree that has a number
abbrev pub profile_from_c : ℕ → ℕ → Option Profile
profile_from_c tree number =
    if number == 0 then Some model_profile
    else (if nat_le 128 number then None
    else (if number % 16 == 1 then linux_from_c tree V6 number
    else (if number % 16 == 2 then linux_from_c tree V7 number
    else None)))
