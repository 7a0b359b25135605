-- What the boot of a layout answers C.
use Rattle.std.specs.Prelude.{◌≡◌, ◌⊎◌, ℤ, List, false, pos, negsuc}
use Rattle.c_calls.specs.declared.boot_state.Unbooted.{Unbooted}
use Rattle.c_calls.specs.declared.boot_state.Unbooted.TheVariants as unbooted
use Rattle.c_calls.specs.Boots.{IsBootState, IsUnbooted}
use Rattle.c_states.specs.declared.judge.Unmade.TheVariants as unmade
use Rattle.c_states.specs.declared.layout.PlainLayout.{PlainLayout}
use Rattle.c_states.specs.declared.layout.PlainRegion.{PlainRegion}
use Rattle.c_states.specs.States.{Lists}
use Rattle.pkvm_oracle.specs.declared.judged.PlainRefused.{PlainRefused}
use Rattle.pkvm_oracle.specs.declared.predicted.PlainRoom.{PlainRoom}
use Rattle.pkvm_oracle.specs.declared.predicted.PlainSizes.{PlainSizes}
use Rattle.pkvm_oracle.specs.Predicted.{fits, no_sizes, room_of, sizes_of, AreWritten}
use Rattle.pkvm_oracle.specs.Refusals.{of_fault, refused_by_made, status_by_made}

-- why a layout doesn't boot
abbrev pub refused_by_boot : Unbooted → PlainRefused
refused_by_boot (unbooted.Layout fault) = refused_by_made (unmade.Layout fault)
refused_by_boot unbooted.Cpus = of_fault 25
refused_by_boot unbooted.CarveSmall = of_fault 26
refused_by_boot unbooted.NoMemory = of_fault 0

-- the status of a layout that doesn't boot (-8), and -12 if memory ran out
abbrev pub status_by_boot : Unbooted → ℤ
status_by_boot (unbooted.Layout fault) = status_by_made (negsuc 7) (unmade.Layout fault)
status_by_boot unbooted.Cpus = negsuc 7
status_by_boot unbooted.CarveSmall = negsuc 7
status_by_boot unbooted.NoMemory = negsuc 11

module _ (layout : PlainLayout) (regions : List PlainRegion) where
  -- the state at boot is written
  pub record ReportsBoot (old_room new_room : PlainRoom) (sizes : PlainSizes)
      (refused : PlainRefused) (status : ℤ) : Type 0 where
    pub lists : Lists
    pub booted : IsBootState layout regions lists
    pub written : AreWritten lists old_room new_room
    pub sizes_are : sizes ≡ sizes_of lists
    pub status_is : status ≡ pos 0
    pub refused_is : refused ≡ of_fault 0

  -- a list of it has no room, and nothing is written
  pub record HasNoRoomForBoot (old_room new_room : PlainRoom) (sizes : PlainSizes)
      (refused : PlainRefused) (status : ℤ) : Type 0 where
    pub lists : Lists
    pub booted : IsBootState layout regions lists
    pub sizes_are : sizes ≡ sizes_of lists
    pub no_room : fits sizes (room_of old_room) ≡ false
    pub room : new_room ≡ old_room
    pub status_is : status ≡ negsuc 1
    pub refused_is : refused ≡ of_fault 0

  -- there is none, and nothing is written
  pub record HasNoBoot (old_room new_room : PlainRoom) (sizes : PlainSizes)
      (refused : PlainRefused) (status : ℤ) : Type 0 where
    pub why : Unbooted
    pub unbooted : IsUnbooted layout regions why
    pub sizes_are : sizes ≡ no_sizes
    pub room : new_room ≡ old_room
    pub status_is : status ≡ status_by_boot why
    pub refused_is : refused ≡ refused_by_boot why

  -- one of these
  abbrev pub IsBooted : PlainRoom → PlainRoom → PlainSizes → PlainRefused → ℤ → Type 0
  IsBooted old_room new_room sizes refused status =
      ReportsBoot old_room new_room sizes refused status
      ⊎ (HasNoRoomForBoot old_room new_room sizes refused status
      ⊎ HasNoBoot old_room new_room sizes refused status)
