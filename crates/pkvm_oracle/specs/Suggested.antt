-- What the suggestion of a call answers C.
use Rattle.std.specs.Prelude.{◌≡◌, ◌⊎◌, ℕ, ℤ, List, pos, negsuc}
use Rattle.c_calls.specs.declared.suggest.Unsuggested.{Unsuggested}
use Rattle.c_calls.specs.declared.suggest.Unsuggested.TheVariants as unsuggested
use Rattle.c_calls.specs.Suggests.{IsSuggestedCall, IsUnsuggested}
use Rattle.c_states.specs.declared.judge.PlainCall.{PlainCall}
use Rattle.c_states.specs.declared.layout.PlainLayout.{PlainLayout}
use Rattle.c_states.specs.declared.layout.PlainRegion.{PlainRegion}
use Rattle.c_states.specs.States.{Lists}
use Rattle.pkvm_oracle.specs.declared.judged.PlainRefused.{PlainRefused}
use Rattle.pkvm_oracle.specs.Refusals.{of_fault, refused_by_made, status_by_made}

-- why none is suggested
abbrev pub refused_by_suggestion : Unsuggested → PlainRefused
refused_by_suggestion (unsuggested.State why) = refused_by_made why
refused_by_suggestion other = of_fault 0

-- the status then
abbrev pub status_by_suggestion : Unsuggested → ℤ
status_by_suggestion unsuggested.Hostile = negsuc 2
status_by_suggestion unsuggested.Cpus = negsuc 6
status_by_suggestion (unsuggested.State why) = status_by_made (negsuc 8) why
status_by_suggestion unsuggested.NoMemory = negsuc 11

module _ (layout : PlainLayout) (regions : List PlainRegion) (lists : Lists)
    (random hostile : ℕ) where
  -- the CPU and the step of a call are written, and its reply stays
  pub record ReportsCall (old new : PlainCall) (refused : PlainRefused) (status : ℤ) : Type 0 where
    pub suggested : IsSuggestedCall layout regions lists random hostile
        (record { cpu = new.cpu; step = new.step })
    pub reply : new.reply ≡ old.reply
    pub status_is : status ≡ pos 0
    pub refused_is : refused ≡ of_fault 0

  -- there is none, and nothing is written
  pub record HasNoCall (old new : PlainCall) (refused : PlainRefused) (status : ℤ) : Type 0 where
    pub why : Unsuggested
    pub unsuggested_is : IsUnsuggested layout regions lists hostile why
    pub call : new ≡ old
    pub status_is : status ≡ status_by_suggestion why
    pub refused_is : refused ≡ refused_by_suggestion why

  -- one of these
  abbrev pub IsCallSuggested : PlainCall → PlainCall → PlainRefused → ℤ → Type 0
  IsCallSuggested old new refused status =
      ReportsCall old new refused status ⊎ HasNoCall old new refused status
