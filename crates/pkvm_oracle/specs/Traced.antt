-- What the recording of a run as a trace answers C.
use Rattle.std.specs.Prelude.{◌≡◌, ◌⊎◌, ℕ, ℤ, List, length, nat_le, pos, negsuc, if◌then◌else◌}
use Rattle.c_calls.specs.declared.boot_state.Unbooted.{Unbooted}
use Rattle.c_calls.specs.declared.lines.Unwritten.{Unwritten}
use Rattle.c_calls.specs.declared.lines.Unwritten.TheVariants as unwritten
use Rattle.c_calls.specs.Boots.{CanBootPlain, IsUnbooted}
use Rattle.c_calls.specs.Lines.{text_of_start, IsLineOf, IsUnwritten}
use Rattle.c_calls.specs.Texts.{IsOffered}
use Rattle.c_states.specs.declared.judge.PlainCall.{PlainCall}
use Rattle.c_states.specs.declared.layout.PlainLayout.{PlainLayout}
use Rattle.c_states.specs.declared.layout.PlainRegion.{PlainRegion}
use Rattle.pkvm_oracle.specs.declared.judged.PlainRefused.{PlainRefused}
use Rattle.pkvm_oracle.specs.Booted.{refused_by_boot, status_by_boot}
use Rattle.pkvm_oracle.specs.Refusals.{of_fault}

-- the status of text of a length in a room: 0, or -2 if the room is too small
abbrev pub status_in : ℕ → ℕ → ℤ
status_in count room = if nat_le count room then pos 0 else negsuc 1

module _ (l : PlainLayout) (regions : List PlainRegion) where
  -- the lines of the layout are offered
  pub record GivesStart (old new : List ℕ) (count : ℕ) (refused : PlainRefused)
      (status : ℤ) : Type 0 where
    pub can : CanBootPlain l regions
    pub offered : IsOffered (text_of_start l regions) old new count
    pub status_is : status ≡ status_in count (length old)
    pub refused_is : refused ≡ of_fault 0

  -- the layout doesn't boot, and nothing is written
  pub record HasNoStart (old new : List ℕ) (count : ℕ) (refused : PlainRefused)
      (status : ℤ) : Type 0 where
    pub why : Unbooted
    pub unbooted : IsUnbooted l regions why
    pub count_is : count ≡ 0
    pub text : new ≡ old
    pub status_is : status ≡ status_by_boot why
    pub refused_is : refused ≡ refused_by_boot why

  -- one of both
  abbrev pub IsStartTraced : List ℕ → List ℕ → ℕ → PlainRefused → ℤ → Type 0
  IsStartTraced old new count refused status =
      GivesStart old new count refused status ⊎ HasNoStart old new count refused status

-- the status of a call that has no line
abbrev pub status_by_line : Unwritten → ℤ
status_by_line unwritten.Step = negsuc 4
status_by_line unwritten.Cpu = negsuc 6
status_by_line unwritten.NoMemory = negsuc 11

module _ (l : PlainLayout) (call : PlainCall) where
  -- the line of the call of one of the layout's CPUs is offered
  pub record GivesLine (old new : List ℕ) (count : ℕ) (status : ℤ) : Type 0 where
    pub line : IsLineOf l call old new count
    pub status_is : status ≡ status_in count (length old)

  -- it has none, and nothing is written
  pub record HasNoLine (old new : List ℕ) (count : ℕ) (status : ℤ) : Type 0 where
    pub why : Unwritten
    pub unwritten_is : IsUnwritten l call why
    pub count_is : count ≡ 0
    pub text : new ≡ old
    pub status_is : status ≡ status_by_line why

  -- one of both
  abbrev pub IsCallTraced : List ℕ → List ℕ → ℕ → ℤ → Type 0
  IsCallTraced old new count status =
      GivesLine old new count status ⊎ HasNoLine old new count status
