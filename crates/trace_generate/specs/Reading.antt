-- A generated line is read back as the setting or the call that it was written for (profile).
use Rattle.std.specs.Prelude.{◌≡◌, ℕ, ◌^◌, ◌<◌, ◌≤◌, Bool, List, [], ◌∷◌, Some, Ok, length}
use Rattle.call_table.specs.declared.argument.Arguments.{Arguments}
use Rattle.call_table.specs.declared.argument.Form.{Form}
use Rattle.call_table.specs.declared.argument.Form.TheVariants.{Frame, Page, Count, LastCount, Vcpus, Vcpu, Vm, Kind, Rights}
use Rattle.call_table.specs.declared.step.Step.{Step}
use Rattle.call_table.specs.declared.step.VmId.{VmId}
use Rattle.call_table.specs.Named.{named_by}
use Rattle.call_table.specs.Rows.{row}
use Rattle.trace_generate.specs.declared.line.StepLine.{StepLine}
use Rattle.trace_generate.specs.Lines.{text_of_line}
use Rattle.trace_lines.specs.declared.line.Line.TheVariants as lines
use Rattle.trace_lines.specs.Places.{of_replay}
use Rattle.trace_lines.specs.Said.{said}
use Rattle.trace_lines.specs.Settings.{Told}

-- a number of 64 bits
abbrev pub Fits : ℕ → Type 0
Fits n = n < 2 ^ 64

abbrev pub FitsVm : VmId → Type 0
FitsVm vm = Fits vm.slot × Fits vm.generation

-- the number of an argument of a form is
abbrev pub FitsForm : Form → Arguments → Type 0
FitsForm Frame a = Fits a.frame
FitsForm Page a = Fits a.page
FitsForm Count a = Fits a.count
FitsForm LastCount a = Fits a.count
FitsForm Vcpus a = Fits a.vcpus
FitsForm Vcpu a = Fits a.vcpu
FitsForm Vm a = FitsVm a.vm
FitsForm Kind a = Unit {0}
FitsForm Rights a = Unit {0}

-- and those of such forms are
abbrev pub FitForms : List Form → Arguments → Type 0
FitForms [] a = Unit {0}
FitForms (form ∷ more) a = FitsForm form a × FitForms more a

-- the numbers of a step are of 64 bits, as those of every step of code are
abbrev pub IsIn64Bits : Step → Type 0
IsIn64Bits step = FitForms (row (named_by step).call).forms (named_by step).arguments

-- after any boot, whatever lines came before it and with or without `start`, the line of a step
-- says exactly that step
abbrev pub LinesAreRead : Type 0
LinesAreRead =
    (started : Bool) (told : Told) (line : StepLine) → Fits line.cpu → IsIn64Bits line.step
    → said (of_replay started) told (text_of_line line) ≡ Ok (Some (lines.Step line.cpu line.step))

-- and so it has at most 256 bytes
abbrev pub LinesAreShort : Type 0
LinesAreShort =
    (line : StepLine) → Fits line.cpu → IsIn64Bits line.step → length (text_of_line line) ≤ 256
