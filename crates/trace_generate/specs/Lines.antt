-- How the lines of a generated trace are written (profile): pages and frames in hexadecimal, all
-- else in decimal, one space between words.
use Rattle.std.specs.Prelude.{ℕ, List, [], ◌∷◌, ◌++◌, codes}
use Rattle.std.specs.Fmt.{decimal}
use Rattle.page_state.specs.declared.entry.PageRange.{PageRange}
use Rattle.page_state.specs.Texts.{text_of_page, text_of_prot}
use Rattle.call_table.specs.declared.argument.Arguments.{Arguments}
use Rattle.call_table.specs.declared.argument.Form.{Form}
use Rattle.call_table.specs.declared.argument.Form.TheVariants.{Frame, Page, Count, LastCount, Vcpus, Vcpu, Vm, Kind, Rights}
use Rattle.call_table.specs.declared.step.Step.{Step}
use Rattle.call_table.specs.Named.{named_by}
use Rattle.call_table.specs.Rows.{row}
use Rattle.call_table.specs.Texts.{text_of_vm}
use Rattle.call_table.specs.Words.{text_of_vm_kind}
use Rattle.trace_generate.specs.declared.line.SettingLines.{SettingLines}
use Rattle.trace_generate.specs.declared.line.StepLine.{StepLine}

-- the argument of a form
abbrev pub text_of_argument : Form → Arguments → List ℕ
text_of_argument Frame a = text_of_page a.frame
text_of_argument Page a = text_of_page a.page
text_of_argument Count a = decimal a.count
text_of_argument LastCount a = decimal a.count
text_of_argument Vcpus a = decimal a.vcpus
text_of_argument Vcpu a = decimal a.vcpu
text_of_argument Vm a = text_of_vm a.vm
text_of_argument Kind a = text_of_vm_kind a.kind
text_of_argument Rights a = text_of_prot a.rights

-- and the arguments of such forms, each after a space
abbrev pub text_of_arguments : List Form → Arguments → List ℕ
text_of_arguments [] a = []
text_of_arguments (form ∷ more) a =
    codes " " ++ (text_of_argument form a ++ text_of_arguments more a)

-- a call's name and its arguments; a range always with its count
unfoldable pub text_of_call : Step → List ℕ
text_of_call step =
    (row (named_by step).call).word
    ++ text_of_arguments (row (named_by step).call).forms (named_by step).arguments

-- a step line, without its end
abbrev pub text_of_line : StepLine → List ℕ
text_of_line line = decimal line.cpu ++ codes " " ++ text_of_call line.step

-- the first page of a range, and how many pages
abbrev pub text_of_range : PageRange → List ℕ
text_of_range range = text_of_page range.first.0 ++ codes " " ++ decimal range.count

-- the lines of settings that are numbers, without the end of the last
abbrev pub text_of_numbers : ℕ → ℕ → ℕ → List ℕ
text_of_numbers geometry cpus log =
    codes "geometry " ++ decimal geometry ++ codes "\ncpus " ++ decimal cpus ++ codes "\nlog "
    ++ decimal log

-- the lines before the steps, without the end of the last
abbrev pub text_of_settings : SettingLines → List ℕ
text_of_settings s =
    text_of_numbers s.geometry s.cpus s.log ++ codes "\nmemory " ++ text_of_range s.memory
    ++ codes "\ncarve " ++ text_of_range s.carve ++ codes "\nboot"
