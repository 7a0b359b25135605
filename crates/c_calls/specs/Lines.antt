-- The lines of a trace that records what a hypervisor did.
use Rattle.std.specs.Prelude.{◌≡◌, ◌<◌, ◌≤◌, ◌==◌, ◌++◌, ℕ, Bool, List, [], ◌∷◌, Some, None, Ok, IsSome, codes, map, if◌then◌else◌}
use Rattle.std.specs.Fmt.{decimal}
use Rattle.page_state.specs.Texts.{text_of_page}
use Rattle.call_table.specs.declared.step.Step.{Step}
use Rattle.c_words.specs.Steps.{step_from_c}
use Rattle.c_states.specs.declared.judge.PlainCall.{PlainCall}
use Rattle.c_states.specs.declared.layout.PlainLayout.{PlainLayout}
use Rattle.c_states.specs.declared.layout.PlainRegion.{PlainRegion}
use Rattle.trace_generate.specs.Lines.{text_of_line}
use Rattle.trace_lines.specs.declared.line.Line.{Line}
use Rattle.trace_lines.specs.declared.line.Line.TheVariants as lines
use Rattle.trace_lines.specs.Places.{of_replay}
use Rattle.trace_lines.specs.Said.{said}
use Rattle.trace_lines.specs.Settings.{Told}
use Rattle.c_calls.specs.declared.lines.Unwritten.{Unwritten}
use Rattle.c_calls.specs.declared.lines.Unwritten.TheVariants as unwritten
use Rattle.c_calls.specs.Texts.{IsOffered}

-- a word and then a number; and a word, a page and a count
abbrev pub number_line : List ℕ → ℕ → List ℕ
number_line word n = word ++ codes " " ++ decimal n

abbrev pub range_line : List ℕ → ℕ → ℕ → List ℕ
range_line word first count = word ++ codes " " ++ text_of_page first ++ codes " " ++ decimal count

-- the line of a region
abbrev pub region_line : PlainRegion → List ℕ
region_line r = range_line (if r.kind == 0 then codes "memory" else codes "device") r.first r.count

-- the lines before those of regions. Each log has room for as many calls as a log can have
abbrev pub config_lines : ℕ → ℕ → List (List ℕ)
config_lines bits cpus =
    number_line (codes "geometry") bits ∷ number_line (codes "cpus") cpus ∷ codes "log 1048576" ∷ []

-- the lines after those: the carve-out, and the boot
abbrev pub end_lines : ℕ → ℕ → List (List ℕ)
end_lines first count = range_line (codes "carve") first count ∷ codes "boot" ∷ []

-- the lines of a layout's settings
abbrev pub setting_lines : PlainLayout → List PlainRegion → List (List ℕ)
setting_lines l regions =
    config_lines l.address_bits l.cpus
    ++ (map region_line regions
    ++ (range_line (codes "carve") l.carve_first l.carve_count ∷ []))

-- lines, each with its end
abbrev pub text_of_lines : List (List ℕ) → List ℕ
text_of_lines [] = []
text_of_lines (line ∷ more) = line ++ (codes "\n" ++ text_of_lines more)

-- those that a trace of the layout begins with, the boot the last
abbrev pub text_of_start : PlainLayout → List PlainRegion → List ℕ
text_of_start l regions = text_of_lines (setting_lines l regions ++ (codes "boot" ∷ []))

-- a line says this wherever a step may be: after any settings, and before `start` or after it
abbrev pub IsReadAs : List ℕ → Line → Type 0
IsReadAs line says =
    (started : Bool) (told : Told) → said (of_replay started) told line ≡ Ok (Some says)

-- the line of a call of one of the layout's CPUs is offered, with its end, and says that call
pub record IsLineOf (l : PlainLayout) (call : PlainCall) (old new : List ℕ)
    (count : ℕ) : Type 0 where
  pub step : Step
  pub step_is : step_from_c call.step ≡ Some step
  pub cpu : call.cpu < l.cpus
  pub offered : IsOffered
      (text_of_line (record { cpu = call.cpu; step = step }) ++ codes "\n") old new count
  pub read : IsReadAs (text_of_line (record { cpu = call.cpu; step = step }))
      (lines.Step call.cpu step)

-- why a call has no line: the first that is true
abbrev pub IsUnwritten : PlainLayout → PlainCall → Unwritten → Type 0
IsUnwritten l call unwritten.Step = step_from_c call.step ≡ None
IsUnwritten l call unwritten.Cpu = IsSome (step_from_c call.step) × (l.cpus ≤ call.cpu)
IsUnwritten l call unwritten.NoMemory = Unit {0}
