-- What a whole trace asks for (profile).
use Rattle.std.specs.Prelude.{◌≡◌, ℕ, ◌+◌, ◌<◌, ◌≤◌, nat_lt, List, [], ◌∷◌, ◌++◌, All, length, Option, Some, None, IfSome, Result, Ok, Err, is_some, unwrap_or, ⊤, if◌then◌else◌}
use Rattle.call_table.specs.declared.step.Step.{Step}
use Rattle.trace_lines.specs.declared.fault.LineFault.{LineFault}
use Rattle.trace_lines.specs.declared.fault.LineFault.TheVariants.{Place}
use Rattle.trace_lines.specs.declared.line.Line.{Line}
use Rattle.trace_lines.specs.declared.line.Line.TheVariants as lines
use Rattle.trace_lines.specs.declared.place.Allows.{Allows}
use Rattle.trace_lines.specs.Places.{before_boot, of_race}
use Rattle.trace_lines.specs.Said.{said}
use Rattle.trace_lines.specs.Settings.{Told, config_of, no_settings, told_after, told_of}
use Rattle.trace_text.specs.declared.fault.Fault.{Fault}
use Rattle.trace_text.specs.declared.fault.Fault.TheVariants as faults
use Rattle.trace_text.specs.declared.session.Stop.{Stop}
use Rattle.trace_text.specs.declared.session.Stop.TheVariants as stops
use Rattle.trace_race.specs.declared.course.Asked.{Asked}
use Rattle.trace_race.specs.declared.course.Course.{Course}

-- what the lines so far ask for: the settings, the number of the boot's line, the steps in order,
-- and how many of them come before `start`
pub record Asking : Type 0 where
  pub told : Told
  pub boot : Option ℕ
  pub steps : List Asked
  pub start : Option ℕ

abbrev pub course_in : Course → Asking
course_in c =
    record { told = told_of c.settings; boot = c.boot; steps = c.steps.items; start = c.start }

-- each step is of a CPU that there is, there is none before the boot, and `start` comes after some
-- of them
pub record IsSound (a : Asking) : Type 0 where
  pub below : All (λ s. s.cpu < (config_of a.told).cpus) a.steps
  pub before : a.boot ≡ None → a.steps ≡ []
  pub start : IfSome a.start (λ count. count ≤ length a.steps)

-- how many of the steps come before `start`: all, if there is no such line
abbrev pub in_order_of : Asking → ℕ
in_order_of a = unwrap_or a.start (length a.steps)

abbrev pub nothing_asked : Asking
nothing_asked = record { told = no_settings; boot = None; steps = []; start = None }

-- what `race` allows
abbrev pub allowed_by : Option ℕ → Option ℕ → Allows
allowed_by None start = before_boot
allowed_by (Some number) start = of_race (is_some start)

abbrev pub allowed : Asking → Allows
allowed a = allowed_by a.boot a.start

-- a step of a CPU, which is one of those that were given
abbrev pub step_of : ℕ → ℕ → Step → Asking → Result Asking Fault
step_of number cpu step a =
    if nat_lt cpu (config_of a.told).cpus
    then Ok
    (record a { steps = a.steps ++ record { line = number; cpu = cpu; step = step } ∷ [] })
    else Err faults.Cpu

-- the requests with one line more
abbrev pub said_of : ℕ → Line → Asking → Result Asking Fault
said_of number (lines.Setting setting) a = Ok (record a { told = told_after setting a.told })
said_of number lines.Boot a = Ok (record a { boot = Some number })
said_of number (lines.Step cpu step) a = step_of number cpu step a
said_of number (lines.Query query) a = Err (faults.Line Place)
said_of number (lines.Poke poke) a = Err (faults.Line Place)
said_of number lines.Start a = Ok (record a { start = Some (length a.steps) })

abbrev pub follows : ℕ → Result (Option Line) LineFault → Asking → Result Asking Fault
follows number (Err fault) a = Err (faults.Line fault)
follows number (Ok None) a = Ok a
follows number (Ok (Some line)) a = said_of number line a

abbrev pub taken : ℕ → List ℕ → Asking → Result Asking Fault
taken number bytes a = follows number (said (allowed a) a.told bytes) a

-- all lines from a number on: the requests that they add up to, or the first fault with its line
abbrev pub onward : ℕ → Result Asking Fault → (Asking → Result Asking (ℕ × Fault))
    → Result Asking (ℕ × Fault)
onward number (Ok a) more = more a
onward number (Err fault) more = Err (number, fault)

abbrev pub course_of : ℕ → Asking → List (List ℕ) → Result Asking (ℕ × Fault)
course_of number a [] = Ok a
course_of number a (line ∷ rest) =
    if nat_lt 1048576 number then Err (number, faults.Lines)
    else onward number (taken number line a) (λ b. course_of (number + 1) b rest)

-- what code takes up of a line: that, unless memory was refused
abbrev pub Comes : {X : Type 0} → Result Asking Fault → Result X Stop → Asking → Type 0
Comes told (Ok x) new = told ≡ Ok new
Comes told (Err (stops.Fault fault)) new = told ≡ Err fault
Comes told (Err stops.NoMemory) new = ⊤

abbrev pub Takes : {X : Type 0} → ℕ → List ℕ → Asking → Result X Stop → Asking → Type 0
Takes number bytes old result new = Comes (taken number bytes old) result new
