-- What a line does to a trace that is being carried out, and which lines of the report it makes
-- (profile).
use Rattle.std.specs.Prelude.{◌≡◌, ◌⊎◌, ℕ, ◌+◌, ◌<◌, ◌≤◌, Bool, true, false, List, [], ◌∷◌, length, Option, Some, None, Result, Ok, Err, ok_or, is_some, map, option_map, MatchOption, MatchResult}
use Rattle.page_state.specs.declared.entry.PageRange.{PageRange}
use Rattle.page_state.specs.declared.entry.Run.{Run}
use Rattle.page_state.specs.declared.layout.Config.{Config}
use Rattle.page_state.specs.declared.layout.LayoutFault.{LayoutFault}
use Rattle.page_state.specs.declared.layout.LayoutFault.TheVariants as layouts
use Rattle.call_table.specs.declared.reply.Call.{Call}
use Rattle.page_state.specs.LayoutFaults.{IsAccepted, IsFirstFault}
use Rattle.page_state.specs.Regions.{Memory, memory_of}
use Rattle.call_table.specs.declared.step.Step.{Step}
use Rattle.hypercalls.specs.Booted.{IsBooted}
use Rattle.world.specs.declared.World.{World}
use Rattle.world.specs.Boots.{IsNoBoot}
use Rattle.reference_model.specs.model.State.{Reference}
use Rattle.reference_model.specs.model.Step.{Steps}
use Rattle.trace_text.specs.declared.fault.Fault.{Fault}
use Rattle.trace_text.specs.declared.fault.Fault.TheVariants as faults
use Rattle.trace_lines.specs.declared.fault.LineFault.{LineFault}
use Rattle.trace_lines.specs.declared.fault.LineFault.TheVariants.{Place}
use Rattle.trace_lines.specs.declared.line.Line.{Line}
use Rattle.trace_lines.specs.declared.line.Line.TheVariants as lines
use Rattle.trace_lines.specs.declared.line.Query.{Query}
use Rattle.trace_lines.specs.declared.line.Query.TheVariants as queries
use Rattle.trace_lines.specs.declared.line.Setting.{Setting}
use Rattle.trace_lines.specs.declared.line.TreeName.TheVariants.{Host, Hyp}
use Rattle.trace_lines.specs.declared.place.Allows.{Allows}
use Rattle.trace_lines.specs.declared.response.Response.{Response}
use Rattle.trace_lines.specs.declared.response.Response.TheVariants as responses
use Rattle.trace_text.specs.declared.oracle.Verdict.{Verdict}
use Rattle.trace_text.specs.declared.report.ReportLine.{ReportLine}
use Rattle.trace_text.specs.declared.report.ReportLine.TheVariants as report
use Rattle.trace_text.specs.declared.session.Stop.{Stop}
use Rattle.trace_text.specs.declared.session.Stop.TheVariants as stops
use Rattle.trace_lines.specs.Places.{before_boot, of_replay}
use Rattle.trace_lines.specs.Said.{said}
use Rattle.trace_lines.specs.Settings.{Told, no_settings, told_after, config_of}
use Rattle.trace_text.specs.Oracles.{Gives, verdict_lines}
use Rattle.trace_text.specs.Worlds.{Machine, HasMaplets, IsBootOf, IsWordOn, in_state, named_tree, tree_table_count, shared_free_count, guest_free_count}

-- the progress of a trace: the settings, the machine once it is booted, whether `start` came, how
-- many step lines were carried out, and how many disagreements were reported
pub record Standing : Type 0 where
  pub told : Told
  pub machine : Option Machine
  pub started : Bool
  pub steps : ℕ
  pub disagreements : ℕ

-- before the first line
abbrev pub at_start : Standing
at_start =
    record { told = no_settings; machine = None; started = false; steps = 0; disagreements = 0 }

-- what `replay` allows, before and after the boot
abbrev pub allowed : Bool → Bool → Allows
allowed false started = before_boot
allowed true started = of_replay started

-- what a line answers: lines of the report, or why it ends the run
abbrev pub Answer : Type 0
Answer = Result (List ReportLine) Stop

-- a line that ends the run by a fault changes nothing
abbrev pub Faults : Fault → Standing → Answer → Standing → Type 0
Faults fault old answer new = (answer ≡ Err (stops.Fault fault)) × (new ≡ old)

-- a setting is taken up, and reports nothing; only memory can run out
abbrev pub Tells : Setting → Standing → Answer → Standing → Type 0
Tells setting old answer new =
    MatchResult answer
    (λ reported. (reported ≡ []) × (new ≡ record old { told = told_after setting old.told }))
    (λ stop. (stop ≡ stops.NoMemory) × (new ≡ old))

-- why memory and carve-out make no layout
abbrev pub IsNoLayout : LayoutFault → Memory → Type 0
IsNoLayout layouts.NoMemory memory = IsAccepted memory
IsNoLayout layouts.TooMany memory = IsFirstFault layouts.TooMany memory
IsNoLayout layouts.Empty memory = IsFirstFault layouts.Empty memory
IsNoLayout layouts.PastLimit memory = IsFirstFault layouts.PastLimit memory
IsNoLayout layouts.Overlap memory = IsFirstFault layouts.Overlap memory
IsNoLayout layouts.CarveOutside memory = IsFirstFault layouts.CarveOutside memory

-- why a boot ends the run: by the layout's fault, or, if the layout is accepted, by the world's
abbrev pub IsNoWorld : Stop → Memory → Config → Type 0
IsNoWorld (stops.Fault (faults.Layout fault)) memory config = IsNoLayout fault memory
IsNoWorld (stops.Fault (faults.Boot fault)) memory config =
    IsAccepted memory × IsNoBoot fault memory config
IsNoWorld stop memory config = ⊥

-- a world that booted, or why there is none
abbrev pub IsWorldOf : {A : Type 0} → Memory → Config → Result (World A) Stop → Type 0
IsWorldOf memory config answer =
    MatchResult answer (λ w. IsBooted memory config w.parts) (λ stop. IsNoWorld stop memory config)

-- the memory, if it makes a layout, or else why no world has it
abbrev pub IsMemoryOf : Memory → Result Memory Stop → Type 0
IsMemoryOf memory answer =
    MatchResult answer (λ m. (m ≡ memory) × IsAccepted memory)
    (λ stop. (config : Config) → IsNoWorld stop memory config)

-- the machine of the settings has booted, and the line has its tables and free frames
pub record HasBooted (carve : PageRange) (old : Standing) (m : Machine) (reported : Response)
    (new : Standing) : Type 0 where
  pub booted : IsBootOf (memory_of old.told.regions carve) (config_of old.told) m
  pub line : reported
      ≡ responses.Boot (tree_table_count m Host) (tree_table_count m Hyp) (shared_free_count m)
  pub standing : new ≡ record old { machine = Some m }

-- `boot`
abbrev pub Boots : Standing → Answer → Standing → Type 0
Boots old answer new =
    MatchOption old.told.carve (Faults (faults.Line Place) old answer new) (λ carve.
    MatchResult answer
    (λ reported. (m : Machine)
    × (line : Response)
    × (reported ≡ report.Response line ∷ [])
    × HasBooted carve old m line new)
    (λ stop. IsNoWorld stop (memory_of old.told.regions carve) (config_of old.told) × (new ≡ old)))

-- a question about the machine, which changes nothing
abbrev pub Asks : Option Response → Fault → Standing → Answer → Standing → Type 0
Asks told fault old answer new =
    (answer ≡ ok_or (option_map (λ line. report.Response line ∷ []) told) (stops.Fault fault))
    × (new ≡ old)

-- what a line does after the boot; before it, it has no place
abbrev pub OnMachine : (Machine → Standing → Answer → Standing → Type 0) → Standing → Answer
    → Standing → Type 0
OnMachine does old answer new =
    MatchOption old.machine (Faults (faults.Line Place) old answer new) (λ m. does m old answer new)

-- `start`, which says nothing here
abbrev pub Starts : Machine → Standing → Answer → Standing → Type 0
Starts m old answer new = (answer ≡ Ok []) × (new ≡ record old { started = true })

-- a query
abbrev pub Answers : Query → Machine → Standing → Answer → Standing → Type 0
Answers (queries.Word tree page level) m old answer new =
    (word : Option ℕ)
    × IsWordOn m.layout.depth (named_tree m tree) page level word
    × Asks (option_map responses.Word word) faults.Path old answer new
Answers queries.FreeShared m old answer new =
    Asks (Some (responses.Free (shared_free_count m))) (faults.Line Place) old answer new
Answers (queries.FreeGuest slot) m old answer new =
    Asks (Some (responses.Free (guest_free_count m slot))) (faults.Line Place) old answer new
Answers (queries.Show tree) m old answer new =
    (runs : List Run)
    × HasMaplets (named_tree m tree) runs
    × (answer ≡ Ok (map report.Response (map responses.Run runs)))
    × (new ≡ old)

-- the effect of lines if an oracle is asked after each step
module _ (gives : Gives) where
  -- a step of a CPU: a call of it leads by the reference step to the next state; its reply is
  -- reported, and then the oracle's finding
  pub record IsStepped (number cpu : ℕ) (step : Step) (m : Machine) (old : Standing)
      (answer : Answer) (new : Standing) : Type 0 where
    pub call : Call
    pub next : Reference
    pub verdict : Verdict
    pub cpu_is : call.cpu ≡ cpu
    pub step_is : call.step ≡ step
    pub made : Steps m.layout m.state call next
    pub given : gives m call next verdict
    pub lines : answer
        ≡ Ok (report.Response (responses.Step number cpu call.reply) ∷ verdict_lines verdict)
    pub standing : new
        ≡ record old {
          machine = Some (in_state m next);
          steps = old.steps + 1;
          disagreements = old.disagreements + length (verdict_lines verdict);
        }

  -- a step line: its CPU is one of the machine's. Where memory is refused to the oracle the run
  -- ends
  abbrev pub MakesStep : ℕ → ℕ → Step → Machine → Standing → Answer → Standing → Type 0
  MakesStep number cpu step m old answer new =
      (m.layout.config.cpus ≤ cpu → Faults faults.Cpu old answer new)
      × (cpu < m.layout.config.cpus
      → (answer ≡ Err stops.NoMemory) ⊎ IsStepped number cpu step m old answer new)

  -- what a line does, its number counted from 1
  abbrev pub DoesLine : ℕ → Line → Standing → Answer → Standing → Type 0
  DoesLine number (lines.Setting setting) = Tells setting
  DoesLine number lines.Boot = Boots
  DoesLine number (lines.Step cpu step) = OnMachine (MakesStep number cpu step)
  DoesLine number (lines.Query query) = OnMachine (Answers query)
  DoesLine number (lines.Poke poke) = Faults (faults.Line Place)
  DoesLine number lines.Start = OnMachine Starts

  -- what follows from what a line says
  abbrev pub Follows : ℕ → Result (Option Line) LineFault → Standing → Answer → Standing → Type 0
  Follows number (Err fault) old answer new = Faults (faults.Line fault) old answer new
  Follows number (Ok None) old answer new = (answer ≡ Ok []) × (new ≡ old)
  Follows number (Ok (Some line)) old answer new = DoesLine number line old answer new

  -- what the bytes of a line do
  abbrev pub RunsLine : ℕ → List ℕ → Standing → Answer → Standing → Type 0
  RunsLine number bytes old answer new =
      Follows number
      (said (allowed (is_some old.machine) old.started) old.told bytes) old answer new
