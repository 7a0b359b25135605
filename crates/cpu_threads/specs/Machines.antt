-- A machine, its passes, and the answer of a call that is tried again.
use Rattle.std.specs.Prelude.{◌≡◌, ◌≢◌, ℕ, ◌<◌, ◌≤◌, List, [], flat_map, length, map, All, Option, Some, None, slice_get, slice_index_or}
use Rattle.page_state.specs.declared.layout.Config.{Config}
use Rattle.page_state.specs.declared.layout.Geometry.{Geometry}
use Rattle.call_table.specs.declared.reply.Reply.{Reply}
use Rattle.call_table.specs.declared.step.Step.{Step}
use Rattle.page_state.specs.LayoutFaults.{IsAccepted}
use Rattle.page_state.specs.LayoutView.{layout_of}
use Rattle.page_state.specs.Regions.{Memory}
use Rattle.reference_model.specs.model.Boot.{IsCarveEnough}
use Rattle.part_table.specs.Answered.{FindsAway, FindsLogFull, MakesCall, StoresNothing}
use Rattle.part_table.specs.declared.rule.Begun.{Begun}
use Rattle.part_table.specs.Parts.{log_of, parts}
use Rattle.part_table.specs.Passes.{AreFirst, IsPassOf, Opened, Pass, first_pass}
use Rattle.part_table.specs.Known.{Known, Try, own_at_boot}
use Rattle.part_table.specs.Beginnings.{own_in}
use Rattle.part_table.specs.Slots.{slots_of}
use Rattle.hypercalls.specs.declared.parts.Parts.{Parts}
use Rattle.hypercalls.specs.Booted.{IsConfig, layout_for}

-- a machine: its table of parts, and by CPU the passes that weren't handed out
pub record Machine : Type 0 where
  pub table : Opened
  pub passes : List (Option Pass)

-- a pass at a place is of the table, and is the CPU's of that place
abbrev pub AreTheirs : Opened → List (Option Pass) → Type 0
AreTheirs t passes =
    (c : ℕ) (p : Pass) → slice_get passes c ≡ Some (Some p) → IsPassOf t p × (p.knows.cpu ≡ c)

-- a pass that wasn't handed out has made no call
abbrev pub AreFresh : Opened → List (Option Pass) → Type 0
AreFresh t passes = (c : ℕ) (p : Pass) → slice_get passes c ≡ Some (Some p) → p ≡ first_pass t c

-- there is a place for each CPU
pub record IsReady (t : Opened) (passes : List (Option Pass)) : Type 0 where
  pub count : length passes ≡ t.layout.config.cpus
  pub fresh : AreFresh t passes

-- the pass that was there is handed out, and the others stay
pub record HandsOut (result : Option Pass) (cpu : ℕ)
    (before after : List (Option Pass)) : Type 0 where
  pub there : cpu < length before
      → (slice_get before cpu ≡ Some result) × (slice_get after cpu ≡ Some None)
  pub beyond : length before ≤ cpu → result ≡ None
  pub others : (j : ℕ) → j ≢ cpu → slice_get after j ≡ slice_get before j
  pub count : length after ≡ length before

-- what a table of these parts begins with: their logs, and the CPUs' own states
abbrev pub begun_of : {A : Type 0} → Parts A → Begun
begun_of p = record { logs = map (λ x. (log_of x).calls) (slots_of p); owns = p.cpus.items }

-- a machine of these parts, which begins with them, and no pass was handed out
pub record IsMachineOf {A : Type 0} (p : Parts A) (it : Machine) : Type 0 where
  pub layout : it.table.layout ≡ p.layout
  pub begun : it.table.begun ≡ begun_of p
  pub passes : AreFirst it.table p.layout.config.cpus it.passes

-- it begins with no call: all logs are empty, and each CPU's own state is as at boot
pub record BeginsAtBoot (t : Opened) : Type 0 where
  pub logs : (k : ℕ) → k < parts → slice_index_or t.begun.logs k [] ≡ []
  pub owns : (c : ℕ) → c < t.layout.config.cpus → own_in t.begun c ≡ own_at_boot t.layout c

-- a booted machine: it has the memory and the configuration, all tests of a boot passed, and no
-- pass was handed out
pub record IsBootedMachine (m : Memory) (c : Config) (it : Machine) : Type 0 where
  pub geometry : Geometry
  pub memory : IsAccepted m
  pub accepted : IsConfig c geometry
  pub enough : IsCarveEnough (layout_for m c geometry)
  pub layout : layout_of it.table.layout ≡ layout_for m c geometry
  pub begun : BeginsAtBoot it.table
  pub passes : AreFirst it.table c.cpus it.passes

-- the tries of a step that was tried again and again, or not yet: each time another pass had a part
-- that it uses
abbrev pub MeetsOnly : Step → Known → List Try → Type 0
MeetsOnly step v ts =
    (rounds : List (List Try))
    × (ts ≡ flat_map (λ us. us) rounds)
    × All (FindsAway step v) rounds

-- a step is tried while another pass is in its way, and then the call is stored
pub record StoresInTheEnd (step : Step) (reply : Reply) (v w : Known) : Type 0 where
  pub last : Known
  pub met : StoresNothing (MeetsOnly step v) v last
  pub stores : MakesCall step reply last w

-- a step is tried while another pass is in its way, and then a log is found full
pub record FullInTheEnd (step : Step) (v w : Known) : Type 0 where
  pub last : Known
  pub met : StoresNothing (MeetsOnly step v) v last
  pub full : StoresNothing (FindsLogFull step last) last w
