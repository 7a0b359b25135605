-- How the order of steps is found along a merged list (profile).
use Rattle.std.specs.Prelude.{◌≡◌, ℕ, ◌+◌, ◌-◌, ◌==◌, ◌≤◌, nat_lt, List, [], ◌∷◌, ◌++◌, drop, length, map, Some, slice_get, if◌then◌else◌}
use Rattle.page_state.specs.Layouts.{Layout}
use Rattle.call_table.specs.declared.reply.Call.{Call}
use Rattle.call_table.specs.declared.reply.Reply.{Reply}
use Rattle.call_table.specs.declared.step.Step.{Step}
use Rattle.reference_model.specs.model.History.{calls_by, calls_on}
use Rattle.reference_model.specs.model.Parts.{Part}
use Rattle.reference_model.specs.model.Run.{IsRun}
use Rattle.world.specs.declared.merge.Histories.{Histories}
use Rattle.world.specs.Merges.{IsMerged}
use Rattle.trace_race.specs.declared.course.Asked.{Asked}
use Rattle.trace_race.specs.Judged.{told_of}
use Rattle.trace_race.specs.Made.{AreBelow, OneHistory, stored_in}
use Rattle.trace_race.specs.Orders.{answered, made_by, stored_of}

-- the logs of a machine that has ended are those of the one legal history: the stored calls from
-- before `start`, and then the others
pub record IsOfLogs (l : Layout) (start : ℕ) (steps : List Asked) (replies : List Reply)
    (logs : Histories) : Type 0 where
  pub history : OneHistory l start steps replies
  pub begins : IsRun l (stored_in history.first) history.at
  pub merged : IsMerged logs (stored_in history.first ++ history.log)

-- the calls of the one legal history, in an order that keeps each part's and each CPU's
pub record IsMergedOf (l : Layout) (start : ℕ) (steps : List Asked) (replies : List Reply)
    (calls : List (ℕ × Step × Reply)) : Type 0 where
  pub history : OneHistory l start steps replies
  pub begins : IsRun l (stored_in history.first) history.at
  pub all : List Call
  pub on : (p : Part) → calls_on p all ≡ calls_on p (stored_in history.first ++ history.log)
  pub by : (cpu : ℕ) → calls_by cpu all ≡ calls_by cpu (stored_in history.first ++ history.log)
  pub told : told_of all ≡ calls

-- the first `start` steps come before `start`, and each step is of a CPU below this number
pub record AreAsked (cpus start : ℕ) (steps : List Asked) : Type 0 where
  pub first : start ≤ length steps
  pub below : AreBelow cpus steps

-- one less at a number
abbrev pub less_at : (ℕ → ℕ) → ℕ → ℕ → ℕ
less_at counts cpu k = if k == cpu then counts k - 1 else counts k

-- a list of CPUs without the first entries of each CPU, as many as its count says
abbrev pub behind : (ℕ → ℕ) → List ℕ → List ℕ
behind counts [] = []
behind counts (cpu ∷ more) =
    if nat_lt 0 (counts cpu) then behind (less_at counts cpu) more
    else cpu ∷ behind counts more

-- the stored answers to a CPU, from a place on
abbrev pub own_from : ℕ → ℕ → List Asked → List Reply → List (Asked × Reply)
own_from cpu from steps replies =
    made_by cpu (stored_of (answered (drop from steps) (drop from replies)))

-- the place of the next of them
pub record IsNext (steps : List Asked) (replies : List Reply) (from cpu place : ℕ) : Type 0 where
  pub asked : Asked
  pub reply : Reply
  pub there : slice_get steps place ≡ Some asked
  pub cpu_is : asked.cpu ≡ cpu
  pub next : own_from cpu from steps replies
      ≡ (asked, reply) ∷ own_from cpu (place + 1) steps replies

-- the lines of the stored answers, each CPU's in their order, which come in this order of CPUs
pub record OrdersBy (steps : List Asked) (replies : List Reply) (cpus lines : List ℕ) : Type 0 where
  pub order : List (Asked × Reply)
  pub lines_are : lines ≡ map (λ a. a.0.line) order
  pub cpus_are : map (λ a. a.0.cpu) order ≡ cpus
  pub each : (cpu : ℕ) → made_by cpu order ≡ made_by cpu (stored_of (answered steps replies))
