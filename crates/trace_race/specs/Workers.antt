-- Workers, each with the pass of a CPU.
use Rattle.std.specs.Prelude.{◌≡◌, ℕ, ◌<◌, ◌≤◌, List, [], ◌∷◌, length, map, All}
use Rattle.std.specs.Vec.{vec_capacity}
use Rattle.part_table.specs.Known.{Known}
use Rattle.part_table.specs.Passes.{IsPassOf, Opened, Pass}
use Rattle.trace_race.specs.Made.{IsDoneOf, steps_of}
use Rattle.trace_race.specs.declared.course.Asked.{Asked}
use Rattle.trace_race.specs.declared.workers.Done.{Done}
use Rattle.trace_race.specs.declared.workers.Worker.{Worker}

-- passes of this table
abbrev pub AreOfTable : Opened → List Pass → Type 0
AreOfTable t passes = All (IsPassOf t) passes

-- for each call that the pass's list has gained, a gate has heard its number
abbrev pub HearsEach : (ℕ → Type 0) → Known → Known → Type 0
HearsEach Heard v w =
    (number : ℕ) → length v.own.log.calls < number → number ≤ length w.own.log.calls → Heard number

module _ (t : Opened) (steps : List Asked) where
  -- a worker that has made none of its steps, with a pass of the table, and room for its replies
  pub record IsReady (w : Worker) : Type 0 where
    pub of : IsPassOf t w.pass
    pub none : w.replies.items ≡ []
    pub room : length (steps_of w.pass.knows.cpu steps) ≤ vec_capacity w.replies

  -- the workers of passes, in order, each of them ready
  pub record AreReady (passes : List Pass) (workers : List Worker) : Type 0 where
    pub each : All IsReady workers
    pub passes_are : map (λ w. w.pass) workers ≡ passes

  -- each worker finishes with its own steps made
  abbrev pub AllFinish : List Pass → List Done → Type 0
  AllFinish [] [] = Unit {0}
  AllFinish [] (d ∷ ds) = ⊥
  AllFinish (p ∷ ps) [] = ⊥
  AllFinish (p ∷ ps) (d ∷ ds) = IsDoneOf t steps p d × AllFinish ps ds
