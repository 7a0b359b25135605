-- What a pass knows of the table and of its own calls.
use Rattle.std.specs.Prelude.{◌≡◌, ℕ, ◌<◌, cond, eqb, length, map, List, [], ◌∷◌, ◌++◌, All, Option, Some, None}
use Rattle.page_state.specs.declared.layout.Layout.{Layout as TheLayout}
use Rattle.call_table.specs.declared.reply.Call.{Call}
use Rattle.reference_model.specs.model.History.{calls_on}
use Rattle.part_types.specs.declared.parts.CpuState.{CpuState}
use Rattle.part_types.specs.Logs.{StoredCalls, IsOfSize}
use Rattle.part_table.specs.Before.{before_own}
use Rattle.part_table.specs.Parts.{parts, part_of}

-- a list of pairs as a function: the first pair of a number counts
abbrev pub at : {X : Type 0} → List (ℕ × X) → X → ℕ → X
at [] d k = d
at (e ∷ es) d k = cond (eqb k e.0) e.1 (at es d k)

-- what has been seen of the log of a part
abbrev pub seen_at : List (ℕ × List Call) → ℕ → List Call
seen_at seen k = at seen [] k

-- a try of a part: its number, and the log with which it was taken, or none if another pass had it
abbrev pub Try : Type 0
Try = ℕ × Option StoredCalls

-- What a pass knows while it holds no part: the layout, its CPU's number and own state with its
-- log, the calls that it has seen of each part's log, and its tries, each with the number of calls
-- that its own list had then
pub record Known : Type 0 where
  pub layout : TheLayout
  pub cpu : ℕ
  pub own : CpuState
  pub seen : List (ℕ × List Call)
  pub tries : List (ℕ × Try)

-- a list begins with another
abbrev pub StartsWith : List Call → List Call → Type 0
StartsWith xs ys = (rest : List Call) × (xs ≡ ys ++ rest)

-- Each log that a try of the CPU took is a part's, can store `most` calls in all, and begins the
-- part's calls in the history, before the call that comes next in the CPU's own list: all that the
-- CPU saw comes before what it did afterwards
abbrev pub AreFronts : ℕ → ℕ → List Call → List (ℕ × Try) → Type 0
AreFronts most cpu log tries =
    All
    (λ t. (found : StoredCalls)
    → t.1.1 ≡ Some found
    → (t.1.0 < parts)
    × IsOfSize most found
    × StartsWith (calls_on (part_of t.1.0) (before_own cpu t.0 log)) found.calls) tries

-- a CPU's own state before its first call
abbrev pub own_at_boot : TheLayout → ℕ → CpuState
own_at_boot l cpu =
    record {
      id = cpu;
      loaded = None;
      hand = None;
      ticket = None;
      log = record { calls = []; room = l.config.log };
    }

-- these are the tries that a call added, each with the number of calls in the own list before it
abbrev pub AddsTries : List Try → Known → Known → Type 0
AddsTries ts v w = w.tries ≡ v.tries ++ map (λ t. (length v.own.log.calls, t)) ts

-- the pass knows what it knew, but for its tries
abbrev pub IsSame : Known → Known → Type 0
IsSame v w = w ≡ record v { tries = w.tries }
