-- Laws of the order of calls: calls that share no part and no CPU can be made in either order.
use Rattle.std.specs.Prelude.{◌≡◌, ℕ, List}
use Rattle.call_table.specs.declared.reply.Call.{Call}
use Rattle.reference_model.specs.model.State.{Reference}
use Rattle.page_state.specs.Layouts.{Layout}
use Rattle.reference_model.specs.model.Parts.{Part}
use Rattle.reference_model.specs.model.Run.{IsRun}
use Rattle.reference_model.specs.model.History.{calls_on, calls_by, Kept, IsHistory}

-- a list with the parts of a run, and its calls of each CPU, is a run to the same end
abbrev pub PartsRun : Type 0
PartsRun =
    (l : Layout) (cs ds : List Call) (t : Reference)
    → IsRun l cs t
    → ((p : Part) → calls_on p ds ≡ calls_on p cs)
    → ((cpu : ℕ) → calls_by cpu ds ≡ calls_by cpu cs)
    → IsRun l ds t

-- a list with the parts of a legal history, and its calls of each CPU, is a legal history of the
-- same
abbrev pub PartsHistory : Type 0
PartsHistory =
    (l : Layout) (kept : Kept) (cs ds : List Call)
    → IsHistory l kept cs
    → ((p : Part) → calls_on p ds ≡ calls_on p cs)
    → ((cpu : ℕ) → calls_by cpu ds ≡ calls_by cpu cs)
    → IsHistory l kept ds
