-- The free frames of a pool are in order.
use Rattle.std.specs.Prelude.{ℕ, ◌<◌, List, AllPairs}
use Rattle.call_table.specs.declared.reply.Call.{Call}
use Rattle.reference_model.specs.model.Boot.{CanBoot}
use Rattle.page_state.specs.Layouts.{Layout}
use Rattle.reference_model.specs.model.Run.{IsRun}
use Rattle.page_state.specs.Trees.{Pool}
use Rattle.reference_model.specs.model.State.{Contents, Reference}

-- each frame is lower than those after it: the pool is a set, and its first frames are its lowest
abbrev pub IsInOrder : Pool → Type 0
IsInOrder free = AllPairs (λ f g. f < g) free

-- all pools are in order
pub record PoolsInOrder (s : Contents) : Type 0 where
  pub shared : IsInOrder s.shared.free
  pub guest : (v : ℕ) → IsInOrder (s.guest v).free

-- and so they are in each state of a run
abbrev pub RunInOrder : Type 0
RunInOrder =
    (l : Layout) (cs : List Call) (t : Reference)
    → CanBoot l
    → IsRun l cs t
    → PoolsInOrder t.contents
