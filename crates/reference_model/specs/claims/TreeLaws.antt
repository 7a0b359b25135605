-- Laws of the trees of runs: each is the one coarsest tree of its map, so the maps and the numbers
-- of free frames determine whether a pool is short.
use Rattle.std.specs.Prelude.{◌≡◌, ℕ, ◌+◌, ◌<◌, Bool, ◌||◌, nat_lt, List, length, Option, Some, None, if◌then◌else◌}
use Rattle.coarse_trees.specs.Coarsest.{IsCanonical, map_need}
use Rattle.page_state.specs.Layouts.{Layout}
use Rattle.call_table.specs.declared.reply.Call.{Call}
use Rattle.call_table.specs.declared.reply.Refusal.{Refusal}
use Rattle.call_table.specs.declared.reply.Refusal.TheVariants.{NoPool}
use Rattle.call_table.specs.declared.step.Step.{Step}
use Rattle.reference_model.specs.declared.changes.Changes.{Changes}
use Rattle.reference_model.specs.model.Boot.{CanBoot}
use Rattle.reference_model.specs.model.Changes.{edit_of}
use Rattle.reference_model.specs.model.Parts.{lacks_slot}
use Rattle.reference_model.specs.model.Rules.{names, guest_slot}
use Rattle.reference_model.specs.model.Run.{IsRun}
use Rattle.reference_model.specs.model.State.{Contents, Reference}
use Rattle.reference_model.specs.model.Step.{rule_of, first_test, or_else, fails}
use Rattle.reference_model.specs.model.Used.{Used, used_of}

-- each tree is the one coarsest tree of its map, and no tree of the map has fewer tables
pub record AreCanonical (l : Layout) (s : Contents) : Type 0 where
  pub host : IsCanonical l.depth s.shared.host
  pub hyp : IsCanonical l.depth s.shared.hyp
  pub guest : (v : ℕ) → IsCanonical l.depth (s.guest v).tree

-- the trees of each state of a run are canonical
abbrev pub RunCanonical : Type 0
RunCanonical =
    (l : Layout) (cs : List Call) (t : Reference)
    → CanBoot l
    → IsRun l cs t
    → AreCanonical l t.contents

-- a pool has fewer free frames than changes need, by the maps of its trees and the number of its
-- free frames
abbrev pub is_short_by_maps : ℕ → Changes → Used → Bool
is_short_by_maps depth h x =
    nat_lt (length x.shared.free)
    (map_need depth x.shared.host.map (edit_of h.host) + map_need depth x.shared.hyp.map
    (edit_of h.hyp))
    || nat_lt (length x.guest.free) (map_need depth x.guest.tree.map (edit_of h.guest))

-- the first test of a step that fails: one of its rule's, or then that of the pools
abbrev pub fails_by_maps : Layout → ℕ → Option ℕ → Step → Used → Option Refusal
fails_by_maps l cpu slot step x =
    let r = rule_of l cpu slot step x in
    or_else (first_test r (lacks_slot (names step) slot))
    (if is_short_by_maps l.depth r.changes x then Some NoPool else None)

-- in each state of a run, the maps and the numbers of free frames determine that test
abbrev pub RunFailsByMaps : Type 0
RunFailsByMaps =
    (l : Layout) (cs : List Call) (t : Reference) (cpu : ℕ) (slot : Option ℕ) (step : Step)
    → CanBoot l
    → IsRun l cs t
    → cpu < l.config.cpus
    → slot ≡ guest_slot (t.contents.cpu cpu) step
    →
    let x = used_of (names step) slot cpu t.contents in
    fails l cpu slot step x ≡ fails_by_maps l cpu slot step x
