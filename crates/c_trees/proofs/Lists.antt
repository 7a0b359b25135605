-- Runs of a map as those of a list, and back.
use Rattle.std.proofs.Common.{◌≡◌, ℕ, ◌-◌, List, [], ◌∷◌, map, refl, sym, ap, ◌∙◌, arith}
use Rattle.std.proofs.lemmas.List.Elements.{All-head, All-tail, All-weaker}
use Rattle.page_state.specs.declared.entry.Run.{Run}
use Rattle.page_state.specs.declared.entry.Target.{Target}
use Rattle.page_state.specs.declared.entry.Target.TheVariants.{Malformed, Annotated, Leaf}
use Rattle.page_state.specs.Entries.{advance, advance_target, entry_of_target}
use Rattle.page_state.specs.Runs.{run_end, IsCoarsest, PrecedesFirst}
use Rattle.page_state.proofs.Entries.{entry_advanced}
use Rattle.run_list.specs.declared.run.Run.{Run as ListRun}
use Rattle.run_list.specs.Runs.{AreInReach, IsCoarsest as IsCoarsestList, PrecedesFirst as ListPrecedesFirst}
use Rattle.run_list.specs.Targets.{HasFrameBelow}
use Rattle.maplets.specs.View.{IsInReach, target_runs}
use Rattle.maplets.proofs.TargetRuns.{reach_targets}
use Rattle.ghost_trees.specs.Small.{AreSmall, HasLowFrames, IsSmall}
use Rattle.c_trees.specs.Entries.{run_in}

pub same_runs : (rs : List Run) → target_runs (map run_in rs) ≡ rs
same_runs [] = refl
same_runs (r ∷ rs) = ap (λ xs. r ∷ xs) (same_runs rs)

first_list : (r : Run) (rs : List Run)
    → PrecedesFirst r rs
    → ListPrecedesFirst advance_target (run_in r) (map run_in rs)
first_list r [] h = tt
first_list r (n ∷ rs) h = record {
  before = h.before;
  apart = λ e f.
      let k : run_end r - r.pages.first.0 ≡ r.pages.count = omega arith in
      h.apart e
      (ap (advance (entry_of_target r.target)) k ∙ sym (entry_advanced r.target r.pages.count)
      ∙ ap entry_of_target f);
}

pub coarsest_list : (rs : List Run) → IsCoarsest rs → IsCoarsestList advance_target (map run_in rs)
coarsest_list [] c = tt
coarsest_list (r ∷ rs) c = (c.0, first_list r rs c.1, coarsest_list rs c.2)

frames_below : (t : Target) (n : ℕ) → HasLowFrames (entry_of_target t) n → HasFrameBelow t n
frames_below Malformed n h = tt
frames_below (Annotated owner) n h = tt
frames_below (Leaf frame prot kind state) n h = h

pub reach_list : (rs : List Run) → AreSmall rs → AreInReach HasFrameBelow (map run_in rs)
reach_list [] s = tt
reach_list (r ∷ rs) s =
    let h = All-head IsSmall r rs s in (
      record { pages = h.0; values = frames_below r.target r.pages.count h.1 },
      reach_list rs (All-tail IsSmall r rs s),
    )

low_frames : (t : Target) (n : ℕ) → HasFrameBelow t n → HasLowFrames (entry_of_target t) n
low_frames Malformed n h = tt
low_frames (Annotated owner) n h = tt
low_frames (Leaf frame prot kind state) n h = h

pub small_list : (rs : List (ListRun Target)) → AreInReach HasFrameBelow rs → AreSmall (target_runs rs)
small_list rs k =
    All-weaker IsInReach IsSmall (λ r h. (h.0, low_frames r.target r.pages.count h.1)) (target_runs rs)
    (reach_targets rs k)
