-- Runs of targets in a list of runs, and as runs of a map.
use Rattle.std.proofs.Common.{◌≡◌, ℕ, suc, ◌-◌, Bool, true, false, List, [], ◌∷◌, Option, Some, refl, sym, ap, ◌∙◌, arith}
use Rattle.std.specs.Prelude.{if◌then◌else◌}
use Rattle.page_state.specs.declared.entry.Entry.{Entry}
use Rattle.page_state.specs.declared.entry.Run.{Run as PageRun}
use Rattle.page_state.specs.declared.entry.Target.{Target}
use Rattle.page_state.specs.declared.entry.Target.TheVariants.{Malformed, Annotated, Leaf}
use Rattle.page_state.specs.Entries.{advance, advance_target, entry_of, entry_of_target}
use Rattle.page_state.specs.Regions.{is_in_range}
use Rattle.page_state.specs.Runs.{map_of, run_end, entry_on, PrecedesFirst, IsCoarsest}
use Rattle.page_state.proofs.Entries.{entry_advanced}
use Rattle.ghost_trees.specs.Small.{AreSmall, HasLowFrames, IsSmall}
use Rattle.run_list.specs.Runs.{run_map, value_on, PrecedesFirst as ListPrecedesFirst, IsCoarsest as IsCoarsestList, AreInReach}
use Rattle.run_list.specs.Targets.{HasFrameBelow}
use Rattle.state_changes.specs.Lists.{list_run, list_runs}

if_both : (b : Bool) (o q : Option Target) (e m : Entry)
    → entry_of o ≡ e
    → entry_of q ≡ m
    → entry_of (if b then o else q) ≡ (if b then e else m)
if_both true o q e m h k = h
if_both false o q e m h k = k

pub map_listed : (rs : List PageRun) (p : ℕ) → entry_of (run_map advance_target (list_runs rs) p) ≡ map_of rs p
map_listed [] p = refl
map_listed (r ∷ rs) p =
    if_both (is_in_range r.pages p) (Some (value_on advance_target (list_run r) p))
    (run_map advance_target (list_runs rs) p) (entry_on r p) (map_of rs p)
    (entry_advanced r.target (p - r.pages.first.0)) (map_listed rs p)

first_listed : (r : PageRun) (rs : List PageRun)
    → PrecedesFirst r rs
    → ListPrecedesFirst advance_target (list_run r) (list_runs rs)
first_listed r [] h = tt
first_listed r (n ∷ rs) h = record {
  before = h.before;
  apart = λ e f.
      let k : run_end r - r.pages.first.0 ≡ r.pages.count = omega arith in
      h.apart e
      (ap (advance (entry_of_target r.target)) k ∙ sym (entry_advanced r.target r.pages.count)
      ∙ ap entry_of_target f);
}

pub coarsest_listed : (rs : List PageRun) → IsCoarsest rs → IsCoarsestList advance_target (list_runs rs)
coarsest_listed [] c = tt
coarsest_listed (r ∷ rs) c = (c.0, first_listed r rs c.1, coarsest_listed rs c.2)

frames_listed : (t : Target) (n : ℕ) → HasLowFrames (entry_of_target t) n → HasFrameBelow t n
frames_listed Malformed n h = tt
frames_listed (Annotated owner) n h = tt
frames_listed (Leaf frame prot kind state) n h = h

pub reach_listed : (rs : List PageRun) → AreSmall rs → AreInReach HasFrameBelow (list_runs rs)
reach_listed [] h = tt
reach_listed (r ∷ rs) h =
    let s : IsSmall r = h 0 r (omega arith) in (
      record { pages = s.0; values = frames_listed r.target r.pages.count s.1 },
      reach_listed rs (λ k d l. h (suc k) d (omega arith)),
    )
