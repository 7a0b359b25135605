-- The kept runs and the map's runs have one map, and are coarsest together.
use Rattle.std.proofs.Common.{◌≡◌, ℕ, ◌-◌, Bool, true, false, List, [], ◌∷◌, Option, Some, None, refl, sym, ap, ◌∙◌, arith}
use Rattle.std.specs.Prelude.{if◌then◌else◌, All}
use Rattle.std.proofs.lemmas.List.Elements.{All-cons, All-nil}
use mathlib.Core.Path.{fun_ext}
use Rattle.page_state.specs.declared.entry.Target.{Target}
use Rattle.page_state.specs.declared.entry.Entry.{Entry}
use Rattle.page_state.specs.Entries.{advance, advance_target, entry_of, entry_of_target}
use Rattle.page_state.specs.Map.{is_within, update}
use Rattle.page_state.specs.Regions.{is_in_range}
use Rattle.page_state.specs.Runs.{map_of, run_end, entry_on, PrecedesFirst, IsCoarsest}
use Rattle.page_state.proofs.Entries.{entry_advanced, target-same}
use Rattle.run_list.specs.declared.run.Run.{Run as ListRun}
use Rattle.run_list.specs.Runs.{run_map, map_updated, option_advance, value_on, PrecedesFirst as ListPrecedesFirst, IsCoarsest as IsCoarsestList, AreInReach}
use Rattle.run_list.specs.Targets.{HasFrameBelow}
use Rattle.maplets.specs.View.{target_run, target_runs, IsInReach}

if_both : (b : Bool) (o q : Option Target) (e m : Entry)
    → entry_of o ≡ e
    → entry_of q ≡ m
    → entry_of (if b then o else q) ≡ (if b then e else m)
if_both true o q e m h k = h
if_both false o q e m h k = k

pub map_targets : (rs : List (ListRun Target)) (p : ℕ)
    → entry_of (run_map advance_target rs p) ≡ map_of (target_runs rs) p
map_targets [] p = refl
map_targets (r ∷ rs) p =
    if_both (is_in_range r.pages p) (Some (value_on advance_target r p)) (run_map advance_target rs p)
    (entry_on (target_run r) p) (map_of (target_runs rs) p) (entry_advanced r.value (p - r.pages.first.0))
    (map_targets rs p)

advance_targets : (o : Option Target) (n : ℕ) → entry_of (option_advance advance_target o n) ≡ advance (entry_of o) n
advance_targets None n = refl
advance_targets (Some t) n = entry_advanced t n

pub update_targets : (old new : List (ListRun Target)) (first count : ℕ) (o : Option Target)
    → run_map advance_target new ≡ map_updated advance_target (run_map advance_target old) first count o
    → map_of (target_runs new) ≡ update (map_of (target_runs old)) first count (entry_of o)
update_targets old new first count o e =
    fun_ext (λ p.
    sym (map_targets new p) ∙ ap (λ m. entry_of (m p)) e
    ∙ if_both (is_within first count p) (option_advance advance_target o (p - first)) (run_map advance_target old p)
    (advance (entry_of o) (p - first)) (map_of (target_runs old) p) (advance_targets o (p - first))
    (map_targets old p))

first_targets : (r : ListRun Target) (rs : List (ListRun Target))
    → ListPrecedesFirst advance_target r rs
    → PrecedesFirst (target_run r) (target_runs rs)
first_targets r [] h = tt
first_targets r (n ∷ rs) h = record {
  before = h.before;
  apart = λ e f.
      let k : run_end (target_run r) - r.pages.first.0 ≡ r.pages.count = omega arith in
      let g : entry_of_target (advance_target r.value r.pages.count) ≡ entry_of_target n.value =
      entry_advanced r.value r.pages.count ∙ ap (advance (entry_of_target r.value)) (sym k) ∙ f in
      h.apart e (target-same (advance_target r.value r.pages.count) n.value g);
}

pub coarsest_targets : (rs : List (ListRun Target)) → IsCoarsestList advance_target rs → IsCoarsest (target_runs rs)
coarsest_targets [] c = tt
coarsest_targets (r ∷ rs) c = (c.0, first_targets r rs c.1, coarsest_targets rs c.2)

pub reach_targets : (rs : List (ListRun Target)) → AreInReach HasFrameBelow rs → All IsInReach (target_runs rs)
reach_targets [] h = All-nil IsInReach
reach_targets (r ∷ rs) h =
    All-cons IsInReach (target_run r) (target_runs rs) (h.0.pages, h.0.values) (reach_targets rs h.1)
