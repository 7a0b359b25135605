use Rattle.std.proofs.Common.{◌≡◌, ◌≤◌, ◌<◌, ◌-◌, ◌^◌, ◌∙◌, ℕ, List, sym, ap, subst, arith}
use Rattle.std.specs.Option.{ForSome}
use mathlib.Core.Path.{fun_ext}
use Rattle.page_state.specs.declared.entry.Target.{Target}
use Rattle.page_state.specs.Entries.{advance, advance_target, entry_of, target_of}
use Rattle.page_state.specs.Map.{update}
use Rattle.page_state.specs.Runs.{map_of}
use Rattle.page_state.proofs.Cases.{by_lt}
use Rattle.page_state.proofs.Entries.{entry_of-target_of}
use Rattle.run_list.specs.declared.run.Run.{Run}
use Rattle.run_list.specs.Runs.{map_updated, option_advance, run_map}
use Rattle.run_list.specs.Targets.{HasFrameBelow}
use Rattle.maplets.specs.View.{target_runs}
use Rattle.maplets.proofs.TargetRuns.{map_targets, update_targets}
use Rattle.run_changes.proofs.Pieces.{none_end}
use Rattle.walked_tables.specs.declared.said.Said.{Said}
use Rattle.walked_tables.specs.Values.{advance_said, CanGoOn}
use Rattle.c_trees.specs.Entries.{entries_by, entry_by}
use Rattle.c_trees.proofs.Along.{back_piece, front_piece, kept_on, reach_entry}
use Rattle.c_trees.proofs.entries.merged.Goals as goal

pub set-requires-clause-values : goal.set-requires-clause-values
set-requires-clause-values c =
    let low = c.loop-low.low in
    let n = c.min-high.result - low in
    let reach : ForSome (run_map advance_said c.runs-new.result.now low) (λ s. CanGoOn s n) =
    c.until-in-loop-low.ensures.reach n
    (omega (arith, c.min-high.ensures, c.until.ensures.above, c.until-in-loop-low.ensures.above)) in
    let said : ForSome c.at-in-loop-low.result (λ s. CanGoOn s n) =
    subst (λ o. ForSome o (λ s. CanGoOn s n))
    (ap (λ rs. run_map advance_said rs low) c.runs-new.ensures.runs ∙ sym c.at-in-loop-low.ensures) reach in
    subst (λ o. ForSome o (λ v. HasFrameBelow v n)) (sym (c.target.ensures ∙ ap target_of c.entry-own.ensures))
    (reach_entry c.args.profile.now c.entry_in.result c.at-in-loop-low.result n said)

pub loop-low-preserved : goal.loop-low-preserved
loop-low-preserved c =
    let p = c.args.profile.now in
    let low = c.loop-low.low in
    let high = c.min-high.result in
    let less : low < high =
    omega (arith, c.min-high.ensures, c.until.ensures.above, c.until-in-loop-low.ensures.above) in
    let olds : List (Run Target) = c.args.kept.now.runs in
    let news : List (Run Said) = c.args.said.now.runs in
    let kept = map_of (target_runs olds) in
    let said = run_map advance_said news in
    let own = c.entry-own.result in
    let is : own ≡ entry_by p (kept low) (said low) =
    c.entry-own.ensures
    ∙ ap (λ e. entry_by p e c.at-in-loop-low.result)
    (c.entry_in.ensures ∙ ap entry_of c.at.ensures ∙ map_targets olds low)
    ∙ ap (entry_by p (kept low)) c.at-in-loop-low.ensures in
    let found = map_of (target_runs c.loop-low.found.runs) in
    let new = map_of (target_runs c.set.new.self.runs) in
    let laid : new ≡ update found low (high - low) own =
    update_targets c.loop-low.found.runs c.set.new.self.runs low (high - low) c.target.result
    (c.set.ensures.map
    ∙ ap
    (λ (rs : List (Run Target)). map_updated advance_target (run_map advance_target rs) low
    (high - low) c.target.result)
    c.in_ok-reserve.ensures.runs)
    ∙ ap (update found low (high - low)) (ap entry_of c.target.ensures ∙ entry_of-target_of own) in
    let goes_old : (q : ℕ)
    → low ≤ q
    → q < high
    → run_map advance_target olds q
    ≡ option_advance advance_target (run_map advance_target olds low) (q - low) =
    subst
    (λ (rs : List (Run Target)). (q : ℕ)
    → low ≤ q
    → q < high
    → run_map advance_target rs q
    ≡ option_advance advance_target (run_map advance_target rs low) (q - low)) c.runs-old.ensures.runs
    (λ q h k. c.until.ensures.goes_on q h (omega (arith, k, c.min-high.ensures))) in
    record {
      within = omega (arith, c.min-high.ensures, c.until.ensures.below);
      front =
          front_piece p kept said found new low high own less is laid c.loop-low.invariant.front
          (λ q h k. sym (map_targets olds q) ∙ ap entry_of (goes_old q h k)
          ∙ kept_on (run_map advance_target olds low) (q - low)
          ∙ ap (λ e. advance e (q - low)) (map_targets olds low))
          (subst
          (λ (rs : List (Run Said)). (q : ℕ)
          → low ≤ q
          → q < high
          → run_map advance_said rs q
          ≡ option_advance advance_said (run_map advance_said rs low) (q - low)) c.runs-new.ensures.runs
          (λ q h k. c.until-in-loop-low.ensures.goes_on q h (omega (arith, k, c.min-high.ensures))));
      back = back_piece p kept said found new low high own less is laid c.loop-low.invariant.back;
    }

pub returns : goal.returns
returns c =
    let p = c.args.profile.now in
    let kept = map_of (target_runs c.args.kept.now.runs) in
    let said = run_map advance_said c.args.said.now.runs in
    fun_ext
    (λ q. by_lt q c.loop-low.low (λ l. c.loop-low.invariant.front q l)
    (λ h.
    let far : 2 ^ 63 ≤ q = omega (arith, h, c.loop-low-test.false) in
    c.loop-low.invariant.back q h
    ∙ sym
    (ap (entry_by p (kept q)) (none_end advance_said CanGoOn c.args.said.now.runs q c.runs-new.ensures.reach far))))
