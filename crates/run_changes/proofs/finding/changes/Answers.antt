use Rattle.std.proofs.Common.{◌≡◌, ◌≤◌, ◌<◌, ◌-◌, ◌^◌, ◌∙◌, ℕ, List, sym, ap, subst, arith}
use Rattle.page_state.proofs.Cases.{by_lt}
use Rattle.run_list.specs.declared.run.Run.{Run}
use Rattle.run_list.specs.Runs.{run_map, map_updated, option_advance}
use Rattle.run_changes.specs.declared.change.Change.{Change}
use Rattle.run_changes.specs.Changes.{advance_change, IsDifference}
use Rattle.run_changes.proofs.Pieces.{front_piece, back_piece, none_end}
use Rattle.run_changes.proofs.finding.changes.Goals as goal

pub loop-low-preserved : goal.loop-low-preserved
loop-low-preserved g c =
    let V = g.row.V.Denot in
    let advance = g.V.Advance.advance in
    let low = c.loop-low.low in
    let high = c.min-high.result in
    let less : low < high =
    omega (arith, c.min-high.ensures, c.until.ensures.above, c.until-in-loop-low.ensures.above) in
    let b = run_map advance c.args.before.now.runs in
    let a = run_map advance c.args.after.now.runs in
    let d = c.difference-change.result in
    let is : IsDifference (b low) (a low) d =
    subst (λ x. IsDifference x (a low) d) c.at.ensures
    (subst (λ x. IsDifference c.at.result x d) c.at-in-loop-low.ensures c.difference-change.ensures) in
    let laid : run_map (advance_change advance) c.set.new.self.runs ≡ map_updated (advance_change advance) (run_map (advance_change advance) c.loop-low.found.runs) low (high - low) d =
    c.set.ensures.map
    ∙ ap
    (λ (rs : List (Run (Change V))). map_updated (advance_change advance)
    (run_map (advance_change advance) rs) low (high - low) d) c.in_ok-reserve.ensures.runs in
    record {
      within = omega (arith, c.min-high.ensures, c.until.ensures.below);
      front =
          front_piece advance c.requires.apart b a (run_map (advance_change advance) c.loop-low.found.runs)
          (run_map (advance_change advance) c.set.new.self.runs) low high d less is laid c.loop-low.invariant.front
          (subst
          (λ (rs : List (Run V)). (p : ℕ)
          → low ≤ p
          → p < high
          → run_map advance rs p
          ≡ option_advance advance (run_map advance rs low) (p - low)) c.runs-old.ensures.runs
          (λ p h k. c.until.ensures.goes_on p h (omega (arith, k, c.min-high.ensures))))
          (subst
          (λ (rs : List (Run V)). (p : ℕ)
          → low ≤ p
          → p < high
          → run_map advance rs p
          ≡ option_advance advance (run_map advance rs low) (p - low)) c.runs-new.ensures.runs
          (λ p h k. c.until-in-loop-low.ensures.goes_on p h (omega (arith, k, c.min-high.ensures))));
      back =
          back_piece advance c.requires.apart b a (run_map (advance_change advance) c.loop-low.found.runs)
          (run_map (advance_change advance) c.set.new.self.runs) low high d less is laid c.loop-low.invariant.back;
    }

pub returns : goal.returns
returns g c = λ p.
    let advance = g.V.Advance.advance in
    let b = run_map advance c.args.before.now.runs p in
    let a = run_map advance c.args.after.now.runs p in
    by_lt p c.loop-low.low
    (λ l. c.loop-low.invariant.front p l)
    (λ h.
    let far : 2 ^ 63 ≤ p = omega (arith, h, c.loop-low-test.false) in
    subst (IsDifference b a) (sym (c.loop-low.invariant.back p h))
    (none_end advance g.V.Advance.CanAdvance c.args.before.now.runs p c.runs-old.ensures.reach far
    ∙ sym (none_end advance g.V.Advance.CanAdvance c.args.after.now.runs p c.runs-new.ensures.reach far)))
