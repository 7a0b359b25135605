use Rattle.std.proofs.Common.{◌≡◌, ◌+◌, drop}
use Rattle.page_state.specs.LayoutView.{layout_of}
use Rattle.ghost_spec.specs.States.{contents_in, ghost_state}
use Rattle.trace_race.specs.Judged.{HasGenerationsTo}
use Rattle.trace_race.proofs.Judging.{LeadsOn}
use Rattle.trace_race.proofs.judged.judge_all.Given as goal

abbrev pub invariant-loop-i : goal.invariant-loop-i
invariant-loop-i l = record {
  generations : HasGenerationsTo (l.i + 1) (contents_in l.state);
  layout : l.state.layout ≡ l.fn.state.layout;
  judged : LeadsOn (layout_of l.fn.state.layout) (ghost_state l.fn.state) l.calls l.found.items (ghost_state l.state)
      (drop l.i l.calls);
}
