use Rattle.std.specs.Prelude.{◌≡◌, string_bytes}
use Rattle.page_state.specs.LayoutView.{layout_of}
use Rattle.ghost_spec.specs.States.{ghost_state}
use Rattle.trace_generate.specs.Made.{IsSoFar}
use Rattle.trace_generate.proofs.made.walked.Given as goal

abbrev pub invariant-loop-number : goal.invariant-loop-number
invariant-loop-number g l = record {
  layout : layout_of l.state.layout ≡ layout_of l.initial.state.layout;
  made : IsSoFar (layout_of l.initial.state.layout) l.options.hostile (ghost_state l.initial.state)
      (string_bytes l.initial.text) l.number (ghost_state l.state) (string_bytes l.text);
}
