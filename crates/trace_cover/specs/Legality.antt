-- What is counted in a legal state. Each state of a run is legal.
use Rattle.std.specs.Prelude.{◌≡◌, ℕ, true, Some, None}
use Rattle.descriptor.specs.declared.State.TheVariants.{Owned, SharedOwned, SharedBorrowed}
use Rattle.call_table.specs.declared.step.Step.{Step}
use Rattle.call_table.specs.Named.{named_by}
use Rattle.page_state.specs.Layouts.{is_memory}
use Rattle.reference_model.specs.help.Conditions.{Condition as FrameCondition, Legal, outside, hosts, with_hyp, hyps, with_guest, guests, lent_back}
use Rattle.trace_cover.specs.declared.condition.Condition.{Condition}
use Rattle.trace_cover.specs.declared.condition.Condition.TheVariants.{Device, WithHyp}
use Rattle.trace_cover.specs.declared.rows.Row.TheVariants.{Cell}
use Rattle.trace_cover.specs.Conditions.{by_state, by_usage}
use Rattle.trace_cover.specs.Found.{by_entry, by_row, condition_at, is_dying}
use Rattle.trace_cover.specs.Kinds.{impossible}
use Rattle.trace_text.specs.Worlds.{Machine}

-- how the report names a condition of the invariant: the host's by the host's entry, a guest's by
-- whether it is Dying
abbrev pub reported : Machine → ℕ → FrameCondition → Condition
reported m frame outside = Device
reported m frame hosts = by_entry (m.state.contents.shared.host.map frame)
reported m frame with_hyp = WithHyp
reported m frame (hyps usage) = by_usage usage
reported m frame (with_guest v page) = by_state (is_dying m v) SharedBorrowed
reported m frame (guests v page) = by_state (is_dying m v) Owned
reported m frame (lent_back v page) = by_state (is_dying m v) SharedOwned

-- the condition that is counted of a memory frame is the invariant's
abbrev pub SameCondition : Type 0
SameCondition =
    (m : Machine) (legal : Legal m.layout m.state.contents) (frame : ℕ)
    → is_memory m.layout frame ≡ true
    → by_row m frame (m.state.contents.shared.row frame) ≡ reported m frame (legal.condition frame)

-- no step finds a frame in a condition that the report calls impossible
abbrev pub NeverFound : Type 0
NeverFound =
    (m : Machine) (legal : Legal m.layout m.state.contents) (cpu : ℕ) (step : Step)
    (condition : Condition)
    → condition_at m cpu step ≡ Some condition
    → impossible (Cell (named_by step).call condition) ≡ None
