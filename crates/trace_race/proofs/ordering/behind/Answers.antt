use Rattle.std.proofs.Common.{◌≡◌, ◌∙◌, ap, sym, subst, List, ℕ, Vec, ◌++◌, ◌+◌, drop, map}
use Rattle.std.specs.Prelude.{slice_index}
use Rattle.std.specs.Global.{Global}
use Rattle.trace_race.specs.Ordered.{behind}
use Rattle.trace_race.proofs.Skipping.{left_in, left_out}
use Rattle.trace_race.proofs.ordering.behind.Goals as goal
use Rattle.trace_race.proofs.ordering.behind.Goals.{then-not-is_left+in_ok-push, else-not-is_left}

pub loop-i-preserved : goal.loop-i-preserved
loop-i-preserved c = record {
  count = c.is_left.ensures.count ∙ c.loop-i.invariant.count;
  whole = elim c.if-not-is_left.branch [
    | then-not-is_left+in_ok-push w ↦
        left_in (λ x. x.0) c.args.calls.now c.loop-i.i _ c.loop-i-test.true (slice_index c.loop-i.counts.items)
        (slice_index c.is_left.new.counts.items) c.is_left.result c.is_left.ensures.is c.is_left.ensures.less
        c.loop-i.cpus.items _ c.loop-i.invariant.whole w.if-not-is_left.true c.if-not-is_left.cpus.items
        (ap (λ v. v.items) w.cpus-is ∙ w.in_ok-push.ensures.items)
    | else-not-is_left w ↦
        ap
        (λ v. v.items
        ++ behind (slice_index c.is_left.new.counts.items)
        (map (λ x. x.0) (drop (c.loop-i.i + 1) c.args.calls.now))) w.cpus-is
        ∙ left_out (λ x. x.0) c.args.calls.now c.loop-i.i _ c.loop-i-test.true (slice_index c.loop-i.counts.items)
        (slice_index c.is_left.new.counts.items) c.is_left.result c.is_left.ensures.is c.is_left.ensures.less
        c.loop-i.cpus.items _ c.loop-i.invariant.whole w.if-not-is_left.false
  ];
}
