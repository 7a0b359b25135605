use Rattle.std.proofs.Common.{◌≡◌, ◌≢◌, ◌∙◌, ◌+◌, List, ℕ, [], sym, ap, subst, arith, refl}
use Rattle.std.specs.Prelude.{slice_index, get_or}
use Rattle.trace_race.specs.Ordered.{IsNext, own_from}
use Rattle.trace_race.proofs.OwnSteps.{index_read, left_some, line_read, ordering_all, ordering_first, ordering_next}
use Rattle.trace_race.proofs.ordering.lines_of.Goals as goal

pub next_of-place-requires-clause-some : goal.next_of-place-requires-clause-some
next_of-place-requires-clause-some c =
    let at =
    index_read c.loop-i.cursors.items
    (get_or c.args.cpus.now c.loop-i.i 0) c.args.count c.index.result.now c.loop-i.invariant.count
    (c.requires.below c.loop-i.i 0 c.loop-i-test.true) c.index.ensures in
    subst (λ (n : ℕ). own_from (get_or c.args.cpus.now c.loop-i.i 0) n c.args.steps.now c.args.replies.now ≢ [])
    (sym at)
    (left_some c.args.steps.now c.args.replies.now c.args.cpus.now c.loop-i.cursors.items c.loop-i.lines.items
    c.loop-i.i
    (get_or c.args.cpus.now c.loop-i.i 0) 0 c.loop-i-test.true refl c.loop-i.invariant.order)

pub loop-i-preserved : goal.loop-i-preserved
loop-i-preserved c =
    let at =
    index_read c.loop-i.cursors.items
    (get_or c.args.cpus.now c.loop-i.i 0) c.args.count c.index.result.now c.loop-i.invariant.count
    (c.requires.below c.loop-i.i 0 c.loop-i-test.true) c.index.ensures in
    record {
      count = c.put.ensures.count ∙ c.loop-i.invariant.count;
      order =
          ordering_next c.args.steps.now c.args.replies.now c.args.cpus.now c.loop-i.cursors.items
          c.put.new.cursors.items c.loop-i.lines.items c.push.new.self.items c.loop-i.i
          (get_or c.args.cpus.now c.loop-i.i 0) c.next_of-place.result _ 0 c.loop-i-test.true refl
          c.index.result.now at c.next_of-place.ensures.next
          (line_read c.args.steps.now c.args.replies.now c.index.result.now
          (get_or c.args.cpus.now c.loop-i.i 0) c.next_of-place.result _ c.next_of-place.ensures.inside
          c.next_of-place.ensures.next)
          c.in_ok-push.ensures.items c.put.ensures.here c.put.ensures.others c.loop-i.invariant.order;
    }
