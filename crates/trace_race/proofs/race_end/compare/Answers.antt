use Rattle.std.proofs.Common.{◌∙◌, ap, subst, sym}
use Rattle.ghost_spec.specs.States.{ghost_state}
use Rattle.hypercalls.specs.Stands.{parts_layout}
use Rattle.page_state.specs.LayoutView.{layout_of}
use Rattle.reference_model.specs.model.Boot.{boot}
use Rattle.reference_model.specs.model.State.{Reference}
use Rattle.trace_race.specs.Judged.{ComparesAll, HasGenerationsTo}
use Rattle.trace_race.proofs.Generations.{boot_to}
use Rattle.trace_race.proofs.Judging.{none_after}
use Rattle.trace_race.proofs.OfLogs.{merged_of}
use Rattle.trace_race.proofs.race_end.compare.Goals as goal

pub compare_replies-requires-clause-generations : goal.compare_replies-requires-clause-generations
compare_replies-requires-clause-generations c =
    subst (λ (s : Reference). HasGenerationsTo 1 s.contents) (sym c.requires.boot)
    (boot_to (layout_of c.args.state.layout))

pub order_text-requires-clause-merged : goal.order_text-requires-clause-merged
order_text-requires-clause-merged c =
    merged_of (parts_layout c.args.world.now.parts) c.args.start c.args.steps.now c.args.replies.now c.args.logs.now
    c.in_ok-judged.calls.items c.as_slice.result.now c.requires.of c.in_ok-judged.ensures.merged
    c.as_slice.ensures.value

pub returns-clause-agree : goal.returns-clause-agree
returns-clause-agree c =
    let compares =
    subst
    (λ l. ComparesAll l
    (ghost_state c.args.state) c.args.logs.now c.in_ok-judged.judged.items) c.requires.layout
    (c.in_ok-judged.calls.items, c.in_ok-judged.ensures.merged, c.in_ok-judged.ensures.judged) in (
      none_after c.args.world.now.parts c.args.logs.now
          (ghost_state c.args.state) c.in_ok-judged.judged.items c.args.world.now.history c.requires.logs
          (c.requires.boot ∙ ap boot c.requires.layout) compares,
      c.in_ok-audited.ensures.none,
    )
