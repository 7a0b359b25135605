use Rattle.std.proofs.Common.{◌∙◌, ℕ, ap, subst, sym}
use Rattle.page_state.specs.LayoutView.{layout_of}
use Rattle.page_state.specs.Layouts.{Layout}
use Rattle.part_table.specs.Passes.{AreFirst}
use Rattle.world.proofs.Runs.{layout_stays}
use Rattle.trace_text.proofs.ReplayLemmas.{mapped}
use Rattle.trace_race.specs.Made.{AreBelow}
use Rattle.trace_race.proofs.Begun.{has_begun, history_of}
use Rattle.trace_race.proofs.making.begin.Goals as goal

pub make_first-requires-clause-below : goal.make_first-requires-clause-below
make_first-requires-clause-below c = subst (λ (n : ℕ). AreBelow n c.args.steps.now) c.requires.cpus c.requires.below

pub open-requires : goal.open-requires
open-requires c =
    record {
      history = history_of c.args.world.parts c.make_first.new.world.parts c.args.steps.now
          c.make_first.new.replies.items c.requires.booted c.in_ok-make_first.ensures;
    }

pub returns-clause-layout : goal.returns-clause-layout
returns-clause-layout c =
    let run = c.in_ok-make_first.ensures in
    mapped c.open.result _ _
    (λ m made. ap layout_of made.layout
    ∙ layout_stays run.calls c.args.world.parts c.make_first.new.world.parts run.goes) c.open.ensures

pub returns-clause-begun : goal.returns-clause-begun
returns-clause-begun c =
    mapped c.open.result _ _
    (λ m made. has_begun c.args.world.parts c.make_first.new.world.parts c.args.steps.now
    c.make_first.new.replies.items m c.requires.booted c.in_ok-make_first.ensures made) c.open.ensures

pub returns-clause-passes : goal.returns-clause-passes
returns-clause-passes c =
    let run = c.in_ok-make_first.ensures in
    let same =
    ap (λ (l : Layout). l.config.cpus)
    (layout_stays run.calls c.args.world.parts c.make_first.new.world.parts run.goes)
    ∙ sym c.requires.cpus in
    mapped c.open.result _ _ (λ m made. subst (λ (n : ℕ). AreFirst m.table n m.passes) same made.passes) c.open.ensures
