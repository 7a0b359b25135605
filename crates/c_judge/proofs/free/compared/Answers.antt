use Rattle.std.proofs.Common.{ap, subst}
use Rattle.page_state.specs.LayoutView.{layout_of}
use Rattle.reference_model.specs.model.State.{Contents, Reference}
use Rattle.free_judge.specs.Freely.{IsJudgedFreely}
use Rattle.ghost_spec.specs.States.{contents_in}
use Rattle.c_judge.proofs.free.compared.Goals as goal

-- by hand: a search would compute all frames of a guest's pool
pub returns-in-Ok-judge_freely-clause-judged : goal.returns-in-Ok-judge_freely-clause-judged
returns-in-Ok-judge_freely-clause-judged c = record {
  taken = c.in-Ok.ensures.taken;
  judged =
      subst
      (λ (s : Contents). IsJudgedFreely c.args.freedoms (layout_of c.args.pre.now.layout)
      (contents_in c.args.pre.now) c.args.cpu c.args.step c.args.reply s c.in-Ok-judge_freely.found)
      (ap (λ (s : Reference). s.contents) c.in-Ok.ensures.state) c.in-Ok-judge_freely.ensures;
}
