use Rattle.std.proofs.Common.{get_or, map, sym, ◌∙◌, arith}
use Rattle.reference_model.specs.model.State.{no_cpu}
use Rattle.ghost_spec.specs.Views.{cpu_in}
use Rattle.std.proofs.lemmas.Bool.Decides.{not_from_Decides}
use Rattle.page_state.proofs.Common.{not-false, not-true}
use Rattle.ghost_judge.proofs.Equality.{cpus_tell}
use Rattle.ghost_judge.proofs.Judged.{below_next, everywhere, past_end}
use Rattle.ghost_judge.proofs.judge.cpu_apart.Goals as goal

pub loop-c-preserved : goal.loop-c-preserved
loop-c-preserved c =
    below_next (λ u. get_or (map cpu_in c.args.post.now) u no_cpu)
    (λ u. get_or (map cpu_in c.args.spec.now) u no_cpu) c.loop-c.c c.loop-c.invariant
    (sym c.cpu_at.ensures ∙ (cpus_tell _ _).0 (not-false _ (sym c.ne.ensures ∙ c.if-ne.false))
    ∙ c.cpu_at-in-loop-c.ensures)

pub returns-then-ne : goal.returns-then-ne
returns-then-ne c = record {
  differ =
      λ e. not_from_Decides _ (cpus_tell _ _) (not-true _ (sym c.ne.ensures ∙ c.if-ne.true))
      (c.cpu_at.ensures ∙ e ∙ sym c.cpu_at-in-loop-c.ensures);
  before = c.loop-c.invariant;
}

pub returns : goal.returns
returns c =
    everywhere (λ u. get_or (map cpu_in c.args.post.now) u no_cpu)
    (λ u. get_or (map cpu_in c.args.spec.now) u no_cpu) no_cpu c.loop-c.c
    (λ u h. past_end cpu_in no_cpu c.args.post.now u (omega (arith, h, c.max-c-end.ensures, c.loop-c-test.false)))
    (λ u h. past_end cpu_in no_cpu c.args.spec.now u (omega (arith, h, c.max-c-end.ensures, c.loop-c-test.false)))
    c.loop-c.invariant
