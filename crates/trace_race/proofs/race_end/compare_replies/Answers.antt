use Rattle.std.proofs.Common.{◌<◌, ℕ, All, List, ap, arith, length, subst, sym}
use Rattle.call_table.specs.declared.reply.Reply.{Reply}
use Rattle.call_table.specs.declared.step.Step.{Step}
use Rattle.page_state.specs.LayoutView.{layout_of}
use Rattle.ghost_spec.specs.States.{ghost_state}
use Rattle.trace_race.specs.Judged.{JudgesAll}
use Rattle.trace_race.proofs.Judging.{told_below}
use Rattle.trace_race.proofs.race_end.compare_replies.Goals as goal

pub judge_all-requires : goal.judge_all-requires
judge_all-requires c = record {
  cpus =
      subst (All (λ (k : ℕ × Step × Reply). k.0 < c.args.state.layout.config.cpus)) (sym c.as_slice.ensures.value)
      (told_below c.args.logs.now c.args.state.layout.config.cpus c.in-Ok.calls.items c.requires.cpus
      c.in-Ok.ensures.merged);
  generations = c.requires.generations;
  few = let same = ap length c.as_slice.ensures.value in
      omega (arith, same, c.in-Ok.calls.ok.0, c.in-Ok.calls.ok.1, c.in-Ok.calls.small);
}

pub returns-clause-judged : goal.returns-clause-judged
returns-clause-judged c =
    subst
    (λ (calls : List (ℕ × Step × Reply)). JudgesAll (layout_of c.args.state.layout) (ghost_state c.args.state) calls
    c.in_ok-judged.judged.items) c.as_slice.ensures.value c.in_ok-judged.ensures.judged
