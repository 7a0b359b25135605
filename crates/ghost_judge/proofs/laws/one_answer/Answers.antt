use Rattle.ghost_judge.proofs.OneAnswer.{audit_else, audit_once, judged_else, judged_once, state_else, state_once}
use Rattle.ghost_judge.proofs.laws.one_answer.Goals as goal

pub returns : goal.returns
returns c =
    record {
      audit = audit_once;
      audit_else = audit_else;
      state = state_once;
      state_else = state_else;
      judged = judged_once;
      judged_else = judged_else;
    }
