use Rattle.trace_text.proofs.Checked.{audited_well, judged_well}
use Rattle.trace_text.proofs.oracle.GhostOracleOracle.check.Goals as goal

pub returns : goal.returns
returns c = record {
  told = λ m call t shown. record {
    judged = c.in_ok-judge_last.ensures.none.1 (judged_well m call t _ _ _ _ _ _ shown);
    audited = c.audit.ensures.none.1 (audited_well m call t _ _ _ _ _ _ shown);
  };
  judged = c.in_ok-judge_last.ensures.none;
  first_judged = c.in_ok-judge_last.ensures.first;
  audited = c.audit.ensures.none;
  first_audited = c.audit.ensures.first;
}
