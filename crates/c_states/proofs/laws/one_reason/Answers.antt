use Rattle.c_states.proofs.OneAnswer.{fault_once}
use Rattle.c_states.proofs.OneReason.{layout_once, unjudged_once, unmade_once, untold_once}
use Rattle.c_states.proofs.laws.one_reason.Goals as goal

pub returns : goal.returns
returns c =
    record {
      layout = layout_once;
      lists = fault_once;
      made = unmade_once;
      predicted = untold_once;
      judged = unjudged_once;
    }
