use Rattle.free_judge.proofs.OneAnswer.{first_else, first_once, judged_freely_once, predicted_freely_once, ready_once}
use Rattle.free_judge.proofs.laws.one_answer.Goals as goal

pub returns : goal.returns
returns c =
    record {
      first = first_once;
      first_else = first_else;
      ready = ready_once;
      judged = judged_freely_once;
      predicted = predicted_freely_once;
    }
