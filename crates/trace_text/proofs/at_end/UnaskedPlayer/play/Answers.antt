use Rattle.trace_text.specs.View.{answer_of}
use Rattle.trace_text.proofs.ReplayLemmas.{when_err}
use Rattle.trace_text.proofs.at_end.UnaskedPlayer.play.Goals as goal

pub returns-clause-front : goal.returns-clause-front
returns-clause-front g c =
    when_err c.report_answer.result _ _
    (λ front. record {
      answer = answer_of c.run-ran.new.self c.run-ran.result;
      after =
          record c.args.self.now { session = c.run-ran.new.self };
      runs =
          c.run-ran.ensures.done;
      writes = front;
    })
    c.report_answer.ensures.front
