use Rattle.trace_text.specs.View.{answer_of}
use Rattle.trace_text.proofs.ReplayLemmas.{when_err}
use Rattle.trace_audit.proofs.auditing.LegalAuditPlayer.play.Goals as goal

pub returns-clause-front : goal.returns-clause-front
returns-clause-front g c =
    when_err c.report_answer.result _ _
    (λ front. record {
      answer = answer_of c.run-ran.new.self.session c.run-ran.result;
      after = record { audit = c.run-ran.new.self };
      runs = c.run-ran.ensures.done;
      writes = front;
    })
    c.report_answer.ensures.front
