use Rattle.std.proofs.Common.{◌+◌, subst}
use Rattle.trace_text.proofs.ReplayLemmas.{mapped}
use Rattle.trace_race.specs.Courses.{course_of, nothing_asked}
use Rattle.trace_reader.specs.Reading.{lines_of}
use Rattle.trace_cases.specs.RaceChecks.{ChecksRaced}
use Rattle.trace_cases.specs.Raced.{RacedOf}
use Rattle.trace_cases.proofs.checking.check_raced.Goals as goal

pub returns : goal.returns
returns g c =
    let raced = c.in_ok-raced.raced in
    mapped c.check_reported_raced.result _ _
    (λ checked checks. record {
      raced = raced;
      is =
          subst
          (λ ls. RacedOf ls (c.args.start + 1)
          (course_of 1 nothing_asked
          (lines_of c.args.trace.now)) raced) c.requires.lines c.in_ok-raced.ensures.raced;
      checks = subst (λ ls. ChecksRaced c.args.name.now ls raced checked) c.requires.lines checks;
    })
    c.check_reported_raced.ensures
