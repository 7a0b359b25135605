use Rattle.std.proofs.Common.{[], ◌++◌, ◌∙◌, ap, arith}
use Rattle.std.specs.Prelude.{option_to_list}
use Rattle.image_findings.specs.Findings.{denial_of}
use Rattle.image_findings.proofs.Steps.{all_given, more_given}
use Rattle.image_trees.specs.Records.{records_in}
use Rattle.image_dump.specs.Stating.{denial_by}
use Rattle.image_dump.proofs.records.denied_runs.Goals as goal

pub loop-i-preserved : goal.loop-i-preserved
loop-i-preserved g c = record {
  room = omega (arith, c.denied_frame.auto.buffer, c.loop-i.invariant.room);
  so_far = λ all e.
      let record_of = records_in all c.args.segments.now c.args.records.now in
      more_given (denial_by record_of c.args.tree) c.args.runs.now c.loop-i.i _ [] c.loop-i.found.items
      c.add.new.found.items c.loop-i-test.true (c.loop-i.invariant.so_far all e)
      (c.in_ok-add.ensures
      ∙ ap (λ o. c.loop-i.found.items ++ option_to_list o)
      (c.denied.ensures ∙ ap (denial_of c.args.tree _) (c.in_ok-frame.ensures.first all e)));
}

pub returns-clause-denied : goal.returns-clause-denied
returns-clause-denied g c = λ all e.
    all_given (denial_by (records_in all c.args.segments.now c.args.records.now) c.args.tree) c.args.runs.now c.loop-i.i
    [] c.loop-i.found.items c.loop-i-test.false (c.loop-i.invariant.so_far all e)
