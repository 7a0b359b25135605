use Rattle.std.proofs.Common.{rules}
use Rattle.trace_generate.specs.declared.line.StepLine.{StepLine}
use Rattle.c_calls.proofs.lines.write_call.Goals as goal

pub returns-in-Ok-clause-written : goal.returns-in-Ok-clause-written
returns-in-Ok-clause-written c =
    let line : StepLine = record { cpu = c.args.call.now.cpu; step = c.in-Some.step } in
    record {
      step = c.in-Some.step;
      step_is = search rules;
      cpu = search rules;
      offered = search rules;
      read = λ started told. c.lines_are_read.ensures started told line (search rules) (search rules);
    }
