use Rattle.std.proofs.Common.{rules}
use Rattle.trace_lines.proofs.asked.step_line.Goals as goal

pub returns : goal.returns
returns c = search rules

pub returns-in_err-cpu : goal.returns-in_err-cpu
returns-in_err-cpu c = search rules

pub returns-in_err-step : goal.returns-in_err-step
returns-in_err-step c = search rules
