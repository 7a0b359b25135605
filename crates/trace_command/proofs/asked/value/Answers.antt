use Rattle.std.proofs.Common.{sym, ◌∙◌}
use Rattle.clap.specs.Words.{found_of}
use Rattle.trace_command.proofs.Values.{first_is}
use Rattle.trace_command.proofs.asked.value.Goals as goal

pub returns : goal.returns
returns c = c.get_str.ensures ∙ sym (first_is (found_of c.args.inner.now) c.args.id.now)
