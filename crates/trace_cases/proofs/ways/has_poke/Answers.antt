use Rattle.std.proofs.Common.{◌∙◌, sym}
use Rattle.trace_cases.specs.Ways.{is_poke}
use Rattle.trace_cases.proofs.Mapped.{list_any-mapped}
use Rattle.trace_cases.proofs.ways.has_poke.Goals as goal

pub returns : goal.returns
returns c = c.any_is_poke.ensures ∙ sym (list_any-mapped (λ line. line.now) is_poke c.args.lines.now)
