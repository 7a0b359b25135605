use Rattle.std.proofs.Common.{◌∙◌, sym}
use Rattle.trace_cases.specs.Ways.{is_start}
use Rattle.trace_cases.proofs.Mapped.{position-mapped}
use Rattle.trace_cases.proofs.ways.start_at.Goals as goal

pub returns-clause-place : goal.returns-clause-place
returns-clause-place c =
    c.first_start.ensures.place ∙ sym (position-mapped (λ line. line.now) is_start c.args.lines.now)
