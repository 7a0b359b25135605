use Rattle.std.specs.Prelude.{string_bytes}
use Rattle.trace_cli.proofs.Made.{made_by}
use Rattle.trace_cli.proofs.generated.made.Goals as goal

pub returns : goal.returns
returns g c =
    made_by string_bytes c.generate-answer.result _ _ _ _ _ c.generate-answer.ensures.trace
    c.generate-answer.ensures.fault c.written.ensures
