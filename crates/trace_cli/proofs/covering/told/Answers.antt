use Rattle.std.proofs.Common.{◌∙◌, ap, inl}
use Rattle.trace_cli.specs.Covering.{status_of_cover}
use Rattle.trace_cli.proofs.covering.told.Goals as goal

pub returns : goal.returns
returns g c =
    inl (c.status_of_cover.ensures ∙ ap (status_of_cover c.args.missing c.args.faulty) c.in-Ok.ensures.missing)
