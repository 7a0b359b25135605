use Rattle.std.proofs.Common.{◌∙◌, ap, map, subst}
use Rattle.std.specs.Prelude.{IfOk}
use Rattle.trace_check.specs.Checks.{ChecksMissed}
use Rattle.trace_check.specs.View.{misses_in, told_in}
use Rattle.trace_check.proofs.checking.check_reported.Goals as goal

pub returns : goal.returns
returns c =
    subst
    (λ m. IfOk c.check_missed.result
    (ChecksMissed c.args.name.now (map (λ line. line.now) c.args.lines.now) (told_in c.args.told.now) m))
    (ap misses_in c.as_slice.ensures.value ∙ c.in_ok-missed.ensures) c.check_missed.ensures
