use Rattle.std.proofs.Common.{◌+◌, ◌++◌, ◌∙◌, ap, map, length}
use Rattle.trace_check.specs.Misses.{unreached}
use Rattle.trace_check.specs.View.{misses_in}
use Rattle.trace_check.proofs.Steps.{left_of, to_end}
use Rattle.trace_check.proofs.missing.add_rest.Goals as goal

pub returns : goal.returns
returns c =
    c.in_ok-add_unreached.ensures
    ∙ ap (λ ls. misses_in c.args.found.now.items ++ unreached (length c.args.told.now + 1) (map (λ line. line.now) ls))
    (to_end c.args.lines.now (length c.args.told.now))
    ∙ ap (λ l. misses_in c.args.found.now.items ++ l)
    (left_of (λ n ls. unreached (n + 1) ls) (λ line. line.now)
    (λ reported. reported.items) c.args.lines.now c.args.told.now)
