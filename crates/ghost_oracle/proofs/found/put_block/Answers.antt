use Rattle.std.proofs.Common.{◌∙◌, sym}
use Rattle.ghost_oracle.proofs.Ended.{runs_some, map_some, runs_none, map_none}
use Rattle.ghost_oracle.proofs.found.put_block.Goals as goal

pub returns-in_ok-put_last-clause-runs : goal.returns-in_ok-put_last-clause-runs
returns-in_ok-put_last-clause-runs c =
    rw c.in_ok-put_last.ensures
    (runs_some c.args.runs.now.items c.args.first c.args.count c.args.entry c.requires.before c.in-Some.target
    (sym c.target.ensures ∙ c.in-Some.is) c.requires.some c.requires.pages c.requires.frames)

pub returns-in_ok-put_last-clause-map : goal.returns-in_ok-put_last-clause-map
returns-in_ok-put_last-clause-map c =
    rw c.in_ok-put_last.ensures
    (map_some c.args.runs.now.items c.args.first c.args.count c.args.entry c.requires.before c.in-Some.target
    (sym c.target.ensures ∙ c.in-Some.is))

pub returns-in_default-clause-runs : goal.returns-in_default-clause-runs
returns-in_default-clause-runs c =
    runs_none c.args.runs.now.items c.args.first c.args.count c.args.entry c.requires.before

pub returns-in_default-clause-map : goal.returns-in_default-clause-map
returns-in_default-clause-map c =
    map_none c.args.runs.now.items c.args.first c.args.count c.args.entry c.requires.before
    (sym c.target.ensures ∙ c.in_default.is)
