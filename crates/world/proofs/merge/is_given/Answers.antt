use Rattle.std.proofs.Common.{rules, ◌≤◌, length}
use Rattle.world.proofs.Merging.{drop_past, drop_within}
use Rattle.world.proofs.merge.is_given.Goals as goal

pub returns : goal.returns
returns c = (
  (λ e. let past : length c.args.log.now ≤ c.args.place = search rules in drop_past c.args.log.now c.args.place past),
  (λ e. let past : length c.args.log.now ≤ c.args.place = drop_within c.args.log.now c.args.place e in search rules),
)
