use Rattle.std.proofs.Common.{◌≤◌, arith}
use Rattle.page_state.proofs.Geometries.{levels_least}
use Rattle.decisions.proofs.calls.abort.may_map.Goals as goal

pub is_empty-requires : goal.is_empty-requires
is_empty-requires g c = let least = levels_least c.args.shared.now.host.tree.geometry in
    omega (arith, c.requires, least)
