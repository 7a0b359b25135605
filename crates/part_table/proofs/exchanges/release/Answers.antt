use Rattle.std.proofs.Common.{◌<◌, sym, subst}
use Rattle.part_table.proofs.Keeps.{return_keeps}
use Rattle.part_table.proofs.exchanges.release.Goals as goal

pub swap-requires : goal.swap-requires
swap-requires g c = (
  c.requires.table.0,
  subst (λ n. c.args.k < n) (sym c.requires.table.1) c.requires.part,
  return_keeps g.row.A.Denot c.args.table.now.shared.key.layout _ _ _ _ c.requires.held.0 _ c.requires.on
      c.requires.part c.requires.held.1 c.requires.held.2,
)
