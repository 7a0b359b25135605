use Rattle.std.proofs.Common.{◌<◌, sym, subst}
use Rattle.part_table.proofs.Keeps.{store_keeps}
use Rattle.part_table.proofs.exchanges.store.Goals as goal

pub swap-requires : goal.swap-requires
swap-requires g c =
    let d = g.J.Deed in (
      c.requires.table.0,
      subst (λ n. c.args.k < n) (sym c.requires.table.1) c.requires.part,
      store_keeps g.row.A.Denot c.args.table.now.shared.key.layout _ _ _ _ d.call d.own c.requires.in_slot.0 _
          c.requires.on c.requires.part c.requires.in_slot.1 c.requires.call.does
          c.requires.call.used c.requires.call.by,
    )
