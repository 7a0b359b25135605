use Rattle.std.proofs.Common.{ℕ, ◌<◌, sym, arith, subst}
use Rattle.part_table.proofs.Keeps.{enter_keeps}
use Rattle.part_table.proofs.exchanges.load_entry.Goals as goal

pub load-requires : goal.load-requires
load-requires g c = (
  c.requires.table.0,
  subst (λ (n : ℕ). 0 < n) (sym c.requires.table.1) (omega arith),
  enter_keeps g.row.A.Denot c.args.table.now.shared.key.layout _ _ _ g.J.Deed.call g.J.Deed.own c.requires.on
      c.requires.call.does c.requires.call.used c.requires.call.by,
)
