use Rattle.std.proofs.Common.{◌∷◌, Some, None, ap, sym, ◌∙◌}
use Rattle.atomic_table.specs.Table.{rest}
use Rattle.part_table.specs.Rule.{Hands}
use Rattle.part_table.proofs.exchanges.put.Goals as goal

pub exchange-requires : goal.exchange-requires
exchange-requires g c = (
  c.requires.table,
  (
    None,
    c.requires.hand
        ∙ ap (λ (l : Hands g.row.A.Denot). (c.args.k, None) ∷ l) (sym (ap rest c.requires.hand)),
  ),
)

pub returns-clause-in_slot : goal.returns-clause-in_slot
returns-clause-in_slot g c =
    c.exchange.ensures.3
    ∙ ap (λ (l : Hands g.row.A.Denot). (c.args.seat.now.me.0, (c.args.k, Some c.args.part) ∷ l))
    (ap rest c.requires.hand)
