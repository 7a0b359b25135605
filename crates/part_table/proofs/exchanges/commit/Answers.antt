use Rattle.std.proofs.Common.{◌≡◌, [], ◌∷◌, Some, ap, sym, subst, ◌∙◌}
use Rattle.part_table.specs.Rule.{Hands, Seated, storing, tail}
use Rattle.part_table.specs.Trying.{CanStore}
use Rattle.part_table.proofs.Pairs.{by_front}
use Rattle.part_table.proofs.exchanges.commit.Goals as goal
use Rattle.part_table.proofs.exchanges.commit.Goals.{After-put}

-- the part is in its slot, the only one in hand
in_slot : (g : _) (c : After-put g) → c.put.new.seat.me ≡ (c.args.seat.now.me.0, (c.args.k, Some c.args.part) ∷ [])
in_slot g c =
    c.put.ensures.in_slot
    ∙ ap
    (λ (l : Hands g.row.A.Denot). (c.args.seat.now.me.0, (c.args.k, Some c.args.part) ∷ tail l)) c.requires.hand

pub store-requires-clause-in_slot : goal.store-requires-clause-in_slot
store-requires-clause-in_slot g c = (c.args.part, by_front (ap (λ m. m.1) c.put.ensures.in_slot))

pub returns-clause-home : goal.returns-clause-home
returns-clause-home g c =
    c.store.ensures.home ∙ ap (λ (m : Seated g.row.A.Denot). (storing c.args.own.now m.1 m.0 c.args.k, tail m.1))
    (in_slot g (goal.at.returns-clause-home g c).After-put)

pub put-requires-clause-table : goal.put-requires-clause-table
put-requires-clause-table g c = c.requires.table.0

pub put-requires-clause-hand : goal.put-requires-clause-hand
put-requires-clause-hand g c = by_front c.requires.hand

pub store-requires-clause-table : goal.store-requires-clause-table
store-requires-clause-table g c = (c.put.ensures.table ∙ c.requires.table.0, c.requires.table.1)

pub store-requires-clause-on : goal.store-requires-clause-on
store-requires-clause-on g c = ap (λ m. m.0.on) c.put.ensures.in_slot ∙ c.requires.on

pub store-requires-clause-part : goal.store-requires-clause-part
store-requires-clause-part g c = c.requires.part

pub returns-clause-table : goal.returns-clause-table
returns-clause-table g c = c.store.ensures.table ∙ c.put.ensures.table

pub returns-clause-history : goal.returns-clause-history
returns-clause-history g c = c.store.ensures.history

pub store-requires-clause-call : goal.store-requires-clause-call
store-requires-clause-call g c =
    subst (λ (m : Seated g.row.A.Denot). CanStore c.args.call.now c.args.own.now m.0 m.1)
    (sym (in_slot g (goal.at.store-requires-clause-call g c).After-put)) c.requires.call
