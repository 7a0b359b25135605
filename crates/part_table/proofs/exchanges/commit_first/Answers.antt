use Rattle.std.proofs.Common.{◌≡◌, ℕ, ◌∷◌, [], Some, None, ap, sym, subst, ◌∙◌}
use Rattle.atomic_table.specs.Table.{turned}
use Rattle.part_table.specs.declared.slot.Slot.{Slot}
use Rattle.part_table.specs.Rule.{Hands, Seated, storing, tail}
use Rattle.part_table.specs.Trying.{CanStore}
use Rattle.part_table.proofs.Pairs.{by_front}
use Rattle.part_table.proofs.exchanges.commit_first.Goals as goal
use Rattle.part_table.proofs.exchanges.commit_first.Goals.{After-turn, After-turn-2}

-- a part is put over the slot taken last, and turned behind the other
turned_in_slot : {A : Type 0} (k : ℕ) (x : Slot A) (m n r s : Seated A)
    → m ≡ s
    → n ≡ (m.0, (k, Some x) ∷ tail m.1)
    → r ≡ (n.0, turned n.1)
    → r ≡ (s.0, turned ((k, Some x) ∷ tail s.1))
turned_in_slot {A = A} k x m n r s e in_slot over =
    over ∙ ap (λ (z : Seated A). (z.0, turned z.1)) (in_slot ∙ ap (λ (z : Seated A). (z.0, (k, Some x) ∷ tail z.1)) e)

-- the guest is in its slot
one_in_slot : (g : _) (c : After-turn g)
    → c.turn.new.self.me ≡ (c.args.seat.now.me.0, (1, None) ∷ (c.args.guest, Some c.args.part) ∷ [])
one_in_slot g c =
    turned_in_slot c.args.guest c.args.part _ _ _ _
    (ap (λ (h : Hands g.row.A.Denot). (c.args.seat.now.me.0, h)) c.requires.hand) c.put.ensures.in_slot
    c.turn.ensures.2

-- both parts are in their slots, the guest in front
both_in_slot : (g : _) (c : After-turn-2 g)
    → c.turn.new.self.me ≡ (c.args.seat.now.me.0, (1, None) ∷ (c.args.guest, Some c.args.part) ∷ [])
    → c.turn-2.new.self.me ≡ (c.args.seat.now.me.0, (c.args.guest, Some c.args.part) ∷ (1, Some c.args.shared) ∷ [])
both_in_slot g c e = turned_in_slot 1 c.args.shared _ _ _ _ e c.put-2.ensures.in_slot c.turn-2.ensures.2

-- the seat stays one of the table
same_table : (g : _) (c : After-turn g) → c.turn.new.self.table_id ≡ c.args.seat.now.table_id
same_table g c = c.turn.ensures.0 ∙ c.put.ensures.table

same_table-2 : (g : _) (c : After-turn-2 g) → c.turn-2.new.self.table_id ≡ c.turn.new.self.table_id
same_table-2 g c = c.turn-2.ensures.0 ∙ c.put-2.ensures.table

pub put-requires-2-clause-hand : goal.put-requires-2-clause-hand
put-requires-2-clause-hand g c =
    by_front (ap (λ m. m.1) (one_in_slot g (goal.at.put-requires-2-clause-hand g c).After-turn))

pub store-requires-clause-in_slot : goal.store-requires-clause-in_slot
store-requires-clause-in_slot g c =
    let at = goal.at.store-requires-clause-in_slot g c in
    (c.args.part, by_front (ap (λ m. m.1) (both_in_slot g at.After-turn-2 (one_in_slot g at.After-turn))))

pub returns-clause-home : goal.returns-clause-home
returns-clause-home g c =
    let at = goal.at.returns-clause-home g c in
    c.store.ensures.home ∙ ap (λ (m : Seated g.row.A.Denot). (storing c.args.own.now m.1 m.0 c.args.guest, tail m.1))
    (both_in_slot g at.After-turn-2 (one_in_slot g at.After-turn))

pub put-requires-clause-table : goal.put-requires-clause-table
put-requires-clause-table g c = c.requires.table.0

pub put-requires-clause-hand : goal.put-requires-clause-hand
put-requires-clause-hand g c = by_front c.requires.hand

pub put-requires-2-clause-table : goal.put-requires-2-clause-table
put-requires-2-clause-table g c = same_table g (goal.at.put-requires-2-clause-table g c).After-turn ∙ c.requires.table.0

pub store-requires-clause-table : goal.store-requires-clause-table
store-requires-clause-table g c =
    let at = goal.at.store-requires-clause-table g c in
    (same_table-2 g at.After-turn-2 ∙ (same_table g at.After-turn ∙ c.requires.table.0), c.requires.table.1)

pub store-requires-clause-on : goal.store-requires-clause-on
store-requires-clause-on g c =
    let at = goal.at.store-requires-clause-on g c in
    ap (λ m. m.0.on) (both_in_slot g at.After-turn-2 (one_in_slot g at.After-turn)) ∙ c.requires.on

pub store-requires-clause-part : goal.store-requires-clause-part
store-requires-clause-part g c = c.requires.part

pub returns-clause-table : goal.returns-clause-table
returns-clause-table g c =
    let at = goal.at.returns-clause-table g c in
    c.store.ensures.table ∙ (same_table-2 g at.After-turn-2 ∙ same_table g at.After-turn)

pub returns-clause-history : goal.returns-clause-history
returns-clause-history g c = c.store.ensures.history

pub store-requires-clause-call : goal.store-requires-clause-call
store-requires-clause-call g c =
    let at = goal.at.store-requires-clause-call g c in
    subst (λ (m : Seated g.row.A.Denot). CanStore c.args.call.now c.args.own.now m.0 m.1)
    (sym (both_in_slot g at.After-turn-2 (one_in_slot g at.After-turn))) c.requires.call
