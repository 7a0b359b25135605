use Rattle.std.proofs.Common.{◌≡◌, ◌∷◌, Some, None, IfSome, ℕ, sym, ap, ◌∙◌, subst, ◌<◌}
use Rattle.std.specs.Prelude.{Option}
use Rattle.atomic_table.specs.Table.{rest}
use Rattle.part_table.specs.declared.rule.View.{View}
use Rattle.part_table.specs.declared.slot.Slot.{Slot}
use Rattle.part_table.specs.Rule.{Standing}
use Rattle.part_table.specs.Trying.{HasTaken}
use Rattle.part_table.proofs.Keeps.{take_keeps}
use Rattle.part_table.proofs.Pairs.{first_of}
use Rattle.part_table.proofs.exchanges.take.Goals as goal

pub swap-requires : goal.swap-requires
swap-requires g c = (
  c.requires.table.0,
  subst (λ n. c.args.k < n) (sym c.requires.table.1) c.requires.part,
  take_keeps g.row.A.Denot c.args.table.now.shared.key.layout _ _ _ _ c.requires.on c.requires.part,
)

pub exchange-requires : goal.exchange-requires
exchange-requires g c =
    let t = c.swap.ensures.2.0 c.if-swap-ne0.false in
    let e : c.swap.new.seat.me.1 ≡ (c.args.k, Some t.0) ∷ c.args.seat.now.me.1 = ap (λ z. z.1) t.1 in
    (c.swap.ensures.0 ∙ c.requires.table.0, (Some t.0, e ∙ ap (λ l. (c.args.k, Some t.0) ∷ l) (sym (ap rest e))))

pub returns-clause-taken : goal.returns-clause-taken
returns-clause-taken g c =
    let t = c.swap.ensures.2.0 c.if-swap-ne0.false in
    let k : ℕ = c.args.k in
    let e : c.swap.new.seat.me.1 ≡ (k, Some t.0) ∷ c.args.seat.now.me.1 = ap (λ z. z.1) t.1 in
    let r : Some t.0 ≡ c.exchange.result = ap (first_of None) (sym e ∙ c.exchange.ensures.2) in
    let n = c.exchange.ensures.3 in
    subst
    (λ (o : Option (Slot g.row.A.Denot)). IfSome o (λ x. HasTaken k x c.args.seat.now.me c.exchange.new.seat.me)) r
    record {
      is = n
          ∙ ap (λ m. (m.0, (k, None) ∷ rest m.1)) t.1;
      begun =
          t.2;
      left = subst (λ (w : View g.row.A.Denot). Standing w) (sym (ap (λ m. m.0) n)) t.3;
    }
