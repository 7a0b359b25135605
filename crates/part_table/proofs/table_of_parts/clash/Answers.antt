use Rattle.std.proofs.Common.{ℕ, ◌<◌, arith, sym, ap, ◌∙◌, subst}
use Rattle.atomic_table.specs.Table.{Allows, step}
use mathlib.Core.Option.{none}
use Rattle.page_state.specs.declared.layout.Layout.{Layout as TheLayout}
use Rattle.part_table.specs.declared.rule.View.{View}
use Rattle.part_table.specs.Passes.{Pass}
use Rattle.part_table.specs.Rule.{IsLawful, Seated, never, nowhere}
use Rattle.part_table.proofs.Apart.{clashes, never_steps}
use Rattle.part_table.proofs.table_of_parts.clash.Goals as goal

pub join_seat-requires : goal.join_seat-requires
join_seat-requires g c =
    let key : TheLayout = c.args.table.now.shared.key.layout in
    let v : View g.row.A.Denot = c.one.inside.seat.me.0 in
    let w : View g.row.A.Denot = c.other.inside.seat.me.0 in
    let p = c.one.invariant in
    let q = c.other.invariant in (
      ap (λ (z : Pass). z.table) c.one.view_is ∙ c.requires.table.0,
      ap (λ (z : Pass). z.table) c.other.view_is ∙ c.requires.table.1,
      q.0,
      subst (λ (m : ℕ). 0 < m) (sym c.requires.table.2) (omega arith),
      clashes g.row.A.Denot key c.one.inside.seat.id c.other.inside.seat.id v w p.2 q.2
          (p.3 ∙ (c.if-one-other.false ∙ sym q.3)),
    )

pub load-requires : goal.load-requires
load-requires g c =
    let key : TheLayout = c.args.table.now.shared.key.layout in
    let e = c.join_seat.ensures in
    let slots : ℕ = c.args.table.now.shared.table_id.slots in
    let id : ℕ = c.join_seat.new.seat.id in (
      e.0 ∙ (ap (λ (z : Pass). z.table) c.one.view_is ∙ c.requires.table.0),
      subst (λ (m : ℕ). 0 < m) (sym c.requires.table.2) (omega arith),
      subst
          (λ (m : Seated g.row.A.Denot). Allows (IsLawful key) slots id m 0 (λ n. n) (never (step slots 0 0 0 none) m))
          (sym e.2)
          (never_steps g.row.A.Denot key slots id 0 c.one.inside.seat.me.1 (λ n. n)
          (never (step slots 0 0 0 none) (nowhere, c.one.inside.seat.me.1))),
    )
