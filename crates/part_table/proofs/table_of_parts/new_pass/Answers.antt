use Rattle.std.proofs.Common.{◌≡◌, ℕ, ◌<◌, [], true, arith, sym, ap, ◌∙◌, refl, subst}
use Rattle.atomic_table.specs.Table.{Splits}
use Rattle.page_state.specs.declared.layout.Layout.{Layout as TheLayout}
use Rattle.page_state.specs.LayoutView.{layout_of}
use Rattle.part_types.specs.declared.parts.CpuState.{CpuState}
use Rattle.part_table.specs.declared.rule.View.{View}
use Rattle.part_table.specs.Does.{IsLeft, none_at}
use Rattle.part_table.specs.Beginnings.{own_in}
use Rattle.part_table.specs.Rule.{AtRest, IsIdle, IsLawful, Seated, held_at, known_of, newcomer, one_more}
use Rattle.part_table.proofs.Rests.{none_held}
use Rattle.part_table.proofs.Root.{splits}
use Rattle.part_table.proofs.table_of_parts.new_pass.Goals as goal

pub split_seat-seat-requires : goal.split_seat-seat-requires
split_seat-seat-requires g c =
    let key : TheLayout = c.args.table.now.shared.key.layout in
    let v : View g.row.A.Denot = c.args.root.now.me.0 in
    let r = c.requires.root in
    let few : v.made < key.config.cpus = subst (λ (n : ℕ). n < key.config.cpus) (sym r.2) c.requires.known in (
      c.requires.table.0,
      subst (λ (n : ℕ). 0 < n) (sym c.requires.table.1) (omega arith),
      subst (λ (n : ℕ). Splits (IsLawful key) n v (one_more v) (newcomer v)) (sym r.0)
          (splits g.row.A.Denot key v r.1 r.3 few),
    )

pub invariant_of-result : goal.invariant_of-result
invariant_of-result g c =
    let key : TheLayout = c.args.table.now.shared.key.layout in
    let n : ℕ = c.args.own.id in
    let own : CpuState = c.args.own in
    let v : View g.row.A.Denot = c.args.root.now.me.0 in
    let r = c.requires.root in
    let of : v.layout ≡ key = r.3 in
    let own_is : own_in v.begun v.made ≡ own = (λ i. own_in (c.requires.begun i) (r.2 i)) ∙ sym c.requires.own in
    let rest : AtRest (newcomer v) =
    subst (λ (z : TheLayout × (ℕ × CpuState)). IsLeft {A = g.row.A.Denot} (layout_of z.0) z.1.0 z.1.1 none_at)
    (λ i. (sym of i, (sym r.2 i, own_in (sym c.requires.begun i) (sym r.2 i))))
    (c.requires.left n c.requires.known) in
    let few : v.made < v.layout.config.cpus =
    subst (λ (z : TheLayout × ℕ). z.1 < z.0.config.cpus) (λ i. (sym of i, sym r.2 i)) c.requires.known in
    subst
    (λ (m : Seated g.row.A.Denot). (m.1 ≡ [])
    × IsIdle m.0
    × (m.0.on ≡ true)
    × (m.0.cpu ≡ own.id)
    × (m.0.own ≡ own)
    × (m.0.cpu < m.0.layout.config.cpus)
    × AtRest m.0)
    (sym c.split_seat-seat.ensures.4)
    (refl, (λ k. refl), refl, r.2, own_is, few, rest)

pub returns-clause-pass : goal.returns-clause-pass
returns-clause-pass g c =
    let v : View g.row.A.Denot = c.args.root.now.me.0 in
    let r = c.requires.root in
    let e = c.split_seat-seat.ensures.4 in
    let idle =
    none_held c.split_seat-seat.result.me.0.held (λ k. ap (λ (m : Seated g.row.A.Denot). held_at m.0.held k) e) in
    (λ i. record { table = c.split_seat-seat.ensures.3 i; knows = known_of ((e i).0); holds = idle i })
    ∙ (λ i. record {
      table = c.args.root.now.table_id;
      knows =
          record { layout = r.3 i; cpu = r.2 i; own = own_in (c.requires.begun i) (r.2 i); seen = []; tries = [] };
      holds = [];
    })
