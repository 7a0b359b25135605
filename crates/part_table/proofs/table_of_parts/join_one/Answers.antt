use Rattle.std.proofs.Common.{◌≡◌, ℕ, ◌<◌, ◌++◌, ◌∷◌, [], length, arith, sym, ap, ◌∙◌, refl, subst}
use Rattle.std.specs.Prelude.{Option, Some, None, IsSome, slice_get, slice_set}
use Rattle.atomic_table.specs.Table.{Joins}
use Rattle.page_state.specs.declared.layout.Layout.{Layout as TheLayout}
use Rattle.part_table.specs.declared.rule.View.{View}
use Rattle.part_table.specs.Endings.{ended_of}
use Rattle.part_table.specs.Passes.{Pass}
use Rattle.part_table.specs.Rule.{IsLawful, with_end, nobody}
use Rattle.part_table.proofs.Lists.{from, or_of_get, get_set_else}
use Rattle.part_table.proofs.Root.{joins}
use Rattle.part_table.proofs.table_of_parts.join_one.Goals.{After-unwrap-pass}
use Rattle.part_table.proofs.table_of_parts.join_one.Goals as goal

pub unwrap-pass-requires : goal.unwrap-pass-requires
unwrap-pass-requires g c =
    let h = c.requires.there in
    let is : c.index_mut.result.now ≡ Some h.0 =
    c.index_mut.ensures.value
    ∙ or_of_get c.args.passes.now.items c.args.cpu c.index_mut.result.now (Some h.0) h.1 in
    subst IsSome (sym (c.take.ensures.value ∙ is)) refl

-- the pass is the one at the place
is : (g : _) (c : After-unwrap-pass g) → c.unwrap-pass.result ≡ c.requires.there.0
is g c =
    let h = c.requires.there in
    let was : c.index_mut.result.now ≡ Some h.0 =
    c.index_mut.ensures.value
    ∙ or_of_get c.args.passes.now.items c.args.cpu c.index_mut.result.now (Some h.0) h.1 in
    ap (from c.unwrap-pass.result) (sym c.unwrap-pass.ensures ∙ (c.take.ensures.value ∙ was))

pub join_seat-requires : goal.join_seat-requires
join_seat-requires g c =
    let h = c.requires.there in
    let r = c.requires.root in
    let same = is g (goal.at.join_seat-requires g c).After-unwrap-pass in
    let v : View g.row.A.Denot = c.args.root.now.me.0 in
    let w : View g.row.A.Denot = c.pass.inside.seat.me.0 in
    let q = c.pass.invariant in
    let see = c.pass.view_is in
    let cpu : w.cpu ≡ c.args.cpu = ap (λ (z : Pass). z.knows.cpu) see ∙ (ap (λ (z : Pass). z.knows.cpu) same ∙ h.3) in
    let table : c.pass.inside.seat.table_id ≡ c.args.root.now.table_id =
    ap (λ (z : Pass). z.table) see ∙ (ap (λ (z : Pass). z.table) same ∙ h.2) in
    let key : TheLayout = c.args.table.now.shared.key.layout in
    let few : length v.ended < v.made = subst (λ (m : ℕ). m < v.made) (sym r.2) r.3 in (
      c.requires.table.0,
      table ∙ c.requires.table.0,
      q.0,
      subst (λ (m : ℕ). 0 < m) (sym c.requires.table.1) (omega arith),
      subst (λ (m : ℕ). Joins (IsLawful key) m v c.pass.inside.seat.id w (with_end v w) nobody) (sym r.0)
          (joins g.row.A.Denot key v c.pass.inside.seat.id w r.1 q.2 (cpu ∙ sym r.2) few q.1),
    )

pub returns-clause-root : goal.returns-clause-root
returns-clause-root g c =
    let e = c.join_seat.ensures in (
      e.0,
      e.1 ∙ c.requires.root.0,
      ap (λ m. m.0.root) e.2
          ∙ c.requires.root.1,
      ap (λ m. m.0.made) e.2,
      ap (λ m. m.0.begun) e.2,
    )

pub returns-clause-hand : goal.returns-clause-hand
returns-clause-hand g c = ap (λ m. m.1) c.join_seat.ensures.2

pub returns-clause-ended : goal.returns-clause-ended
returns-clause-ended g c p there =
    let h = c.requires.there in
    let same = is g (goal.at.returns-clause-ended g c).After-unwrap-pass in
    let q = c.pass.invariant in
    let given : h.0 ≡ p = ap (from p) (ap (from (Some p)) (sym h.1 ∙ there)) in
    let see = c.pass.view_is ∙ (same ∙ given) in (
      ap (λ m. m.0.ended) c.join_seat.ensures.2 ∙ ap (λ (z : Pass). c.args.root.now.me.0.ended ++ ended_of z ∷ []) see,
      sym q.4 ∙ ap (λ (z : Pass). z.knows.own) see,
    )

pub returns-clause-others : goal.returns-clause-others
returns-clause-others g c j ne =
    ap (λ (o : Option Pass). slice_get (slice_set c.args.passes.now.items c.args.cpu o) j) c.take.ensures.after
    ∙ get_set_else c.args.passes.now.items c.args.cpu j None ne
