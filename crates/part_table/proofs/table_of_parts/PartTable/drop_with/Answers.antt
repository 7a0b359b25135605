use Rattle.std.proofs.Common.{◌≡◌, sym, ap, subst, ◌∙◌}
use Rattle.page_state.specs.declared.layout.Layout.{Layout as TheLayout}
use Rattle.part_table.specs.Endings.{HasEnd}
use Rattle.part_table.specs.Passes.{Opened, opened_as}
use Rattle.part_table.proofs.table_of_parts.PartTable.drop_with.Goals as goal

pub drop_all-requires-clause-home : goal.drop_all-requires-clause-home
drop_all-requires-clause-home g c j from below =
    let h = c.requires.home j from below in
    (h.0, h.1, h.2 ∙ (ap (λ (o : Opened). o.table) (sym c.self.view_is) ∙ sym c.self.invariant.same), h.3)

pub drop_all-requires-clause-table : goal.drop_all-requires-clause-table
drop_all-requires-clause-table g c = let i = c.self.invariant in (i.same, i.words, i.slots)

pub drop_all-requires-clause-root : goal.drop_all-requires-clause-root
drop_all-requires-clause-root g c =
    let i = c.self.invariant in (
      i.first,
      i.rooted,
      i.none,
      i.made
          ∙ (ap (λ (o : Opened). o.layout.config.cpus) c.self.view_is ∙ sym c.requires.count),
      i.empty,
    )

pub drop_all-requires-clause-all : goal.drop_all-requires-clause-all
drop_all-requires-clause-all g c =
    let i = c.self.invariant in
    c.requires.count
    ∙ (ap (λ (o : Opened). o.layout.config.cpus) (sym c.self.view_is)
    ∙ ap (λ (l : TheLayout). l.config.cpus) (sym i.key_is))

pub returns : goal.returns
returns g c =
    let i = c.self.invariant in
    let is : opened_as c.self.inside.root.table_id c.self.inside.table.shared.key.layout c.self.inside.root.me.0.begun ≡ c.args.self =
    (λ k. opened_as (i.same k) (i.key_is k) (i.begun k)) ∙ c.self.view_is in
    subst (λ (t : Opened). HasEnd g.row.A.Denot t c.args.passes.items) is c.drop_all.ensures
