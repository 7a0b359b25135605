use Rattle.std.proofs.Common.{◌≡◌, sym, ap, subst, ◌∙◌}
use Rattle.page_state.specs.declared.layout.Layout.{Layout as TheLayout}
use Rattle.part_table.specs.Endings.{ForEach, IsEndFor}
use Rattle.part_table.specs.Passes.{Opened, opened_as}
use Rattle.part_table.proofs.table_of_parts.PartTable.close.Goals as goal

pub end-found-requires-clause-home : goal.end-found-requires-clause-home
end-found-requires-clause-home g c j from below =
    let h = c.requires.home j from below in
    (h.0, h.1, h.2 ∙ (ap (λ (o : Opened). o.table) (sym c.self.view_is) ∙ sym c.self.invariant.same), h.3)

pub end-found-requires-clause-table : goal.end-found-requires-clause-table
end-found-requires-clause-table g c = let i = c.self.invariant in (i.same, i.words, i.slots)

pub end-found-requires-clause-root : goal.end-found-requires-clause-root
end-found-requires-clause-root g c =
    let i = c.self.invariant in (
      i.first,
      i.rooted,
      i.none,
      i.made
          ∙ (ap (λ (o : Opened). o.layout.config.cpus) c.self.view_is ∙ sym c.requires.count),
      i.empty,
    )

pub end-found-requires-clause-all : goal.end-found-requires-clause-all
end-found-requires-clause-all g c =
    let i = c.self.invariant in
    c.requires.count
    ∙ (ap (λ (o : Opened). o.layout.config.cpus) (sym c.self.view_is)
    ∙ ap (λ (l : TheLayout). l.config.cpus) (sym i.key_is))

pub end-found-requires-clause-room : goal.end-found-requires-clause-room
end-found-requires-clause-room g c = c.requires.room

pub returns-clause-layout : goal.returns-clause-layout
returns-clause-layout g c = ap (λ (o : Opened). o.layout) c.self.view_is

pub returns-clause-end : goal.returns-clause-end
returns-clause-end g c =
    let i = c.self.invariant in
    let is : opened_as c.self.inside.root.table_id c.self.inside.table.shared.key.layout c.self.inside.root.me.0.begun ≡ c.args.self =
    (λ k. opened_as (i.same k) (i.key_is k) (i.begun k)) ∙ c.self.view_is in
    subst
    (λ (t : Opened). IsEndFor t c.end-found.result.0.items c.end-found.result.1.items
    (ForEach c.args.passes.items)) is c.end-found.ensures
