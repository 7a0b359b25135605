use Rattle.std.proofs.Common.{◌<◌, ℕ, sym, ◌∙◌, subst}
use Rattle.part_table.specs.Endings.{owns_of}
use Rattle.part_table.specs.Passes.{AreHomeFrom, opened_as}
use Rattle.part_table.proofs.Closing.{ended_with, has_end}
use Rattle.part_table.proofs.table_of_parts.drop_all.Goals as goal

pub returns : goal.returns
returns g c =
    let j = c.join_each.ensures in
    let made = c.requires.root.3 in
    let f =
    ended_with g.row.A.Denot c.args.table.shared.key.layout c.args.root.me.0.begun _ c.args.root.me.0.made _ _ _
    j.root.4 j.root.1 j.root.2 j.ended.0 j.root.3 c.close_with-closed.ensures.values.2 in
    let home = subst (λ n. AreHomeFrom c.args.root.table_id n 0 c.args.passes.items) (sym made) c.requires.home in
    has_end
    (opened_as c.args.root.table_id c.args.table.shared.key.layout c.args.root.me.0.begun) c.args.root.me.0.made _
    _ c.args.passes.items
    (owns_of c.join_each.new.root.me.0.ended) f j.ended home (made ∙ c.requires.all)
    (sym c.args.passes.ok.0 ∙ sym made)

pub join_each-requires-clause-table : goal.join_each-requires-clause-table
join_each-requires-clause-table g c = (c.requires.table.0, c.requires.table.1)

pub join_each-requires-clause-root : goal.join_each-requires-clause-root
join_each-requires-clause-root g c = c.requires.root

pub join_each-requires-clause-home : goal.join_each-requires-clause-home
join_each-requires-clause-home g c = c.requires.home

pub close_with-closed-requires : goal.close_with-closed-requires
close_with-closed-requires g c = c.join_each.ensures.root.0 ∙ c.requires.table.0

pub empty-requires : goal.empty-requires
empty-requires g c = (c.close_with-closed.ensures.values.1, c.close_with-closed.ensures.counts.1 ∙ c.requires.table.2)

pub free-requires : goal.free-requires
free-requires g c k lt = let e = c.empty.ensures in e.1 k (subst (λ (n : ℕ). k < n) e.0 lt)
