use Rattle.std.proofs.Common.{◌<◌, ℕ, sym, ◌∙◌, subst}
use Rattle.part_table.specs.Passes.{AreHomeFrom, opened_as}
use Rattle.part_table.proofs.Closing.{end_for, ended_with}
use Rattle.part_table.proofs.table_of_parts.end.Goals.{After-collect-found}
use Rattle.part_table.proofs.table_of_parts.end.Goals as goal

pub collect-found-requires-clause-home : goal.collect-found-requires-clause-home
collect-found-requires-clause-home g c =
    let j = c.join_all-cpus.ensures in
    let f =
    ended_with g.row.A.Denot c.args.table.shared.key.layout c.args.root.me.0.begun _ c.args.root.me.0.made _ _ _
    j.root.4 j.root.1 j.root.2 j.ended.0 j.root.3 c.close_with-closed.ensures.values.2 in
    λ k lt. let h = f.each_part k lt in (h.0, h.1)

pub returns : goal.returns
returns g c =
    let j = c.join_all-cpus.ensures in
    let made = c.requires.root.3 in
    let f =
    ended_with g.row.A.Denot c.args.table.shared.key.layout c.args.root.me.0.begun _ c.args.root.me.0.made _ _ _
    j.root.4 j.root.1 j.root.2 j.ended.0 j.root.3 c.close_with-closed.ensures.values.2 in
    let home = subst (λ n. AreHomeFrom c.args.root.table_id n 0 c.args.passes.items) (sym made) c.requires.home in
    end_for
    (opened_as c.args.root.table_id c.args.table.shared.key.layout c.args.root.me.0.begun) c.args.root.me.0.made _
    _ c.args.passes.items c.join_all-cpus.result.items c.collect-found.result.items f j.ended
    c.collect-found.ensures.gives home
    (made ∙ c.requires.all) (sym c.args.passes.ok.0 ∙ sym made)

pub join_all-cpus-requires-clause-table : goal.join_all-cpus-requires-clause-table
join_all-cpus-requires-clause-table g c = (c.requires.table.0, c.requires.table.1)

pub join_all-cpus-requires-clause-root : goal.join_all-cpus-requires-clause-root
join_all-cpus-requires-clause-root g c = c.requires.root

pub join_all-cpus-requires-clause-home : goal.join_all-cpus-requires-clause-home
join_all-cpus-requires-clause-home g c = c.requires.home

pub join_all-cpus-requires-clause-room : goal.join_all-cpus-requires-clause-room
join_all-cpus-requires-clause-room g c = (c.requires.room.0, c.requires.room.1)

pub close_with-closed-requires : goal.close_with-closed-requires
close_with-closed-requires g c = c.join_all-cpus.ensures.root.0 ∙ c.requires.table.0

pub collect-found-requires-clause-full : goal.collect-found-requires-clause-full
collect-found-requires-clause-full g c =
    (c.close_with-closed.ensures.values.1, c.close_with-closed.ensures.counts.1 ∙ c.requires.table.2)

pub collect-found-requires-clause-room : goal.collect-found-requires-clause-room
collect-found-requires-clause-room g c = (c.requires.room.2, c.requires.room.3)

pub free-requires : goal.free-requires
free-requires g c k lt = let e = c.collect-found.ensures.emptied in e.1 k (subst (λ (n : ℕ). k < n) e.0 lt)
