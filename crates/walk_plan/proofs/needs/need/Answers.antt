use Rattle.std.proofs.Common.{◌≡◌, ◌+◌, ◌*◌, ap, refl, arith, ◌∙◌}
use Rattle.page_state.specs.Geometries.{levels_below}
use Rattle.walk_plan.proofs.Coarse.{need_by_map}
use Rattle.walk_plan.proofs.Looks.{edges_most}
use Rattle.walk_plan.proofs.Needed.{need_walked}
use Rattle.walk_plan.proofs.OfTree.{low_depth}
use Rattle.walk_plan.proofs.needs.need.Goals as goal

pub returns-clause-by_map : goal.returns-clause-by_map
returns-clause-by_map g c =
    let e : c.depth.result ≡ levels_below c.args.tree.now.geometry =
    c.depth.ensures.value ∙ ap levels_below c.geometry.ensures in
    rw e at c.need_of_table.ensures.value
    ∙ need_walked c.args.tree.now c.args.range.first.0 c.args.range.count c.args.entry.now
    (record {
      first = c.args.range.first.0;
      end = c.args.range.first.0 + c.args.range.count;
      entry = c.args.entry.now;
    })
    (omega (arith, c.requires.some)) c.requires.within refl refl refl
    ∙ need_by_map c.args.tree.now c.args.range.first.0 c.args.range.count c.args.entry.now c.requires.within

pub returns-clause-value : goal.returns-clause-value
returns-clause-value g c =
    let e : c.depth.result ≡ levels_below c.args.tree.now.geometry =
    c.depth.ensures.value ∙ ap levels_below c.geometry.ensures in
    rw e at c.need_of_table.ensures.value
    ∙ need_walked c.args.tree.now c.args.range.first.0 c.args.range.count c.args.entry.now
    (record {
      first = c.args.range.first.0;
      end = c.args.range.first.0 + c.args.range.count;
      entry = c.args.entry.now;
    })
    (omega (arith, c.requires.some)) c.requires.within refl refl refl

pub returns-clause-reads : goal.returns-clause-reads
returns-clause-reads g c =
    let e : c.depth.result ≡ levels_below c.args.tree.now.geometry =
    c.depth.ensures.value ∙ ap levels_below c.geometry.ensures in
    let l = low_depth c.args.tree.now.geometry in
    let m =
    edges_most (2 * c.depth.result) (c.depth.result + 1)
    (record {
      first = c.args.range.first.0;
      end = c.args.range.first.0 + c.args.range.count;
      entry = c.args.entry.now;
    }) in
    omega (arith, c.need_of_table.ensures.reads, m, e, l)
