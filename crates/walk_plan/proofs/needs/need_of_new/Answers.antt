use Rattle.std.proofs.Common.{◌≡◌, suc, ◌+◌, ap, refl, arith, ◌∙◌}
use Rattle.page_state.specs.Geometries.{levels_below, input_pages, block_pages}
use Rattle.walk_plan.proofs.OfTree.{low_depth}
use Rattle.walk_plan.proofs.NewTree.{new_need}
use Rattle.walk_plan.proofs.needs.need_of_new.Goals as goal

pub returns : goal.returns
returns c root =
    let g = c.args.geometry in
    let e : levels_below g + 1 ≡ suc (levels_below g) = omega arith in
    let s : input_pages g ≡ block_pages (suc (levels_below g)) = ap (λ d. block_pages d) e in
    rw c.depth.ensures.value at c.need_of_empty.ensures
    ∙ new_need (levels_below g) root c.args.range.first.0 c.args.range.count c.args.entry.now
    (record {
      first = c.args.range.first.0;
      end = c.args.range.first.0 + c.args.range.count;
      entry = c.args.entry.now;
    })
    (low_depth g) (omega (arith, c.requires.some)) (omega (arith, s, c.requires.within)) refl refl refl
