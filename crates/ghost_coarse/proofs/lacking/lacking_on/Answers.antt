use Rattle.std.proofs.Common.{arith, ap, subst, ◌∙◌, ℕ, ◌+◌, ◌-◌, ◌*◌, ◌/◌, ◌<◌, min}
use Rattle.std.proofs.Math.Nat.{lt-div-mul-add}
use Rattle.page_state.specs.Geometries.{block_pages}
use Rattle.page_state.specs.Runs.{map_of, run_end}
use Rattle.page_state.proofs.Sizes.{size_some}
use Rattle.ghost_coarse.proofs.Along.{ends_joined}
use Rattle.ghost_coarse.proofs.lacking.lacking_on.Goals as goal

pub first_between-requires-clause-covers : goal.first_between-requires-clause-covers
first_between-requires-clause-covers c =
    let s = block_pages c.args.depth in
    let some : 0 < s = size_some c.args.depth in
    let x : c.args.run.pages.first.0 < c.args.run.pages.first.0 / s * s + s = lt-div-mul-add some in
    record {
      goes = c.requires.goes;
      first = rw c.span-size.ensures (omega (arith, x));
      end =
          subst
          (λ
          (n : ℕ). c.last_block-high.result * n < run_end
          c.args.run) c.span-size.ensures c.last_block-high.ensures.end;
    }

pub returns : goal.returns
returns c =
    let s = block_pages c.args.depth in
    ends_joined
    (map_of c.args.runs.now) c.args.indexes.now c.args.run c.args.depth c.args.count _ c.last_block-high.result
    c.first_between.result
    (size_some c.args.depth)
    (ap (λ (n : ℕ). c.args.run.pages.first.0 / n) c.span-size.ensures)
    (c.last_block-high.ensures.last
    ∙ ap (λ (n : ℕ). min ((run_end c.args.run - 1) / n) (c.args.count - 1)) c.span-size.ensures)
    c.last_block-high.ensures.below
    (c.is_served.ensures.0 c.if-not-is_served.false)
    (c.is_served-2.ensures.0 c.if-not-is_served-2.false) c.first_between.ensures
