use Rattle.std.proofs.Common.{sym, subst, ℕ, ◌*◌, ◌/◌, ◌^◌, ◌<◌, ◌≤◌}
use Rattle.page_state.specs.Runs.{run_end}
use Rattle.ghost_coarse.proofs.Along.{last_of}
use Rattle.ghost_coarse.proofs.lacking.last_block.Goals as goal

pub returns : goal.returns
returns c =
    let e = sym c.min.ensures in
    let x =
    last_of c.args.run.pages.first.0 c.args.run.pages.count c.args.size c.args.count c.requires.run.0
    c.requires.some c.requires.size c.requires.low in
    record {
      last = c.min.ensures;
      from = subst (λ (n : ℕ). c.args.run.pages.first.0 / c.args.size ≤ n) e x.from;
      below = subst (λ (n : ℕ). n < c.args.count) e x.below;
      end = subst (λ (n : ℕ). n * c.args.size < run_end c.args.run) e x.end;
      small = subst (λ (n : ℕ). n < 2 ^ 63) e x.small;
    }
