use Rattle.std.proofs.Common.{◌≡◌, ◌+◌, ◌≤◌, vec_len}
use Rattle.std.specs.Vec.{vec_capacity}
use Rattle.page_state.specs.Trees.{frames_from}
use Rattle.hyp_pool.specs.Pools.{lowest_first}
use Rattle.hyp_pool.proofs.Pool.of.Given as goal

abbrev pub invariant-loop-i : goal.invariant-loop-i
invariant-loop-i l = record {
  made : lowest_first l.frames.items ≡ frames_from (l.first.0 + l.i) (vec_len l.frames);
  count : vec_len l.frames + l.i ≡ l.n;
  reserved : l.n ≤ vec_capacity l.frames;
}
