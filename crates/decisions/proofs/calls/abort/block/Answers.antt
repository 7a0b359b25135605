use Rattle.std.proofs.Common.{◌≡◌, ◌-◌, ◌*◌, ◌/◌, ◌%◌, ◌≤◌, arith}
use Rattle.page_state.specs.Geometries.{block_pages}
use Rattle.page_state.proofs.Sizes.{size_some}
use Rattle.decisions.proofs.calls.abort.block.Goals as goal

pub returns-clause-first : goal.returns-clause-first
returns-clause-first c = rw c.pages_under-count.ensures.value (let some = size_some c.args.depth in omega (arith, some))
