use Rattle.std.proofs.Common.{◌+◌, sym, ap, ◌∙◌}
use Rattle.page_state.specs.EntryTests.{is_unmapped}
use Rattle.page_state.specs.Runs.{map_of}
use Rattle.ghost_trees.proofs.Searches.{all_below_true, all_below_false}
use Rattle.ghost_trees.proofs.Unmapped.{skipped, held, past}
use Rattle.ghost_trees.proofs.blocks.has_no_entry.Goals as goal

pub loop-run-preserved : goal.loop-run-preserved
loop-run-preserved c k h =
    sym
    (skipped c.args.runs.now c.loop-run.run-index _ (c.args.first + k) c.loop-run-test.true
    (c.meets.ensures.none c.if-meets.false k h))
    ∙ c.loop-run.invariant k h

pub returns-then-meets : goal.returns-then-meets
returns-then-meets c =
    let found = c.meets.ensures.some c.if-meets.true in
    sym
    (all_below_false c.args.count found.0 (λ i. is_unmapped (map_of c.args.runs.now (c.args.first + i))) found.1
    (ap is_unmapped (sym (c.loop-run.invariant found.0 found.1))
    ∙ held c.args.runs.now c.loop-run.run-index _ (c.args.first + found.0) c.loop-run-test.true found.2))

pub returns : goal.returns
returns c =
    sym
    (all_below_true c.args.count (λ i. is_unmapped (map_of c.args.runs.now (c.args.first + i)))
    (λ k h. ap is_unmapped
    (sym (c.loop-run.invariant k h)
    ∙ past c.args.runs.now c.loop-run.run-index (c.args.first + k) c.loop-run-test.false)))
