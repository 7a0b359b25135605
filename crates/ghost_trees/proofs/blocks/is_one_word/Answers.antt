use Rattle.std.proofs.Common.{◌+◌, sym, ◌∙◌}
use Rattle.page_state.specs.declared.entry.Entry.TheVariants.{Unmapped}
use Rattle.page_state.specs.Blocks.{first_page}
use Rattle.page_state.specs.Runs.{map_of}
use Rattle.ghost_trees.proofs.OneWords.{one_entry, covered_at, cut_at}
use Rattle.ghost_trees.proofs.Unmapped.{skipped, past}
use Rattle.ghost_trees.proofs.blocks.is_one_word.Goals as goal

pub loop-run-preserved : goal.loop-run-preserved
loop-run-preserved c k h =
    let none = rw (c.span-count.ensures.value, c.first_page-first.ensures) at (c.meets.ensures.none c.if-meets.false) in
    sym (skipped c.args.runs.now c.loop-run.run-index _ (first_page c.args.block + k) c.loop-run-test.true (none k h))
    ∙ c.loop-run.invariant k h

pub returns-then-not-covers : goal.returns-then-not-covers
returns-then-not-covers c =
    let found = rw (c.span-count.ensures.value, c.first_page-first.ensures) at (c.meets.ensures.some c.if-meets.true) in
    let not =
    rw (c.span-count.ensures.value, c.first_page-first.ensures) at
    (c.covers.ensures.not_all c.if-not-covers.true) in
    cut_at c.args.runs.now c.loop-run.run-index _ c.args.block found.0 c.requires.coarsest c.loop-run-test.true
    c.loop-run.invariant found.1 found.2 not

pub returns-then-meets : goal.returns-then-meets
returns-then-meets c =
    let all =
    rw (c.span-count.ensures.value, c.first_page-first.ensures) at (c.covers.ensures.all c.if-not-covers.false) in
    rw (c.fits_word.ensures, c.advance-entry.ensures, c.from.ensures, c.first_page-first.ensures)
    (covered_at c.args.runs.now c.loop-run.run-index _ c.args.block c.loop-run-test.true c.loop-run.invariant all.0
    all.1)

pub returns : goal.returns
returns c =
    one_entry (map_of c.args.runs.now) c.args.block Unmapped
    (λ k h. sym (c.loop-run.invariant k h)
    ∙ past c.args.runs.now c.loop-run.run-index (first_page c.args.block + k) c.loop-run-test.false)
