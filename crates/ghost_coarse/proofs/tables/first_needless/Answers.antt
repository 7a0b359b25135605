use Rattle.std.proofs.Common.{sym, true, false, ◌≡◌, ◌≤◌, ◌∙◌}
use Rattle.std.proofs.lemmas.List.Elements.{All-more}
use Rattle.page_state.specs.Blocks.{is_one_word}
use Rattle.page_state.specs.Runs.{map_of}
use Rattle.page_state.proofs.Common.{not-holds}
use Rattle.ghost_trees.specs.declared.tree.Table.{Table}
use Rattle.ghost_coarse.proofs.Listing.{there}
use Rattle.ghost_coarse.proofs.Placed.{all-taken}
use Rattle.ghost_coarse.proofs.tables.first_needless.Goals as goal

pub returns-then-is_word_below : goal.returns-then-is_word_below
returns-then-is_word_below c =
    let e = c.is_word_below.ensures.0 c.if-is_word_below.true in
    record {
      inside = c.requires.inside c.loop-i.i _ c.loop-i-test.true;
      below = e.0;
      there = there c.args.tables.now c.loop-i.i _ c.loop-i-test.true;
      word = e.1;
    }

pub loop-i-preserved : goal.loop-i-preserved
loop-i-preserved c =
    All-more
    (λ (t : Table). t.block.0 ≤ c.args.depth
    → is_one_word (map_of c.args.runs.now) t.block ≡ false) c.args.tables.now c.loop-i.i _ c.loop-i-test.true
    c.loop-i.invariant
    (λ h. not-holds _
    (λ w. let bad : true ≡ false = sym (c.is_word_below.ensures.1 (h, w)) ∙ c.if-is_word_below.false in cc))

pub returns : goal.returns
returns c =
    all-taken
    (λ (t : Table). t.block.0 ≤ c.args.depth
    → is_one_word (map_of c.args.runs.now) t.block ≡ false) c.args.tables.now c.loop-i.i c.loop-i-test.false
    c.loop-i.invariant
