use Rattle.std.proofs.Common.{refl, sym, ◌∙◌}
use Rattle.ghost_legal.proofs.FirstBlocks.{all-first, one-more}
use Rattle.ghost_legal.proofs.apart.has_first_blocks.Goals as goal

pub loop-i-preserved : goal.loop-i-preserved
loop-i-preserved c =
    one-more c.args.tables.now c.behind.result.now c.loop-i.i _ c.table_at.result c.loop-i-test.true c.behind.ensures
    c.table_at.ensures
    (sym c.is_some.ensures ∙ c.if-is_some.false) c.loop-i.invariant

pub returns : goal.returns
returns c = (λ t. all-first c.args.tables.now c.loop-i.i c.loop-i-test.false c.loop-i.invariant, λ h. refl)
