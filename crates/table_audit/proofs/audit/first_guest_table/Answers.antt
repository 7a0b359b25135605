use Rattle.std.proofs.Common.{ap, sym, ◌∙◌, arith}
use Rattle.ghost_trees.specs.Trees.{table_of}
use Rattle.table_audit.proofs.Firsts.{guests_next, none_of}
use Rattle.table_audit.proofs.audit.first_guest_table.Goals as goal

pub loop-v-preserved : goal.loop-v-preserved
loop-v-preserved c =
    guests_next c.args.kept.now c.args.walked.now c.loop-v.v c.index-kept-v.result c.index-walked-v.result
    (omega (arith, c.loop-v-test.true, c.requires.kept))
    (omega (arith, c.loop-v-test.true, c.requires.walked)) c.loop-v.invariant
    (ap table_of (sym c.as_slice.ensures.value) ∙ none_of _ _ c.in_tables.result c.in_default.is c.in_tables.ensures
    ∙ ap table_of c.as_slice-in-loop-v.ensures.value)
