use Rattle.std.proofs.Common.{ap, ◌∙◌}
use Rattle.std.specs.Prelude.{◌==◌}
use Rattle.c_states.specs.Lists.{tables_from_c, table_from_c}
use Rattle.c_states.proofs.Telling.{list_more}
use Rattle.c_states.specs.Known.{is_table}
use Rattle.c_states.proofs.ToldKnown.{table_known, known_more}
use Rattle.c_states.proofs.told.push_tables.Goals as goal

pub loop-i-preserved : goal.loop-i-preserved
loop-i-preserved c = (
  λ t.
      ap (λ xs. tables_from_c xs t) c.in_ok-push.ensures.items
      ∙ list_more (table_from_c t)
      (c.args.tree == t) c.args.told.now.items c.loop-i.told.items c.table_to_c.result c.args.tables.now c.loop-i.i
      _ c.loop-i-test.true
      (c.loop-i.invariant.0 t) (c.table_to_c.ensures t),
  λ low known. known_more is_table c.loop-i.told.items c.push.new.self.items c.table_to_c.result
      c.in_ok-push.ensures.items
      (c.loop-i.invariant.1 low known) (table_known c.args.tree c.table_to_c.result _ c.table_to_c.ensures low),
)
