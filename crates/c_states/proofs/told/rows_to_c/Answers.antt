use Rattle.std.proofs.Common.{[], ap, true, ◌∙◌}
use Rattle.c_states.specs.Lists.{row_from_c, rows_from_c}
use Rattle.c_states.proofs.Telling.{list_more}
use Rattle.c_states.specs.Known.{is_row}
use Rattle.c_states.proofs.ToldKnown.{known_more, row_known}
use Rattle.c_states.proofs.told.rows_to_c.Goals as goal

pub loop-i-preserved : goal.loop-i-preserved
loop-i-preserved c = (
  ap rows_from_c c.in_ok-push.ensures.items
      ∙ list_more row_from_c true
      [] c.loop-i.told.items c.row_to_c.result c.args.runs.now c.loop-i.i _ c.loop-i-test.true
      c.loop-i.invariant.0 c.row_to_c.ensures,
  known_more is_row c.loop-i.told.items c.push.new.self.items c.row_to_c.result c.in_ok-push.ensures.items
      c.loop-i.invariant.1
      (row_known c.row_to_c.result _ c.row_to_c.ensures),
)
