use Rattle.std.proofs.Common.{ap, sym, subst, ◌∙◌}
use Rattle.guest_component.specs.View.{runs_of}
use Rattle.std.specs.Prelude.{◌*◌}
use Rattle.table_tree.specs.Reading.{count_of}
use Rattle.ghost_oracle.specs.Counted.{body_tables}
use Rattle.ghost_oracle.specs.inner.Eights.{HasLooked}
use Rattle.ghost_oracle.proofs.Counting.{on_ok_map, looked_none, looked_read}
use Rattle.ghost_oracle.proofs.trees.guest_from.Goals as goal

pub returns-in-None-clause-runs : goal.returns-in-None-clause-runs
returns-in-None-clause-runs g c = λ e. c.none.ensures.runs ∙ sym (ap runs_of c.in-None.ensures)

pub returns-in-None-clause-reads : goal.returns-in-None-clause-reads
returns-in-None-clause-reads g c =
    subst (λ b. HasLooked (count_of c.args.reads.now) (512 * body_tables b) (count_of c.args.reads.now))
    (sym c.in-None.ensures) (looked_none (count_of c.args.reads.now))

pub returns-in-Some-clause-reads : goal.returns-in-Some-clause-reads
returns-in-Some-clause-reads g c =
    on_ok_map _ _ c.body_from.result
    (λ h. subst (λ b. HasLooked (count_of c.args.reads.now) (512 * body_tables b) (count_of c.body_from.new.reads))
    (sym c.in-Some.ensures) (looked_read _ _ _ h)) c.body_from.ensures.reads
