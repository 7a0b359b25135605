use Rattle.std.proofs.Common.{OnOk, ap, subst}
use Rattle.ghost_spec.specs.States.{contents_in}
use Rattle.reference_model.specs.model.State.{Contents, Reference}
use Rattle.state_changes.specs.Changed.{ReportsAll}
use Rattle.state_changes.specs.Together.{Adds}
use Rattle.trace_explain.proofs.explaining.add_changed_to.Goals as goal

pub returns : goal.returns
returns g c =
    subst
    (λ (x : Contents). OnOk c.add_changes-told.result
    (Adds
    (ReportsAll (contents_in c.args.before.now) x c.args.cpu) c.args.text.now.items
    c.add_changes-told.new.text.items))
    (ap (λ (s : Reference). s.contents) c.in_ok-after.ensures.state) c.add_changes-told.ensures
