use Rattle.std.proofs.Common.{◌∙◌, refl, sym, Ok, Err}
use Rattle.trace_audit.specs.View.{audited_of}
use Rattle.trace_audit.proofs.Setting.{pokes_again}
use Rattle.trace_audit.proofs.poked.Audit.poke.Goals as goal

pub returns-in-Ok-clause-done : goal.returns-in-Ok-clause-done
returns-in-Ok-clause-done g c =
    pokes_again c.args.poke (audited_of c.args.self.now) _ _ c.in-Some.world (Ok c.in-Ok.world)
    (sym c.take.ensures.value ∙ c.in-Some.is) c.in-Ok.ensures (refl, refl)

pub returns-in-Err-clause-done : goal.returns-in-Err-clause-done
returns-in-Err-clause-done g c =
    pokes_again c.args.poke (audited_of c.args.self.now) _ _ c.in-Some.world (Err c.in-Err.stop)
    (sym c.take.ensures.value ∙ c.in-Some.is) c.in-Err.ensures refl
