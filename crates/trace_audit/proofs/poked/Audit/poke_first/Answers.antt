use Rattle.std.proofs.Common.{◌∙◌, ap, refl, sym, Some, Ok, Err, option_map}
use Rattle.trace_text.specs.View.{machine_of}
use Rattle.trace_audit.specs.View.{audited_of}
use Rattle.trace_audit.proofs.Setting.{pokes_first}
use Rattle.trace_audit.proofs.poked.Audit.poke_first.Goals as goal

pub returns-in-Ok-poke_world-clause-done : goal.returns-in-Ok-poke_world-clause-done
returns-in-Ok-poke_world-clause-done g c =
    pokes_first c.args.poke (audited_of c.args.self.now) _ _ c.in-Some.world
    (Ok c.in-Ok-poke_world.world) c.requires.none
    (sym c.take_world.ensures.world ∙ ap (option_map machine_of) c.in-Some.is)
    c.in-Ok-poke_world.ensures
    (refl, ap (λ s. record { session = s; poked = Some c.in-Ok-poke_world.world }) c.take_world.ensures.rest)

pub returns-in-Err-clause-done : goal.returns-in-Err-clause-done
returns-in-Err-clause-done g c =
    pokes_first c.args.poke (audited_of c.args.self.now) _ _ c.in-Some.world (Err c.in-Err.stop) c.requires.none
    (sym c.take_world.ensures.world ∙ ap (option_map machine_of) c.in-Some.is)
    c.in-Err.ensures refl
