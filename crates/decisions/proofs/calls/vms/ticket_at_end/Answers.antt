use Rattle.std.proofs.Common.{◌≡◌, ◌||◌, Bool, true, false, Some, MatchOption, ap, sym, subst}
use Rattle.part_types.specs.View.{cpu_of}
use Rattle.reference_model.specs.declared.changes.Stage.TheVariants.{Finished}
use Rattle.reference_model.specs.declared.changes.Ticket.{Ticket}
use Rattle.reference_model.specs.model.Parts.{has_stage}
use Rattle.decisions.proofs.calls.vms.ticket_at_end.Goals as goal

pub returns-in-Some : goal.returns-in-Some
returns-in-Some c = (ap (λ b. b || has_stage Finished (cpu_of c.args.cpu.now)) c.in-Some.ensures.0, c.in-Some.ensures.1)

pub returns-in-None : goal.returns-in-None
returns-in-None c =
    let last = has_stage Finished (cpu_of c.args.cpu.now) in
    subst
    (λ (b : Bool). MatchOption c.ticket_at-in-None.result ((b || last) ≡ false)
    (λ (t : Ticket). ((b || last) ≡ true) × (c.args.cpu.now.ticket ≡ Some t)))
    (sym c.in-None.ensures) c.ticket_at-in-None.ensures
