use Rattle.std.proofs.Common.{◌≡◌, ◌∙◌, sym, subst, true, false, arith}
use Rattle.reference_model.specs.claims.Sound.{HasTicket}
use Rattle.ghost_spec.specs.States.{contents_in}
use Rattle.page_state.proofs.Cases.{by_lt}
use Rattle.ghost_slots.proofs.Past.{no-ticket}
use Rattle.ghost_slots.proofs.slots.ticket_from.Goals as goal

pub returns-then-has_ticket : goal.returns-then-has_ticket
returns-then-has_ticket c =
    record {
      low = c.loop-cpu.auto.cpu;
      high = c.loop-cpu-test.true;
      has = c.has_ticket.ensures.0 c.if-has_ticket.true;
      none = c.loop-cpu.invariant;
    }

pub returns : goal.returns
returns c =
    λ d from. by_lt d c.loop-cpu.cpu (λ l. c.loop-cpu.invariant d from l)
    (λ l. no-ticket c.args.state.now c.requires d c.args.slot (omega (arith, l, c.loop-cpu-test.false)))

pub loop-cpu-preserved : goal.loop-cpu-preserved
loop-cpu-preserved c = λ d from less t. by_lt d c.loop-cpu.cpu (λ l. c.loop-cpu.invariant d from l t) (λ l.
    let e : d ≡ c.loop-cpu.cpu = omega (arith, l, less) in
    let bad : true ≡ false =
    sym (c.has_ticket.ensures.1 (subst (HasTicket (contents_in c.args.state.now) c.args.slot) e t))
    ∙ c.if-has_ticket.false in
    cc)
