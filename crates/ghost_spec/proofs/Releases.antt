-- The generation of the VM that a step releases.
use Rattle.std.proofs.Common.{◌≡◌, ℕ, ◌+◌, ◌<◌, ◌≤◌, ◌^◌, List, Option, Some, None, refl, arith}
use Rattle.std.specs.Coded.{Unit-prop, le_prop}
use Rattle.std.specs.Prelude.{IfSome}
use Rattle.std.proofs.Math.Logic.{∥∥₁_elim}
use Rattle.call_table.specs.declared.reply.Call.{Call}
use Rattle.call_table.specs.declared.step.Step.{Step}
use Rattle.page_state.specs.Layouts.{Layout}
use Rattle.reference_model.specs.declared.changes.Ticket.{Ticket}
use Rattle.reference_model.specs.model.Boot.{CanBoot}
use Rattle.reference_model.specs.claims.Bounds.{Bounded}
use Rattle.reference_model.specs.help.Conditions.{Legal}
use Rattle.reference_model.specs.model.Run.{IsRun}
use Rattle.reference_model.specs.model.State.{Reference}
use Rattle.reference_model.proofs.conditions.Bounding.{run_bounded}
use Rattle.reference_model.proofs.conditions.RunsLegal.{run_legal}
use Rattle.ghost_spec.specs.Kept.{HasNextGeneration}

-- in a legal state of bounded numbers each ticket's generation has a next one
of_ticket : (l : Layout) (s : Reference) (c : ℕ) (o : Option Ticket)
    → l.config.log ≤ 1048576
    → Legal l s.contents
    → Bounded l s
    → (s.contents.cpu c).ticket ≡ o
    → IfSome o (λ t. t.vm.generation + 1 < 2 ^ 64)
of_ticket l s c None few legal b e = tt
of_ticket l s c (Some t) few legal b e =
    let is = (legal.slots.agree.tickets.ticket c t e).generation in
    let most = b.generations t.vm.slot in
    omega (arith, is, most, few)

pub has_next : (l : Layout) (s : Reference) (c : ℕ) (step : Step)
    → l.config.log ≤ 1048576
    → Legal l s.contents
    → Bounded l s
    → HasNextGeneration (s.contents.cpu c).ticket step
has_next l s c step few legal b e = of_ticket l s c (s.contents.cpu c).ticket few legal b refl

-- so in each state of a run
pub run_has_next : (l : Layout) (cs : List Call) (t : Reference)
    → CanBoot l
    → IsRun l cs t
    → (c : ℕ) (step : Step)
    → HasNextGeneration (t.contents.cpu c).ticket step
run_has_next l cs t ready run c step =
    has_next l t c step ready.accepted.config.calls (run_legal l cs t ready run) (run_bounded l cs t ready run)

next_prop : (o : Option Ticket) → IsProp (IfSome o (λ t. t.vm.generation + 1 < 2 ^ 64))
next_prop (Some t) = le_prop
next_prop None = Unit-prop

-- and where it isn't told which run
pub untold_next : (ticket : Option Ticket) (step : Step)
    → ∥ HasNextGeneration ticket step ∥₁
    → HasNextGeneration ticket step
untold_next ticket step h e = ∥∥₁_elim h (next_prop ticket) (λ k. k e)
