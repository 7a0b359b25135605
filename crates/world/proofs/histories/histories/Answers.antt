use Rattle.std.proofs.Common.{◌≡◌, ◌∙◌, ℕ, List, [], ap, sym, map, arith}
use Rattle.std.specs.Prelude.{get_or, slice_get, Vec}
use Rattle.call_table.specs.declared.reply.Call.{Call}
use Rattle.hypercalls.specs.Stands.{at_place}
use Rattle.ghost_oracle.proofs.Founds.{placed, as_long}
use Rattle.world.specs.Merges.{log_at}
use Rattle.world.proofs.histories.histories.Goals as goal

-- lists of as many logs are the same at each place
same_at : {P Z : Type 0} (calls : P → List Call) (logs : List (Vec Call Z)) (ps : List P) (i : ℕ)
    → map (λ v. v.items) logs ≡ map calls ps
    → log_at logs i ≡ at_place [] calls (slice_get ps i)
same_at calls logs ps i e =
    sym (placed [] (λ v. v.items) logs i) ∙ ap (λ (ls : List (List Call)). get_or ls i []) e ∙ placed [] calls ps i

pub returns-clause-lists : goal.returns-clause-lists
returns-clause-lists g c =
    let p = c.args.parts.now in (
      as_long (λ v. v.items) (λ w. w.log.calls) c.in_ok-guest_logs.field-0.items p.guests.items 64
          (c.in_ok-guest_logs.ensures ∙ ap (map (λ w. w.log.calls)) c.as_slice.ensures.value)
          (omega (arith, p.slots, p.guests.ok.0)),
      as_long (λ v. v.items) (λ k. k.log.calls) c.in_ok-cpu_logs.field-0.items p.cpus.items p.layout.config.cpus
          (c.in_ok-cpu_logs.ensures ∙ ap (map (λ k. k.log.calls)) c.as_slice-2.ensures.value)
          (omega (arith, p.counted, p.cpus.ok.0)),
    )

pub returns-clause-logs : goal.returns-clause-logs
returns-clause-logs g c =
    let p = c.args.parts.now in
    let guests = c.in_ok-guest_logs.ensures ∙ ap (map (λ w. w.log.calls)) c.as_slice.ensures.value in
    let cpus = c.in_ok-cpu_logs.ensures ∙ ap (map (λ k. k.log.calls)) c.as_slice-2.ensures.value in
    record {
      vms = c.in_ok-from_slice.ensures.items ∙ c.calls.ensures;
      shared = c.in_ok-from_slice-2.ensures.items ∙ c.calls-2.ensures;
      guest = λ v low. same_at (λ w. w.log.calls) c.in_ok-guest_logs.field-0.items p.guests.items v guests;
      guests = let n =
          as_long (λ v. v.items) (λ w. w.log.calls) c.in_ok-guest_logs.field-0.items p.guests.items 64 guests
          (omega (arith, p.slots, p.guests.ok.0)) in
          omega (arith, n);
      cpu = λ k low. same_at (λ w. w.log.calls) c.in_ok-cpu_logs.field-0.items p.cpus.items k cpus;
      cpus = let n =
          as_long (λ v. v.items)
          (λ k. k.log.calls) c.in_ok-cpu_logs.field-0.items p.cpus.items p.layout.config.cpus cpus
          (omega (arith, p.counted, p.cpus.ok.0)) in
          omega (arith, n);
    }
