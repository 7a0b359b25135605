use Rattle.std.proofs.Common.{◌∙◌, Some, refl, sym, ap}
use Rattle.page_state.specs.LayoutView.{layout_of}
use Rattle.part_types.specs.declared.parts.CpuState.{CpuState}
use Rattle.part_types.specs.Lent.{lent_guest, logs_in, used_in}
use Rattle.part_types.specs.View.{cpu_of, guest_held}
use Rattle.reference_model.specs.model.Rules.{names}
use Rattle.decisions.proofs.Decided.{named_alone}
use Rattle.hypercalls.proofs.Carried.{comes_guest, ends_at, err_at, leaves_shared, ok_at}
use Rattle.hypercalls.proofs.Stepping.{barred_step, done_step, eq_with, full_step, guest_full, has_room, no_room, none_full, own_full, same_logs}
use Rattle.hypercalls.proofs.Using.{guest}
use Rattle.hypercalls.proofs.step.step_on_guest.Goals.{in-Ok, in-Err, then-is_full-via-then-is_full, then-is_full-via-else-is_full+then-is_full-2}
use Rattle.hypercalls.proofs.step.step_on_guest.Goals as goal

pub returns-then-is_full-clause-step : goal.returns-then-is_full-clause-step
returns-then-is_full-clause-step g c =
    let k = c.args.cpu.now in
    let p = c.args.part.now in
    full_step (layout_of c.args.layout.now) c.args.step (lent_guest p k) _
    (guest (cpu_of k) c.args.step c.args.slot c.requires.uses) refl c.requires.own c.answers.ensures.full
    (elim c.then-is_full.branch [
      | then-is_full-via-then-is_full w ↦ own_full (logs_in (lent_guest p k))
          (no_room c.is_full.result k.log.room c.is_full.ensures w.if-is_full.true)
      | then-is_full-via-else-is_full+then-is_full-2 w ↦ guest_full (logs_in (lent_guest p k))
          (no_room w.is_full-else-is_full.result p.log.room w.is_full-else-is_full.ensures w.if-is_full-2.true)
    ])

pub decide_guest-requires : goal.decide_guest-requires
decide_guest-requires g c = let is = guest (cpu_of c.args.cpu.now) c.args.step c.args.slot c.requires.uses in
    record { names = named_alone (cpu_of c.args.cpu.now) c.args.slot c.args.step is.slot is.shared }

pub change_guest-made-requires : goal.change_guest-made-requires
change_guest-made-requires g c =
    let rely =
    c.relies.ensures.relies (layout_of c.args.layout.now) c.args.cpu.now.id _ c.args.step _ c.requires.known
    (sym (guest (cpu_of c.args.cpu.now) c.args.step c.args.slot c.requires.uses).slot) c.requires.reached in
    let lets = sym (c.in-Ok.ensures.decided c.args.cpu.now.id c.args.slot) in
    record { fit = rely.fit c.in-Ok.changes lets; parts = rely.parts c.in-Ok.changes lets; suits = c.requires.suits }

pub returns-clause-step : goal.returns-clause-step
returns-clause-step g c =
    let l = layout_of c.args.layout.now in
    let k = c.args.cpu.now in
    let p = c.args.part.now in
    let x = lent_guest p k in
    let is = guest (cpu_of k) c.args.step c.args.slot c.requires.uses in
    let room =
    none_full (logs_in x) (has_room c.is_full.result k.log.room c.is_full.ensures c.if-is_full.false) refl refl
    (has_room c.is_full-else-is_full.result p.log.room c.is_full-else-is_full.ensures c.if-is_full-2.false) in
    let rely =
    c.relies.ensures.relies l c.args.cpu.now.id (Some c.args.slot) c.args.step (used_in x) c.requires.known
    (sym is.slot) c.requires.reached in
    elim c.match-decide_guest.branch [
      | in-Ok w ↦
          let h = w.in-Ok.changes in
          let lets = sym (w.in-Ok.ensures.decided c.args.cpu.now.id c.args.slot) in
          let only = c.change_laws.ensures.used l c.args.cpu.now.id (Some c.args.slot) c.args.step (used_in x) h lets in
          done_step l c.args.step x
          (Some c.args.slot) is refl c.requires.own c.answers.ensures.steps room c.len.result c.len.ensures.value
          c.match-decide_guest.reply _
          (same_logs _ _ _ _ _ _ _ _ refl refl
          (ap Some
          (eq_with _ p.log c.match-decide_guest.part.log c.store.new.self
          (ap (λ p. p.log) w.part-is ∙ w.change_guest-made.ensures.guest.log) c.store.ensures.calls
          c.store.ensures.room))
          (eq_with _ k.log c.match-decide_guest.cpu.log c.store-2.new.self
          (ap (λ p. p.log) w.cpu-is ∙ w.ended-reply.ensures.log) c.store-2.ensures.calls
          c.store-2.ensures.room))
          (ap (λ (j : CpuState). j.id) w.cpu-is ∙ w.ended-reply.ensures.id) c.relies.ensures.answers rely h lets
          w.in-Ok.ensures.grows w.change_guest-made.result
          (comes_guest l c.args.cpu.now.id (Some c.args.slot) h p _ k _ w.change_guest-made.result (only.vms is.vms)
          (leaves_shared (names c.args.step) (Some c.args.slot) h only is.shared)
          (ok_at w.change_guest-made.result guest_held _ w.part-is w.change_guest-made.ensures.guest.made)
          (err_at w.change_guest-made.result guest_held _ w.part-is
          w.change_guest-made.ensures.guest.err) w.change_guest-made.ensures.no_pool
          w.change_guest-made.ensures.no_memory)
          (ends_at w.change_guest-made.result h (cpu_of k) w.reply-is w.cpu-is w.ended-reply.ensures.ends)
      | in-Err w ↦ barred_step l c.args.step x
          (Some c.args.slot) is refl c.requires.own c.answers.ensures.steps room c.len.result c.len.ensures.value
          c.match-decide_guest.reply _
          (same_logs _ _ _ _ _ _ _ _ refl refl
          (ap Some
          (eq_with _ p.log c.match-decide_guest.part.log c.store.new.self
          (ap (λ p. p.log) w.part-is) c.store.ensures.calls c.store.ensures.room))
          (eq_with _ k.log c.match-decide_guest.cpu.log c.store-2.new.self
          (ap (λ p. p.log) w.cpu-is) c.store-2.ensures.calls c.store-2.ensures.room))
          (ap (λ (j : CpuState). j.id) w.cpu-is) c.answers.ensures.barred w.in-Err.why
          (sym (w.in-Err.ensures.decided c.args.cpu.now.id c.args.slot)) w.reply-is
          (ap (λ z. used_in (lent_guest z c.match-decide_guest.cpu)) w.part-is
          ∙ ap (λ z. used_in (lent_guest p z)) w.cpu-is)
    ]
