use Rattle.std.proofs.Common.{◌∙◌, Some, refl, sym, ap}
use Rattle.page_state.specs.LayoutView.{layout_of}
use Rattle.part_types.specs.declared.parts.CpuState.{CpuState}
use Rattle.part_types.specs.Lent.{lent_both, logs_in, used_in}
use Rattle.part_types.specs.View.{cpu_of, shared_of, guest_held}
use Rattle.decisions.proofs.Decided.{named_both}
use Rattle.hypercalls.proofs.Carried.{comes_both, ends_at, err_at, ok_at}
use Rattle.hypercalls.proofs.Stepping.{barred_step, done_step, eq_with, full_step, guest_full, has_room, no_room, none_full, own_full, same_logs, shared_full}
use Rattle.hypercalls.proofs.Using.{both}
use Rattle.hypercalls.proofs.step.step_on_both.Goals.{in-Ok, in-Err, then-is_full-via-then-is_full, then-is_full-via-else-is_full+then-is_full-2, then-is_full-via-else-is_full+else-is_full-2+then-is_full-3}
use Rattle.hypercalls.proofs.step.step_on_both.Goals as goal

pub returns-then-is_full-clause-step : goal.returns-then-is_full-clause-step
returns-then-is_full-clause-step g c =
    let k = c.args.cpu.now in
    let s = c.args.shared.now in
    let p = c.args.part.now in
    full_step (layout_of c.args.layout.now) c.args.step (lent_both s p k) _
    (both (cpu_of k) c.args.step c.args.slot c.requires.uses) refl c.requires.suits.cpu c.answers.ensures.full
    (elim c.then-is_full.branch [
      | then-is_full-via-then-is_full w ↦ own_full (logs_in (lent_both s p k))
          (no_room c.is_full.result k.log.room c.is_full.ensures w.if-is_full.true)
      | then-is_full-via-else-is_full+then-is_full-2 w ↦ shared_full (logs_in (lent_both s p k))
          (no_room w.is_full-else-is_full.result s.log.room w.is_full-else-is_full.ensures w.if-is_full-2.true)
      | then-is_full-via-else-is_full+else-is_full-2+then-is_full-3 w ↦ guest_full (logs_in (lent_both s p k))
          (no_room w.is_full-else-is_full-2.result p.log.room w.is_full-else-is_full-2.ensures w.if-is_full-3.true)
    ])

pub decide_with_guest-requires-clause-names : goal.decide_with_guest-requires-clause-names
decide_with_guest-requires-clause-names g c = let is =
    both (cpu_of c.args.cpu.now) c.args.step c.args.slot c.requires.uses in
    named_both (cpu_of c.args.cpu.now) c.args.slot c.args.step is.slot is.shared

pub decide_with_guest-requires-clause-slot : goal.decide_with_guest-requires-clause-slot
decide_with_guest-requires-clause-slot g c =
    (c.relies.ensures.relies (layout_of c.args.layout.now) c.args.cpu.now.id _ c.args.step _ c.requires.known
    (sym
    (both
    (cpu_of c.args.cpu.now) c.args.step c.args.slot
    c.requires.uses).slot) c.requires.reached).slot_low c.args.slot refl

pub decide_with_guest-requires-clause-rely : goal.decide_with_guest-requires-clause-rely
decide_with_guest-requires-clause-rely g c =
    c.relies.ensures.relies (layout_of c.args.layout.now) c.args.cpu.now.id _ c.args.step _ c.requires.known
    (sym (both (cpu_of c.args.cpu.now) c.args.step c.args.slot c.requires.uses).slot) c.requires.reached

pub change_both-made-requires-clause-slot : goal.change_both-made-requires-clause-slot
change_both-made-requires-clause-slot g c =
    (c.relies.ensures.relies (layout_of c.args.layout.now) c.args.cpu.now.id _ c.args.step _ c.requires.known
    (sym
    (both
    (cpu_of c.args.cpu.now) c.args.step c.args.slot
    c.requires.uses).slot) c.requires.reached).slot_low c.args.slot refl

pub change_both-made-requires-clause-can : goal.change_both-made-requires-clause-can
change_both-made-requires-clause-can g c =
    let rely =
    c.relies.ensures.relies (layout_of c.args.layout.now) c.args.cpu.now.id _ c.args.step _ c.requires.known
    (sym (both (cpu_of c.args.cpu.now) c.args.step c.args.slot c.requires.uses).slot) c.requires.reached in
    record {
      fit = rely.fit c.in-Ok.changes (sym c.in-Ok.ensures.decided);
      touched = rely.touched c.in-Ok.changes (sym c.in-Ok.ensures.decided);
      suits = c.requires.suits.shared;
    }

pub change_both-made-requires-clause-can_guest : goal.change_both-made-requires-clause-can_guest
change_both-made-requires-clause-can_guest g c =
    let rely =
    c.relies.ensures.relies (layout_of c.args.layout.now) c.args.cpu.now.id _ c.args.step _ c.requires.known
    (sym (both (cpu_of c.args.cpu.now) c.args.step c.args.slot c.requires.uses).slot) c.requires.reached in
    record {
      fit = rely.fit c.in-Ok.changes (sym c.in-Ok.ensures.decided);
      parts = rely.parts c.in-Ok.changes (sym c.in-Ok.ensures.decided);
      suits = c.requires.suits.guest;
    }

pub returns-clause-step : goal.returns-clause-step
returns-clause-step g c =
    let l = layout_of c.args.layout.now in
    let k = c.args.cpu.now in
    let s = c.args.shared.now in
    let p = c.args.part.now in
    let x = lent_both s p k in
    let is = both (cpu_of k) c.args.step c.args.slot c.requires.uses in
    let room =
    none_full (logs_in x) (has_room c.is_full.result k.log.room c.is_full.ensures c.if-is_full.false) refl
    (has_room c.is_full-else-is_full.result s.log.room c.is_full-else-is_full.ensures c.if-is_full-2.false)
    (has_room c.is_full-else-is_full-2.result p.log.room c.is_full-else-is_full-2.ensures
    c.if-is_full-3.false) in
    let rely =
    c.relies.ensures.relies l c.args.cpu.now.id (Some c.args.slot) c.args.step (used_in x) c.requires.known
    (sym is.slot) c.requires.reached in
    elim c.match-decide_with_guest.branch [
      | in-Ok w ↦
          let h = w.in-Ok.changes in
          let lets = sym w.in-Ok.ensures.decided in
          let only = c.change_laws.ensures.used l c.args.cpu.now.id (Some c.args.slot) c.args.step (used_in x) h lets in
          done_step l c.args.step x
          (Some c.args.slot) is refl c.requires.suits.cpu c.answers.ensures.steps room c.len.result
          c.len.ensures.value c.match-decide_with_guest.reply _
          (same_logs _ _ _ _ _ _ _ _ refl
          (ap Some
          (eq_with _ s.log c.match-decide_with_guest.shared.log c.store.new.self
          (ap (λ p. p.log) w.shared-is ∙ w.change_both-made.ensures.shared.log) c.store.ensures.calls
          c.store.ensures.room))
          (ap Some
          (eq_with _ p.log c.match-decide_with_guest.part.log c.store-2.new.self
          (ap (λ p. p.log) w.part-is ∙ w.change_both-made.ensures.guest.log) c.store-2.ensures.calls
          c.store-2.ensures.room))
          (eq_with _ k.log c.match-decide_with_guest.cpu.log c.store-3.new.self
          (ap (λ p. p.log) w.cpu-is ∙ w.ended-reply.ensures.log) c.store-3.ensures.calls
          c.store-3.ensures.room))
          (ap (λ (j : CpuState). j.id) w.cpu-is ∙ w.ended-reply.ensures.id) c.relies.ensures.answers rely h lets
          w.in-Ok.ensures.grows w.change_both-made.result
          (comes_both l c.args.cpu.now.id (Some c.args.slot) h s _ p _ k _ w.change_both-made.result (only.vms is.vms)
          (ok_at w.change_both-made.result shared_of _ w.shared-is w.change_both-made.ensures.shared.made)
          (err_at w.change_both-made.result shared_of _ w.shared-is w.change_both-made.ensures.shared.err)
          (ok_at w.change_both-made.result guest_held _ w.part-is w.change_both-made.ensures.guest.made)
          (err_at w.change_both-made.result guest_held _ w.part-is
          w.change_both-made.ensures.guest.err) w.change_both-made.ensures.no_pool
          w.change_both-made.ensures.no_memory)
          (ends_at w.change_both-made.result h (cpu_of k) w.reply-is w.cpu-is w.ended-reply.ensures.ends)
      | in-Err w ↦ barred_step l c.args.step x
          (Some c.args.slot) is refl c.requires.suits.cpu c.answers.ensures.steps room c.len.result c.len.ensures.value
          c.match-decide_with_guest.reply _
          (same_logs _ _ _ _ _ _ _ _ refl
          (ap Some
          (eq_with _ s.log c.match-decide_with_guest.shared.log c.store.new.self
          (ap (λ p. p.log) w.shared-is) c.store.ensures.calls c.store.ensures.room))
          (ap Some
          (eq_with _ p.log c.match-decide_with_guest.part.log c.store-2.new.self
          (ap (λ p. p.log) w.part-is) c.store-2.ensures.calls c.store-2.ensures.room))
          (eq_with _ k.log c.match-decide_with_guest.cpu.log c.store-3.new.self
          (ap (λ p. p.log) w.cpu-is) c.store-3.ensures.calls c.store-3.ensures.room))
          (ap (λ (j : CpuState). j.id) w.cpu-is) c.answers.ensures.barred w.in-Err.why
          (sym w.in-Err.ensures.decided) w.reply-is
          (ap
          (λ z. used_in
          (lent_both z c.match-decide_with_guest.part c.match-decide_with_guest.cpu)) w.shared-is
          ∙ ap (λ z. used_in (lent_both s z c.match-decide_with_guest.cpu)) w.part-is
          ∙ ap (λ z. used_in (lent_both s p z)) w.cpu-is)
    ]
