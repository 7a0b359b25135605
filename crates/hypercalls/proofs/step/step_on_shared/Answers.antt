use Rattle.std.proofs.Common.{◌∙◌, Some, None, refl, sym, ap}
use Rattle.page_state.specs.LayoutView.{layout_of}
use Rattle.part_types.specs.declared.parts.CpuState.{CpuState}
use Rattle.part_types.specs.Lent.{lent_shared, logs_in, used_in}
use Rattle.part_types.specs.View.{cpu_of, shared_of}
use Rattle.reference_model.specs.model.Rules.{names}
use Rattle.hypercalls.proofs.Carried.{comes_shared, ends_at, err_at, leaves_guest, ok_at}
use Rattle.hypercalls.proofs.Stepping.{barred_step, done_step, eq_with, full_step, has_room, no_room, none_full, own_full, same_logs, shared_full}
use Rattle.hypercalls.proofs.Using.{shared}
use Rattle.hypercalls.proofs.step.step_on_shared.Goals.{in-Ok, in-Err, then-is_full-via-then-is_full, then-is_full-via-else-is_full+then-is_full-2}
use Rattle.hypercalls.proofs.step.step_on_shared.Goals as goal

pub returns-then-is_full-clause-step : goal.returns-then-is_full-clause-step
returns-then-is_full-clause-step g c =
    let k = c.args.cpu.now in
    let s = c.args.shared.now in
    full_step (layout_of c.args.layout.now) c.args.step (lent_shared s k) _
    (shared (cpu_of k) c.args.step c.requires.uses) refl c.requires.own c.answers.ensures.full
    (elim c.then-is_full.branch [
      | then-is_full-via-then-is_full w ↦ own_full (logs_in (lent_shared s k))
          (no_room c.is_full.result k.log.room c.is_full.ensures w.if-is_full.true)
      | then-is_full-via-else-is_full+then-is_full-2 w ↦ shared_full (logs_in (lent_shared s k))
          (no_room w.is_full-else-is_full.result s.log.room w.is_full-else-is_full.ensures w.if-is_full-2.true)
    ])

pub decide_shared-requires-clause-names : goal.decide_shared-requires-clause-names
decide_shared-requires-clause-names g c = (shared (cpu_of c.args.cpu.now) c.args.step c.requires.uses).shared

pub decide_shared-requires-clause-rely : goal.decide_shared-requires-clause-rely
decide_shared-requires-clause-rely g c =
    c.relies.ensures.relies (layout_of c.args.layout.now) c.args.cpu.now.id _ c.args.step _ c.requires.known
    (sym (shared (cpu_of c.args.cpu.now) c.args.step c.requires.uses).slot) c.requires.reached

pub change_shared-made-requires-clause-can : goal.change_shared-made-requires-clause-can
change_shared-made-requires-clause-can g c =
    let rely =
    c.relies.ensures.relies (layout_of c.args.layout.now) c.args.cpu.now.id _ c.args.step _ c.requires.known
    (sym (shared (cpu_of c.args.cpu.now) c.args.step c.requires.uses).slot) c.requires.reached in
    record {
      fit = rely.fit c.in-Ok.changes (sym c.in-Ok.ensures.decided);
      touched = rely.touched c.in-Ok.changes (sym c.in-Ok.ensures.decided);
      suits = c.requires.suits;
    }

pub returns-clause-step : goal.returns-clause-step
returns-clause-step g c =
    let l = layout_of c.args.layout.now in
    let k = c.args.cpu.now in
    let s = c.args.shared.now in
    let x = lent_shared s k in
    let is = shared (cpu_of k) c.args.step c.requires.uses in
    let room =
    none_full (logs_in x) (has_room c.is_full.result k.log.room c.is_full.ensures c.if-is_full.false) refl
    (has_room c.is_full-else-is_full.result s.log.room c.is_full-else-is_full.ensures
    c.if-is_full-2.false) refl in
    let rely =
    c.relies.ensures.relies l c.args.cpu.now.id None c.args.step (used_in x) c.requires.known
    (sym is.slot) c.requires.reached in
    elim c.match-decide_shared.branch [
      | in-Ok w ↦
          let h = w.in-Ok.changes in
          let lets = sym w.in-Ok.ensures.decided in
          let only = c.change_laws.ensures.used l c.args.cpu.now.id None c.args.step (used_in x) h lets in
          done_step l c.args.step x None is refl c.requires.own c.answers.ensures.steps room c.len.result
          c.len.ensures.value c.match-decide_shared.reply _
          (same_logs _ _ _ _ _ _ _ _ refl
          (ap Some
          (eq_with _ s.log c.match-decide_shared.shared.log c.store.new.self
          (ap (λ p. p.log) w.shared-is ∙ w.change_shared-made.ensures.shared.log) c.store.ensures.calls
          c.store.ensures.room)) refl
          (eq_with _ k.log c.match-decide_shared.cpu.log c.store-2.new.self
          (ap (λ p. p.log) w.cpu-is ∙ w.ended-reply.ensures.log) c.store-2.ensures.calls
          c.store-2.ensures.room))
          (ap (λ (j : CpuState). j.id) w.cpu-is ∙ w.ended-reply.ensures.id) c.relies.ensures.answers rely h lets
          w.in-Ok.ensures.grows w.change_shared-made.result
          (comes_shared l c.args.cpu.now.id None h s _ k _ w.change_shared-made.result (only.vms is.vms)
          (leaves_guest (names c.args.step) None h only refl)
          (ok_at w.change_shared-made.result shared_of _ w.shared-is w.change_shared-made.ensures.shared.made)
          (err_at w.change_shared-made.result shared_of _ w.shared-is
          w.change_shared-made.ensures.shared.err) w.change_shared-made.ensures.no_pool
          w.change_shared-made.ensures.no_memory)
          (ends_at w.change_shared-made.result h (cpu_of k) w.reply-is w.cpu-is w.ended-reply.ensures.ends)
      | in-Err w ↦ barred_step l c.args.step x None is refl c.requires.own c.answers.ensures.steps room c.len.result
          c.len.ensures.value c.match-decide_shared.reply _
          (same_logs _ _ _ _ _ _ _ _ refl
          (ap Some
          (eq_with _ s.log c.match-decide_shared.shared.log c.store.new.self
          (ap (λ p. p.log) w.shared-is) c.store.ensures.calls c.store.ensures.room)) refl
          (eq_with _ k.log c.match-decide_shared.cpu.log c.store-2.new.self
          (ap (λ p. p.log) w.cpu-is) c.store-2.ensures.calls c.store-2.ensures.room))
          (ap (λ (j : CpuState). j.id) w.cpu-is) c.answers.ensures.barred w.in-Err.why
          (sym w.in-Err.ensures.decided) w.reply-is
          (ap (λ z. used_in (lent_shared z c.match-decide_shared.cpu)) w.shared-is
          ∙ ap (λ z. used_in (lent_shared s z)) w.cpu-is)
    ]
