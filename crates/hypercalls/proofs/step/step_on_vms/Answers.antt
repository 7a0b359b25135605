use Rattle.std.proofs.Common.{◌∙◌, Ok, Some, None, refl, sym, ap}
use Rattle.page_state.specs.LayoutView.{layout_of}
use Rattle.part_types.specs.declared.parts.CpuState.{CpuState}
use Rattle.part_types.specs.Lent.{lent_vms, logs_in, used_in}
use Rattle.part_types.specs.View.{cpu_of, vm_slots}
use Rattle.reference_model.specs.model.Rules.{names}
use Rattle.hypercalls.proofs.Carried.{comes_vms, ends_at, leaves_guest, leaves_shared}
use Rattle.hypercalls.proofs.Stepping.{barred_step, done_step, eq_with, full_step, has_room, no_room, none_full, own_full, same_logs, vms_full}
use Rattle.hypercalls.proofs.Using.{vms}
use Rattle.hypercalls.proofs.step.step_on_vms.Goals.{in-Ok, in-Err, then-is_full-via-then-is_full, then-is_full-via-else-is_full+then-is_full-2}
use Rattle.hypercalls.proofs.step.step_on_vms.Goals as goal

pub returns-then-is_full-clause-step : goal.returns-then-is_full-clause-step
returns-then-is_full-clause-step c =
    let k = c.args.cpu.now in
    let v = c.args.vms.now in
    full_step (layout_of c.args.layout.now) c.args.step (lent_vms {A = Unit {0}} v k) _
    (vms (cpu_of k) c.args.step c.requires.uses) refl c.requires.own c.answers.ensures.full
    (elim c.then-is_full.branch [
      | then-is_full-via-then-is_full w ↦ own_full (logs_in (lent_vms {A = Unit {0}} v k))
          (no_room c.is_full.result k.log.room c.is_full.ensures w.if-is_full.true)
      | then-is_full-via-else-is_full+then-is_full-2 w ↦ vms_full (logs_in (lent_vms {A = Unit {0}} v k))
          (no_room w.is_full-else-is_full.result v.log.room w.is_full-else-is_full.ensures w.if-is_full-2.true)
    ])

pub decide_vms-requires : goal.decide_vms-requires
decide_vms-requires c = record { names = (vms (cpu_of c.args.cpu.now) c.args.step c.requires.uses).vms }

pub change-requires : goal.change-requires
change-requires c =
    ((c.relies.ensures.relies (layout_of c.args.layout.now) c.args.cpu.now.id _ c.args.step _ c.requires.known
    (sym (vms (cpu_of c.args.cpu.now) c.args.step c.requires.uses).slot) c.requires.reached).parts c.in-Ok.changes
    (sym (c.in-Ok.ensures.decided (layout_of c.args.layout.now)))).slot

pub returns-clause-step : goal.returns-clause-step
returns-clause-step c =
    let l = layout_of c.args.layout.now in
    let k = c.args.cpu.now in
    let v = c.args.vms.now in
    let x = lent_vms {A = Unit {0}} v k in
    let is = vms (cpu_of k) c.args.step c.requires.uses in
    let room =
    none_full (logs_in x) (has_room c.is_full.result k.log.room c.is_full.ensures c.if-is_full.false)
    (has_room c.is_full-else-is_full.result v.log.room c.is_full-else-is_full.ensures
    c.if-is_full-2.false) refl refl in
    let rely =
    c.relies.ensures.relies l c.args.cpu.now.id None c.args.step (used_in x) c.requires.known
    (sym is.slot) c.requires.reached in
    elim c.match-decide_vms.branch [
      | in-Ok w ↦
          let h = w.in-Ok.changes in
          let lets = sym (w.in-Ok.ensures.decided l) in
          let only = c.change_laws.ensures.used l c.args.cpu.now.id None c.args.step (used_in x) h lets in
          done_step l c.args.step x None is refl c.requires.own c.answers.ensures.steps room c.len.result
          c.len.ensures.value c.match-decide_vms.reply _
          (same_logs _ _ _ _ _ _ _ _
          (ap Some
          (eq_with _ v.log c.match-decide_vms.vms.log c.store.new.self
          (ap (λ p. p.log) w.vms-is) c.store.ensures.calls c.store.ensures.room)) refl refl
          (eq_with _ k.log c.match-decide_vms.cpu.log c.store-2.new.self
          (ap (λ p. p.log) w.cpu-is ∙ w.ended-reply.ensures.log) c.store-2.ensures.calls
          c.store-2.ensures.room))
          (ap (λ (j : CpuState). j.id) w.cpu-is ∙ w.ended-reply.ensures.id) c.relies.ensures.answers rely h lets
          w.in-Ok.ensures.grows
          (Ok tt)
          (comes_vms l c.args.cpu.now.id None h v _ k _ (leaves_shared (names c.args.step) None h only is.shared)
          (leaves_guest (names c.args.step) None h only refl) (ap vm_slots w.vms-is ∙ w.change.ensures))
          (ends_at (Ok tt) h (cpu_of k) w.reply-is w.cpu-is w.ended-reply.ensures.ends)
      | in-Err w ↦ barred_step l c.args.step x None is refl c.requires.own c.answers.ensures.steps room c.len.result
          c.len.ensures.value c.match-decide_vms.reply _
          (same_logs _ _ _ _ _ _ _ _
          (ap Some
          (eq_with _ v.log c.match-decide_vms.vms.log c.store.new.self
          (ap (λ p. p.log) w.vms-is) c.store.ensures.calls c.store.ensures.room)) refl refl
          (eq_with _ k.log c.match-decide_vms.cpu.log c.store-2.new.self
          (ap (λ p. p.log) w.cpu-is) c.store-2.ensures.calls c.store-2.ensures.room))
          (ap (λ (j : CpuState). j.id) w.cpu-is) c.answers.ensures.barred w.in-Err.why
          (sym (w.in-Err.ensures.decided l)) w.reply-is
          (ap (λ z. used_in (lent_vms {A = Unit {0}} z c.match-decide_vms.cpu)) w.vms-is
          ∙ ap (λ z. used_in (lent_vms {A = Unit {0}} v z)) w.cpu-is)
    ]
