use Rattle.std.proofs.Common.{refl, sym}
use Rattle.page_state.specs.LayoutView.{layout_of}
use Rattle.part_types.specs.Lent.{lent_alone, logs_in}
use Rattle.part_types.specs.View.{cpu_of}
use Rattle.hypercalls.proofs.Stepping.{barred_step, eq_with, full_step, has_room, no_room, none_full, own_full, same_logs}
use Rattle.hypercalls.proofs.Using.{nothing}
use Rattle.hypercalls.proofs.step.step_alone.Goals as goal

pub returns-then-is_full-clause-step : goal.returns-then-is_full-clause-step
returns-then-is_full-clause-step c =
    let k = c.args.cpu.now in
    full_step (layout_of c.args.layout.now) c.args.step (lent_alone {A = Unit {0}} k) _
    (nothing (cpu_of k) c.args.step c.requires.uses) refl c.requires.own c.answers.ensures.full
    (own_full (logs_in (lent_alone {A = Unit {0}} k))
    (no_room c.is_full.result k.log.room c.is_full.ensures c.if-is_full.true))

pub returns-clause-step : goal.returns-clause-step
returns-clause-step c =
    let k = c.args.cpu.now in
    let l = layout_of c.args.layout.now in
    let is = nothing (cpu_of k) c.args.step c.requires.uses in
    let room =
    none_full (logs_in (lent_alone {A = Unit {0}} k))
    (has_room c.is_full.result k.log.room c.is_full.ensures c.if-is_full.false) refl refl refl in
    barred_step l c.args.step
    (lent_alone {A = Unit {0}} k) _ is refl c.requires.own c.answers.ensures.steps room c.len.result
    c.len.ensures.value _ _
    (same_logs _ _ _ _ _ _ _ _ refl refl refl
    (eq_with _ k.log k.log c.store.new.self refl c.store.ensures.calls c.store.ensures.room))
    refl c.answers.ensures.barred c.refusal_of_none.result
    (sym (c.refusal_of_none.ensures c.args.cpu.now.id (cpu_of k) is.slot)) refl refl
