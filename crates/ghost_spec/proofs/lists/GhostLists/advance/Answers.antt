use Rattle.std.proofs.Common.{◌≡◌, ◌<◌, length, map, get_or, refl, sym, ap, subst, ◌∙◌}
use Rattle.std.proofs.lemmas.List.{get_or-map}
use Rattle.std.proofs.lemmas.Result.{IfOk-from_err, IfOk-at_ok}
use Rattle.call_table.specs.declared.reply.Reply.{Reply}
use Rattle.call_table.specs.declared.step.Step.{Step}
use Rattle.page_state.specs.LayoutView.{layout_of}
use Rattle.page_state.proofs.Common.{same2}
use Rattle.reference_model.specs.model.Rules.{names, guest_slot}
use Rattle.reference_model.specs.model.State.{Cpu, Contents, Rooms, Reference, no_cpu}
use Rattle.reference_model.specs.model.Step.{answer, predict_step, stored}
use Rattle.reference_model.specs.model.Used.{Used, put_rooms, rooms_of, used_of}
use Rattle.ghost_spec.specs.declared.lists.GhostLists.{GhostLists}
use Rattle.ghost_spec.specs.declared.step_uses.StepUses.{StepUses}
use Rattle.ghost_spec.specs.States.{contents_in, ghost_state, rooms_in}
use Rattle.ghost_spec.specs.Kept.{HasNextGeneration}
use Rattle.ghost_spec.specs.Used.{used_in}
use Rattle.ghost_spec.specs.Views.{cpu_in}
use Rattle.ghost_spec.proofs.Predictions.{predicted-full, predicted-answer}
use Rattle.ghost_spec.proofs.lists.GhostLists.advance.Goals as goal

state-with : Contents → Rooms → Reference
state-with s r = record { contents = s; rooms = r }

pair : Reply → Reference → Reply × Reference
pair a b = (a, b)

pub returns-then-is_full-clause-predicted : goal.returns-then-is_full-clause-predicted
returns-then-is_full-clause-predicted c =
    let g : GhostLists = c.args.self.now in
    let less : c.args.cpu < length g.cpus.items = rw c.requires.kept.cpus_count c.requires.cpu in
    let own : get_or (map cpu_in g.cpus.items) c.args.cpu no_cpu ≡ cpu_in c.index.result.now =
    get_or-map cpu_in g.cpus.items c.args.cpu c.index.result.now no_cpu less ∙ ap cpu_in (sym c.index.ensures) in
    let u : StepUses = c.uses-uses.result in
    let named : u.slot ≡ guest_slot ((ghost_state g).contents.cpu c.args.cpu) u.step =
    c.uses-uses.ensures.slot ∙ ap (λ (k : Cpu). guest_slot k u.step) (sym own) in
    sym
    (predicted-full (layout_of g.layout) (ghost_state g) c.args.cpu u.step u.slot named
    (sym c.is_full.ensures ∙ c.if-is_full.true))
    ∙ ap (predict_step (layout_of g.layout) (ghost_state g) c.args.cpu) c.uses-uses.ensures.asked

pub returns-clause-predicted : goal.returns-clause-predicted
unfolding state-with pair
returns-clause-predicted c =
    let g : GhostLists = c.args.self.now in
    let u : StepUses = c.uses-uses.result in
    let less : c.args.cpu < length g.cpus.items = rw c.requires.kept.cpus_count c.requires.cpu in
    let own : get_or (map cpu_in g.cpus.items) c.args.cpu no_cpu ≡ cpu_in c.index.result.now =
    get_or-map cpu_in g.cpus.items c.args.cpu c.index.result.now no_cpu less ∙ ap cpu_in (sym c.index.ensures) in
    let named : u.slot ≡ guest_slot ((ghost_state g).contents.cpu c.args.cpu) u.step =
    c.uses-uses.ensures.slot ∙ ap (λ (k : Cpu). guest_slot k u.step) (sym own) in
    let said =
    ap (answer (layout_of g.layout) c.args.cpu u.slot u.step) (sym c.in_ok-used.ensures.taken.used)
    ∙ ap (λ (l : _). answer l c.args.cpu u.slot u.step (used_in c.in_ok-used.used))
    (ap layout_of (sym c.take.ensures.layout))
    ∙ sym (IfOk-at_ok _ c.in-Ok.is c.answer.ensures.answer) in
    let contents = c.store.ensures.contents ∙ c.put_back.ensures.contents ∙ c.in_ok-used.ensures.others _ in
    let before : (ghost_state c.put_back.new.self).rooms ≡ (ghost_state g).rooms =
    same2 rooms_in (ap (λ l. l.config.log) (c.put_back.ensures.layout ∙ c.take.ensures.layout))
    (c.put_back.ensures.rooms ∙ c.take.ensures.rooms) in
    let rooms =
    c.store.ensures.rooms
    ∙ ap
    (λ (r : Rooms). put_rooms (names u.step) u.slot c.args.cpu r
    (stored (rooms_of (names u.step) u.slot c.args.cpu r))) before in
    ap (pair c.in-Ok.reply) (same2 state-with contents rooms)
    ∙ sym
    (predicted-answer (layout_of g.layout) (ghost_state g) c.args.cpu u.step u.slot named c.in-Ok.reply
    (used_in c.answer.new.used) (sym c.is_full.ensures ∙ c.if-is_full.false) said)
    ∙ ap (predict_step (layout_of g.layout) (ghost_state g) c.args.cpu) c.uses-uses.ensures.asked

pub returns-in_err-used-clause-predicted : goal.returns-in_err-used-clause-predicted
returns-in_err-used-clause-predicted c = IfOk-from_err _ _ c.from_residual.ensures.0

pub returns-in_err-used-clause-kept : goal.returns-in_err-used-clause-kept
returns-in_err-used-clause-kept c = IfOk-from_err _ _ c.from_residual.ensures.0

pub returns-in_err-used-clause-layout : goal.returns-in_err-used-clause-layout
returns-in_err-used-clause-layout c = c.take.ensures.layout

pub returns-then-is_full-clause-layout : goal.returns-then-is_full-clause-layout
returns-then-is_full-clause-layout c = refl

pub returns-then-is_full-clause-kept : goal.returns-then-is_full-clause-kept
returns-then-is_full-clause-kept c = c.requires.kept

pub returns-clause-layout : goal.returns-clause-layout
returns-clause-layout c = c.store.ensures.layout ∙ c.put_back.ensures.layout ∙ c.take.ensures.layout

pub returns-clause-kept : goal.returns-clause-kept
returns-clause-kept c = c.store.ensures.kept

pub is_full-requires-clause-cpu : goal.is_full-requires-clause-cpu
is_full-requires-clause-cpu c = rw c.requires.kept.cpu_rooms_count c.requires.cpu

pub is_full-requires-clause-guests : goal.is_full-requires-clause-guests
is_full-requires-clause-guests c = c.requires.kept.guest_rooms_count

pub is_full-requires-clause-uses : goal.is_full-requires-clause-uses
is_full-requires-clause-uses c = c.uses-uses.ensures.used

pub take-requires-clause-cpu : goal.take-requires-clause-cpu
take-requires-clause-cpu c = rw c.requires.kept.cpus_count c.requires.cpu

pub take-requires-clause-kept : goal.take-requires-clause-kept
take-requires-clause-kept c = c.requires.kept

pub take-requires-clause-uses : goal.take-requires-clause-uses
take-requires-clause-uses c = c.uses-uses.ensures.used

pub answer-requires-clause-cpu : goal.answer-requires-clause-cpu
answer-requires-clause-cpu c = rw c.take.ensures.layout c.requires.cpu

pub answer-requires-clause-kept : goal.answer-requires-clause-kept
answer-requires-clause-kept c = c.in_ok-used.ensures.taken.kept

pub answer-requires-clause-slot : goal.answer-requires-clause-slot
answer-requires-clause-slot c = c.uses-uses.ensures.used.low

pub put_back-requires-clause-uses : goal.put_back-requires-clause-uses
put_back-requires-clause-uses c = c.uses-uses.ensures.used

pub store-requires-clause-kept : goal.store-requires-clause-kept
store-requires-clause-kept c = c.put_back.ensures.kept

pub store-requires-clause-uses : goal.store-requires-clause-uses
store-requires-clause-uses c = c.uses-uses.ensures.used

pub answer-requires-clause-generation : goal.answer-requires-clause-generation
unfolding used_of
answer-requires-clause-generation c =
    subst (λ (x : Used). HasNextGeneration x.cpu.ticket c.uses-uses.result.step)
    (sym c.in_ok-used.ensures.taken.used)
    (subst (λ (s : Step). HasNextGeneration ((contents_in c.args.self.now).cpu c.args.cpu).ticket s)
    (sym c.uses-uses.ensures.asked) c.requires.generation)

pub answer-requires-clause-vms : goal.answer-requires-clause-vms
answer-requires-clause-vms c = c.in_ok-used.ensures.taken.count

pub returns-in_default-clause-predicted : goal.returns-in_default-clause-predicted
returns-in_default-clause-predicted c = tt

pub returns-in_default-clause-kept : goal.returns-in_default-clause-kept
returns-in_default-clause-kept c = tt

pub returns-in_default-clause-layout : goal.returns-in_default-clause-layout
returns-in_default-clause-layout c = c.take.ensures.layout

pub put_back-requires-clause-cpu : goal.put_back-requires-clause-cpu
put_back-requires-clause-cpu c = rw (c.in_ok-used.ensures.left.cpus_count, c.take.ensures.layout) c.requires.cpu

pub put_back-requires-clause-kept : goal.put_back-requires-clause-kept
put_back-requires-clause-kept c = c.in_ok-used.ensures.left

pub put_back-requires-clause-used : goal.put_back-requires-clause-used
put_back-requires-clause-used c = IfOk-at_ok _ c.in-Ok.is c.answer.ensures.kept

pub put_back-requires-clause-count : goal.put_back-requires-clause-count
put_back-requires-clause-count c t = IfOk-at_ok _ c.in-Ok.is c.answer.ensures.count ∙ c.in_ok-used.ensures.taken.count t

pub store-requires-clause-cpu : goal.store-requires-clause-cpu
store-requires-clause-cpu c =
    rw (c.put_back.ensures.kept.cpu_rooms_count, c.put_back.ensures.layout, c.take.ensures.layout) c.requires.cpu
