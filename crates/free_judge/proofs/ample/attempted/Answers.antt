use Rattle.std.proofs.Common.{◌≡◌, ℕ, List, sym, subst, ◌∙◌}
use Rattle.std.specs.Prelude.{true, false}
use Rattle.call_table.proofs.Equality.{replies_tell}
use Rattle.call_table.specs.declared.reply.Refusal.TheVariants.{NoPool}
use Rattle.call_table.specs.declared.reply.Reply.TheVariants.{Refused}
use Rattle.call_table.specs.declared.step.Step.{Step}
use Rattle.page_state.proofs.Accepted.{memory_below}
use Rattle.page_state.specs.declared.layout.Layout.{Layout as TheLayout}
use Rattle.page_state.specs.LayoutFaults.{IsAccepted}
use Rattle.page_state.specs.Layouts.{is_memory}
use Rattle.page_state.specs.LayoutView.{layout_of}
use Rattle.reference_model.specs.model.Owner.{is_free}
use Rattle.reference_model.specs.model.Rules.{names, guest_slot}
use Rattle.reference_model.specs.model.State.{Contents}
use Rattle.ghost_spec.specs.declared.lists.GhostLists.{GhostLists}
use Rattle.ghost_spec.specs.Kept.{HasNextGeneration, IsLowSlot}
use Rattle.ghost_spec.specs.States.{contents_in, ghost_state, IsKept}
use Rattle.free_judge.specs.Asked.{AreOutside}
use Rattle.free_judge.proofs.Amply.{told-at, few-at}
use Rattle.free_judge.proofs.Fills.{none-outside}
use Rattle.free_judge.proofs.Rooms.{has-room, low-cpu, low-slot}
use Rattle.free_judge.proofs.ample.attempted.Goals as goal

pub predict_last-requires-clause-generation : goal.predict_last-requires-clause-generation
predict_last-requires-clause-generation c =
    subst (λ (s : Contents). HasNextGeneration (s.cpu c.args.cpu).ticket c.args.step)
    (sym c.in_ok-before.ensures.contents) c.requires.generation

low : (g : GhostLists) (cpu : ℕ) (step : Step) → IsKept g → IsLowSlot (guest_slot ((contents_in g).cpu cpu) step)
low g cpu step kept =
    let k = low-cpu g.cpus.items cpu kept.cpus in
    low-slot ((contents_in g).cpu cpu) k.0 k.1 step

outside : (l : TheLayout) (fs : List ℕ)
    → AreOutside fs
    → IsAccepted l.map
    → (f : ℕ)
    → is_memory (layout_of l) f ≡ true
    → is_free fs f ≡ false
outside l fs h accepted f m = none-outside fs f h (memory_below l.map f accepted m)

pub returns-then-eq-clause-short : goal.returns-then-eq-clause-short
returns-then-eq-clause-short c e =
    let g = c.args.state.now in
    let b = c.in_ok-before.before in
    let accepted : IsAccepted g.layout.map = rw c.lists.ensures.value at c.regions.ensures.accepted in
    let less = low g c.args.cpu c.args.step c.lists.ensures.kept in
    let slot = guest_slot ((contents_in g).cpu c.args.cpu) c.args.step in
    few-at (layout_of g.layout) (layout_of b.layout) c.args.frames.now
    (outside g.layout c.args.frames.now c.requires.frames accepted) (contents_in g) c.args.cpu c.args.step less
    (ghost_state b) c.in_ok-before.ensures.layout c.in_ok-before.ensures.contents
    (has-room (names c.args.step) slot c.args.cpu g.layout.config.cpus
    (ghost_state b).rooms c.requires.cpu less c.in_ok-before.ensures.rooms)
    c.in_ok-reply.reply (ghost_state c.in_ok-reply.after) c.in_ok-reply.ensures.predicted
    ((replies_tell c.in_ok-reply.reply (Refused NoPool)).0 (sym c.eq.ensures ∙ c.if-eq.true))

pub returns-clause-told : goal.returns-clause-told
returns-clause-told c =
    let g = c.args.state.now in
    let b = c.in_ok-before.before in
    let accepted : IsAccepted g.layout.map = rw c.lists.ensures.value at c.regions.ensures.accepted in
    let less = low g c.args.cpu c.args.step c.lists.ensures.kept in
    let slot = guest_slot ((contents_in g).cpu c.args.cpu) c.args.step in
    told-at (layout_of g.layout) (layout_of b.layout) c.args.frames.now
    (outside g.layout c.args.frames.now c.requires.frames accepted) (contents_in g) c.args.cpu c.args.step less
    (ghost_state b) c.in_ok-before.ensures.layout c.in_ok-before.ensures.contents
    (has-room (names c.args.step) slot c.args.cpu g.layout.config.cpus
    (ghost_state b).rooms c.requires.cpu less c.in_ok-before.ensures.rooms)
    c.in_ok-reply.reply (ghost_state c.in_ok-reply.after) c.in_ok-reply.ensures.predicted
    (λ h. let bad : true ≡ false =
    sym ((replies_tell c.in_ok-reply.reply (Refused NoPool)).1 h) ∙ sym c.eq.ensures ∙ c.if-eq.false in
    cc)
