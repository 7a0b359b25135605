use Rattle.std.proofs.Common.{◌≡◌, ap, sym, ◌∙◌, subst}
use Rattle.page_state.specs.Layouts.{Layout}
use Rattle.page_state.specs.LayoutView.{layout_of}
use Rattle.reference_model.specs.model.State.{Contents}
use Rattle.freedoms.specs.Freedoms.{view}
use Rattle.ghost_spec.specs.declared.lists.GhostLists.{GhostLists}
use Rattle.ghost_spec.specs.States.{contents_in}
use Rattle.free_judge.specs.PoolByRows.{asked_slot, IsAskedOf}
use Rattle.free_judge.proofs.Ready.{asked-cpu, ready-read, ready-seen}
use Rattle.free_judge.proofs.judge.ready.Goals as goal

pub returns-then-is_read-clause-ready : goal.returns-then-is_read-clause-ready
returns-then-is_read-clause-ready c =
    ready-read c.args.freedoms (layout_of c.args.pre.now.layout) (contents_in c.args.pre.now) c.args.cpu c.args.step
    c.args.reply (contents_in c.in_ok-bare.bare) (sym c.is_read.ensures ∙ c.if-is_read.true)
    c.in_ok-bare.ensures.contents

pub returns-then-is_read-clause-cpu : goal.returns-then-is_read-clause-cpu
returns-then-is_read-clause-cpu c = ap (λ (s : Contents). s.cpu) c.in_ok-bare.ensures.contents

pub returns-clause-ready : goal.returns-clause-ready
returns-clause-ready c =
    let w = c.args.freedoms in
    let l = layout_of c.args.pre.now.layout in
    let s = contents_in c.args.pre.now in
    let g = contents_in c.in_ok-asked.asked in
    let seen : contents_in c.in_ok-seen.seen ≡ view w l s =
    c.in_ok-seen.ensures.contents ∙ ap (λ (g : GhostLists). view w (layout_of g.layout) s) c.lists.ensures.value in
    let asked =
    subst
    (λ (m : Layout). IsAskedOf w m (contents_in c.in_ok-seen.seen)
    (asked_slot ((contents_in c.in_ok-seen.seen).cpu c.args.cpu) c.args.step) c.args.step c.args.reply g)
    c.in_ok-seen.ensures.layout c.in_ok-asked.ensures.asked in
    ready-seen w l s c.args.cpu c.args.step c.args.reply g (sym c.is_read.ensures ∙ c.if-is_read.false)
    (subst
    (λ (x : Contents). IsAskedOf w l x (asked_slot (x.cpu c.args.cpu) c.args.step) c.args.step c.args.reply g) seen
    asked)

pub returns-clause-cpu : goal.returns-clause-cpu
returns-clause-cpu c =
    asked-cpu c.args.freedoms (layout_of c.in_ok-seen.seen.layout) (contents_in c.in_ok-seen.seen)
    (asked_slot ((contents_in c.in_ok-seen.seen).cpu c.args.cpu) c.args.step) c.args.step c.args.reply
    (contents_in c.in_ok-asked.asked) c.in_ok-asked.ensures.asked
    ∙ ap (λ (s : Contents). s.cpu) c.in_ok-seen.ensures.contents
