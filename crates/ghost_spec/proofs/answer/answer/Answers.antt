use Rattle.std.proofs.Common.{◌≡◌, true, false, Ok, Err, length, sym, ◌∙◌}
use Rattle.page_state.specs.LayoutView.{layout_of}
use Rattle.reference_model.specs.model.Decides.{decides}
use Rattle.reference_model.specs.model.Step.{is_short}
use Rattle.ghost_spec.specs.Used.{used_in}
use Rattle.ghost_spec.proofs.Answered.{barred, lacking, done, fits}
use Rattle.ghost_spec.proofs.answer.answer.Goals as goal

pub returns-in-Err-clause-answer : goal.returns-in-Err-clause-answer
returns-in-Err-clause-answer c =
    let e : decides (layout_of c.args.layout.now) c.args.cpu c.args.slot c.args.step (used_in c.args.used.now) ≡ Err c.in-Err.why =
    sym c.decide.ensures.decided ∙ c.in-Err.is in
    sym
    (barred (layout_of c.args.layout.now) c.args.cpu c.args.slot c.args.step
    (used_in c.args.used.now) c.in-Err.why e)

pub returns-then-branch-clause-answer : goal.returns-then-branch-clause-answer
returns-then-branch-clause-answer c =
    let e : decides (layout_of c.args.layout.now) c.args.cpu c.args.slot c.args.step (used_in c.args.used.now) ≡ Ok c.in-Ok.changes =
    sym c.decide.ensures.decided ∙ c.in-Ok.is in
    let short : is_short (layout_of c.args.layout.now).depth c.in-Ok.changes (used_in c.args.used.now) ≡ true =
    sym (rw c.depth.ensures.value at c.in_ok-is_short.ensures) ∙ c.if-branch.true in
    sym
    (lacking (layout_of c.args.layout.now) c.args.cpu c.args.slot c.args.step
    (used_in c.args.used.now) c.in-Ok.changes e short)

pub make-requires-clause-slots : goal.make-requires-clause-slots
make-requires-clause-slots c =
    let e : decides (layout_of c.args.layout.now) c.args.cpu c.args.slot c.args.step (used_in c.args.used.now) ≡ Ok c.in-Ok.changes =
    sym c.decide.ensures.decided ∙ c.in-Ok.is in
    let small = rw c.in-Ok.is at c.decide.ensures.small in
    fits (layout_of c.args.layout.now) c.args.cpu c.args.slot c.args.step (used_in c.args.used.now) c.in-Ok.changes e
    (length c.args.used.now.vms.items) small.slots c.requires.vms

pub returns-clause-answer : goal.returns-clause-answer
returns-clause-answer c =
    let e : decides (layout_of c.args.layout.now) c.args.cpu c.args.slot c.args.step (used_in c.args.used.now) ≡ Ok c.in-Ok.changes =
    sym c.decide.ensures.decided ∙ c.in-Ok.is in
    let enough : is_short (layout_of c.args.layout.now).depth c.in-Ok.changes (used_in c.args.used.now) ≡ false =
    sym (rw c.depth.ensures.value at c.in_ok-is_short.ensures) ∙ c.if-branch.false in
    rw c.in_ok-make.ensures.used
    (sym
    (done (layout_of c.args.layout.now) c.args.cpu c.args.slot c.args.step
    (used_in c.args.used.now) c.in-Ok.changes e c.requires.cpu c.requires.slot enough))
