use Rattle.std.proofs.Common.{◌≡◌, ◌+◌, suc, ◌∷◌, sym, ap, subst, arith, ◌∙◌, add-one, true}
use Rattle.descriptor.specs.Word.{desc_of}
use Rattle.page_state.specs.Blocks.{fits_word}
use Rattle.page_state.specs.Entries.{entry_of_word}
use Rattle.table_tree.specs.Meaning.{level_at, slot_at, frame_of}
use Rattle.table_tree.specs.Shape.{IsShaped}
use Rattle.table_tree.specs.Stocks.{frames_of}
use Rattle.table_tree.specs.Tight.{IsTight}
use Rattle.table_tree.proofs.Slots.{shaped_wide}
use Rattle.table_tree.proofs.Sums.{fresh_word}
use Rattle.walk_plan.proofs.Entries.{fits}
use Rattle.walker.specs.inner.Steps.{IsFirst, IsOpened}
use Rattle.walker.proofs.Opened.{popped_some, opened_word, opened_child}
use Rattle.walker.proofs.open.opened.Goals as goal

pub put-requires-clause-wide : goal.put-requires-clause-wide
put-requires-clause-wide g c = shaped_wide (c.args.depth + 1) c.args.table.now c.requires.shape

pub unwrap-child-requires : goal.unwrap-child-requires
unwrap-child-requires g c =
    let w =
    (subst
    (λ o. IsFirst (c.args.depth + 1) (slot_at c.args.table.now c.args.i) o) c.in-Some.is
    c.requires.first).word in
    popped_some c.pop.result (frames_of c.args.spare.now) _ c.pop.ensures.frames
    (omega (arith, c.requires.enough, fresh_word w.0 (slot_at c.args.table.now c.args.i) w.1))

pub detach-requires-clause-wide : goal.detach-requires-clause-wide
detach-requires-clause-wide g c = shaped_wide (c.args.depth + 1) c.args.table.now c.requires.shape

pub returns-in-Some : goal.returns-in-Some
returns-in-Some g c =
    let d = c.args.depth in
    let o : d + 1 ≡ suc d = add-one d in
    let w =
    (subst
    (λ o. IsFirst (c.args.depth + 1) (slot_at c.args.table.now c.args.i) o) c.in-Some.is
    c.requires.first).word in
    let t = c.args.table.now in
    let frame : frame_of c.fill.new.table ≡ frame_of c.unwrap-child.result.value =
    c.fill.ensures.frame ∙ ap (λ a. frame_of a) c.deref_mut.ensures.value in
    let frames = rw c.unwrap-child.ensures at c.pop.ensures.frames in
    subst
    (λ n. IsOpened n d c.args.i t c.put.new.self c.fill.new.table (frames_of c.args.spare.now)
    (frames_of c.pop.new.self))
    (sym o)
    (opened_word d c.args.i w.0 t c.put.new.self c.fill.new.table c.in-Some.entry (frames_of c.args.spare.now)
    (frames_of c.pop.new.self) w.1
    (subst (λ n. c.in-Some.entry ≡ entry_of_word (desc_of (level_at n) w.0)) o w.2) c.requires.seen
    c.put.ensures.tree
    c.put.ensures.slots c.put.ensures.frame (subst (λ n. IsShaped n t) o c.requires.shape)
    (subst (λ n. IsTight n t) o c.requires.tight)
    (frames ∙ ap (λ f. f ∷ frames_of c.pop.new.self) (sym frame)) c.fill.ensures.filled
    (let said =
    (subst
    (λ o. IsFirst (c.args.depth + 1) (slot_at c.args.table.now c.args.i) o) c.in-Some.is
    c.requires.first).said in
    subst (λ n. fits_word n c.in-Some.entry ≡ true) o ((fits (d + 1) c.requires.depth_in c.in-Some.entry).1 said)))

pub returns-in-None : goal.returns-in-None
returns-in-None g c =
    let d = c.args.depth in
    let o : d + 1 ≡ suc d = add-one d in
    let t = c.args.table.now in
    let found = rw c.unwrap.ensures at c.detach.ensures.found in
    let attached = rw c.unwrap.ensures at c.detach.ensures.tree in
    let slots = rw c.unwrap.ensures at c.detach.ensures.slots in
    subst
    (λ n. IsOpened n d c.args.i t c.detach.new.self c.unwrap.result.value (frames_of c.args.spare.now)
    (frames_of c.args.spare.now))
    (sym o)
    (opened_child d c.args.i t c.detach.new.self c.unwrap.result
    (frames_of c.args.spare.now) found attached c.detach.ensures.rest slots c.detach.ensures.frame
    (subst (λ n. IsShaped n t) o c.requires.shape) (subst (λ n. IsTight n t) o c.requires.tight))
