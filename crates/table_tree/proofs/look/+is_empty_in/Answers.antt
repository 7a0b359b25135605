use Rattle.std.proofs.Common.{◌≤◌, ◌-◌, sym, arith, refl, subst, false, true, ◌≡◌}
use Rattle.table_tree.specs.Shape.{IsShaped}
use Rattle.table_tree.specs.Bare.{IsBare}
use Rattle.table_tree.proofs.Slots.{shaped_wide, shaped_slot, slot_child_is}
use Rattle.table_tree.proofs.Bare.{bare_word, bare_table, bare_child, child_tight}
use Rattle.table_tree.proofs.look.+is_empty_in.Goals as goal

pub read-requires-clause-wide : goal.read-requires-clause-wide
read-requires-clause-wide g t c = shaped_wide c.args.top c.args.table.now c.requires.shape

below : (g : _) (t : _) (c : goal.After-deref g t) → (1 ≤ c.args.top) × IsShaped (c.args.top - 1) c.in-Child.child.value
below g t c =
    slot_child_is c.args.top c.in-Child.child c.read.result.now
    (rw (sym c.read.ensures) at
    (shaped_slot c.args.top c.args.table.now c.index_of.result c.requires.shape
    c.index_of.ensures.within)) c.in-Child.is

pub overflow_sub-top : goal.overflow_sub-top
overflow_sub-top g t c = (below g t c).0

pub returns-in-Word : goal.returns-in-Word
returns-in-Word g t c =
    bare_word c.args.top c.args.depth c.args.page c.index_of.result c.in-Word.word c.args.table.now c.read.result.now _
    c.requires.within c.index_of.ensures.value c.read.ensures c.in-Word.is refl

pub returns-then-top-depth : goal.returns-then-top-depth
returns-then-top-depth g t c =
    let k =
    (slot_child_is c.args.top c.in-Child.child c.read.result.now
    (rw (sym c.read.ensures) at
    (shaped_slot c.args.top c.args.table.now c.index_of.result c.requires.shape
    c.index_of.ensures.within)) c.in-Child.is).0 in
    let e : c.args.top ≡ c.args.depth = c.if-top-depth.true in
    let full =
    bare_table c.args.top c.args.page c.index_of.result c.args.table.now c.in-Child.child c.read.result.now k
    c.requires.shape c.requires.tight c.index_of.ensures.value c.read.ensures c.in-Child.is in (
      λ h. let no_test : false ≡ true = h in
          absurd (cc),
      λ h. absurd (full (subst (λ d. IsBare c.args.top c.args.table.now d c.args.page) (sym e) h)),
    )

pub is_empty_in-requires : goal.is_empty_in-requires
is_empty_in-requires g t c κs within =
    let h = below g t c in
    let le : 1 ≤ c.args.top = h.0 in
    let tight =
    child_tight c.args.top c.index_of.result c.args.table.now c.in-Child.child c.read.result.now h.0
    c.requires.tight c.index_of.ensures.within c.read.ensures c.in-Child.is in (
      omega (arith, c.decreases),
      (
        within,
        (
          omega (arith, c.requires.depth_in),
          (
            omega (arith, c.requires.within, c.if-top-depth.false),
            (rw c.deref.ensures h.1, rw c.deref.ensures tight),
          ),
        ),
      ),
    )

pub returns-else-top-depth : goal.returns-else-top-depth
returns-else-top-depth g t c =
    bare_child c.args.top c.args.depth c.args.page c.index_of.result c.args.table.now c.in-Child.child
    c.read.result.now c.is_empty_in.result
    (omega (arith, c.requires.within, c.if-top-depth.false)) c.index_of.ensures.value c.read.ensures c.in-Child.is
    (rw c.deref.ensures at c.is_empty_in.ensures)
