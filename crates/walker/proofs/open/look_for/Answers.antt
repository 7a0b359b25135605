use Rattle.std.proofs.Common.{◌≡◌, Some, sym, arith, ◌∙◌}
use Rattle.std.specs.declared.boxed.Box.{Box}
use Rattle.table_tree.specs.declared.table.Table.{Table}
use Rattle.table_tree.specs.declared.table.Slot.{Slot}
use Rattle.table_tree.specs.declared.table.Slot.TheVariants.{Word, Child}
use Rattle.table_tree.specs.Meaning.{slot_at}
use Rattle.table_tree.specs.Shape.{HoldsWord}
use Rattle.table_tree.proofs.Slots.{shaped_wide}
use Rattle.table_tree.proofs.Sums.{fresh_child, fresh_word}
use Rattle.walker.proofs.Opened.{some_rewritten, opening_word, opening_child}
use Rattle.walker.proofs.open.look_for.Goals as goal

no_word : {A : Type 0} (b : Box (Table A) A) (s : Slot A) → s ≡ Child b → HoldsWord s → ⊥
no_word b s e holds = omega (arith, fresh_child b s e, fresh_word holds.0 s holds.1)

pub slot-requires-clause-wide : goal.slot-requires-clause-wide
slot-requires-clause-wide g c = shaped_wide c.args.depth c.args.table.now c.requires.shape

pub returns-in-Some-clause-found : goal.returns-in-Some-clause-found
returns-in-Some-clause-found g c =
    some_rewritten (Some c.in-Some.after) c.args.depth c.args.i c.in-Word.word c.args.table.now c.args.change
    (sym c.slot.ensures.value ∙ c.in-Word.is)
    (rw c.slot.ensures.value at c.slot.ensures.tree) c.in-Some.ensures.some c.in-Some.ensures.entry
    c.in-Some.ensures.map

pub returns-in-None-clause-found : goal.returns-in-None-clause-found
returns-in-None-clause-found g c =
    let e : slot_at c.args.table.now c.args.i ≡ Word c.in-Word.word = sym c.slot.ensures.value ∙ c.in-Word.is in (
      opening_word c.args.depth c.in-Word.word (slot_at c.args.table.now c.args.i) c.args.change e c.requires.change_in
          (sym c.in-None.ensures.some),
      record {
        word = (c.in-Word.word, e, c.entry_of.ensures.value);
        said =
            c.entry_of.ensures.said
            ((rw c.slot.ensures.value at c.slot.ensures.tree).word_shape c.in-Word.word c.args.depth e
            c.requires.shape);
        child = λ none. cc;
      },
    )

pub returns-in-Child-clause-found : goal.returns-in-Child-clause-found
returns-in-Child-clause-found g c = (
  opening_child c.args.depth c.args.i c.args.table.now c.in-Child.field-0
      (slot_at c.args.table.now c.args.i) c.args.change (sym c.slot.ensures.value ∙ c.in-Child.is)
      (rw c.slot.ensures.value at c.slot.ensures.tree) c.requires.shape,
  record {
    word = tt;
    said = tt;
    child =
        λ none holds. no_word c.in-Child.field-0 (slot_at c.args.table.now c.args.i)
        (sym c.slot.ensures.value ∙ c.in-Child.is) holds;
  },
)
