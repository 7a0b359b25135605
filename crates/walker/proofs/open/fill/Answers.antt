use Rattle.std.proofs.Common.{◌≡◌, ◌≢◌, ◌+◌, ◌*◌, ◌<◌, ◌≤◌, sym, ap, arith, ◌∙◌, refl}
use Rattle.table_tree.specs.declared.table.Slot.TheVariants.{Word}
use Rattle.table_tree.specs.Ahead.{gives}
use Rattle.table_tree.specs.Meaning.{index_at}
use Rattle.table_tree.specs.Shape.{IsEntryWord}
use Rattle.page_state.specs.Counts.{is_one}
use Rattle.page_state.specs.Entries.{advance}
use Rattle.page_state.specs.Geometries.{block_pages}
use Rattle.table_tree.proofs.Ahead.{goes_said}
use Rattle.table_tree.proofs.Slots.{set_others, set_wide}
use Rattle.walker.proofs.Writes.{written_map, written_parts}
use Rattle.walker.proofs.open.fill.Goals as goal

pub loop-i-init : goal.loop-i-init
loop-i-init g c = record {
  frame = refl;
  wide = c.requires.wide;
  shape = c.requires.tree.shape c.args.depth;
  tight = c.requires.tree.tight c.args.depth;
  uses = c.requires.tree.uses c.args.depth;
  tables = c.requires.tree.tables c.args.depth;
  standing = λ low q l. c.requires.tree.standing c.args.depth low q l;
  map = λ q l. absurd (omega arith);
  parts = λ k l. absurd (omega arith);
  rest = λ k l p. c.requires.blank k p;
}

pub put-requires-clause-wide : goal.put-requires-clause-wide
put-requires-clause-wide g c = c.loop-i.invariant.wide

pub put-requires-clause-holds : goal.put-requires-clause-holds
put-requires-clause-holds g c = (0, c.loop-i.invariant.rest c.loop-i.i (omega arith) c.loop-i-test.true)

pub loop-i-preserved : goal.loop-i-preserved
loop-i-preserved g c =
    let h = c.loop-i.invariant in
    let t = c.put.ensures.tree in
    let d = c.args.depth in
    let slots = c.put.ensures.slots in
    let first = c.word_of-first.result in
    let step = c.step_of-step.result in
    let word = first + c.loop-i.i * step in
    let pages = c.loop-i.i * block_pages d in
    let said : IsEntryWord d word =
    goes_said d first c.loop-i.i step c.args.entry c.word_of-first.ensures.entry c.word_of-first.ensures.value
    c.step_of-step.ensures c.loop-i-test.true in
    let value : gives d word ≡ advance c.args.entry pages =
    c.step_of-step.ensures.ahead first c.loop-i.i c.word_of-first.ensures.entry.0 c.word_of-first.ensures.value
    c.loop-i-test.true in
    record {
      frame = c.put.ensures.frame ∙ h.frame;
      wide =
          set_wide c.loop-i.table c.put.new.self c.loop-i.i
          (Word (c.word_of-first.result + c.loop-i.i * c.step_of-step.result)) slots h.wide;
      shape = t.shape d h.shape said;
      tight = t.tight d h.tight;
      uses = λ f. t.uses d f ∙ h.uses f ∙ ap (λ n. is_one n f) (sym c.put.ensures.frame);
      tables = t.tables d ∙ h.tables;
      standing = λ low q l. t.standing d low q ∙ h.standing low q l;
      map =
          written_map d c.loop-i.i word pages c.args.entry
          (advance c.args.entry pages) c.loop-i.table c.put.new.self t value refl refl h.map;
      parts =
          written_parts d c.loop-i.i word pages c.args.entry
          (advance c.args.entry pages) c.loop-i.table c.put.new.self h.wide c.loop-i-test.true slots said value
          refl refl h.parts;
      rest = λ k l p. let ne : k ≢ c.loop-i.i = omega arith in
          set_others c.loop-i.table c.put.new.self c.loop-i.i k
          (Word (c.word_of-first.result + c.loop-i.i * c.step_of-step.result)) slots ne
          ∙ h.rest k (omega arith) p;
    }

pub returns-clause-frame : goal.returns-clause-frame
returns-clause-frame g c = c.loop-i.invariant.frame

pub returns-clause-filled : goal.returns-clause-filled
returns-clause-filled g c =
    let h = c.loop-i.invariant in
    let e : 512 ≤ c.loop-i.i = omega (arith, c.loop-i-test.false) in
    record {
      shape = h.shape;
      tight = h.tight;
      map = λ q. h.map q (let l : index_at c.args.depth q < 512 = omega arith in omega arith);
      uses = h.uses;
      tables = h.tables;
      standing = h.standing;
      parts = λ k l. h.parts k (omega arith);
    }
