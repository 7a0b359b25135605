use Rattle.std.proofs.Common.{◌≡◌, ◌≢◌, ℕ, ◌+◌, ◌-◌, ◌*◌, ◌<◌, ◌≤◌, sym, ap, subst, refl, arith, ◌∙◌, length, length-drop, drop}
use Rattle.table_tree.specs.Meaning.{IsDepth, index_at, slot_at, entry_at}
use Rattle.table_tree.specs.Reading.{count_of}
use Rattle.table_tree.specs.Shape.{IsShaped}
use Rattle.table_tree.specs.Tight.{IsTight}
use Rattle.table_tree.specs.Stocks.{frames_of}
use Rattle.table_tree.specs.declared.table.Slot.TheVariants.{Word}
use Rattle.table_tree.proofs.Slots.{shaped_wide, set_here, set_others, set_wide}
use Rattle.walk_plan.specs.Changes.{IsChange, part}
use Rattle.walk_plan.specs.inner.Needs.{met, sum_to, table_parts, slot_need}
use Rattle.walk_plan.specs.inner.Ranks.{gone_parts}
use Rattle.walk_plan.proofs.Ranges.{part_in, part_is, met_start, met_end, sum_mono, span}
use Rattle.walk_plan.proofs.Looks.{ends_start, ends_next, ends_end, whole_parts, whole_edges, child_reads, some_part}
use Rattle.walker.specs.inner.Walks.{IsTableChanged}
use Rattle.walker.specs.inner.Steps.{IsReady, IsOpening}
use Rattle.walker.proofs.Maps.{start_map, end_map, next_map}
use Rattle.walker.proofs.Slotted.{all_spare, slot_shape, slot_tight, slot_map, slot_other, slot_stand, slot_kept, slot_uses, slot_freed, slot_tables}
use Rattle.walker.proofs.Walked.{need_next, gone_next, kept_start, kept_next, kept_end, spare_next, taken_next}
use Rattle.walker.proofs.Writes.{written_other, word_map, word_kept, word_uses}
use Rattle.walker.proofs.walk.+walk.Goals as goal
use Rattle.walker.proofs.walk.+walk.Goals.{set_slot-After-set_all}

less_more : (n : ℕ) → 1 ≤ n → n - 1 + 1 ≡ n
less_more n h = omega arith

-- a table has a level below it where a child is opened
one_less : (g : _) (t : _) (c : set_slot-After-set_all g t) → c.args.depth - 1 + 1 ≡ c.args.depth
one_less g t c = let k : 1 ≤ c.args.depth = (c.in-Opening.ensures.found.0).deep in omega arith

is_ready : (g : _) (t : _) (c : set_slot-After-set_all g t)
    → IsReady (c.args.depth - 1 + 1) (c.args.depth - 1) c.args.i c.args.table.now c.opened-child.result.value
    (frames_of c.args.walk.now.spare) (frames_of c.opened-child.new.spare) c.args.change
is_ready g t c =
    c.opened-child.ensures.ready c.args.change
    (subst (λ m. IsChange m c.args.change) (sym (one_less g t c)) c.requires.change_in)
    (subst (λ m. IsOpening m (slot_at c.args.table.now c.args.i) c.args.change) (sym (one_less g t c))
    (c.in-Opening.ensures.found.0))

is_grown : (g : _) (t : _) (c : set_slot-After-set_all g t)
    → IsTableChanged (c.args.depth - 1) c.opened-child.result.value c.set_all.new.table c.args.change
    (frames_of c.opened-child.new.spare) (frames_of c.set_all.new.walk.spare)
is_grown g t c = record {
  frame = rw c.deref_mut.ensures.value at c.set_all.ensures.changed.frame;
  shape = c.set_all.ensures.changed.shape;
  tight = c.set_all.ensures.changed.tight;
  map = rw c.deref_mut.ensures.value at c.set_all.ensures.changed.map;
  kept = rw c.deref_mut.ensures.value at c.set_all.ensures.changed.kept;
  spare = rw c.deref_mut.ensures.value at c.set_all.ensures.changed.spare;
  uses = rw c.deref_mut.ensures.value at c.set_all.ensures.changed.uses;
}

pub set_slot-returns-clause-reads : goal.set_slot-returns-clause-reads
set_slot-returns-clause-reads g t c =
    let k : 1 ≤ c.args.depth = (c.in-Opening.ensures.found.0).deep in
    let r =
    child_reads c.args.depth (count_of c.look_for.new.reads)
    (count_of c.set_all.new.walk.reads) c.args.change k c.set_all.ensures.reads c.set_all.ensures.whole in
    omega (arith, r, c.put_back.ensures.reads, c.in-Opening.ensures.reads)

pub set_slot-put_back-requires-clause-depth_in : goal.set_slot-put_back-requires-clause-depth_in
set_slot-put_back-requires-clause-depth_in g t c =
    subst IsDepth (sym (less_more _ ((c.in-Opening.ensures.found.0).deep))) c.requires.depth_in

pub set_slot-put_back-requires-clause-index_in : goal.set_slot-put_back-requires-clause-index_in
set_slot-put_back-requires-clause-index_in g t c = c.requires.index_in

pub set_slot-put_back-requires-clause-wide : goal.set_slot-put_back-requires-clause-wide
set_slot-put_back-requires-clause-wide g t c =
    set_wide c.args.table.now c.opened-child.new.table c.args.i (Word 0) c.opened-child.ensures.slots
    (shaped_wide c.args.depth c.args.table.now c.requires.shape)

pub set_slot-put_back-requires-clause-holds : goal.set_slot-put_back-requires-clause-holds
set_slot-put_back-requires-clause-holds g t c = (
  0,
  set_here c.args.table.now c.opened-child.new.table c.args.i c.args.i
      (Word 0) c.opened-child.ensures.slots c.requires.index_in
      (shaped_wide c.args.depth c.args.table.now c.requires.shape) refl,
)

pub set_slot-put_back-requires-clause-child_wide : goal.set_slot-put_back-requires-clause-child_wide
set_slot-put_back-requires-clause-child_wide g t c =
    shaped_wide (c.args.depth - 1) c.set_all.new.table c.set_all.ensures.changed.shape

pub set_slot-put-requires-clause-wide : goal.set_slot-put-requires-clause-wide
set_slot-put-requires-clause-wide g t c = shaped_wide c.args.depth c.args.table.now c.requires.shape

pub set_all-loop-i-init : goal.set_all-loop-i-init
set_all-loop-i-init g t c =
    let d = c.args.depth in
    let need = met_start d c.args.change (table_parts d c.args.table.now) in
    let gone = λ (f : ℕ). met_start d c.args.change (gone_parts d c.args.table.now f) in
    record {
      frame = refl;
      shape = c.requires.shape;
      tight = c.requires.tight;
      map = start_map d c.args.change (entry_at d c.args.table.now);
      rest = λ k p. refl;
      stand = λ low q p l. refl;
      kept = kept_start d c.args.change (frames_of c.args.walk.now.spare) c.args.table.now;
      spare = rw need refl;
      uses = λ f. rw (need, gone f) refl;
      freed = λ f. omega (arith, gone f);
      tables = omega (arith, need);
      reads = omega (arith, ends_start (1028 * d) d c.args.change c.requires.change_in.some);
    }

pub set_all-part-part-requires-clause-within : goal.set_all-part-part-requires-clause-within
set_all-part-part-requires-clause-within g t c =
    part_in c.args.depth c.loop-i.i c.args.change c.requires.change_in c.loop-i-test.true

pub set_all-set_slot-requires : goal.set_all-set_slot-requires
set_all-set_slot-requires g t c κs within =
    let d = c.args.depth in
    let h = c.requires.change_in in
    let i = part_in d c.loop-i.i c.args.change h c.loop-i-test.true in
    let p = part_is d c.loop-i.i c.args.change h c.loop-i.auto.i c.loop-i-test.true in
    let s = c.loop-i.invariant.rest c.loop-i.i (omega arith) in
    let n = need_next d c.loop-i.i c.args.change c.args.table.now p in
    let m : 2 * d < t = omega (arith, c.decreases) in
    let y = sum_mono (met d c.args.change (table_parts d c.args.table.now)) (c.loop-i.i + 1) 512 (omega (arith, i)) in
    let l =
    ap length c.loop-i.invariant.spare
    ∙ length-drop (sum_to (met d c.args.change (table_parts d c.args.table.now)) c.loop-i.i)
    (frames_of c.args.walk.now.spare) in (
      m,
      (
        within,
        (
          c.requires.depth_in,
          (
            i,
            (
              c.loop-i.invariant.shape,
              (
                c.loop-i.invariant.tight,
                (
                  rw c.part-part.ensures p,
                  rw (c.part-part.ensures, s) (omega (arith, n, y, c.requires.enough, l)),
                ),
              ),
            ),
          ),
        ),
      ),
    )

pub set_all-loop-i-preserved : goal.set_all-loop-i-preserved
set_all-loop-i-preserved g t c =
    let d = c.args.depth in
    let h = c.requires.change_in in
    let v = c.loop-i.invariant in
    let fs = frames_of c.args.walk.now.spare in
    let i = part_in d c.loop-i.i c.args.change h c.loop-i-test.true in
    let p = part_is d c.loop-i.i c.args.change h c.loop-i.auto.i c.loop-i-test.true in
    let s = v.rest c.loop-i.i (omega arith) in
    let e = c.part-part.ensures in
    let need = need_next d c.loop-i.i c.args.change c.args.table.now p in
    let gone = λ (f : ℕ). gone_next d c.loop-i.i f c.args.change c.args.table.now p in
    let kept = rw (v.spare, e) at c.set_slot.ensures.changed.kept in
    let ends = ends_next (1028 * d) d c.loop-i.i c.args.change h c.loop-i.auto.i c.loop-i-test.true in
    record {
      frame = c.set_slot.ensures.changed.frame ∙ v.frame;
      shape = c.set_slot.ensures.changed.shape;
      tight = c.set_slot.ensures.changed.tight;
      map =
          next_map d c.loop-i.i c.args.change (entry_at d c.args.table.now) (entry_at d c.loop-i.table)
          (entry_at d c.set_slot.new.table) v.map
          (rw e at c.set_slot.ensures.changed.map) c.set_slot.ensures.changed.map_elsewhere;
      rest = λ k q. c.set_slot.ensures.changed.slots_elsewhere k (omega arith) ∙ v.rest k (omega arith);
      stand =
          λ low q l x. c.set_slot.ensures.changed.tables_elsewhere low q l
          (let ne : index_at d q ≢ c.loop-i.i = omega arith in ne)
          ∙ v.stand low q l (omega arith);
      kept =
          kept_next d c.loop-i.i c.args.change c.args.table.now c.loop-i.table c.set_slot.new.table fs p s v.kept
          v.stand kept c.set_slot.ensures.changed.tables_elsewhere c.set_slot.ensures.changed.map_elsewhere;
      spare =
          spare_next (sum_to (met d c.args.change (table_parts d c.args.table.now)) c.loop-i.i)
          (slot_need d (slot_at c.args.table.now c.loop-i.i) (part d c.loop-i.i c.args.change)) _ fs
          (frames_of c.loop-i.walk.spare) (frames_of c.set_slot.new.walk.spare) v.spare
          (rw (e, s) at c.set_slot.ensures.changed.spare) need;
      uses = λ f.
          let x = rw (e, s) at (c.set_slot.ensures.changed.uses f) in
          let y =
          taken_next f (sum_to (met d c.args.change (table_parts d c.args.table.now)) c.loop-i.i)
          (slot_need d (slot_at c.args.table.now c.loop-i.i) (part d c.loop-i.i c.args.change)) _ fs
          (frames_of c.loop-i.walk.spare) v.spare need in
          omega (arith, x, y, gone f, v.uses f);
      freed = λ f. let x = rw (e, s) at (c.set_slot.ensures.freed.frames f) in omega (arith, x, gone f, v.freed f);
      tables = let x = rw (e, s) at c.set_slot.ensures.freed.tables in omega (arith, x, need, v.tables);
      reads = omega (arith, rw e at c.set_slot.ensures.reads, ends.0, ends.1, v.reads, c.loop-i.auto.i);
    }

pub set_all-returns-clause-reads : goal.set_all-returns-clause-reads
set_all-returns-clause-reads g t c =
    let s = span c.args.depth c.args.change c.requires.change_in in
    let e =
    ends_end (1028 * c.args.depth) c.args.depth c.loop-i.i c.args.change c.requires.change_in c.loop-i-test.false
    (omega (arith, c.loop-i.auto.i-end s.0, s.1)) in
    let p = some_part c.args.depth c.args.change c.requires.change_in.some in
    omega (arith, e.0, e.1, p, c.loop-i-test.false, c.loop-i.invariant.reads)

pub set_all-returns-clause-whole : goal.set_all-returns-clause-whole
set_all-returns-clause-whole g t c x y =
    let s = span c.args.depth c.args.change c.requires.change_in in
    let e =
    ends_end (1028 * c.args.depth) c.args.depth c.loop-i.i c.args.change c.requires.change_in c.loop-i-test.false
    (omega (arith, c.loop-i.auto.i-end s.0, s.1)) in
    let z = whole_edges (1028 * c.args.depth) (c.args.depth + 1) c.args.change x y in
    let w = whole_parts c.args.depth c.loop-i.i c.args.change x y c.loop-i-test.false in
    omega (arith, e.0, e.1, z, w.0, w.1, c.loop-i.invariant.reads)

pub set_slot-returns-in-Word-clause-reads : goal.set_slot-returns-in-Word-clause-reads
set_slot-returns-in-Word-clause-reads g t c = omega (arith, c.look_for.ensures.reads, c.requires.change_in.some)

pub set_all-part-part-requires-clause-depth_in : goal.set_all-part-part-requires-clause-depth_in
set_all-part-part-requires-clause-depth_in g t c = c.requires.depth_in

pub set_slot-look_for-requires-clause-depth_in : goal.set_slot-look_for-requires-clause-depth_in
set_slot-look_for-requires-clause-depth_in g t c = c.requires.depth_in

pub set_slot-look_for-requires-clause-index_in : goal.set_slot-look_for-requires-clause-index_in
set_slot-look_for-requires-clause-index_in g t c = c.requires.index_in

pub set_slot-look_for-requires-clause-shape : goal.set_slot-look_for-requires-clause-shape
set_slot-look_for-requires-clause-shape g t c = c.requires.shape

pub set_slot-look_for-requires-clause-change_in : goal.set_slot-look_for-requires-clause-change_in
set_slot-look_for-requires-clause-change_in g t c = c.requires.change_in

pub set_slot-put-requires-clause-within : goal.set_slot-put-requires-clause-within
set_slot-put-requires-clause-within g t c = c.requires.index_in

pub set_slot-overflow_sub-depth : goal.set_slot-overflow_sub-depth
set_slot-overflow_sub-depth g t c = (c.in-Opening.ensures.found.0).deep

pub set_slot-opened-child-requires-clause-depth_in : goal.set_slot-opened-child-requires-clause-depth_in
set_slot-opened-child-requires-clause-depth_in g t c =
    subst IsDepth (sym (less_more _ ((c.in-Opening.ensures.found.0).deep))) c.requires.depth_in

pub set_slot-opened-child-requires-clause-index_in : goal.set_slot-opened-child-requires-clause-index_in
set_slot-opened-child-requires-clause-index_in g t c = c.requires.index_in

pub set_slot-opened-child-requires-clause-shape : goal.set_slot-opened-child-requires-clause-shape
set_slot-opened-child-requires-clause-shape g t c =
    subst (λ m. IsShaped m c.args.table.now) (sym (less_more _ ((c.in-Opening.ensures.found.0).deep))) c.requires.shape

pub set_slot-opened-child-requires-clause-tight : goal.set_slot-opened-child-requires-clause-tight
set_slot-opened-child-requires-clause-tight g t c =
    subst (λ m. IsTight m c.args.table.now) (sym (less_more _ ((c.in-Opening.ensures.found.0).deep))) c.requires.tight

pub set_slot-opened-child-requires-clause-seen : goal.set_slot-opened-child-requires-clause-seen
set_slot-opened-child-requires-clause-seen g t c = c.look_for.ensures.seen

pub set_slot-overflow_sub-depth-2 : goal.set_slot-overflow_sub-depth-2
set_slot-overflow_sub-depth-2 g t c = (c.in-Opening.ensures.found.0).deep

pub set_slot-returns-in-Word-clause-changed : goal.set_slot-returns-in-Word-clause-changed
set_slot-returns-in-Word-clause-changed g t c =
    record {
      frame = c.put.ensures.frame;
      shape = c.put.ensures.tree.shape c.args.depth c.requires.shape c.in-Word.ensures.found.word;
      tight = c.put.ensures.tree.tight c.args.depth c.requires.tight;
      slots_elsewhere =
          λ j n. set_others c.args.table.now c.put.new.self c.args.i j (Word c.in-Word.word) c.put.ensures.slots n;
      map =
          word_map c.args.depth c.args.i c.in-Word.word c.args.change c.args.table.now c.put.new.self
          c.put.ensures.tree c.in-Word.ensures.found;
      map_elsewhere =
          written_other c.args.depth c.args.i c.in-Word.word c.args.table.now c.put.new.self c.put.ensures.tree;
      kept =
          word_kept c.args.depth c.args.i c.in-Word.word c.args.change c.args.table.now c.put.new.self
          c.put.ensures.tree c.in-Word.ensures.found
          (frames_of c.args.walk.now.spare);
      tables_elsewhere = λ low q l x. c.put.ensures.tree.standing c.args.depth low q;
      spare = ap (λ n. drop n (frames_of c.args.walk.now.spare)) (sym c.in-Word.ensures.found.need);
      uses =
          word_uses c.args.depth c.args.i c.in-Word.word c.args.change c.args.table.now c.put.new.self
          c.put.ensures.tree c.in-Word.ensures.found
          (frames_of c.args.walk.now.spare);
    }

pub set_slot-returns-in-Word-clause-freed : goal.set_slot-returns-in-Word-clause-freed
set_slot-returns-in-Word-clause-freed g t c =
    record {
      frames = λ f. omega (arith, c.in-Word.ensures.found.gone f);
      tables = omega (arith, c.put.ensures.tree.tables c.args.depth, c.in-Word.ensures.found.need);
    }

pub set_slot-returns-clause-changed : goal.set_slot-returns-clause-changed
set_slot-returns-clause-changed g t c =
    let at = (goal.at.set_slot-returns-clause-changed g t c).After-set_all in
    record {
      frame = c.put_back.ensures.frame ∙ c.opened-child.ensures.frame;
      shape =
          rw (one_less g t at) at
          (slot_shape
          (c.args.depth - 1) c.args.i c.args.table.now c.opened-child.new.table c.opened-child.result.value
          c.set_all.new.table c.args.change
          (frames_of c.args.walk.now.spare) (frames_of c.opened-child.new.spare)
          (frames_of c.set_all.new.walk.spare) c.opened-child.ensures (is_ready g t at)
          (is_grown g t at) c.put_back.new.table (frames_of c.set_all.new.walk.freed)
          (frames_of c.put_back.new.freed) c.put_back.ensures.put);
      tight =
          rw (one_less g t at) at
          (slot_tight
          (c.args.depth - 1) c.args.i c.args.table.now c.opened-child.new.table c.opened-child.result.value
          c.set_all.new.table c.args.change
          (frames_of c.args.walk.now.spare) (frames_of c.opened-child.new.spare)
          (frames_of c.set_all.new.walk.spare) c.opened-child.ensures (is_ready g t at)
          (is_grown g t at) c.put_back.new.table (frames_of c.set_all.new.walk.freed)
          (frames_of c.put_back.new.freed) c.put_back.ensures.put);
      slots_elsewhere =
          λ j m. c.put_back.ensures.slots_elsewhere j m
          ∙ set_others c.args.table.now c.opened-child.new.table c.args.i j (Word 0) c.opened-child.ensures.slots m;
      map =
          rw (one_less g t at) at
          (slot_map
          (c.args.depth - 1) c.args.i c.args.table.now c.opened-child.new.table c.opened-child.result.value
          c.set_all.new.table c.args.change
          (frames_of c.args.walk.now.spare) (frames_of c.opened-child.new.spare)
          (frames_of c.set_all.new.walk.spare) c.opened-child.ensures (is_ready g t at)
          (is_grown g t at) c.put_back.new.table (frames_of c.set_all.new.walk.freed)
          (frames_of c.put_back.new.freed) c.put_back.ensures.put);
      map_elsewhere =
          rw (one_less g t at) at
          (slot_other
          (c.args.depth - 1) c.args.i c.args.table.now c.opened-child.new.table c.opened-child.result.value
          c.set_all.new.table c.args.change
          (frames_of c.args.walk.now.spare) (frames_of c.opened-child.new.spare)
          (frames_of c.set_all.new.walk.spare) c.opened-child.ensures (is_ready g t at)
          (is_grown g t at) c.put_back.new.table (frames_of c.set_all.new.walk.freed)
          (frames_of c.put_back.new.freed) c.put_back.ensures.put);
      kept =
          rw (one_less g t at) at
          (slot_kept
          (c.args.depth - 1) c.args.i c.args.table.now c.opened-child.new.table c.opened-child.result.value
          c.set_all.new.table c.args.change
          (frames_of c.args.walk.now.spare) (frames_of c.opened-child.new.spare)
          (frames_of c.set_all.new.walk.spare) c.opened-child.ensures (is_ready g t at)
          (is_grown g t at) c.put_back.new.table (frames_of c.set_all.new.walk.freed)
          (frames_of c.put_back.new.freed) c.put_back.ensures.put);
      tables_elsewhere =
          rw (one_less g t at) at
          (slot_stand
          (c.args.depth - 1) c.args.i c.args.table.now c.opened-child.new.table c.opened-child.result.value
          c.set_all.new.table c.args.change
          (frames_of c.args.walk.now.spare) (frames_of c.opened-child.new.spare)
          (frames_of c.set_all.new.walk.spare) c.opened-child.ensures (is_ready g t at)
          (is_grown g t at) c.put_back.new.table (frames_of c.set_all.new.walk.freed)
          (frames_of c.put_back.new.freed) c.put_back.ensures.put);
      spare =
          rw (one_less g t at) at
          (all_spare
          (c.args.depth - 1) c.args.i c.args.table.now c.opened-child.new.table c.opened-child.result.value
          c.set_all.new.table c.args.change
          (frames_of c.args.walk.now.spare) (frames_of c.opened-child.new.spare)
          (frames_of c.set_all.new.walk.spare) c.opened-child.ensures (is_ready g t at)
          (is_grown g t at));
      uses =
          rw (one_less g t at) at
          (slot_uses
          (c.args.depth - 1) c.args.i c.args.table.now c.opened-child.new.table c.opened-child.result.value
          c.set_all.new.table c.args.change
          (frames_of c.args.walk.now.spare) (frames_of c.opened-child.new.spare)
          (frames_of c.set_all.new.walk.spare) c.opened-child.ensures (is_ready g t at)
          (is_grown g t at) c.put_back.new.table (frames_of c.set_all.new.walk.freed)
          (frames_of c.put_back.new.freed) c.put_back.ensures.put);
    }

pub set_slot-returns-clause-freed : goal.set_slot-returns-clause-freed
set_slot-returns-clause-freed g t c =
    let at = (goal.at.set_slot-returns-clause-freed g t c).After-set_all in
    record {
      frames =
          λ f. rw (one_less g t at) at
          (slot_freed
          (c.args.depth - 1) c.args.i c.args.table.now c.opened-child.new.table c.opened-child.result.value
          c.set_all.new.table c.args.change
          (frames_of c.args.walk.now.spare) (frames_of c.opened-child.new.spare)
          (frames_of c.set_all.new.walk.spare) c.opened-child.ensures (is_ready g t at)
          (is_grown g t at) c.put_back.new.table (frames_of c.set_all.new.walk.freed)
          (frames_of c.put_back.new.freed) c.put_back.ensures.put f
          (frames_of c.args.walk.now.freed)
          (rw c.deref_mut.ensures.value at (c.set_all.ensures.freed.frames f)));
      tables =
          rw (one_less g t at) at
          (slot_tables
          (c.args.depth - 1) c.args.i c.args.table.now c.opened-child.new.table c.opened-child.result.value
          c.set_all.new.table c.args.change
          (frames_of c.args.walk.now.spare) (frames_of c.opened-child.new.spare)
          (frames_of c.set_all.new.walk.spare) c.opened-child.ensures (is_ready g t at)
          (is_grown g t at) c.put_back.new.table (frames_of c.set_all.new.walk.freed)
          (frames_of c.put_back.new.freed) c.put_back.ensures.put
          (length (frames_of c.args.walk.now.freed))
          (rw c.deref_mut.ensures.value at c.set_all.ensures.freed.tables));
    }

pub set_all-returns-clause-changed : goal.set_all-returns-clause-changed
set_all-returns-clause-changed g t c =
    record {
      frame = c.loop-i.invariant.frame;
      shape = c.loop-i.invariant.shape;
      tight = c.loop-i.invariant.tight;
      map =
          λ q. c.loop-i.invariant.map q
          ∙ end_map c.args.depth c.loop-i.i c.args.change (entry_at c.args.depth c.args.table.now) q
          (omega (arith, c.requires.change_in.some)) c.loop-i-test.false;
      kept =
          kept_end c.args.depth c.loop-i.i c.args.change c.args.table.now c.loop-i.table
          (frames_of c.args.walk.now.spare)
          (omega (arith, c.requires.change_in.some)) c.loop-i-test.false
          c.loop-i.invariant.kept c.loop-i.invariant.stand;
      spare = let s = span c.args.depth c.args.change c.requires.change_in in
          rw
          (met_end c.args.depth c.loop-i.i c.args.change
          (table_parts c.args.depth c.args.table.now) c.requires.change_in c.loop-i-test.false
          (omega (arith, c.loop-i.auto.i-end s.0, s.1))) c.loop-i.invariant.spare;
      uses = λ f.
          let s = span c.args.depth c.args.change c.requires.change_in in
          let l : c.loop-i.i ≤ 512 = omega (arith, c.loop-i.auto.i-end s.0, s.1) in
          rw (
            met_end c.args.depth c.loop-i.i c.args.change
                (table_parts c.args.depth c.args.table.now) c.requires.change_in c.loop-i-test.false l,
            met_end c.args.depth c.loop-i.i c.args.change
                (gone_parts c.args.depth c.args.table.now f) c.requires.change_in c.loop-i-test.false l,
          ) (c.loop-i.invariant.uses f);
    }

pub set_all-returns-clause-freed : goal.set_all-returns-clause-freed
set_all-returns-clause-freed g t c =
    record {
      frames = λ f.
          let s = span c.args.depth c.args.change c.requires.change_in in
          let l : c.loop-i.i ≤ 512 = omega (arith, c.loop-i.auto.i-end s.0, s.1) in
          rw
          (met_end c.args.depth c.loop-i.i c.args.change
          (gone_parts c.args.depth c.args.table.now f) c.requires.change_in c.loop-i-test.false l)
          (c.loop-i.invariant.freed f);
      tables = let s = span c.args.depth c.args.change c.requires.change_in in
          rw
          (met_end c.args.depth c.loop-i.i c.args.change
          (table_parts c.args.depth c.args.table.now) c.requires.change_in c.loop-i-test.false
          (omega (arith, c.loop-i.auto.i-end s.0, s.1))) c.loop-i.invariant.tables;
    }
