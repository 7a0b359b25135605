use Rattle.std.proofs.Common.{◌≡◌, ℕ, ◌∙◌, ◌+◌, ◌*◌, ◌<◌, ◌≤◌, refl, sym, arith}
use Rattle.std.proofs.Math.Nat.{mul-le-mul_right}
use Rattle.page_state.specs.Geometries.{block_pages}
use Rattle.page_state.proofs.Sizes.{size_some}
use Rattle.walked_tables.specs.ByFrames.{reached_at}
use Rattle.walked_tables.proofs.MetTables.{apart_more}
use Rattle.walked_tables.proofs.Passed.{passed_on}
use Rattle.walked_tables.proofs.Slots.{led_above, led_whole}
use Rattle.walked_tables.proofs.WalkedSlots.{all_behind, all_map, all_met, begun, behind_below, more_below, more_word, part_ends, place_below, stopped_below, stopped_first}
use Rattle.walked_tables.proofs.walk.+walk_table.Goals as goal
use Rattle.walked_tables.proofs.walk.+walk_table.Goals.{in-Some+in_ok-walk_table-in-Some, in-None+in_ok-put-in-None}

inside_of : {i n m : ℕ} → i < n → n ≡ m → i < m
inside_of h e = omega (arith, h, e)

pub returns-in_err-reach-clause-stopped : goal.returns-in_err-reach-clause-stopped
returns-in_err-reach-clause-stopped t c =
    passed_on _ _ c.from_residual.result c.reach.result c.in_err-reach.field-0.0 c.in_err-reach.was
    c.from_residual.ensures.1
    (stopped_first c.args.profile.now c.args.pages.now c.args.tree c.args.depth c.args.number c.args.page
    c.args.met.now.items c.args.runs.now.items) c.reach.ensures.stopped

-- the first number of a slot's block is below the table's last
pub overflow_mul-part : goal.overflow_mul-part
overflow_mul-part t c =
    let some = size_some (c.args.depth + 1) in
    let more : 1 * c.args.number ≤ block_pages (c.args.depth + 1) * c.args.number =
    mul-le-mul_right c.args.number some in
    omega (arith, more, c.requires.place)

pub overflow_add-part : goal.overflow_add-part
overflow_add-part t c =
    let some = size_some (c.args.depth + 1) in
    let more : 1 * c.args.number ≤ block_pages (c.args.depth + 1) * c.args.number =
    mul-le-mul_right c.args.number some in
    omega (arith, more, c.requires.place, c.loop-i-test.true, c.slots_in-slots.ensures.few)

-- the pages of a slot end where the table's do, or before
pub overflow_mul-part-in-None : goal.overflow_mul-part-in-None
overflow_mul-part-in-None t c =
    let ends =
    part_ends c.args.depth c.args.number c.loop-i.i (inside_of c.loop-i-test.true c.slots_in-slots.ensures.is) in
    rw c.word_pages-each.ensures.value (omega (arith, ends, c.requires.place))

pub put-requires-clause-pages : goal.put-requires-clause-pages
put-requires-clause-pages t c =
    let ends =
    part_ends c.args.depth c.args.number c.loop-i.i (inside_of c.loop-i-test.true c.slots_in-slots.ensures.is) in
    rw c.word_pages-each.ensures.value (omega (arith, ends, c.requires.place))

pub loop-i-init : goal.loop-i-init
loop-i-init t c =
    begun c.args.profile.now c.args.pages.now c.args.tree c.args.depth c.args.number c.args.page c.args.met.now.items
    c.args.runs.now.items c.reach.new.met.items c.in_ok-reach.ensures.met
    (apart_more c.args.met.now.items c.reach.new.met.items
    (reached_at c.args.tree c.args.depth c.args.number c.args.page) c.requires.apart c.in_ok-reach.ensures.fresh
    c.in_ok-reach.ensures.met) c.requires.kept c.requires.behind

pub walk_table-requires : goal.walk_table-requires
walk_table-requires t c =
    let led = sym c.next_page.ensures ∙ c.in-Some.is in
    let above = led_above c.args.profile.now c.args.pages.now c.args.depth _ c.in-Some.next led in
    let few = c.requires.depth_in in (
      omega (arith, above, c.decreases),
      (
        omega (arith, few),
        (
          c.requires.whole,
          (
            led_whole c.args.profile.now c.args.pages.now c.args.depth _ c.in-Some.next led c.requires.whole,
            (
              place_below c.args.profile.now c.args.pages.now c.args.tree c.args.depth c.args.number c.args.page
                  c.args.met.now.items c.args.runs.now.items c.loop-i.i c.loop-i.met.items c.loop-i.runs.items
                  c.loop-i.invariant (inside_of c.loop-i-test.true c.slots_in-slots.ensures.is) c.requires.page _ refl
                  c.in-Some.next led few c.requires.place,
              (
                c.loop-i.invariant.kept,
                (
                  behind_below c.args.profile.now c.args.pages.now c.args.tree c.args.depth c.args.number c.args.page
                      c.args.met.now.items c.args.runs.now.items c.loop-i.i c.loop-i.met.items c.loop-i.runs.items
                      c.loop-i.invariant
                      (inside_of c.loop-i-test.true c.slots_in-slots.ensures.is) c.requires.page _ refl
                      c.in-Some.next led few,
                  c.loop-i.invariant.apart,
                ),
              ),
            ),
          ),
        ),
      ),
    )

pub returns-in_err-walk_table-in-Some-clause-stopped : goal.returns-in_err-walk_table-in-Some-clause-stopped
returns-in_err-walk_table-in-Some-clause-stopped t c =
    passed_on _ _ c.from_residual-in_err-walk_table-in-Some.result c.walk_table.result
    c.in_err-walk_table-in-Some.field-0.0 c.in_err-walk_table-in-Some.was
    c.from_residual-in_err-walk_table-in-Some.ensures.1
    (stopped_below c.args.profile.now c.args.pages.now c.args.tree c.args.depth c.args.number c.args.page
    c.args.met.now.items c.args.runs.now.items c.loop-i.i c.loop-i.met.items c.loop-i.runs.items c.loop-i.invariant
    (inside_of c.loop-i-test.true c.slots_in-slots.ensures.is) c.requires.page _ refl c.in-Some.next
    (sym c.next_page.ensures ∙ c.in-Some.is) c.requires.depth_in) c.walk_table.ensures.stopped

pub loop-i-preserved : goal.loop-i-preserved
loop-i-preserved t c = elim c.match-next_page.branch [
  | in-Some+in_ok-walk_table-in-Some w ↦ rw (w.met-is, w.runs-is)
      (more_below c.args.profile.now c.args.pages.now c.args.tree c.args.depth c.args.number c.args.page
      c.args.met.now.items c.args.runs.now.items c.loop-i.i c.loop-i.met.items c.loop-i.runs.items
      c.loop-i.invariant
      (inside_of c.loop-i-test.true c.slots_in-slots.ensures.is) c.requires.page _ refl w.in-Some.next
      (sym c.next_page.ensures ∙ w.in-Some.is) c.requires.depth_in w.walk_table.new.met.items
      w.walk_table.new.runs.items
      w.in_ok-walk_table-in-Some.ensures.walked.met w.in_ok-walk_table-in-Some.ensures.walked.apart
      w.in_ok-walk_table-in-Some.ensures.walked.map w.in_ok-walk_table-in-Some.ensures.walked.kept
      w.in_ok-walk_table-in-Some.ensures.walked.behind)
  | in-None+in_ok-put-in-None w ↦ rw (w.met-is, w.runs-is)
      (more_word c.args.profile.now c.args.pages.now c.args.tree c.args.depth c.args.number c.args.page
      c.args.met.now.items c.args.runs.now.items c.loop-i.i c.loop-i.met.items c.loop-i.runs.items
      c.loop-i.invariant
      (inside_of c.loop-i-test.true c.slots_in-slots.ensures.is) c.requires.page _ refl w.value_at.result
      c.word_pages-each.result
      w.put.new.runs.items
      (sym c.next_page.ensures ∙ w.in-None.is) c.word_pages-each.ensures.value w.value_at.ensures.value
      w.in_ok-put-in-None.ensures.map w.in_ok-put-in-None.ensures.kept w.in_ok-put-in-None.ensures.behind)
]

pub returns-clause-walked : goal.returns-clause-walked
returns-clause-walked t c = record {
  map =
      all_map c.args.profile.now c.args.pages.now c.args.tree c.args.depth c.args.number c.args.page
      c.args.met.now.items c.args.runs.now.items c.loop-i.i c.loop-i.met.items c.loop-i.runs.items
      c.loop-i.invariant
      (omega (arith, c.loop-i.auto.i-end, c.slots_in-slots.ensures.is))
      (omega (arith, c.loop-i-test.false, c.slots_in-slots.ensures.is)) c.requires.page;
  kept = c.loop-i.invariant.kept;
  behind =
      all_behind c.args.profile.now c.args.pages.now c.args.tree c.args.depth c.args.number c.args.page
      c.args.met.now.items c.args.runs.now.items c.loop-i.i c.loop-i.met.items c.loop-i.runs.items
      c.loop-i.invariant
      (omega (arith, c.loop-i.auto.i-end, c.slots_in-slots.ensures.is))
      (omega (arith, c.loop-i-test.false, c.slots_in-slots.ensures.is)) c.requires.page;
  met =
      all_met c.args.profile.now c.args.pages.now c.args.tree c.args.depth c.args.number c.args.page
      c.args.met.now.items c.args.runs.now.items c.loop-i.i c.loop-i.met.items c.loop-i.runs.items
      c.loop-i.invariant
      (omega (arith, c.loop-i.auto.i-end, c.slots_in-slots.ensures.is))
      (omega (arith, c.loop-i-test.false, c.slots_in-slots.ensures.is)) c.requires.page;
  apart = c.loop-i.invariant.apart;
}
