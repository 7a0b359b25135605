use Rattle.std.proofs.Common.{◌∙◌, refl, sym, arith}
use Rattle.c_tables.specs.ByFrames.{reached_at}
use Rattle.c_tables.proofs.MetTables.{apart_more}
use Rattle.c_tables.proofs.Passed.{passed_on}
use Rattle.c_tables.proofs.Slots.{led_above, led_whole}
use Rattle.c_tables.proofs.WalkedSlots.{all_behind, all_map, all_met, begun, behind_below, more_below, more_word, place_below, stopped_below, stopped_first}
use Rattle.c_tables.proofs.walk.+walk_table.Goals as goal
use Rattle.c_tables.proofs.walk.+walk_table.Goals.{in-Some+in_ok-walk_table-in-Some, in-None+in_ok-put-in-None}

pub returns-in_err-reach-clause-stopped : goal.returns-in_err-reach-clause-stopped
returns-in_err-reach-clause-stopped t c =
    passed_on _ _ c.from_residual.result c.reach.result c.in_err-reach.field-0.0 c.in_err-reach.was
    c.from_residual.ensures.1
    (stopped_first c.args.pages.now c.args.tree c.args.depth c.args.number c.args.page c.args.met.now.items
    c.args.runs.now.items) c.reach.ensures.stopped

pub loop-i-init : goal.loop-i-init
loop-i-init t c =
    begun c.args.pages.now c.args.tree c.args.depth c.args.number c.args.page c.args.met.now.items
    c.args.runs.now.items c.reach.new.met.items c.in_ok-reach.ensures.met
    (apart_more c.args.met.now.items c.reach.new.met.items
    (reached_at c.args.tree c.args.depth c.args.number c.args.page) c.requires.before.apart
    c.in_ok-reach.ensures.fresh c.in_ok-reach.ensures.met) c.requires.before.kept c.requires.before.behind

pub walk_table-requires : goal.walk_table-requires
walk_table-requires t c =
    let led = sym c.next_page.ensures ∙ c.in-Some.is in
    let above = led_above c.args.pages.now c.args.depth _ c.in-Some.next led in
    let few = c.requires.depth_in in (
      omega (arith, above, c.decreases),
      (
        omega (arith, few),
        (
          c.requires.whole,
          (
            led_whole c.args.pages.now c.args.depth _ c.in-Some.next led c.requires.whole,
            (
              place_below c.args.pages.now c.args.tree c.args.depth c.args.number c.args.page c.args.met.now.items
                  c.args.runs.now.items c.loop-i.i c.loop-i.met.items c.loop-i.runs.items c.loop-i.invariant
                  c.loop-i-test.true c.requires.page _ refl c.in-Some.next led c.requires.place,
              record {
                apart = c.loop-i.invariant.apart;
                kept = c.loop-i.invariant.kept;
                behind =
                    behind_below c.args.pages.now c.args.tree c.args.depth c.args.number c.args.page
                    c.args.met.now.items c.args.runs.now.items c.loop-i.i c.loop-i.met.items c.loop-i.runs.items
                    c.loop-i.invariant c.loop-i-test.true c.requires.page _ refl c.in-Some.next led;
              },
            ),
          ),
        ),
      ),
    )

pub returns-in_err-walk_table-in-Some-clause-stopped : goal.returns-in_err-walk_table-in-Some-clause-stopped
returns-in_err-walk_table-in-Some-clause-stopped t c =
    passed_on _ _ c.from_residual-in_err-walk_table-in-Some.result c.walk_table.result
    c.in_err-walk_table-in-Some.field-0.0 c.in_err-walk_table-in-Some.was
    c.from_residual-in_err-walk_table-in-Some.ensures.1
    (stopped_below c.args.pages.now c.args.tree c.args.depth c.args.number c.args.page c.args.met.now.items
    c.args.runs.now.items c.loop-i.i c.loop-i.met.items c.loop-i.runs.items c.loop-i.invariant c.loop-i-test.true
    c.requires.page _ refl c.in-Some.next
    (sym c.next_page.ensures ∙ c.in-Some.is)) c.walk_table.ensures.stopped

pub loop-i-preserved : goal.loop-i-preserved
loop-i-preserved t c = elim c.match-next_page.branch [
  | in-Some+in_ok-walk_table-in-Some w ↦ rw (w.met-is, w.runs-is)
      (more_below c.args.pages.now c.args.tree c.args.depth c.args.number c.args.page c.args.met.now.items
      c.args.runs.now.items c.loop-i.i c.loop-i.met.items c.loop-i.runs.items c.loop-i.invariant c.loop-i-test.true
      c.requires.page _ refl w.in-Some.next
      (sym c.next_page.ensures ∙ w.in-Some.is) w.walk_table.new.met.items w.walk_table.new.runs.items
      w.in_ok-walk_table-in-Some.ensures.met w.in_ok-walk_table-in-Some.ensures.after.apart
      w.in_ok-walk_table-in-Some.ensures.map w.in_ok-walk_table-in-Some.ensures.after.kept
      w.in_ok-walk_table-in-Some.ensures.after.behind)
  | in-None+in_ok-put-in-None w ↦ rw (w.met-is, w.runs-is)
      (more_word c.args.pages.now c.args.tree c.args.depth c.args.number c.args.page c.args.met.now.items
      c.args.runs.now.items c.loop-i.i c.loop-i.met.items c.loop-i.runs.items c.loop-i.invariant c.loop-i-test.true
      c.requires.page _ refl w.entry_of.result c.pages_under-each.result w.put.new.runs.items
      (sym c.next_page.ensures ∙ w.in-None.is) c.pages_under-each.ensures.value w.entry_of.ensures.value
      w.in_ok-put-in-None.ensures.map w.in_ok-put-in-None.ensures.kept w.in_ok-put-in-None.ensures.behind)
]

pub returns-clause-met : goal.returns-clause-met
returns-clause-met t c =
    all_met c.args.pages.now c.args.tree c.args.depth c.args.number c.args.page c.args.met.now.items
    c.args.runs.now.items c.loop-i.i c.loop-i.met.items c.loop-i.runs.items c.loop-i.invariant
    (omega (arith, c.loop-i.auto.i-end)) (omega (arith, c.loop-i-test.false)) c.requires.page

pub returns-clause-map : goal.returns-clause-map
returns-clause-map t c =
    all_map c.args.pages.now c.args.tree c.args.depth c.args.number c.args.page c.args.met.now.items
    c.args.runs.now.items c.loop-i.i c.loop-i.met.items c.loop-i.runs.items c.loop-i.invariant
    (omega (arith, c.loop-i.auto.i-end)) (omega (arith, c.loop-i-test.false)) c.requires.page

pub returns-clause-after : goal.returns-clause-after
returns-clause-after t c = record {
  apart = c.loop-i.invariant.apart;
  kept = c.loop-i.invariant.kept;
  behind =
      all_behind c.args.pages.now c.args.tree c.args.depth c.args.number c.args.page c.args.met.now.items
      c.args.runs.now.items c.loop-i.i c.loop-i.met.items c.loop-i.runs.items c.loop-i.invariant
      (omega (arith, c.loop-i.auto.i-end)) (omega (arith, c.loop-i-test.false)) c.requires.page;
}
