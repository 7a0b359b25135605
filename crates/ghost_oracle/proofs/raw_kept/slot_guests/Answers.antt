use Rattle.std.proofs.Common.{◌∙◌, ◌+◌, ap, arith, length, subst, sym}
use Rattle.std.proofs.lemmas.List.{length-append}
use Rattle.ghost_oracle.specs.RawFound.{IsSlotFound}
use Rattle.std.specs.Prelude.{get_or}
use Rattle.ghost_oracle.proofs.RawUnder.{found_next}
use Rattle.ghost_oracle.proofs.raw_kept.slot_guests.Goals as goal

pub loop-v-preserved : goal.loop-v-preserved
loop-v-preserved g c = record {
  found =
      λ k part held x less. subst
      (λ xs. IsSlotFound c.args.source (get_or c.args.guests.now k part) (get_or c.args.poked.now k held)
      (get_or xs k x))
      (sym c.in_ok-push.ensures.items)
      (found_next c.args.source c.args.guests.now c.args.poked.now c.loop-v.found.items c.loop-v.v
      c.index-guests-v.result c.index-poked-v.result c.in_ok-slot_guest.field-0
      (omega (arith, c.loop-v-test.true, c.requires.guests))
      (omega (arith, c.loop-v-test.true, c.requires.poked)) c.loop-v.invariant.count c.index-guests-v.is
      c.index-poked-v.is c.loop-v.invariant.found c.in_ok-slot_guest.ensures k part held x less);
  count =
      ap length c.in_ok-push.ensures.items ∙ length-append c.loop-v.found.items _
      ∙ ap (λ n. n + 1) c.loop-v.invariant.count;
}

pub loop-v-init : goal.loop-v-init
loop-v-init g c = record {
  found = λ k part held x less. absurd (omega (arith, less));
  count = ap length c.new-found.ensures.items;
}

pub returns-clause-found : goal.returns-clause-found
returns-clause-found g c =
    λ k part held x less. c.loop-v.invariant.found k part held x (omega (arith, less, c.loop-v-test.false))

pub returns-clause-count : goal.returns-clause-count
returns-clause-count g c = c.loop-v.invariant.count ∙ omega (arith, c.loop-v-test.false, c.loop-v.auto.v-end)

pub bounds-guests-v : goal.bounds-guests-v
bounds-guests-v g c = omega (arith, c.loop-v-test.true, c.requires.guests)

pub bounds-poked-v : goal.bounds-poked-v
bounds-poked-v g c = omega (arith, c.loop-v-test.true, c.requires.poked)
