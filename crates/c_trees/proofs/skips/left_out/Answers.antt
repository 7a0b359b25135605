use Rattle.std.proofs.Common.{◌≡◌, ℕ, suc, ◌-◌, List, ◌∷◌, get_or, drop, ap, sym, ◌∙◌, arith, drop-cons}
use Rattle.page_state.specs.declared.entry.Entry.TheVariants.{Unmapped}
use Rattle.page_state.specs.Map.{Map, update}
use Rattle.page_state.specs.Runs.{map_of}
use Rattle.c_trees.specs.declared.root.PlainRange.{PlainRange}
use Rattle.c_trees.specs.Entries.{without}
use Rattle.c_trees.proofs.Without.{without-first}
use Rattle.c_trees.proofs.skips.left_out.Goals as goal

pub loop-i-preserved : goal.loop-i-preserved
loop-i-preserved c =
    let rs : List PlainRange = c.args.ranges.now in
    let m : Map = map_of c.args.runs.items in
    let k : ℕ = c.loop-i.i - 1 in
    let next : suc k ≡ c.loop-i.i = omega (arith, c.loop-i-test.true) in
    let none : PlainRange = record { first = 0; count = 0 } in
    let r : PlainRange = get_or rs k none in
    let front : drop k rs ≡ r ∷ drop c.loop-i.i rs =
    drop-cons rs k none (omega (arith, c.loop-i-test.true, c.loop-i.auto.i)) ∙ ap (λ (n : ℕ). r ∷ drop n rs) next in
    record {
      map =
          rw (c.as_slice.ensures.value) at c.in_ok-out.ensures.map
          ∙ ap (λ (n : Map). update n r.first r.count Unmapped) c.loop-i.invariant.map
          ∙ without-first r (drop c.loop-i.i rs) m ∙ sym (ap (λ (xs : List PlainRange). without xs m) front);
      coarsest = c.in_ok-out.ensures.coarsest;
      small = c.in_ok-out.ensures.small;
    }
