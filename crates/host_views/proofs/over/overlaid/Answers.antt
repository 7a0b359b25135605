use Rattle.std.proofs.Common.{◌≡◌, ℕ, suc, ◌-◌, List, ◌∷◌, get_or, drop, ap, sym, ◌∙◌, arith, drop-cons}
use Rattle.page_state.specs.declared.entry.Run.{Run}
use Rattle.page_state.specs.declared.entry.Target.TheVariants.{Malformed}
use Rattle.page_state.specs.Entries.{entry_of_target}
use Rattle.page_state.specs.Map.{Map, update}
use Rattle.page_state.specs.Runs.{map_of}
use Rattle.host_views.specs.Seen.{over}
use Rattle.host_views.proofs.Maps.{over-first}
use Rattle.host_views.proofs.over.overlaid.Goals as goal

pub loop-i-preserved : goal.loop-i-preserved
loop-i-preserved c =
    let rs : List Run = c.args.runs.now in
    let m : Map = map_of c.args.under.items in
    let k : ℕ = c.loop-i.i - 1 in
    let next : suc k ≡ c.loop-i.i = omega (arith, c.loop-i-test.true) in
    let none : Run = record { pages = record { first = record { 0 = 0 }; count = 0 }; target = Malformed } in
    let r : Run = get_or rs k none in
    let front : drop k rs ≡ r ∷ drop c.loop-i.i rs =
    drop-cons rs k none (omega (arith, c.loop-i-test.true, c.loop-i.auto.i)) ∙ ap (λ (n : ℕ). r ∷ drop n rs) next in
    record {
      map =
          rw (c.as_slice.ensures.value, c.from.ensures) at c.in_ok-out.ensures.map
          ∙ ap
          (λ (n : Map). update n r.pages.first.0 r.pages.count
          (entry_of_target r.target)) c.loop-i.invariant.map
          ∙ over-first r (drop c.loop-i.i rs) m ∙ sym (ap (λ (xs : List Run). over (map_of xs) m) front);
      coarsest = c.in_ok-out.ensures.coarsest;
      small = c.in_ok-out.ensures.small;
    }
