use Rattle.std.proofs.Common.{◌≡◌, ℕ, suc, ◌-◌, List, ◌∷◌, get_or, drop, length, ap, sym, ◌∙◌, arith, drop-cons}
use Rattle.page_state.specs.declared.layout.Region.{Region}
use Rattle.page_state.specs.declared.layout.RegionKind.TheVariants.{Memory}
use Rattle.page_state.specs.Map.{Map, update}
use Rattle.page_state.specs.Runs.{map_of}
use Rattle.reference_model.specs.model.SharedRules.{abort_leaf}
use Rattle.host_views.specs.Seen.{own_in}
use Rattle.host_views.proofs.Maps.{own-first}
use Rattle.host_views.proofs.touched.own_runs.Goals as goal

pub loop-i-preserved : goal.loop-i-preserved
loop-i-preserved c =
    let rs : List Region = c.args.memory.now.regions in
    let k : ℕ = c.loop-i.i - 1 in
    let next : suc k ≡ c.loop-i.i = omega (arith, c.loop-i-test.true) in
    let none : Region = record { kind = Memory; pages = record { first = record { 0 = 0 }; count = 0 } } in
    let r : Region = get_or rs k none in
    let same : length c.regions-regions.result.now ≡ length rs = ap length c.regions-regions.ensures.value in
    let front : drop k rs ≡ r ∷ drop c.loop-i.i rs =
    drop-cons rs k none (omega (arith, c.loop-i-test.true, c.loop-i.auto.i, same))
    ∙ ap (λ (n : ℕ). r ∷ drop n rs) next in
    let made : map_of c.in_ok-out.out.items ≡ update (map_of c.loop-i.out.items) r.pages.first.0 r.pages.count (abort_leaf r r.pages.first.0) =
    rw
    (c.as_slice.ensures.value, c.first_entry.ensures, c.regions-regions.ensures.value) at
    c.in_ok-out.ensures.map in
    record {
      map =
          made
          ∙ ap
          (λ (n : Map). update n r.pages.first.0 r.pages.count
          (abort_leaf r r.pages.first.0)) c.loop-i.invariant.map
          ∙ own-first r (drop c.loop-i.i rs) ∙ sym (ap own_in front);
      coarsest = c.in_ok-out.ensures.coarsest;
      small = c.in_ok-out.ensures.small;
    }
