use Rattle.std.proofs.Common.{◌≡◌, ℕ, suc, ◌-◌, List, ◌∷◌, get_or, drop, length, ap, sym, ◌∙◌, arith, drop-cons}
use Rattle.page_state.specs.declared.layout.Region.{Region}
use Rattle.page_state.specs.declared.layout.RegionKind.TheVariants.{Memory}
use Rattle.page_state.specs.Map.{Map}
use Rattle.page_state.specs.Runs.{map_of}
use Rattle.host_views.specs.Seen.{over, kind_in, of_kind, within_range}
use Rattle.host_views.proofs.Maps.{kind-first}
use Rattle.host_views.proofs.devices.of_devices.Goals as goal

pub loop-i-preserved : goal.loop-i-preserved
loop-i-preserved c =
    let rs : List Region = c.args.memory.now.regions in
    let m : Map = map_of c.args.runs.now in
    let k : ℕ = c.loop-i.i - 1 in
    let next : suc k ≡ c.loop-i.i = omega (arith, c.loop-i-test.true) in
    let none : Region = record { kind = Memory; pages = record { first = record { 0 = 0 }; count = 0 } } in
    let r : Region = get_or rs k none in
    let same : length c.regions-regions.result.now ≡ length rs = ap length c.regions-regions.ensures.value in
    let front : drop k rs ≡ r ∷ drop c.loop-i.i rs =
    drop-cons rs k none (omega (arith, c.loop-i-test.true, c.loop-i.auto.i, same))
    ∙ ap (λ (n : ℕ). r ∷ drop n rs) next in
    let part : map_of c.in_ok-part.part.items ≡ within_range r.pages (λ p. of_kind r.kind (m p)) =
    rw c.regions-regions.ensures.value at c.in_ok-part.ensures.map in
    record {
      map =
          rw c.as_slice.ensures.value at c.in_ok-out-2.ensures.map
          ∙ ap (λ (n : Map). over n (map_of c.loop-i.out.items)) part
          ∙ ap (λ (n : Map). over (within_range r.pages (λ p. of_kind r.kind (m p))) n) c.loop-i.invariant.map
          ∙ kind-first r (drop c.loop-i.i rs) m
          ∙ sym (ap (λ (xs : List Region). λ (p : ℕ). kind_in xs p (m p)) front);
      coarsest = c.in_ok-out-2.ensures.coarsest;
      small = c.in_ok-out-2.ensures.small;
    }

pub returns-clause-map : goal.returns-clause-map
returns-clause-map c =
    let none : c.loop-i.i ≡ 0 = omega (arith, c.loop-i-test.false) in
    c.loop-i.invariant.map
    ∙ ap (λ (n : ℕ). λ (p : ℕ). kind_in (drop n c.args.memory.now.regions) p (map_of c.args.runs.now p)) none
