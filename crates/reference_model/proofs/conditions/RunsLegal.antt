-- Each state of a run is legal, and what is asked of a layout holds of each that is accepted.
use Rattle.std.proofs.Common.{◌≡◌, ℕ, suc, ◌+◌, ◌-◌, ◌*◌, ◌^◌, ◌≤◌, ◌<◌, refl, sym, ◌∙◌, subst, arith, inl, inr, List, [], ◌∷◌, All, AllPairs}
use Rattle.std.specs.Prelude.{true, ◌&&◌, nat_le, Option, Some, None, IsSome}
use Rattle.std.specs.List.{list_any}
use Rattle.std.proofs.lemmas.Bool.Decides.{nat_tests}
use Rattle.page_state.specs.declared.entry.PageRange.{PageRange}
use Rattle.page_state.specs.declared.layout.Region.{Region}
use Rattle.call_table.specs.declared.reply.Call.{Call}
use Rattle.page_state.specs.declared.layout.Geometry.{Geometry}
use Rattle.reference_model.specs.model.Boot.{boot, CanBoot}
use Rattle.page_state.specs.Accepted.{IsAcceptedLayout}
use Rattle.page_state.specs.Geometries.{geometry_of, block_pages, pages_below}
use Rattle.page_state.specs.LayoutFaults.{IsAccepted, AreDisjoint, is_memory_around}
use Rattle.page_state.specs.Regions.{is_in_range, end_of, is_memory_kind, is_memory_region, find_region, region_of}
use Rattle.reference_model.specs.model.State.{Reference}
use Rattle.page_state.specs.Layouts.{Layout}
use Rattle.reference_model.specs.model.Run.{Runs}
use Rattle.reference_model.specs.model.Step.{Steps}
use Rattle.reference_model.specs.help.Conditions.{Legal, IsUsable}
use Rattle.reference_model.specs.claims.RunLaws.{RunLegal, RunSound, RunRows, AcceptedUsable, AcceptedDepth, AcceptedMade}
use Rattle.page_state.proofs.Accepted.{memory_below}
use Rattle.page_state.proofs.Geometries.{levels_least, pages_most, width_is}
use Rattle.page_state.proofs.Regions.{found-in, same-region, find-holds}
use Rattle.std.proofs.Common.{mul-le-mul_right}
use Rattle.page_state.proofs.Sizes.{size_some, size_split}
use Rattle.page_state.proofs.Common.{both, and-both}
use Rattle.reference_model.proofs.conditions.BootLegal.{boot_legal}
use Rattle.reference_model.proofs.conditions.Keeps.{legal_keeps}
use Rattle.reference_model.proofs.conditions.OfLegal.{legal_rows}
use Rattle.reference_model.proofs.conditions.SoundOf.{legal_sound}

-- regions

around-page : (range : PageRange) (r : Region) (p : ℕ)
    → is_memory_around range r ≡ true
    → is_in_range range p ≡ true
    → (is_memory_kind r.kind ≡ true) × (is_in_range r.pages p ≡ true)
around-page range r p h w =
    let a =
    and-both (is_memory_kind r.kind && nat_le r.pages.first.0 range.first.0)
    (nat_le (end_of range) (end_of r.pages)) h in
    let b = and-both (is_memory_kind r.kind) (nat_le r.pages.first.0 range.first.0) a.0 in
    (b.0, within r.pages.first.0 r.pages.count range.first.0 range.count b.1 a.1)
  where
    within : (first count f n : ℕ)
        → nat_le first f ≡ true
        → nat_le (f + n) (first + count) ≡ true
        → is_in_range r.pages p ≡ true
    within first count f n a b = grind (arith, nat_tests)

memory-some : (o : Option Region) → is_memory_region o ≡ true → (r : Region) × (o ≡ Some r)
memory-some (Some r) h = (r, refl)
memory-some None h = cc

carved : (range : PageRange) (rs : List Region)
    → AllPairs (λ a b. AreDisjoint a.pages b.pages) rs
    → list_any (is_memory_around range) rs ≡ true
    → (p : ℕ)
    → is_in_range range p ≡ true
    → is_memory_region (find_region rs p) ≡ true
carved range [] apart h p w = cc
carved range (q ∷ rs) apart h p w = elim (both (is_memory_around range q)) [
  | inl e ↦ let x = around-page range q p e w in let in_q : is_in_range q.pages p ≡ true = x.1 in rw in_q x.0
  | inr e ↦
      let more : list_any (is_memory_around range) rs ≡ true = rw e at h in
      let rest : is_memory_region (find_region rs p) ≡ true =
      carved range rs (λ i j d a b. apart (suc i) (suc j) d (omega arith) (omega arith)) more p w in
      let r = memory-some (find_region rs p) rest in
      let x = found-in rs p r.0 r.1 in
      let less = x.1 in
      elim (both (is_in_range q.pages p)) [
        | inl k ↦ absurd
            (apart 0 (suc x.0) r.0 (omega arith) (omega arith) p k
            (subst (λ (y : Region). is_in_range y.pages p ≡ true) (sym x.2) (find-holds rs p r.0 r.1)))
        | inr k ↦ rw k rest
      ]
]

three-levels : (depth : ℕ) → 2 ≤ depth → 2 ^ 27 ≤ pages_below depth
three-levels depth h =
    let split : block_pages (depth + 1) ≡ block_pages (depth + 1 - 3) * block_pages 3 =
    size_split (depth + 1) 3 (omega arith) in
    let some : 1 * block_pages 3 ≤ block_pages (depth + 1 - 3) * block_pages 3 =
    mul-le-mul_right (block_pages 3) (size_some (depth + 1 - 3)) in
    omega arith

-- what is asked of a layout holds of accepted memory, in trees of three levels and more
usable_of : (l : Layout) → IsAccepted l.memory → 2 ≤ l.depth → IsUsable l
usable_of l a deep = record {
  pages = λ f m. let less = memory_below l.memory f a m in let size = three-levels l.depth deep in omega arith;
  regions = λ page p r h w. same-region l.memory.regions a.disjoint page p r h w;
  below = λ page r h. under page r h;
  carve = λ f w. carved l.memory.carve l.memory.regions a.disjoint a.carve f w;
}
  where
    under : (page : ℕ) (r : Region) → region_of l.memory page ≡ Some r → page < pages_below l.depth
    under page r h =
        let x = found-in l.memory.regions page r h in
        let limit : end_of r.pages ≤ 2 ^ 26 =
        subst (λ (y : Region). end_of y.pages ≤ 2 ^ 26) x.2 (a.limits.0 x.0 r x.1) in
        let size = three-levels l.depth deep in
        let high : page < end_of r.pages = last (find-holds l.memory.regions page r h) in
        omega arith
      where
        last : is_in_range r.pages page ≡ true → page < end_of r.pages
        last w = grind (arith, nat_tests)

-- the depth by the geometry

pub accepted_depth : AcceptedDepth
accepted_depth l g accepted h =
    let width = width_is l.config.geometry g h in
    let told : l.config.geometry ≡ 12 + 9 * (l.depth + 1) = accepted.depth in
    let some = levels_least g in
    (omega arith, omega arith)

pub accepted_made : AcceptedMade
accepted_made m c g memory config h = record { memory = memory; config = config; depth = width_is c.geometry g h }

geometry-some : (o : Option Geometry) → IsSome o → (g : Geometry) × (o ≡ Some g)
geometry-some (Some g) h = (g, refl)
geometry-some None h = cc

pub accepted_usable : AcceptedUsable
accepted_usable l accepted = let g = geometry-some (geometry_of l.config.geometry) accepted.config.known in
    usable_of l accepted.memory (accepted_depth l g.0 accepted g.1).1

-- the pages of an accepted layout's trees have numbers of 36 bits
pub few-pages : (l : Layout) → IsAcceptedLayout l → pages_below l.depth ≤ 2 ^ 36
few-pages l accepted = let g = geometry-some (geometry_of l.config.geometry) accepted.config.known in
    subst (λ d. pages_below d ≤ 2 ^ 36) (sym (accepted_depth l g.0 accepted g.1).0) (pages_most g.0)

pub ready-usable : (l : Layout) → CanBoot l → IsUsable l
ready-usable l ready = accepted_usable l ready.accepted

-- runs

run-from : (l : Layout) (cs : List Call) (s t : Reference)
    → IsUsable l
    → All (λ c. c.cpu < l.config.cpus) cs
    → Legal l s.contents
    → Runs (Steps l) s cs t
    → Legal l t.contents
run-from l [] s t usable known legal run = subst (λ (u : Reference). Legal l u.contents) run legal
run-from l (c ∷ cs) s t usable known legal run =
    run-from l cs run.0 t usable (λ k d less. known (suc k) d (omega arith))
    (legal_keeps l s run.0 c usable (known 0 c (omega arith)) legal run.1) run.2

pub run_legal : RunLegal
run_legal l cs t ready run =
    run-from l cs (boot l) t (ready-usable l ready) run.cpus
    (boot_legal l ready.enough (ready-usable l ready)) run.leads

pub run_sound : RunSound
run_sound l cs t ready run = legal_sound l t.contents (run_legal l cs t ready run) (ready-usable l ready)

pub run_rows : RunRows
run_rows l cs t ready run f m = let legal = run_legal l cs t ready run in
    legal.rows f m ∙ sym (legal_rows l t.contents legal (ready-usable l ready) f)
