use Rattle.std.proofs.Common.{rules, true, false, ◌≡◌, ℕ, ◌<◌, [], ◌∷◌, ◌++◌, length, arith, refl, sym, ap, ◌∙◌, subst, length-set}
use Rattle.std.specs.Prelude.{Option, List, Some, IsSome, is_some, slice_get, slice_set, slice_index_or}
use Rattle.std.specs.Vec.{vec_len}
use Rattle.page_state.specs.declared.layout.Layout.{Layout as TheLayout}
use Rattle.part_table.specs.Passes.{AreHomeFrom, IsPassOf, Opened, Pass}
use Rattle.part_table.proofs.Lists.{from}
use Rattle.cpu_threads.specs.Ends.{AreOf, HasAll, IsOut}
use Rattle.cpu_threads.specs.Machines.{AreTheirs}
use Rattle.cpu_threads.proofs.Ends.{Backs, get_of_or, no_some, back_there, back_all, backs_all, backs_none, backs_one, of_front, of_last, all_home_by}
use Rattle.cpu_threads.proofs.passes_back.all_back.Goals.{After-cpu-cpu}
use Rattle.cpu_threads.proofs.passes_back.all_back.Goals as goal

-- the last of the passes that are given, which is taken out, and its CPU, which has a place
record IsLast (t : Opened) (first : List (Option Pass)) (all : List Pass) (ps : List (Option Pass)) (front : List Pass)
    (p : Pass) (n : ℕ) : Type 0 where
  off : AreOf t (front ++ p ∷ [])
  has : HasAll ps (front ++ p ∷ [])
  theirs : AreTheirs t ps
  cpu : n ≡ p.knows.cpu
  inside : n < length ps
  backs : Backs first all ps (front ++ p ∷ [])

last : (g : _) (c : After-cpu-cpu g)
    → IsLast c.args.table.now c.args.passes.items c.args.given.items c.loop-pass.passes.items c.pop.new.self.items
    c.in-Some.pass c.cpu-cpu.result
last g c =
    let i = c.loop-pass.invariant in
    let off = subst (AreOf c.args.table.now) c.in-Some.ensures.items i.3 in
    let of : IsPassOf c.args.table.now c.in-Some.pass =
    of_last c.args.table.now c.loop-pass.passes.items c.pop.new.self.items c.in-Some.pass off in
    let layout : c.in-Some.pass.knows.layout.config.cpus ≡ c.args.table.now.layout.config.cpus =
    ap (λ (l : TheLayout). l.config.cpus) of.layout in
    let below = c.cpu-cpu.ensures.below in
    record {
      off = off;
      has = subst (HasAll c.loop-pass.passes.items) c.in-Some.ensures.items i.4;
      theirs = i.2;
      cpu = c.cpu-cpu.ensures.number;
      inside = omega (arith, below, layout, c.requires.count, i.1);
      backs = subst (Backs c.args.passes.items c.args.given.items c.loop-pass.passes.items) c.in-Some.ensures.items i.5;
    }

module _ {t : Opened} {first : List (Option Pass)} {all : List Pass} {ps : List (Option Pass)} {front : List Pass}
    {p : Pass} {n : ℕ} (d : IsLast t first all ps front p n) where
  off_front : AreOf t front
  off_front = of_front t ps front p d.off

  -- it goes to its CPU's place, which is free
  theirs_there : AreTheirs t (slice_set ps n (Some p))
  theirs_there =
      subst (λ (k : ℕ). AreTheirs t (slice_set ps k (Some p))) (sym d.cpu)
      (back_there t ps front p d.theirs (of_last t ps front p d.off))

  all_there : HasAll (slice_set ps n (Some p)) front
  all_there =
      subst (λ (k : ℕ). HasAll (slice_set ps k (Some p)) front) (sym d.cpu)
      (back_all t ps front p d.has (subst (λ (k : ℕ). k < length ps) d.cpu d.inside))

  backs_there : (o : Option Pass)
      → o ≡ slice_index_or ps n o
      → is_some o ≡ false
      → Backs first all (slice_set ps n (Some p)) front
  backs_there o here gone =
      let out : IsOut ps p.knows.cpu =
      ap (slice_get ps) (sym d.cpu)
      ∙ (get_of_or ps n o d.inside here ∙ ap (λ (z : Option Pass). Some z) (no_some o gone)) in
      subst (λ (k : ℕ). Backs first all (slice_set ps k (Some p)) front) (sym d.cpu)
      (backs_one first ps all front p d.backs out)

  -- a pass that is there is the CPU's
  other_there : (o w : Option Pass) (q : Pass)
      → w ≡ slice_index_or ps n w
      → o ≡ w
      → o ≡ Some q
      → IsPassOf t q × (q.knows.cpu ≡ n)
  other_there o w q here same is =
      d.theirs n q (get_of_or ps n w d.inside here ∙ ap (λ (z : Option Pass). Some z) (sym same ∙ is))

  same_there : (o w : Option Pass) → o ≡ slice_index_or ps n o → w ≡ slice_index_or ps n w → o ≡ w
  same_there o w h k = ap (from o) (sym (get_of_or ps n o d.inside h) ∙ get_of_or ps n w d.inside k)

pub index-requires : goal.index-requires
index-requires g c = let d = last g (goal.at.index-requires g c).After-cpu-cpu in
    let n = d.inside in
    omega (arith, n, c.loop-pass.passes.ok.0)

pub index_mut-requires : goal.index_mut-requires
index_mut-requires g c = let d = last g (goal.at.index_mut-requires g c).After-cpu-cpu in
    let n = d.inside in
    omega (arith, n, c.loop-pass.passes.ok.0)

pub index_mut-requires-in-Some : goal.index_mut-requires-in-Some
index_mut-requires-in-Some g c = let d = last g (goal.at.index_mut-requires-in-Some g c).After-cpu-cpu in
    let n = d.inside in
    omega (arith, n, c.loop-pass.passes.ok.0)

pub unwrap-other-requires : goal.unwrap-other-requires
unwrap-other-requires g c =
    let d = last g (goal.at.unwrap-other-requires g c).After-cpu-cpu in
    let yes : is_some c.index.result.now ≡ true = search rules in
    subst IsSome
    (same_there d c.index.result.now c.index_mut.result.now c.index.ensures c.index_mut.ensures.value
    ∙ sym c.take.ensures.value) yes

pub apart-requires : goal.apart-requires
apart-requires g c =
    let d = last g (goal.at.apart-requires g c).After-cpu-cpu in
    record {
      passes = (
        of_last c.args.table.now c.loop-pass.passes.items c.pop.new.self.items c.in-Some.pass d.off,
        (other_there d c.take.result c.index_mut.result.now c.unwrap-other.result c.index_mut.ensures.value
            c.take.ensures.value c.unwrap-other.ensures).0,
      );
    }

pub unreachable-requires : goal.unreachable-requires
unreachable-requires g c =
    let d = last g (goal.at.unreachable-requires g c).After-cpu-cpu in
    c.apart.ensures
    (sym d.cpu
    ∙ sym
    (other_there d c.take.result c.index_mut.result.now c.unwrap-other.result c.index_mut.ensures.value
    c.take.ensures.value c.unwrap-other.ensures).1)

pub loop-pass-preserved-else-is_some : goal.loop-pass-preserved-else-is_some
loop-pass-preserved-else-is_some g c =
    let i = c.loop-pass.invariant in
    let d = last g (goal.at.loop-pass-preserved-else-is_some g c).After-cpu-cpu in (
      i.0,
      length-set c.loop-pass.passes.items c.cpu-cpu.result (Some c.in-Some.pass)
          ∙ i.1,
      theirs_there d,
      off_front d,
      all_there d,
      backs_there d c.index.result.now c.index.ensures (search rules),
    )

pub loop-pass-preserved : goal.loop-pass-preserved
loop-pass-preserved g c =
    let i = c.loop-pass.invariant in
    let d = last g (goal.at.loop-pass-preserved g c).After-cpu-cpu in (
      i.0,
      length-set c.loop-pass.passes.items c.cpu-cpu.result (Some c.in-Some.pass)
          ∙ i.1,
      theirs_there d,
      off_front d,
      all_there d,
      backs_there d c.index.result.now c.index.ensures (search rules),
    )

pub returns-clause-home : goal.returns-clause-home
returns-clause-home g c =
    let i = c.loop-pass.invariant in
    let t : Opened = c.args.table.now in
    let ps : List (Option Pass) = c.loop-pass.passes.items in
    let empty : c.loop-pass.given.items ≡ [] = search rules in
    let long : length ps ≡ vec_len c.args.passes = search rules in
    subst (λ (n : ℕ). AreHomeFrom t.table n 0 ps) long (all_home_by t ps i.2 (subst (HasAll ps) empty i.4))

pub returns-clause-back : goal.returns-clause-back
returns-clause-back g c =
    let i = c.loop-pass.invariant in
    let ps : List (Option Pass) = c.loop-pass.passes.items in
    let empty : c.loop-pass.given.items ≡ [] = search rules in
    backs_all c.args.passes.items ps c.args.given.items
    (subst (Backs c.args.passes.items c.args.given.items ps) empty i.5)

pub returns-clause-stays : goal.returns-clause-stays
returns-clause-stays g c = c.loop-pass.invariant.5.home

pub loop-pass-init : goal.loop-pass-init
loop-pass-init g c = (
  refl,
  refl,
  c.requires.theirs,
  c.requires.given,
  c.requires.all,
  backs_none c.args.table.now c.args.passes.items c.args.given.items c.requires.theirs,
)

pub returns-clause-few : goal.returns-clause-few
returns-clause-few g c f =
    let i = c.loop-pass.invariant in
    let ps : List (Option Pass) = c.loop-pass.passes.items in
    let empty : c.loop-pass.given.items ≡ [] = search rules in
    let b = subst (Backs c.args.passes.items c.args.given.items ps) empty i.5 in
    omega (arith, b.few f)
