use Rattle.std.proofs.Common.{◌≡◌, ℕ, ◌<◌, ◌≤◌, List, length, length-set, refl, sym, ap, ◌∙◌, subst, arith}
use Rattle.std.specs.Prelude.{Option, Some, slice_get, slice_set, IfSome}
use Rattle.part_table.specs.Passes.{IsPassOf, Opened, Pass}
use Rattle.cpu_threads.specs.Machines.{HandsOut, Machine}
use Rattle.cpu_threads.proofs.Ends.{get_of_or}
use Rattle.cpu_threads.proofs.Tries.{fresh_theirs, handed, hands_out, others_fresh}
use Rattle.cpu_threads.proofs.machine.Machine.pass.Goals as goal

pub returns-clause-pass : goal.returns-clause-pass
returns-clause-pass g c =
    let ps : List (Option Pass) = c.self.inside.passes.items in
    let n : ℕ = c.args.cpu in
    let o : Option Pass = c.index_mut.result.now in
    let inside : n < length ps = omega (arith, c.if-cpu-len.false, c.len.ensures, c.self.inside.passes.ok.0) in
    let there : slice_get ps n ≡ Some c.take.result =
    get_of_or ps n o inside c.index_mut.ensures.value
    ∙ ap (λ (p : Option Pass). Some p) (sym c.take.ensures.value) in
    subst (λ (t : Opened). IfSome c.take.result (λ p. IsPassOf t p × (p.knows.cpu ≡ n)))
    (ap (λ (m : Machine). m.table) c.self.view_is)
    (handed c.self.inside.table ps n c.take.result
    (fresh_theirs c.self.inside.table ps c.self.invariant.fresh) there)

pub returns-then-cpu-len-clause-table : goal.returns-then-cpu-len-clause-table
returns-then-cpu-len-clause-table g c = refl

pub returns-then-cpu-len-clause-hands : goal.returns-then-cpu-len-clause-hands
returns-then-cpu-len-clause-hands g c =
    let long : length c.self.inside.passes.items ≡ length c.args.self.now.passes =
    ap (λ (m : Machine). length m.passes) c.self.view_is in
    let outside : length c.args.self.now.passes ≤ c.args.cpu =
    omega (arith, long, c.if-cpu-len.true, c.len.ensures, c.self.inside.passes.ok.0) in
    record {
      there = λ lt. absurd (omega (arith, lt, outside));
      beyond = λ _. refl;
      others = λ j ne. refl;
      count = refl;
    }

pub returns-then-cpu-len-clause-pass : goal.returns-then-cpu-len-clause-pass
returns-then-cpu-len-clause-pass g c = tt

pub index_mut-requires : goal.index_mut-requires
index_mut-requires g c = omega (arith, c.if-cpu-len.false, c.len.ensures)

pub invariant_of-self : goal.invariant_of-self
invariant_of-self g c =
    let ps : List (Option Pass) = c.self.inside.passes.items in
    let n : ℕ = c.args.cpu in
    let inside : n < length ps = omega (arith, c.if-cpu-len.false, c.len.ensures, c.self.inside.passes.ok.0) in
    record {
      count = length-set ps n c.take.new.self ∙ c.self.invariant.count;
      fresh = others_fresh ps n c.take.new.self inside c.take.ensures.after c.self.inside.table c.self.invariant.fresh;
    }

pub returns-clause-table : goal.returns-clause-table
returns-clause-table g c = ap (λ (m : Machine). m.table) c.self.view_is

pub returns-clause-hands : goal.returns-clause-hands
returns-clause-hands g c =
    let ps : List (Option Pass) = c.self.inside.passes.items in
    let n : ℕ = c.args.cpu in
    let o : Option Pass = c.index_mut.result.now in
    let inside : n < length ps = omega (arith, c.if-cpu-len.false, c.len.ensures, c.self.inside.passes.ok.0) in
    let there : slice_get ps n ≡ Some c.take.result =
    get_of_or ps n o inside c.index_mut.ensures.value
    ∙ ap (λ (p : Option Pass). Some p) (sym c.take.ensures.value) in
    subst (λ (l : List (Option Pass)). HandsOut c.take.result n l (slice_set ps n c.take.new.self))
    (ap (λ (m : Machine). m.passes) c.self.view_is)
    (hands_out ps n c.take.new.self inside c.take.ensures.after c.take.result there)
