use Rattle.std.proofs.Common.{◌≡◌, ℕ, ◌+◌, ◌<◌, ◌≤◌, length, arith, sym, ap, ◌∙◌, refl, subst, le_refl}
use Rattle.std.specs.Prelude.{Option, List}
use Rattle.std.specs.Vec.{vec_capacity, vec_len}
use Rattle.part_types.specs.declared.parts.CpuState.{CpuState}
use Rattle.part_table.specs.Endings.{HaveEnded, ended_of}
use Rattle.part_table.specs.Passes.{Pass}
use Rattle.part_table.specs.Rule.{Ended}
use Rattle.part_table.proofs.Lists.{one_more_ended}
use Rattle.part_table.proofs.table_of_parts.join_all.Goals as goal

le_le : (a b c : ℕ) → a ≤ b → b ≤ c → a ≤ c
le_le a b c h k = omega arith

less_all : (n m k : ℕ) → n < k → k ≡ m → n < m
less_all n m k h e = omega arith

pub join_one-own-requires-clause-table : goal.join_one-own-requires-clause-table
join_one-own-requires-clause-table g c = (c.loop-cpu.invariant.0 ∙ c.requires.table.0, c.requires.table.1)

pub join_one-own-requires-clause-root : goal.join_one-own-requires-clause-root
join_one-own-requires-clause-root g c =
    let i = c.loop-cpu.invariant in
    let below : c.loop-cpu.cpu < c.args.root.now.me.0.made =
    less_all _ _ _ c.loop-cpu-test.true (c.len-count.ensures ∙ sym c.requires.root.3) in
    (i.1, i.2, i.5.0, subst (λ (m : ℕ). c.loop-cpu.cpu < m) (sym i.3) below)

pub join_one-own-requires-clause-inside : goal.join_one-own-requires-clause-inside
join_one-own-requires-clause-inside g c =
    subst (λ (m : ℕ). c.loop-cpu.cpu < m) (sym c.loop-cpu.invariant.8) c.loop-cpu-test.true

pub join_one-own-requires-clause-there : goal.join_one-own-requires-clause-there
join_one-own-requires-clause-there g c =
    let n : ℕ = c.loop-cpu.cpu in
    let h = c.requires.home n (omega arith) (less_all _ _ _ c.loop-cpu-test.true c.len-count.ensures) in
    (h.0, c.loop-cpu.invariant.9 n (le_refl n) ∙ h.1, h.2 ∙ sym c.loop-cpu.invariant.0, h.3)

pub loop-cpu-preserved : goal.loop-cpu-preserved
loop-cpu-preserved g c =
    let i = c.loop-cpu.invariant in
    let n : ℕ = c.loop-cpu.cpu in
    let e = c.join_one-own.ensures in
    let items = c.push_in_room.ensures.items in
    let ps : List (Option Pass) = c.args.passes.items in
    let h = c.requires.home n (omega arith) (less_all _ _ _ c.loop-cpu-test.true c.len-count.ensures) in
    let d = e.ended h.0 (i.9 n (le_refl n) ∙ h.1) in (
      e.root.0 ∙ i.0,
      e.root.1,
      e.root.2,
      e.root.3 ∙ i.3,
      e.hand ∙ i.4,
      subst (λ (z : List Ended × List CpuState). HaveEnded (n + 1) ps z.0 z.1) (λ k. (sym d.0 k, sym items k))
          (one_more_ended n ps c.loop-cpu.root.me.0.ended c.loop-cpu.cpus.items h.0
          (ended_of h.0) c.join_one-own.result i.5 h.1 refl d.1),
      c.push_in_room.ensures.len ∙ ap (λ m. m + 1) i.6,
      le_le _ _ _ i.7 c.push_in_room.ensures.room,
      e.count ∙ i.8,
      λ j from. e.others j (λ z. omega arith) ∙ i.9 j (omega arith),
      e.root.4 ∙ i.10,
    )

pub loop-cpu-init : goal.loop-cpu-init
loop-cpu-init g c =
    let r = c.requires.root in
    let count : vec_len c.args.passes ≡ c.len-count.result = sym c.len-count.ensures in
    let none : vec_len c.args.cpus ≡ 0 = c.args.cpus.ok.0 ∙ ap (λ (l : List CpuState). length l) c.requires.room.0 in (
      refl,
      r.0,
      r.1,
      refl,
      r.4,
      (
        ap (λ (l : List Ended). length l) r.2,
        ap (λ (l : List CpuState). length l) c.requires.room.0,
        λ j p lt _. absurd (omega arith),
      ),
      none,
      subst (λ (n : ℕ). n ≤ vec_capacity c.args.cpus) count c.requires.room.1,
      count,
      λ j from. refl,
      refl,
    )

pub returns-clause-ended : goal.returns-clause-ended
returns-clause-ended g c =
    let n : c.loop-cpu.cpu ≡ c.args.root.now.me.0.made =
    omega (arith, c.loop-cpu-test.false, c.loop-cpu.auto.cpu-end, c.len-count.ensures, c.requires.root.3) in
    subst
    (λ (k : ℕ). HaveEnded k c.args.passes.items c.loop-cpu.root.me.0.ended c.loop-cpu.cpus.items) n
    c.loop-cpu.invariant.5
