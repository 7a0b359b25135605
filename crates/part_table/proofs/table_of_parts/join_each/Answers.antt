use Rattle.std.proofs.Common.{◌≡◌, ℕ, ◌+◌, ◌<◌, [], ◌∷◌, ◌++◌, length, arith, sym, ap, ◌∙◌, refl, subst, le_refl}
use Rattle.std.specs.Prelude.{Option, List}
use Rattle.std.proofs.lemmas.List.{map-append}
use Rattle.part_table.specs.Endings.{HaveEnded, ended_of, owns_of}
use Rattle.part_table.specs.Passes.{Pass}
use Rattle.part_table.specs.Rule.{Ended}
use Rattle.part_table.proofs.Lists.{one_more_ended}
use Rattle.part_table.proofs.table_of_parts.join_each.Goals as goal

less_all : (n m k : ℕ) → n < k → k ≡ m → n < m
less_all n m k h e = omega arith

pub join_one-requires-clause-table : goal.join_one-requires-clause-table
join_one-requires-clause-table g c = (c.loop-cpu.invariant.0 ∙ c.requires.table.0, c.requires.table.1)

pub join_one-requires-clause-root : goal.join_one-requires-clause-root
join_one-requires-clause-root g c =
    let i = c.loop-cpu.invariant in
    let below : c.loop-cpu.cpu < c.args.root.now.me.0.made =
    less_all _ _ _ c.loop-cpu-test.true (c.len-count.ensures ∙ sym c.requires.root.3) in
    (i.1, i.2, i.5.0, subst (λ (m : ℕ). c.loop-cpu.cpu < m) (sym i.3) below)

pub join_one-requires-clause-inside : goal.join_one-requires-clause-inside
join_one-requires-clause-inside g c =
    less_all _ _ _ c.loop-cpu-test.true (c.len-count.ensures ∙ sym c.loop-cpu.invariant.6)

pub join_one-requires-clause-there : goal.join_one-requires-clause-there
join_one-requires-clause-there g c =
    let n : ℕ = c.loop-cpu.cpu in
    let h = c.requires.home n (omega arith) (less_all _ _ _ c.loop-cpu-test.true c.len-count.ensures) in
    (h.0, c.loop-cpu.invariant.7 n (le_refl n) ∙ h.1, h.2 ∙ sym c.loop-cpu.invariant.0, h.3)

pub loop-cpu-preserved : goal.loop-cpu-preserved
loop-cpu-preserved g c =
    let i = c.loop-cpu.invariant in
    let n : ℕ = c.loop-cpu.cpu in
    let e = c.join_one.ensures in
    let ps : List (Option Pass) = c.args.passes.items in
    let h = c.requires.home n (omega arith) (less_all _ _ _ c.loop-cpu-test.true c.len-count.ensures) in
    let d = e.ended h.0 (i.7 n (le_refl n) ∙ h.1) in
    let old : List Ended = c.loop-cpu.root.me.0.ended in
    let last : Ended = ended_of h.0 in
    let owns : owns_of (old ++ last ∷ []) ≡ owns_of old ++ h.0.knows.own ∷ [] =
    map-append (λ (z : Ended). z.0) old (last ∷ []) in (
      e.root.0 ∙ i.0,
      e.root.1,
      e.root.2,
      e.root.3 ∙ i.3,
      e.hand ∙ i.4,
      subst (λ (z : List Ended). HaveEnded (n + 1) ps z (owns_of z)) (sym d.0)
          (subst (HaveEnded (n + 1) ps (old ++ last ∷ [])) (sym owns)
          (one_more_ended n ps old (owns_of old) h.0 last h.0.knows.own i.5 h.1 refl refl)),
      e.count ∙ i.6,
      λ j from. e.others j (λ z. omega arith) ∙ i.7 j (omega arith),
      e.root.4 ∙ i.8,
    )

pub loop-cpu-init : goal.loop-cpu-init
loop-cpu-init g c =
    let r = c.requires.root in (
      refl,
      r.0,
      r.1,
      refl,
      r.4,
      (
        ap (λ (l : List Ended). length l) r.2,
        ap (λ (l : List Ended). length (owns_of l)) r.2,
        λ j p lt _. absurd (omega arith),
      ),
      refl,
      λ j from. refl,
      refl,
    )

pub returns-clause-ended : goal.returns-clause-ended
returns-clause-ended g c =
    let n : c.loop-cpu.cpu ≡ c.args.root.now.me.0.made =
    omega (arith, c.loop-cpu-test.false, c.loop-cpu.auto.cpu-end, c.len-count.ensures, c.requires.root.3) in
    subst
    (λ (k : ℕ). HaveEnded k c.args.passes.items c.loop-cpu.root.me.0.ended (owns_of c.loop-cpu.root.me.0.ended)) n
    c.loop-cpu.invariant.5
