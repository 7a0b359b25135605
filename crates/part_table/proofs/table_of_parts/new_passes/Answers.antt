use Rattle.std.proofs.Common.{arith, ◌≡◌, ℕ, suc, ◌+◌, ◌≤◌, ◌<◌, [], ◌∷◌, ◌++◌, length, refl, sym, ap, ◌∙◌, subst, slice_get}
use Rattle.std.specs.Global.{Global}
use Rattle.std.specs.Prelude.{Option, Some, List, Vec, slice_index_or}
use Rattle.std.specs.Vec.{vec_len}
use Rattle.atomic_table.specs.Seated.{TableId}
use Rattle.part_types.specs.declared.parts.CpuState.{CpuState}
use Rattle.part_table.specs.declared.rule.Begun.{Begun}
use Rattle.part_table.specs.Passes.{AreFirst, Opened, Pass, first_pass, opened_as}
use Rattle.part_table.specs.Beginnings.{begun_in, no_own, own_in}
use Rattle.part_table.specs.Rule.{Seated, one_more, rooted}
use Rattle.part_table.proofs.Lists.{first_more, or_of_get}
use Rattle.part_table.proofs.PutTogether.{first_out}
use Rattle.part_table.proofs.Root.{first_id}
use Rattle.part_table.proofs.table_of_parts.new_passes.Goals as goal
use Rattle.part_table.proofs.table_of_parts.new_passes.Goals.{After-remove-own}

-- the counts of what is left when one more was taken
one_less : (old new n count : ℕ) → old + n ≡ count → new + 1 ≡ old → new + (n + 1) ≡ count
one_less old new n count a b = omega arith

le_le : (a b c : ℕ) → a ≤ b → b ≤ c → a ≤ c
le_le a b c h k = omega arith

-- the first of the list is the next CPU's, and the rest are those after it
first_own : (b : Begun) (n : ℕ) (ks rest : List CpuState) (k : CpuState)
    → ks ≡ k ∷ rest
    → ((i : ℕ) (j : CpuState) → slice_get ks i ≡ Some j → j ≡ own_in b (i + n))
    → k ≡ own_in b n
first_own b n ks rest k e all =
    all 0 k (ap (λ (l : List CpuState). slice_get l 0) e) ∙ ap (own_in b) (let z : 0 + n ≡ n = omega arith in z)

rest_own : (b : Begun) (n : ℕ) (ks rest : List CpuState) (k : CpuState)
    → ks ≡ k ∷ rest
    → ((i : ℕ) (j : CpuState) → slice_get ks i ≡ Some j → j ≡ own_in b (i + n))
    → (i : ℕ) (j : CpuState)
    → slice_get rest i ≡ Some j
    → j ≡ own_in b (i + (n + 1))
rest_own b n ks rest k e all i j there =
    all (suc i) j (ap (λ (l : List CpuState). slice_get l (suc i)) e ∙ there)
    ∙ ap (own_in b) (let z : suc i + n ≡ i + (n + 1) = omega arith in z)

some_left : (left n count : ℕ) → left + n ≡ count → n < count → 0 < left
some_left left n count e l = omega arith

-- what was taken out
front : (g : _) (c : After-remove-own g) → c.loop-made.owns.items ≡ c.remove-own.result ∷ c.remove-own.new.self.items
front g c =
    first_out c.loop-made.owns.items c.remove-own.new.self.items c.remove-own.result
    (let some = some_left _ _ _ c.loop-made.invariant.3 c.loop-made-test.true in
    omega (arith, some, c.loop-made.owns.ok.0)) c.remove-own.ensures.value c.remove-own.ensures.items

own_there : (ks : List CpuState) (i : ℕ) (k : CpuState) → slice_get ks i ≡ Some k → k ≡ slice_index_or ks i no_own
own_there ks i k e = sym (or_of_get ks i no_own k e)

same_le : (a b n : ℕ) → a ≡ b → a ≤ n → b ≤ n
same_le a b n e h = subst (λ (m : ℕ). m ≤ n) e h

pub remove-own-requires : goal.remove-own-requires
remove-own-requires g c = some_left _ _ _ c.loop-made.invariant.3 c.loop-made-test.true

own_is : (g : _) (c : After-remove-own g)
    → c.remove-own.result ≡ own_in (begun_in c.args.table.now.shared.key) c.loop-made._made
own_is g c =
    first_own (begun_in c.args.table.now.shared.key) c.loop-made._made _ _ c.remove-own.result
    (front g c) c.loop-made.invariant.4

id_is : (g : _) (c : After-remove-own g) → c.remove-own.result.id ≡ c.loop-made._made
id_is g c =
    let n : ℕ = c.loop-made._made in
    let below : n < c.args.table.now.shared.key.layout.config.cpus =
    omega (arith, c.loop-made-test.true, c.requires.count, c.len-count.ensures) in
    ap (λ (k : CpuState). k.id) (own_is g c)
    ∙ first_id g.row.A.Denot c.args.table.now.shared.key.layout
    (begun_in c.args.table.now.shared.key) c.requires.left n below

pub new_pass-pass-requires-clause-own : goal.new_pass-pass-requires-clause-own
new_pass-pass-requires-clause-own g c =
    own_is g (goal.at.new_pass-pass-requires-clause-own g c).After-remove-own
    ∙ ap (own_in (begun_in c.args.table.now.shared.key))
    (sym (id_is g (goal.at.new_pass-pass-requires-clause-own g c).After-remove-own))

pub new_pass-pass-requires-clause-root : goal.new_pass-pass-requires-clause-root
new_pass-pass-requires-clause-root g c =
    let i = c.loop-made.invariant in (
      i.1,
      ap (λ (m : Seated g.row.A.Denot). m.0.root) i.2,
      ap (λ (m : Seated g.row.A.Denot). m.0.made) i.2
          ∙ sym (id_is g (goal.at.new_pass-pass-requires-clause-root g c).After-remove-own),
      ap (λ (m : Seated g.row.A.Denot). m.0.layout) i.2,
    )

pub new_pass-pass-requires-clause-begun : goal.new_pass-pass-requires-clause-begun
new_pass-pass-requires-clause-begun g c = ap (λ (m : Seated g.row.A.Denot). m.0.begun) c.loop-made.invariant.2

pub loop-made-preserved : goal.loop-made-preserved
loop-made-preserved g c =
    let b : Begun = begun_in c.args.table.now.shared.key in
    let n : ℕ = c.loop-made._made in
    let i = c.loop-made.invariant in
    let r = c.new_pass-pass.ensures.root in
    let ps : List (Option Pass) = c.loop-made.passes.items in
    let of : TableId → Opened = λ (t : TableId). opened_as t c.args.table.now.shared.key.layout b in
    let t : Opened = of c.args.root.now.table_id in
    let items : c.push_in_room.new.list.items ≡ ps ++ Some c.new_pass-pass.result ∷ [] = c.push_in_room.ensures.items in
    let new : c.new_pass-pass.result ≡ first_pass t n =
    c.new_pass-pass.ensures.pass ∙ ap (λ (z : TableId). first_pass (of z) c.remove-own.result.id) i.0
    ∙ ap (first_pass t) (id_is g (goal.at.loop-made-preserved g c).After-remove-own) in (
      r.0 ∙ i.0,
      r.1,
      r.2 ∙ ap (λ (m : Seated g.row.A.Denot). (one_more m.0, m.1)) i.2,
      one_less _ _ n _ i.3 c.remove-own.ensures.len,
      rest_own b n _ _ c.remove-own.result (front g (goal.at.loop-made-preserved g c).After-remove-own) i.4,
      c.push_in_room.ensures.len ∙ ap (λ k. k + 1) i.5,
      le_le _ _ _ i.6 c.push_in_room.ensures.room,
      subst (λ (l : List (Option Pass)). AreFirst t (n + 1) l) (sym items)
          (first_more t n ps c.new_pass-pass.result i.7 new),
    )

pub new_pass-pass-requires-clause-table : goal.new_pass-pass-requires-clause-table
new_pass-pass-requires-clause-table g c = (c.loop-made.invariant.0 ∙ c.requires.table.0, c.requires.table.1)

pub new_pass-pass-requires-clause-known : goal.new_pass-pass-requires-clause-known
new_pass-pass-requires-clause-known g c = let is =
    id_is g (goal.at.new_pass-pass-requires-clause-known g c).After-remove-own in
    omega (arith, is, c.loop-made-test.true, c.requires.count, c.len-count.ensures)

pub new_pass-pass-requires-clause-left : goal.new_pass-pass-requires-clause-left
new_pass-pass-requires-clause-left g c = c.requires.left

pub loop-made-init : goal.loop-made-init
loop-made-init g c =
    let none : vec_len c.args.passes ≡ 0 = c.args.passes.ok.0 ∙ ap length c.requires.room.0 in (
      refl,
      c.requires.root.0,
      c.requires.root.1,
      omega (arith, c.len-count.ensures),
      (λ i k there. own_there c.args.table.now.shared.key.owns.value.items i k
          (ap (λ (v : Vec CpuState Global). slice_get v.items i) (sym c.requires.owns) ∙ there)
          ∙ ap (own_in (begun_in c.args.table.now.shared.key)) (let z : i ≡ i + 0 = omega arith in z)),
      none,
      same_le _ _ _ (sym c.len-count.ensures) c.requires.room.1,
      (ap length c.requires.room.0, λ j lt. absurd (omega arith)),
    )

pub returns-clause-root : goal.returns-clause-root
returns-clause-root g c = let n : c.loop-made._made ≡ c.args.table.now.shared.key.layout.config.cpus =
    omega (arith, c.loop-made-test.false, c.loop-made.auto._made-end, c.requires.count, c.len-count.ensures) in
    let i = c.loop-made.invariant in
    (i.0, i.1, i.2 ∙ ap (λ (k : ℕ). (record (rooted c.args.table.now.shared.key) { made = k }, [])) n)

pub returns-clause-passes : goal.returns-clause-passes
returns-clause-passes g c = let n : c.loop-made._made ≡ vec_len c.args.owns =
    omega (arith, c.loop-made-test.false, c.loop-made.auto._made-end, c.len-count.ensures) in
    subst
    (λ (k : ℕ). AreFirst
    (opened_as c.args.root.now.table_id c.args.table.now.shared.key.layout
    (begun_in c.args.table.now.shared.key)) k c.loop-made.passes.items) n c.loop-made.invariant.7
