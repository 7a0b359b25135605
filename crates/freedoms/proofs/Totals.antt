-- How many frames a guest holds, by the conditions: whatever its tables are, as many as the rows say.
use Rattle.std.proofs.Common.{◌≡◌, ℕ, zero, suc, ◌+◌, ◌-◌, ◌≤◌, ◌<◌, refl, ap, sym, ◌∙◌, arith, inl, inr, [], ◌∷◌, length}
use Rattle.std.specs.Prelude.{false, ◌&&◌, ◌==◌, is_some, Option, Some, None}
use Rattle.std.proofs.lemmas.Bool.Decides.{nat_tests}
use mathlib.Core.Path.{fun_ext}
use Rattle.page_state.proofs.Common.{both, eq-self}
use Rattle.page_state.proofs.Counts.{count_next}
use Rattle.page_state.specs.Counts.{is_one, frame_count}
use Rattle.page_state.specs.Geometries.{block_pages, pages_below}
use Rattle.page_state.specs.Layouts.{Layout, is_memory}
use Rattle.page_state.specs.Search.{count_below}
use Rattle.page_state.specs.Trees.{Block, Pool}
use Rattle.page_state.specs.declared.row.Row.{Row}
use Rattle.page_state.specs.declared.row.Usage.TheVariants.{Plain, SharedPool, VmPool, InHand}
use Rattle.reference_model.proofs.conditions.SoundOf.{one-true, in_vm-is}
use Rattle.reference_model.proofs.conditions.Tables.{uses_of, uses-some}
use Rattle.reference_model.specs.help.Conditions.{Condition, outside, hosts, with_hyp, hyps, with_guest, guests, lent_back, IsUsable, is_inside, in_vm, one, table_uses, guest_uses, row_in}
use Rattle.reference_model.specs.model.GuestRules.{guest_table_count}
use Rattle.reference_model.specs.model.Owner.{count_blocks, is_frame}
use Rattle.reference_model.specs.model.State.{Guest, Contents}
use Rattle.freedoms.specs.AnyTrees.{LegalInAnyTrees}
use Rattle.freedoms.specs.Laws.{is_pool_of}

-- the sum of a function below a bound
pub sum_below : ℕ → (ℕ → ℕ) → ℕ
sum_below zero g = 0
sum_below (suc n) g = g n + sum_below n g

sum-plus : (n : ℕ) (g h : ℕ → ℕ) → sum_below n (λ f. g f + h f) ≡ sum_below n g + sum_below n h
unfolding sum_below
sum-plus zero g h = refl
sum-plus (suc n) g h = let e = sum-plus n g h in omega arith

sum-none : (n : ℕ) → sum_below n (λ f. 0) ≡ 0
unfolding sum_below
sum-none zero = refl
sum-none (suc n) = let e = sum-none n in omega arith

sum-past : (n k : ℕ) → n ≤ k → sum_below n (λ f. is_one k f) ≡ 0
unfolding sum_below
sum-past zero k h = refl
sum-past (suc n) k h =
    let e = sum-past n k (omega arith) in
    let apart : (k == n) ≡ false = grind (arith, nat_tests) in
    let none : is_one k n ≡ 0 = ap one apart in
    omega arith

sum-one : (n k : ℕ) → k < n → sum_below n (λ f. is_one k f) ≡ 1
unfolding sum_below
sum-one zero k h = absurd (omega arith)
sum-one (suc n) k h = elim (both (k == n)) [
  | inl t ↦
      let same : k ≡ n = grind (arith, nat_tests) in
      let e = sum-past n k (omega arith) in
      let here : is_one k n ≡ 1 = ap one t in
      omega arith
  | inr t ↦
      let less : k < n = grind (arith, nat_tests) in
      let e = sum-one n k less in
      let none : is_one k n ≡ 0 = ap one t in
      omega arith
]

sum-free : (n : ℕ) (fs : Pool)
    → ((f : ℕ) → 1 ≤ frame_count f fs → f < n)
    → sum_below n (λ f. frame_count f fs) ≡ length fs
sum-free n [] low = sum-none n
sum-free n (g ∷ gs) low =
    let here : g < n =
    low g (let k = count_next g g gs in let e : is_one g g ≡ 1 = ap one (eq-self g) in omega arith) in
    let rest = sum-free n gs (λ f h. low f (let k = count_next f g gs in omega arith)) in
    let parts : sum_below n (λ f. frame_count f (g ∷ gs)) ≡ sum_below n (λ f. is_one g f + frame_count f gs) =
    ap (sum_below n) (fun_ext (λ f. count_next f g gs)) in
    let both-parts = sum-plus n (λ f. is_one g f) (λ f. frame_count f gs) in
    let first = sum-one n g here in
    omega arith

sum-frame : (n : ℕ) (o : Option ℕ)
    → ((f : ℕ) → o ≡ Some f → f < n)
    → sum_below n (λ f. one (is_frame f o)) ≡ one (is_some o)
sum-frame n None low = sum-none n
sum-frame n (Some g) low = sum-one n g (low g refl)

sum-count : (n k : ℕ) (table : ℕ → Option ℕ)
    → ((i f : ℕ) → table i ≡ Some f → f < n)
    → sum_below n (λ f. count_below k (λ i. is_frame f (table i))) ≡ count_below k (λ i. is_some (table i))
sum-count n zero table low = sum-none n
sum-count n (suc k) table low =
    let both-parts = sum-plus n (λ f. one (is_frame f (table k))) (λ f. count_below k (λ i. is_frame f (table i))) in
    let first = sum-frame n (table k) (low k) in
    let rest = sum-count n k table low in
    both-parts ∙ ap (λ m. m + sum_below n (λ f. count_below k (λ i. is_frame f (table i)))) first
    ∙ ap (λ m. one (is_some (table k)) + m) rest

sum-blocks : (n top d : ℕ) (table : Block → Option ℕ)
    → ((b : Block) (f : ℕ) → table b ≡ Some f → f < n)
    → sum_below n (λ f. count_blocks top d (λ b. is_frame f (table b))) ≡ count_blocks top d (λ b. is_some (table b))
sum-blocks n top zero table low = sum-none n
sum-blocks n top (suc d) table low =
    let both-parts =
    sum-plus n (λ f. count_below (block_pages (top - suc d)) (λ i. is_frame f (table (suc d, i))))
    (λ f. count_blocks top d (λ b. is_frame f (table b))) in
    let first = sum-count n (block_pages (top - suc d)) (λ i. table (suc d, i)) (λ i. low (suc d, i)) in
    let rest = sum-blocks n top d table low in
    both-parts ∙ ap (λ m. m + sum_below n (λ f. count_blocks top d (λ b. is_frame f (table b)))) first
    ∙ ap (λ m. count_below (block_pages (top - suc d)) (λ i. is_some (table (suc d, i))) + m) rest

-- all that a guest holds
abbrev pub total : Layout → Guest → ℕ
total l g = guest_table_count l g.tree + length g.free

module _ (l : Layout) (usable : IsUsable l) (s : Contents) (legal : LegalInAnyTrees l s) (v : ℕ) where
  -- a frame that it holds lies in the trees
  held-low : (f : ℕ) → 1 ≤ guest_uses l.depth (s.guest v) f → f < pages_below l.depth
  held-low f some =
      let named =
      in_vm-is v (legal.state.frames.condition f)
      (one-true (in_vm v (legal.state.frames.condition f)) (guest_uses l.depth (s.guest v) f) some
      (legal.state.frames.held.vm v f)) in
      let less = usable.pages f (sym (legal.state.frames.of_layout.inside f) ∙ ap is_inside named) in
      omega arith

  pub total-is : total l (s.guest v)
      ≡ sum_below (pages_below l.depth) (λ f. one (in_vm v (legal.state.frames.condition f)))
  unfolding table_uses uses_of
  total-is =
      let g = s.guest v in
      let n = pages_below l.depth in
      let free = sum-free n g.free (λ f h. held-low f (omega arith)) in
      let tables =
      sum-blocks n (l.depth + 1) (l.depth + 1) g.tree.table
      (λ b f e. held-low f
      (let k = uses-some l.depth f b g.tree.table (legal.state.inside (suc (suc v)) b f e) e in
      omega arith)) in
      let parts = sum-plus n (λ f. frame_count f g.free) (λ f. table_uses l.depth g.tree f) in
      let all : sum_below n (λ f. guest_uses l.depth g f) ≡ sum_below n (λ f. one (in_vm v (legal.state.frames.condition f))) =
      ap (sum_below n) (fun_ext (legal.state.frames.held.vm v)) in
      let swap : total l g ≡ length g.free + guest_table_count l g.tree = omega arith in
      swap ∙ sym (ap (λ m. m + guest_table_count l g.tree) free)
      ∙ sym (ap (λ m. sum_below n (λ f. frame_count f g.free) + m) tables) ∙ sym parts ∙ all

-- rows tell which frames are a guest's

pub vm-row : (v f : ℕ) (c : Condition) → in_vm v c ≡ is_pool_of v (row_in f c).usage
vm-row v f (hyps (VmPool u)) = refl
vm-row v f (hyps Plain) = refl
vm-row v f (hyps SharedPool) = refl
vm-row v f (hyps (InHand d)) = refl
vm-row v f outside = refl
vm-row v f hosts = refl
vm-row v f with_hyp = refl
vm-row v f (with_guest u g) = refl
vm-row v f (guests u g) = refl
vm-row v f (lent_back u g) = refl

pub out-vm : (v : ℕ) (c : Condition) → is_inside c ≡ false → in_vm v c ≡ false
out-vm v outside h = refl
out-vm v c h = cc

pub vm-tells : (l : Layout) (s : Contents) (legal : LegalInAnyTrees l s) (v f : ℕ)
    → in_vm v (legal.state.frames.condition f) ≡ (is_memory l f && is_pool_of v (s.shared.row f).usage)
vm-tells l s legal v f = elim (both (is_memory l f)) [
  | inl m ↦ vm-row v f (legal.state.frames.condition f)
      ∙ ap (λ (r : Row). is_pool_of v r.usage) (sym (legal.state.frames.rows f m))
      ∙ sym (ap (λ b. b && is_pool_of v (s.shared.row f).usage) m)
  | inr m ↦ out-vm v (legal.state.frames.condition f) (legal.state.frames.of_layout.inside f ∙ m)
      ∙ sym (ap (λ b. b && is_pool_of v (s.shared.row f).usage) m)
]

pub vm-same : (l : Layout) (s t : Contents) (a : LegalInAnyTrees l s) (b : LegalInAnyTrees l t)
    → s.shared.row ≡ t.shared.row
    → (v f : ℕ)
    → in_vm v (a.state.frames.condition f) ≡ in_vm v (b.state.frames.condition f)
vm-same l s t a b rows v f =
    vm-tells l s a v f ∙ ap (λ (r : ℕ → Row). is_memory l f && is_pool_of v (r f).usage) rows ∙ sym (vm-tells l t b v f)

-- so two legal states with the same rows hold as many
pub total-same : (l : Layout) (s t : Contents)
    → IsUsable l
    → (a : LegalInAnyTrees l s) (b : LegalInAnyTrees l t)
    → s.shared.row ≡ t.shared.row
    → (v : ℕ)
    → total l (s.guest v) ≡ total l (t.guest v)
total-same l s t usable a b rows v =
    total-is l usable s a v ∙ ap (sum_below (pages_below l.depth)) (fun_ext (λ f. ap one (vm-same l s t a b rows v f)))
    ∙ sym (total-is l usable t b v)
