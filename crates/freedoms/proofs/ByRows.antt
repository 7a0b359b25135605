-- A legal state that has for a guest just the pool that the rows say.
use Rattle.std.proofs.Common.{◌≡◌, ◌≢◌, ℕ, suc, ◌+◌, refl, ap, sym, ◌∙◌, subst, arith, inl, inr, List, ◌∷◌}
use Rattle.std.specs.Prelude.{Bool, true, false, ◌&&◌, ◌==◌, Option, Some, None, if◌then◌else◌}
use Rattle.coarse_trees.specs.Coarsest.{IsInTree}
use Rattle.page_state.proofs.BlockTests.{block-same}
use Rattle.page_state.proofs.Common.{both, and-both, eq-self, eq-same, if-true, if-false}
use Rattle.page_state.proofs.Counts.{count_next}
use Rattle.page_state.specs.Counts.{is_one}
use Rattle.page_state.specs.Layouts.{Layout}
use Rattle.page_state.specs.Trees.{Block, root_tree}
use Rattle.reference_model.proofs.Frames.{count_blocks-none}
use Rattle.reference_model.proofs.conditions.Tables.{uses_of, uses-put}
use Rattle.reference_model.specs.help.Conditions.{in_vm, one, table_uses, guest_uses}
use Rattle.reference_model.specs.model.Owner.{is_frame}
use Rattle.reference_model.specs.model.State.{Guest, Contents, empty}
use Rattle.freedoms.specs.AnyTrees.{LegalInAnyTrees}
use Rattle.freedoms.specs.Laws.{IsPoolByRows, with_root, with_pool, PoolsByRows, ReclaimsByRows}
use Rattle.freedoms.specs.OwnTables.{OwnTables}
use Rattle.freedoms.proofs.Reclaims.{reclaims_of_any}
use Rattle.freedoms.proofs.Replaced.{legal-there, same-there, Replaces}
use Rattle.freedoms.proofs.Totals.{vm-tells}

-- a tree of its root alone

pub root-at : (depth root : ℕ) (b : Block) (f : ℕ) → (root_tree depth root).table b ≡ Some f → b ≡ (depth + 1, 0)
root-at depth root b f e = elim (both (b.0 == depth + 1 && b.1 == 0)) [
  | inl t ↦ let at = and-both (b.0 == depth + 1) (b.1 == 0) t in
      block-same (eq-same b.0 (depth + 1) at.0) (eq-same b.1 0 at.1)
  | inr t ↦ let bad : None ≡ Some f = sym (if-false (b.0 == depth + 1 && b.1 == 0) (Some root) None t) ∙ e in cc
]

chosen : (a b : Bool) (root : ℕ) → a ≡ true → b ≡ true → (if a && b then Some root else None) ≡ Some root
chosen true true root p q = refl
chosen true false root p q = cc
chosen false b root p q = cc

pub root-is : (depth root : ℕ) → (root_tree depth root).table (depth + 1, 0) ≡ Some root
root-is depth root = chosen (depth + 1 == depth + 1) (0 == 0) root (eq-self (depth + 1)) (eq-self 0)

nothing : Block → Option ℕ
nothing b = None

no-table : (o : Option ℕ) → ((f : ℕ) → o ≡ Some f → ⊥) → o ≡ None
no-table None h = refl
no-table (Some f) h = absurd (h f refl)

root-uses : (depth root f : ℕ)
    → IsInTree depth (depth + 1, 0)
    → uses_of depth (root_tree depth root).table f ≡ is_one root f
unfolding uses_of nothing
root-uses depth root f inside =
    let table = (root_tree depth root).table in
    let put =
    uses-put depth f (depth + 1, 0) table nothing inside
    (λ b apart. no-table (table b) (λ g e. apart (root-at depth root b g e))) in
    let none : uses_of depth nothing f ≡ 0 = count_blocks-none (depth + 1) (depth + 1) (λ b. false) (λ b. refl) in
    let here : one (is_frame f (table (depth + 1, 0))) ≡ is_one root f =
    ap (λ o. one (is_frame f o)) (root-is depth root) in
    omega arith

module _ (l : Layout) (s : Contents) (v root : ℕ) (free : List ℕ) (legal : LegalInAnyTrees l s)
    (alive : (s.guest v).phase ≢ empty) (pool : IsPoolByRows l s v root free) where
  abbrev g : Guest
  g = with_root l.depth root free (s.guest v)

  abbrev t : Contents
  t = with_pool l v root free s

  top-inside : IsInTree l.depth (l.depth + 1, 0)
  top-inside = let r = legal.state.guest_parts.rooted v alive in
      legal.state.inside (suc (suc v)) (l.depth + 1, 0) r.0 r.1

  held-here : (f : ℕ) → guest_uses l.depth g f ≡ one (in_vm v (legal.state.frames.condition f))
  unfolding table_uses uses_of
  held-here f =
      let tables = root-uses l.depth root f top-inside in
      let next = count_next f root free in
      let told = pool f ∙ ap one (sym (vm-tells l s legal v f)) in
      omega arith

  replaces : Replaces l s v g
  replaces =
      record {
        bare = refl;
        uses = λ f. held-here f ∙ sym (legal.state.frames.held.vm v f);
        inside = λ b f e. subst (IsInTree l.depth) (sym (root-at l.depth root b f e)) top-inside;
        root = root;
        rooted = root-is l.depth root;
        emptied = λ bare b f e. root-at l.depth root b f e;
      }

  pub legal-pool : LegalInAnyTrees l t
  legal-pool = legal-there l s v g legal alive replaces

  pub same-pool : OwnTables s t
  same-pool = same-there l s v g legal alive replaces

pub pools_by_rows : PoolsByRows
pools_by_rows l s v root free legal alive pool =
    (legal-pool l s v root free legal alive pool, same-pool l s v root free legal alive pool)

pub reclaims_by_rows : ReclaimsByRows
reclaims_by_rows l before legal cpu v root f fs vm after begins is named alive pool =
    let t = with_pool l v root (f ∷ fs) legal in
    let there = legal-pool l legal v root (f ∷ fs) is alive pool in
    let same = same-pool l legal v root (f ∷ fs) is alive pool in
    let first : (t.guest v).free ≡ f ∷ fs =
    ap (λ (k : Guest). k.free)
    (if-true (v == v) (with_root l.depth root (f ∷ fs) (legal.guest v)) (legal.guest v) (eq-self v)) in (
      λ j. let k =
          reclaims_of_any l j.state t cpu v f vm fs j.next j.legal there
          (sym j.begins ∙ begins ∙ same) named first j.steps in
          (k.0, k.1, sym j.ends ∙ k.2),
      λ k. record { state = t; next = k.0; begins = begins ∙ same; legal = there; steps = k.1; ends = sym k.2 },
    )
