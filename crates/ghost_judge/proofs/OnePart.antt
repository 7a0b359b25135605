-- Two parts have one first difference, and none if they are equal.
use Rattle.std.proofs.Common.{◌≡◌, ℕ, [], Option, refl, sym, ap, subst, ◌∙◌, arith}
use Rattle.page_state.specs.Trees.{Block, Pool, no_tree}
use Rattle.page_state.proofs.BlockTests.{block-same}
use Rattle.page_state.proofs.Cases.{by_lt}
use Rattle.reference_model.specs.model.State.{Guest, Phase, Shared, empty, live, dying}
use Rattle.ghost_spec.specs.declared.parts.GhostPhase.{GhostPhase}
use Rattle.ghost_spec.specs.declared.parts.GhostPhase.TheVariants.{Empty, Live, Dying}
use Rattle.ghost_spec.specs.States.{phase_in}
use Rattle.ghost_judge.specs.declared.disagreement.GuestHead.{GuestHead}
use Rattle.ghost_judge.specs.declared.disagreement.PartDifference.{PartDifference}
use Rattle.ghost_judge.specs.declared.disagreement.PartDifference.TheVariants.{Free, Table, Head}
use Rattle.ghost_judge.specs.declared.disagreement.TreeOf.{TreeOf}
use Rattle.ghost_judge.specs.declared.disagreement.TreeOf.TheVariants.{Host, Hyp, Guest as GuestOf}
use Rattle.ghost_judge.specs.Apart.{IsFirstApart}
use Rattle.ghost_judge.specs.PartDifferences.{frame_at, guest_with, tables_at, without_map, IsFirstBlock, IsFirstFrame, IsFirstOfGuest, IsFirstOfShared, IsFirstSharedTable, IsFirstTable, IsSamePool}

pub apart_once : {X : Type 0} (f g : ℕ → X) (n m : ℕ) → IsFirstApart f g n → IsFirstApart f g m → n ≡ m
apart_once f g n m a b =
    by_lt n m (λ l. absurd (a.differ (b.before n l)))
    (λ l. by_lt m n (λ k. absurd (b.differ (a.before m k))) (λ k. omega arith))

-- frames

frame_once : (p q : Pool) (x y z w : Option ℕ)
    → IsFirstFrame p q x y
    → IsFirstFrame p q z w
    → Free x y ≡ Free z w
frame_once p q x y z w a b =
    let e = apart_once (frame_at p) (frame_at q) a.place b.place a.differ.first b.differ.first in
    ap (λ u. Free u y) (a.differ.kept_is ∙ ap (frame_at p) e ∙ sym b.differ.kept_is)
    ∙ ap (λ u. Free z u) (a.differ.walked_is ∙ ap (frame_at q) e ∙ sym b.differ.walked_is)

frame_else : (p q : Pool) (x y : Option ℕ) → p ≡ q → IsFirstFrame p q x y → ⊥
frame_else p q x y e a = a.differ.first.differ (ap (λ (r : Pool). frame_at r a.place) e)

-- tables

module _ (f g : Block → Option ℕ) where
  block_once : (b c : Block) → IsFirstBlock f g b → IsFirstBlock f g c → b ≡ c
  block_once b c h k =
      by_lt b.0 c.0 (λ l. absurd (h.first.differ (ap (λ t. t b.1) (k.lower b.0 l)))) (λ l. by_lt c.0 b.0
      (λ r. absurd (k.first.differ (ap (λ t. t c.1) (h.lower c.0 r))))
      (λ r. let e : b.0 ≡ c.0 = omega arith in
      block-same e
      (apart_once (tables_at f c.0) (tables_at g c.0) b.1 c.1
      (subst (λ d. IsFirstApart (tables_at f d) (tables_at g d) b.1) e h.first) k.first)))

  table_once : (tree : TreeOf) (b c : Block) (x y z w : Option ℕ)
      → IsFirstTable f g b x y
      → IsFirstTable f g c z w
      → Table tree b x y ≡ Table tree c z w
  table_once tree b c x y z w h k =
      let e = block_once b c h.block k.block in
      ap (λ d. Table tree d x y) e ∙ ap (λ u. Table tree c u y) (h.post_is ∙ ap f e ∙ sym k.post_is)
      ∙ ap (λ u. Table tree c z u) (h.spec_is ∙ ap g e ∙ sym k.spec_is)

  table_else : (b : Block) (x y : Option ℕ) → f ≡ g → IsFirstTable f g b x y → ⊥
  table_else b x y e h = h.block.first.differ (ap (λ t. t (b.0, b.1)) e)

-- two Shared parts

module _ (s t : Shared) where
  tables_once : (m n : TreeOf) (b c : Block) (x y z w : Option ℕ)
      → IsFirstSharedTable m s t b x y
      → IsFirstSharedTable n s t c z w
      → Table m b x y ≡ Table n c z w
  tables_once Host Host b c x y z w h k = table_once s.host.table t.host.table Host b c x y z w h.1 k.1
  tables_once Host Hyp b c x y z w h k = absurd (table_else s.host.table t.host.table b x y k.1 h.1)
  tables_once Host (GuestOf v) b c x y z w h k = absurd k
  tables_once Hyp Host b c x y z w h k = absurd (table_else s.host.table t.host.table c z w h.1 k.1)
  tables_once Hyp Hyp b c x y z w h k = table_once s.hyp.table t.hyp.table Hyp b c x y z w h.2 k.2
  tables_once Hyp (GuestOf v) b c x y z w h k = absurd k
  tables_once (GuestOf u) n b c x y z w h k = absurd h

  tables_free : (m : TreeOf) (b : Block) (x y : Option ℕ) → IsFirstSharedTable m s t b x y → s.free ≡ t.free
  tables_free Host b x y h = h.0
  tables_free Hyp b x y h = h.0
  tables_free (GuestOf v) b x y h = absurd h

  tables_else : (m : TreeOf) (b : Block) (x y : Option ℕ) → IsSamePool s t → IsFirstSharedTable m s t b x y → ⊥
  tables_else Host b x y p h = table_else s.host.table t.host.table b x y p.host h.1
  tables_else Hyp b x y p h = table_else s.hyp.table t.hyp.table b x y p.hyp h.2
  tables_else (GuestOf v) b x y p h = h

  pub shared_once : (d e : PartDifference) → IsFirstOfShared s t d → IsFirstOfShared s t e → d ≡ e
  shared_once (Free x y) (Free z w) h k = frame_once s.free t.free x y z w h k
  shared_once (Free x y) (Table n c z w) h k =
      absurd (frame_else s.free t.free x y (tables_free n c z w k) h)
  shared_once (Free x y) (Head z w) h k = absurd k
  shared_once (Table m b x y) (Free z w) h k =
      absurd (frame_else s.free t.free z w (tables_free m b x y h) k)
  shared_once (Table m b x y) (Table n c z w) h k = tables_once m n b c x y z w h k
  shared_once (Table m b x y) (Head z w) h k = absurd k
  shared_once (Head x y) e h k = absurd h

  pub shared_else : (d : PartDifference) → IsSamePool s t → IsFirstOfShared s t d → ⊥
  shared_else (Free x y) p h = frame_else s.free t.free x y p.free h
  shared_else (Table m b x y) p h = tables_else m b x y p h
  shared_else (Head x y) p h = h

-- two guests

abbrev phase_from : Phase → GhostPhase
phase_from empty = Empty
phase_from live = Live
phase_from dying = Dying

phase_back : (p : GhostPhase) → phase_from (phase_in p) ≡ p
phase_back Empty = refl
phase_back Live = refl
phase_back Dying = refl

head_back : (x y : GuestHead) → guest_with x ≡ guest_with y → x ≡ y
head_back x y e =
    ap (λ p. record { phase = p; generation = x.generation; kind = x.kind })
    (sym (phase_back x.phase) ∙ ap (λ (g : Guest). phase_from g.phase) e ∙ phase_back y.phase)
    ∙ ap (λ n. record { phase = y.phase; generation = n; kind = x.kind }) (ap (λ (g : Guest). g.generation) e)
    ∙ ap (λ k. record { phase = y.phase; generation = y.generation; kind = k }) (ap (λ (g : Guest). g.kind) e)

module _ (slot : ℕ) (g h : Guest) where
  pub guest_once : (d e : PartDifference) → IsFirstOfGuest slot g h d → IsFirstOfGuest slot g h e → d ≡ e
  guest_once (Head x y) (Head z w) a b =
      ap (λ u. Head u y) (head_back x z (a.post_is ∙ sym b.post_is))
      ∙ ap (λ u. Head z u) (head_back y w (a.spec_is ∙ sym b.spec_is))
  guest_once (Head x y) (Table n c z w) a b = absurd (a.differ b.1)
  guest_once (Head x y) (Free z w) a b = absurd (a.differ b.0)
  guest_once (Table m b x y) (Head z w) a k = absurd (k.differ a.1)
  guest_once (Table m b x y) (Table n c z w) a k =
      ap (λ t. Table t b x y) a.0 ∙ table_once g.tree.table h.tree.table (GuestOf slot) b c x y z w a.2 k.2
      ∙ sym (ap (λ t. Table t c z w) k.0)
  guest_once (Table m b x y) (Free z w) a k = absurd (table_else g.tree.table h.tree.table b x y k.1 a.2)
  guest_once (Free x y) (Head z w) a b = absurd (b.differ a.0)
  guest_once (Free x y) (Table n c z w) a b = absurd (table_else g.tree.table h.tree.table c z w a.1 b.2)
  guest_once (Free x y) (Free z w) a b = frame_once g.free h.free x y z w a.2 b.2

  pub guest_else : (d : PartDifference) → without_map g ≡ without_map h → IsFirstOfGuest slot g h d → ⊥
  guest_else (Head x y) e a = a.differ (ap (λ (k : Guest). record k { tree = no_tree; free = [] }) e)
  guest_else (Table m b x y) e a =
      table_else g.tree.table h.tree.table b x y (ap (λ (k : Guest). k.tree.table) e) a.2
  guest_else (Free x y) e a = frame_else g.free h.free x y (ap (λ (k : Guest). k.free) e) a.2
