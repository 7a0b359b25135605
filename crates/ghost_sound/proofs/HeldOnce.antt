-- Two entries of one frame, by their runs.
use Rattle.std.proofs.Common.{ℕ, ◌<◌, sym, subst}
use Rattle.std.specs.Prelude.{All}
use Rattle.ghost_spec.specs.declared.lists.GhostLists.{GhostLists}
use Rattle.ghost_spec.specs.States.{contents_in}
use Rattle.ghost_sound.specs.declared.leaves.Side.{Side}
use Rattle.ghost_sound.specs.declared.pairs.Pair.{Pair}
use Rattle.ghost_sound.specs.inner.Leaves.{runs_in, Has, HasKeptTrees, IsOn}
use Rattle.ghost_sound.specs.inner.Pairs.{IsHeldOnce, IsMet, IsTwice, MeetsNone}
use Rattle.ghost_sound.proofs.TreeRuns.{any_run, has-on, on-has}

module _ (g : GhostLists) (k : HasKeptTrees g) (side : Side) where
  pub held-once : ((t : ℕ) → t < 66 → All (MeetsNone side g t) (runs_in g t)) → IsHeldOnce side (contents_in g)
  held-once h f a page b other x y =
      let m = has-on g k side a page f x in
      let n = has-on g k side b other f y in
      h a m.0 m.1.0 any_run m.1.1 b n.0 n.1.0 any_run n.1.1 page other f (m.1.2 any_run) (n.1.2 any_run)

  pub is-twice : (p : Pair) → IsMet side g p → IsTwice side (contents_in g) p
  is-twice p h =
      let r = h.2.1 in
      let by = h.2.4 in
      let s = by.2.1 in
      let m = by.2.4 in
      let one : Has side (contents_in g) h.0 p.one.page.0 p.frame =
      on-has g k side h.0 p.one.page.0 p.frame h.2.0 r h.2.2
      (subst (λ x. IsOn side x p.one.page.0 p.frame) (sym h.2.3) m.first) in
      let other : Has side (contents_in g) by.0 p.other.page.0 p.frame =
      on-has g k side by.0 p.other.page.0 p.frame by.2.0 s by.2.2
      (subst (λ x. IsOn side x p.other.page.0 p.frame) (sym by.2.3) m.second) in
      record {
        first = subst (λ t. Has side (contents_in g) t p.one.page.0 p.frame) (sym m.one_tree) one;
        second = subst (λ t. Has side (contents_in g) t p.other.page.0 p.frame) (sym m.other_tree) other;
        differ = m.differ;
      }
