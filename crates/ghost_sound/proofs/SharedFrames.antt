-- Borrowed frames, and those that are shared.
use Rattle.std.proofs.Common.{◌≡◌, ℕ, ◌+◌, ◌-◌, ◌<◌, ◌≤◌, Some, sym, subst, arith}
use Rattle.std.specs.Prelude.{All}
use Rattle.page_state.specs.declared.entry.Run.{Run}
use Rattle.page_state.proofs.Cases.{by_lt}
use Rattle.ghost_spec.specs.declared.lists.GhostLists.{GhostLists}
use Rattle.ghost_spec.specs.States.{contents_in}
use Rattle.ghost_sound.specs.declared.leaves.Side.TheVariants.{Borrows, Shares}
use Rattle.ghost_sound.specs.declared.share.Stray.{Stray}
use Rattle.ghost_sound.specs.inner.Leaves.{runs_in, first_frame, Has, HasKeptTrees, IsOn}
use Rattle.ghost_sound.specs.inner.Share.{AllShared, AreShared, EndsAt, IsSharedBy, IsSharedTo, IsStray, IsStrayIn}
use Rattle.ghost_sound.specs.Sound.{HasShares, IsShared}
use Rattle.ghost_sound.proofs.TreeRuns.{any_run, has-on, on-has}
use Rattle.ghost_sound.proofs.States.{borrows-from, borrows-to, shares-from, shares-to}

pub ends : (r : Run) (start f : ℕ)
    → first_frame Shares r ≡ Some start
    → start ≤ f
    → f - start < r.pages.count
    → EndsAt f (start + r.pages.count) r
ends r start f e a b = record {
  above = omega (arith, a, b);
  shared =
      λ g h k. (
        r.pages.first.0 + (g - start),
        record {
          start = start;
          starts = e;
          from = omega arith;
          below = omega (arith, a, h, k);
          frame = omega (arith, a, h);
        },
      );
}

module _ (g : GhostLists) where
  pub shared-on : (first at next : ℕ) → AreShared g first at → IsSharedTo g at next → AreShared g first next
  shared-on first at next h s f a b = by_lt f at
      (λ l. h f a l)
      (λ l. (s.0, s.1, (s.2.0, s.2.1, s.2.2, s.2.3, s.2.4.shared f l b)))

module _ (g : GhostLists) (k : HasKeptTrees g) where
  shared-is : (f : ℕ) → IsSharedBy g f → IsShared (contents_in g) f
  shared-is f h =
      let r = h.2.1 in
      let on = h.2.4 in
      let has : Has Shares (contents_in g) h.0 on.0 f =
      on-has g k Shares h.0 on.0 f h.2.0 r h.2.2 (subst (λ x. IsOn Shares x on.0 f) (sym h.2.3) on.1) in
      (h.0, on.0, shares-to f _ has)

  pub all-shared : ((t : ℕ) → t < 66 → All (AllShared g) (runs_in g t)) → HasShares (contents_in g)
  all-shared h f t page m =
      let on = has-on g k Borrows t page f (borrows-from f _ m) in
      shared-is f (h t on.0 on.1.0 any_run on.1.1 page f (on.1.2 any_run))

  pub stray-is : (a : Stray) → IsStrayIn g a → IsStray (contents_in g) a
  stray-is a h =
      let r = h.2.1 in
      let on = h.2.4 in
      let has : Has Borrows (contents_in g) h.0 a.borrower.page.0 a.frame =
      on-has g k Borrows h.0 a.borrower.page.0 a.frame h.2.0 r h.2.2
      (subst (λ x. IsOn Borrows x a.borrower.page.0 a.frame) (sym h.2.3) on.borrowed) in
      record {
        borrowed =
            borrows-to a.frame _
            (subst (λ t. Has Borrows (contents_in g) t a.borrower.page.0 a.frame) (sym on.tree) has);
        unshared = λ s.
            let by = has-on g k Shares s.0 s.1 a.frame (shares-from a.frame _ s.2) in
            on.none s.0 by.0 by.1.0 any_run by.1.1 s.1 (by.1.2 any_run);
      }
