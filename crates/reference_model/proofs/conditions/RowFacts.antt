-- A kept row says of its frame what is so.
use Rattle.std.proofs.Common.{◌≡◌, ◌≢◌, ℕ, zero, suc, refl, ap, sym, ◌∙◌, subst, arith, inl, inr}
use Rattle.std.specs.Prelude.{◌⊎◌, true, Option, Some, None}
use Rattle.descriptor.specs.declared.Prot.TheVariants.{RW, RWX}
use Rattle.descriptor.specs.declared.State.TheVariants.{SharedBorrowed}
use Rattle.page_state.specs.declared.row.Lent.{Lent}
use Rattle.page_state.specs.declared.row.Row.{Row}
use Rattle.page_state.specs.declared.row.Usage.{Usage}
use Rattle.page_state.specs.declared.row.Usage.TheVariants.{Plain, SharedPool, VmPool, InHand}
use Rattle.reference_model.specs.help.Conditions.{Condition, outside, hosts, with_hyp, hyps, with_guest, guests, lent_back, Legal, row_in}
use Rattle.page_state.specs.EntryTests.{leaf}
use Rattle.page_state.specs.Layouts.{Layout, is_memory, hyp_page}
use Rattle.reference_model.specs.claims.RowLaws.{IsOwner, IsLentTo, use_of, IsUse, IsRowOf, LegalRowsTrue, RunRowsTrue, RowOnce}
use Rattle.reference_model.specs.claims.Sound.{Place, shared_pool, vm_pool, table_of, hand, IsHeld}
use Rattle.reference_model.specs.model.State.{Contents}
use Rattle.page_state.proofs.Common.{same2, same3}
use Rattle.reference_model.proofs.conditions.OfLegal.{shared-of, guests-of, leaf-maps}
use Rattle.reference_model.proofs.conditions.RunsLegal.{run_legal, ready-usable}
use Rattle.reference_model.proofs.conditions.SoundOf.{owner-of, lent-of, guest-maps, held-use, held-found, holds-state, some-lent, none-lent, leaf-is, own-fits, own-one, used-hyps}
use Rattle.reference_model.proofs.conditions.Stands.{SharedStands, GuestsStand, HandsStand}

-- the borrower by the condition
lent-to : (l : Layout) (s : Contents) (f : ℕ) (c : Condition) (x : SharedStands l s.shared f c)
    (g : GuestsStand l s.guest f c)
    → IsLentTo s f (row_in f c).lent
lent-to l s f with_hyp x g =
    record {
      maps = leaf-is f SharedBorrowed (s.shared.hyp.map (hyp_page f)) (leaf RW f SharedBorrowed) x.hyp
          (leaf-maps RW f SharedBorrowed);
      alone = λ component page m. some-lent (lent-of l s f with_hyp x g component page m);
    }
lent-to l s f (with_guest v q) x g =
    record {
      maps = guest-maps l s f (with_guest v q) x g v q SharedBorrowed refl;
      alone = λ component page m. some-lent (lent-of l s f (with_guest v q) x g component page m);
    }
lent-to l s f (lent_back v q) x g =
    record {
      maps = leaf-is f SharedBorrowed (s.shared.host.map f) (leaf RWX f SharedBorrowed) x.host
          (leaf-maps RWX f SharedBorrowed);
      alone = λ component page m. some-lent (lent-of l s f (lent_back v q) x g component page m);
    }
lent-to l s f outside x g = λ b. none-lent (lent-of l s f outside x g b.0 b.1 b.2)
lent-to l s f hosts x g = λ b. none-lent (lent-of l s f hosts x g b.0 b.1 b.2)
lent-to l s f (hyps u) x g = λ b. none-lent (lent-of l s f (hyps u) x g b.0 b.1 b.2)
lent-to l s f (guests v q) x g = λ b. none-lent (lent-of l s f (guests v q) x g b.0 b.1 b.2)

plain-or : (u : Usage) → (u ≡ Plain) ⊎ (u ≢ Plain)
plain-or Plain = inl refl
plain-or SharedPool = inr (λ e. cc)
plain-or (VmPool v) = inr (λ e. cc)
plain-or (InHand c) = inr (λ e. cc)

-- no place is of no use
use-some : (p : Place) → use_of p ≡ Plain → ⊥
use-some shared_pool e = cc
use-some (vm_pool v) e = cc
use-some (table_of zero b) e = cc
use-some (table_of (suc zero) b) e = cc
use-some (table_of (suc (suc v)) b) e = cc
use-some (hand c) e = cc

module _ (l : Layout) (s : Contents) (legal : Legal l s) (f : ℕ) where
  c : Condition
  c = legal.condition f

  x : SharedStands l s.shared f (legal.condition f)
  x = shared-of s legal.condition legal.maps f l legal.held

  g : GuestsStand l s.guest f (legal.condition f)
  g = guests-of s legal.condition legal.maps f l legal.held

  k : HandsStand s.cpu f (legal.condition f)
  k cpu = legal.held.hand cpu f

  owner-by : is_memory l f ≡ true → IsOwner s f (row_in f (legal.condition f)).owner.0
  owner-by m = record {
    host =
        λ o. own-fits f (legal.condition f) (s.shared.host.map f) (legal.of_layout.inside f ∙ m) (legal.maps.host f) o;
    other = λ o. own-one l s f (legal.condition f) x g o;
    alone =
        λ component page h. holds-state s component page f h
        (λ state i n. owner-of l s f (legal.condition f) x g component page state i n);
  }

  pub place-use : (p : Place) → IsHeld s f p → use_of p ≡ (row_in f (legal.condition f)).usage
  place-use p h =
      sym
      (ap (λ d. (row_in f d).usage)
      (held-use l s f (legal.condition f) x g k legal.trees.host legal.trees.hyp legal.trees.guest p h))

  pub place-of : (row_in f (legal.condition f)).usage ≢ Plain
      → (p : Place) × IsHeld s f p × (use_of p ≡ (row_in f (legal.condition f)).usage)
  place-of n =
      let at =
      held-found l s f (legal.condition f) x g k legal.trees.host legal.trees.hyp legal.trees.guest
      (row_in f (legal.condition f)).usage n (used-hyps f (legal.condition f) n) in
      (at.0, at.1, place-use at.0 at.1)

  use-by : IsUse s f (row_in f (legal.condition f)).usage
  use-by = record {
    plain = (
      λ e p h. use-some p (place-use p h ∙ e),
      λ none. elim (plain-or (row_in f (legal.condition f)).usage)
          [ inl e ↦ e | inr n ↦ let at = place-of n in absurd (none at.0 at.1) ],
    );
    held = place-of;
    alone = place-use;
  }

  row-true : is_memory l f ≡ true → IsRowOf s f (row_in f (legal.condition f))
  row-true m = record { owner = owner-by m; lent = lent-to l s f (legal.condition f) x g; usage = use-by }

pub legal_rows_true : LegalRowsTrue
legal_rows_true l s f usable legal m = subst (IsRowOf s f) (sym (legal.rows f m)) (row-true l s legal f m)

pub run_rows_true : RunRowsTrue
run_rows_true l cs t f ready run m =
    legal_rows_true l t.contents f (ready-usable l ready) (run_legal l cs t ready run) m

-- one row

zero-or : (n : ℕ) → (n ≡ 0) ⊎ (n ≢ 0)
zero-or zero = inl refl
zero-or (suc n) = inr (λ e. omega arith)

owner-once : (s : Contents) (f a b : ℕ) → IsOwner s f a → IsOwner s f b → b ≡ a
owner-once s f a b x y = elim (zero-or a) [
  | inr n ↦ let at = x.other n in sym (y.alone a at.0 at.1)
  | inl e ↦ elim (zero-or b) [ inl z ↦ z ∙ sym e | inr n ↦ let at = y.other n in x.alone b at.0 at.1 ]
]

make_lent : ℕ → ℕ → Lent
make_lent owner page = record { owner = record { 0 = owner }; page = page }

lent-once : (s : Contents) (f : ℕ) (a b : Option Lent) → IsLentTo s f a → IsLentTo s f b → b ≡ a
unfolding make_lent
lent-once s f None None x y = refl
lent-once s f None (Some b) x y = absurd (x (b.owner.0, b.page, y.maps))
lent-once s f (Some a) None x y = absurd (y (a.owner.0, a.page, x.maps))
lent-once s f (Some a) (Some b) x y = let e = x.alone b.owner.0 b.page y.maps in ap Some (same2 make_lent e.0 e.1)

use-once : (s : Contents) (f : ℕ) (a b : Usage) → IsUse s f a → IsUse s f b → b ≡ a
use-once s f a b x y = elim (plain-or a) [
  | inr n ↦ let at = x.held n in sym (y.alone at.0 at.1) ∙ at.2
  | inl e ↦ y.plain.1 (x.plain.0 e) ∙ sym e
]

make_row : ℕ → Option Lent → Usage → Row
make_row owner lent usage = record { owner = record { 0 = owner }; lent = lent; usage = usage }

pub row_once : RowOnce
unfolding make_row
row_once s f a b x y =
    same3 make_row (owner-once s f a.owner.0 b.owner.0 x.owner y.owner) (lent-once s f a.lent b.lent x.lent y.lent)
    (use-once s f a.usage b.usage x.usage y.usage)
