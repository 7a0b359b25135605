-- The trees of a run, and what of their pools maps and numbers of free frames tell.
use Rattle.std.proofs.Common.{◌≡◌, ℕ, ◌+◌, ◌<◌, refl, ap, Bool, true, false, nat_lt, length, Option, Some, None, Result, Ok, Err, if◌then◌else◌, ◌||◌}
use Rattle.std.specs.Coded.{le_prop}
use Rattle.std.proofs.Math.Logic.{∥∥₁_elim, ∥∥₁_map}
use Rattle.std.proofs.Props.{props}
use Rattle.coarse_trees.specs.Coarsest.{IsCoarsest, IsCanonical, map_need}
use Rattle.coarse_trees.proofs.Least.{coarsest_is_canonical}
use Rattle.coarse_trees.proofs.Stays.{none_is_coarsest, need_of_maps}
use Rattle.page_state.specs.Accepted.{IsAcceptedLayout}
use Rattle.page_state.specs.Layouts.{Layout}
use Rattle.page_state.specs.Tables.{keep, put, need}
use Rattle.page_state.specs.Trees.{Tree}
use Rattle.page_state.proofs.Common.{same2}
use Rattle.call_table.specs.declared.reply.Refusal.{Refusal}
use Rattle.call_table.specs.declared.reply.Refusal.TheVariants.{NoPool}
use Rattle.call_table.specs.declared.step.Step.{Step}
use Rattle.reference_model.specs.declared.changes.Changes.{Changes}
use Rattle.reference_model.specs.declared.changes.MapChange.{MapChange}
use Rattle.reference_model.specs.model.Decides.{decided}
use Rattle.reference_model.specs.help.ChangeLaws.{FitsWhere, AllFit}
use Rattle.reference_model.specs.model.Changes.{edit_of}
use Rattle.reference_model.specs.help.Conditions.{Legal}
use Rattle.reference_model.specs.model.Parts.{lacks_slot, uses_shared}
use Rattle.reference_model.specs.model.Rules.{names, guest_slot}
use Rattle.reference_model.specs.model.Rule.{Rule}
use Rattle.reference_model.specs.model.State.{Contents, no_shared}
use Rattle.reference_model.specs.model.Step.{rule_of, first_test, or_else, is_short, refusal, fails}
use Rattle.reference_model.specs.claims.TreeLaws.{AreCanonical, RunCanonical, is_short_by_maps, fails_by_maps, RunFailsByMaps}
use Rattle.reference_model.specs.model.Used.{Used, used_of, guest_at}
use Rattle.reference_model.proofs.conditions.ChangesFit.{changes_fit}
use Rattle.reference_model.proofs.conditions.RunsLegal.{run_legal}

pub run_canonical : RunCanonical
run_canonical l cs t ready run =
    let trees = (run_legal l cs t ready run).trees in
    record {
      host = coarsest_is_canonical l.depth t.contents.shared.host trees.host;
      hyp = coarsest_is_canonical l.depth t.contents.shared.hyp trees.hyp;
      guest = λ v. coarsest_is_canonical l.depth (t.contents.guest v).tree (trees.guest v);
    }

-- a tree is coarsest where that is known somehow
coarsest_once : (depth : ℕ) (t : Tree) → ∥ IsCoarsest depth t ∥₁ → IsCoarsest depth t
coarsest_once depth t somehow = record {
  inside = λ b f h. record {
    some = ∥∥₁_elim somehow le_prop (λ k. (k.inside b f h).some);
    top = ∥∥₁_elim somehow le_prop (λ k. (k.inside b f h).top);
    index = ∥∥₁_elim somehow le_prop (λ k. (k.inside b f h).index);
  };
  below = λ b i l. ∥∥₁_elim somehow (hlevel props) (λ k. k.below b i l);
}

-- so are the trees of a state of which it is known only that it is legal somehow
pub canonical_once : (l : Layout) (s : Contents) → ∥ Legal l s ∥₁ → AreCanonical l s
canonical_once l s somehow = record {
  host = once s.shared.host (λ h. h.trees.host);
  hyp = once s.shared.hyp (λ h. h.trees.hyp);
  guest = λ v. once (s.guest v).tree (λ h. h.trees.guest v);
}
  where
    once : (t : Tree) → (Legal l s → IsCoarsest l.depth t) → IsCanonical l.depth t
    once t told = coarsest_is_canonical l.depth t (coarsest_once l.depth t (∥∥₁_map somehow told))

-- the need of a change that fits
need_same : (depth : ℕ) (t : Tree) (c : Option MapChange)
    → IsCoarsest depth t
    → FitsWhere depth c
    → need depth t (edit_of c) ≡ map_need depth t.map (edit_of c)
need_same depth t None k fits = need_of_maps depth t keep tt k
need_same depth t (Some c) k fits = need_of_maps depth t (put c.range.first.0 c.range.count c.entry) fits.within k

-- of parts whose trees are coarsest
short_same : (depth : ℕ) (h : Changes) (x : Used)
    → AllFit depth h
    → IsCoarsest depth x.shared.host
    → IsCoarsest depth x.shared.hyp
    → IsCoarsest depth x.guest.tree
    → is_short depth h x ≡ is_short_by_maps depth h x
unfolding is_short
short_same depth h x fits host hyp guest =
    same2 (λ (a b : Bool). a || b)
    (ap (λ n. nat_lt (length x.shared.free) n)
    (same2 (λ (a b : ℕ). a + b) (need_same depth x.shared.host h.host host fits.host)
    (need_same depth x.shared.hyp h.hyp hyp fits.hyp)))
    (ap (λ n. nat_lt (length x.guest.free) n) (need_same depth x.guest.tree h.guest guest fits.guest))

-- two tests of the pools that are the same where they are asked
same_after : (o : Option Refusal) (a b : Bool)
    → (o ≡ None → a ≡ b)
    → or_else o (if a then Some NoPool else None) ≡ or_else o (if b then Some NoPool else None)
same_after (Some why) a b h = refl
same_after None a b h = ap (λ (c : Bool). if c then Some NoPool else None) (h refl)

decides_ok : (r : Rule) (lacks : Bool) → first_test r lacks ≡ None → decided r lacks ≡ Ok r.changes
decides_ok r lacks h =
    ap (λ (o : Option Refusal). elim o as (λ _. Result Changes Refusal) [ Some why ↦ Err why | None ↦ Ok r.changes ]) h

module _ (l : Layout) (s : Contents) (legal : Legal l s) where
  used_shared : (b : Bool)
      → IsCoarsest l.depth (if b then s.shared else no_shared).host
      × IsCoarsest l.depth (if b then s.shared else no_shared).hyp
  used_shared true = (legal.trees.host, legal.trees.hyp)
  used_shared false = (none_is_coarsest l.depth, none_is_coarsest l.depth)

  used_guest : (slot : Option ℕ) → IsCoarsest l.depth (guest_at s.guest slot).tree
  used_guest None = none_is_coarsest l.depth
  used_guest (Some v) = legal.trees.guest v

  legal_fails : (cpu : ℕ) (slot : Option ℕ) (step : Step)
      → IsAcceptedLayout l
      → cpu < l.config.cpus
      → slot ≡ guest_slot (s.cpu cpu) step
      → fails l cpu slot step (used_of (names step) slot cpu s)
      ≡ fails_by_maps l cpu slot step (used_of (names step) slot cpu s)
  unfolding fails refusal used_of
  legal_fails cpu slot step accepted known named =
      let x = used_of (names step) slot cpu s in
      let r = rule_of l cpu slot step x in
      let lacks = lacks_slot (names step) slot in
      same_after (first_test r lacks) (is_short l.depth r.changes x) (is_short_by_maps l.depth r.changes x)
      (λ free.
      let fits = changes_fit l s cpu slot step r.changes accepted legal known named (decides_ok r lacks free) in
      let shared = used_shared (uses_shared (names step) slot) in
      short_same l.depth r.changes x fits shared.0 shared.1 (used_guest slot))

pub run_fails_by_maps : RunFailsByMaps
run_fails_by_maps l cs t cpu slot step ready run known named =
    legal_fails l t.contents (run_legal l cs t ready run) cpu slot step ready.accepted known named
