-- A change advances along a run, as both of its values do.
use Rattle.std.specs.Option.{ForSome, option_eq}
use Rattle.std.specs.Prelude.{◌&&◌, ◌≡◌, ℕ, ◌+◌, ◌≤◌, Bool, true, Option, Some, None, refl}
use Rattle.std.proofs.Common.{ap, subst}
use Rattle.std.proofs.lemmas.Bool.Decides.{Decides-like}
use Rattle.page_state.proofs.Equality.{Tells, both_tell}
use Rattle.run_list.specs.Advance.{AdvanceLaws}
use Rattle.run_list.specs.Runs.{option_advance}
use Rattle.run_changes.specs.declared.change.Change.{Change}
use Rattle.run_changes.specs.Changes.{advance_change, CanBoth}

none-some : {V : Type 0} {v : V} → ◌≡◌ {A = Option V} None (Some v) → ⊥
none-some e = cc

some-same : {V : Type 0} {v w : V} → ◌≡◌ {A = Option V} (Some v) (Some w) → v ≡ w
some-same e = cc

module _ {V : Type 0} (advance : V → ℕ → V) (can : V → ℕ → Type 0) where
  none : ((v : V) → advance v 0 ≡ v) → (o : Option V) → option_advance advance o 0 ≡ o
  none h None = refl
  none h (Some v) = ap Some (h v)

  more : ((v : V) (a b : ℕ) → advance (advance v a) b ≡ advance v (a + b))
      → (o : Option V) (a b : ℕ)
      → option_advance advance (option_advance advance o a) b ≡ option_advance advance o (a + b)
  more h None a b = refl
  more h (Some v) a b = ap Some (h v a b)

  shorter : ((v : V) (a b : ℕ) → a ≤ b → can v b → can v a)
      → (o : Option V) (a b : ℕ)
      → a ≤ b
      → ForSome o (λ v. can v b)
      → ForSome o (λ v. can v a)
  shorter h None a b l k = λ x e. absurd (none-some e)
  shorter h (Some v) a b l k = λ x e. subst (λ w. can w a) (some-same e) (h v a b l (k v refl))

  rest : ((v : V) (a b : ℕ) → can v (a + b) → can (advance v a) b)
      → (o : Option V) (a b : ℕ)
      → ForSome o (λ v. can v (a + b))
      → ForSome (option_advance advance o a) (λ v. can v b)
  rest h None a b k = λ x e. absurd (none-some e)
  rest h (Some v) a b k = λ x e. subst (λ w. can w b) (some-same e) (h v a b (k v refl))

  joint : ((v : V) (a b : ℕ) → can v a → can (advance v a) b → can v (a + b))
      → (o : Option V) (a b : ℕ)
      → ForSome o (λ v. can v a)
      → ForSome (option_advance advance o a) (λ v. can v b)
      → ForSome o (λ v. can v (a + b))
  joint h None a b k l = λ x e. absurd (none-some e)
  joint h (Some v) a b k l =
      λ x e. subst (λ w. can w (a + b)) (some-same e) (h v a b (k v refl) (l (advance v a) refl))

same_change : {V : Type 0} (a b c d : Option V)
    → a ≡ c
    → b ≡ d
    → ◌≡◌ {A = Change V} (record { before = a; after = b }) (record { before = c; after = d })
same_change a b c d e f = λ i. record { before = e i; after = f i }

-- equality of changes, as the code tests it
abbrev change_eq : {V : Type 0} → (V → V → Bool) → Change V → Change V → Bool
change_eq same c d = option_eq same c.before d.before && option_eq same c.after d.after

module _ {V : Type 0} (same : V → V → Bool) (h : Tells same) where
  options_tell : Tells (option_eq same)
  options_tell None None = ((λ e. refl), (λ e. refl))
  options_tell None (Some y) = ((λ e. cc), (λ e. cc))
  options_tell (Some x) None = ((λ e. cc), (λ e. cc))
  options_tell (Some x) (Some y) = ((λ e. ap Some ((h x y).0 e)), (λ e. (h x y).1 cc))

  changes_tell : Tells (change_eq same)
  changes_tell x y =
      Decides-like (change_eq same x y) (λ p. same_change _ _ _ _ p.0 p.1)
      (λ e. (ap (λ (c : Change V). c.before) e, ap (λ (c : Change V). c.after) e))
      (both_tell _ _ options_tell options_tell x.before y.before x.after y.after)

pub change_laws : {V : Type 0} (advance : V → ℕ → V) (can : V → ℕ → Type 0) (same : V → V → Bool)
    → AdvanceLaws advance can same
    → AdvanceLaws (advance_change advance) (CanBoth can) (change_eq same)
change_laws advance can same laws =
    let tells =
    changes_tell same
    (λ v w. (laws.is_equal v w, λ e. subst (λ x. same v x ≡ true) e (laws.is_own v))) in
    record {
      none =
          λ c. same_change _ _ _ _ (none advance can laws.none c.before)
          (none advance can laws.none c.after);
      more =
          λ c a b. same_change _ _ _ _ (more advance can laws.more c.before a b)
          (more advance can laws.more c.after a b);
      shorter =
          λ c a b l k. (
            shorter advance can laws.shorter c.before a b l k.0,
            shorter advance can laws.shorter c.after a b l k.1,
          );
      rest =
          λ c a b k. (
            rest advance can laws.rest c.before a b k.0,
            rest advance can laws.rest c.after a b k.1,
          );
      joint =
          λ c a b k l. (
            joint advance can laws.joint c.before a b k.0 l.0,
            joint advance can laws.joint c.after a b k.1 l.1,
          );
      is_equal = λ c e. (tells c e).0;
      is_own = λ c. (tells c c).1 refl;
    }
