-- What setting a word comes to.
use Rattle.std.proofs.Common.{◌≡◌, ℕ, false, true, refl, subst, List, Option, Some, None, Result, Ok, Err, IsSome, MatchOption, inr}
use Rattle.page_state.specs.declared.layout.Geometry.{Geometry}
use Rattle.table_tree.specs.Said.{block_of}
use Rattle.ghost_oracle.specs.declared.raw.Which.{Which}
use Rattle.ghost_oracle.specs.Poked.{Beside, IsBeside, IsPokedTree, parts_trees, raw_beside_of, raw_trees}
use Rattle.ghost_oracle.specs.Seen.{SeenTree}
use Rattle.trace_lines.specs.declared.line.Poke.{Poke}
use Rattle.trace_text.specs.declared.fault.Fault.TheVariants as faults
use Rattle.trace_text.specs.declared.session.Stop.{Stop}
use Rattle.trace_text.specs.declared.session.Stop.TheVariants as stops
use Rattle.trace_text.specs.Session.{Answer}
use Rattle.trace_text.specs.View.{machine_of}
use Rattle.world.specs.declared.World.{World}
use Rattle.world.specs.declared.raw.RawWorld.{RawWorld}
use Rattle.trace_audit.specs.Audited.{Audited, Comes, Pokes, PokesAgain, PokesFirst, Sets}
use Rattle.trace_audit.specs.Paths.{path_on, which_of}

pub not_true : false ≡ true → ⊥
not_true e = cc

matched : {X : Type 0} (o : Option X) (x : X) (P : Type 0) (Q : X → Type 0) → o ≡ Some x → Q x → MatchOption o P Q
matched o x P Q e h = rw e h

nothing : {X : Type 0} (o : Option X) (P : Type 0) (Q : X → Type 0) → o ≡ None → P → MatchOption o P Q
nothing o P Q e h = rw e h

some_word : (o : Option ℕ) (P Q : Type 0) → IsSome o → Q → MatchOption o P (λ word. Q)
some_word None P Q there h = absurd (let e = there in cc)
some_word (Some word) P Q there h = h

no_word : (o : Option ℕ) (P Q : Type 0) → (IsSome o → ⊥) → P → MatchOption o P (λ word. Q)
no_word None P Q none h = h
no_word (Some word) P Q none h = absurd (none refl)

module _ (geometry : Geometry) (before : Which → SeenTree) (kept : Beside → Type 0) (poke : Poke) (path told : List ℕ)
    (which : Which)
    (leads : path_on geometry poke.page poke.level ≡ Some path) (same : told ≡ path)
    (named : which ≡ which_of poke.tree) where
  pub sets : {A : Type 0} (world : RawWorld A)
      → IsSome ((before which).words told)
      → IsPokedTree (block_of geometry told) before (raw_trees world.parts) which told poke.word
      → kept (raw_beside_of world.parts)
      → Sets geometry before kept poke (Ok world)
  sets world there trees beside =
      let there' =
      subst (λ w. IsSome ((before w).words path)) named (subst (λ p. IsSome ((before which).words p)) same there) in
      let trees' =
      subst (λ w. IsPokedTree (block_of geometry path) before (raw_trees world.parts) w path poke.word) named
      (subst
      (λ p. IsPokedTree (block_of geometry p) before (raw_trees world.parts) which p poke.word) same
      trees) in
      matched (path_on geometry poke.page poke.level) path _ _ leads
      (some_word ((before (which_of poke.tree)).words path) _ _ there' (record { trees = trees'; beside = beside }))

  pub sets_nothing : (A : Type 0)
      → (IsSome ((before which).words told) → ⊥)
      → Sets {A = A} geometry before kept poke (Err (stops.Fault faults.Path))
  sets_nothing A none =
      let none' =
      subst (λ w. IsSome ((before w).words path) → ⊥) named
      (subst (λ p. IsSome ((before which).words p) → ⊥) same none) in
      matched (path_on geometry poke.page poke.level) path _ _ leads
      (no_word ((before (which_of poke.tree)).words path) _ _ none' refl)

-- the first poke of a session's world
pub pokes_first : {A : Type 0} (poke : Poke) (old : Audited A) (answer : Answer) (new : Audited A) (w : World A)
    (result : Result (RawWorld A) Stop)
    → old.poked ≡ None
    → old.session.machine ≡ Some (machine_of w)
    → Sets w.parts.layout.geometry (parts_trees w.parts) (IsBeside w.parts) poke result
    → Comes result (record old.session { machine = None }) answer new → Pokes poke old answer new
pokes_first poke old answer new w result none there sets comes =
    nothing old.poked _ _ none
    (matched old.session.machine (machine_of w) _ (λ m. PokesFirst poke m old answer new) there
    (inr (w, refl, result, sets, comes)))

-- a further poke
pub pokes_again : {A : Type 0} (poke : Poke) (old : Audited A) (answer : Answer) (new : Audited A)
    (before : RawWorld A) (result : Result (RawWorld A) Stop)
    → old.poked ≡ Some before
    → Sets before.parts.layout.geometry (raw_trees before.parts)
    (λ beside. beside ≡ raw_beside_of before.parts) poke result
    → Comes result old.session answer new
    → Pokes poke old answer new
pokes_again poke old answer new before result is sets comes =
    matched old.poked before _ (λ w. PokesAgain poke w old answer new) is (result, sets, comes)
