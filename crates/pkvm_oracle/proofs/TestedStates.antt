-- A state that is tested, as plain lists say it.
use Rattle.std.proofs.Common.{◌≡◌, ℕ, Bool, List, Option, Some, None, Result, Ok, Err, refl, ap, subst}
use Rattle.std.specs.Prelude.{◌↔◌, IfErr, IfOk, IfSome}
use Rattle.page_state.specs.LayoutView.{layout_of}
use Rattle.page_state.specs.Layouts.{Layout}
use Rattle.reference_model.specs.model.State.{Contents, Reference}
use Rattle.ghost_spec.specs.declared.lists.GhostLists.{GhostLists}
use Rattle.ghost_spec.specs.States.{contents_in, ghost_state, IsKept}
use Rattle.ghost_legal.specs.declared.finding.Illegal.{Illegal}
use Rattle.ghost_legal.specs.Blocks.{TreesHaveFirstBlocks}
use Rattle.ghost_legal.specs.Told.{IsIllegalBy, IsLegalBy}
use Rattle.c_states.specs.declared.layout.PlainLayout.{PlainLayout}
use Rattle.c_states.specs.declared.layout.PlainRegion.{PlainRegion}
use Rattle.c_states.specs.Faults.{AreTaken}
use Rattle.c_states.specs.Layouts.{layout_from_c, IsTakenLayout}
use Rattle.c_states.specs.States.{Lists, contents_from_c, state_from_c}
use Rattle.pkvm_oracle.specs.declared.legal.Untested.{Untested}
use Rattle.pkvm_oracle.specs.declared.legal.Untested.TheVariants.{Flags, State, NoMemory}
use Rattle.pkvm_oracle.specs.Legal.{asks_for_trees, IsTested, IsTestedFrom, IsTestedIn, IsUntested, IsUntestedFrom}

pub tested_lists : (trees : Bool) (g : GhostLists) (o : Option Illegal) → IsKept g → TreesHaveFirstBlocks g
    → (o ≡ None) ↔ IsLegalBy trees (layout_of g.layout) (contents_in g)
    → IfSome o (IsIllegalBy trees g)
    → IsTestedFrom trees g o
tested_lists trees g None k b n t = record { none = n; first = tt }
tested_lists trees g (Some x) k b n t =
    record { none = n; first = record { lists = g; kept = k; blocks = b; layout = refl; contents = refl; told = t } }

module _ (l : PlainLayout) (regions : List PlainRegion) (p : Lists) (flags : ℕ) where
  pub tested_said : (trees : Bool) (g : GhostLists) (r : Result (Option Illegal) Untested)
      → asks_for_trees flags ≡ Some trees
      → IsTakenLayout l regions
      → AreTaken l.cpus p
      → layout_of g.layout ≡ layout_from_c l regions
      → ghost_state g ≡ state_from_c p
      → IfOk r (IsTestedFrom trees g)
      → IfOk r (IsTested l regions p flags)
  tested_said trees g (Ok o) asked taken are e s h = record {
    trees = trees;
    asked = asked;
    layout = taken;
    taken = are;
    tested =
        subst (λ (x : Layout). IsTestedIn trees x (contents_from_c p) o) e
        (subst (λ (c : Contents). IsTestedIn trees (layout_of g.layout) c o)
        (ap (λ (x : Reference). x.contents) s) h);
  }
  tested_said trees g (Err why) asked taken are e s h = tt

  pub untested_said : (r : Result (Option Illegal) Untested)
      → IfErr r IsUntestedFrom
      → IfErr r (IsUntested l regions p flags)
  untested_said (Ok o) h = tt
  untested_said (Err Flags) h = absurd h
  untested_said (Err (State why)) h = absurd h
  untested_said (Err NoMemory) h = tt
