-- A step that a CPU can make of a state in numbers, and what the model says of it.
use Rattle.std.proofs.Common.{◌≡◌, ℕ, ◌<◌, ap, sym, ◌∙◌, subst}
use Rattle.std.specs.Prelude.{◌↔◌, Bool, true, false, not, IsTrue, List, Some}
use Rattle.call_table.specs.declared.reply.Reply.{Reply}
use Rattle.call_table.specs.declared.step.Step.{Step}
use Rattle.page_state.proofs.Common.{same2}
use Rattle.page_state.specs.Layouts.{Layout}
use Rattle.page_state.specs.LayoutView.{layout_of}
use Rattle.reference_model.specs.model.State.{Reference}
use Rattle.reference_model.specs.model.Step.{predict_step}
use Rattle.c_words.specs.declared.step.PlainStep.{PlainStep}
use Rattle.c_words.specs.Steps.{step_from_c}
use Rattle.ghost_spec.specs.declared.state.Ghost.{Ghost}
use Rattle.ghost_spec.specs.Kept.{HasNextGeneration}
use Rattle.ghost_spec.specs.States.{contents_in, ghost_state}
use Rattle.c_states.specs.declared.layout.PlainLayout.{PlainLayout}
use Rattle.c_states.specs.declared.layout.PlainRegion.{PlainRegion}
use Rattle.c_states.specs.Faults.{AreTaken}
use Rattle.c_states.specs.Judged.{prediction_from_c, HasLastGeneration}
use Rattle.c_states.specs.Layouts.{layout_from_c, IsTakenLayout}
use Rattle.c_states.specs.States.{Lists, contents_from_c, state_from_c}
use Rattle.c_judge.specs.Ready.{IsCallable}

not-true : (b : Bool) → not b ≡ true → IsTrue b → ⊥
not-true true e is = absurd (let bad = e in cc)
not-true false e is = absurd (let bad = is in cc)

pub last-generation : (s : Reference) (before : Lists) (cpu : ℕ) (plain : PlainStep) (step : Step) (b : Bool)
    → step_from_c plain ≡ Some step
    → s ≡ state_from_c before
    → (IsTrue b ↔ HasNextGeneration (s.contents.cpu cpu).ticket step)
    → not b ≡ true
    → HasLastGeneration before cpu plain
last-generation s before cpu plain step b said is test last = record {
  step = step;
  step_is = said;
  last = λ has. not-true b last (test.1 (subst (λ t. HasNextGeneration (t.contents.cpu cpu).ticket step) (sym is) has));
}

pub callable : (l : PlainLayout) (regions : List PlainRegion) (g : Ghost) (before : Lists) (cpu : ℕ)
    (plain : PlainStep) (step : Step) (b : Bool)
    → step_from_c plain ≡ Some step
    → cpu < l.cpus
    → IsTakenLayout l regions
    → AreTaken l.cpus before
    → ghost_state g ≡ state_from_c before
    → (IsTrue b ↔ HasNextGeneration ((ghost_state g).contents.cpu cpu).ticket step)
    → b ≡ true
    → layout_of g.layout ≡ layout_from_c l regions
    → g.layout.config.cpus ≡ l.cpus
    → IsCallable l regions before cpu plain step g
callable l regions g before cpu plain step b said less taken listed is test next layout cpus = record {
  can = record {
    step_is = said;
    cpu_is = less;
    layout = taken;
    taken = listed;
    generation = subst (λ t. HasNextGeneration (t.contents.cpu cpu).ticket step) is (test.0 next);
  };
  state = is;
  layout = layout;
  cpus = cpus;
}

module _ (l : PlainLayout) (regions : List PlainRegion) (before : Lists) (cpu : ℕ) (plain : PlainStep) (step : Step)
    (g : Ghost) (h : IsCallable l regions before cpu plain step g) where
  pub cpu-is : cpu < g.layout.config.cpus
  cpu-is = subst (λ (n : ℕ). cpu < n) (sym h.cpus) h.can.cpu_is

  pub contents-are : contents_in g ≡ contents_from_c before
  contents-are = ap (λ (s : Reference). s.contents) h.state

  pub generation-is : HasNextGeneration ((contents_in g).cpu cpu).ticket step
  generation-is = subst (λ s. HasNextGeneration (s.cpu cpu).ticket step) (sym contents-are) h.can.generation

  pub told-reply : (reply : Reply) (after : Reference)
      → ◌≡◌ {A = Reply × Reference} (reply, after) (predict_step (layout_of g.layout) (ghost_state g) cpu step)
      → reply ≡ (prediction_from_c l regions before cpu step).0
  told-reply reply after e =
      ap (λ (p : Reply × Reference). p.0)
      (e ∙ same2 (λ (m : Layout) (s : Reference). predict_step m s cpu step) h.layout h.state)
