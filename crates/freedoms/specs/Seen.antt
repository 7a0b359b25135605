-- When a judge with freedoms agrees, by the model's step from one state: the judgement that a
-- program computes.
use Rattle.std.specs.Prelude.{◌⊎◌, ◌↔◌, ◌≡◌, ℕ, true}
use Rattle.call_table.specs.declared.reply.Reply.{Reply}
use Rattle.call_table.specs.declared.step.Step.{Step}
use Rattle.page_state.specs.Layouts.{Layout}
use Rattle.reference_model.specs.model.State.{Contents}
use Rattle.freedoms.specs.declared.Freedoms.{Freedoms}
use Rattle.freedoms.specs.Ample.{WantsAnyMemory, predict_step_amply}
use Rattle.freedoms.specs.AnyTrees.{LegalInAnyTrees}
use Rattle.freedoms.specs.Freedoms.{Alike, CountsAs, is_read, view, IsJudgedInView, JudgedWith}
use Rattle.freedoms.specs.OwnTables.{OwnTables, without_tables}

-- the reply counts as the model's, and the state after it is the model's as far as the freedoms fix
-- it
pub record IsAsSeen (w : Freedoms) (l : Layout) (reply : Reply) (after : Contents)
    (told : Reply × Contents) : Type 0 where
  pub says : CountsAs w told.0 reply
  pub contents_are : Alike w l told.1 after

-- memory ran out, and nothing changed apart from the hypervisor's freedoms
pub record IsUnchangedSeen (w : Freedoms) (l : Layout) (before : Contents) (step : Step)
    (reply : Reply) (after : Contents) (told : Reply × Contents) : Type 0 where
  pub wants : WantsAnyMemory step reply told.0
  pub contents_are : Alike w l before after

-- one of both
abbrev pub AgreesSeen : Freedoms → Layout → Contents → Step → Reply → Contents → Reply × Contents
    → Type 0
AgreesSeen w l before step reply after told =
    IsAsSeen w l reply after told ⊎ IsUnchangedSeen w l before step reply after told

-- the judgement in the view that the freedoms leave follows from the model's step in that view
abbrev pub SeenByPredicted : Type 0
SeenByPredicted =
    (w : Freedoms) (l : Layout) (before : Contents) (cpu : ℕ) (step : Step) (reply : Reply)
    (after : Contents)
    → IsJudgedInView w l before cpu step reply after
    ↔ AgreesSeen w l before step reply after (predict_step_amply l (view w l before) cpu step)

-- if some legal state equals the one before apart from tables and free frames, a read is judged by
-- the model's step from that state without them
abbrev pub ReadsSeen : Type 0
ReadsSeen =
    (w : Freedoms) (l : Layout) (before legal : Contents) (cpu : ℕ) (step : Step) (reply : Reply)
    (after : Contents)
    → OwnTables before legal
    → LegalInAnyTrees l legal
    → is_read step ≡ true
    → JudgedWith w l before cpu step reply after
    ↔ AgreesSeen w l before step reply after (predict_step_amply l (without_tables before) cpu step)
