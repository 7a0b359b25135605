-- Laws of a judgement up to the freedoms: on legal states and on steps of the model, and that it
-- has one answer.
use Rattle.std.specs.Prelude.{◌≡◌, ◌≢◌, ◌↔◌, ◌<◌, ℕ, true, Option, None}
use Rattle.call_table.specs.declared.reply.Call.{Call}
use Rattle.call_table.specs.declared.reply.Refusal.TheVariants.{LogFull}
use Rattle.call_table.specs.declared.reply.Reply.{Reply}
use Rattle.call_table.specs.declared.reply.Reply.TheVariants.{Refused}
use Rattle.call_table.specs.declared.step.Step.{Step}
use Rattle.page_state.specs.Layouts.{Layout, is_memory}
use Rattle.reference_model.specs.help.Conditions.{IsUsable, Legal}
use Rattle.reference_model.specs.model.State.{Contents, Reference}
use Rattle.reference_model.specs.model.Step.{Steps}
use Rattle.freedoms.specs.declared.Freedoms.{Freedoms}
use Rattle.freedoms.specs.Ample.{asks_pool}
use Rattle.freedoms.specs.AnyTrees.{LegalInAnyTrees}
use Rattle.freedoms.specs.Freedoms.{Alike, JudgedWith, is_read}
use Rattle.freedoms.specs.OwnTables.{OwnTables}
use Rattle.ghost_judge.specs.declared.disagreement.Disagreement.{Disagreement}
use Rattle.free_judge.specs.Freely.{AgreesBy, IsFirstBy, IsJudgedFreely, IsPredictedFreely, IsReady}

-- memory lies below page 2^26
abbrev pub HasLowMemory : Layout → Type 0
HasLowMemory l = (f : ℕ) → is_memory l f ≡ true → f < 67108864

-- if some legal state is like the one before, nothing is found if and only if the call is judged to
-- agree. A read is from the state itself; a step that reads a guest's pool is of a layout whose
-- memory lies below page 2^26
abbrev pub FoundWhere : Type 0
FoundWhere =
    (w : Freedoms) (l : Layout) (before legal : Contents) (cpu : ℕ) (step : Step) (reply : Reply)
    (after : Contents) (found : Option Disagreement)
    → IsUsable l
    → (asks_pool step ≡ true → HasLowMemory l)
    → Alike w l before legal
    → (is_read step ≡ true → OwnTables before legal)
    → LegalInAnyTrees l legal
    → IsJudgedFreely w l before cpu step reply after found
    → (found ≡ None) ↔ JudgedWith w l before cpu step reply after

-- no false alarm: nothing is found of a step of the model from a legal state, whatever tables and
-- free frames are reported for the states before and after it
abbrev pub NoFalseAlarm : Type 0
NoFalseAlarm =
    (w : Freedoms) (l : Layout) (s t : Reference) (c : Call) (before after : Contents)
    (found : Option Disagreement)
    → IsUsable l
    → (asks_pool c.step ≡ true → HasLowMemory l)
    → Legal l s.contents
    → Steps l s c t
    → c.reply ≢ Refused LogFull
    → OwnTables before s.contents
    → OwnTables t.contents after
    → IsJudgedFreely w l before c.cpu c.step c.reply after found → found ≡ None

-- at most one disagreement is the first
abbrev pub FirstOnce : Type 0
FirstOnce =
    (w : Freedoms) (step : Step) (reply told : Reply) (before after wanted post : Contents)
    (d e : Disagreement)
    → IsFirstBy w step reply told before after wanted post d
    → IsFirstBy w step reply told before after wanted post e
    → d ≡ e

-- and none is if all agrees
abbrev pub FirstElse : Type 0
FirstElse =
    (w : Freedoms) (step : Step) (reply told : Reply) (before after wanted post : Contents)
    (d : Disagreement)
    → AgreesBy w step reply told before after wanted post
    → IsFirstBy w step reply told before after wanted post d
    → ⊥

-- the model steps from one state
abbrev pub ReadyOnce : Type 0
ReadyOnce =
    (w : Freedoms) (l : Layout) (before : Contents) (cpu : ℕ) (step : Step) (reply : Reply)
    (r s : Contents)
    → IsReady w l before cpu step reply r
    → IsReady w l before cpu step reply s
    → r ≡ s

-- a judgement has one answer
abbrev pub JudgedFreelyOnce : Type 0
JudgedFreelyOnce =
    (w : Freedoms) (l : Layout) (before : Contents) (cpu : ℕ) (step : Step) (reply : Reply)
    (after : Contents) (f g : Option Disagreement)
    → IsJudgedFreely w l before cpu step reply after f
    → IsJudgedFreely w l before cpu step reply after g
    → f ≡ g

-- and so has a prediction, apart from tables and free frames
abbrev pub PredictedFreelyOnce : Type 0
PredictedFreelyOnce =
    (w : Freedoms) (l : Layout) (before : Contents) (cpu : ℕ) (step : Step) (said r s : Reply)
    (a b : Contents)
    → IsPredictedFreely w l before cpu step said r a
    → IsPredictedFreely w l before cpu step said s b
    → (r ≡ s) × OwnTables a b
