-- The model's step without the test of the pools, and when a judge that ignores tables and free
-- frames agrees.
use Rattle.std.specs.Prelude.{◌≡◌, ◌⊎◌, ℕ, Bool, true, false, Option, Some, None}
use Rattle.call_table.specs.declared.reply.Refusal.{Refusal}
use Rattle.call_table.specs.declared.reply.Refusal.TheVariants.{NoMemory, NoPool}
use Rattle.call_table.specs.declared.reply.Reply.{Reply}
use Rattle.call_table.specs.declared.reply.Reply.TheVariants.{Done, Refused}
use Rattle.call_table.specs.declared.step.Step.{Step}
use Rattle.call_table.specs.declared.step.Step.TheVariants.{Topup, ReclaimPool, FinishGuest}
use Rattle.page_state.specs.Layouts.{Layout}
use Rattle.reference_model.specs.model.Parts.{lacks_slot}
use Rattle.reference_model.specs.model.Rules.{names, guest_slot, may_grow}
use Rattle.reference_model.specs.model.State.{Contents}
use Rattle.reference_model.specs.model.Step.{first_test, rule_of, made}
use Rattle.reference_model.specs.model.Used.{Used, used_of, put_back}
use Rattle.freedoms.specs.AnyTrees.{LegalInAnyTrees}
use Rattle.freedoms.specs.OwnTables.{OwnTables, without_tables}

-- the steps whose rules ask a guest's pool, or name a frame of it
abbrev pub asks_pool : Step → Bool
asks_pool (Topup vm) = true
asks_pool (ReclaimPool vm) = true
asks_pool FinishGuest = true
asks_pool other = false

-- the step that gives a frame of a pool by the pool's order
abbrev pub is_by_order : Step → Bool
is_by_order (ReclaimPool vm) = true
is_by_order other = false

-- the call was made
abbrev pub is_done : Reply → Bool
is_done (Done value) = true
is_done other = false

-- lack of memory: NoMemory or NoPool
abbrev pub IsWant : Reply → Type 0
IsWant reply = (reply ≡ Refused NoMemory) ⊎ (reply ≡ Refused NoPool)

module _ (l : Layout) (cpu : ℕ) (slot : Option ℕ) (step : Step) where
  -- the first test of the step's rule that fails; the pools aren't asked
  abbrev pub rule_fails : Used → Option Refusal
  rule_fails x = first_test (rule_of l cpu slot step x) (lacks_slot (names step) slot)

  -- made: no test of the rule fails, and all changes of the rule are made
  pub record IsMadeAmply (x : Used) (reply : Reply) (y : Used) : Type 0 where
    pub passes : rule_fails x ≡ None
    pub reply_is : reply ≡ Done (rule_of l cpu slot step x).changes.value
    pub next : y ≡ made l cpu slot step x

  -- refused: the reply is the refusal of the rule's first test that fails, and nothing has changed
  pub record IsRefusedByRule (x : Used) (reply : Reply) (y : Used) : Type 0 where
    pub why : Refusal
    pub fail : rule_fails x ≡ Some why
    pub reply_is : reply ≡ Refused why
    pub next : y ≡ x

  -- out of memory, in the pools or elsewhere: no test of the rule fails, and nothing has changed
  pub record IsInWant (x : Used) (reply : Reply) (y : Used) : Type 0 where
    pub passes : rule_fails x ≡ None
    pub grows : may_grow step ≡ true
    pub reply_is : IsWant reply
    pub next : y ≡ x

  -- the answers to a step whose pools may hold any number of frames, logs apart
  abbrev pub AnswersAmply : Used → Reply → Used → Type 0
  AnswersAmply x reply y = IsMadeAmply x reply y ⊎ IsRefusedByRule x reply y ⊎ IsInWant x reply y

  -- the same as a function, for memory that doesn't run out
  unfoldable pub answer_amply : Used → Reply × Used
  answer_amply x =
      elim (rule_fails x) [
        | Some why ↦ (Refused why, x)
        | None ↦ (Done (rule_of l cpu slot step x).changes.value, made l cpu slot step x)
      ]

-- the reply of a step, unless memory runs out, and the state after it, if the pools may hold any
-- number of frames and logs are ignored
unfoldable pub predict_step_amply : Layout → Contents → ℕ → Step → Reply × Contents
predict_step_amply l s cpu step =
    let n = names step in
    let slot = guest_slot (s.cpu cpu) step in
    let r = answer_amply l cpu slot step (used_of n slot cpu s) in
    (r.0, put_back n slot cpu s r.1)

-- a step of a CPU leads from a state to another, if its pools may hold any number of frames
pub record StepsAmply (l : Layout) (s : Contents) (cpu : ℕ) (step : Step) (reply : Reply)
    (t : Contents) : Type 0 where
  pub after : Used
  pub answers : AnswersAmply l cpu (guest_slot (s.cpu cpu) step) step
      (used_of (names step) (guest_slot (s.cpu cpu) step) cpu s) reply after
  pub next : t ≡ put_back (names step) (guest_slot (s.cpu cpu) step) cpu s after

-- judged with own tables: some legal state that differs from the one before only in tables and free
-- frames makes the step, to a state that differs from the one after only in these
pub record JudgedWithOwnTables (l : Layout) (before : Contents) (cpu : ℕ) (step : Step)
    (reply : Reply) (after : Contents) : Type 0 where
  pub state : Contents
  pub next : Contents
  pub begins : OwnTables before state
  pub legal : LegalInAnyTrees l state
  pub steps : StepsAmply l state cpu step reply next
  pub ends : OwnTables next after

-- the judgement that a program computes: the state before, without tables and free frames, makes
-- the step, and the result equals the state after apart from these
pub record IsJudgedByMaps (l : Layout) (before : Contents) (cpu : ℕ) (step : Step) (reply : Reply)
    (after : Contents) : Type 0 where
  pub next : Contents
  pub steps : StepsAmply l (without_tables before) cpu step reply next
  pub ends : OwnTables next after

-- the model's reply and next state for a step from a state without tables and free frames
abbrev pub predicted_bare : Layout → Contents → ℕ → Step → Reply × Contents
predicted_bare l before cpu step = predict_step_amply l (without_tables before) cpu step

-- a reply is a lack of memory, the step may allocate, and the model makes it
pub record WantsAnyMemory (step : Step) (reply told : Reply) : Type 0 where
  pub reply_is : IsWant reply
  pub grows : may_grow step ≡ true
  pub made : is_done told ≡ true

-- the reply is the model's, and so is the state after it apart from tables and free frames
pub record IsAsPredictedBare (reply : Reply) (after : Contents)
    (told : Reply × Contents) : Type 0 where
  pub reply_is : reply ≡ told.0
  pub contents_are : OwnTables told.1 after

-- memory ran out, and only tables and free frames changed
pub record IsUnchangedBare (before : Contents) (step : Step) (reply : Reply) (after : Contents)
    (told : Reply × Contents) : Type 0 where
  pub wants : WantsAnyMemory step reply told.0
  pub contents_are : OwnTables before after

-- one of both
abbrev pub AgreesBare : Contents → Step → Reply → Contents → Reply × Contents → Type 0
AgreesBare before step reply after told =
    IsAsPredictedBare reply after told ⊎ IsUnchangedBare before step reply after told
