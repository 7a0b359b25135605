-- The replies of a list of calls, each compared with the model's on the state that the calls before
-- it lead to (profile).
use Rattle.std.specs.Prelude.{◌≡◌, ◌≢◌, ◌↔◌, ◌≤◌, ℕ, List, [], ◌∷◌, map, All, IfSome, Option, Some, None}
use Rattle.page_state.specs.Layouts.{Layout}
use Rattle.call_table.specs.declared.reply.Call.{Call}
use Rattle.call_table.specs.declared.reply.Refusal.TheVariants.{NoMemory}
use Rattle.call_table.specs.declared.reply.Reply.{Reply}
use Rattle.call_table.specs.declared.reply.Reply.TheVariants.{Refused}
use Rattle.call_table.specs.declared.step.Step.{Step}
use Rattle.reference_model.specs.model.History.{IsStored}
use Rattle.reference_model.specs.model.Run.{IsRun}
use Rattle.reference_model.specs.model.State.{Contents, Reference}
use Rattle.reference_model.specs.model.Step.{predict_step}
use Rattle.ghost_judge.specs.declared.disagreement.Disagreement.{Disagreement}
use Rattle.ghost_judge.specs.declared.disagreement.Disagreement.TheVariants.{Reply as ReplyDiffers}
use Rattle.ghost_judge.specs.Judgements.{IsFirstJudged, JudgeAgrees}
use Rattle.world.specs.declared.merge.Histories.{Histories}
use Rattle.world.specs.Merges.{ReportsMerged}

-- no slot has a generation above n, and no ticket one of a VM
pub record HasGenerationsTo (n : ℕ) (s : Contents) : Type 0 where
  pub slots : (v : ℕ) → (s.vms.slot v).generation ≤ n
  pub tickets : (c : ℕ) → IfSome (s.cpu c).ticket (λ t. t.vm.generation ≤ n)

-- a reply that isn't the model's is reported with the model's
pub record IsApart (said spec : Reply) (found : Option Disagreement) : Type 0 where
  pub same : said ≡ spec → found ≡ None
  pub differ : said ≢ spec → found ≡ Some (ReplyDiffers said spec)

-- a call that lacked memory leaves the state: no finding if the model makes the step and it can
-- take memory, and otherwise the first difference
pub record IsJudgedWant (l : Layout) (g : Reference) (cpu : ℕ) (step : Step) (said : Reply)
    (found : Option Disagreement) : Type 0 where
  pub none : (found ≡ None)
      ↔ JudgeAgrees g.contents step said g.contents (predict_step l g cpu step)
  pub first : IfSome found
      (IsFirstJudged g.contents step said g.contents (predict_step l g cpu step))

-- the judgement of one call of a list on the state before it, and the state after it: a call that
-- lacked memory leaves the state
pub record Judges (l : Layout) (g : Reference) (cpu : ℕ) (step : Step) (said : Reply)
    (found : Option Disagreement) (h : Reference) : Type 0 where
  pub wants : said ≡ Refused NoMemory → (h ≡ g) × IsJudgedWant l g cpu step said found
  pub other : said ≢ Refused NoMemory
      → (h ≡ (predict_step l g cpu step).1) × IsApart said (predict_step l g cpu step).0 found

-- the finding at one call, followed by those of later calls
abbrev pub with_found : Option Disagreement → List Disagreement → List Disagreement
with_found None more = more
with_found (Some d) more = d ∷ more

-- and all calls of a list, one after another
abbrev pub JudgesAll : Layout → Reference → List (ℕ × Step × Reply) → List Disagreement → Type 0
JudgesAll l g [] found = found ≡ []
JudgesAll l g (call ∷ more) found =
    (one : Option Disagreement)
    × (h : Reference)
    × (rest : List Disagreement)
    × Judges l g call.0 call.1 call.2 one h
    × JudgesAll l h more rest
    × (found ≡ with_found one rest)

-- the report of calls: CPU, step and reply of each
abbrev pub told_of : List Call → List (ℕ × Step × Reply)
told_of calls = map (λ c. (c.cpu, c.step, c.reply)) calls

-- the calls are those of a legal history
pub record IsLegalReport (l : Layout) (told : List (ℕ × Step × Reply)) : Type 0 where
  pub log : List Call
  pub end : Reference
  pub run : IsRun l log end
  pub stored : All (λ c. IsStored c.reply) log
  pub told_is : told_of log ≡ told

-- the replies of logs are judged along a merged list of them
abbrev pub ComparesAll : Layout → Reference → Histories → List Disagreement → Type 0
ComparesAll l g logs found =
    (told : List (ℕ × Step × Reply)) × ReportsMerged logs told × JudgesAll l g told found
