-- The answer to a call.
use Rattle.std.specs.Prelude.{◌≡◌, ◌≢◌, ◌⊎◌, ℕ, ◌+◌, false, true, length, List, [], ◌∷◌, ◌++◌, None}
use Rattle.call_table.specs.declared.reply.Call.{Call}
use Rattle.call_table.specs.declared.reply.Refusal.TheVariants.{Contended, LogFull}
use Rattle.call_table.specs.declared.reply.Reply.{Reply}
use Rattle.call_table.specs.declared.reply.Reply.TheVariants.{Refused}
use Rattle.call_table.specs.declared.step.Step.{Step}
use Rattle.page_state.specs.LayoutView.{layout_of}
use Rattle.reference_model.specs.model.History.{IsStored, calls_on}
use Rattle.reference_model.specs.model.Rules.{guest_slot}
use Rattle.part_types.specs.Lent.{with_call}
use Rattle.part_types.specs.View.{cpu_of}
use Rattle.part_table.specs.Parts.{numbers_for, part_of, uses}
use Rattle.part_table.specs.Does.{IsLeft, none_at}
use Rattle.part_table.specs.Known.{AddsTries, IsSame, Known, Try, seen_at}
use Rattle.part_table.specs.Tried.{AllTaken, EndsIn, FoundAway, FoundFull}

-- the parts that a step of the pass uses, in the order in which they are tried
abbrev pub used_by : Step → Known → List ℕ
used_by step v = numbers_for v.own step

-- the pass's next call, of this step and with this reply: its number is one more than its own list
-- has calls
abbrev pub next_call : Known → Step → Reply → Call
next_call v step reply =
    record {
      cpu = v.cpu;
      number = length v.own.log.calls + 1;
      step = step;
      reply = reply;
      slot = guest_slot (cpu_of v.own) step;
    }

-- The pass's next call is made and stored, with this reply. Its own list has the call at the end.
-- There is a legal history that has this whole list, and ends with the call: it leads to the pass's
-- own state. Each part that the call uses was tried once, in order, and taken. What the pass has
-- then seen there is all that this history has there, and elsewhere it has seen no more
pub record MakesCall (step : Step) (reply : Reply) (v w : Known) : Type 0 where
  pub call : Call
  pub call_is : call ≡ next_call v step reply
  pub room : v.own.log.room ≢ 0
  pub layout : w.layout ≡ v.layout
  pub cpu : w.cpu ≡ v.cpu
  pub own : w.own.log ≡ with_call call v.own.log
  pub left : IsLeft {A = Unit {0}} (layout_of w.layout) w.cpu w.own none_at
  pub ends : (before : List Call) × (left.log ≡ before ++ call ∷ [])
  pub seen : (k : ℕ) → uses call k ≡ true → seen_at w.seen k ≡ calls_on (part_of k) left.log
  pub others : (k : ℕ) → uses call k ≡ false → seen_at w.seen k ≡ seen_at v.seen k
  pub tries : List Try
  pub tried : AddsTries tries v w
  pub taken : AllTaken call v w (used_by step v) tries

-- nothing is stored: the pass knows what it knew, and these tries, of which this holds
pub record StoresNothing (Found : List Try → Type 0) (v w : Known) : Type 0 where
  pub same : IsSame v w
  pub tries : List Try
  pub tried : AddsTries tries v w
  pub found : Found tries

-- another pass has a part that the step uses: the last try, and no other, found a part taken
abbrev pub FindsAway : Step → Known → List Try → Type 0
FindsAway step v ts = (v.own.log.room ≢ 0) × EndsIn FoundAway (used_by step v) ts

-- a log is full: the CPU's, and no part was tried, or that of the part that was tried last, as it
-- was taken
abbrev pub FindsLogFull : Step → Known → List Try → Type 0
FindsLogFull step v ts =
    ((v.own.log.room ≡ 0) × (ts ≡ []))
    ⊎ ((v.own.log.room ≢ 0) × EndsIn FoundFull (used_by step v) ts)

-- The reply to one try: a stored call was made; with Contended another pass has a part that the
-- step uses, and no other reply is given if a try found a part so; with LogFull a log that would
-- store the call is full
pub record Answers (step : Step) (reply : Reply) (v w : Known) : Type 0 where
  pub stored : IsStored reply → MakesCall step reply v w
  pub contended : reply ≡ Refused Contended → StoresNothing (FindsAway step v) v w
  pub met : (part : ℕ) (before after : List Try)
      → AddsTries (before ++ (part, None) ∷ after) v w
      → reply ≡ Refused Contended
  pub log_full : reply ≡ Refused LogFull → StoresNothing (FindsLogFull step v) v w
