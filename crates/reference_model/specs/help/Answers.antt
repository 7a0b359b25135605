-- How code comes to the reference step: it decides, carries the changes out, and stores the call.
use Rattle.std.specs.Prelude.{◌≡◌, ℕ, ◌+◌, ◌-◌, ◌<◌, Bool, true, false, ◌⊎◌, Option, Ok, Err}
use Rattle.reference_model.specs.declared.changes.Changes.{Changes}
use Rattle.call_table.specs.declared.reply.Call.{Call}
use Rattle.call_table.specs.declared.reply.Refusal.{Refusal}
use Rattle.call_table.specs.declared.reply.Refusal.TheVariants.{NoMemory, NoPool, LogFull}
use Rattle.call_table.specs.declared.reply.Reply.{Reply}
use Rattle.call_table.specs.declared.reply.Reply.TheVariants.{Done, Refused}
use Rattle.call_table.specs.declared.step.Step.{Step}
use Rattle.page_state.specs.Layouts.{Layout}
use Rattle.reference_model.specs.model.Used.{Used, UsedRooms, used_of}
use Rattle.reference_model.specs.help.Conditions.{Legal, IsUsable}
use Rattle.reference_model.specs.help.RowChanges.{with_touched_rows}
use Rattle.reference_model.specs.model.Rules.{may_grow, names, guest_slot}
use Rattle.reference_model.specs.model.State.{Contents, Reference}
use Rattle.reference_model.specs.model.Step.{is_short, changed, Answered, is_full, stored, StepsOn, used_by, rooms_by, with_used, Steps}
use Rattle.reference_model.specs.model.Decides.{decides}

module _ (l : Layout) (cpu : ℕ) (slot : Option ℕ) (step : Step) where
  -- all changes are made, and the touched range gets the rows that follow from the changes
  pub record IsCarried (h : Changes) (x : Used) (reply : Reply) (y : Used) : Type 0 where
    pub enough : is_short l.depth h x ≡ false
    pub reply_is : reply ≡ Done h.value
    pub next : y ≡ with_touched_rows l cpu slot h (changed l.depth h x)

  -- a pool has too few free frames, and nothing has changed
  pub record IsShort (h : Changes) (x : Used) (reply : Reply) (y : Used) : Type 0 where
    pub short : is_short l.depth h x ≡ true
    pub reply_is : reply ≡ Refused NoPool
    pub next : y ≡ x

  -- memory ran out, and nothing has changed
  pub record IsHalted (wants : Bool) (h : Changes) (x : Used) (reply : Reply)
      (y : Used) : Type 0 where
    pub enough : is_short l.depth h x ≡ false
    pub grows : may_grow step ≡ true
    pub wanted : wants ≡ true
    pub reply_is : reply ≡ Refused NoMemory
    pub next : y ≡ x

  -- the outcomes of carrying out changes; `wants`: memory may run out
  abbrev pub CarriesOut : Bool → Changes → Used → Reply → Used → Type 0
  CarriesOut wants h x reply y =
      IsCarried h x reply y ⊎ IsShort h x reply y ⊎ IsHalted wants h x reply y

  -- barred: the reply is that of the first of the four tests that fails, and nothing has changed
  pub record IsBarred (x : Used) (reply : Reply) (y : Used) : Type 0 where
    pub why : Refusal
    pub bars : decides l cpu slot step x ≡ Err why
    pub reply_is : reply ≡ Refused why
    pub next : y ≡ x

  -- let through: the rule's changes are carried out
  pub record IsLet (wants : Bool) (x : Used) (reply : Reply) (y : Used) : Type 0 where
    pub changes : Changes
    pub lets : decides l cpu slot step x ≡ Ok changes
    pub carried : CarriesOut wants changes x reply y

  -- how code does a step: it decides, and then carries out
  abbrev pub Does : Bool → Used → Reply → Used → Type 0
  Does wants x reply y = IsBarred x reply y ⊎ IsLet wants x reply y

-- a barred call is answered with its refusal, and leaves the used parts as they are
abbrev pub BarredAnswers : Type 0
BarredAnswers =
    (l : Layout) (cpu : ℕ) (slot : Option ℕ) (step : Step) (wants : Bool) (x : Used) (why : Refusal)
    → decides l cpu slot step x ≡ Err why
    → Answered l cpu slot step wants x (Refused why) x

-- a step that isn't barred in a legal state is answered by carrying out the changes of its rule
abbrev pub CarriedAnswers : Type 0
CarriedAnswers =
    (l : Layout) (s : Contents) (cpu : ℕ) (slot : Option ℕ) (step : Step) (wants : Bool)
    (h : Changes) (reply : Reply) (y : Used)
    → IsUsable l
    → Legal l s
    → cpu < l.config.cpus
    → slot ≡ guest_slot (s.cpu cpu) step
    →
    let x = used_of (names step) slot cpu s in
    decides l cpu slot step x ≡ Ok h
    → CarriesOut l cpu slot step wants h x reply y
    → Answered l cpu slot step wants x reply y

-- an answer that is stored, if each log has room, is a reference step
abbrev pub AnswerSteps : Type 0
AnswerSteps =
    (l : Layout) (c : Call) (wants : Bool) (x : Used) (r : UsedRooms) (y : Used)
    → c.slot ≡ guest_slot x.cpu c.step
    → c.number ≡ l.config.log - r.cpu + 1
    → is_full (names c.step) c.slot r ≡ false
    → Answered l c.cpu c.slot c.step wants x c.reply y
    → StepsOn l c x r y (stored r)

-- the reply LogFull, if a log is full, is a reference step
abbrev pub FullSteps : Type 0
FullSteps =
    (l : Layout) (c : Call) (x : Used) (r : UsedRooms)
    → c.slot ≡ guest_slot x.cpu c.step
    → c.number ≡ l.config.log - r.cpu + 1
    → is_full (names c.step) c.slot r ≡ true → c.reply ≡ Refused LogFull → StepsOn l c x r x r

-- a step on the parts that a call uses of a state is a step of the whole state
abbrev pub UsedSteps : Type 0
UsedSteps =
    (l : Layout) (s : Reference) (c : Call) (y : Used) (q : UsedRooms)
    → StepsOn l c (used_by c s) (rooms_by c s) y q
    → Steps l s c (with_used c s y q)
