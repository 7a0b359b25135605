-- The requirements and results of a try of a call: the state of a pass between its calls, the
-- requirements of its exchanges and of its step, and the outcome of each try.
use Rattle.std.specs.Prelude.{◌≡◌, ◌≢◌, ℕ, ◌<◌, List, [], ◌∷◌, ◌++◌, map, Option, Some, None, option_map, true, false}
use Rattle.atomic_table.specs.Seated.{TableId}
use Rattle.page_state.specs.declared.layout.Layout.{Layout as TheLayout}
use Rattle.page_state.specs.LayoutView.{layout_of}
use Rattle.call_table.specs.declared.reply.Call.{Call}
use Rattle.call_table.specs.declared.reply.Refusal.TheVariants.{LogFull as log_full, Contended as contended}
use Rattle.call_table.specs.declared.reply.Reply.{Reply}
use Rattle.call_table.specs.declared.reply.Reply.TheVariants.{Refused}
use Rattle.call_table.specs.declared.step.Step.{Step}
use Rattle.reference_model.specs.model.History.{IsStored}
use Rattle.part_types.specs.declared.parts.CpuState.{CpuState}
use Rattle.part_types.specs.Lent.{with_call}
use Rattle.part_table.specs.declared.rule.View.{View}
use Rattle.part_table.specs.declared.slot.Slot.{Slot}
use Rattle.part_table.specs.declared.tries.Tried.{Tried}
use Rattle.part_table.specs.declared.tries.Tried.TheVariants.{Stored, Contended, LogFull}
use Rattle.part_table.specs.Answered.{used_by}
use Rattle.part_table.specs.Does.{Does, IsCalled, IsLeft}
use Rattle.part_table.specs.Known.{AddsTries, IsSame, Known, StartsWith, Try, seen_at}
use Rattle.part_table.specs.Parts.{log_of, numbers_for, parts, uses}
use Rattle.part_table.specs.Rule.{AtRest, Extends, Hands, IsIdle, Seated, Standing, held_at, taking}
use Rattle.part_table.specs.Tried.{AllTaken, EndsIn, FoundAway, FoundFull}

module _ {A : Type 0} where
  -- A pass between its calls: its seat is one of the table's and holds no part, its view is that of
  -- the CPU with this own state, and a run leaves that state
  pub record IsAtRest (table : TableId) (l : TheLayout) (cpu : ℕ) (own : CpuState) (seat : TableId)
      (me : Seated A) : Type 0 where
    pub same : seat ≡ table
    pub on : me.0.on ≡ true
    pub layout : me.0.layout ≡ l
    pub cpu_is : me.0.cpu ≡ cpu
    pub own_is : me.0.own ≡ own
    pub empty : me.1 ≡ []
    pub idle : IsIdle me.0
    pub left : AtRest me.0

  -- What a try requires: its pass is at rest, the CPU is one of the layout's and has room in its
  -- own log, and the table has a word for each part
  pub record CanTry (table : TableId) (l : TheLayout) (own : CpuState) (seat : TableId)
      (me : Seated A) : Type 0 where
    pub rest : IsAtRest table l own.id own seat me
    pub known : own.id < l.config.cpus
    pub room : own.log.room ≢ 0
    pub words : table.words ≡ parts

  -- The requirements of the step on these parts: its CPU is one of the layout's, a run leads to the
  -- parts and the CPU's own state, they are exactly the parts that the step uses, in this order,
  -- and no log that would store the call is full
  pub record CanMake (l : TheLayout) (own : CpuState) (step : Step) (ks : List ℕ)
      (lent : ℕ → Option (Slot A)) : Type 0 where
    pub known : own.id < l.config.cpus
    pub left : ∥ IsLeft (layout_of l) own.id own lent ∥₁
    pub uses : numbers_for own step ≡ ks
    pub own_room : own.log.room ≢ 0
    pub rooms : (k : ℕ) (x : Slot A) → lent k ≡ Some x → (log_of x).room ≢ 0

  -- After the part k is taken: it is in hand, with its log as a try, this log begins with what the
  -- pass had seen of it, and a run leaves all parts in hand
  pub record HasTaken (k : ℕ) (x : Slot A) (m n : Seated A) : Type 0 where
    pub is : n ≡ (taking m.0 k x, (k, None) ∷ m.1)
    pub begun : StartsWith (log_of x).calls (seen_at m.0.seen k)
    pub left : Standing n.0

  -- What storing a call requires: it is the pass's CPU's, uses each part that is held, and does
  -- with these and with the CPU's own state what the step does
  pub record CanStore (c : Call) (own : CpuState) (v : View A) (after : Hands A) : Type 0 where
    pub by : c.cpu ≡ v.cpu
    pub used : (j : ℕ) (x : Slot A) → held_at v.held j ≡ Some x → uses c j ≡ true
    pub does : Does (layout_of v.layout) c (held_at v.held) v.own (held_at after) own

-- what a stored call leaves of it: the call is added to the pass's own list, and there is a legal
-- history that it ends. What the pass has seen of parts that the call didn't use stays
pub record Adds (c : Call) (v w : Known) : Type 0 where
  pub layout : w.layout ≡ v.layout
  pub cpu : w.cpu ≡ v.cpu
  pub own : w.own.log ≡ with_call c v.own.log
  pub others : (k : ℕ) → uses c k ≡ false → seen_at w.seen k ≡ seen_at v.seen k
  pub history : Extends c w

-- the tries of one call that uses these parts, by its outcome
abbrev pub TriesOf : List ℕ → Tried → Known → Known → Type 0
TriesOf ks (Stored c) v w = (ts : List Try) × AddsTries ts v w × AllTaken c v w ks ts
TriesOf ks Contended v w = (ts : List Try) × AddsTries ts v w × EndsIn FoundAway ks ts
TriesOf ks LogFull v w = (ts : List Try) × AddsTries ts v w × EndsIn FoundFull ks ts

-- the answer of one try of a step: a stored call is the step's, and if none is stored nothing
-- changed
abbrev pub Tells : Step → List ℕ → Tried → Known → Known → Type 0
Tells step ks (Stored c) v w =
    IsCalled v.cpu v.own step c × IsStored c.reply × Adds c v w × TriesOf ks (Stored c) v w
Tells step ks Contended v w = IsSame v w × TriesOf ks Contended v w
Tells step ks LogFull v w = IsSame v w × TriesOf ks LogFull v w

-- the reply to a try
abbrev pub reply_of : Tried → Reply
reply_of (Stored c) = c.reply
reply_of Contended = Refused contended
reply_of LogFull = Refused log_full

-- if the call of a try is stored, this holds
abbrev pub WhereStored : Tried → Type 0 → Type 0
WhereStored (Stored c) F = F
WhereStored Contended F = Unit {0}
WhereStored LogFull F = Unit {0}

module _ {A T : Type 0}
    (tells : TheLayout
    → (ℕ → Option (Slot A))
    → CpuState
    → Call
    → (ℕ → Option (Slot A))
    → CpuState
    → T
    → T
    → Type 0)
    (step : Step) where
  -- the step of the call was made on these parts, by number, as they were taken, and reported
  pub record Makes (ks : List ℕ) (v w : Known) (c : Call) (from to : T) : Type 0 where
    pub before : ℕ → Option (Slot A)
    pub after : ℕ → Option (Slot A)
    pub called : IsCalled v.cpu v.own step c
    pub left : IsLeft (layout_of v.layout) v.cpu v.own before
    pub only : (k : ℕ) (x : Slot A) → before k ≡ Some x → uses c k ≡ true
    pub does : Does (layout_of v.layout) c before v.own after w.own
    pub tried : AddsTries (map (λ k. (k, option_map log_of (before k))) ks) v w
    pub told : tells v.layout before v.own c after w.own from to

  -- what a maker reports of a try: a call that is stored was made; otherwise it reported nothing
  abbrev pub MakesOf : List ℕ → Tried → Known → Known → T → T → Type 0
  MakesOf ks (Stored c) v w from to = Makes ks v w c from to
  MakesOf ks Contended v w from to = to ≡ from
  MakesOf ks LogFull v w from to = to ≡ from

  -- the same of a reply
  abbrev pub MakesFor : Reply → Known → Known → T → T → Type 0
  MakesFor reply v w from to =
      (t : Tried) × (reply ≡ reply_of t) × MakesOf (used_by step v) t v w from to
