-- What holds of the table between any two steps: there is one legal history.
use Rattle.std.specs.Prelude.{◌≡◌, ◌≢◌, ℕ, ◌+◌, ◌<◌, ◌≤◌, true, false, List, [], ◌∷◌, ◌++◌, length, slice_index, All, Option, Some, None}
use Rattle.std.proofs.Common.{refl}
use mathlib.Core.Option.{some}
use lib.ListN.{get_elem?}
use Rattle.atomic_table.specs.Seated.{TableId}
use Rattle.atomic_table.specs.Table.{State, Me, Step}
use Rattle.page_state.specs.declared.layout.Layout.{Layout as TheLayout}
use Rattle.page_state.specs.declared.layout.Geometry.TheVariants.{Bits39}
use Rattle.call_table.specs.declared.reply.Call.{Call}
use Rattle.call_table.specs.declared.reply.Reply.TheVariants.{Done}
use Rattle.call_table.specs.declared.reply.Value.TheVariants.{Nothing}
use Rattle.call_table.specs.declared.step.Step.TheVariants.{Unfund}
use Rattle.page_state.specs.LayoutView.{layout_of}
use Rattle.reference_model.specs.model.Boot.{CanBoot}
use Rattle.reference_model.specs.model.History.{IsStored, calls_on, calls_by}
use Rattle.reference_model.specs.model.Run.{IsRun}
use Rattle.reference_model.specs.model.State.{Reference}
use Rattle.part_types.specs.declared.parts.CpuState.{CpuState}
use Rattle.part_types.specs.Logs.{StoredCalls}
use Rattle.part_table.specs.declared.rule.Begun.{Begun}
use Rattle.part_table.specs.declared.rule.Opening.{Opening}
use Rattle.part_table.specs.declared.rule.View.{View}
use Rattle.part_table.specs.declared.slot.Slot.{Slot}
use Rattle.part_table.specs.Parts.{parts, part_of, uses, log_of, IsPart, IsOwn}
use Rattle.part_table.specs.Does.{IsLeft, none_at}
use Rattle.part_table.specs.Known.{at, seen_at, AreFronts, Known, StartsWith, Try}
use Rattle.part_table.specs.Beginnings.{GoesOn, begun_in, no_layout, no_own, own_in}

-- parts by number; none: no longer held
abbrev pub Hands : Type 0 → Type 0
Hands A = List (ℕ × Option (Slot A))

-- the part of a number that is held
abbrev pub held_at : {A : Type 0} → Hands A → ℕ → Option (Slot A)
held_at h k = at h None k

-- the state in which a CPU's pass ends, the calls that it has seen of each part's log, and its
-- tries
abbrev pub Ended : Type 0
Ended = CpuState × List (ℕ × List Call) × List (ℕ × Try)

abbrev pub known_of : {A : Type 0} → View A → Known
known_of v = record { layout = v.layout; cpu = v.cpu; own = v.own; seen = v.seen; tries = v.tries }

module _ {A : Type 0} (key : TheLayout) (ws : List ℕ) (holder : ℕ → ℕ) (log : List Call)
    (state : Reference) where
  -- the part is as after the history, and its log is the history's part of it
  abbrev pub StandsAfter : ℕ → Slot A → Type 0
  StandsAfter k x = IsPart (layout_of key) state k x × ((log_of x).calls ≡ calls_on (part_of k) log)

  -- what the view of a seat knows. The seat of a CPU is the next after those of the CPUs before it
  -- and the root's
  pub record Knows (j : ℕ) (v : View A) : Type 0 where
    pub layout : v.on ≡ true → v.layout ≡ key
    pub known : v.on ≡ true → v.cpu < key.config.cpus
    pub seat : v.on ≡ true → v.cpu + 1 ≡ j
    pub mine : v.on ≡ true → v.own.log.calls ≡ calls_by v.cpu log
    pub own : v.on ≡ true → IsOwn (layout_of key) state v.cpu v.own
    pub seen : v.on ≡ true → (k : ℕ) → StartsWith (calls_on (part_of k) log) (seen_at v.seen k)
    pub tried : v.on ≡ true → AreFronts key.config.log v.cpu log v.tries
    pub held : (k : ℕ) (x : Slot A)
        → held_at v.held k ≡ Some x
        → (v.on ≡ true) × (k < parts) × (slice_index ws k ≢ 0) × (holder k ≡ j) × StandsAfter k x

-- what the root knows: how many CPUs have a seat, counted from the first, which of them have ended,
-- the states, seen calls and tries of these, that the others are as they began, and that the
-- history continues the one that the table began with
pub record Rooted {A : Type 0} (key : TheLayout) (views : List (View A)) (log : List Call)
    (state : Reference) (v : View A) : Type 0 where
  pub off : v.on ≡ false
  pub layout : v.layout ≡ key
  pub count : length views ≡ v.made + 1
  pub fresh : (c : ℕ)
      → v.made ≤ c
      → c < key.config.cpus
      → ((own_in v.begun c).log.calls ≡ calls_by c log)
      × IsOwn (layout_of key) state c (own_in v.begun c)
  pub goes_on : GoesOn v.begun log
  pub few : length v.ended ≤ v.made
  pub ended : (c : ℕ) (e : Ended)
      → get_elem? v.ended c ≡ some e
      → (e.0.log.calls ≡ calls_by c log)
      × IsOwn (layout_of key) state c e.0
      × ((u : View A) → get_elem? views (c + 1) ≡ some u → u.on ≡ false)
  pub seen : (c : ℕ) (e : Ended)
      → get_elem? v.ended c ≡ some e
      → (k : ℕ)
      → StartsWith (calls_on (part_of k) log) (seen_at e.1 k)
  pub tried : (c : ℕ) (e : Ended)
      → get_elem? v.ended c ≡ some e
      → AreFronts key.config.log c log e.2

-- The rule: a word says whether its part is taken, a taken part is held by exactly one seat, and
-- there is a legal history that ends in all parts and all CPUs' own states. What a pass has seen of
-- a part begins its log, and so does each log that it took, also once the pass has ended
pub record IsLawful {A : Type 0} (key : TheLayout)
    (s : State (Option (Slot A)) (View A)) : Type 0 where
  pub ready : CanBoot (layout_of key)
  pub log : List Call
  pub state : Reference
  pub holder : ℕ → ℕ
  pub run : IsRun (layout_of key) log state
  pub stored : All (λ c. IsStored c.reply) log
  pub wide : length s.words ≡ parts
  pub deep : length s.homes ≡ parts
  pub at_home : (k : ℕ)
      → k < parts
      → slice_index s.words k ≡ 0
      → (x : Slot A)
      × (get_elem? s.homes k ≡ some (some (Some x)))
      × StandsAfter key s.words holder log state k x
  pub taken : (k : ℕ)
      → k < parts
      → slice_index s.words k ≢ 0
      → (v : View A)
      × (x : Slot A)
      × (get_elem? s.views (holder k) ≡ some v)
      × (held_at v.held k ≡ Some x)
  pub each_seat : (j : ℕ) (v : View A)
      → get_elem? s.views j ≡ some v
      → Knows key s.words holder log state j v
  pub root : (v : View A)
      → get_elem? s.views 0 ≡ some v
      → v.root ≡ true
      → Rooted key s.views log state v

abbrev pub no_call : Call
no_call = record { cpu = 0; number = 0; step = Unfund; reply = Done Nothing; slot = None }

-- the view of a seat of nobody
abbrev pub nobody : {A : Type 0} → View A
nobody =
    record {
      on = false;
      layout = no_layout;
      cpu = 0;
      own = no_own;
      seen = [];
      held = [];
      tries = [];
      root = false;
      begun = record { logs = []; owns = [] };
      made = 0;
      ended = [];
    }

-- the root's view, before a CPU has a seat
abbrev pub rooted : {A : Type 0} → Opening A → View A
rooted k = record nobody { layout = k.layout; root = true; begun = begun_in k }

abbrev pub one_more : {A : Type 0} → View A → View A
one_more v = record v { made = v.made + 1 }

-- the view of the next CPU
abbrev pub newcomer : {A : Type 0} → View A → View A
newcomer v =
    record nobody { on = true; layout = v.layout; cpu = v.made; own = own_in v.begun v.made }

-- the root has taken in the view of a CPU that ends, with its seen calls and its tries
abbrev pub with_end : {A : Type 0} → View A → View A → View A
with_end v w = record v { ended = v.ended ++ (w.own, w.seen, w.tries) ∷ [] }

-- a seat's view, and the slots that it has out
abbrev pub Seated : Type 0 → Type 0
Seated A = Me (Option (Slot A)) (View A)

-- a view that no seat has under the rule: it is a CPU's, of a layout without CPUs
abbrev pub nowhere : {A : Type 0} → View A
nowhere = record nobody { on = true }

-- the root's, once each CPU has a seat
abbrev pub all_made : {A : Type 0} → Opening A → View A
all_made k = record (rooted k) { made = k.layout.config.cpus }

-- the root's seat before a pass is joined: of n CPUs with a seat, of which none has ended, and
-- nothing is in hand
abbrev pub IsRootOf : {A : Type 0} → ℕ → ℕ → Seated A → Type 0
IsRootOf n id me = (id ≡ 0) × (me.0.root ≡ true) × (me.0.ended ≡ []) × (me.0.made ≡ n) × (me.1 ≡ [])

-- a seat is the root's as before, of the same table, which began with the same, and of as many CPUs
abbrev pub StaysRoot : {A : Type 0} → TableId → Seated A → TableId → ℕ → Seated A → Type 0
StaysRoot table m same id n =
    (same ≡ table) × (id ≡ 0) × (n.0.root ≡ true) × (n.0.made ≡ m.0.made) × (n.0.begun ≡ m.0.begun)

-- what two seats of one CPU would come to
abbrev pub clash : {A : Type 0} → View A → View A → View A
clash v w = nowhere

-- what a step from there would find
abbrev pub never : {A : Type 0} → Step (Option (Slot A)) → Seated A → ℕ → Seated A → Type 0
never st m r n = ⊥

-- a try more, with the number of calls in the own list
abbrev pub trying : {A : Type 0} → View A → ℕ → Option StoredCalls → List (ℕ × Try)
trying v k found = v.tries ++ (length v.own.log.calls, (k, found)) ∷ []

-- the part k is in hand, with the log that it was taken with
abbrev pub taking : {A : Type 0} → View A → ℕ → Slot A → View A
taking v k x = record v { held = (k, Some x) ∷ v.held; tries = trying v k (Some (log_of x)) }

-- the part k was found taken
abbrev pub missing : {A : Type 0} → View A → ℕ → View A
missing v k = record v { tries = trying v k None }

-- the part k is out of hand
abbrev pub releasing : {A : Type 0} → View A → ℕ → View A
releasing v k = record v { held = (k, None) ∷ v.held }

-- the parts that the pass holds, and its CPU's own state, are those of the end of a run
abbrev pub Standing : {A : Type 0} → View A → Type 0
Standing v = IsLeft (layout_of v.layout) v.cpu v.own (held_at v.held)

-- if the word found is 0, the pass holds the part, and the part's log begins with the calls seen of
-- it. Otherwise the pass notes that the part was taken
abbrev pub took : {A : Type 0} → Step (Option (Slot A)) → Seated A → ℕ → Seated A → Type 0
took {A = A} st m r n =
    (r ≡ 0
    → (x : Slot A)
    × (n ≡ (taking m.0 st.word x, (st.word, Some x) ∷ m.1))
    × StartsWith (log_of x).calls (seen_at m.0.seen st.word)
    × Standing n.0)
    × (r ≢ 0 → n ≡ (missing m.0 st.word, m.1))

abbrev pub tail : {A : Type 0} → Hands A → Hands A
tail [] = []
tail (x ∷ xs) = xs

-- a part goes home as it is recorded
abbrev pub returned : {A : Type 0} → Step (Option (Slot A)) → Seated A → ℕ → Seated A → Type 0
returned st m r n = n ≡ (releasing m.0 st.word, tail m.1)

-- what has been seen of a part is its log as it goes home
abbrev pub seen_of : {A : Type 0} → Option (Slot A) → List Call → List Call
seen_of None old = old
seen_of (Some x) old = (log_of x).calls

abbrev pub seen_with : {A : Type 0} → Hands A → List (ℕ × List Call) → List (ℕ × List Call)
seen_with [] seen = seen
seen_with (e ∷ es) seen = (e.0, seen_of e.1 (at seen [] e.0)) ∷ seen_with es seen

-- a call is stored, which leaves the CPU this state, and the part k goes home, as it lies in its
-- slot; others stay in hand, as they lie in theirs
abbrev pub storing : {A : Type 0} → CpuState → Hands A → View A → ℕ → View A
storing own after v k =
    record v { own = own; seen = seen_with after v.seen; held = (k, None) ∷ after }

-- there is a legal history that ends with the call. It leads to the pass's own state, with its
-- list, and the calls that the pass has seen of each part that the call used are the history's
-- calls of that part
pub record Extends (c : Call) (w : Known) : Type 0 where
  pub left : IsLeft {A = Unit {0}} (layout_of w.layout) w.cpu w.own none_at
  pub ends : (before : List Call) × (left.log ≡ before ++ c ∷ [])
  pub seen : (k : ℕ) → uses c k ≡ true → seen_at w.seen k ≡ calls_on (part_of k) left.log

-- a part goes home with the call stored
abbrev pub stored : {A : Type 0}
    → Call
    → CpuState
    → Step (Option (Slot A))
    → Seated A
    → ℕ
    → Seated A
    → Type 0
stored c own st m r n = (n ≡ (storing own m.1 m.0 st.word, tail m.1)) × Extends c (known_of n.0)

-- a call that used no part is entered
abbrev pub entered : {A : Type 0}
    → Call
    → CpuState
    → Step (Option (Slot A))
    → Seated A
    → ℕ
    → Seated A
    → Type 0
entered c own st m r n = (n ≡ (storing own [] m.0 0, m.1)) × Extends c (known_of n.0)

-- the slot that was taken last is that of the part k, and it is empty
abbrev pub IsInHand : {A : Type 0} → Hands A → ℕ → Type 0
IsInHand cs k = cs ≡ (k, None) ∷ tail cs

-- the part k lies in the slot that was taken last
abbrev pub IsInSlot : {A : Type 0} → Hands A → ℕ → Type 0
IsInSlot {A = A} cs k = (x : Slot A) × (cs ≡ (k, Some x) ∷ tail cs)

-- it lies there as it is recorded
abbrev pub IsInSlotAsHeld : {A : Type 0} → Seated A → ℕ → Type 0
IsInSlotAsHeld {A = A} m k =
    (x : Slot A) × (m.1 ≡ (k, Some x) ∷ tail m.1) × (held_at m.0.held k ≡ Some x)

-- a pass at rest holds no part
abbrev pub IsIdle : {A : Type 0} → View A → Type 0
IsIdle v = (k : ℕ) → held_at v.held k ≡ None

-- a pass's own state is that of the end of a run
abbrev pub AtRest : {A : Type 0} → View A → Type 0
AtRest {A = A} v = IsLeft {A = A} (layout_of v.layout) v.cpu v.own none_at
