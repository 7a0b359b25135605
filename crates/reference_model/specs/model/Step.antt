-- The reference step: the answer of one call, and the state after it.
use Rattle.std.specs.Prelude.{◌≡◌, ℕ, ◌+◌, ◌-◌, Bool, true, false, not, ◌&&◌, ◌||◌, ◌==◌, ◌⊎◌, nat_lt, is_some, length, drop, ◌++◌, Option, Some, None, if◌then◌else◌}
use Rattle.call_table.specs.declared.reply.Refusal.{Refusal}
use Rattle.call_table.specs.declared.reply.Refusal.TheVariants.{Perm, NoVm, NoMemory, Busy, Invalid, NoPool, LogFull}
use Rattle.call_table.specs.declared.reply.Reply.{Reply}
use Rattle.call_table.specs.declared.reply.Reply.TheVariants.{Done, Refused}
use Rattle.call_table.specs.declared.reply.Call.{Call}
use Rattle.page_state.specs.declared.row.Row.{Row}
use Rattle.call_table.specs.declared.step.Step.{Step}
use Rattle.reference_model.specs.model.State.{Shared, Guest, Reference, blank}
use Rattle.page_state.specs.Layouts.{Layout, is_memory}
use Rattle.reference_model.specs.model.Owner.{row_of, is_in_hand}
use Rattle.page_state.specs.Tables.{need, returned, edited, all_given}
use Rattle.reference_model.specs.model.Parts.{Names, lacks_slot, uses_vms, uses_shared}
use Rattle.reference_model.specs.model.Used.{Used, UsedRooms, used_of, put_back, rooms_of, put_rooms}
use Rattle.reference_model.specs.declared.changes.Changes.{Changes}
use Rattle.reference_model.specs.model.Changes.{edit_of, cpu_by, guest_by, vms_by, touched}
use Rattle.reference_model.specs.model.Rule.{Rule}
use Rattle.reference_model.specs.model.Rules.{rule, may_grow, names, guest_slot}

-- the frames whose rows are found again
abbrev pub is_touched : Changes → ℕ → Bool
is_touched h f = is_in_hand (touched h) f

-- the rooms when the call is stored
unfoldable pub stored : UsedRooms → UsedRooms
stored r = record { vms = r.vms - 1; shared = r.shared - 1; guest = r.guest - 1; cpu = r.cpu - 1 }

-- no room in a log that would store the call
unfoldable pub is_full : Names → Option ℕ → UsedRooms → Bool
is_full n slot r = r.cpu == 0
    || (uses_vms n && r.vms == 0)
    || (uses_shared n slot && r.shared == 0)
    || (is_some slot && r.guest == 0)

-- changes in trees of the depth
module _ (depth : ℕ) (h : Changes) where
  -- the need of the change on the host's and the hypervisor's tree
  abbrev pub shared_need : Shared → ℕ
  shared_need x = need depth x.host (edit_of h.host) + need depth x.hyp (edit_of h.hyp)

  -- the need of the change on the guest's tree
  abbrev pub guest_need : Guest → ℕ
  guest_need g = need depth g.tree (edit_of h.guest)

  -- a pool has fewer free frames than the change needs on its trees
  unfoldable pub is_short : Used → Bool
  is_short x =
      nat_lt (length x.shared.free) (shared_need x.shared)
      || nat_lt (length x.guest.free) (guest_need x.guest)

  -- Shared with both maps changed: the host's new tables get the lowest frames, the hypervisor's
  -- the next; freed frames come back at the end
  unfoldable pub shared_after : Shared → Shared
  shared_after x = record x {
    host = edited depth x.host (edit_of h.host) x.free;
    hyp = edited depth x.hyp (edit_of h.hyp) (drop (need depth x.host (edit_of h.host)) x.free);
    free =
        all_given (returned depth x.host (edit_of h.host) ++ returned depth x.hyp (edit_of h.hyp))
        (drop (shared_need x) x.free);
  }

  -- the guest with its map changed, which takes tables from its own pool, and then its other
  -- changes
  unfoldable pub guest_after : Guest → Guest
  guest_after g = guest_by depth h.part (record g {
    tree = edited depth g.tree (edit_of h.guest) g.free;
    free = all_given (returned depth g.tree (edit_of h.guest)) (drop (guest_need g) g.free);
  })

  -- all that changes but the rows
  unfoldable pub changed : Used → Used
  changed x =
      record {
        vms = vms_by h.slot x.vms;
        shared = shared_after x.shared;
        guest = guest_after x.guest;
        cpu = cpu_by h.cpu x.cpu;
      }

-- the first of a rule's tests that fails, in this order; `lacks`: the step names a guest and there
-- is none
abbrev pub first_test : Rule → Bool → Option Refusal
first_test r lacks =
    if not r.valid.passes then Some Invalid
    else if lacks || not r.has_vm.passes then Some NoVm
    else if not r.ready.passes then Some Busy
    else if not r.allowed.passes then Some Perm
    else None

-- the first refusal if there is one, else the second
abbrev pub or_else : Option Refusal → Option Refusal → Option Refusal
or_else (Some why) next = Some why
or_else None next = next

-- the first test that fails: one of the rule's, or then that of the pools
unfoldable pub refusal : ℕ → Rule → Bool → Used → Option Refusal
refusal depth r lacks x =
    or_else (first_test r lacks) (if is_short depth r.changes x then Some NoPool else None)

module _ (l : Layout) (cpu : ℕ) (slot : Option ℕ) (step : Step) where
  -- the owner row from scratch over the parts that a call uses and its CPU's own hand
  unfoldable pub own_row : Used → ℕ → Row
  own_row x f = row_of l (put_back (names step) slot cpu blank x) f

  -- the rows of the touched memory frames are found again
  unfoldable pub with_rows : Changes → Used → Used
  with_rows h x =
      record x {
        shared = record x.shared {
          row = λ f. elim (is_memory l f && is_touched h f)
              [ true ↦ own_row x f | false ↦ x.shared.row f ];
        };
      }

  -- the step's rule
  abbrev pub rule_of : Used → Rule
  rule_of x = rule l cpu slot step x

  -- the step's first test that fails
  unfoldable pub fails : Used → Option Refusal
  fails x = refusal l.depth (rule_of x) (lacks_slot (names step) slot) x

  -- the used parts after the step is made
  unfoldable pub made : Used → Used
  made x = with_rows (rule_of x).changes (changed l.depth (rule_of x).changes x)

  -- the answer of a step, and the used parts after it, logs apart
  unfoldable pub answer : Used → Reply × Used
  answer x =
      elim (fails x)
      [ Some why ↦ (Refused why, x) | None ↦ (Done (rule_of x).changes.value, made x) ]

  -- made: no test fails, and all changes of the rule are made
  pub record IsMade (x : Used) (reply : Reply) (y : Used) : Type 0 where
    pub passes : fails x ≡ None
    pub reply_is : reply ≡ Done (rule_of x).changes.value
    pub next : y ≡ made x

  -- refused: the reply is that of the first test that fails, and nothing has changed
  pub record IsRefused (x : Used) (reply : Reply) (y : Used) : Type 0 where
    pub why : Refusal
    pub fail : fails x ≡ Some why
    pub reply_is : reply ≡ Refused why
    pub next : y ≡ x

  -- out of memory: no test fails, but the allocator refused a growth, and nothing has changed
  pub record IsWanting (wants : Bool) (x : Used) (reply : Reply) (y : Used) : Type 0 where
    pub passes : fails x ≡ None
    pub grows : may_grow step ≡ true
    pub wanted : wants ≡ true
    pub reply_is : reply ≡ Refused NoMemory
    pub next : y ≡ x

  -- the answers to a step, logs apart; `wants`: memory may run out
  abbrev pub Answered : Bool → Used → Reply → Used → Type 0
  Answered wants x reply y = IsMade x reply y ⊎ IsRefused x reply y ⊎ IsWanting wants x reply y

-- a log is full: the reply is LogFull, and nothing has changed
pub record FindsFull (c : Call) (x : Used) (r : UsedRooms) (y : Used) (q : UsedRooms) : Type 0 where
  pub full : is_full (names c.step) c.slot r ≡ true
  pub reply : c.reply ≡ Refused LogFull
  pub next : y ≡ x
  pub rooms : q ≡ r

-- each log has room: the call is answered, and stored
pub record IsStoredAnswer (l : Layout) (c : Call) (x : Used) (r : UsedRooms) (y : Used)
    (q : UsedRooms) : Type 0 where
  pub room : is_full (names c.step) c.slot r ≡ false
  pub answered : Answered l c.cpu c.slot c.step true x c.reply y
  pub rooms : q ≡ stored r

-- the reference step on the parts that a call uses and the rooms of its logs; a call's number is
-- one more than the number of calls in its CPU's log before
pub record StepsOn (l : Layout) (c : Call) (x : Used) (r : UsedRooms) (y : Used)
    (q : UsedRooms) : Type 0 where
  pub slot : c.slot ≡ guest_slot x.cpu c.step
  pub number : c.number ≡ l.config.log - r.cpu + 1
  pub answers : FindsFull c x r y q ⊎ IsStoredAnswer l c x r y q

-- the parts of a state that a call uses
abbrev pub used_by : Call → Reference → Used
used_by c s = used_of (names c.step) c.slot c.cpu s.contents

-- and the rooms of the logs that store it
abbrev pub rooms_by : Call → Reference → UsedRooms
rooms_by c s = rooms_of (names c.step) c.slot c.cpu s.rooms

-- a state with the parts that a call uses replaced, and the rooms of its logs
abbrev pub with_used : Call → Reference → Used → UsedRooms → Reference
with_used c s x r =
    record {
      contents = put_back (names c.step) c.slot c.cpu s.contents x;
      rooms = put_rooms (names c.step) c.slot c.cpu s.rooms r;
    }

-- the reference step: on the parts that the call uses; all else stays
pub record Steps (l : Layout) (s : Reference) (c : Call) (t : Reference) : Type 0 where
  pub after : Used
  pub left : UsedRooms
  pub on : StepsOn l c (used_by c s) (rooms_by c s) after left
  pub next : t ≡ with_used c s after left

-- the answer of a step, the used parts after it and the rooms of its logs, if memory doesn't run
-- out
unfoldable pub predict : Layout → ℕ → Option ℕ → Step → Used → UsedRooms → Reply × Used × UsedRooms
predict l cpu slot step x r =
    let a = answer l cpu slot step x in
    if is_full (names step) slot r then (Refused LogFull, x, r) else (a.0, a.1, stored r)

-- the reference step as a function, for memory that doesn't run out: the reply, and the state after
-- it
unfoldable pub predict_step : Layout → Reference → ℕ → Step → Reply × Reference
predict_step l s cpu step =
    let n = names step in
    let slot = guest_slot (s.contents.cpu cpu) step in
    let r = predict l cpu slot step (used_of n slot cpu s.contents) (rooms_of n slot cpu s.rooms) in (
      r.0,
      record {
        contents = put_back n slot cpu s.contents r.1;
        rooms = put_rooms n slot cpu s.rooms r.2;
      },
    )
