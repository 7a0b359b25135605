-- The model's step if pools may hold any number of frames, and states that hold enough.
use Rattle.std.specs.Prelude.{◌≡◌, ℕ, ◌+◌, ◌<◌, Bool, true, false, List, [], All, nat_lt, if◌then◌else◌}
use Rattle.call_table.specs.declared.reply.Reply.{Reply}
use Rattle.call_table.specs.declared.step.Step.{Step}
use Rattle.page_state.specs.declared.entry.Entry.{Entry}
use Rattle.page_state.specs.Layouts.{Layout}
use Rattle.reference_model.specs.model.Rules.{names, guest_slot}
use Rattle.reference_model.specs.model.State.{Contents, Guest, Rooms, Shared}
use Rattle.reference_model.specs.model.Step.{rule_of, shared_need, guest_need}
use Rattle.reference_model.specs.model.Used.{Used, used_of}
use Rattle.freedoms.specs.declared.Freedoms.{Freedoms}
use Rattle.freedoms.specs.Freedoms.{kind_entry}
use Rattle.freedoms.specs.Ample.{asks_pool, predict_step_amply}
use Rattle.freedoms.specs.OwnTables.{OwnTables, bare_guest, bare_shared}

-- a guest without tables and free frames, or one whose pool is asked
abbrev pub asked_guest : Bool → Guest → Guest
asked_guest true g = g
asked_guest false g = bare_guest g

-- a state without tables and free frames, except those of guests if the step reads a guest's pool
abbrev pub asked_by : Bool → Contents → Contents
asked_by b s = record s { shared = bare_shared s.shared; guest = λ v. asked_guest b (s.guest v) }

-- the state that a step is asked of
abbrev pub asked_of : Step → Contents → Contents
asked_of step s = asked_by (asks_pool step) s

-- the Shared part without tables, and with these free frames
abbrev pub filled_shared : List ℕ → Shared → Shared
filled_shared fs x = record (bare_shared x) { free = fs }

-- the guest of a slot so
abbrev pub filled_guest : Bool → List ℕ → ℕ → Guest → Guest
filled_guest true fs v g = g
filled_guest false fs v g = record (bare_guest g) { free = if nat_lt v 64 then fs else [] }

-- a state so
abbrev pub filled_by : Bool → List ℕ → Contents → Contents
filled_by b fs s =
    record s { shared = filled_shared fs s.shared; guest = λ v. filled_guest b fs v (s.guest v) }

-- frames past all memory
abbrev pub AreOutside : List ℕ → Type 0
AreOutside fs = All (λ f. f ≡ 67108864) fs

-- each log that a call of a CPU can need has room
pub record IsOpen (cpus : ℕ) (r : Rooms) : Type 0 where
  pub vms : r.vms ≡ 1
  pub shared : r.shared ≡ 1
  pub guest : (v : ℕ) → v < 64 → r.guest v ≡ 1
  pub cpu : (c : ℕ) → c < cpus → r.cpu c ≡ 1

-- the parts that the step uses of the state from which it is made
abbrev pub used_asked : Contents → ℕ → Step → Used
used_asked s cpu step = used_of (names step) (guest_slot (s.cpu cpu) step) cpu (asked_of step s)

-- how many tables the step needs at most
abbrev pub most_needed : Layout → Contents → ℕ → Step → ℕ
most_needed l s cpu step =
    let x = used_asked s cpu step in
    let h = (rule_of l cpu (guest_slot (s.cpu cpu) step) step x).changes in
    shared_need l.depth h x.shared + guest_need l.depth h x.guest

-- the reply, and all but tables and free frames of the state after it, are the model's for the
-- state from which the step is made
pub record IsPredictedAmply (l : Layout) (s : Contents) (cpu : ℕ) (step : Step) (reply : Reply)
    (after : Contents) : Type 0 where
  pub reply_is : reply ≡ (predict_step_amply l (asked_of step s) cpu step).0
  pub contents_are : OwnTables after (predict_step_amply l (asked_of step s) cpu step).1

-- the host's entry of a page, as a device's if its kind may be free
abbrev pub kind_seen : Freedoms → Layout → ℕ → Entry → Entry
kind_seen w l p e = if w.any_kind then kind_entry l p e else e
