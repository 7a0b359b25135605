-- From the parts and their logs to a longer history: the law that code's step ends in.
use Rattle.std.specs.Prelude.{◌≡◌, ◌+◌, ◌<◌, Bool, false, List, [], ◌∷◌, ◌++◌, length}
use Rattle.call_table.specs.declared.reply.Call.{Call}
use Rattle.reference_model.specs.model.Boot.{CanBoot}
use Rattle.reference_model.specs.model.History.{IsStored, Kept, IsHistory}
use Rattle.reference_model.specs.model.Stored.{StoresCall}
use Rattle.page_state.specs.Layouts.{Layout}
use Rattle.reference_model.specs.model.Step.{is_full, stored, StepsOn, used_by, rooms_by, with_used}
use Rattle.reference_model.specs.help.Answers.{Does}
use Rattle.reference_model.specs.model.Rules.{names, guest_slot}
use Rattle.reference_model.specs.model.Used.{Used, UsedRooms}
use Rattle.reference_model.specs.model.Stored.{held_state}

-- a step on the parts that a call uses, stored in their logs, makes the history longer
abbrev pub HistorySteps : Type 0
HistorySteps =
    (l : Layout) (before after : Kept) (log : List Call) (c : Call) (y : Used) (q : UsedRooms)
    → CanBoot l
    → IsHistory l before log
    → c.cpu < l.config.cpus
    → IsStored c.reply
    → StepsOn l c (used_by c (held_state l before)) (rooms_by c (held_state l before)) y q
    → StoresCall c (with_used c (held_state l before) y q).contents before after
    → IsHistory l after (log ++ c ∷ [])

-- a call that code makes on the parts, with room in each log, and stores, makes the history longer
abbrev pub CallGrows : Type 0
CallGrows =
    (l : Layout) (before after : Kept) (log : List Call) (c : Call) (wants : Bool) (y : Used)
    → CanBoot l
    → IsHistory l before log
    → c.cpu < l.config.cpus
    →
    let s = held_state l before in
    c.slot ≡ guest_slot (before.cpu c.cpu).0 c.step
    → c.number ≡ length (before.cpu c.cpu).1 + 1
    → is_full (names c.step) c.slot (rooms_by c s) ≡ false
    → Does l c.cpu c.slot c.step wants (used_by c s) c.reply y
    → StoresCall c (with_used c s y (stored (rooms_by c s))).contents before after
    → IsHistory l after (log ++ c ∷ [])

-- the parts after a call that leads to a state is stored represent that state
abbrev pub HeldStored : Type 0
HeldStored = (l : Layout) (before after : Kept) (c : Call) (y : Used) →
    let s = held_state l before in
    let t = with_used c s y (stored (rooms_by c s)) in
    StoresCall c t.contents before after → held_state l after ≡ t
