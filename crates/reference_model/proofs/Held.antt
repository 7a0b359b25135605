-- From what there is, parts and their logs, to a longer history.
use Rattle.std.proofs.Common.{◌≡◌, ℕ, ◌+◌, ◌-◌, ◌<◌, refl, ap, sym, ◌∙◌, subst, arith, inl, inr, List, length}
use Rattle.std.specs.Prelude.{Bool, true, false, ◌==◌, Option, Some, None}
use Rattle.reference_model.specs.declared.changes.Stage.{Stage}
use Rattle.call_table.specs.declared.reply.Call.{Call}
use Rattle.call_table.specs.declared.reply.Reply.{Reply}
use Rattle.call_table.specs.declared.reply.Reply.TheVariants.{Refused}
use Rattle.call_table.specs.declared.step.Step.{Step}
use Rattle.reference_model.specs.help.Answers.{Does}
use Rattle.call_table.specs.declared.step.Step.TheVariants.{ShareHyp, UnshareHyp, DonateHyp, HypDonateHost, HostAbort, HostTranslate, HypTranslate, OwnerOf, Fund, Unfund, ShareGuest, UnshareGuest, DonateGuest, GuestShareHost, GuestUnshareHost, Install, Topup, ReclaimPage, ReclaimPool, FinishGuest, GuestRelax, GuestTranslate, MarkDying, VmReserve, VmOpen, VcpuLoad, VcpuPut, Teardown, VmRelease}
use Rattle.reference_model.specs.declared.changes.Stage.TheVariants.{Booked, Closing, Dying}
use Rattle.reference_model.specs.help.Conditions.{Legal, IsUsable}
use Rattle.reference_model.specs.help.Held.{HistorySteps, CallGrows}
use Rattle.reference_model.specs.model.Stored.{held_state}
use Rattle.reference_model.specs.model.History.{calls_by, Kept, IsHistory, IsStored}
use Rattle.reference_model.specs.claims.Laws.{Agree}
use Rattle.reference_model.specs.model.Stored.{Stores, StoresCall}
use Rattle.page_state.specs.Layouts.{Layout}
use Rattle.reference_model.specs.model.Parts.{lacks_slot, vm_part, shared_part, guest_part, loaded_slot, ticket_slot, is_slot}
use Rattle.reference_model.specs.model.Rules.{names, call_uses, guest_slot}
use Rattle.reference_model.specs.model.State.{Contents, Reference}
use Rattle.reference_model.specs.model.Step.{rule_of, stored, Answered, StepsOn, used_by, rooms_by, with_used}
use Rattle.reference_model.specs.model.Used.{Used, used_of, rooms_of}
use Rattle.reference_model.proofs.Answers.{used_steps, told-err, test-stored, barred_answers, carried_answers, answer_steps}
use Rattle.page_state.proofs.Common.{same2, eq-same}
use Rattle.reference_model.proofs.History.{history_grows}
use Rattle.reference_model.proofs.RoomLaws.{run_rooms}
use Rattle.reference_model.proofs.Steps.{pair, first-same, second-same, used-same, rooms-same, agree-with_used}
use Rattle.reference_model.proofs.conditions.Keeps.{named-slot, loaded-slot, stage-slot}
use Rattle.reference_model.proofs.conditions.RunsLegal.{ready-usable, run_legal}
use Rattle.reference_model.proofs.conditions.Slots.{loaded-open, ticket-slot}

none-some : {P : Type 0} {a : ℕ} → None ≡ Some a → P
none-some h = cc

-- the slot of a guest that a call names in a legal state is one of the 64
module _ (l : Layout) (s : Contents) (legal : Legal l s) (cpu v : ℕ) where
  by-load : loaded_slot (s.cpu cpu) ≡ Some v → v < 64
  by-load h = let j = loaded-slot (s.cpu cpu) v h in subst (λ n. n < 64) j.2 (loaded-open s legal.slots cpu j.0 j.1).1

  by-ticket : (stage : Stage) → ticket_slot stage (s.cpu cpu) ≡ Some v → v < 64
  by-ticket stage h = let t = stage-slot stage (s.cpu cpu) v h in
      subst (λ n. n < 64) t.2 (ticket-slot s legal.slots cpu t.0 t.1)

  pub slot-low : (step : Step) → guest_slot (s.cpu cpu) step ≡ Some v → v < 64
  slot-low (ShareGuest f g p n) h = by-load h
  slot-low (DonateGuest f g n) h = by-load h
  slot-low (GuestShareHost g) h = by-load h
  slot-low (GuestUnshareHost g) h = by-load h
  slot-low (GuestRelax g p) h = by-load h
  slot-low (UnshareGuest vm g) h = named-slot vm v h
  slot-low (Topup vm) h = named-slot vm v h
  slot-low (ReclaimPage vm g) h = named-slot vm v h
  slot-low (ReclaimPool vm) h = named-slot vm v h
  slot-low (GuestTranslate vm g) h = named-slot vm v h
  slot-low Install h = by-ticket Booked h
  slot-low MarkDying h = by-ticket Closing h
  slot-low FinishGuest h = by-ticket Dying h
  slot-low (ShareHyp f) h = none-some h
  slot-low (UnshareHyp f) h = none-some h
  slot-low (DonateHyp f n) h = none-some h
  slot-low (HypDonateHost f n) h = none-some h
  slot-low (HostAbort p) h = none-some h
  slot-low (HostTranslate p) h = none-some h
  slot-low (HypTranslate p) h = none-some h
  slot-low (OwnerOf f) h = none-some h
  slot-low (Fund f n) h = none-some h
  slot-low Unfund h = none-some h
  slot-low (VmReserve kind n) h = none-some h
  slot-low VmOpen h = none-some h
  slot-low (VcpuLoad vm i) h = none-some h
  slot-low VcpuPut h = none-some h
  slot-low (Teardown vm) h = none-some h
  slot-low VmRelease h = none-some h

slot-is : (slot : Option ℕ) (v : ℕ) → is_slot slot v ≡ true → slot ≡ Some v
slot-is None v h = cc
slot-is (Some u) v h = ap Some (sym (eq-same v u h))

-- a log's room is told by its calls
room-is : (log : ℕ) (room : ℕ) (calls kept : List Call)
    → room + length calls ≡ log
    → kept ≡ calls
    → room ≡ log - length kept
room-is log room calls kept h e = let n : length kept ≡ length calls = ap length e in omega arith

-- a stored part depends on the next content where it is used
stores-next : {X : Type 0} (used : Bool) (c : Call) (next other : X) (before after : X × List Call)
    → (used ≡ true → next ≡ other)
    → Stores used c next before after
    → Stores used c other before after
stores-next true c next other before after e h = subst (λ x. Stores true c x before after) (e refl) h
stores-next false c next other before after e h = h

module _ (l : Layout) (before : Kept) (log : List Call) (h : IsHistory l before log) (legal : Legal l h.end.contents)
    (c : Call) (known : c.cpu < l.config.cpus) where
  -- what there is agrees with the history's end on what the call uses
  agrees : c.slot ≡ guest_slot (before.cpu c.cpu).0 c.step → Agree c (held_state l before) h.end
  agrees slot =
      let told = run_rooms l log h.end h.run h.stored in
      let low : (v : ℕ) → is_slot c.slot v ≡ true → v < 64 =
      λ v u. slot-low l h.end.contents legal c.cpu v c.step
      (ap (λ k. guest_slot k c.step) (sym (first-same (h.cpu c.cpu known))) ∙ sym slot ∙ slot-is c.slot v u) in
      record {
        vms =
            λ u. same2 pair (sym (first-same h.vms))
            (room-is l.config.log h.end.rooms.vms _ before.vms.1 told.vms (second-same h.vms));
        shared =
            λ u. same2 pair (sym (first-same h.shared))
            (room-is l.config.log h.end.rooms.shared _ before.shared.1 told.shared (second-same h.shared));
        guest =
            λ v u. same2 pair (sym (first-same (h.guest v (low v u))))
            (room-is l.config.log (h.end.rooms.guest v) _ (before.guest v).1 (told.guest v)
            (second-same (h.guest v (low v u))));
        cpu =
            same2 pair (sym (first-same (h.cpu c.cpu known)))
            (room-is l.config.log (h.end.rooms.cpu c.cpu) _ (before.cpu c.cpu).1 (told.cpu c.cpu)
            (second-same (h.cpu c.cpu known)));
      }

pub history_steps : HistorySteps
unfolding used_of
history_steps l before after log c y q ready h known stored on stores =
    let legal = run_legal l log h.end ready h.run in
    let s = held_state l before in
    let a : Agree c s h.end = agrees l before log h legal c known on.slot in
    let there : StepsOn l c (used_by c h.end) (rooms_by c s) y q =
    subst (λ x. StepsOn l c x (rooms_by c s) y q) (sym (used-same c s h.end a)) on in
    let here : StepsOn l c (used_by c h.end) (rooms_by c h.end) y q =
    subst (λ r. StepsOn l c (used_by c h.end) r y q) (sym (rooms-same c s h.end a)) there in
    let t : Reference = with_used c h.end y q in
    let same : Agree c (with_used c s y q) t = agree-with_used c s h.end y q in
    let kept : StoresCall c t.contents before after = record {
      vms =
          stores-next (call_uses vm_part c) c (with_used c s y q).contents.vms t.contents.vms before.vms after.vms
          (λ u. sym (first-same (same.vms u))) stores.vms;
      shared =
          stores-next (call_uses shared_part c) c
          (with_used c s y q).contents.shared t.contents.shared before.shared after.shared
          (λ u. sym (first-same (same.shared u))) stores.shared;
      guest =
          λ v. stores-next (call_uses (guest_part v) c) c ((with_used c s y q).contents.guest v) (t.contents.guest v)
          (before.guest v) (after.guest v) (λ u. sym (first-same (same.guest v u))) (stores.guest v);
      cpu =
          λ k. stores-next (c.cpu == k) c ((with_used c s y q).contents.cpu k) (t.contents.cpu k) (before.cpu k)
          (after.cpu k)
          (λ u. subst (λ j. (with_used c s y q).contents.cpu j ≡ t.contents.cpu j) (eq-same c.cpu k u)
          (sym (first-same same.cpu)))
          (stores.cpu k);
    } in
    history_grows l before after log c t h (used_steps l h.end c y q here) stored known kept

-- a call that code does

does-stored : (l : Layout) (cpu : ℕ) (slot : Option ℕ) (step : Step) (wants : Bool) (x : Used) (reply : Reply)
    (y : Used)
    → Does l cpu slot step wants x reply y
    → IsStored reply
does-stored l cpu slot step wants x reply y (inl p) =
    subst IsStored (sym p.reply_is)
    (test-stored (rule_of l cpu slot step x) (lacks_slot (names step) slot) p.why
    (told-err (rule_of l cpu slot step x) (lacks_slot (names step) slot) p.why p.bars))
does-stored l cpu slot step wants x reply y (inr p) = elim (p.carried) [
  | inl k ↦ subst IsStored (sym k.reply_is) tt
  | inr k ↦ elim k [ inl m ↦ subst IsStored (sym m.reply_is) tt | inr m ↦ subst IsStored (sym m.reply_is) tt ]
]

does-answer : (l : Layout) (s : Contents) (cpu : ℕ) (slot : Option ℕ) (step : Step) (wants : Bool) (reply : Reply)
    (x y : Used)
    → IsUsable l
    → Legal l s
    → cpu < l.config.cpus
    → slot ≡ guest_slot (s.cpu cpu) step
    → used_of (names step) slot cpu s ≡ x
    → Does l cpu slot step wants x reply y
    → Answered l cpu slot step wants x reply y
does-answer l s cpu slot step wants reply x y usable legal known named e d =
    subst (λ z. Does l cpu slot step wants z reply y → Answered l cpu slot step wants z reply y) e (go) d
  where
    go : Does l cpu slot step wants (used_of (names step) slot cpu s) reply y
        → Answered l cpu slot step wants (used_of (names step) slot cpu s) reply y
    go (inl p) =
        subst (λ w. Answered l cpu slot step wants (used_of (names step) slot cpu s) w y) (sym p.reply_is)
        (subst (λ z. Answered l cpu slot step wants (used_of (names step) slot cpu s) (Refused p.why) z)
        (sym p.next) (barred_answers l cpu slot step wants (used_of (names step) slot cpu s) p.why p.bars))
    go (inr p) = carried_answers l s cpu slot step wants p.changes reply y usable legal known named p.lets p.carried

number-is : (number log room calls kept : ℕ)
    → number ≡ kept + 1
    → room + calls ≡ log
    → kept ≡ calls
    → number ≡ log - (log - kept) + 1
number-is number log room calls kept a b c = omega arith

pub call_grows : CallGrows
unfolding used_of rooms_of
call_grows l before after log c wants y ready h known slot numbered room does stores =
    let legal = run_legal l log h.end ready h.run in
    let s = held_state l before in
    let named : c.slot ≡ guest_slot (h.end.contents.cpu c.cpu) c.step =
    slot ∙ ap (λ k. guest_slot k c.step) (first-same (h.cpu c.cpu known)) in
    let answer =
    does-answer l h.end.contents c.cpu c.slot c.step wants c.reply (used_by c s) y
    (ready-usable l ready) legal known named
    (used-same c s h.end (agrees l before log h legal c known slot)) does in
    let told = (run_rooms l log h.end h.run h.stored).cpu c.cpu in
    let size : length (before.cpu c.cpu).1 ≡ length (calls_by c.cpu log) =
    ap length (second-same (h.cpu c.cpu known)) in
    let number : c.number ≡ l.config.log - (l.config.log - length (before.cpu c.cpu).1) + 1 =
    number-is c.number l.config.log (h.end.rooms.cpu c.cpu) (length (calls_by c.cpu log))
    (length (before.cpu c.cpu).1) numbered told size in
    let on = answer_steps l c wants (used_by c s) (rooms_by c s) y slot number room answer in
    history_steps l before after log c y (stored (rooms_by c s)) ready h known
    (does-stored l c.cpu c.slot c.step wants (used_by c s) c.reply y does) on stores
