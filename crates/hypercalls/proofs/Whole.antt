-- From the step on lent parts to the step on all.
use Rattle.std.proofs.Common.{arith, ◌≡◌, ◌∙◌, ℕ, ◌+◌, ◌-◌, ◌<◌, ◌==◌, ◌++◌, option_map, unwrap_or, Bool, true, false, List, [], ◌∷◌, length, slice_get, slice_set, IfSome, Option, Some, None, refl, sym, ap, subst, ◌⊎◌, inl, inr, if◌then◌else◌}
use Rattle.std.proofs.lemmas.Bool.Decides.{nat_tests}
use Rattle.page_state.proofs.Cases.{by_test}
use Rattle.call_table.specs.declared.reply.Call.{Call}
use Rattle.call_table.specs.declared.reply.Refusal.TheVariants.{LogFull}
use Rattle.call_table.specs.declared.reply.Reply.{Reply}
use Rattle.call_table.specs.declared.reply.Reply.TheVariants.{Refused}
use Rattle.call_table.specs.declared.step.Step.{Step}
use Rattle.page_state.specs.Layouts.{Layout}
use Rattle.page_state.specs.LayoutView.{layout_of as layout_told}
use Rattle.reference_model.specs.model.Decides.{decides}
use Rattle.reference_model.specs.model.Boot.{CanBoot}
use Rattle.reference_model.specs.model.Stored.{held_state}
use Rattle.reference_model.specs.model.History.{Kept, IsHistory}
use Rattle.reference_model.specs.model.Stored.{Stores, StoresCall}
use Rattle.reference_model.specs.model.Parts.{Names, is_slot, uses_vms, uses_shared}
use Rattle.reference_model.specs.model.Rules.{names, guest_slot}
use Rattle.reference_model.specs.model.Reached.{IsReached}
use Rattle.reference_model.specs.model.State.{Vms, Shared, Guest, Cpu, Reference, no_vms, no_shared, no_guest, no_cpu, put_at}
use Rattle.reference_model.specs.model.Step.{Steps, StepsOn, FindsFull, IsStoredAnswer, is_full as has_full_log, stored, used_by, rooms_by, with_used}
use Rattle.reference_model.specs.model.Used.{Used, UsedRooms, used_of, put_back, rooms_of, guest_at, put_guest, room_at}
use Rattle.reference_model.proofs.Answers.{used_steps}
use Rattle.std.proofs.Math.Logic.{∥∥₁_elim}
use Rattle.std.specs.Coded.{le_prop}
use Rattle.reference_model.proofs.Held.{slot-low, history_steps}
use Rattle.reference_model.proofs.Steps.{log_full_keeps}
use Rattle.reference_model.proofs.HeldStored.{held_stored}
use Rattle.reference_model.proofs.conditions.RunsLegal.{run_legal}
use Rattle.part_types.specs.declared.parts.VmPart.{VmPart}
use Rattle.part_types.specs.declared.parts.SharedPart.{SharedPart}
use Rattle.part_types.specs.declared.parts.GuestPart.{GuestPart}
use Rattle.part_types.specs.declared.parts.CpuState.{CpuState}
use Rattle.guest_component.specs.Wants.{WantsNoMemory}
use Rattle.part_types.specs.Lent.{Lent, LentLogs, used_in, logs_in, rooms_in, all_with, with_call}
use Rattle.part_types.specs.Logs.{StoredCalls, IsOfSize}
use Rattle.part_types.specs.View.{vm_slots, shared_of, guest_held, cpu_of}
use Rattle.part_types.specs.Roomy.{IsRoomy}
use Rattle.hypercalls.specs.declared.parts.Parts.{Parts}
use Rattle.hypercalls.specs.Stands.{at_place, parts_layout, kept_of, state_of, HasHistory}
use Rattle.hypercalls.specs.Steps.{any_full, reply_in}
use Rattle.hypercalls.specs.Whole.{slot_here, call_of, is_log_full, IsStep}
use Rattle.hypercalls.proofs.Numbered.{IsStepAt, call_at}
use Rattle.hypercalls.proofs.Places.{when, is_when, Inside, get_at, is_at, put_list, put_same, set_same, each_of, stores_one, stores_at, place}
use Rattle.hypercalls.proofs.Stepping.{Fits, full_is, rooms_stored}

use_when : {P X : Type 0} (blank : X) (f : P → X) (used : Bool) (p : P)
    → unwrap_or (option_map f (when used p)) blank ≡ (if used then f p else blank)
use_when blank f true p = refl
use_when blank f false p = refl

-- what a slot of none or one stands for
at_is : {P : Type 0} (f : P → Guest) (xs : List P) (slot : Option ℕ)
    → Inside slot (length xs)
    → unwrap_or (option_map f (get_at xs slot)) no_guest ≡ guest_at (λ v. at_place no_guest f (slice_get xs v)) slot
at_is f xs None h = refl
at_is f xs (Some v) h = let r = place xs v h in
    ap (λ o. unwrap_or (option_map f o) no_guest) r.1 ∙ sym (ap (at_place no_guest f) r.1)

room_when : {P : Type 0} (log : P → StoredCalls) (limit : ℕ) (used : Bool) (p : P)
    → IsOfSize limit (log p)
    → unwrap_or (option_map (λ g. g.room) (option_map log (when used p))) 0
    ≡ (if used then limit - length (log p).calls else 0)
room_when log limit true p e = let e : length (log p).calls + (log p).room ≡ limit = e in omega (arith, e)
room_when log limit false p e = refl

room_range : {P : Type 0} (log : P → StoredCalls) (limit : ℕ) (xs : List P) (slot : Option ℕ)
    → Inside slot (length xs)
    → ((v : ℕ) (p : P) → slice_get xs v ≡ Some p → IsOfSize limit (log p))
    → unwrap_or (option_map (λ g. g.room) (option_map log (get_at xs slot))) 0
    ≡ room_at (λ v. limit - length (at_place [] (λ p. (log p).calls) (slice_get xs v))) slot
room_range log limit xs None h e = refl
room_range log limit xs (Some v) h e =
    let r = place xs v h in
    let size : length (log r.0).calls + (log r.0).room ≡ limit = e v r.0 r.1 in
    let room : (log r.0).room ≡ limit - length (log r.0).calls = omega (arith, size) in
    ap (λ o. unwrap_or (option_map (λ g. g.room) (option_map log o)) 0) r.1 ∙ room
    ∙ sym (ap (λ o. limit - length (at_place [] (λ p. (log p).calls) o)) r.1)

same_used : (v v' : Vms) (s s' : Shared) (g g' : Guest) (k k' : Cpu)
    → v ≡ v'
    → s ≡ s'
    → g ≡ g'
    → k ≡ k'
    → ◌≡◌ {A = Used} (record { vms = v; shared = s; guest = g; cpu = k })
    (record { vms = v'; shared = s'; guest = g'; cpu = k' })
same_used v v' s s' g g' k k' a b c d = cc

same_rooms : (v v' s s' g g' k k' : ℕ)
    → v ≡ v'
    → s ≡ s'
    → g ≡ g'
    → k ≡ k'
    → ◌≡◌ {A = UsedRooms} (record { vms = v; shared = s; guest = g; cpu = k })
    (record { vms = v'; shared = s'; guest = g'; cpu = k' })
same_rooms v v' s s' g g' k k' a b c d = cc

when_same : {P : Type 0} (used : Bool) (p : P) → unwrap_or (when used p) p ≡ p
when_same true p = refl
when_same false p = refl

eq_flip : (i j : ℕ) → (i == j) ≡ (j == i)
eq_flip i j =
    by_test (i == j) (λ e. let s : i ≡ j = grind (arith, nat_tests) in rw s refl)
    (λ e. by_test (j == i) (λ d. let s : j ≡ i = grind (arith, nat_tests) in rw s refl) (λ d. e ∙ sym d))

full_reply : (l : Layout) (c : Call) (x : Used) (o : UsedRooms) (y : Used) (q : UsedRooms)
    → has_full_log (names c.step) c.slot o ≡ true
    → StepsOn l c x o y q
    → c.reply ≡ Refused LogFull
full_reply l c x o y q full on = go on.answers
  where
    go : FindsFull c x o y q ⊎ IsStoredAnswer l c x o y q → c.reply ≡ Refused LogFull
    go (inl f) = f.reply
    go (inr a) = let clash = sym full ∙ a.room in cc

-- what holds of a part holds of it where it is used
some_when : {P : Type 0} (Is : P → Type 0) (used : Bool) (p : P) → Is p → IfSome (when used p) Is
some_when Is true p h = h
some_when Is false p h = tt

some_at : {P : Type 0} (Is : P → Type 0) (xs : List P) (slot : Option ℕ)
    → Inside slot (length xs)
    → ((v : ℕ) (p : P) → slot ≡ Some v → slice_get xs v ≡ Some p → Is p)
    → IfSome (get_at xs slot) Is
some_at Is xs None inside h = tt
some_at Is xs (Some v) inside h = let r = place xs v inside in subst (λ o. IfSome o Is) (sym r.1) (h v r.0 refl r.1)

-- a guest that is put at a slot
put_is : (guests : ℕ → Guest) (slot : Option ℕ) (g : Guest) (v : ℕ)
    → (if is_slot slot v then g else guests v) ≡ put_guest guests slot g v
put_is guests None g v = refl
put_is guests (Some u) g v = refl

module _ {A : Type 0} (p : Parts A) (cpu : ℕ) (step : Step) (k : CpuState) (at : slice_get p.cpus.items cpu ≡ Some k)
    (within : cpu < length p.cpus.items)
    (inner : Inside (guest_slot (cpu_of k) step) (length p.guests.items)) where
  abbrev n : Names
  n = names step

  abbrev slot : Option ℕ
  slot = guest_slot (cpu_of k) step

  abbrev l : Layout
  l = parts_layout p

  -- what is lent
  abbrev pub x : Lent A
  x =
      record {
        vms = when (uses_vms n) p.vms;
        shared = when (uses_shared n slot) p.shared;
        guest = get_at p.guests.items slot;
        cpu = k;
      }

  pub fits : Fits n slot x
  fits =
      record {
        vms = is_when (uses_vms n) p.vms;
        shared = is_when (uses_shared n slot) p.shared;
        guest = is_at p.guests.items slot inner;
      }

  slot_is : slot_here p cpu step ≡ slot
  slot_is = ap (λ o. guest_slot (at_place no_cpu cpu_of o) step) at

  call_is : (reply : Reply) → call_of p cpu step reply ≡ call_at x cpu step reply
  call_is reply =
      ap
      (λ
      (o : Option CpuState). record {
        cpu = cpu;
        number =
            length (at_place [] (λ (j : CpuState). j.log.calls) o) + 1;
        step =
            step;
        reply = reply;
        slot = guest_slot (at_place no_cpu cpu_of o) step;
      }) at

  used_is : used_in x ≡ used_of n slot cpu (state_of p).contents
  unfolding used_of
  used_is =
      same_used _ _ _ _ _ _ _ _ (use_when no_vms vm_slots (uses_vms n) p.vms)
      (use_when no_shared shared_of (uses_shared n slot) p.shared) (at_is guest_held p.guests.items slot inner)
      (sym (ap (at_place no_cpu cpu_of) at))

  -- what is lent stands where the parts do
  pub reached : HasHistory p
      → cpu < p.layout.config.cpus
      → ((v : ℕ) → slot ≡ Some v → v < 64)
      → IsReached l n slot cpu (used_in x)
  unfolding used_of
  reached h known low =
      let s = h.history.end.contents in
      record {
        ready = h.ready;
        log = h.log;
        state = h.history.end;
        run = h.history.run;
        used = used_is ∙ same_used _ _ _ _ _ _ _ _
            (ap (λ (v : Vms). if uses_vms n then v else no_vms) (ap (λ q. q.0) h.history.vms))
            (ap (λ (y : Shared). if uses_shared n slot then y else no_shared) (ap (λ q. q.0) h.history.shared))
            (guest_same slot low (λ v less. ap (λ q. q.0) (h.history.guest v less)))
            (ap (λ q. q.0) (h.history.cpu cpu known));
      }
    where
      guest_same : (o : Option ℕ)
          → ((v : ℕ) → o ≡ Some v → v < 64)
          → ((v : ℕ) → v < 64 → (state_of p).contents.guest v ≡ h.history.end.contents.guest v)
          → guest_at (state_of p).contents.guest o ≡ guest_at h.history.end.contents.guest o
      guest_same None less e = refl
      guest_same (Some v) less e = e v (less v refl)

  module _ (own_sized : IsOfSize l.config.log k.log) (vms_sized : IsOfSize l.config.log p.vms.log)
      (shared_sized : IsOfSize l.config.log p.shared.log)
      (guests_sized : (v : ℕ) (g : GuestPart A)
      → slice_get p.guests.items v ≡ Some g
      → IsOfSize l.config.log g.log) where
    rooms_is : rooms_in (logs_in x) ≡ rooms_of n slot cpu (state_of p).rooms
    unfolding rooms_of
    rooms_is =
        let own : k.log.room ≡ l.config.log - length k.log.calls =
        (let e : length k.log.calls + k.log.room ≡ l.config.log = own_sized in omega (arith, e)) in
        same_rooms _ _ _ _ _ _ _ _
        (room_when (λ v. v.log) l.config.log (uses_vms n) p.vms vms_sized)
        (room_when (λ s. s.log) l.config.log (uses_shared n slot) p.shared shared_sized)
        (room_range (λ g. g.log) l.config.log p.guests.items slot inner guests_sized)
        (own ∙ sym (ap (λ o. l.config.log - length (at_place [] (λ (j : CpuState). j.log.calls) o)) at))

    full_same : is_log_full p cpu step ≡ any_full (logs_in x)
    full_same =
        ap (λ o. has_full_log n o (rooms_of n o cpu (state_of p).rooms)) slot_is
        ∙ ap (has_full_log n slot) (sym rooms_is) ∙ full_is n slot x fits

    -- what came back
    module _ (stored_call : Option Call) (y : Lent A) (made : IsStepAt l cpu step x stored_call y) (q : Parts A)
        (layout : q.layout ≡ p.layout)
        (vms : q.vms ≡ unwrap_or y.vms p.vms)
        (shared : q.shared ≡ unwrap_or y.shared p.shared)
        (guests : q.guests.items ≡ put_list p.guests.items slot y.guest)
        (cpus : q.cpus.items ≡ slice_set p.cpus.items cpu y.cpu) where
      abbrev reply : Reply
      reply = reply_in stored_call

      abbrev c : Call
      c = call_at x cpu step reply

      abbrev s : Reference
      s = state_of p

      abbrev r : UsedRooms
      r = rooms_in (logs_in y)

      on_is : StepsOn l c (used_by c s) (rooms_by c s) (used_in y) r
      on_is =
          subst (λ (u : Used). StepsOn l c u (rooms_by c s) (used_in y) r) used_is
          (subst (λ (o : UsedRooms). StepsOn l c (used_in x) o (used_in y) r) rooms_is made.on)

      to_used : Steps l s c (with_used c s (used_in y) r)
      to_used = used_steps l s c (used_in y) r on_is

      -- what the parts have, by their lists
      abbrev kept_by : VmPart → SharedPart A → List (GuestPart A) → List CpuState → Kept
      kept_by v h g j = record {
        vms = (vm_slots v, v.log.calls);
        shared = (shared_of h, h.log.calls);
        guest = each_of no_guest guest_held (λ (w : GuestPart A). w.log) g;
        cpu = each_of no_cpu cpu_of (λ (w : CpuState). w.log) j;
      }

      abbrev after : Kept
      after =
          kept_by (unwrap_or y.vms p.vms) (unwrap_or y.shared p.shared) (put_list p.guests.items slot y.guest)
          (slice_set p.cpus.items cpu y.cpu)

      after_is : kept_of q ≡ after
      after_is =
          ap (λ v. kept_by v q.shared q.guests.items q.cpus.items) vms
          ∙ ap (λ h. kept_by (unwrap_or y.vms p.vms) h q.guests.items q.cpus.items) shared
          ∙ ap (λ g. kept_by (unwrap_or y.vms p.vms) (unwrap_or y.shared p.shared) g q.cpus.items) guests
          ∙ ap
          (kept_by (unwrap_or y.vms p.vms) (unwrap_or y.shared p.shared)
          (put_list p.guests.items slot y.guest)) cpus

      -- where a log is full
      module _ (h : any_full (logs_in x) ≡ true) where
        same_kept : kept_of q ≡ kept_of p
        same_kept =
            let e = made.full h in
            after_is
            ∙ ap
            (λ (z : Lent A). kept_by (unwrap_or z.vms p.vms) (unwrap_or z.shared p.shared)
            (put_list p.guests.items slot z.guest) (slice_set p.cpus.items cpu z.cpu)) e
            ∙ ap
            (λ v. kept_by v (unwrap_or (when (uses_shared n slot) p.shared) p.shared)
            (put_list p.guests.items slot (get_at p.guests.items slot)) (slice_set p.cpus.items cpu k))
            (when_same (uses_vms n) p.vms)
            ∙ ap
            (λ v. kept_by p.vms v (put_list p.guests.items slot (get_at p.guests.items slot))
            (slice_set p.cpus.items cpu k))
            (when_same (uses_shared n slot) p.shared)
            ∙ ap (λ g. kept_by p.vms p.shared g (slice_set p.cpus.items cpu k)) (put_same p.guests.items slot inner)
            ∙ ap (kept_by p.vms p.shared p.guests.items) (set_same p.cpus.items cpu k at)

        full_steps : Steps l s c (state_of q)
        full_steps =
            let full : has_full_log n slot (rooms_by c s) ≡ true =
            ap (has_full_log n slot) (sym rooms_is) ∙ full_is n slot x fits ∙ h in
            let same : with_used c s (used_in y) r ≡ s =
            log_full_keeps l s (with_used c s (used_in y) r) c to_used
            (full_reply l c (used_by c s) (rooms_by c s) (used_in y) r full on_is) in
            let stands : state_of q ≡ s =
            ap (λ lay. held_state (layout_told lay) (kept_of q)) layout ∙ ap (held_state l) same_kept in
            subst (Steps l s c) (same ∙ sym stands) to_used

      -- where none is
      module _ (h : any_full (logs_in x) ≡ false) where
        logs_are : logs_in y ≡ all_with c (logs_in x)
        logs_are = made.logs ∙ rw h refl

        rooms_are : r ≡ stored (rooms_by c s)
        rooms_are = ap rooms_in logs_are ∙ rooms_stored c (logs_in x) ∙ ap stored rooms_is

        -- the state after it
        abbrev t : Reference
        t = with_used c s (used_in y) (stored (rooms_by c s))

        stores_after : StoresCall c t.contents (kept_of p) after
        unfolding put_back
        stores_after = record {
          vms =
              stores_one no_vms vm_slots (λ (w : VmPart). w.log) c (uses_vms n) p.vms y.vms
              (ap (λ (g : LentLogs). g.vms) logs_are);
          shared =
              stores_one no_shared shared_of (λ (w : SharedPart A). w.log) c (uses_shared n slot) p.shared y.shared
              (ap (λ (g : LentLogs). g.shared) logs_are);
          guest =
              λ v. subst (λ g. Stores (is_slot slot v) c g ((kept_of p).guest v) (after.guest v))
              (put_is s.contents.guest slot (unwrap_or (option_map guest_held y.guest) no_guest) v)
              (stores_at no_guest guest_held (λ (w : GuestPart A). w.log) c p.guests.items y.guest slot inner
              (ap (λ (g : LentLogs). g.guest) logs_are) v);
          cpu =
              λ j. subst
              (λ b. Stores b c (put_at s.contents.cpu cpu (cpu_of y.cpu) j) ((kept_of p).cpu j) (after.cpu j))
              (eq_flip j cpu)
              (stores_at no_cpu cpu_of (λ (w : CpuState). w.log) c p.cpus.items (Some y.cpu)
              (Some cpu) within
              (ap (λ (g : LentLogs). Some g.cpu) logs_are
              ∙ sym
              (ap
              (λ o. option_map (with_call c)
              (option_map (λ (w : CpuState). w.log) o)) at)) j);
        }

        stores_now : StoresCall c t.contents (kept_of p) (kept_of q)
        stores_now = subst (StoresCall c t.contents (kept_of p)) (sym after_is) stores_after

        stands : state_of q ≡ t
        stands =
            ap (λ lay. held_state (layout_told lay) (kept_of q)) layout
            ∙ held_stored l (kept_of p) (kept_of q) c (used_in y) stores_now

        stored_steps : Steps l s c (state_of q)
        stored_steps = subst (Steps l s c) (ap (with_used c s (used_in y)) rooms_are ∙ sym stands) to_used

        grown : HasHistory p → cpu < p.layout.config.cpus → HasHistory q
        grown past known =
            let now : StepsOn l c (used_by c s) (rooms_by c s) (used_in y) (stored (rooms_by c s)) =
            subst (StepsOn l c (used_by c s) (rooms_by c s) (used_in y)) rooms_are on_is in
            let more =
            history_steps l (kept_of p) (kept_of q) past.log c (used_in y)
            (stored (rooms_by c s)) past.ready past.history known (made.stored h) now stores_now in
            record {
              ready = subst (λ lay. CanBoot (layout_told lay)) (sym layout) past.ready;
              log = past.log ++ c ∷ [];
              history = subst (λ lay. IsHistory (layout_told lay) (kept_of q) (past.log ++ c ∷ [])) (sym layout) more;
            }

      pub is_step : IsStep p cpu step reply q
      is_step =
          let call = call_is reply in
          record {
            layout = ap layout_told layout;
            steps =
                subst (λ d. Steps l s d (state_of q)) (sym call)
                (by_test (any_full (logs_in x)) full_steps stored_steps);
            full = λ f. same_kept (sym full_same ∙ f);
            stored = λ f. made.stored (sym full_same ∙ f);
            stores = λ f. let h = sym full_same ∙ f in
                subst (λ d. StoresCall d (state_of q).contents (kept_of p) (kept_of q)) (sym call)
                (subst (λ (u : Reference). StoresCall c u.contents (kept_of p) (kept_of q)) (sym (stands h))
                (stores_now h));
            wants =
                λ told h is roomy ready. made.wants told h
                (ap (λ u. decides l cpu slot step u) used_is ∙ rw slot_is at is)
                (some_when (λ s. IsRoomy h s) (uses_shared n slot) p.shared roomy)
                (some_at (λ g. WantsNoMemory h g.guest) p.guests.items slot inner
                (λ v g e. ready v g (slot_is ∙ e)));
          }

      pub history : HasHistory p → cpu < p.layout.config.cpus → HasHistory q
      history past known = by_test (any_full (logs_in x))
          (λ h. record {
            ready = subst (λ lay. CanBoot (layout_told lay)) (sym layout) past.ready;
            log = past.log;
            history =
                subst (λ lay. IsHistory (layout_told lay) (kept_of q) past.log) (sym layout)
                (subst (λ kept. IsHistory l kept past.log) (sym (same_kept h)) past.history);
          })
          (λ h. grown h past known)

-- the slot that a step of a CPU uses is one of the 64
pub slot_below : {A : Type 0} (p : Parts A) (cpu : ℕ) (step : Step) (k : CpuState)
    → slice_get p.cpus.items cpu ≡ Some k
    → cpu < p.layout.config.cpus
    → ∥ HasHistory p ∥₁
    → (v : ℕ)
    → guest_slot (cpu_of k) step ≡ Some v
    → v < 64
slot_below p cpu step k at known past v e = ∥∥₁_elim past le_prop (λ h.
    let s = h.history.end.contents in
    let own : s.cpu cpu ≡ cpu_of k = sym (ap (λ q. q.0) (h.history.cpu cpu known)) ∙ ap (at_place no_cpu cpu_of) at in
    slot-low (parts_layout p) s (run_legal (parts_layout p) h.log h.history.end h.ready h.history.run) cpu v step
    (ap (λ (o : Cpu). guest_slot o step) own ∙ e))
