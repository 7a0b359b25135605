-- Laws of the reference step: the frame rule, that it is defined, and what a refusal leaves.
use Rattle.std.proofs.Common.{◌≡◌, ◌≢◌, ℕ, ◌+◌, ◌-◌, refl, ap, sym, ◌∙◌, subst, inl, inr, List, [], ◌∷◌}
use Rattle.std.specs.Prelude.{Bool, true, false, ◌||◌, ◌==◌, ◌⊎◌, Option, Some, None, if◌then◌else◌, not}
use mathlib.Core.Path.{fun_ext}
use Rattle.call_table.specs.declared.step.Step.{Step}
use Rattle.call_table.specs.declared.reply.Call.{Call}
use Rattle.call_table.specs.declared.reply.Refusal.{Refusal}
use Rattle.call_table.specs.declared.reply.Refusal.TheVariants.{LogFull, Invalid, NoVm, Busy, Perm, NoPool, NoMemory}
use Rattle.call_table.specs.declared.reply.Reply.{Reply}
use Rattle.call_table.specs.declared.reply.Reply.TheVariants.{Refused}
use Rattle.reference_model.specs.model.State.{Vms, Shared, Guest, Cpu, Contents, Rooms, Reference, no_vms, no_shared}
use Rattle.page_state.specs.Layouts.{Layout}
use Rattle.reference_model.specs.model.Parts.{uses_vms, uses_shared, is_slot}
use Rattle.reference_model.specs.model.Rules.{names, guest_slot}
use Rattle.reference_model.specs.model.Used.{Used, UsedRooms, used_of, put_back, guest_at, put_guest, room_at, put_room, rooms_of, put_rooms}
use Rattle.reference_model.specs.model.Rule.{Rule}
use Rattle.reference_model.specs.model.Step.{stored, is_full, is_short, first_test, or_else, refusal, fails, answer, Answered, FindsFull, IsStoredAnswer, StepsOn, used_by, rooms_by, with_used, Steps, predict, predict_step}
use Rattle.reference_model.specs.model.Run.{Runs}
use Rattle.reference_model.specs.claims.Laws.{Agree, AgreeBeside, StepChanges, StepReads, StepAgrees, StepExists, StepOnce, ReplyOnce, EndOnce, RefusalKeeps, LogFullKeeps}
use Rattle.page_state.proofs.Common.{both, eq-self, eq-other, if-false, if-same, if-either, same2, same3, same4}
use Rattle.reference_model.proofs.PutAt.{put_at-same}

-- what is used, and a state, by their parts

make_used : Vms → Shared → Guest → Cpu → Used
make_used v s g k = record { vms = v; shared = s; guest = g; cpu = k }

make_rooms : ℕ → ℕ → ℕ → ℕ → UsedRooms
make_rooms v s g k = record { vms = v; shared = s; guest = g; cpu = k }

unfoldable pub state_of : Vms → Shared → (ℕ → Guest) → (ℕ → Cpu) → Contents
state_of v s g k = record { vms = v; shared = s; guest = g; cpu = k }

unfoldable pub all_of : ℕ → ℕ → (ℕ → ℕ) → (ℕ → ℕ) → Rooms
all_of v s g k = record { vms = v; shared = s; guest = g; cpu = k }

abbrev pub whole : Contents → Rooms → Reference
whole s r = record { contents = s; rooms = r }

abbrev pub pair : {A B : Type 0} → A → B → A × B
pair a b = (a, b)

pub first-same : {A B : Type 0} {p q : A × B} → p ≡ q → p.0 ≡ q.0
first-same e = ap (λ p. p.0) e

pub second-same : {A B : Type 0} {p q : A × B} → p ≡ q → p.1 ≡ q.1
second-same e = ap (λ p. p.1) e

guest_at-same : (g g' : ℕ → Guest) (slot : Option ℕ)
    → ((v : ℕ) → is_slot slot v ≡ true → g' v ≡ g v)
    → guest_at g' slot ≡ guest_at g slot
guest_at-same g g' None h = refl
guest_at-same g g' (Some v) h = h v (eq-self v)

room_at-same : (g g' : ℕ → ℕ) (slot : Option ℕ)
    → ((v : ℕ) → is_slot slot v ≡ true → g' v ≡ g v)
    → room_at g' slot ≡ room_at g slot
room_at-same g g' None h = refl
room_at-same g g' (Some v) h = h v (eq-self v)

-- states that agree on what a call uses give it the same
pub used-same : (c : Call) (s t : Reference) → Agree c s t → used_by c t ≡ used_by c s
unfolding used_of make_used
used-same c s t h = same4 make_used
    (if-same (uses_vms (names c.step)) t.contents.vms s.contents.vms no_vms (λ e. first-same (h.vms e)))
    (if-same (uses_shared (names c.step) c.slot) t.contents.shared s.contents.shared no_shared
    (λ e. first-same (h.shared e)))
    (guest_at-same s.contents.guest t.contents.guest c.slot (λ v e. first-same (h.guest v e)))
    (first-same h.cpu)

pub rooms-same : (c : Call) (s t : Reference) → Agree c s t → rooms_by c t ≡ rooms_by c s
unfolding rooms_of make_rooms
rooms-same c s t h = same4 make_rooms
    (if-same (uses_vms (names c.step)) t.rooms.vms s.rooms.vms 0 (λ e. second-same (h.vms e)))
    (if-same (uses_shared (names c.step) c.slot) t.rooms.shared s.rooms.shared 0 (λ e. second-same (h.shared e)))
    (room_at-same s.rooms.guest t.rooms.guest c.slot (λ v e. second-same (h.guest v e)))
    (second-same h.cpu)

put_guest-used : (g g' : ℕ → Guest) (slot : Option ℕ) (x : Guest) (v : ℕ)
    → is_slot slot v ≡ true
    → put_guest g' slot x v ≡ put_guest g slot x v
put_guest-used g g' None x v h = cc
put_guest-used g g' (Some u) x v h = if-either (v == u) x (g' v) (g v) h

put_room-used : (g g' : ℕ → ℕ) (slot : Option ℕ) (x v : ℕ)
    → is_slot slot v ≡ true
    → put_room g' slot x v ≡ put_room g slot x v
put_room-used g g' None x v h = cc
put_room-used g g' (Some u) x v h = if-either (v == u) x (g' v) (g v) h

put_guest-other : (g : ℕ → Guest) (slot : Option ℕ) (x : Guest) (v : ℕ)
    → is_slot slot v ≡ false
    → put_guest g slot x v ≡ g v
put_guest-other g None x v h = refl
put_guest-other g (Some u) x v h = if-false (v == u) x (g v) h

put_room-other : (g : ℕ → ℕ) (slot : Option ℕ) (x v : ℕ) → is_slot slot v ≡ false → put_room g slot x v ≡ g v
put_room-other g None x v h = refl
put_room-other g (Some u) x v h = if-false (v == u) x (g v) h

-- states in which the same stands in place of what a call uses agree on it
pub agree-with_used : (c : Call) (s s' : Reference) (x : Used) (r : UsedRooms)
    → Agree c (with_used c s x r) (with_used c s' x r)
unfolding put_back put_rooms
agree-with_used c s s' x r = record {
  vms =
      λ h. same2 pair (if-either (uses_vms (names c.step)) x.vms s'.contents.vms s.contents.vms h)
      (if-either (uses_vms (names c.step)) r.vms s'.rooms.vms s.rooms.vms h);
  shared =
      λ h. same2 pair (if-either (uses_shared (names c.step) c.slot) x.shared s'.contents.shared s.contents.shared h)
      (if-either (uses_shared (names c.step) c.slot) r.shared s'.rooms.shared s.rooms.shared h);
  guest =
      λ v h. same2 pair (put_guest-used s.contents.guest s'.contents.guest c.slot x.guest v h)
      (put_room-used s.rooms.guest s'.rooms.guest c.slot r.guest v h);
  cpu =
      same2 pair (if-either (c.cpu == c.cpu) x.cpu (s'.contents.cpu c.cpu) (s.contents.cpu c.cpu) (eq-self c.cpu))
      (if-either (c.cpu == c.cpu) r.cpu (s'.rooms.cpu c.cpu) (s.rooms.cpu c.cpu) (eq-self c.cpu));
}

-- all that a call doesn't use stays where something stands in place of what it uses
pub beside-with_used : (c : Call) (s : Reference) (x : Used) (r : UsedRooms) → AgreeBeside c s (with_used c s x r)
unfolding put_back put_rooms
beside-with_used c s x r = record {
  vms =
      λ h. same2 pair (if-false (uses_vms (names c.step)) x.vms s.contents.vms h)
      (if-false (uses_vms (names c.step)) r.vms s.rooms.vms h);
  shared =
      λ h. same2 pair (if-false (uses_shared (names c.step) c.slot) x.shared s.contents.shared h)
      (if-false (uses_shared (names c.step) c.slot) r.shared s.rooms.shared h);
  guest =
      λ v h. same2 pair (put_guest-other s.contents.guest c.slot x.guest v h)
      (put_room-other s.rooms.guest c.slot r.guest v h);
  cpu =
      λ cpu h. same2 pair (if-false (cpu == c.cpu) x.cpu (s.contents.cpu cpu) (eq-other cpu c.cpu h))
      (if-false (cpu == c.cpu) r.cpu (s.rooms.cpu cpu) (eq-other cpu c.cpu h));
}

pub step_changes : StepChanges
step_changes l s t c h = subst (AgreeBeside c s) (sym h.next) (beside-with_used c s h.after h.left)

pub step_reads : StepReads
step_reads l s t s' c a h =
    let there : StepsOn l c (used_by c s') (rooms_by c s) h.after h.left =
    subst (λ x. StepsOn l c x (rooms_by c s) h.after h.left) (sym (used-same c s s' a)) h.on in
    let on : StepsOn l c (used_by c s') (rooms_by c s') h.after h.left =
    subst (λ r. StepsOn l c (used_by c s') r h.after h.left) (sym (rooms-same c s s' a)) there in (
      with_used c s' h.after h.left,
      record { after = h.after; left = h.left; on = on; next = refl },
      subst (λ u. Agree c u (with_used c s' h.after h.left)) (sym h.next) (agree-with_used c s s' h.after h.left),
    )

-- one answer leads to one state

module _ (l : Layout) (cpu : ℕ) (slot : Option ℕ) (step : Step) where
  answered-once : (w : Bool) (x : Used) (reply : Reply) (y z : Used)
      → Answered l cpu slot step w x reply y
      → Answered l cpu slot step w x reply z
      → y ≡ z
  answered-once w x reply y z (inl p) (inl q) = p.next ∙ sym q.next
  answered-once w x reply y z (inl p) (inr (inl q)) = let e : None ≡ Some q.why = sym p.passes ∙ q.fail in cc
  answered-once w x reply y z (inl p) (inr (inr q)) = let e = sym p.reply_is ∙ q.reply_is in cc
  answered-once w x reply y z (inr (inl p)) (inl q) = let e : None ≡ Some p.why = sym q.passes ∙ p.fail in cc
  answered-once w x reply y z (inr (inl p)) (inr (inl q)) = p.next ∙ sym q.next
  answered-once w x reply y z (inr (inl p)) (inr (inr q)) = p.next ∙ sym q.next
  answered-once w x reply y z (inr (inr p)) (inl q) = let e = sym q.reply_is ∙ p.reply_is in cc
  answered-once w x reply y z (inr (inr p)) (inr (inl q)) = p.next ∙ sym q.next
  answered-once w x reply y z (inr (inr p)) (inr (inr q)) = p.next ∙ sym q.next

  -- the function's answer is one
  answer-is : (w : Bool) (x : Used)
      → Answered l cpu slot step w x (answer l cpu slot step x).0 (answer l cpu slot step x).1
  unfolding answer
  answer-is w x = go (fails l cpu slot step x) refl
    where
      go : (o : Option Refusal)
          → fails l cpu slot step x ≡ o
          → Answered l cpu slot step w x (answer l cpu slot step x).0 (answer l cpu slot step x).1
      go (Some why) e = inr (inl (record { why = why; fail = e; reply_is = rw (e, answer); next = rw (e, answer) }))
      go None e = inl (record { passes = e; reply_is = rw (e, answer); next = rw (e, answer) })

  -- the reply is the function's, but for want of memory
  answer-told : (w : Bool) (x : Used) (reply : Reply) (y : Used)
      → Answered l cpu slot step w x reply y
      → reply ≢ Refused NoMemory
      → reply ≡ (answer l cpu slot step x).0
  unfolding answer
  answer-told w x reply y (inl p) n = rw (p.passes, answer) p.reply_is
  answer-told w x reply y (inr (inl p)) n = rw (p.fail, answer) p.reply_is
  answer-told w x reply y (inr (inr p)) n = absurd (n p.reply_is)

answers-once : (l : Layout) (c : Call) (x : Used) (r : UsedRooms) (y : Used) (q : UsedRooms) (z : Used) (p : UsedRooms)
    → FindsFull c x r y q ⊎ IsStoredAnswer l c x r y q
    → FindsFull c x r z p ⊎ IsStoredAnswer l c x r z p
    → (y ≡ z) × (q ≡ p)
answers-once l c x r y q z p (inl a) (inl b) = (a.next ∙ sym b.next, a.rooms ∙ sym b.rooms)
answers-once l c x r y q z p (inl a) (inr b) = let e : true ≡ false = sym a.full ∙ b.room in cc
answers-once l c x r y q z p (inr a) (inl b) = let e : true ≡ false = sym b.full ∙ a.room in cc
answers-once l c x r y q z p (inr a) (inr b) =
    (answered-once l c.cpu c.slot c.step true x c.reply y z a.answered b.answered, a.rooms ∙ sym b.rooms)

-- one reply leads to one state
pub step_once : StepOnce
step_once l s t u c h k =
    let e = answers-once l c (used_by c s) (rooms_by c s) h.after h.left k.after k.left h.on.answers k.on.answers in
    h.next ∙ same2 (with_used c s) e.0 e.1 ∙ sym k.next

pub step_agrees : StepAgrees
step_agrees l s t s' t' c a h k =
    let other = step_reads l s t s' c a h in
    subst (Agree c t) (step_once l s' other.0 t' c other.1 k) other.2

-- what the function gives by the test of the logs

predict-full : (l : Layout) (cpu : ℕ) (slot : Option ℕ) (step : Step) (x : Used) (r : UsedRooms)
    → is_full (names step) slot r ≡ true
    → predict l cpu slot step x r ≡ (Refused LogFull, x, r)
unfolding predict
predict-full l cpu slot step x r f = simp f

predict-stored : (l : Layout) (cpu : ℕ) (slot : Option ℕ) (step : Step) (x : Used) (r : UsedRooms)
    → is_full (names step) slot r ≡ false
    → predict l cpu slot step x r ≡ ((answer l cpu slot step x).0, (answer l cpu slot step x).1, stored r)
unfolding predict
predict-stored l cpu slot step x r f = simp f

call_of : ℕ → ℕ → Step → Reply → Option ℕ → Call
call_of cpu number step reply slot = record { cpu = cpu; number = number; step = step; reply = reply; slot = slot }

predict-is : (l : Layout) (cpu number : ℕ) (slot : Option ℕ) (step : Step) (x : Used) (r : UsedRooms) →
    let a = predict l cpu slot step x r in
    let c = call_of cpu number step a.0 slot in
    FindsFull c x r a.1 a.2 ⊎ IsStoredAnswer l c x r a.1 a.2
unfolding call_of
predict-is l cpu number slot step x r = elim (both (is_full (names step) slot r)) [
  | inl f ↦ let e = predict-full l cpu slot step x r f in
      inl (record { full = f; reply = ap (λ p. p.0) e; next = ap (λ p. p.1) e; rooms = ap (λ p. p.2) e })
  | inr f ↦
      let e = predict-stored l cpu slot step x r f in
      inr
      (record {
        room = f;
        answered =
            subst (λ (p : Reply × Used × UsedRooms). Answered l cpu slot step true x p.0 p.1) (sym e)
            (answer-is l cpu slot step true x);
        rooms = ap (λ p. p.2) e;
      })
]

pub step_exists : StepExists
unfolding used_of rooms_of predict_step call_of
step_exists l s cpu step =
    let slot = guest_slot (s.contents.cpu cpu) step in
    let x = used_of (names step) slot cpu s.contents in
    let r = rooms_of (names step) slot cpu s.rooms in
    let a = predict l cpu slot step x r in
    let number = l.config.log - s.rooms.cpu cpu + 1 in
    let call : Call = call_of cpu number step a.0 slot in
    let on : StepsOn l call x r a.1 a.2 =
    record { slot = refl; number = refl; answers = predict-is l cpu number slot step x r } in
    (call, refl, refl, refl, record { after = a.1; left = a.2; on = on; next = refl })

-- a call that isn't refused for want of memory has the reply of the rules
predicted-reply : (l : Layout) (c : Call) (x : Used) (r : UsedRooms) (y : Used) (q : UsedRooms)
    → StepsOn l c x r y q
    → c.reply ≢ Refused NoMemory
    → c.reply ≡ (predict l c.cpu c.slot c.step x r).0
predicted-reply l c x r y q h n = elim (h.answers) [
  | inl p ↦ p.reply ∙ sym (ap (λ p. p.0) (predict-full l c.cpu c.slot c.step x r p.full))
  | inr p ↦ answer-told l c.cpu c.slot c.step true x c.reply y p.answered n
      ∙ sym (ap (λ p. p.0) (predict-stored l c.cpu c.slot c.step x r p.room))
]

-- the reply of the rules by the CPU, the slot and the step
reply_of : Layout → Reference → ℕ → Option ℕ → Step → Reply
reply_of l s cpu slot step =
    (predict l cpu slot step (used_of (names step) slot cpu s.contents) (rooms_of (names step) slot cpu s.rooms)).0

-- the call of a step by its CPU and step alone
the_call : Layout → Reference → ℕ → Step → Call
the_call l s cpu step =
    call_of cpu (l.config.log - s.rooms.cpu cpu + 1) step
    (reply_of l s cpu (guest_slot (s.contents.cpu cpu) step) step) (guest_slot (s.contents.cpu cpu) step)

the_call-is : (l : Layout) (s t : Reference) (c : Call)
    → Steps l s c t
    → c.reply ≢ Refused NoMemory
    → c ≡ the_call l s c.cpu c.step
unfolding used_of rooms_of call_of the_call reply_of
the_call-is l s t c h n =
    let e : c.slot ≡ guest_slot (s.contents.cpu c.cpu) c.step = h.on.slot in
    let reply : c.reply ≡ reply_of l s c.cpu (guest_slot (s.contents.cpu c.cpu) c.step) c.step =
    predicted-reply l c (used_by c s) (rooms_by c s) h.after h.left h.on n
    ∙ ap (λ o. reply_of l s c.cpu o c.step) e in
    same3 (λ number reply slot. call_of c.cpu number c.step reply slot) h.on.number reply e

pub reply_once : ReplyOnce
reply_once l s t u c d h k p q m n =
    let e : the_call l s d.cpu d.step ≡ the_call l s c.cpu c.step = same2 (the_call l s) p q in
    the_call-is l s u d k n ∙ e ∙ sym (the_call-is l s t c h m)

pub end_once : EndOnce
end_once l cs t u h k = ends l cs _ t u h.leads k.leads
  where
    ends : (l : Layout) (cs : List Call) (s t u : Reference) → Runs (Steps l) s cs t → Runs (Steps l) s cs u → t ≡ u
    ends l [] s t u h k = sym h ∙ k
    ends l (c ∷ cs) s t u h k =
        let same : h.0 ≡ k.0 = step_once l s h.0 k.0 c h.1 k.1 in
        ends l cs k.0 t u (subst (λ m. Runs (Steps l) m cs t) same h.2) k.2

if-twice : {X : Type 0} (b : Bool) (x y : X) → (if b then (if b then x else y) else x) ≡ x
if-twice true x y = refl
if-twice false x y = refl

put_guest-same : (g : ℕ → Guest) (slot : Option ℕ) (v : ℕ) → put_guest g slot (guest_at g slot) v ≡ g v
put_guest-same g None v = refl
put_guest-same g (Some u) v = put_at-same (λ (x : Guest). x) g u (g u) refl v

put_room-same : (g : ℕ → ℕ) (slot : Option ℕ) (v : ℕ) → put_room g slot (room_at g slot) v ≡ g v
put_room-same g None v = refl
put_room-same g (Some u) v = put_at-same (λ (x : ℕ). x) g u (g u) refl v

-- what is used of a state stands in it
pub used-self : (c : Call) (s : Reference) → put_back (names c.step) c.slot c.cpu s.contents (used_by c s) ≡ s.contents
unfolding used_of put_back state_of
used-self c s = same4 state_of
    (if-twice (uses_vms (names c.step)) s.contents.vms no_vms)
    (if-twice (uses_shared (names c.step) c.slot) s.contents.shared no_shared)
    (fun_ext (put_guest-same s.contents.guest c.slot))
    (fun_ext (put_at-same (λ (k : Cpu). k) s.contents.cpu c.cpu (s.contents.cpu c.cpu) refl))

rooms-self : (c : Call) (s : Reference) → put_rooms (names c.step) c.slot c.cpu s.rooms (rooms_by c s) ≡ s.rooms
unfolding rooms_of put_rooms all_of
rooms-self c s = same4 all_of
    (if-twice (uses_vms (names c.step)) s.rooms.vms 0)
    (if-twice (uses_shared (names c.step) c.slot) s.rooms.shared 0)
    (fun_ext (put_room-same s.rooms.guest c.slot))
    (fun_ext (put_at-same (λ (k : ℕ). k) s.rooms.cpu c.cpu (s.rooms.cpu c.cpu) refl))

-- what a refused call leaves
refused-after : (l : Layout) (c : Call) (x : Used) (r : UsedRooms) (y : Used) (q : UsedRooms) (why : Refusal)
    → FindsFull c x r y q ⊎ IsStoredAnswer l c x r y q
    → c.reply ≡ Refused why
    → y ≡ x
refused-after l c x r y q why (inl p) e = p.next
refused-after l c x r y q why (inr p) e = elim (p.answered) [
  | inl m ↦ (let no_value = sym m.reply_is ∙ e in cc)
  | inr m ↦ elim m [ inl k ↦ k.next | inr k ↦ k.next ]
]

pub refusal_keeps : RefusalKeeps
refusal_keeps l s t c why h e =
    ap (λ (u : Reference). u.contents) h.next
    ∙ ap (put_back (names c.step) c.slot c.cpu s.contents)
    (refused-after l c (used_by c s) (rooms_by c s) h.after h.left why h.on.answers e)
    ∙ used-self c s

test-room : (b : Bool) (why : Refusal) (rest : Option Refusal)
    → why ≢ LogFull
    → rest ≢ Some LogFull
    → (if b then Some why else rest) ≢ Some LogFull
test-room true why rest p q = λ h. let e : why ≡ LogFull = cc in p e
test-room false why rest p q = q

either-room : (o rest : Option Refusal) → o ≢ Some LogFull → rest ≢ Some LogFull → or_else o rest ≢ Some LogFull
either-room (Some why) rest p q = p
either-room None rest p q = q

-- no failing test is answered as a full log is
refusal-room : (depth : ℕ) (r : Rule) (lacks : Bool) (x : Used) → refusal depth r lacks x ≢ Some LogFull
unfolding refusal
refusal-room depth r lacks x =
    either-room (first_test r lacks) (if is_short depth r.changes x then Some NoPool else None)
    (test-room (not r.valid.passes) Invalid _ (λ h. cc)
    (test-room (lacks || not r.has_vm.passes) NoVm _ (λ h. cc)
    (test-room (not r.ready.passes) Busy _ (λ h. cc)
    (test-room (not r.allowed.passes) Perm None (λ h. cc) (λ h. cc)))))
    (test-room (is_short depth r.changes x) NoPool None (λ h. cc) (λ h. cc))

-- an answer isn't LogFull
pub answered-room : (l : Layout) (cpu : ℕ) (slot : Option ℕ) (step : Step) (w : Bool) (x : Used) (reply : Reply)
    (y : Used)
    → Answered l cpu slot step w x reply y
    → reply ≢ Refused LogFull
unfolding fails
answered-room l cpu slot step w x reply y (inl p) e = let no_value = sym p.reply_is ∙ e in cc
answered-room l cpu slot step w x reply y (inr (inl p)) e = let same : Refused p.why ≡ Refused LogFull =
    sym p.reply_is ∙ e in
    let one : p.why ≡ LogFull = cc in
    refusal-room l.depth _ _ x (p.fail ∙ ap Some one)
answered-room l cpu slot step w x reply y (inr (inr p)) e = let same : Refused NoMemory ≡ Refused LogFull =
    sym p.reply_is ∙ e in
    cc

pub log_full_keeps : LogFullKeeps
log_full_keeps l s t c h e = elim (h.on.answers) [
  | inl p ↦ h.next ∙ same2 (with_used c s) p.next p.rooms ∙ same2 whole (used-self c s) (rooms-self c s)
  | inr p ↦ absurd (answered-room l c.cpu c.slot c.step true (used_by c s) c.reply h.after p.answered e)
]
