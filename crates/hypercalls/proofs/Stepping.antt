-- Logs of lent parts, and the step that is stored in them.
use Rattle.std.proofs.Common.{◌≡◌, ℕ, zero, suc, ◌↔◌, IsTrue, ◌+◌, ◌-◌, ◌<◌, ◌==◌, ◌&&◌, ◌||◌, ◌++◌, Bool, true, false, List, [], ◌∷◌, length, is_some, option_map, unwrap_or, IfSome, Option, Some, None, length-append, Result, Ok, Err, refl, ap, sym, ◌∙◌, subst, arith}
use Rattle.std.proofs.lemmas.Bool.Decides.{nat_tests}
use Rattle.hyp_pool.specs.declared.PoolFault.{PoolFault}
use Rattle.call_table.specs.declared.reply.Call.{Call}
use Rattle.call_table.specs.declared.reply.Refusal.{Refusal}
use Rattle.call_table.specs.declared.reply.Refusal.TheVariants.{LogFull, NoMemory}
use Rattle.call_table.specs.declared.reply.Reply.{Reply}
use Rattle.call_table.specs.declared.reply.Reply.TheVariants.{Refused}
use Rattle.call_table.specs.declared.step.Step.{Step}
use Rattle.page_state.specs.Layouts.{Layout}
use Rattle.decisions.specs.Grows.{GrowsOnly}
use Rattle.part_types.specs.Lent.{LentLogs, Lent, with_call, all_with, call_in, rooms_in, logs_in, slot_in, used_in}
use Rattle.part_types.specs.Logs.{StoredCalls, IsOfSize}
use Rattle.part_types.specs.View.{cpu_of}
use Rattle.reference_model.specs.declared.changes.Changes.{Changes}
use Rattle.reference_model.specs.help.Answers.{AnswerSteps, BarredAnswers, FullSteps}
use Rattle.reference_model.specs.model.Decides.{decides}
use Rattle.reference_model.proofs.Answers.{answer-stored}
use Rattle.reference_model.specs.model.Parts.{Names, uses_vms, uses_shared}
use Rattle.reference_model.specs.model.Rules.{names}
use Rattle.reference_model.specs.help.Rely.{CanRely, RelyingAnswers}
use Rattle.reference_model.specs.model.Step.{is_full, stored as stored_rooms, Answered, StepsOn}
use Rattle.reference_model.specs.model.Used.{Used}
use Rattle.guest_component.specs.Wants.{WantsNoMemory}
use Rattle.hypercalls.specs.Carried.{Ends}
use Rattle.part_types.specs.Roomy.{IsRoomy}
use Rattle.hypercalls.specs.Steps.{any_full, is_full_in, CanWantOn, IsStepOn}
use Rattle.hypercalls.proofs.Carried.{Comes, carries, told_memory}
use Rattle.hypercalls.proofs.Using.{IsKind}

-- tests of the room of logs
pub has_room : (b : Bool) (n : ℕ) → IsTrue b ↔ (n ≡ 0) → b ≡ false → (n == 0) ≡ false
has_room b zero iff e = let full : b ≡ true = iff.1 refl in let clash = sym full ∙ e in cc
has_room b (suc n) iff e = grind (arith, nat_tests)

pub no_room : (b : Bool) (n : ℕ) → IsTrue b ↔ (n ≡ 0) → b ≡ true → (n == 0) ≡ true
no_room b n iff e = rw (iff.0 e) refl

pub some_room : (b : Bool) (n : ℕ) → IsTrue b ↔ (n ≡ 0) → b ≡ false → 0 < n
some_room b zero iff e = let full : b ≡ true = iff.1 refl in absurd (let clash = sym full ∙ e in cc)
some_room b (suc n) iff e = omega arith

first_true : (a b c d : Bool) → a ≡ true → (a || b || c || d) ≡ true
first_true a b c d h = rw h refl

second_true : (a b c d : Bool) → b ≡ true → (a || b || c || d) ≡ true
second_true true b c d h = refl
second_true false b c d h = rw h refl

third_true : (a b c d : Bool) → c ≡ true → (a || b || c || d) ≡ true
third_true true b c d h = refl
third_true false true c d h = refl
third_true false false c d h = rw h refl

last_true : (a b c d : Bool) → d ≡ true → (a || b || c || d) ≡ true
last_true true b c d h = refl
last_true false true c d h = refl
last_true false false true d h = refl
last_true false false false d h = h

all_false : (a b c d : Bool) → a ≡ false → b ≡ false → c ≡ false → d ≡ false → (a || b || c || d) ≡ false
all_false a b c d ha hb hc hd = rw (ha, hb, hc, hd) refl

-- so is a lent log of which this is so
pub own_full : (x : LentLogs) → (x.cpu.room == 0) ≡ true → any_full x ≡ true
own_full x h = first_true (x.cpu.room == 0) (is_full_in x.vms) (is_full_in x.shared) (is_full_in x.guest) h

pub vms_full : (x : LentLogs) → is_full_in x.vms ≡ true → any_full x ≡ true
vms_full x h = second_true (x.cpu.room == 0) (is_full_in x.vms) (is_full_in x.shared) (is_full_in x.guest) h

pub shared_full : (x : LentLogs) → is_full_in x.shared ≡ true → any_full x ≡ true
shared_full x h = third_true (x.cpu.room == 0) (is_full_in x.vms) (is_full_in x.shared) (is_full_in x.guest) h

pub guest_full : (x : LentLogs) → is_full_in x.guest ≡ true → any_full x ≡ true
guest_full x h = last_true (x.cpu.room == 0) (is_full_in x.vms) (is_full_in x.shared) (is_full_in x.guest) h

pub none_full : (x : LentLogs)
    → (x.cpu.room == 0) ≡ false
    → is_full_in x.vms ≡ false
    → is_full_in x.shared ≡ false
    → is_full_in x.guest ≡ false
    → any_full x ≡ false
none_full x a b c d = all_false (x.cpu.room == 0) (is_full_in x.vms) (is_full_in x.shared) (is_full_in x.guest) a b c d

abbrev stored_of : List Call → ℕ → StoredCalls
stored_of calls room = record { calls = calls; room = room }

-- a log with a call at its end, by its calls and its room
pub eq_with : (c : Call) (g m h : StoredCalls)
    → m ≡ g
    → h.calls ≡ m.calls ++ c ∷ []
    → h.room + 1 ≡ m.room
    → h ≡ with_call c g
eq_with c g m h same a b =
    let r : h.room ≡ m.room - 1 = omega (arith, b) in
    ap (λ x. stored_of x h.room) a ∙ ap (stored_of (m.calls ++ c ∷ [])) r ∙ ap (with_call c) same

-- it keeps its size
pub size_kept : (c : Call) (most : ℕ) (g m h : StoredCalls)
    → m ≡ g
    → h.calls ≡ m.calls ++ c ∷ []
    → h.room + 1 ≡ m.room
    → IsOfSize most g
    → IsOfSize most h
size_kept c most g m h same a b size =
    let was : IsOfSize most m = subst (IsOfSize most) (sym same) size in
    let n = length-append m.calls (c ∷ []) in
    let l = ap length a in
    omega (arith, n, l, b, was)

pub room_kept : (g m : StoredCalls) → m ≡ g → 0 < g.room → 0 < m.room
room_kept g m same h = subst (λ (x : StoredCalls). 0 < x.room) (sym same) h

pub same_logs : (v v' s s' g g' : Option StoredCalls) (k k' : StoredCalls)
    → v ≡ v'
    → s ≡ s'
    → g ≡ g'
    → k ≡ k'
    → ◌≡◌ {A = LentLogs} (record { vms = v; shared = s; guest = g; cpu = k })
    (record { vms = v'; shared = s'; guest = g'; cpu = k' })
same_logs v v' s s' g g' k k' a b c d = cc

-- just what is used is lent
pub record Fits {A : Type 0} (n : Names) (slot : Option ℕ) (x : Lent A) : Type 0 where
  pub vms : is_some x.vms ≡ uses_vms n
  pub shared : is_some x.shared ≡ uses_shared n slot
  pub guest : is_some x.guest ≡ is_some slot

pub fits_of : {A : Type 0} (x : Lent A) (step : Step) (slot : Option ℕ)
    → IsKind (cpu_of x.cpu) step (is_some x.vms) (is_some x.shared) slot
    → is_some x.guest ≡ is_some slot
    → Fits (names step) (slot_in x step) x
fits_of x step slot kind one =
    record {
      vms = sym kind.vms;
      shared = sym (ap (uses_shared (names step)) kind.slot ∙ kind.shared);
      guest = one
          ∙ sym (ap is_some kind.slot);
    }

-- the tests of the lent logs are those of the logs that are used
used_full : {P : Type 0} (log : P → StoredCalls) (used : Bool) (o : Option P)
    → is_some o ≡ used
    → is_full_in (option_map log o) ≡ (used && (unwrap_or (option_map (λ g. g.room) (option_map log o)) 0 == 0))
used_full log used None e = subst (λ b. false ≡ (b && (0 == 0))) e refl
used_full log used (Some p) e = subst (λ b. ((log p).room == 0) ≡ (b && ((log p).room == 0))) e refl

pub full_is : {A : Type 0} (n : Names) (slot : Option ℕ) (x : Lent A)
    → Fits n slot x
    → is_full n slot (rooms_in (logs_in x)) ≡ any_full (logs_in x)
unfolding is_full
full_is n slot x h =
    let a = used_full (λ p. p.log) (uses_vms n) x.vms h.vms in
    let b = used_full (λ p. p.log) (uses_shared n slot) x.shared h.shared in
    let d = used_full (λ p. p.log) (is_some slot) x.guest h.guest in
    cc

one_stored : (c : Call) (o : Option StoredCalls)
    → unwrap_or (option_map (λ g. g.room) (option_map (with_call c) o)) 0 ≡ unwrap_or (option_map (λ g. g.room) o) 0 - 1
one_stored c None = refl
one_stored c (Some g) = refl

-- a call at the end of all logs leaves the stored rooms
pub rooms_stored : (c : Call) (x : LentLogs) → rooms_in (all_with c x) ≡ stored_rooms (rooms_in x)
unfolding stored_rooms
rooms_stored c x = let a = one_stored c x.vms in let b = one_stored c x.shared in let d = one_stored c x.guest in cc

ok_is : {E : Type 0} (h k : Changes) → ◌≡◌ {A = Result Changes E} (Ok h) (Ok k) → h ≡ k
ok_is h k e = cc

-- the step on lent parts, of which those are lent that it uses
module _ {A : Type 0} (l : Layout) (step : Step) (x : Lent A) (slot : Option ℕ)
    (kind : IsKind (cpu_of x.cpu) step (is_some x.vms) (is_some x.shared) slot) (one : is_some x.guest ≡ is_some slot)
    (size : IsOfSize l.config.log x.cpu.log) where
  fits : Fits (names step) (slot_in x step) x
  fits = fits_of x step slot kind one

  number_is : (reply : Reply) → (call_in x step reply).number ≡ l.config.log - (rooms_in (logs_in x)).cpu + 1
  number_is reply = omega (arith, size)

  -- where a log is full nothing changes
  pub full_step : FullSteps → any_full (logs_in x) ≡ true → IsStepOn l step x None x
  full_step full h = record {
    on =
        full l (call_in x step (Refused LogFull)) (used_in x) (rooms_in (logs_in x)) refl (number_is (Refused LogFull))
        (full_is (names step) (slot_in x step) x fits ∙ h) refl;
    told = rw h refl;
    logs = rw h refl;
    full = λ _. refl;
    stored = λ e. let clash = sym h ∙ e in cc;
    wants = λ e. cc;
    id = refl;
  }

  -- the call, by its slot and how many the CPU's log holds
  abbrev made : ℕ → Reply → Call
  made n reply = record { cpu = x.cpu.id; number = n + 1; step = step; reply = reply; slot = slot }

  call_is : (n : ℕ) → n ≡ length x.cpu.log.calls → (reply : Reply) → made n reply ≡ call_in x step reply
  call_is n count reply = let s = kind.slot in cc

  -- and else the answered call is stored
  module _ (steps : AnswerSteps) (h : any_full (logs_in x) ≡ false) (n : ℕ) (count : n ≡ length x.cpu.log.calls)
      (reply : Reply) (y : Lent A) (logs : logs_in y ≡ all_with (made n reply) (logs_in x))
      (id_is : y.cpu.id ≡ x.cpu.id) where
    stored_step : Answered l x.cpu.id slot step true (used_in x) reply (used_in y)
        → (reply ≡ Refused NoMemory → CanWantOn l x.cpu.id slot step x)
        → IsStepOn l step x (Some (made n reply)) y
    stored_step answered wants =
        let d = call_in x step reply in
        let at =
        steps l d true (used_in x) (rooms_in (logs_in x)) (used_in y) refl (number_is reply)
        (full_is (names step) (slot_in x step) x fits ∙ h)
        (subst (λ o. Answered l x.cpu.id o step true (used_in x) reply (used_in y))
        (sym kind.slot) answered) in
        let is = call_is n count reply in
        let all = logs ∙ ap (λ k. all_with k (logs_in x)) is in
        let rooms : rooms_in (logs_in y) ≡ stored_rooms (rooms_in (logs_in x)) =
        ap rooms_in all ∙ rooms_stored d (logs_in x) in
        record {
          on = subst (λ r. StepsOn l d (used_in x) (rooms_in (logs_in x)) (used_in y) r) (sym rooms) at;
          told = rw h (ap Some is);
          logs = rw h all;
          full = λ e. let clash = sym h ∙ e in cc;
          stored = λ _. answer-stored l x.cpu.id slot step true (used_in x) reply (used_in y) answered;
          wants = λ e. subst (λ o. CanWantOn l x.cpu.id o step x) (sym kind.slot) (wants e);
          id = id_is;
        }

    -- one that is refused
    pub barred_step : BarredAnswers
        → (why : Refusal)
        → decides l x.cpu.id slot step (used_in x) ≡ Err why
        → reply ≡ Refused why
        → used_in y ≡ used_in x
        → IsStepOn l step x (Some (made n reply)) y
    barred_step barred why bars told same = stored_step
        (subst (λ (u : Used). Answered l x.cpu.id slot step true (used_in x) reply u) (sym same)
        (subst (λ (r : Reply). Answered l x.cpu.id slot step true (used_in x) r (used_in x)) (sym told)
        (barred l x.cpu.id slot step true (used_in x) why bars)))
        (λ e k is roomy ready. let clash = sym bars ∙ is in cc)

    -- one whose changes were carried out, or weren't
    pub done_step : RelyingAnswers
        → CanRely l x.cpu.id slot step (used_in x)
        → (k : Changes)
        → decides l x.cpu.id slot step (used_in x) ≡ Ok k
        → GrowsOnly step k
        → (r : Result (Unit {0}) PoolFault)
        → Comes l x.cpu.id slot k x r y
        → Ends r k (cpu_of x.cpu) reply (cpu_of y.cpu)
        → IsStepOn l step x (Some (made n reply)) y
    done_step answers rely k lets grows r comes ends = stored_step
        (answers l x.cpu.id slot step (used_in x) true k reply (used_in y) rely lets
        (carries l x.cpu.id slot step k x y r reply grows comes ends))
        (λ e j is roomy ready. comes.no_memory (told_memory r k (cpu_of x.cpu) (cpu_of y.cpu) reply ends e)
        (subst (λ (i : Changes). IfSome x.shared (λ s. IsRoomy i s)) (ok_is j k (sym is ∙ lets)) roomy)
        (subst (λ (i : Changes). IfSome x.guest (λ g. WantsNoMemory i g.guest)) (ok_is j k (sym is ∙ lets)) ready))
