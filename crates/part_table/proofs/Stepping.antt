-- The step on what is lent, as a step on parts by number: in each state in which these stand it is the reference step.
use Rattle.std.proofs.Common.{◌≡◌, ◌≢◌, ◌∙◌, ℕ, zero, suc, ◌==◌, Bool, true, false, true≢false, cond, is_some, option_map, unwrap_or, IfSome, Option, Some, None, refl, sym, ap, subst, arith, if◌then◌else◌}
use Rattle.std.proofs.lemmas.Bool.Decides.{nat_tests}
use Rattle.std.proofs.Math.Logic.{∥∥₁_elim, ∥∥₁_map}
use Rattle.std.proofs.Props.{props}
use Rattle.page_state.proofs.Common.{eq-self}
use Rattle.call_table.specs.declared.reply.Call.{Call}
use Rattle.call_table.specs.declared.step.Step.{Step}
use Rattle.page_state.specs.Layouts.{Layout}
use Rattle.reference_model.specs.model.Parts.{Names, is_slot, uses_vms, uses_shared}
use Rattle.reference_model.specs.model.Rules.{names}
use Rattle.reference_model.specs.model.Reached.{IsReached}
use Rattle.reference_model.specs.model.State.{Vms, Shared, Guest, Cpu, Reference, no_vms, no_shared, no_guest}
use Rattle.reference_model.specs.model.Step.{Steps, StepsOn, rooms_by, with_used}
use Rattle.reference_model.specs.model.Used.{Used, UsedRooms, used_of, put_back, rooms_of, put_rooms, guest_at, put_guest, room_at, put_room}
use Rattle.part_types.specs.declared.parts.VmPart.{VmPart}
use Rattle.part_types.specs.declared.parts.SharedPart.{SharedPart}
use Rattle.part_types.specs.declared.parts.GuestPart.{GuestPart}
use Rattle.part_types.specs.declared.parts.CpuState.{CpuState}
use Rattle.part_types.specs.Lent.{GuestSuits, Lent, LentLogs, SharedSuits, Suits, all_with, call_in, logs_in, rooms_in, slot_in, used_in, with_call}
use Rattle.part_types.specs.Logs.{StoredCalls, IsOfSize}
use Rattle.part_types.specs.View.{vm_slots, shared_of, guest_held, cpu_of}
use Rattle.hypercalls.specs.Steps.{IsStepOn, any_full, reply_in}
use Rattle.hypercalls.proofs.Stepping.{Fits}
use Rattle.part_table.specs.declared.slot.Slot.{Slot}
use Rattle.part_table.specs.declared.slot.Slot.TheVariants.{Vm as VmSlot, Shared as SharedSlot, Guest as GuestSlot}
use Rattle.part_table.specs.Does.{Does, HasMemoryFor, IsLeft}
use Rattle.guest_component.specs.Wants.{WantsNoMemory}
use Rattle.part_types.specs.Roomy.{IsRoomy}
use Rattle.reference_model.specs.declared.changes.Changes.{Changes}
use Rattle.reference_model.specs.model.Decides.{decides}
use Rattle.part_table.proofs.Left.{own_left, part_left}
use Rattle.part_table.specs.Parts.{uses, log_of, IsPart, IsOwn, IsVms, IsShared, IsGuest}

module _ {A : Type 0} where
  -- what is lent, by number
  abbrev pub lent_at : Option ℕ → Lent A → ℕ → Option (Slot A)
  lent_at slot x zero = option_map VmSlot x.vms
  lent_at slot x (suc zero) = option_map SharedSlot x.shared
  lent_at slot x (suc (suc v)) = cond (is_slot slot v) (option_map GuestSlot x.guest) None

  abbrev part_or : Slot A → Option (Slot A) → Slot A
  part_or d None = d
  part_or d (Some x) = x

  pub some_same : (x y : Slot A) → Some x ≡ Some y → x ≡ y
  some_same x y e = ap (part_or x) e

some_log : (x y : StoredCalls) → ◌≡◌ {A = Option StoredCalls} (Some x) (Some y) → x ≡ y
some_log x y e = ap (λ o. unwrap_or o x) e

-- one kind of part: what is lent of it, if anything
module _ {A : Type 0} {P : Type 0} (make : P → Slot A) (log : P → StoredCalls)
    (is_log : (p : P) → log_of (make p) ≡ log p) where
  -- what is stored in it
  pub one_used : (c : Call) (b : Bool) (o q : Option P)
      → b ≡ true
      → is_some o ≡ b
      → option_map log q ≡ option_map (with_call c) (option_map log o)
      → (X : Slot A)
      × (Y : Slot A)
      × (option_map make o ≡ Some X)
      × (option_map make q ≡ Some Y)
      × (log_of Y ≡ with_call c (log_of X))
  one_used c b None q is h e = absurd (true≢false (sym (h ∙ is)))
  one_used c b (Some x) None is h e = absurd cc
  one_used c b (Some x) (Some y) is h e = (
    make x,
    make y,
    refl,
    refl,
    is_log y ∙ some_log (log y) (with_call c (log x)) e
        ∙ ap (with_call c) (sym (is_log x)),
  )

  -- it is there only where it is used
  pub one_only : (b : Bool) (q : Option P) (Y : Slot A) → is_some q ≡ b → option_map make q ≡ Some Y → b ≡ true
  one_only b None Y h e = absurd cc
  one_only b (Some y) Y h e = sym h

  -- and comes back where it was
  pub one_back : (c : Call) (b : Bool) (o q : Option P)
      → is_some o ≡ b
      → option_map log q ≡ option_map (with_call c) (option_map log o)
      → is_some q ≡ b
  one_back c b None None h e = h
  one_back c b None (Some y) h e = absurd cc
  one_back c b (Some x) None h e = absurd cc
  one_back c b (Some x) (Some y) h e = h

  -- what is so of the part that is lent
  pub some_one : (Is : P → Type 0) (o : Option P) → ((p : P) → option_map make o ≡ Some (make p) → Is p) → IfSome o Is
  some_one Is None f = tt
  some_one Is (Some x) f = f x refl

same_used : (v v' : Vms) (s s' : Shared) (g g' : Guest) (k k' : Cpu)
    → v ≡ v'
    → s ≡ s'
    → g ≡ g'
    → k ≡ k'
    → ◌≡◌ {A = Used} (record { vms = v; shared = s; guest = g; cpu = k })
    (record { vms = v'; shared = s'; guest = g'; cpu = k' })
same_used v v' s s' g g' k k' a b c d = cc

same_rooms : (v v' s s' g g' k k' : ℕ)
    → v ≡ v'
    → s ≡ s'
    → g ≡ g'
    → k ≡ k'
    → ◌≡◌ {A = UsedRooms} (record { vms = v; shared = s; guest = g; cpu = k })
    (record { vms = v'; shared = s'; guest = g'; cpu = k' })
same_rooms v v' s s' g g' k k' a b c d = cc

-- what is used of a state, by what is lent
module _ {P X : Type 0} (f : P → X) where
  pub one_is : (blank v : X) (b : Bool) (o : Option P)
      → is_some o ≡ b
      → ((p : P) → o ≡ Some p → f p ≡ v)
      → unwrap_or (option_map f o) blank ≡ (if b then v else blank)
  one_is blank v b None h is = ap (λ c. if c then v else blank) h
  one_is blank v b (Some x) h is = is x refl ∙ ap (λ c. if c then v else blank) h

-- and by that of a slot, where there is one
module _ {P X : Type 0} (f : P → X) where
  pub some_is : (blank : X) (at : Option ℕ → X) (o : Option ℕ) (q : Option P)
      → at None ≡ blank
      → is_some q ≡ is_some o
      → ((p : P) (v : ℕ) → o ≡ Some v → q ≡ Some p → f p ≡ at (Some v))
      → unwrap_or (option_map f q) blank ≡ at o
  some_is blank at None None none h is = sym none
  some_is blank at None (Some x) none h is = absurd (true≢false h)
  some_is blank at (Some v) None none h is = absurd (true≢false (sym h))
  some_is blank at (Some v) (Some x) none h is = is x v refl refl

two_maps : {P Q : Type 0} (f : P → Q) (g : Q → ℕ) (o : Option P)
    → unwrap_or (option_map g (option_map f o)) 0 ≡ unwrap_or (option_map (λ p. g (f p)) o) 0
two_maps f g None = refl
two_maps f g (Some p) = refl

pub nat_prop : (a b : ℕ) → IsProp (a ≡ b)
nat_prop a b = hlevel props

bool_prop : (a b : Bool) → IsProp (a ≡ b)
bool_prop a b = hlevel props

some_slot : (o : Option ℕ) (v : ℕ) → is_slot o v ≡ true → is_some o ≡ true
some_slot None v e = e
some_slot (Some u) v e = refl

only_where : {X : Type 0} (b : Bool) (o : Option X) (y : X) → cond b o None ≡ Some y → b ≡ true
only_where true o y e = refl
only_where false o y e = absurd cc

guest_else : (f : ℕ → Guest) (o : Option ℕ) (g : Guest) (v : ℕ) → is_slot o v ≡ false → put_guest f o g v ≡ f v
guest_else f None g v e = refl
guest_else f (Some w) g v e = ap (λ b. if b then g else f v) e

guest_room_else : (f : ℕ → ℕ) (o : Option ℕ) (r : ℕ) (v : ℕ) → is_slot o v ≡ false → put_room f o r v ≡ f v
guest_room_else f None r v e = refl
guest_room_else f (Some w) r v e = ap (λ b. if b then r else f v) e

pub not_same : (i j : ℕ) → i ≢ j → (i == j) ≡ false
not_same i j h = grind (arith, nat_tests)

-- what is so of the guest that is lent
some_guest_is : {A : Type 0} (Is : GuestPart A → Type 0) (o : Option ℕ) (q : Option (GuestPart A))
    → is_some q ≡ is_some o
    → ((v : ℕ) (p : GuestPart A) → o ≡ Some v → option_map GuestSlot q ≡ Some (GuestSlot p) → Is p)
    → IfSome q Is
some_guest_is Is o None h f = tt
some_guest_is Is None (Some p) h f = absurd (true≢false h)
some_guest_is Is (Some v) (Some p) h f = f v p refl refl

-- parts as they stand after a call
module _ {A : Type 0} (l : Layout) (u : Reference) where
  vms_stand : (b : Bool) (old : Vms) (r : ℕ) (o : Option VmPart) (Y : Slot A)
      → is_some o ≡ b
      → IfSome o (λ v. IsOfSize l.config.log v.log)
      → u.contents.vms ≡ (if b then unwrap_or (option_map vm_slots o) no_vms else old)
      → u.rooms.vms ≡ (if b then unwrap_or (option_map (λ g. g.room) (option_map (λ p. p.log) o)) 0 else r)
      → option_map VmSlot o ≡ Some Y
      → IsPart l u 0 Y
  vms_stand b old r None Y h size content room e = absurd cc
  vms_stand b old r (Some p) Y h size content room e =
      let here : IsVms l u p = record {
        content = sym (content ∙ ap (λ z. if z then vm_slots p else old) (sym h));
        room = sym (room ∙ ap (λ z. if z then p.log.room else r) (sym h));
        size = size;
      } in
      subst (IsPart l u 0) (some_same (VmSlot p) Y e) here

  shared_stand : (b : Bool) (old : Shared) (r : ℕ) (o : Option (SharedPart A)) (Y : Slot A)
      → is_some o ≡ b
      → IfSome o (λ s. SharedSuits l s)
      → u.contents.shared ≡ (if b then unwrap_or (option_map shared_of o) no_shared else old)
      → u.rooms.shared ≡ (if b then unwrap_or (option_map (λ g. g.room) (option_map (λ p. p.log) o)) 0 else r)
      → option_map SharedSlot o ≡ Some Y
      → IsPart l u 1 Y
  shared_stand b old r None Y h size content room e = absurd cc
  shared_stand b old r (Some p) Y h size content room e =
      let here : IsShared l u p = record {
        content = sym (content ∙ ap (λ z. if z then shared_of p else old) (sym h));
        room = sym (room ∙ ap (λ z. if z then p.log.room else r) (sym h));
        suits = size;
      } in
      subst (IsPart l u 1) (some_same (SharedSlot p) Y e) here

  guest_stand : (o : Option ℕ) (guests : ℕ → Guest) (rooms : ℕ → ℕ) (q : Option (GuestPart A)) (v : ℕ) (Y : Slot A)
      → is_some q ≡ is_some o
      → IfSome q (λ g. GuestSuits l g)
      → u.contents.guest v ≡ put_guest guests o (unwrap_or (option_map guest_held q) no_guest) v
      → u.rooms.guest v ≡ put_room rooms o (unwrap_or (option_map (λ g. g.room) (option_map (λ p. p.log) q)) 0) v
      → cond (is_slot o v) (option_map GuestSlot q) None ≡ Some Y
      → IsPart l u (suc (suc v)) Y
  guest_stand None guests rooms q v Y h size content room e = absurd cc
  guest_stand (Some w) guests rooms None v Y h size content room e = absurd (true≢false (sym h))
  guest_stand (Some w) guests rooms (Some p) v Y h size content room e =
      let is : (v == w) ≡ true = only_where (v == w) (Some (GuestSlot p)) Y e in
      let same : GuestSlot p ≡ Y =
      some_same (GuestSlot p) Y (sym (ap (λ b. cond b (Some (GuestSlot p)) None) is) ∙ e) in
      let here : IsGuest l u v p = record {
        content = sym (content ∙ ap (λ z. if z then guest_held p else guests v) is);
        room = sym (room ∙ ap (λ z. if z then p.log.room else rooms v) is);
        suits = size;
      } in
      subst (IsPart l u (suc (suc v))) same here

module _ {A : Type 0} (l : Layout) (step : Step) (x : Lent A) (fits : Fits (names step) (slot_in x step) x) where
  abbrev id : ℕ
  id = x.cpu.id

  abbrev n : Names
  n = names step

  abbrev slot : Option ℕ
  slot = slot_in x step

  abbrev here : ℕ → Option (Slot A)
  here = lent_at slot x

  -- a state in which what is lent stands
  module _ (s : Reference) (parts : (k : ℕ) (X : Slot A) → here k ≡ Some X → IsPart l s k X)
      (own : IsOwn l s id x.cpu) where
    vms_part : (p : VmPart) → x.vms ≡ Some p → IsVms l s p
    vms_part p e = parts zero (VmSlot p) (ap (option_map VmSlot) e)

    shared_part : (p : SharedPart A) → x.shared ≡ Some p → IsShared l s p
    shared_part p e = parts (suc zero) (SharedSlot p) (ap (option_map SharedSlot) e)

    guest_part : (p : GuestPart A) (v : ℕ) → slot ≡ Some v → x.guest ≡ Some p → IsGuest l s v p
    guest_part p v is e =
        parts (suc (suc v)) (GuestSlot p)
        (ap (λ o. cond (is_slot o v) (option_map GuestSlot x.guest) None) is
        ∙ ap (λ b. cond b (option_map GuestSlot x.guest) None) (eq-self v) ∙ ap (option_map GuestSlot) e)

    used_is : used_in x ≡ used_of n slot id s.contents
    unfolding used_of
    used_is = same_used _ _ _ _ _ _ _ _
        (one_is vm_slots no_vms s.contents.vms (uses_vms n) x.vms fits.vms (λ p e. (vms_part p e).content))
        (one_is shared_of no_shared s.contents.shared (uses_shared n slot) x.shared fits.shared
        (λ p e. (shared_part p e).content))
        (some_is guest_held no_guest (guest_at s.contents.guest) slot x.guest refl fits.guest
        (λ p v is e. (guest_part p v is e).content))
        own.content

    rooms_are : rooms_in (logs_in x) ≡ rooms_of n slot id s.rooms
    unfolding rooms_of
    rooms_are = same_rooms _ _ _ _ _ _ _ _
        (two_maps (λ p. p.log) (λ g. g.room) x.vms
        ∙ one_is (λ p. p.log.room) 0 s.rooms.vms (uses_vms n) x.vms fits.vms (λ p e. (vms_part p e).room))
        (two_maps (λ p. p.log) (λ g. g.room) x.shared
        ∙ one_is (λ p. p.log.room) 0 s.rooms.shared (uses_shared n slot) x.shared fits.shared
        (λ p e. (shared_part p e).room))
        (two_maps (λ p. p.log) (λ g. g.room) x.guest
        ∙ some_is (λ p. p.log.room) 0 (room_at s.rooms.guest) slot x.guest refl fits.guest
        (λ p v is e. (guest_part p v is e).room))
        own.room

  -- what a run leaves, as a step asks it
  pub reached : ∥ IsLeft l id x.cpu here ∥₁ → ∥ IsReached l n slot id (used_in x) ∥₁
  reached left =
      ∥∥₁_map left
      (λ h. record {
        ready = h.ready;
        log = h.log;
        state = h.history.end;
        run = h.history.run;
        used = used_is h.history.end (part_left h) (own_left id x.cpu h);
      })

  pub suits : ∥ IsLeft l id x.cpu here ∥₁ → Suits l x
  suits left = record {
    vms =
        some_one VmSlot (λ p. p.log) (λ p. refl) (λ v. IsOfSize l.config.log v.log) x.vms
        (λ p e. ∥∥₁_elim left (nat_prop _ _)
        (λ h. let is : IsVms l h.history.end p = part_left h 0 (VmSlot p) e in is.size));
    shared = some_one SharedSlot (λ p. p.log) (λ p. refl) (λ s. SharedSuits l s) x.shared (λ p e.
        let is : IsLeft l id x.cpu here → SharedSuits l p =
        (λ h. let i : IsShared l h.history.end p = part_left h 1 (SharedSlot p) e in i.suits) in
        record {
          depth = ∥∥₁_elim left (nat_prop _ _) (λ h. (is h).depth);
          rows =
              λ f. ∥∥₁_elim left (bool_prop _ _) (λ h. (is h).rows f);
          log =
              ∥∥₁_elim left (nat_prop _ _) (λ h. (is h).log);
        });
    guest = some_guest slot x.guest fits.guest (λ v p is e.
        let suit : IsLeft l id x.cpu here → GuestSuits l p =
        (λ h. let i : IsGuest l h.history.end v p =
        part_left h (suc (suc v)) (GuestSlot p)
        (ap (λ o. cond (is_slot o v) (option_map GuestSlot x.guest) None) is
        ∙ ap (λ b. cond b (option_map GuestSlot x.guest) None) (eq-self v) ∙ e) in
        i.suits) in
        record {
          depth = ∥∥₁_elim left (nat_prop _ _) (λ h. (suit h).depth);
          log = ∥∥₁_elim left (nat_prop _ _) (λ h. (suit h).log);
        });
    cpu = ∥∥₁_elim left (nat_prop _ _) (λ h. (own_left id x.cpu h).size);
  }
    where
      some_guest : (o : Option ℕ) (q : Option (GuestPart A))
          → is_some q ≡ is_some o
          → ((v : ℕ) (p : GuestPart A) → o ≡ Some v → option_map GuestSlot q ≡ Some (GuestSlot p) → GuestSuits l p)
          → IfSome q (λ g. GuestSuits l g)
      some_guest o None h f = tt
      some_guest None (Some p) h f = absurd (true≢false h)
      some_guest (Some v) (Some p) h f = f v p refl refl

  -- what comes back
  module _ (told : Option Call) (y : Lent A) (room : any_full (logs_in x) ≡ false) (made : IsStepOn l step x told y)
      (sized : Suits l y) where
    abbrev c : Call
    c = call_in x step (reply_in told)

    abbrev back : ℕ → Option (Slot A)
    back = lent_at slot y

    logs_are : logs_in y ≡ all_with c (logs_in x)
    logs_are = made.logs ∙ rw room refl

    came : Fits n slot y
    came = record {
      vms =
          one_back {A = A} VmSlot (λ p. p.log) (λ p. refl) c (uses_vms n) x.vms y.vms fits.vms
          (ap (λ (g : LentLogs). g.vms) logs_are);
      shared =
          one_back {A = A} SharedSlot (λ p. p.log) (λ p. refl) c (uses_shared n slot) x.shared y.shared fits.shared
          (ap (λ (g : LentLogs). g.shared) logs_are);
      guest =
          one_back {A = A} GuestSlot (λ p. p.log) (λ p. refl) c (is_some slot) x.guest y.guest fits.guest
          (ap (λ (g : LentLogs). g.guest) logs_are);
    }

    used : (k : ℕ)
        → uses c k ≡ true
        → (X : Slot A) × (Y : Slot A) × (here k ≡ Some X) × (back k ≡ Some Y) × (log_of Y ≡ with_call c (log_of X))
    used zero u =
        one_used VmSlot (λ p. p.log) (λ p. refl) c (uses_vms n) x.vms y.vms u fits.vms
        (ap (λ (g : LentLogs). g.vms) logs_are)
    used (suc zero) u =
        one_used SharedSlot (λ p. p.log) (λ p. refl) c (uses_shared n slot) x.shared y.shared u fits.shared
        (ap (λ (g : LentLogs). g.shared) logs_are)
    used (suc (suc v)) u =
        let t =
        one_used GuestSlot (λ p. p.log) (λ p. refl) c (is_some slot) x.guest y.guest
        (some_slot slot v u) fits.guest (ap (λ (g : LentLogs). g.guest) logs_are) in (
          t.0,
          t.1,
          ap (λ b. cond b (option_map GuestSlot x.guest) None) u
              ∙ t.2,
          ap (λ b. cond b (option_map GuestSlot y.guest) None) u ∙ t.3,
          t.4,
        )

    only : (k : ℕ) (Y : Slot A) → back k ≡ Some Y → uses c k ≡ true
    only zero Y e = one_only VmSlot (λ p. p.log) (λ p. refl) (uses_vms n) y.vms Y came.vms e
    only (suc zero) Y e = one_only SharedSlot (λ p. p.log) (λ p. refl) (uses_shared n slot) y.shared Y came.shared e
    only (suc (suc v)) Y e = only_where (is_slot slot v) (option_map GuestSlot y.guest) Y e

    module _ (s : Reference) (parts : (k : ℕ) (X : Slot A) → here k ≡ Some X → IsPart l s k X)
        (own : IsOwn l s id x.cpu) where
      -- the state after it
      abbrev t : Reference
      t = with_used c s (used_in y) (rooms_in (logs_in y))

      steps : Steps l s c t
      steps = record {
        after = used_in y;
        left = rooms_in (logs_in y);
        on =
            subst (λ (u : Used). StepsOn l c u (rooms_by c s) (used_in y) (rooms_in (logs_in y))) (used_is s parts own)
            (subst (λ (o : UsedRooms). StepsOn l c (used_in x) o (used_in y) (rooms_in (logs_in y)))
            (rooms_are s parts own) made.on);
        next = refl;
      }

      stands : (k : ℕ) (Y : Slot A) → back k ≡ Some Y → IsPart l t k Y
      unfolding put_back put_rooms
      stands zero Y e = vms_stand l t (uses_vms n) s.contents.vms s.rooms.vms y.vms Y came.vms sized.vms refl refl e
      stands (suc zero) Y e =
          shared_stand l t
          (uses_shared n slot) s.contents.shared s.rooms.shared y.shared Y came.shared sized.shared refl refl e
      stands (suc (suc v)) Y e =
          guest_stand l t slot s.contents.guest s.rooms.guest y.guest v Y came.guest sized.guest refl refl e

      owned : IsOwn l t id y.cpu
      unfolding put_back put_rooms
      owned = record {
        id = made.id;
        content = sym (ap (λ b. if b then cpu_of y.cpu else s.contents.cpu id) (eq-self id));
        room = sym (ap (λ b. if b then y.cpu.log.room else s.rooms.cpu id) (eq-self id));
        size = sized.cpu;
      }

      stays : (k : ℕ) (X : Slot A) → uses c k ≡ false → IsPart l s k X → IsPart l t k X
      unfolding put_back put_rooms
      stays zero (VmSlot p) u h = record {
        content =
            h.content ∙ sym (ap (λ b. if b then unwrap_or (option_map vm_slots y.vms) no_vms else s.contents.vms) u);
        room = h.room ∙ sym (ap (λ b. if b then (rooms_in (logs_in y)).vms else s.rooms.vms) u);
        size = h.size;
      }
      stays zero (SharedSlot p) u h = absurd h
      stays zero (GuestSlot p) u h = absurd h
      stays (suc zero) (VmSlot p) u h = absurd h
      stays (suc zero) (SharedSlot p) u h = record {
        content =
            h.content
            ∙ sym
            (ap (λ b. if b then unwrap_or (option_map shared_of y.shared) no_shared else s.contents.shared) u);
        room = h.room ∙ sym (ap (λ b. if b then (rooms_in (logs_in y)).shared else s.rooms.shared) u);
        suits = h.suits;
      }
      stays (suc zero) (GuestSlot p) u h = absurd h
      stays (suc (suc v)) (VmSlot p) u h = absurd h
      stays (suc (suc v)) (SharedSlot p) u h = absurd h
      stays (suc (suc v)) (GuestSlot p) u h = record {
        content =
            h.content ∙ sym (guest_else s.contents.guest slot (unwrap_or (option_map guest_held y.guest) no_guest) v u);
        room = h.room ∙ sym (guest_room_else s.rooms.guest slot (rooms_in (logs_in y)).guest v u);
        suits = h.suits;
      }

      others : (j : ℕ) (k : CpuState) → j ≢ id → IsOwn l s j k → IsOwn l t j k
      unfolding put_back put_rooms
      others j k ne h = record {
        id = h.id;
        content = h.content ∙ sym (ap (λ b. if b then cpu_of y.cpu else s.contents.cpu j) (not_same j id ne));
        room = h.room ∙ sym (ap (λ b. if b then y.cpu.log.room else s.rooms.cpu j) (not_same j id ne));
        size = h.size;
      }

    -- the parts that are lent have memory for the changes
    shared_has : (h : Changes)
        → ((k : ℕ) (X : Slot A) → here k ≡ Some X → HasMemoryFor h X)
        → IfSome x.shared (λ p. IsRoomy h p)
    shared_has h has =
        some_one SharedSlot (λ p. p.log) (λ p. refl) (λ p. IsRoomy h p) x.shared
        (λ p e. has (suc zero) (SharedSlot p) e)

    guest_has : (h : Changes)
        → ((k : ℕ) (X : Slot A) → here k ≡ Some X → HasMemoryFor h X)
        → IfSome x.guest (λ p. WantsNoMemory h p.guest)
    guest_has h has = some_guest_is (λ p. WantsNoMemory h p.guest) slot x.guest fits.guest
        (λ v p is e. has (suc (suc v)) (GuestSlot p)
        (ap (λ o. cond (is_slot o v) (option_map GuestSlot x.guest) None) is
        ∙ ap (λ b. cond b (option_map GuestSlot x.guest) None) (eq-self v) ∙ e))

    pub does : Does l c here x.cpu back y.cpu
    does = record {
      stored = made.stored room;
      mine = ap (λ (g : LentLogs). g.cpu) logs_are;
      used = used;
      only = only;
      goes =
          λ s parts own. (
            t s parts own,
            steps s parts own,
            stands s parts own,
            owned s parts own,
            stays s parts own,
            others s parts own,
          );
      wants =
          λ why s parts own h decided has. made.wants why h
          (ap (λ u. decides l id slot step u) (used_is s parts own) ∙ decided) (shared_has h has) (guest_has h has);
    }
