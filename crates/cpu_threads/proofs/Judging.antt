-- `judge` agrees on the records of what a call uses, as it is taken and as it goes home.
use Rattle.std.proofs.Common.{◌≡◌, ◌≢◌, ℕ, zero, suc, ◌+◌, ◌-◌, ◌==◌, ◌<◌, arith, cond, eqb, eq-eqb, ne_eqb, Bool, true, false, true≢false, refl, ap, sym, ◌∙◌, subst, Option, Some, None, option_map, if◌then◌else◌}
use Rattle.std.specs.Prelude.{IfOk, IfSome, Result, Ok, Err}
use Rattle.page_state.proofs.Cases.{by_test}
use Rattle.page_state.proofs.Common.{eq-same, eq-self}
use Rattle.call_table.specs.declared.reply.Call.{Call}
use Rattle.call_table.specs.declared.reply.Reply.{Reply}
use Rattle.call_table.specs.declared.step.Step.{Step}
use Rattle.page_state.specs.declared.layout.Layout.{Layout as TheLayout}
use Rattle.page_state.specs.LayoutView.{layout_of}
use Rattle.page_state.specs.Layouts.{Layout}
use Rattle.reference_model.specs.claims.Laws.{AgreeBeside}
use Rattle.reference_model.specs.model.State.{Contents, Cpu, Guest, Reference, no_cpu, no_guest, no_shared, no_vms}
use Rattle.reference_model.specs.model.Step.{predict_step}
use Rattle.reference_model.proofs.Steps.{first-same, step_changes}
use Rattle.part_types.specs.declared.parts.VmPart.{VmPart}
use Rattle.part_types.specs.declared.parts.SharedPart.{SharedPart}
use Rattle.part_types.specs.declared.parts.GuestPart.{GuestPart}
use Rattle.part_types.specs.declared.parts.CpuState.{CpuState}
use Rattle.part_types.specs.Logs.{IsOfSize}
use Rattle.part_types.specs.View.{cpu_of, guest_held, shared_of, vm_slots}
use Rattle.hypercalls.specs.Stands.{at_place}
use Rattle.part_table.proofs.Left.{own_left, part_left}
use Rattle.part_table.specs.declared.slot.Slot.{Slot}
use Rattle.part_table.specs.declared.slot.Slot.TheVariants.{Vm as VmSlot, Shared as SharedSlot, Guest as GuestSlot}
use Rattle.part_table.specs.Does.{Does, IsLeft, both_at, none_at, only_at}
use Rattle.part_table.specs.Made.{IsMade}
use Rattle.part_table.specs.Parts.{HoldsGuest, HoldsShared, IsGuest, IsOwn, IsPart, IsShared, IsVms, uses}
use Rattle.part_table.specs.Known.{Known}
use Rattle.part_table.proofs.Stepping.{some_same}
use Rattle.ghost_spec.specs.declared.lists.GhostLists.{GhostLists}
use Rattle.ghost_spec.specs.Kept.{HasNextGeneration}
use Rattle.ghost_spec.specs.States.{contents_in, ghost_state}
use Rattle.ghost_judge.specs.Judgements.{JudgeAgrees, StepsAgree, told_of}
use Rattle.ghost_oracle.specs.Recorded.{Given, given, put_given, recorded}
use Rattle.cpu_threads.specs.Judged.{Asked, AsksOnce, IsJudged, IsOfKind, IsRecordOf, both_in, given_at, lent_guest, lent_shared, lent_vms}

pub if_some : {X : Type 0} {P Q : X → Type 0} (o : Option X) → ((x : X) → P x → Q x) → IfSome o P → IfSome o Q
if_some None f h = tt
if_some (Some x) f h = f x h

pub if_ok : {X E : Type 0} {P Q : X → Type 0} (r : Result X E) → ((x : X) → P x → Q x) → IfOk r P → IfOk r Q
if_ok (Ok x) f h = f x h
if_ok (Err e) f h = tt

where_some : {X : Type 0} (b : Bool) (o : Option X) (y : X) → (if b then o else None) ≡ Some y → b ≡ true
where_some true o y e = refl
where_some false o y e = absurd cc

place_none : {P X Y : Type 0} (blank : X) (f : P → X) (make : P → Y) (o : Option P)
    → option_map make o ≡ None
    → at_place blank f o ≡ blank
place_none blank f make None e = refl
place_none blank f make (Some p) e = absurd cc

none_some : {X : Type 0} (x : X) → ◌≡◌ {A = Option X} None (Some x) → ⊥
none_some x e = cc

module _ {A : Type 0} (l : Layout) where
  -- what is given to a record stands in it
  stands_vms : (o : Option VmPart) (shared : Option (SharedPart A)) (guest : Option (ℕ × GuestPart A)) (own : CpuState)
      (s : Reference) (z : Slot A)
      → option_map (λ p. VmSlot p) o ≡ Some z
      → IsPart l s zero z
      → IsPart l (recorded (given o shared guest own) l) zero z
  stands_vms None shared guest own s z e h = absurd (none_some z e)
  stands_vms (Some p) shared guest own s z e h =
      let same : VmSlot p ≡ z = some_same (VmSlot p) z e in
      let is : IsVms l s p = subst (λ (y : Slot A). IsPart l s zero y) (sym same) h in
      let here : IsVms l (recorded (given (Some p) shared guest own) l) p =
      record { content = refl; room = refl; size = is.size } in
      subst (λ (y : Slot A). IsPart l (recorded (given (Some p) shared guest own) l) zero y) same here

  stands_shared : (vms : Option VmPart) (o : Option (SharedPart A)) (guest : Option (ℕ × GuestPart A)) (own : CpuState)
      (s : Reference) (z : Slot A)
      → option_map (λ p. SharedSlot p) o ≡ Some z
      → IsPart l s (suc zero) z
      → IsPart l (recorded (given vms o guest own) l) (suc zero) z
  stands_shared vms None guest own s z e h = absurd (none_some z e)
  stands_shared vms (Some p) guest own s z e h =
      let same : SharedSlot p ≡ z = some_same (SharedSlot p) z e in
      let is : IsShared l s p = subst (λ (y : Slot A). IsPart l s (suc zero) y) (sym same) h in
      let here : IsShared l (recorded (given vms (Some p) guest own) l) p =
      record { content = refl; room = refl; suits = is.suits } in
      subst (λ (y : Slot A). IsPart l (recorded (given vms (Some p) guest own) l) (suc zero) y) same here

  stands_guest : (vms : Option VmPart) (shared : Option (SharedPart A)) (o : Option (ℕ × GuestPart A)) (own : CpuState)
      (s : Reference) (v : ℕ) (z : Slot A)
      → put_given (λ j. None) (λ p. Some (GuestSlot p)) o v ≡ Some z
      → IsPart l s (suc (suc v)) z
      → IsPart l (recorded (given vms shared o own) l) (suc (suc v)) z
  stands_guest vms shared None own s v z e h = absurd (none_some z e)
  stands_guest vms shared (Some (u, p)) own s v z e h =
      let at : (v == u) ≡ true = where_some (v == u) (Some (GuestSlot p)) z e in
      let same : GuestSlot p ≡ z =
      some_same (GuestSlot p) z (sym (ap (λ b. if b then Some (GuestSlot p) else None) at) ∙ e) in
      let is : IsGuest l s v p = subst (λ (y : Slot A). IsPart l s (suc (suc v)) y) (sym same) h in
      let here : IsGuest l (recorded (given vms shared (Some (u, p)) own) l) v p =
      record {
        content = sym (ap (λ b. if b then guest_held p else no_guest) at);
        room = sym (ap (λ b. if b then p.log.room else l.config.log) at);
        suits = is.suits;
      } in
      subst (λ (y : Slot A). IsPart l (recorded (given vms shared (Some (u, p)) own) l) (suc (suc v)) y) same here

  stands : (x : Given A) (s : Reference) (k : ℕ) (z : Slot A)
      → given_at x k ≡ Some z
      → IsPart l s k z
      → IsPart l (recorded x l) k z
  stands x s zero z e h = stands_vms x.vms x.shared x.guest x.own s z e h
  stands x s (suc zero) z e h = stands_shared x.vms x.shared x.guest x.own s z e h
  stands x s (suc (suc v)) z e h = stands_guest x.vms x.shared x.guest x.own s v z e h

  own_stands : (x : Given A) (cpu : ℕ)
      → x.own.id ≡ cpu
      → IsOfSize l.config.log x.own.log
      → IsOwn l (recorded x l) cpu x.own
  own_stands x cpu is size = subst (λ n. IsOwn l (recorded x l) n x.own) is record {
    id = refl;
    content = sym (ap (λ b. if b then cpu_of x.own else no_cpu) (eq-self x.own.id));
    room = sym (ap (λ b. if b then x.own.log.room else l.config.log) (eq-self x.own.id));
    size = size;
  }

  -- a guest of a record: that of the given part, or none
  at_test : (b : Bool) (p : GuestPart A) (g : Guest)
      → ((q : GuestPart A) → (if b then Some (GuestSlot p) else None) ≡ Some (GuestSlot q) → guest_held q ≡ g)
      → ((if b then Some (GuestSlot p) else None) ≡ None → no_guest ≡ g)
      → (if b then guest_held p else no_guest) ≡ g
  at_test true p g here none = here p refl
  at_test false p g here none = none refl

  guest_is : (o : Option (ℕ × GuestPart A)) (v : ℕ) (g : Guest)
      → ((q : GuestPart A)
      → put_given (λ j. None) (λ p. Some (GuestSlot p)) o v ≡ Some (GuestSlot q)
      → guest_held q ≡ g)
      → (put_given (λ j. None) (λ p. Some (GuestSlot p)) o v ≡ None → no_guest ≡ g)
      → put_given (λ j. no_guest) guest_held o v ≡ g
  guest_is None v g here none = none refl
  guest_is (Some (u, p)) v g here none = at_test (v == u) p g here none

  -- a state that a call leaves of a record is the record of what it leaves
  module _ (c : Call) (x y : Given A) (t : Reference) (beside : AgreeBeside c (recorded x l) t) (by : x.own.id ≡ c.cpu)
      (parts : (k : ℕ) (z : Slot A) → given_at y k ≡ Some z → IsPart l t k z) (own : IsOwn l t c.cpu y.own)
      (only : (k : ℕ) → uses c k ≡ false → given_at x k ≡ None)
      (used : (k : ℕ) → given_at y k ≡ None → uses c k ≡ false) where
    vms_left : (o : Option VmPart)
        → ((p : VmPart) → o ≡ Some p → vm_slots p ≡ t.contents.vms)
        → (o ≡ None → t.contents.vms ≡ no_vms)
        → t.contents.vms ≡ at_place no_vms vm_slots o
    vms_left None here none = none refl
    vms_left (Some p) here none = sym (here p refl)

    shared_left : (o : Option (SharedPart A))
        → ((p : SharedPart A) → o ≡ Some p → shared_of p ≡ t.contents.shared)
        → (o ≡ None → t.contents.shared ≡ no_shared)
        → t.contents.shared ≡ at_place no_shared shared_of o
    shared_left None here none = none refl
    shared_left (Some p) here none = sym (here p refl)

    vms_same : t.contents.vms ≡ at_place no_vms vm_slots y.vms
    vms_same = vms_left y.vms
        (λ p e. let is : IsVms l t p = parts zero (VmSlot p) (ap (option_map (λ q. VmSlot q)) e) in is.content)
        (λ e. let un = used zero (ap (option_map (λ q. VmSlot q)) e) in
        first-same (beside.vms un) ∙ place_none {Y = Slot A} no_vms vm_slots (λ q. VmSlot q) x.vms (only zero un))

    shared_same : t.contents.shared ≡ at_place no_shared shared_of y.shared
    shared_same = shared_left y.shared
        (λ p e. let is : IsShared l t p = parts (suc zero) (SharedSlot p) (ap (option_map (λ q. SharedSlot q)) e) in
        is.content)
        (λ e. let un = used (suc zero) (ap (option_map (λ q. SharedSlot q)) e) in
        first-same (beside.shared un)
        ∙ place_none no_shared shared_of (λ q. SharedSlot q) x.shared (only (suc zero) un))

    guest_same : (v : ℕ) → t.contents.guest v ≡ put_given (λ j. no_guest) guest_held y.guest v
    guest_same v = sym (guest_is y.guest v (t.contents.guest v)
        (λ p e. let is : IsGuest l t v p = parts (suc (suc v)) (GuestSlot p) e in is.content)
        (λ e. let un = used (suc (suc v)) e in
        sym
        (first-same (beside.guest v un)
        ∙ guest_is x.guest v no_guest
        (λ p i. absurd (none_some (GuestSlot p) (sym (only (suc (suc v)) un) ∙ i))) (λ i. refl))))

    cpu_same : (j : ℕ) → t.contents.cpu j ≡ (if j == y.own.id then cpu_of y.own else no_cpu)
    cpu_same j = by_test (j == y.own.id)
        (λ e. let at : j ≡ c.cpu = eq-same j y.own.id e ∙ own.id in
        ap t.contents.cpu at ∙ sym own.content ∙ sym (ap (λ b. if b then cpu_of y.own else no_cpu) e))
        (λ e. let other : j ≢ c.cpu =
        (λ i. true≢false (sym (ap (λ n. n == y.own.id) (i ∙ sym own.id) ∙ eq-self y.own.id) ∙ e)) in
        first-same (beside.cpu j other)
        ∙ ap (λ b. if b then cpu_of x.own else no_cpu) (ap (λ n. j == n) (by ∙ sym own.id) ∙ e)
        ∙ sym (ap (λ b. if b then cpu_of y.own else no_cpu) e))

    pub left_same : t.contents ≡ (recorded y l).contents
    left_same =
        λ i. record { vms = vms_same i; shared = shared_same i; guest = λ v. guest_same v i; cpu = λ j. cpu_same j i }

  not_used : (c : Call) (before after : ℕ → Option (Slot A)) (own owned : CpuState)
      → Does l c before own after owned
      → (k : ℕ) (b : Bool)
      → uses c k ≡ b
      → after k ≡ None
      → uses c k ≡ false
  not_used c before after own owned does k false u e = u
  not_used c before after own owned does k true u e = let r = does.used k u in absurd (none_some r.1 (sym e ∙ r.3))

  not_held : (c : Call) (before : ℕ → Option (Slot A))
      → ((k : ℕ) (x : Slot A) → before k ≡ Some x → uses c k ≡ true)
      → (k : ℕ) (o : Option (Slot A))
      → before k ≡ o
      → uses c k ≡ false
      → before k ≡ None
  not_held c before only k None i u = i
  not_held c before only k (Some z) i u = absurd (true≢false (sym (only k z i) ∙ u))

  -- so `judge` agrees
  pub agrees : StepsAgree
      → (c : Call) (cpu : ℕ) (before after : ℕ → Option (Slot A)) (own owned : CpuState) (pre post : GhostLists)
      → c.cpu ≡ cpu
      → IsLeft l cpu own before
      → ((k : ℕ) (x : Slot A) → before k ≡ Some x → uses c k ≡ true)
      → Does l c before own after owned
      → IsRecordOf l before own pre
      → IsRecordOf l after owned post
      → JudgeAgrees (contents_in pre) c.step c.reply (contents_in post) (told_of pre cpu c.step)
  agrees law c cpu before after own owned pre post by left only does first last =
      let x : Given A = first.parts in
      let y : Given A = last.parts in
      let s : Reference = recorded x l in
      let x_by : x.own.id ≡ c.cpu = ap (λ (k : CpuState). k.id) first.own_is ∙ ((own_left cpu own left).id ∙ sym by) in
      let sized : IsOfSize l.config.log x.own.log =
      subst (λ (k : CpuState). IsOfSize l.config.log k.log) (sym first.own_is) (own_left cpu own left).size in
      let mine : IsOwn l s c.cpu own =
      subst (λ (k : CpuState). IsOwn l s c.cpu k) first.own_is (own_stands x c.cpu x_by sized) in
      let t = does.goes s (λ k z e. stands x left.history.end k z (first.all k ∙ e) (part_left left k z e)) mine in
      let same : t.0.contents ≡ (recorded y l).contents =
      left_same c x y t.0 (step_changes l s t.0 c t.1) x_by (λ k z e. t.2 k z (sym (last.all k) ∙ e))
      (subst (λ (k : CpuState). IsOwn l t.0 c.cpu k) (sym last.own_is) t.3)
      (λ k u. first.all k ∙ not_held c before only k (before k) refl u)
      (λ k e. not_used c before after own owned does k (uses c k) refl (sym (last.all k) ∙ e)) in
      let post_is : contents_in post ≡ t.0.contents = ap (λ (r : Reference). r.contents) last.state ∙ sym same in
      subst
      (λ (z : Reference × (Contents × (Layout × ℕ))). JudgeAgrees z.0.contents c.step c.reply z.1.0
      (predict_step z.1.1.0 z.0 z.1.1.1 c.step))
      (λ i. (sym first.state i, (sym post_is i, (sym first.layout i, by i)))) (law l s t.0 c t.1)

-- parts by number, as they are given to a record
module _ {A : Type 0} where
  pub given_own : (own : CpuState) (j : ℕ) → given_at (given {A = A} None None None own) j ≡ none_at j
  given_own own zero = refl
  given_own own (suc zero) = refl
  given_own own (suc (suc u)) = refl

  only_other : (k : ℕ) (z : Slot A) (j : ℕ) → j ≢ k → None ≡ only_at k z j
  only_other k z j ne = sym (ap (λ b. cond b (Some z) None) (ne_eqb j k ne))

  given_guest : (v : ℕ) (p : GuestPart A) (m : ℕ) (u : ℕ)
      → m ≡ v
      → put_given (λ j. None) (λ q. Some (GuestSlot q)) (Some (m, p)) u
      ≡ cond (eqb (suc (suc u)) (suc (suc v))) (Some (GuestSlot p)) None
  given_guest v p m u is = by_test (u == m)
      (λ e. ap (λ b. if b then Some (GuestSlot p) else None) e
      ∙ sym
      (ap (λ b. cond b (Some (GuestSlot p)) None)
      (eq-eqb (suc (suc u)) (suc (suc v)) (ap (λ n. suc (suc n)) (eq-same u m e ∙ is)))))
      (λ e. ap (λ b. if b then Some (GuestSlot p) else None) e
      ∙ sym (ap (λ b. cond b (Some (GuestSlot p)) None) (ne_eqb (suc (suc u)) (suc (suc v)) (λ i.
      let same : u ≡ m = omega (arith, i, is) in
      true≢false (sym (ap (λ n. u == n) (sym same) ∙ eq-self u) ∙ e)))))

  pub given_one : (k : ℕ) (z : Slot A) (own : CpuState)
      → IsOfKind k z
      → (j : ℕ)
      → given_at (given (lent_vms z) (lent_shared z) (lent_guest (k - 2) z) own) j ≡ only_at k z j
  given_one zero (VmSlot p) own h zero = refl
  given_one zero (VmSlot p) own h (suc zero) = refl
  given_one zero (VmSlot p) own h (suc (suc u)) = only_other 0 (VmSlot p) (suc (suc u)) (λ e. omega (arith, e))
  given_one zero (SharedSlot p) own h j = absurd h
  given_one zero (GuestSlot p) own h j = absurd h
  given_one (suc zero) (VmSlot p) own h j = absurd h
  given_one (suc zero) (SharedSlot p) own h zero = refl
  given_one (suc zero) (SharedSlot p) own h (suc zero) = refl
  given_one (suc zero) (SharedSlot p) own h (suc (suc u)) =
      only_other 1 (SharedSlot p) (suc (suc u)) (λ e. omega (arith, e))
  given_one (suc zero) (GuestSlot p) own h j = absurd h
  given_one (suc (suc v)) (VmSlot p) own h j = absurd h
  given_one (suc (suc v)) (SharedSlot p) own h j = absurd h
  given_one (suc (suc v)) (GuestSlot p) own h zero = only_other (suc (suc v)) (GuestSlot p) 0 (λ e. omega (arith, e))
  given_one (suc (suc v)) (GuestSlot p) own h (suc zero) =
      only_other (suc (suc v)) (GuestSlot p) 1 (λ e. omega (arith, e))
  given_one (suc (suc v)) (GuestSlot p) own h (suc (suc u)) = given_guest v p (suc (suc v) - 2) u (omega arith)

  pub given_two : (v : ℕ) (x y : Slot A) (own : CpuState)
      → HoldsShared x
      → HoldsGuest y
      → (j : ℕ)
      → given_at (given None (lent_shared x) (lent_guest v y) own) j ≡ both_at (v + 2) y 1 x j
  given_two v (VmSlot p) y own h k j = absurd h
  given_two v (GuestSlot p) y own h k j = absurd h
  given_two v (SharedSlot s) (VmSlot p) own h k j = absurd k
  given_two v (SharedSlot s) (SharedSlot p) own h k j = absurd k
  given_two v (SharedSlot s) (GuestSlot p) own h k zero =
      sym (ap (λ b. cond b (Some (GuestSlot p)) None) (ne_eqb 0 (v + 2) (λ e. omega (arith, e))))
  given_two v (SharedSlot s) (GuestSlot p) own h k (suc zero) =
      sym (ap (λ b. cond b (Some (GuestSlot p)) (Some (SharedSlot s))) (ne_eqb 1 (v + 2) (λ e. omega (arith, e))))
  given_two v (SharedSlot s) (GuestSlot p) own h k (suc (suc u)) =
      let two : suc (suc v) ≡ v + 2 = omega arith in
      given_guest v p v u refl ∙ (ap (λ n. cond (eqb (suc (suc u)) n) (Some (GuestSlot p)) None) two
      ∙ ap (λ o. cond (eqb (suc (suc u)) (v + 2)) (Some (GuestSlot p)) o)
      (only_other 1 (SharedSlot s) (suc (suc u)) (λ e. omega (arith, e))))

  -- the record of what was given so
  pub record_of : (l : Layout) (held : ℕ → Option (Slot A)) (own : CpuState) {V : Option VmPart}
      {S : Option (SharedPart A)} {G : Option (ℕ × GuestPart A)} (vms : Option VmPart) (shared : Option (SharedPart A))
      (guest : Option (ℕ × GuestPart A))
      → V ≡ vms
      → S ≡ shared
      → G ≡ guest
      → ((j : ℕ) → given_at (given vms shared guest own) j ≡ held j)
      → (g : GhostLists)
      → ghost_state g ≡ recorded (given V S G own) l
      → layout_of g.layout ≡ l
      → IsRecordOf l held own g
  record_of l held own vms shared guest a b d all g state layout = record {
    parts = given vms shared guest own;
    all = all;
    own_is = refl;
    state = state ∙ (λ i. recorded (given (a i) (b i) (d i) own) l);
    layout = layout;
  }

-- a stored call that a recorder made is judged
pub judged_of : {A J : Type 0} (takes : J → Asked → J → Type 0)
    → StepsAgree
    → (step : Step) (reply : Reply) (v w : Known) (from to : J)
    → IsMade (AsksOnce {A = A} takes) step reply v w from to
    → IsJudged A takes step reply v w from to
judged_of takes law step reply v w from to m = record {
  made = m;
  agrees = if_some m.told.asked.states (λ s r.
      subst (λ (z : Step × Reply). JudgeAgrees (contents_in s.0) z.0 z.1 (contents_in s.1) (told_of s.0 v.cpu z.0))
      (λ i. ((m.call_is i).step, (m.call_is i).reply))
      (agrees
      (layout_of v.layout) law m.call v.cpu m.before m.after v.own w.own s.0 s.1 (ap (λ (c : Call). c.cpu) m.call_is)
      m.left m.only m.does r.0 r.1)) m.told.states;
}

-- what a judge was asked, by two records
module _ {E : Type 0} (pre post : Result GhostLists E) where
  both_states : (P Q : GhostLists → Type 0) (pre post : Result GhostLists E)
      → IfOk pre P
      → IfOk post Q
      → IfSome (both_in pre post) (λ s. P s.0 × Q s.1)
  both_states P Q (Ok a) (Ok b) h k = (h, k)
  both_states P Q (Ok a) (Err e) h k = tt
  both_states P Q (Err e) other h k = tt

  pub asks_of : {A J : Type 0} (takes : J → Asked → J → Type 0) (l : TheLayout) (before after : ℕ → Option (Slot A))
      (own owned : CpuState) (c : Call) (from to : J)
      → takes from (record { cpu = c.cpu; step = c.step; reply = c.reply; states = both_in pre post }) to
      → IfOk pre (IsRecordOf (layout_of l) before own)
      → IfOk post (IsRecordOf (layout_of l) after owned)
      → AsksOnce takes l before own c after owned from to
  asks_of takes l before after own owned c from to t h k =
      record {
        asked = record { cpu = c.cpu; step = c.step; reply = c.reply; states = both_in pre post };
        takes_it = t;
        cpu = refl;
        step = refl;
        reply = refl;
        states = both_states _ _ pre post h k;
      }

  -- the CPU is one of the record's layout
  pub known_in : {A : Type 0} (l : TheLayout) (cpu : ℕ) (before : ℕ → Option (Slot A)) (own : CpuState)
      → cpu < l.config.cpus
      → IfOk pre (IsRecordOf (layout_of l) before own)
      → IfOk pre (λ a. cpu < a.layout.config.cpus)
  known_in l cpu before own known h =
      if_ok pre (λ a r. subst (λ (m : Layout). cpu < m.config.cpus) (sym r.layout) known) h

  -- and the generation after that of its CPU's ticket is a number of 64 bits
  pub next_known : {A : Type 0} (l : TheLayout) (cpu : ℕ) (step : Step) (before : ℕ → Option (Slot A)) (own : CpuState)
      → own.id ≡ cpu
      → HasNextGeneration (cpu_of own).ticket step
      → IfOk pre (IsRecordOf (layout_of l) before own)
      → IfOk pre (λ a. HasNextGeneration ((contents_in a).cpu cpu).ticket step)
  next_known l cpu step before own by next h =
      if_ok pre (λ a r. subst (λ (k : Cpu). HasNextGeneration k.ticket step) (sym (
      ap (λ (s : Reference). s.contents.cpu cpu) r.state
      ∙ (ap (λ (k : CpuState). if cpu == k.id then cpu_of k else no_cpu) r.own_is
      ∙ ap (λ b. if b then cpu_of own else no_cpu) (ap (λ n. cpu == n) by ∙ eq-self cpu)))) next) h
