-- The steps that read a guest's pool: from a legal state, and from the state of the judge in which the guest has the
-- same pool.
use Rattle.std.proofs.Common.{◌≡◌, ◌≢◌, ℕ, suc, ◌+◌, ◌≤◌, [], ◌∷◌, length, refl, ap, sym, ◌∙◌, subst, arith}
use Rattle.std.specs.Prelude.{◌↔◌, ◌&&◌, Bool, true, false, Option, Some, None, IsTrue, nat_lt, unwrap_or}
use Rattle.call_table.specs.declared.reply.Reply.{Reply}
use Rattle.call_table.specs.declared.step.Step.{Step}
use Rattle.call_table.specs.declared.step.Step.TheVariants.{Topup, ReclaimPool, FinishGuest}
use Rattle.call_table.specs.declared.step.VmId.{VmId}
use Rattle.page_state.proofs.Common.{eq-self}
use Rattle.page_state.proofs.Counts.{count_next}
use Rattle.page_state.specs.Counts.{frame_count, is_one}
use Rattle.page_state.specs.Layouts.{Layout, is_memory}
use Rattle.page_state.specs.Map.{Map}
use Rattle.page_state.specs.Trees.{Pool}
use Rattle.reference_model.proofs.conditions.Keeps.{stage-slot}
use Rattle.reference_model.proofs.conditions.RangeMoves.{one-within}
use Rattle.reference_model.proofs.conditions.SoundOf.{in_vm-is, one-true}
use Rattle.reference_model.proofs.conditions.Tables.{uses-some, uses_of}
use Rattle.reference_model.proofs.conditions.Tests.{tested}
use Rattle.reference_model.specs.claims.Sound.{StageFits}
use Rattle.reference_model.specs.declared.changes.Stage.TheVariants.{Dying as dying_vm}
use Rattle.reference_model.specs.help.Conditions.{guest_uses, in_shared, in_vm, one, table_uses, IsUsable}
use Rattle.reference_model.specs.model.GuestRules.{least}
use Rattle.reference_model.specs.model.Parts.{lacks_slot, shared_and_guest, ticket_slot, uses_shared}
use Rattle.reference_model.specs.model.Rule.{Rule}
use Rattle.reference_model.specs.model.Rules.{guest_slot, names, rule}
use Rattle.reference_model.specs.model.State.{Contents, dying, empty}
use Rattle.reference_model.specs.model.Step.{first_test, is_touched, rule_of}
use Rattle.reference_model.specs.model.Used.{Used, guest_at, used_of}
use Rattle.freedoms.specs.Ample.{asks_pool, is_by_order, predict_step_amply, AnswersAmply, StepsAmply}
use Rattle.freedoms.specs.AnyTrees.{LegalInAnyTrees}
use Rattle.freedoms.specs.declared.Freedoms.{Freedoms}
use Rattle.freedoms.specs.Freedoms.{view, Alike, CountsAs, JudgedWith, Touches}
use Rattle.freedoms.proofs.Gone.{IsApart}
use Rattle.freedoms.proofs.Loose.{loose-topup, pooled-shared}
use Rattle.freedoms.proofs.More.{viewed}
use Rattle.freedoms.proofs.OwnRows.{apart-of, used-apart}
use Rattle.freedoms.proofs.Seen.{down, up, Agrees}
use Rattle.freedoms.proofs.Twins.{steps_of_any}
use Rattle.freedoms.proofs.Views.{view_used}
use Rattle.free_judge.specs.Freely.{AgreesFreely, IsReady}
use Rattle.free_judge.specs.Laws.{HasLowMemory}
use Rattle.free_judge.specs.PoolByRows.{frame_named, may_hold, may_lack_free, pool_frames, IsAskedOf, IsHeld}
use Rattle.free_judge.proofs.Halves.{packed-half, rule-half, twin-half, used-view, IsLoose}
use Rattle.free_judge.proofs.PoolStands.{asked-alike, asked-apart, asked-from, no-read, stands, Stands}

pub first-free : (xs : Pool) → nat_lt 0 (length xs) ≡ true → 1 ≤ frame_count (least xs) xs
first-free [] h = cc
first-free (g ∷ gs) h = let next = count_next g g gs in let here : is_one g g ≡ 1 = ap one (eq-self g) in omega arith

-- the frames that such a step touches in a legal state are in no pool of the Shared part

module _ (l : Layout) (s : Contents) (legal : LegalInAnyTrees l s) (cpu : ℕ) where
  abbrev x_at : Option ℕ → Step → Used
  x_at slot step = used_of (names step) slot cpu s

  pooled-apart : (v f : ℕ) → 1 ≤ guest_uses l.depth (s.guest v) f → IsApart s.shared f
  pooled-apart v f some =
      apart-of l s legal f
      (ap in_shared
      (in_vm-is v (legal.state.frames.condition f)
      (one-true (in_vm v (legal.state.frames.condition f)) (guest_uses l.depth (s.guest v) f) some
      (legal.state.frames.held.vm v f))))

  abbrev Loose : Option ℕ → Step → Type 0
  Loose slot step = IsLoose l cpu slot step (x_at slot step) (x_at slot step)

  -- a step that lacks its slot isn't made
  lacking : {P : Type 0} (r : Rule) → first_test r true ≡ None → P
  lacking r h = let bad : true ≡ false = (tested r true h).lacks_none in cc

  topup-loose : (vm : VmId) (slot : Option ℕ) → Loose slot (Topup vm)
  unfolding used_of
  topup-loose vm slot h f m t =
      used-apart f (uses_shared shared_and_guest slot) s.shared
      (apart-of l s legal f
      (pooled-shared (legal.state.frames.condition f) (loose-topup l s legal cpu vm slot h f m t)))

  reclaim-loose : (vm : VmId) (slot : Option ℕ) → Loose slot (ReclaimPool vm)
  unfolding rule used_of
  reclaim-loose vm None h f m t = lacking (rule_of l cpu None (ReclaimPool vm) (x_at None (ReclaimPool vm))) h
  reclaim-loose vm (Some v) h f m t =
      let p =
      tested (rule_of l cpu (Some v) (ReclaimPool vm) (x_at (Some v) (ReclaimPool vm)))
      (lacks_slot shared_and_guest (Some v)) h in
      let free = (s.guest v).free in
      let at : least free ≡ f = one-within (least free) f t in
      let some = first-free free p.allowed in
      subst (IsApart s.shared) at (pooled-apart v (least free) (omega arith))

  pub dying-alive : (v : ℕ) → ticket_slot dying_vm (s.cpu cpu) ≡ Some v → (s.guest v).phase ≢ empty
  dying-alive v h =
      let k = stage-slot dying_vm (s.cpu cpu) v h in
      let fits = (legal.state.slots.agree.tickets.ticket cpu k.0 k.1).fits in
      let phase : (s.guest k.0.vm.slot).phase ≡ dying =
      (subst (λ stage. StageFits stage (s.vms.slot k.0.vm.slot).stand (s.guest k.0.vm.slot).phase) k.3 fits).1 in
      let here : (s.guest v).phase ≡ dying = sym (ap (λ n. (s.guest n).phase) k.2) ∙ phase in
      λ z. let bad : empty ≡ dying = sym z ∙ here in cc

  finish-loose : (slot : Option ℕ) → ticket_slot dying_vm (s.cpu cpu) ≡ slot → Loose slot FinishGuest
  unfolding rule used_of table_uses uses_of
  finish-loose None named h f m t = lacking (rule_of l cpu None FinishGuest (x_at None FinishGuest)) h
  finish-loose (Some v) named h f m t =
      let root = legal.state.guest_parts.rooted v (dying-alive v named) in
      let some =
      uses-some l.depth root.0 (l.depth + 1, 0) (s.guest v).tree.table
      (legal.state.inside (suc (suc v)) (l.depth + 1, 0) root.0 root.1) root.1 in
      let at : root.0 ≡ f =
      sym (ap (λ o. unwrap_or o 0) root.1)
      ∙ one-within (unwrap_or ((s.guest v).tree.table (l.depth + 1, 0)) 0) f t in
      subst (IsApart s.shared) at (pooled-apart v root.0 (omega arith))

  pub loose : (step : Step)
      → asks_pool step ≡ true
      → (slot : Option ℕ)
      → guest_slot (s.cpu cpu) step ≡ slot
      → Loose slot step
  loose (Topup vm) h slot e = topup-loose vm slot
  loose (ReclaimPool vm) h slot e = reclaim-loose vm slot
  loose FinishGuest h slot e = finish-loose slot e
  loose step h slot e = cc

-- a step of the one is a step of the other

module _ (w : Freedoms) (l : Layout) (s r : Contents) (cpu : ℕ) (step : Step) (legal : LegalInAnyTrees l s)
    (asks : asks_pool step ≡ true) (e : Alike w l s r)
    (g : guest_at s.guest (guest_slot (s.cpu cpu) step) ≡ guest_at r.guest (guest_slot (s.cpu cpu) step))
    (bare : (f : ℕ) → IsApart r.shared f) where
  abbrev at : Option ℕ
  at = guest_slot (s.cpu cpu) step

  abbrev x : Used
  x = used_of (names step) at cpu s

  abbrev z : Used
  z = used_of (names step) at cpu r

  seen : view_used w l x ≡ view_used w l z
  seen = used-view w l (names step) at cpu s r e

  guests : x.guest ≡ z.guest
  unfolding used_of
  guests = g

  same : rule_of l cpu at step x ≡ rule_of l cpu at step z
  same = rule-half w l cpu at step x z asks seen guests

  left : IsLoose l cpu at step x x
  left = loose l s legal cpu step asks at refl

  right : IsLoose l cpu at step x z
  unfolding used_of
  right h f m t = used-apart f (uses_shared (names step) at) r.shared (bare f)

  By : Rule → Used → Type 0
  By k u =
      first_test k (lacks_slot (names step) at) ≡ None
      → (f : ℕ)
      → is_memory l f ≡ true
      → is_touched k.changes f ≡ true
      → IsApart u.shared f

  left-back : IsLoose l cpu at step z x
  unfolding By
  left-back = subst (λ k. By k x) same left

  right-back : IsLoose l cpu at step z z
  unfolding By
  right-back = subst (λ k. By k z) same right

  pub forth : (reply : Reply) (t : Contents)
      → StepsAmply l s cpu step reply t
      → (u : Contents) × StepsAmply l r cpu step reply u × Alike w l t u
  forth reply t p =
      packed-half w l s r cpu step reply e (twin-half w l cpu at step x z seen guests same left right reply) t p

  Twinned : Reply → Option ℕ → Type 0
  Twinned reply o =
      (y : Used)
      → AnswersAmply l cpu o step (used_of (names step) o cpu r) reply y
      → (u : Used)
      × AnswersAmply l cpu o step (used_of (names step) o cpu s) reply u
      × (view_used w l y ≡ view_used w l u)

  twinned : (reply : Reply) → Twinned reply at
  unfolding Twinned
  twinned reply =
      twin-half w l cpu at step z x (sym seen) (sym guests) (sym same) right-back left-back reply

  pub back : (reply : Reply) (u : Contents)
      → StepsAmply l r cpu step reply u
      → (t : Contents) × StepsAmply l s cpu step reply t × Alike w l u t
  unfolding Twinned
  back reply u p =
      let there : at ≡ guest_slot (r.cpu cpu) step = ap (λ (c : Contents). guest_slot (c.cpu cpu) step) e in
      packed-half w l r s cpu step reply (sym e) (subst (Twinned reply) there (twinned reply)) u p

-- the judgement

pub no-abort : (step : Step) (reply : Reply) (after : Contents) → asks_pool step ≡ true → Touches step reply after
no-abort step reply after asks p e done = let bad : true ≡ false = sym asks ∙ ap asks_pool e in cc

-- no frame may be held
pub unheld : (w : Freedoms) (step : Step) (reply : Reply) (m : Map) (b : Bool)
    → (IsHeld w step reply m → ⊥)
    → IsTrue b ↔ IsHeld w step reply m
    → b ≡ false
unheld w step reply m true none h = absurd (none (h.0 refl))
unheld w step reply m false none h = refl

no-lack : (w : Freedoms) (step : Step) (reply : Reply)
    → asks_pool step ≡ true
    → is_by_order step ≡ false
    → may_lack_free w step reply ≡ false
no-lack w (Topup vm) reply h k = refl
no-lack w (ReclaimPool vm) reply h k = cc
no-lack w FinishGuest reply h k = refl
no-lack w step reply h k = cc

module _ (w : Freedoms) (l : Layout) (before : Contents) (cpu : ℕ) (step : Step) (reply : Reply)
    (after ready : Contents)
    (usable : IsUsable l) (low : HasLowMemory l) (asks : asks_pool step ≡ true)
    (from : IsReady w l before cpu step reply ready) where
  -- of a legal state like the one before
  module _ (s : Contents) (legal : LegalInAnyTrees l s) (begins : Alike w l before s) where
    abbrev slot_of_guest : Option ℕ
    slot_of_guest = guest_slot (s.cpu cpu) step

    pub asked : IsAskedOf w l (view w l s) slot_of_guest step reply ready
    asked = asked-from w l before s cpu step reply ready asks begins from

    pub ready-alike : Alike w l s ready
    ready-alike = asked-alike w l s step reply ready slot_of_guest asked

    pub whole : Alike w l before ready
    whole = begins ∙ ready-alike

    pub apart : (f : ℕ) → IsApart ready.shared f
    apart = asked-apart w l s step reply ready slot_of_guest asked

    -- agreement is of a step from a legal state with that pool
    pub judged-by : Stands l s slot_of_guest ready
        → AgreesFreely w l before step reply after (predict_step_amply l ready cpu step)
        → JudgedWith w l before cpu step reply after
    unfolding Agrees
    judged-by st h =
        let k = up w l before ready cpu step reply after whole h.agrees in
        let own = viewed w l s st.state st.own in
        let slots : slot_of_guest ≡ guest_slot (st.state.cpu cpu) step =
        ap (λ (c : Contents). guest_slot (c.cpu cpu) step) st.own in
        let guest = subst (λ o. guest_at st.state.guest o ≡ guest_at ready.guest o) slots st.guest in
        let b =
        back w l st.state ready cpu step st.legal asks (sym own ∙ ready-alike) guest apart k.told k.next k.steps in
        record {
          state = st.state;
          next = b.0;
          told = k.told;
          begins = begins ∙ own;
          itself = λ r. let bad : false ≡ true = sym (no-read step asks) ∙ r in cc;
          legal = st.legal;
          steps = b.1;
          says = k.says;
          ends = sym b.2 ∙ k.ends;
          mapped = λ lazy. no-abort step reply after asks;
        }

    -- and a step from that legal state agrees
    pub agrees-by : (st : Stands l s slot_of_guest ready) (told : Reply) (next : Contents)
        → StepsAmply l st.state cpu step told next
        → CountsAs w told reply
        → Alike w l next after
        → AgreesFreely w l before step reply after (predict_step_amply l ready cpu step)
    unfolding Agrees
    agrees-by st told next steps says ends =
        let own = viewed w l s st.state st.own in
        let slots : slot_of_guest ≡ guest_slot (st.state.cpu cpu) step =
        ap (λ (c : Contents). guest_slot (c.cpu cpu) step) st.own in
        let guest = subst (λ o. guest_at st.state.guest o ≡ guest_at ready.guest o) slots st.guest in
        let a =
        forth w l st.state ready cpu step st.legal asks (sym own ∙ ready-alike) guest apart told next steps in
        record {
          agrees = down w l before ready cpu step reply after whole a.0 told a.1 says (sym a.2 ∙ ends);
          mapped = λ lazy. no-abort step reply after asks;
        }

    stands-at : (slot : Option ℕ)
        → IsAskedOf w l (view w l s) slot step reply ready
        → may_lack_free w step reply ≡ false
        → Stands l s slot ready
    stands-at None h lack = record { state = s; legal = legal; own = refl; guest = refl }
    stands-at (Some v) h lack =
        let none =
        unheld w step reply ((view w l s).guest v).tree.map h.held
        (λ k. let bad : false ≡ true = sym lack ∙ k.0 in cc) h.held_is in
        stands w l s legal low v (frame_named step reply) h.held ready h.ready_is
        (ap (λ b. b && may_hold l.depth (pool_frames l s v)) none)

    pub stands-here : may_lack_free w step reply ≡ false → Stands l s slot_of_guest ready
    stands-here lack = stands-at slot_of_guest asked lack

-- topup and finish_guest
pub counted_judged : (w : Freedoms) (l : Layout) (before legal : Contents) (cpu : ℕ) (step : Step) (reply : Reply)
    (after ready : Contents)
    → IsUsable l
    → HasLowMemory l
    → Alike w l before legal
    → LegalInAnyTrees l legal
    → asks_pool step ≡ true
    → is_by_order step ≡ false
    → IsReady w l before cpu step reply ready
    → AgreesFreely w l before step reply after (predict_step_amply l ready cpu step)
    ↔ JudgedWith w l before cpu step reply after
counted_judged w l before legal cpu step reply after ready usable low begins is asks order from =
    let lack = no-lack w step reply asks order in (
      λ h. judged-by w l before cpu step reply after ready usable low asks from legal is begins
          (stands-here w l before cpu step reply after ready usable low asks from legal is begins lack) h,
      λ j.
          let st =
          stands-here w l before cpu step reply after ready usable low asks from j.state j.legal j.begins lack in
          let any =
          steps_of_any l j.state st.state cpu step j.told j.next usable j.legal st.legal st.own order j.steps in
          agrees-by w l before cpu step reply after ready usable low asks from j.state j.legal j.begins st j.told any.0
          any.1 j.says (sym (viewed w l j.next any.0 any.2) ∙ j.ends),
    )
