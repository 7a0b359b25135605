-- Isolation of Live guests.
use Rattle.std.proofs.Common.{◌≡◌, ◌≢◌, ℕ, zero, suc, ◌+◌, ◌-◌, refl, ap, sym, ◌∙◌, subst, arith, inl, inr}
use Rattle.std.specs.Prelude.{Bool, true, false, not, ◌&&◌, ◌||◌, ◌==◌, ◌⊎◌, Option, Some, None}
use Rattle.descriptor.specs.declared.Prot.{Prot}
use Rattle.descriptor.specs.declared.Prot.TheVariants.{RWX}
use Rattle.descriptor.specs.declared.State.{State}
use Rattle.descriptor.specs.declared.State.TheVariants.{Owned, SharedOwned, SharedBorrowed}
use Rattle.reference_model.specs.declared.changes.Stage.TheVariants.{Booked, Dying}
use Rattle.reference_model.specs.declared.changes.Ticket.{Ticket}
use Rattle.page_state.specs.declared.entry.Entry.{Entry}
use Rattle.page_state.specs.declared.entry.Entry.TheVariants.{Unmapped, Leaf}
use Rattle.call_table.specs.declared.reply.Reply.{Reply}
use Rattle.page_state.specs.declared.row.Row.{Row}
use Rattle.call_table.specs.declared.step.Step.{Step}
use Rattle.call_table.specs.declared.step.Step.TheVariants.{ShareHyp, UnshareHyp, DonateHyp, HypDonateHost, HostAbort, HostTranslate, HypTranslate, OwnerOf, Fund, Unfund, ShareGuest, UnshareGuest, DonateGuest, GuestShareHost, GuestUnshareHost, Install, Topup, ReclaimPage, ReclaimPool, FinishGuest, GuestRelax, GuestTranslate, MarkDying, VmReserve, VmOpen, VcpuLoad, VcpuPut, Teardown, VmRelease}
use Rattle.call_table.specs.declared.step.VmId.{VmId}
use Rattle.reference_model.specs.help.Conditions.{Condition, outside, hosts, with_hyp, hyps, with_guest, guests, lent_back, HostFits, hyp_entry_by, guest_condition, Legal, IsUsable, row_in}
use Rattle.page_state.specs.Entries.{advance}
use Rattle.page_state.specs.EntryTests.{is_in, is_free_page, with_rights, is_unmapped, leaf, entry_frame, state_eq, with_state}
use Rattle.reference_model.specs.model.GuestRules.{is_guest, phase_eq, is_protected}
use Rattle.reference_model.specs.claims.Isolation.{PageStays, Isolated, RunIsolated, OthersKeptOut, RunKeptOut, SharesWithHost}
use Rattle.page_state.specs.Layouts.{Layout, hyp_page}
use Rattle.page_state.specs.Map.{Map, update, is_within}
use Rattle.page_state.specs.Search.{all_below}
use Rattle.reference_model.specs.model.Parts.{loaded_slot, lacks_slot}
use Rattle.reference_model.specs.model.Rules.{rule, names, guest_slot}
use Rattle.reference_model.specs.model.Rule.{Rule}
use Rattle.reference_model.specs.claims.Sound.{owner, IsLeafOf, Maps, Holds, HasLoaded}
use Rattle.reference_model.specs.model.State.{Guest, empty, live, dying, Contents, Reference}
use Rattle.reference_model.specs.model.Step.{fails, made, Answered, guest_after, changed, with_rows, used_by}
use Rattle.page_state.specs.Tables.{edited}
use Rattle.reference_model.specs.model.Used.{Used, used_of, put_back, put_guest}
use Rattle.page_state.proofs.Cases.{by_lt}
use Rattle.page_state.proofs.Common.{both, if-true, if-false, and-both, eq-same, eq-self, same2, and-right}
use Rattle.reference_model.proofs.conditions.Keeps.{legal_keeps, loaded-slot, stage-slot}
use Rattle.reference_model.proofs.conditions.OfLegal.{legal_rows, leaf-maps}
use Rattle.reference_model.proofs.conditions.PageMoves.{advance-none}
use Rattle.reference_model.proofs.conditions.RunsLegal.{ready-usable, run_legal}
use Rattle.reference_model.proofs.conditions.Slots.{ticket-fits}
use Rattle.reference_model.proofs.conditions.RangeMoves.{one-within, second-all}
use Rattle.reference_model.proofs.conditions.Tests.{Passed, passed}
use Rattle.reference_model.proofs.conditions.SoundOf.{two-more, holds-state, leaf-is}

-- the guest has the frame as its own at the page: a leaf in state Owned or SharedOwned
record OwnsAt (s : Contents) (v g f : ℕ) : Type 0 where
  prot : Prot
  state : State
  leaf_is : (s.guest v).tree.map g ≡ leaf prot f state
  own : state ≢ SharedBorrowed

owns-at : (l : Layout) (s : Contents) (v g f : ℕ) → Legal l s → Holds s (2 + v) g f → OwnsAt s v g f
owns-at l s v g f legal h =
    holds-state s (2 + v) g f h (λ state m n. from-leaf state n (subst (λ c. Maps s c g f state) (two-more v) m))
  where
    from-leaf : (state : State) → state ≢ SharedBorrowed → IsLeafOf f state ((s.guest v).tree.map g) → OwnsAt s v g f
    from-leaf state n m = elim (legal.maps.guest v g) [
      | inl h ↦ absurd (subst (IsLeafOf f state) h m)
      | inr h ↦
          (let k = subst (IsLeafOf f state) h.leaf_is m in
          record { prot = h.prot; state = state; leaf_is = h.leaf_is ∙ same2 (leaf h.prot) k.0 k.1; own = n })
    ]

-- the entry of another page stays
off-page : (m : Map) (g p : ℕ) (e : Entry) → (g ≡ p → ⊥) → update m g 1 e p ≡ m p
off-page m g p e n = elim (both (is_within g 1 p)) [
  | inl w ↦ absurd (n (one-within g p w))
  | inr w ↦ if-false (is_within g 1 p) (advance e (p - g)) (m p) w
]

-- and so does that of a page beside a range
off-range : (m : Map) (g n p : ℕ) (e : Entry) → (is_within g n p ≡ true → ⊥) → update m g n e p ≡ m p
off-range m g n p e out = elim (both (is_within g n p)) [
  | inl w ↦ absurd (out w)
  | inr w ↦ if-false (is_within g n p) (advance e (p - g)) (m p) w
]

-- the entry of the page itself
on-page : (m : Map) (g p : ℕ) (e : Entry) → is_within g 1 p ≡ true → update m g 1 e p ≡ e
on-page m g p e w =
    if-true (is_within g 1 p) (advance e (p - g)) (m p) w ∙ ap (λ n. advance e (p - n)) (one-within g p w)
    ∙ advance-none e p

state_eq-is : (a b : State) → state_eq a b ≡ true → a ≡ b
state_eq-is Owned Owned h = refl
state_eq-is SharedOwned SharedOwned h = refl
state_eq-is SharedBorrowed SharedBorrowed h = refl
state_eq-is a b h = cc

some-slot : {a b : ℕ} → Some a ≡ Some b → a ≡ b
some-slot h = cc

no-slot : {P : Type 0} {a : ℕ} → None ≡ Some a → P
no-slot h = cc

module _ (l : Layout) (s : Contents) (legal : Legal l s) (cpu v g f : ℕ) (alive : (s.guest v).phase ≡ live)
    (owns : OwnsAt s v g f) where
  e : Entry
  e = (s.guest v).tree.map g

  -- each page of a range of the host is free, and the guest's page of it is unmapped
  abbrev given_at : ℕ → ℕ → ℕ → Bool
  given_at q p n =
      all_below n (λ i. is_free_page (s.shared.host.map (q + i)) && is_unmapped ((s.guest v).tree.map (p + i)))

  -- the page isn't one of the unmapped ones, nor one that is borrowed
  not-given : (kind : Bool) (q p n : ℕ) → (kind && given_at q p n) ≡ true → is_within p n g ≡ true → ⊥
  not-given kind q p n h w =
      let t : is_unmapped ((s.guest v).tree.map g) ≡ true =
      second-all q p n (λ k. is_free_page (s.shared.host.map k)) (λ k. is_unmapped ((s.guest v).tree.map k))
      (and-right kind (given_at q p n) h) g w in
      let bad : false ≡ true = sym (ap is_unmapped owns.leaf_is) ∙ t in cc

  not-borrowed : (p : ℕ) → is_in SharedBorrowed ((s.guest v).tree.map p) ≡ true → p ≡ g → ⊥
  not-borrowed p h same =
      owns.own
      (state_eq-is owns.state SharedBorrowed
      (sym (ap (is_in SharedBorrowed) (ap (s.guest v).tree.map same ∙ owns.leaf_is)) ∙ h))

  not-dying : (vm : VmId) → is_guest dying vm (s.guest v) ≡ true → ⊥
  not-dying vm h =
      let t = (and-both (phase_eq (s.guest v).phase dying) ((s.guest v).generation == vm.generation) h).0 in
      let bad : false ≡ true = sym (ap (λ p. phase_eq p dying) alive) ∙ t in cc

  not-booked : (t : Ticket) → (s.cpu cpu).ticket ≡ Some t → t.vm.slot ≡ v → t.stage ≡ Booked → ⊥
  not-booked t has at stage = let bad : live ≡ empty =
      sym alive ∙ (ticket-fits s legal.slots cpu v Booked t has at stage).1 in
      cc

  not-ending : (t : Ticket) → (s.cpu cpu).ticket ≡ Some t → t.vm.slot ≡ v → t.stage ≡ Dying → ⊥
  not-ending t has at stage = let bad : live ≡ dying =
      sym alive ∙ (ticket-fits s legal.slots cpu v Dying t has at stage).1 in
      cc

  abbrev x_at : Step → Used
  x_at step = used_of (names step) (Some v) cpu s

  abbrev h_at : Step → Rule
  h_at step = rule l cpu (Some v) step (x_at step)

  -- the entry after a made step on the guest
  abbrev after_at : Step → Entry
  after_at step = (guest_after l.depth (h_at step).changes (s.guest v)).tree.map g

  -- it stays, or the guest itself changes its state
  abbrev Stands : Step → Type 0
  Stands step =
      (after_at step ≡ e)
      ⊎ (((step ≡ GuestShareHost g) × (after_at step ≡ with_state SharedOwned e))
      ⊎ ((step ≡ GuestUnshareHost g) × (after_at step ≡ with_state Owned e)))

  pass : (step : Step)
      → fails l cpu (Some v) step (x_at step) ≡ None
      → Passed l.depth (h_at step) (lacks_slot (names step) (Some v)) (x_at step)
  unfolding fails
  pass step h = passed l.depth (h_at step) (lacks_slot (names step) (Some v)) (x_at step) h

  page-after : (step : Step)
      → Some v ≡ guest_slot (s.cpu cpu) step
      → fails l cpu (Some v) step (x_at step) ≡ None
      → Stands step
  unfolding rule guest_after edited used_of e
  page-after (ShareGuest q p r n) at h =
      inl
      (off-range (s.guest v).tree.map p n g (leaf r q SharedBorrowed)
      (not-given (not (is_protected (s.guest v).kind)) q p n (pass (ShareGuest q p r n) h).allowed))
  page-after (UnshareGuest vm p) at h =
      inl (off-page (s.guest v).tree.map p g Unmapped (not-borrowed p (pass (UnshareGuest vm p) h).allowed))
  page-after (DonateGuest q p n) at h =
      inl
      (off-range (s.guest v).tree.map p n g (leaf RWX q Owned)
      (not-given (is_protected (s.guest v).kind) q p n (pass (DonateGuest q p n) h).allowed))
  page-after (GuestShareHost p) at h = elim (both (is_within p 1 g)) [
    | inl w ↦ inr
        (inl (
          ap GuestShareHost (one-within p g w),
          on-page (s.guest v).tree.map p g (with_state SharedOwned ((s.guest v).tree.map p)) w
              ∙ ap (λ n. with_state SharedOwned ((s.guest v).tree.map n)) (one-within p g w),
        ))
    | inr w ↦ inl
        (if-false (is_within p 1 g) (advance (with_state SharedOwned ((s.guest v).tree.map p)) (g - p))
        ((s.guest v).tree.map g) w)
  ]
  page-after (GuestUnshareHost p) at h = elim (both (is_within p 1 g)) [
    | inl w ↦ inr
        (inr (
          ap GuestUnshareHost (one-within p g w),
          on-page (s.guest v).tree.map p g (with_state Owned ((s.guest v).tree.map p)) w
              ∙ ap (λ n. with_state Owned ((s.guest v).tree.map n)) (one-within p g w),
        ))
    | inr w ↦ inl
        (if-false (is_within p 1 g) (advance (with_state Owned ((s.guest v).tree.map p)) (g - p))
        ((s.guest v).tree.map g) w)
  ]
  page-after Install at h = let t = stage-slot Booked (s.cpu cpu) v (sym at) in absurd (not-booked t.0 t.1 t.2 t.3)
  page-after (Topup vm) at h = inl refl
  page-after (ReclaimPage vm p) at h = absurd (not-dying vm (pass (ReclaimPage vm p) h).has_vm)
  page-after (ReclaimPool vm) at h = inl refl
  page-after FinishGuest at h = let t = stage-slot Dying (s.cpu cpu) v (sym at) in absurd (not-ending t.0 t.1 t.2 t.3)
  page-after (GuestRelax p r) at h =
      inl
      (off-page (s.guest v).tree.map p g (with_rights r ((s.guest v).tree.map p))
      (not-borrowed p (pass (GuestRelax p r) h).allowed))
  page-after (GuestTranslate vm p) at h = inl refl
  page-after MarkDying at h = inl refl
  page-after (ShareHyp q) at h = no-slot (sym at)
  page-after (UnshareHyp q) at h = no-slot (sym at)
  page-after (DonateHyp q n) at h = no-slot (sym at)
  page-after (HypDonateHost q n) at h = no-slot (sym at)
  page-after (HostAbort p) at h = no-slot (sym at)
  page-after (HostTranslate p) at h = no-slot (sym at)
  page-after (HypTranslate p) at h = no-slot (sym at)
  page-after (OwnerOf q) at h = no-slot (sym at)
  page-after (Fund q n) at h = no-slot (sym at)
  page-after Unfund at h = no-slot (sym at)
  page-after (VmReserve kind vcpus) at h = no-slot (sym at)
  page-after VmOpen at h = no-slot (sym at)
  page-after (VcpuLoad vm i) at h = no-slot (sym at)
  page-after VcpuPut at h = no-slot (sym at)
  page-after (Teardown vm) at h = no-slot (sym at)
  page-after VmRelease at h = no-slot (sym at)

  Stood : Step → Entry → Type 0
  Stood step n =
      (n ≡ e)
      ⊎ (((step ≡ GuestShareHost g) × (n ≡ with_state SharedOwned e))
      ⊎ ((step ≡ GuestUnshareHost g) × (n ≡ with_state Owned e)))

  -- the entry in what an answered call leaves
  entry-after : (step : Step)
      → Some v ≡ guest_slot (s.cpu cpu) step
      → (reply : Reply) (y : Used)
      → (y ≡ x_at step) ⊎ Answered l cpu (Some v) step true (x_at step) reply y
      → Stood step (y.guest.tree.map g)
  unfolding Stood made with_rows changed used_of e
  entry-after step at reply y (inl h) = inl (ap (λ (z : Used). z.guest.tree.map g) h)
  entry-after step at reply y (inr (inl p)) =
      subst (λ (z : Used). Stood step (z.guest.tree.map g)) (sym p.next) (page-after step at p.passes)
  entry-after step at reply y (inr (inr (inl p))) = inl (ap (λ (z : Used). z.guest.tree.map g) p.next)
  entry-after step at reply y (inr (inr (inr p))) = inl (ap (λ (z : Used). z.guest.tree.map g) p.next)

  loaded-by : (step other : Step)
      → Some v ≡ guest_slot (s.cpu cpu) step
      → step ≡ other
      → guest_slot (s.cpu cpu) other ≡ loaded_slot (s.cpu cpu)
      → (i : ℕ) × HasLoaded s v i cpu
  loaded-by step other at same on = let j =
      loaded-slot (s.cpu cpu) v (sym (at ∙ ap (guest_slot (s.cpu cpu)) same ∙ on)) in
      (j.0.vcpu, (j.0, j.1, j.2, refl))

  here : (step : Step)
      → Some v ≡ guest_slot (s.cpu cpu) step
      → (reply : Reply) (y : Used)
      → (y ≡ x_at step) ⊎ Answered l cpu (Some v) step true (x_at step) reply y
      → PageStays s (put_back (names step) (Some v) cpu s y) cpu step v g
  unfolding put_back Stood e
  here step at reply y h =
      let is : put_guest s.guest (Some v) y.guest v ≡ y.guest = if-true (v == v) y.guest (s.guest v) (eq-self v) in
      let to : (put_guest s.guest (Some v) y.guest v).tree.map g ≡ y.guest.tree.map g =
      ap (λ (x : Guest). x.tree.map g) is in
      elim (entry-after step at reply y h) [
        | inl p ↦ inl (to ∙ p)
        | inr p ↦ inr (elim p [
          | inl q ↦ record { loaded = loaded-by step (GuestShareHost g) at q.0 refl; made = inl (q.0, to ∙ q.1) }
          | inr q ↦ record { loaded = loaded-by step (GuestUnshareHost g) at q.0 refl; made = inr (q.0, to ∙ q.1) }
        ])
      ]

  page-stays : (step : Step) (slot : Option ℕ)
      → slot ≡ guest_slot (s.cpu cpu) step
      → (reply : Reply) (y : Used)
      → (y ≡ used_of (names step) slot cpu s) ⊎ Answered l cpu slot step true (used_of (names step) slot cpu s) reply y
      → PageStays s (put_back (names step) slot cpu s y) cpu step v g
  unfolding put_back
  page-stays step None at reply y h = inl refl
  page-stays step (Some u) at reply y h = elim (both (v == u)) [
    | inl q ↦ subst
        (λ w. Some w ≡ guest_slot (s.cpu cpu) step
        → (y ≡ used_of (names step) (Some w) cpu s)
        ⊎ Answered l cpu (Some w) step true (used_of (names step) (Some w) cpu s) reply y
        → PageStays s (put_back (names step) (Some w) cpu s y) cpu step v g)
        (eq-same v u q) (λ a k. here step a reply y k) at h
    | inr q ↦ inl (ap (λ (x : Guest). x.tree.map g) (if-false (v == u) y.guest (s.guest v) q))
  ]

-- owners and conditions

owner-named : (f v : ℕ) (c : Condition)
    → (row_in f c).owner.0 ≡ 2 + v
    → (g : ℕ) × ((c ≡ guests v g) ⊎ (c ≡ lent_back v g))
owner-named f v outside h = absurd (omega arith)
owner-named f v hosts h = absurd (omega arith)
owner-named f v with_hyp h = absurd (omega arith)
owner-named f v (hyps usage) h = absurd (omega arith)
owner-named f v (with_guest u g) h = absurd (omega arith)
owner-named f v (guests u g) h = let same : u ≡ v = omega arith in (g, inl (ap (λ n. guests n g) same))
owner-named f v (lent_back u g) h = let same : u ≡ v = omega arith in (g, inr (ap (λ n. lent_back n g) same))

state-in : Entry → State
state-in (Leaf frame prot kind state) = state
state-in other = Owned

leaf-same : (p q : Prot) (f w : ℕ) (a b : State) → leaf p f a ≡ leaf q w b → (f ≡ w) × (a ≡ b)
unfolding state-in
leaf-same p q f w a b h = (ap entry_frame h, ap state-in h)

owned-row : (f v g : ℕ) (c : Condition) (state : State)
    → state ≢ SharedBorrowed
    → c ≡ guest_condition state v g
    → (row_in f c).owner.0 ≡ 2 + v
owned-row f v g c Owned n h = ap (λ d. (row_in f d).owner.0) h
owned-row f v g c SharedOwned n h = ap (λ d. (row_in f d).owner.0) h
owned-row f v g c SharedBorrowed n h = absurd (n refl)

module _ (l : Layout) (s : Contents) (legal : Legal l s) (usable : IsUsable l) (f : ℕ) where
  row-is : owner l s f ≡ (row_in f (legal.condition f)).owner.0
  row-is = ap (λ (r : Row). r.owner.0) (legal_rows l s legal usable f)

  -- a frame of a guest stands at a page of it
  owned-page : (v : ℕ) → owner l s f ≡ 2 + v → (g : ℕ) × OwnsAt s v g f
  owned-page v h =
      let at = owner-named f v (legal.condition f) (sym row-is ∙ h) in
      elim (at.1) [
        | inl k ↦
            (let b = legal.maps.guest_has v at.0 f Owned k in
            (at.0, record { prot = b.0; state = Owned; leaf_is = b.1; own = λ e. cc }))
        | inr k ↦
            (let b = legal.maps.guest_has v at.0 f SharedOwned k in
            (at.0, record { prot = b.0; state = SharedOwned; leaf_is = b.1; own = λ e. cc }))
      ]

  -- and what stands so is the guest's
  owns-owner : (v g : ℕ) → OwnsAt s v g f → owner l s f ≡ 2 + v
  owns-owner v g o = elim (legal.maps.guest v g) [
    | inl h ↦ let bad : Unmapped ≡ leaf o.prot f o.state = sym h ∙ o.leaf_is in cc
    | inr h ↦
        let same = leaf-same o.prot h.prot f h.frame o.state h.state (sym o.leaf_is ∙ h.leaf_is) in
        row-is
        ∙ owned-row f v g (legal.condition f) o.state o.own
        (ap legal.condition same.0 ∙ h.named ∙ ap (λ a. guest_condition a v g) (sym same.1))
  ]

-- a page that stays is still the guest's own
still-owns : (s t : Contents) (cpu : ℕ) (step : Step) (v g f : ℕ)
    → OwnsAt s v g f
    → PageStays s t cpu step v g
    → OwnsAt t v g f
still-owns s t cpu step v g f o (inl h) =
    record { prot = o.prot; state = o.state; leaf_is = h ∙ o.leaf_is; own = o.own }
still-owns s t cpu step v g f o (inr h) = elim (h.made) [
  | inl
      k ↦ record {
        prot = o.prot;
        state = SharedOwned;
        leaf_is = k.1
            ∙ ap (with_state SharedOwned) o.leaf_is;
        own = λ e. cc;
      }
  | inr k ↦ record { prot = o.prot; state = Owned; leaf_is = k.1 ∙ ap (with_state Owned) o.leaf_is; own = λ e. cc }
]

pub isolated : Isolated
unfolding used_of
isolated l s t c v f usable known legal steps alive h =
    let after : (steps.after ≡ used_by c s) ⊎ Answered l c.cpu c.slot c.step true (used_by c s) c.reply steps.after =
    elim (steps.on.answers) [ inl p ↦ inl p.next | inr p ↦ inr p.answered ] in
    let stays-at : (g : ℕ) → OwnsAt s.contents v g f → PageStays s.contents t.contents c.cpu c.step v g =
    λ g o. subst (λ u. PageStays s.contents u c.cpu c.step v g)
    (sym (ap (λ (u : Reference). u.contents) steps.next))
    (page-stays l s.contents legal c.cpu v g f alive o c.step c.slot steps.on.slot c.reply steps.after
    after) in
    let kept = legal_keeps l s t c usable known legal steps in
    let at = owned-page l s.contents legal usable f v h in
    record {
      owner_stays = owns-owner l t.contents kept usable f v at.0
          (still-owns s.contents t.contents c.cpu c.step v at.0 f at.1 (stays-at at.0 at.1));
      page_stays = λ g o. stays-at g (owns-at l s.contents v g f legal o);
    }

pub run_isolated : RunIsolated
run_isolated l cs s t c v f ready known run steps alive h =
    isolated l s t c v f (ready-usable l ready) known (run_legal l cs s ready run) steps alive h

-- what the host maps

host-leaf : (p f : ℕ) (state : State) (c : Condition) (e : Entry)
    → HostFits p c e
    → IsLeafOf f state e
    → (p ≡ f) × ((u g : ℕ) → c ≡ guests u g → ⊥)
host-leaf p f state outside e (inl h) m = absurd (subst (IsLeafOf f state) h m)
host-leaf p f state outside e (inr h) m = let k = subst (IsLeafOf f state) h m in (k.0, λ u g z. cc)
host-leaf p f state hosts e (inl h) m = absurd (subst (IsLeafOf f state) h m)
host-leaf p f state hosts e (inr h) m = let k = subst (IsLeafOf f state) h m in (k.0, λ u g z. cc)
host-leaf p f state with_hyp e h m = let k = subst (IsLeafOf f state) h m in (k.0, λ u g z. cc)
host-leaf p f state (hyps usage) e h m = absurd (subst (IsLeafOf f state) h m)
host-leaf p f state (with_guest v q) e h m = let k = subst (IsLeafOf f state) h m in (k.0, λ u g z. cc)
host-leaf p f state (guests v q) e h m = absurd (subst (IsLeafOf f state) h m)
host-leaf p f state (lent_back v q) e h m = let k = subst (IsLeafOf f state) h m in (k.0, λ u g z. cc)

-- a condition that makes a guest the owner
abbrev Of : Condition → ℕ → ℕ → Type 0
Of c v g = (c ≡ guests v g) ⊎ (c ≡ lent_back v g)

hyp-leaf : (p f v g : ℕ) (state : State) (c d : Condition)
    → IsLeafOf f state (hyp_entry_by p c)
    → (p ≡ f → c ≡ d)
    → Of d v g
    → ⊥
hyp-leaf p f v g state with_hyp d m e (inl o) = let z : with_hyp ≡ guests v g = e m.0 ∙ o in cc
hyp-leaf p f v g state with_hyp d m e (inr o) = let z : with_hyp ≡ lent_back v g = e m.0 ∙ o in cc
hyp-leaf p f v g state (hyps u) d m e (inl o) = let z : hyps u ≡ guests v g = e m.0 ∙ o in cc
hyp-leaf p f v g state (hyps u) d m e (inr o) = let z : hyps u ≡ lent_back v g = e m.0 ∙ o in cc
hyp-leaf p f v g state outside d m e o = m
hyp-leaf p f v g state hosts d m e o = m
hyp-leaf p f v g state (with_guest u q) d m e o = m
hyp-leaf p f v g state (guests u q) d m e o = m
hyp-leaf p f v g state (lent_back u q) d m e o = m

-- a guest's leaf of a frame names it
same-guest : (a : State) (u q v g : ℕ) (c : Condition) → c ≡ guest_condition a u q → Of c v g → u ≡ v
same-guest Owned u q v g c h (inl o) = let z : guests u q ≡ guests v g = sym h ∙ o in cc
same-guest Owned u q v g c h (inr o) = let z : guests u q ≡ lent_back v g = sym h ∙ o in cc
same-guest SharedOwned u q v g c h (inl o) = let z : lent_back u q ≡ guests v g = sym h ∙ o in cc
same-guest SharedOwned u q v g c h (inr o) = let z : lent_back u q ≡ lent_back v g = sym h ∙ o in cc
same-guest SharedBorrowed u q v g c h (inl o) = let z : with_guest u q ≡ guests v g = sym h ∙ o in cc
same-guest SharedBorrowed u q v g c h (inr o) = let z : with_guest u q ≡ lent_back v g = sym h ∙ o in cc

module _ (l : Layout) (s : Contents) (v f g : ℕ) (legal : Legal l s) (of : Of (legal.condition f) v g) where
  by-host : (page : ℕ) (state : State) → IsLeafOf f state (s.shared.host.map page) → SharesWithHost s v f
  by-host page state m = elim of [
    | inl k ↦ absurd
        (let b = host-leaf page f state (legal.condition page) (s.shared.host.map page) (legal.maps.host page) m in
        b.1 v g (ap legal.condition b.0 ∙ k))
    | inr k ↦
        (let b = legal.maps.guest_has v g f SharedOwned k in (
          g,
          subst (λ n. Maps s n g f SharedOwned) (sym (two-more v))
              (leaf-is f SharedOwned ((s.guest v).tree.map g) (leaf b.0 f SharedOwned) b.1
              (leaf-maps b.0 f SharedOwned)),
        ))
  ]

  by-hyp : (page : ℕ) (state : State) → IsLeafOf f state (s.shared.hyp.map page) → ⊥
  by-hyp page state m = by_lt page (hyp_page 0)
      (λ low. subst (IsLeafOf f state) (legal.maps.hyp_below page low) m)
      (λ high. let p = page - hyp_page 0 in let is : page ≡ hyp_page p = omega arith in
      hyp-leaf p f v g state (legal.condition p) (legal.condition f)
      (subst (IsLeafOf f state) (ap s.shared.hyp.map is ∙ legal.maps.hyp p) m) (ap legal.condition) of)

  by-guest : (u page : ℕ) (state : State) → IsLeafOf f state ((s.guest u).tree.map page) → u ≡ v
  by-guest u page state m = elim (legal.maps.guest u page) [
    | inl h ↦ absurd (subst (IsLeafOf f state) h m)
    | inr h ↦
        (let k = subst (IsLeafOf f state) h.leaf_is m in
        same-guest h.state u page v g (legal.condition f) (ap legal.condition (sym k.0) ∙ h.named) of)
  ]

  others : (component page : ℕ) (state : State)
      → Maps s component page f state
      → (component ≡ 2 + v) ⊎ ((component ≡ 0) × SharesWithHost s v f)
  others zero page state m = inr (refl, by-host page state m)
  others (suc zero) page state m = absurd (by-hyp page state m)
  others (suc (suc u)) page state m = inl (let same = by-guest u page state m in omega arith)

pub others_kept_out : OthersKeptOut
others_kept_out l s v f component page state usable legal h m =
    let at = owner-named f v (legal.condition f) (sym (row-is l s legal usable f) ∙ h) in
    others l s v f at.0 legal at.1 component page state m

pub run_kept_out : RunKeptOut
run_kept_out l cs t v f component page state ready run h m =
    others_kept_out l t.contents v f component page state (ready-usable l ready) (run_legal l cs t ready run) h m
