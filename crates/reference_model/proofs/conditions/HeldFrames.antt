-- Frames that are held for a guest, and a CPU's hand.
use Rattle.std.proofs.Common.{◌≡◌, ℕ, zero, suc, ◌≤◌, refl, ap, sym, ◌∙◌, subst, arith, inl, inr, length, drop}
use Rattle.std.specs.Prelude.{true, false, ◌⊎◌, ◌==◌, is_some, nat_lt, Option, Some, None, is_none}
use Rattle.reference_model.specs.declared.changes.Changes.{Changes}
use Rattle.reference_model.specs.declared.changes.GuestChange.{GuestChange}
use Rattle.reference_model.specs.declared.changes.GuestChange.TheVariants.{Keep as KeepGuest, Install as Begin, Gain, LoseLowest, Die, Empty}
use Rattle.reference_model.specs.declared.changes.Stage.TheVariants.{Booked, Dying}
use Rattle.page_state.specs.declared.entry.PageRange.{PageRange}
use Rattle.page_state.specs.declared.row.Usage.TheVariants.{Plain, VmPool}
use Rattle.call_table.specs.declared.reply.Call.{Call}
use Rattle.call_table.specs.declared.reply.Reply.{Reply}
use Rattle.call_table.specs.declared.step.Step.{Step}
use Rattle.call_table.specs.declared.step.Step.TheVariants.{FinishGuest, Fund, Install, ReclaimPool, Topup, Unfund}
use Rattle.call_table.specs.declared.step.VmId.{VmId}
use Rattle.coarse_trees.specs.Coarsest.{IsInRange}
use Rattle.page_state.specs.Layouts.{Layout}
use Rattle.page_state.specs.Tables.{all_given, edited, returned, need}
use Rattle.reference_model.specs.model.Changes.{cpu_by, edit_of, frames_in, guest_by}
use Rattle.reference_model.specs.help.Conditions.{Condition, hyps, Legal, in_vm, one, row_in, guest_uses}
use Rattle.reference_model.specs.model.GuestRules.{is_guest, phase_eq}
use Rattle.reference_model.specs.claims.HeldFrames.{GivesHandOn, HandStays, HeldStays, IsHeldFor, RunHeldStays, TakesBack, name_of}
use Rattle.reference_model.specs.model.Owner.{is_in_hand}
use Rattle.reference_model.specs.model.Parts.{slot_of}
use Rattle.reference_model.specs.claims.RowLaws.{use_of}
use Rattle.reference_model.specs.model.Rule.{Rule}
use Rattle.reference_model.specs.model.Rules.{guest_slot, names, rule}
use Rattle.reference_model.specs.claims.Sound.{Place, shared_pool, vm_pool, table_of, hand, IsHeld}
use Rattle.reference_model.specs.model.State.{Contents, Cpu, Guest, Phase, Reference, dying, no_guest, put_at}
use Rattle.reference_model.specs.model.Step.{Answered, Steps, changed, fails, guest_after, guest_need, made, used_by, with_rows}
use Rattle.reference_model.specs.model.Used.{Used, put_back, used_of}
use Rattle.page_state.proofs.Common.{and-both, both, eq-same, eq-self, if-false, if-true, same2}
use Rattle.reference_model.proofs.conditions.Bounding.{guest-range, pass}
use Rattle.reference_model.proofs.conditions.Conserved.{all_given-count, tree-conserved}
use Rattle.reference_model.proofs.conditions.FrameMoves.{no-uses}
use Rattle.reference_model.proofs.conditions.Keeps.{legal_keeps, stage-slot}
use Rattle.reference_model.proofs.conditions.PoolSteps.{in_vm-hyps, one-some}
use Rattle.reference_model.proofs.conditions.RowFacts.{place-of, place-use}
use Rattle.reference_model.proofs.conditions.RunsLegal.{ready-usable, run_legal}
use Rattle.reference_model.proofs.conditions.Slots.{ticket-fits}
use Rattle.reference_model.proofs.conditions.SoundOf.{two-more}

-- what is held for a guest, by its count

place-for : (s : Contents) (v f : ℕ) (p : Place) → IsHeld s f p → use_of p ≡ VmPool v → IsHeldFor s v f
place-for s v f shared_pool h e = cc
place-for s v f (vm_pool u) h e = let same : u ≡ v = cc in inl (subst (λ w. IsHeld s f (vm_pool w)) same h)
place-for s v f (table_of zero b) h e = cc
place-for s v f (table_of (suc zero) b) h e = cc
place-for s v f (table_of (suc (suc u)) b) h e = let same : u ≡ v = cc in
    inr (
      b,
      subst (λ k. IsHeld s f (table_of k b)) (sym (two-more v))
          (subst (λ w. IsHeld s f (table_of (suc (suc w)) b)) same h),
    )
place-for s v f (hand c) h e = cc

use-hyps : (f v : ℕ) (c : Condition) → (row_in f c).usage ≡ VmPool v → c ≡ hyps (VmPool v)
use-hyps f v (hyps u) h = ap hyps h
use-hyps f v c h = cc

module _ (l : Layout) (s : Contents) (legal : Legal l s) (v f : ℕ) where
  held-uses : IsHeldFor s v f → guest_uses l.depth (s.guest v) f ≡ 1
  held-uses h =
      let used : VmPool v ≡ (row_in f (legal.condition f)).usage =
      elim h [
        | inl p ↦ place-use l s legal f (vm_pool v) p
        | inr p ↦ place-use l s legal f (table_of (suc (suc v)) p.0)
            (subst (λ k. IsHeld s f (table_of k p.0)) (two-more v) p.1)
      ] in
      legal.held.vm v f ∙ ap (λ c. one (in_vm v c)) (use-hyps f v (legal.condition f) (sym used)) ∙ ap one (eq-self v)

  uses-held : 1 ≤ guest_uses l.depth (s.guest v) f → IsHeldFor s v f
  uses-held h =
      let is : legal.condition f ≡ hyps (VmPool v) =
      in_vm-hyps v (legal.condition f)
      (one-some (in_vm v (legal.condition f)) (guest_uses l.depth (s.guest v) f) (legal.held.vm v f) h) in
      let used : (row_in f (legal.condition f)).usage ≡ VmPool v = ap (λ c. (row_in f c).usage) is in
      let at = place-of l s legal f (λ e. (let bad : VmPool v ≡ Plain = sym used ∙ e in cc)) in
      place-for s v f at.0 at.1 (at.2 ∙ used)

-- a change of a guest that takes no frame from it
abbrev TakesNone : GuestChange → Type 0
TakesNone KeepGuest = Unit {0}
TakesNone (Gain range) = Unit {0}
TakesNone Die = Unit {0}
TakesNone other = ⊥

part-uses : (depth : ℕ) (h : GuestChange) (g : Guest) (f : ℕ)
    → TakesNone h
    → guest_uses depth g f ≤ guest_uses depth (guest_by depth h g) f
part-uses depth KeepGuest g f t = omega arith
part-uses depth (Gain range) g f t = let a = all_given-count f (frames_in range) g.free in omega arith
part-uses depth Die g f t = omega arith
part-uses depth (Begin kind generation given) g f t = absurd t
part-uses depth LoseLowest g f t = absurd t
part-uses depth Empty g f t = absurd t

after-uses : (depth : ℕ) (h : Changes) (g : Guest) (f : ℕ)
    → IsInRange depth (edit_of h.guest)
    → guest_need depth h g ≤ length g.free
    → TakesNone h.part
    → guest_uses depth g f ≤ guest_uses depth (guest_after depth h g) f
unfolding guest_after
after-uses depth h g f range less none =
    let e = edit_of h.guest in
    let a = tree-conserved depth e g.tree g.free f range less in
    let b =
    part-uses depth h.part
    (record g {
      tree = edited depth g.tree e g.free;
      free = all_given (returned depth g.tree e) (drop (need depth g.tree e) g.free);
    }) f none in
    omega arith

same-name : (a b : VmId) → a.slot ≡ b.slot → a.generation ≡ b.generation → a ≡ b
same-name a b p q = same2 name p q
  where
    name : ℕ → ℕ → VmId
    name slot generation = record { slot = slot; generation = generation }

phase-is : (p : Phase) → phase_eq p dying ≡ true → p ≡ dying
phase-is dying h = refl
phase-is p h = cc

named-slot : (vm : VmId) (v : ℕ) → slot_of vm ≡ Some v → vm.slot ≡ v
named-slot vm v h = elim (both (nat_lt vm.slot 64)) [
  | inl e ↦ let here : Some vm.slot ≡ Some v = sym (if-true (nat_lt vm.slot 64) (Some vm.slot) None e) ∙ h in cc
  | inr e ↦ let bad : None ≡ Some v = sym (if-false (nat_lt vm.slot 64) (Some vm.slot) None e) ∙ h in cc
]

module _ (l : Layout) (s : Contents) (legal : Legal l s) (cpu v : ℕ) where
  abbrev x_at : Step → Used
  x_at step = used_of (names step) (Some v) cpu s

  abbrev h_at : Step → Rule
  h_at step = rule l cpu (Some v) step (x_at step)

  -- a made step on the guest takes no frame from it, or the guest was Empty, or it takes back a frame of a Dying one
  takes : (step : Step)
      → Some v ≡ guest_slot (s.cpu cpu) step
      → fails l cpu (Some v) step (x_at step) ≡ None
      → TakesNone (h_at step).changes.part ⊎ (s.guest v ≡ no_guest) ⊎ TakesBack s cpu step v
  unfolding rule used_of
  takes Install at h = let t = stage-slot Booked (s.cpu cpu) v (sym at) in
      inr (inl (legal.guest_parts.blank v (ticket-fits s legal.slots cpu v Booked t.0 t.1 t.2 t.3).1))
  takes (ReclaimPool vm) at h =
      let p = pass l s cpu (Some v) (ReclaimPool vm) h in
      let is = and-both (phase_eq (s.guest v).phase dying) ((s.guest v).generation == vm.generation) p.has_vm in
      let slot : vm.slot ≡ v = named-slot vm v (sym at) in
      inr
      (inr
      (record {
        is_dying = phase-is (s.guest v).phase is.0;
        step_is =
            inl
            (ap ReclaimPool
            (same-name vm (name_of s v) slot
            (sym (eq-same (s.guest v).generation vm.generation is.1))));
      }))
  takes FinishGuest at h =
      let t = stage-slot Dying (s.cpu cpu) v (sym at) in
      inr
      (inr
      (record {
        is_dying = (ticket-fits s legal.slots cpu v Dying t.0 t.1 t.2 t.3).1;
        step_is = inr (refl, (t.0, t.1, t.2));
      }))
  takes step at h = inl tt

  module _ (f : ℕ) where
    -- what a call leaves of the guest holds the frame as often as before, or more
    Keeps : Step → Guest → Type 0
    Keeps step g = (guest_uses l.depth (s.guest v) f ≤ guest_uses l.depth g f) ⊎ TakesBack s cpu step v

    stays : (step : Step) (g : Guest) → g ≡ s.guest v → Keeps step g
    unfolding Keeps
    stays step g e = let same : guest_uses l.depth g f ≡ guest_uses l.depth (s.guest v) f =
        ap (λ x. guest_uses l.depth x f) e in
        inl (omega arith)

    none-held : (g : Guest) → s.guest v ≡ no_guest → guest_uses l.depth (s.guest v) f ≤ guest_uses l.depth g f
    none-held g e = let none = no-uses l.depth f in
        let same : guest_uses l.depth (s.guest v) f ≡ guest_uses l.depth no_guest f =
        ap (λ x. guest_uses l.depth x f) e in
        omega arith

    made-keeps : (step : Step)
        → Some v ≡ guest_slot (s.cpu cpu) step
        → fails l cpu (Some v) step (x_at step) ≡ None
        → Keeps step (guest_after l.depth (h_at step).changes (s.guest v))
    unfolding Keeps used_of
    made-keeps step at h = elim (takes step at h) [
      | inl none ↦ inl
          (after-uses l.depth (h_at step).changes (s.guest v) f (guest-range l s cpu step (Some v) h)
          (pass l s cpu (Some v) step h).guest_enough none)
      | inr rest ↦ elim rest
          [ inl e ↦ inl (none-held (guest_after l.depth (h_at step).changes (s.guest v)) e) | inr back ↦ inr back ]
    ]

    answer-keeps : (step : Step)
        → Some v ≡ guest_slot (s.cpu cpu) step
        → (reply : Reply) (y : Used)
        → (y ≡ x_at step) ⊎ Answered l cpu (Some v) step true (x_at step) reply y
        → Keeps step y.guest
    unfolding made with_rows changed used_of
    answer-keeps step at reply y (inl e) = stays step y.guest (ap (λ (z : Used). z.guest) e)
    answer-keeps step at reply y (inr (inl p)) =
        subst (λ (z : Used). Keeps step z.guest) (sym p.next) (made-keeps step at p.passes)
    answer-keeps step at reply y (inr (inr (inl p))) = stays step y.guest (ap (λ (z : Used). z.guest) p.next)
    answer-keeps step at reply y (inr (inr (inr p))) = stays step y.guest (ap (λ (z : Used). z.guest) p.next)

    here : (step : Step)
        → Some v ≡ guest_slot (s.cpu cpu) step
        → (reply : Reply) (y : Used)
        → (y ≡ x_at step) ⊎ Answered l cpu (Some v) step true (x_at step) reply y
        → Keeps step ((put_back (names step) (Some v) cpu s y).guest v)
    unfolding put_back
    here step at reply y h =
        subst (Keeps step) (sym (if-true (v == v) y.guest (s.guest v) (eq-self v))) (answer-keeps step at reply y h)

    call-keeps : (step : Step) (slot : Option ℕ)
        → slot ≡ guest_slot (s.cpu cpu) step
        → (reply : Reply) (y : Used)
        → (y ≡ used_of (names step) slot cpu s)
        ⊎ Answered l cpu slot step true (used_of (names step) slot cpu s) reply y
        → Keeps step ((put_back (names step) slot cpu s y).guest v)
    unfolding put_back
    call-keeps step None at reply y h = stays step (s.guest v) refl
    call-keeps step (Some u) at reply y h = elim (both (v == u)) [
      | inl q ↦ subst
          (λ w. Some w ≡ guest_slot (s.cpu cpu) step
          → (y ≡ used_of (names step) (Some w) cpu s)
          ⊎ Answered l cpu (Some w) step true (used_of (names step) (Some w) cpu s) reply y
          → Keeps step ((put_back (names step) (Some w) cpu s y).guest v))
          (eq-same v u q) (λ a k. here step a reply y k) at h
      | inr q ↦ stays step (put_at s.guest u y.guest v) (if-false (v == u) y.guest (s.guest v) q)
    ]

-- what a step leaves of what its call uses, with a full log among the cases
answered : (l : Layout) (s t : Reference) (c : Call)
    → (steps : Steps l s c t)
    → (steps.after ≡ used_by c s) ⊎ Answered l c.cpu c.slot c.step true (used_by c s) c.reply steps.after
answered l s t c steps = elim (steps.on.answers) [ inl p ↦ inl p.next | inr p ↦ inr p.answered ]

pub held_stays : HeldStays
unfolding used_of Keeps
held_stays l s t c v f usable known legal steps h =
    let after = legal_keeps l s t c usable known legal steps in
    let was = held-uses l s.contents legal v f h in
    let kept =
    call-keeps l s.contents legal c.cpu v f c.step c.slot steps.on.slot c.reply steps.after
    (answered l s t c steps) in
    let same : (put_back (names c.step) c.slot c.cpu s.contents steps.after).guest v ≡ t.contents.guest v =
    sym (ap (λ (u : Reference). u.contents.guest v) steps.next) in
    elim kept [
      | inl more ↦ inl
          (uses-held l t.contents after v f
          (let e : guest_uses l.depth ((put_back (names c.step) c.slot c.cpu s.contents steps.after).guest v) f ≡ guest_uses l.depth (t.contents.guest v) f =
          ap (λ g. guest_uses l.depth g f) same in
          omega arith))
      | inr back ↦ inr back
    ]

pub run_held_stays : RunHeldStays
run_held_stays l cs s t c v f ready known run steps h =
    held_stays l s t c v f (ready-usable l ready) known (run_legal l cs s ready run) steps h

-- hands

module _ (l : Layout) (s : Contents) (cpu : ℕ) (slot : Option ℕ) where
  abbrev x_by : Step → Used
  x_by step = used_of (names step) slot cpu s

  hand-after : (step : Step) (f : ℕ)
      → fails l cpu slot step (x_by step) ≡ None
      → is_in_hand (s.cpu cpu).hand f ≡ true
      → (is_in_hand (cpu_by (rule l cpu slot step (x_by step)).changes.cpu (s.cpu cpu)).hand f ≡ true)
      ⊎ GivesHandOn step
  unfolding rule used_of
  hand-after (Fund first n) f h had =
      absurd (empty-hand (s.cpu cpu).hand f (pass l s cpu slot (Fund first n) h).ready had)
    where
      empty-hand : (o : Option PageRange) (f : ℕ) → is_none o ≡ true → is_in_hand o f ≡ true → ⊥
      empty-hand None f h k = cc
      empty-hand (Some r) f h k = cc
  hand-after Unfund f h had = inr (inl refl)
  hand-after Install f h had = inr (inr (inl refl))
  hand-after (Topup vm) f h had = inr (inr (inr (vm, refl)))
  hand-after step f h had = inl had

  Has : Step → ℕ → Cpu → Type 0
  Has step f k = (is_in_hand k.hand f ≡ true) ⊎ GivesHandOn step

  answer-hand : (step : Step) (f : ℕ) (reply : Reply) (y : Used)
      → (y ≡ x_by step) ⊎ Answered l cpu slot step true (x_by step) reply y
      → is_in_hand (s.cpu cpu).hand f ≡ true
      → Has step f y.cpu
  unfolding Has made with_rows changed used_of
  answer-hand step f reply y (inl e) had = inl (ap (λ (z : Used). is_in_hand z.cpu.hand f) e ∙ had)
  answer-hand step f reply y (inr (inl p)) had =
      subst (λ (z : Used). Has step f z.cpu) (sym p.next) (hand-after step f p.passes had)
  answer-hand step f reply y (inr (inr (inl p))) had = inl (ap (λ (z : Used). is_in_hand z.cpu.hand f) p.next ∙ had)
  answer-hand step f reply y (inr (inr (inr p))) had = inl (ap (λ (z : Used). is_in_hand z.cpu.hand f) p.next ∙ had)

pub hand_stays : HandStays
unfolding put_back Has
hand_stays l s t c k f steps had =
    let hands : t.contents.cpu k ≡ put_at s.contents.cpu c.cpu steps.after.cpu k =
    ap (λ (u : Reference). u.contents.cpu k) steps.next in
    elim (both (k == c.cpu)) [
      | inl e ↦
          let same = eq-same k c.cpu e in
          let now : t.contents.cpu k ≡ steps.after.cpu =
          hands ∙ if-true (k == c.cpu) steps.after.cpu (s.contents.cpu k) e in
          elim
          (answer-hand l s.contents c.cpu c.slot c.step f c.reply steps.after (answered l s t c steps)
          (subst (λ d. is_in_hand (s.contents.cpu d).hand f ≡ true) same had)) [
            | inl stays ↦ inl (ap (λ (d : Cpu). is_in_hand d.hand f) now ∙ stays)
            | inr gives ↦ inr (sym same, gives)
          ]
      | inr e ↦ inl
          (ap (λ (d : Cpu). is_in_hand d.hand f) (hands ∙ if-false (k == c.cpu) steps.after.cpu (s.contents.cpu k) e)
          ∙ had)
    ]
