-- What moves of conditions do to each part of the invariant.
use Rattle.std.proofs.Common.{◌≡◌, ◌≢◌, ℕ, ◌-◌, ◌<◌, refl, ap, sym, ◌∙◌, subst, arith, inl, inr}
use Rattle.std.specs.Prelude.{Bool, true, false, ◌&&◌, ◌==◌, Some, if◌then◌else◌}
use Rattle.std.proofs.lemmas.Bool.Decides.{nat_tests}
use Rattle.descriptor.specs.declared.State.{State}
use Rattle.descriptor.specs.declared.State.TheVariants.{Owned, SharedOwned, SharedBorrowed}
use Rattle.reference_model.specs.declared.changes.Ticket.{Ticket}
use Rattle.page_state.specs.declared.entry.Entry.{Entry}
use Rattle.page_state.specs.declared.entry.Entry.TheVariants.{Unmapped}
use Rattle.page_state.specs.declared.row.Row.{Row}
use Rattle.page_state.specs.declared.row.Usage.TheVariants.{Plain, SharedPool, VmPool, InHand}
use Rattle.page_state.specs.Entries.{advance}
use Rattle.page_state.specs.Map.{Map, update, is_within}
use Rattle.reference_model.specs.model.State.{Cpu, Slot, Contents, put_at, empty}
use Rattle.page_state.specs.Layouts.{Layout, is_memory, hyp_page}
use Rattle.reference_model.specs.claims.Sound.{IsOne, SlotsAgree, LoadsAgree, GuestsAgree, TicketsAgree, IsTicketOf, IsGuestOf, HasTicket, StageFits}
use Rattle.reference_model.specs.help.Conditions.{Condition, outside, hosts, with_hyp, hyps, with_guest, guests, lent_back, HostFits, hyp_entry_by, guest_condition, GuestFits, row_in, in_vm, is_inside, Legal}
use Rattle.page_state.proofs.Common.{both, eq-same, if-true, if-false}

-- the conditions with others on a range, each told by its frame
abbrev pub moved_to : (ℕ → Condition) → ℕ → ℕ → (ℕ → Condition) → ℕ → Condition
moved_to c first count condition f = if is_within first count f then c f else condition f

-- one condition for each frame
abbrev pub always : Condition → ℕ → Condition
always c f = c

-- maps

pub moved-in : (c : ℕ → Condition) (first n : ℕ) (condition : ℕ → Condition) (f : ℕ)
    → is_within first n f ≡ true
    → moved_to c first n condition f ≡ c f
moved-in c first n condition f h = if-true (is_within first n f) (c f) (condition f) h

pub moved-out : (c : ℕ → Condition) (first n : ℕ) (condition : ℕ → Condition) (f : ℕ)
    → is_within first n f ≡ false
    → moved_to c first n condition f ≡ condition f
moved-out c first n condition f h = if-false (is_within first n f) (c f) (condition f) h

pub outside-is : (c : Condition) → is_inside c ≡ false → c ≡ outside
outside-is outside h = refl
outside-is c h = cc

abbrev chosen : Bool → Condition → Condition → Condition
chosen b d k = elim b [ true ↦ d | false ↦ k ]

chosen-in : (m t : Bool) (d k : Condition) → m ≡ true → t ≡ true → chosen (m && t) d k ≡ d
chosen-in true true d k p q = refl
chosen-in true false d k p q = cc
chosen-in false t d k p q = cc

chosen-other : (m t : Bool) (d k : Condition) → m ≡ false → chosen (m && t) d k ≡ k
chosen-other true t d k p = cc
chosen-other false t d k p = refl

chosen-out : (m t : Bool) (d k : Condition) → t ≡ false → chosen (m && t) d k ≡ k
chosen-out true true d k p = cc
chosen-out true false d k p = refl
chosen-out false t d k p = refl

-- a move of a range is one of its memory frames, since what isn't memory stays outside
pub moved-told : (l : Layout) (c : ℕ → Condition) (d : Condition) (first n : ℕ) (condition : ℕ → Condition) (f : ℕ)
    (touched : Bool)
    → touched ≡ is_within first n f
    → (is_within first n f ≡ true → is_memory l f ≡ is_inside (c f))
    → is_inside (condition f) ≡ is_memory l f
    → (is_within first n f ≡ true → is_memory l f ≡ true → c f ≡ d)
    → moved_to c first n condition f ≡ chosen (is_memory l f && touched) d (condition f)
moved-told l c d first n condition f touched same inside was goes = elim (both (is_within first n f)) [
  | inr w ↦ moved-out c first n condition f w ∙ sym (chosen-out (is_memory l f) touched d (condition f) (same ∙ w))
  | inl w ↦ elim (both (is_memory l f)) [
    | inl m ↦ moved-in c first n condition f w ∙ goes w m
        ∙ sym (chosen-in (is_memory l f) touched d (condition f) m (same ∙ w))
    | inr m ↦ moved-in c first n condition f w ∙ outside-is (c f) (sym (inside w) ∙ m)
        ∙ sym (outside-is (condition f) (was ∙ m)) ∙ sym (chosen-other (is_memory l f) touched d (condition f) m)
  ]
]

-- legal, with the conditions of another legal state
abbrev pub LegalAlone : (l : Layout) (s : Contents) → Legal l s → Contents → Type 0
LegalAlone l s legal t = (k : Legal l t) × ((f : ℕ) → k.condition f ≡ legal.condition f)

-- what touches no frame moves none
pub moved-none : (l : Layout) (d k : Condition) (f : ℕ) (touched : Bool)
    → (touched ≡ true → ⊥)
    → k ≡ chosen (is_memory l f && touched) d k
moved-none l d k f true none = absurd (none refl)
moved-none l d k f false none = sym (chosen-out (is_memory l f) false d k refl)

pub host-moved : (m : Map) (first n : ℕ) (e : Entry) (c condition : ℕ → Condition)
    → ((p : ℕ) → is_within first n p ≡ true → HostFits p (c p) (advance e (p - first)))
    → ((p : ℕ) → HostFits p (condition p) (m p))
    → (p : ℕ)
    → HostFits p (moved_to c first n condition p) (update m first n e p)
host-moved m first n e c condition new old p = go (is_within first n p) (new p) (old p)
  where
    go : (b : Bool)
        → (b ≡ true → HostFits p (c p) (advance e (p - first)))
        → HostFits p (condition p) (m p)
        → HostFits p (if b then c p else condition p) (if b then advance e (p - first) else m p)
    go true new old = new refl
    go false new old = old

within-hyp : (first n f : ℕ) → is_within (hyp_page first) n (hyp_page f) ≡ is_within first n f
within-hyp first n f = elim (both (is_within first n f)) [
  | inl e ↦ let a : is_within (hyp_page first) n (hyp_page f) ≡ true = grind (arith, nat_tests) in a ∙ sym e
  | inr e ↦ let a : is_within (hyp_page first) n (hyp_page f) ≡ false = grind (arith, nat_tests) in a ∙ sym e
]

pub hyp-moved : (m : Map) (first n : ℕ) (e : Entry) (c condition : ℕ → Condition)
    → ((f : ℕ) → is_within first n f ≡ true → advance e (f - first) ≡ hyp_entry_by f (c f))
    → ((f : ℕ) → m (hyp_page f) ≡ hyp_entry_by f (condition f))
    → (f : ℕ)
    → update m (hyp_page first) n e (hyp_page f) ≡ hyp_entry_by f (moved_to c first n condition f)
hyp-moved m first n e c condition new old f = elim (both (is_within first n f)) [
  | inl h ↦
      let at : hyp_page f - hyp_page first ≡ f - first = omega arith in
      if-true (is_within (hyp_page first) n (hyp_page f)) (advance e (hyp_page f - hyp_page first)) (m (hyp_page f))
      (within-hyp first n f ∙ h)
      ∙ ap (advance e) at ∙ new f h ∙ ap (hyp_entry_by f) (sym (moved-in c first n condition f h))
  | inr h ↦ if-false (is_within (hyp_page first) n (hyp_page f)) (advance e (hyp_page f - hyp_page first))
      (m (hyp_page f)) (within-hyp first n f ∙ h)
      ∙ old f ∙ ap (hyp_entry_by f) (sym (moved-out c first n condition f h))
]

pub hyp-below : (m : Map) (first n : ℕ) (e : Entry)
    → ((p : ℕ) → p < hyp_page 0 → m p ≡ Unmapped)
    → (p : ℕ)
    → p < hyp_page 0
    → update m (hyp_page first) n e p ≡ Unmapped
hyp-below m first n e old p less = let out : is_within (hyp_page first) n p ≡ false = grind (arith, nat_tests) in
    if-false (is_within (hyp_page first) n p) (advance e (p - hyp_page first)) (m p) out ∙ old p less

-- a condition that names no page of a guest
abbrev pub is_pageless : Condition → Bool
is_pageless (with_guest v g) = false
is_pageless (guests v g) = false
is_pageless (lent_back v g) = false
is_pageless other = true

pub pageless-named : {P : Type 0} (c : Condition) (state : State) (v g : ℕ)
    → is_pageless c ≡ true
    → c ≡ guest_condition state v g
    → P
pageless-named c Owned v g h e = let bad : true ≡ false = sym h ∙ ap is_pageless e in cc
pageless-named c SharedOwned v g h e = let bad : true ≡ false = sym h ∙ ap is_pageless e in cc
pageless-named c SharedBorrowed v g h e = let bad : true ≡ false = sym h ∙ ap is_pageless e in cc

-- guests' entries, where frames go from conditions that name no page of a guest to such a condition

pub guest-kept : (c : Condition) (first n : ℕ) (condition : ℕ → Condition)
    → ((f : ℕ) → is_within first n f ≡ true → is_pageless (condition f) ≡ true)
    → (v g : ℕ) (e : Entry)
    → GuestFits condition v g e
    → GuestFits (moved_to (always c) first n condition) v g e
guest-kept c first n condition was v g e (inl h) = inl h
guest-kept c first n condition was v g e (inr h) = inr (record {
  frame = h.frame;
  prot = h.prot;
  state = h.state;
  leaf_is = h.leaf_is;
  named = elim (both (is_within first n h.frame)) [
    | inl w ↦ pageless-named (condition h.frame) h.state v g (was h.frame w) h.named
    | inr w ↦ moved-out (always c) first n condition h.frame w ∙ h.named
  ];
})

pub has-kept : (c : Condition) (first n : ℕ) (condition : ℕ → Condition)
    → is_pageless c ≡ true
    → (v g f : ℕ) (state : State)
    → moved_to (always c) first n condition f ≡ guest_condition state v g
    → condition f ≡ guest_condition state v g
has-kept c first n condition new v g f state h = elim (both (is_within first n f)) [
  | inl w ↦ pageless-named c state v g new (sym (moved-in (always c) first n condition f w) ∙ h)
  | inr w ↦ sym (moved-out (always c) first n condition f w) ∙ h
]

-- a condition that names no guest
abbrev pub is_calm : Condition → Bool
is_calm (hyps (VmPool v)) = false
is_calm c = is_pageless c

pub calm-pageless : (c : Condition) → is_calm c ≡ true → is_pageless c ≡ true
calm-pageless (hyps (VmPool v)) h = cc
calm-pageless (hyps Plain) h = h
calm-pageless (hyps SharedPool) h = h
calm-pageless (hyps (InHand d)) h = h
calm-pageless outside h = h
calm-pageless hosts h = h
calm-pageless with_hyp h = h
calm-pageless (with_guest v g) h = h
calm-pageless (guests v g) h = h
calm-pageless (lent_back v g) h = h

pub calm-vm : (v : ℕ) (c : Condition) → is_calm c ≡ true → in_vm v c ≡ false
calm-vm v (hyps (VmPool u)) h = cc
calm-vm v (hyps Plain) h = refl
calm-vm v (hyps SharedPool) h = refl
calm-vm v (hyps (InHand d)) h = refl
calm-vm v outside h = refl
calm-vm v hosts h = refl
calm-vm v with_hyp h = refl
calm-vm v (with_guest u g) h = refl
calm-vm v (guests u g) h = refl
calm-vm v (lent_back u g) h = refl

-- a move of conditions that name no guest
pub record CalmMove (c : Condition) (first n : ℕ) (condition : ℕ → Condition) : Type 0 where
  pub calm : is_calm c ≡ true
  pub was_calm : (f : ℕ) → is_within first n f ≡ true → is_calm (condition f) ≡ true

-- a fact on the condition of each frame, where a move doesn't change it
pub moved-fact : {X : Type 0} (see : Condition → X) (c : ℕ → Condition) (first n : ℕ) (condition : ℕ → Condition)
    (f : ℕ)
    → (is_within first n f ≡ true → see (condition f) ≡ see (c f))
    → see (condition f) ≡ see (moved_to c first n condition f)
moved-fact see c first n condition f h = go (is_within first n f) h
  where
    go : (b : Bool)
        → (b ≡ true → see (condition f) ≡ see (c f))
        → see (condition f) ≡ see (if b then c f else condition f)
    go true h = h refl
    go false h = refl

pub moved-all : (P : Condition → Type 0) (c : ℕ → Condition) (first n : ℕ) (condition : ℕ → Condition) (f : ℕ)
    → (is_within first n f ≡ true → P (c f))
    → P (condition f)
    → P (moved_to c first n condition f)
moved-all P c first n condition f new old = go (is_within first n f) new
  where
    go : (b : Bool) → (b ≡ true → P (c f)) → P (if b then c f else condition f)
    go true new = new refl
    go false new = old

-- slots

pub record SameSlots (s t : Contents) : Type 0 where
  pub slot : (v : ℕ) → t.vms.slot v ≡ s.vms.slot v
  pub phase : (v : ℕ) → (t.guest v).phase ≡ (s.guest v).phase
  pub generation : (v : ℕ) → (t.guest v).generation ≡ (s.guest v).generation
  pub kind : (v : ℕ) → (t.guest v).kind ≡ (s.guest v).kind
  pub loaded : (c : ℕ) → (t.cpu c).loaded ≡ (s.cpu c).loaded
  pub ticket : (c : ℕ) → (t.cpu c).ticket ≡ (s.cpu c).ticket

pub same-agree : (s t : Contents) → SameSlots s t → SlotsAgree s → SlotsAgree t
same-agree s t e a = record { loads = loads; guests = phases; tickets = tickets }
  where
    loads : LoadsAgree t
    loads = record {
      loaded = λ c k h. let x = a.loads.loaded c k (sym (e.loaded c) ∙ h) in (
        ap (λ (y : Slot). y.loaded k.vcpu) (e.slot k.vm.slot)
            ∙ x.0,
        ap (λ (y : Slot). y.generation) (e.slot k.vm.slot) ∙ x.1,
      );
      loads = λ v i c h. let x = a.loads.loads v i c (sym (ap (λ (y : Slot). y.loaded i) (e.slot v)) ∙ h) in
          (ap (λ (y : Slot). y.stand) (e.slot v) ∙ x.0, (x.1.0, e.loaded c ∙ x.1.1, x.1.2, x.1.3));
    }

    same_vm : (v : ℕ) → (t.guest v).phase ≢ empty → IsGuestOf t v
    same_vm v h = let x = a.guests.same_vm v (λ p. h (e.phase v ∙ p)) in record {
      generation = e.generation v ∙ x.generation ∙ sym (ap (λ (y : Slot). y.generation) (e.slot v));
      kind = e.kind v ∙ x.kind ∙ sym (ap (λ (y : Slot). y.kind) (e.slot v));
    }

    phases : GuestsAgree t
    phases = record {
      open_live = λ v h. e.phase v ∙ a.guests.open_live v (sym (ap (λ (y : Slot). y.stand) (e.slot v)) ∙ h);
      vacant_empty = λ v h. e.phase v ∙ a.guests.vacant_empty v (sym (ap (λ (y : Slot). y.stand) (e.slot v)) ∙ h);
      same_vm = same_vm;
    }

    once : (v : ℕ) → IsOne (HasTicket s v) → IsOne (HasTicket t v)
    once v x = (x.0, (x.1.0, e.ticket x.0 ∙ x.1.1, x.1.2), λ c h. x.2 c (h.0, sym (e.ticket c) ∙ h.1, h.2))

    ticket : (c : ℕ) (k : Ticket) → (t.cpu c).ticket ≡ Some k → IsTicketOf t k
    ticket c k h = let x = a.tickets.ticket c k (sym (e.ticket c) ∙ h) in record {
      fits =
          subst (λ stand. StageFits k.stage stand (t.guest k.vm.slot).phase)
          (sym (ap (λ (y : Slot). y.stand) (e.slot k.vm.slot)))
          (subst (StageFits k.stage (s.vms.slot k.vm.slot).stand) (sym (e.phase k.vm.slot)) x.fits);
      generation = x.generation ∙ sym (ap (λ (y : Slot). y.generation) (e.slot k.vm.slot));
      kind = x.kind ∙ sym (ap (λ (y : Slot). y.kind) (e.slot k.vm.slot));
    }

    tickets : TicketsAgree t
    tickets = record {
      ticket = ticket;
      reserved_once = λ v h. once v (a.tickets.reserved_once v (sym (ap (λ (y : Slot). y.stand) (e.slot v)) ∙ h));
      closing_once = λ v h. once v (a.tickets.closing_once v (sym (ap (λ (y : Slot). y.stand) (e.slot v)) ∙ h));
    }

-- what a CPU has at its number
pub cpu-fact : {X : Type 0} (see : Cpu → X) (k : ℕ → Cpu) (cpu : ℕ) (new : Cpu) (c : ℕ)
    → see new ≡ see (k cpu)
    → see (put_at k cpu new c) ≡ see (k c)
cpu-fact see k cpu new c e = elim (both (c == cpu)) [
  | inl h ↦ ap see (if-true (c == cpu) new (k c) h) ∙ e ∙ ap (λ d. see (k d)) (sym (eq-same c cpu h))
  | inr h ↦ ap see (if-false (c == cpu) new (k c) h)
]

-- rows

pub rows-moved : (l : Layout) (own old : ℕ → Row) (touched : Bool) (c : ℕ → Condition) (first n : ℕ)
    (condition : ℕ → Condition) (f : ℕ)
    → is_memory l f ≡ true
    → touched ≡ is_within first n f
    → (is_within first n f ≡ true → own f ≡ row_in f (c f))
    → old f ≡ row_in f (condition f)
    → elim (is_memory l f && touched) [ true ↦ own f | false ↦ old f ] ≡ row_in f (moved_to c first n condition f)
rows-moved l own old touched c first n condition f m t new kept =
    go (is_memory l f) touched (is_within first n f) m t new
  where
    go : (a b w : Bool)
        → a ≡ true
        → b ≡ w
        → (w ≡ true → own f ≡ row_in f (c f))
        → elim (a && b) [ true ↦ own f | false ↦ old f ] ≡ row_in f (if w then c f else condition f)
    go true true true p q new = new refl
    go true false false p q new = kept
    go true true false p q new = cc
    go true false true p q new = cc
    go false b w p q new = cc
