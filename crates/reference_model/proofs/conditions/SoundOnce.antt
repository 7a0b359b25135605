-- A state of which it is known only that it is legal somehow is sound: no fact of Sound can be told in two ways.
use Rattle.std.proofs.Common.{◌≡◌, ℕ, zero, suc, ◌+◌, ◌≤◌, ◌<◌, refl, ap, sym, ◌∙◌, subst, arith, inl, inr, List, [], ◌∷◌, length, Contains, slice_index_or}
use Rattle.std.specs.Prelude.{Option, Some, None, ◌⊎◌}
use Rattle.std.specs.Coded.{×_prop, le_prop, Π_prop}
use Rattle.std.proofs.Math.Logic.{∥∥₁_elim}
use Rattle.std.proofs.Props.{props}
use mathlib.Core.HLevel.{⊥_prop, Σ_prop_path, is_prop→PathP}
use Rattle.descriptor.specs.declared.State.{State}
use Rattle.descriptor.specs.declared.State.TheVariants.{Owned, SharedOwned, SharedBorrowed}
use Rattle.page_state.specs.declared.entry.Entry.{Entry}
use Rattle.page_state.specs.declared.entry.Entry.TheVariants.{Unmapped, Malformed, Annotated, Leaf}
use Rattle.page_state.specs.Counts.{is_one, frame_count}
use Rattle.page_state.specs.Layouts.{Layout}
use Rattle.page_state.proofs.Common.{eq-made}
use Rattle.page_state.proofs.Counts.{count_next}
use Rattle.reference_model.specs.declared.changes.Stage.{Stage}
use Rattle.reference_model.specs.declared.changes.Stage.TheVariants.{Booked as booked, Installed as installed, Closing as closing_vm, Dying as dying_vm, Finished as finished}
use Rattle.reference_model.specs.help.Conditions.{Legal, IsUsable, one, in_shared, in_vm}
use Rattle.reference_model.specs.claims.Isolation.{SharesWithHost}
use Rattle.reference_model.specs.claims.Sound.{IsOne, IsLeafOf, Maps, IsHostsOwn, owner, OneOwner, IsBorrowed, OneBorrower, Place, shared_pool, vm_pool, table_of, hand, IsHeld, HeldOnce, HasLoaded, HasTicket, StageFits, LoadsAgree, GuestsAgree, TicketsAgree, Sound}
use Rattle.reference_model.specs.model.State.{Contents, Phase, Stand}
use Rattle.reference_model.proofs.conditions.Isolates.{others_kept_out}
use Rattle.reference_model.proofs.conditions.OfLegal.{shared-of, guests-of}
use Rattle.reference_model.proofs.conditions.SoundOf.{contains-count, legal_sound, maps-once, one-most}

nat_prop : (a b : ℕ) → IsProp (a ≡ b)
nat_prop a b = hlevel props

-- what is told in one way, of one thing
unique2 : {X : Type 0} {P : X → Type 0}
    → ((x : X) → IsProp (P x))
    → ((x y : X) → P x → P y → x ≡ y)
    → IsProp ((x : X) × P x)
unique2 p once a b = Σ_prop_path p (once a.0 b.0 a.1 b.1)

unique3 : {X : Type 0} {P Q : X → Type 0}
    → ((x : X) → IsProp (P x))
    → ((x : X) → IsProp (Q x))
    → ((x y : X) → P x → Q x → P y → Q y → x ≡ y)
    → IsProp ((x : X) × P x × Q x)
unique3 {X} {P} {Q} p q once a b = let e = once a.0 b.0 a.1 a.2 b.1 b.2 in
    λ i. (
      e i,
      is_prop→PathP (λ j. P (e j)) (λ j. p (e j)) a.1 b.1 i,
      is_prop→PathP (λ j. Q (e j)) (λ j. q (e j)) a.2 b.2 i,
    )

unique4 : {X : Type 0} {P Q R : X → Type 0}
    → ((x : X) → IsProp (P x))
    → ((x : X) → IsProp (Q x))
    → ((x : X) → IsProp (R x))
    → ((x y : X) → P x → P y → x ≡ y)
    → IsProp ((x : X) × P x × Q x × R x)
unique4 {X} {P} {Q} {R} p q r once a b = let e = once a.0 b.0 a.1 b.1 in
    λ i. (
      e i,
      is_prop→PathP (λ j. P (e j)) (λ j. p (e j)) a.1 b.1 i,
      is_prop→PathP (λ j. Q (e j)) (λ j. q (e j)) a.2 b.2 i,
      is_prop→PathP (λ j. R (e j)) (λ j. r (e j)) a.3 b.3 i,
    )

two_prop : {P : ℕ → ℕ → Type 0}
    → ((m n : ℕ) → IsProp (P m n))
    → ((m n k j : ℕ) → P m n → P k j → (m ≡ k) × (n ≡ j))
    → IsProp ((m : ℕ) × (n : ℕ) × P m n)
two_prop {P} p once a b = let e = once a.0 a.1 b.0 b.1 a.2 b.2 in
    λ i. (e.0 i, e.1 i, is_prop→PathP (λ j. P (e.0 j) (e.1 j)) (λ j. p (e.0 j) (e.1 j)) a.2 b.2 i)

one_prop : {X : Type 0} {P : X → Type 0} → ((x : X) → IsProp (P x)) → ((x y : X) → IsProp (x ≡ y)) → IsProp (IsOne P)
one_prop {X} {P} p same =
    unique3 {P = P} {Q = λ x. (y : X) → P y → y ≡ x} p (λ x. Π_prop (λ y. Π_prop (λ _. same y x)))
    (λ x y h all k other. other x h)

either_prop : {A B : Type 0} → IsProp A → IsProp B → (A → B → ⊥) → IsProp (A ⊎ B)
either_prop p q apart (inl a) (inl b) = ap inl (p a b)
either_prop p q apart (inr a) (inr b) = ap inr (q a b)
either_prop p q apart (inl a) (inr b) = absurd (apart a b)
either_prop p q apart (inr a) (inl b) = absurd (apart b a)

-- entries

leaf_prop : (f : ℕ) (state : State) (e : Entry) → IsProp (IsLeafOf f state e)
leaf_prop f state (Leaf frame prot kind other) = hlevel props
leaf_prop f state Unmapped = ⊥_prop
leaf_prop f state Malformed = ⊥_prop
leaf_prop f state (Annotated o) = ⊥_prop

one_state : (f : ℕ) (e : Entry) → IsLeafOf f Owned e → IsLeafOf f SharedOwned e → ⊥
one_state f (Leaf frame prot kind other) h k = let a = h.1 in let b = k.1 in cc
one_state f Unmapped h k = h
one_state f Malformed h k = h
one_state f (Annotated o) h k = h

held_prop : (f : ℕ) (e : Entry) → IsProp (IsLeafOf f Owned e ⊎ IsLeafOf f SharedOwned e)
held_prop f e = either_prop (leaf_prop f Owned e) (leaf_prop f SharedOwned e) (one_state f e)

hosts_own_prop : (f : ℕ) (e : Entry) → IsProp (IsHostsOwn f e)
hosts_own_prop f e =
    either_prop (hlevel props) (held_prop f e)
    (λ u h. elim h [ inl a ↦ subst (IsLeafOf f Owned) u a | inr a ↦ subst (IsLeafOf f SharedOwned) u a ])

-- places

contains_once : (fs : List ℕ) (f i j : ℕ)
    → i < length fs
    → slice_index_or fs i f ≡ f
    → j < length fs
    → slice_index_or fs j f ≡ f
    → frame_count f fs ≤ 1
    → i ≡ j
contains_once [] f i j a h b k few = absurd (omega arith)
contains_once (g ∷ gs) f zero zero a h b k few = refl
contains_once (g ∷ gs) f zero (suc j) a h b k few =
    absurd
    (let n = count_next f g gs in
    let e : is_one g f ≡ 1 = ap one (eq-made g f h) in
    let m = contains-count gs f j (omega arith) k in
    omega arith)
contains_once (g ∷ gs) f (suc i) zero a h b k few =
    absurd
    (let n = count_next f g gs in
    let e : is_one g f ≡ 1 = ap one (eq-made g f k) in
    let m = contains-count gs f i (omega arith) h in
    omega arith)
contains_once (g ∷ gs) f (suc i) (suc j) a h b k few = let n = count_next f g gs in
    ap suc (contains_once gs f i j (omega arith) h (omega arith) k (omega arith))

contains_prop : (fs : List ℕ) (f : ℕ) → frame_count f fs ≤ 1 → IsProp (Contains fs f)
contains_prop fs f few =
    unique3 {P = λ k. k < length fs} {Q = λ k. slice_index_or fs k f ≡ f} (λ k. le_prop) (λ k. nat_prop _ _)
    (λ i j a h b k. contains_once fs f i j a h b k few)

-- slots

some_once : {X : Type 0} {o : Option X} {x y : X} → o ≡ Some x → o ≡ Some y → x ≡ y
some_once {X} {o} {x} {y} h k = ap (λ (q : Option X). get q) (sym h ∙ k)
  where
    get : Option X → X
    get (Some z) = z
    get None = x

loaded_prop : (s : Contents) (v i c : ℕ) → IsProp (HasLoaded s v i c)
loaded_prop s v i c =
    unique4 {P = λ k. (s.cpu c).loaded ≡ Some k} {Q = λ k. k.vm.slot ≡ v} {R = λ k. k.vcpu ≡ i} (λ k. hlevel props)
    (λ k. nat_prop _ _) (λ k. nat_prop _ _) (λ a b h k. some_once h k)

ticket_prop : (s : Contents) (v c : ℕ) → IsProp (HasTicket s v c)
ticket_prop s v c =
    unique3 {P = λ t. (s.cpu c).ticket ≡ Some t} {Q = λ t. t.vm.slot ≡ v} (λ t. hlevel props) (λ t. nat_prop _ _)
    (λ a b h i k j. some_once h k)

stage_prop : (stage : Stage) (stand : Stand) (phase : Phase) → IsProp (StageFits stage stand phase)
stage_prop booked stand phase = hlevel props
stage_prop installed stand phase = hlevel props
stage_prop closing_vm stand phase = hlevel props
stage_prop dying_vm stand phase = hlevel props
stage_prop finished stand phase = hlevel props

module _ (l : Layout) (s : Contents) (somehow : ∥ IsUsable l × Legal l s ∥₁) where
  sound_here : {P : Type 0} → IsProp P → (Sound l s → P) → P
  sound_here p k = ∥∥₁_elim somehow p (λ (usable, legal). k (legal_sound l s legal usable))

  once : (component f : ℕ) (state : State) (a b : ℕ) → Maps s component a f state → Maps s component b f state → a ≡ b
  once component f state a b m n = ∥∥₁_elim somehow (nat_prop _ _) (λ (usable, legal).
      maps-once l s f (legal.condition f) (shared-of s legal.condition legal.maps f l legal.held)
      (guests-of s legal.condition legal.maps f l legal.held) component b a state n m)

  mapped_prop : (component f : ℕ) (state : State) → IsProp ((page : ℕ) × Maps s component page f state)
  mapped_prop component f state =
      unique2 {P = λ page. Maps s component page f state} (λ page. leaf_prop f state _) (once component f state)

  one_owner : OneOwner l s
  one_owner = record {
    host_owned = λ f m o. sound_here (hosts_own_prop f _) (λ h. h.one_owner.host_owned f m o);
    owned = λ f m o. sound_here (one_prop (λ page. held_prop f _) nat_prop) (λ h. h.one_owner.owned f m o);
    no_other = λ f component page held. sound_here (nat_prop _ _) (λ h. h.one_owner.no_other f component page held);
  }

  one_borrower : OneBorrower l s
  one_borrower = record {
    one_borrower = borrower;
    lent = λ f. (
      λ b. sound_here (mapped_prop (owner l s f) f SharedOwned) (λ h. (h.one_borrower.lent f).0 b),
      λ b. sound_here (borrowed_prop f) (λ h. (h.one_borrower.lent f).1 b),
    );
  }
    where
      borrower : (f a page b other : ℕ)
          → Maps s a page f SharedBorrowed
          → Maps s b other f SharedBorrowed
          → (b ≡ a) × (other ≡ page)
      borrower f a page b other m n =
          sound_here (×_prop (nat_prop _ _) (nat_prop _ _)) (λ h. h.one_borrower.one_borrower f a page b other m n)

      borrowed_prop : (f : ℕ) → IsProp (IsBorrowed s f)
      borrowed_prop f =
          two_prop (λ component page. leaf_prop f SharedBorrowed _)
          (λ a page b other m n. borrower f b other a page n m)

  few_shared : (f : ℕ) → frame_count f s.shared.free ≤ 1
  few_shared f =
      ∥∥₁_elim somehow le_prop
      (λ (usable, legal). let e = legal.held.shared f in
      let m = one-most (in_shared (legal.condition f)) in
      omega arith)

  few_vm : (v f : ℕ) → frame_count f (s.guest v).free ≤ 1
  few_vm v f =
      ∥∥₁_elim somehow le_prop
      (λ (usable, legal). let e = legal.held.vm v f in
      let m = one-most (in_vm v (legal.condition f)) in
      omega arith)

  place_prop : (f : ℕ) (p : Place) → IsProp (IsHeld s f p)
  place_prop f shared_pool = contains_prop s.shared.free f (few_shared f)
  place_prop f (vm_pool v) = contains_prop (s.guest v).free f (few_vm v f)
  place_prop f (table_of component b) = hlevel props
  place_prop f (hand c) = hlevel props

  held_once : HeldOnce l s
  held_once =
      record {
        held = λ f used. sound_here (×_prop (nat_prop _ _) (one_prop (place_prop f) (λ p q. hlevel props)))
            (λ h. h.held_once.held f used);
      }

  loads : LoadsAgree s
  loads = record {
    loaded = λ c k e. sound_here (hlevel props) (λ h. h.slots_agree.loads.loaded c k e);
    loads =
        λ v i c e. sound_here (×_prop (hlevel props) (loaded_prop s v i c)) (λ h. h.slots_agree.loads.loads v i c e);
  }

  guests : GuestsAgree s
  guests = record {
    open_live = λ v e. sound_here (hlevel props) (λ h. h.slots_agree.guests.open_live v e);
    vacant_empty = λ v e. sound_here (hlevel props) (λ h. h.slots_agree.guests.vacant_empty v e);
    same_vm = λ v e. record {
      generation = sound_here (nat_prop _ _) (λ h. (h.slots_agree.guests.same_vm v e).generation);
      kind = sound_here (hlevel props) (λ h. (h.slots_agree.guests.same_vm v e).kind);
    };
  }

  tickets : TicketsAgree s
  tickets = record {
    ticket = λ c t e. record {
      fits = sound_here (stage_prop t.stage _ _) (λ h. (h.slots_agree.tickets.ticket c t e).fits);
      generation = sound_here (nat_prop _ _) (λ h. (h.slots_agree.tickets.ticket c t e).generation);
      kind = sound_here (hlevel props) (λ h. (h.slots_agree.tickets.ticket c t e).kind);
    };
    reserved_once =
        λ v e. sound_here (one_prop (ticket_prop s v) nat_prop) (λ h. h.slots_agree.tickets.reserved_once v e);
    closing_once =
        λ v e. sound_here (one_prop (ticket_prop s v) nat_prop) (λ h. h.slots_agree.tickets.closing_once v e);
  }

  pub sound_once : Sound l s
  sound_once =
      record {
        one_owner = one_owner;
        one_borrower = one_borrower;
        held_once = held_once;
        slots_agree = record { loads = loads; guests = guests; tickets = tickets };
      }

  pub kept_out_once : (v f component page : ℕ) (state : State)
      → owner l s f ≡ 2 + v
      → Maps s component page f state
      → (component ≡ 2 + v) ⊎ ((component ≡ 0) × SharesWithHost s v f)
  kept_out_once v f component page state owned maps = ∥∥₁_elim somehow
      (either_prop (nat_prop _ _) (×_prop (nat_prop _ _) (mapped_prop (2 + v) f SharedOwned))
      (λ a b. let h = b.0 in omega arith))
      (λ (usable, legal). others_kept_out l s v f component page state usable legal owned maps)
