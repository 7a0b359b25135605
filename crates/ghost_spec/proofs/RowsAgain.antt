-- The row from scratch of a frame over what a call uses, and what is used once rows are found again.
use Rattle.std.proofs.Common.{◌≡◌, ℕ, ◌+◌, ◌<◌, ◌&&◌, ◌||◌, ◌==◌, Bool, true, false, Option, Some, None, refl, sym, ap, ◌∙◌, arith}
use Rattle.std.specs.Prelude.{is_some, if◌then◌else◌}
use mathlib.Core.Path.{fun_ext}
use Rattle.descriptor.specs.declared.State.{State}
use Rattle.descriptor.specs.declared.State.TheVariants.{SharedOwned, SharedBorrowed}
use Rattle.page_state.specs.declared.entry.Entry.{Entry}
use Rattle.page_state.specs.declared.entry.Entry.TheVariants.{Unmapped, Malformed, Annotated, Leaf}
use Rattle.page_state.specs.declared.row.Lent.{Lent}
use Rattle.page_state.specs.declared.row.Row.{Row}
use Rattle.page_state.specs.declared.row.Usage.{Usage}
use Rattle.page_state.specs.declared.row.Usage.TheVariants.{Plain, SharedPool, VmPool, InHand}
use Rattle.call_table.specs.declared.step.Step.{Step}
use Rattle.page_state.specs.Geometries.{pages_below}
use Rattle.page_state.specs.Layouts.{Layout, is_memory}
use Rattle.page_state.specs.Map.{empty_map}
use Rattle.page_state.specs.Search.{first_below}
use Rattle.page_state.specs.Trees.{no_tree}
use Rattle.page_state.proofs.Cases.{by_test}
use Rattle.page_state.proofs.Common.{and-right, eq-self, eq-other, same2, same3}
use Rattle.reference_model.specs.declared.changes.Changes.{Changes}
use Rattle.reference_model.specs.model.Changes.{touched}
use Rattle.reference_model.specs.model.Owner.{page_of, is_in_hand, is_free, is_table_frame, row_of, owner_by, sharer, lent_to, lent_at, usage_of, is_in_shared_pool, guest_with, vm_pool_of, holding_cpu}
use Rattle.reference_model.specs.model.Parts.{uses_vms, uses_shared}
use Rattle.reference_model.specs.model.Rules.{names}
use Rattle.reference_model.specs.model.State.{Vms, Shared, Guest, Cpu, Contents, put_at, no_vms, no_guest, no_cpu}
use Rattle.reference_model.specs.model.Step.{own_row, with_rows}
use Rattle.reference_model.specs.model.Used.{Used, put_back, put_guest}
use Rattle.reference_model.proofs.Frames.{is_table_frame-none}
use Rattle.ghost_spec.specs.Kept.{IsLowSlot}
use Rattle.ghost_spec.specs.RowsFound.{owner_or, sharer_found, lender_found, guest_lent, lent_found, pool_found, usage_found, row_found, used_found}
use Rattle.ghost_spec.proofs.FoundPages.{first-is, first-none}

-- the slot of one guest among Empty ones, where it passes a test
abbrev where_holds : Bool → Option ℕ → Option ℕ
where_holds b slot = elim b [ true ↦ slot | false ↦ None ]

no-slot : (b : Bool) → where_holds b None ≡ None
no-slot true = refl
no-slot false = refl

one-guest : (P : Guest → Bool)
    → P no_guest ≡ false
    → (slot : Option ℕ)
    → IsLowSlot slot
    → (g : Guest)
    → first_below 64 (λ v. P (put_guest (λ w. no_guest) slot g v)) ≡ where_holds (P g) slot
one-guest P none None low g = first-none 0 64 (λ v. P no_guest) (λ j h. none) ∙ sym (no-slot (P g))
one-guest P none (Some v) low g =
    let test : ℕ → Bool = λ u. P (put_at (λ w. no_guest) v g u) in
    let by-if : Bool → Bool = λ b. P (if b then g else no_guest) in
    by_test (P g)
    (λ t. first-is 0 64 v test (omega arith) (omega (arith, low)) (ap by-if (eq-self v) ∙ t)
    (λ j h. ap by-if (eq-other j v (λ e. omega (arith, h, e))) ∙ none)
    ∙ sym (ap (λ (b : Bool). where_holds b (Some v)) t))
    (λ t. first-none 0 64 test (λ j h. by_test (j == v) (λ e. ap by-if e ∙ t) (λ e. ap by-if e ∙ none))
    ∙ sym (ap (λ (b : Bool). where_holds b (Some v)) t))

-- a search that found nothing
nothing : (o : Option ℕ) → is_some o ≡ false → o ≡ None
nothing None h = refl
nothing (Some v) h = cc

-- what the first guest of these borrows the frame as
module _ (l : Layout) (s : Shared) (g : Guest) (f : ℕ) where
  abbrev lent-by : ℕ → Option ℕ → Option Lent
  lent-by v o = elim o [ Some page ↦ Some (lent_at (2 + v) page) | None ↦ None ]

  abbrev lent-of : (ℕ → Guest) → Option ℕ → Option Lent
  lent-of guests o = elim o [ Some v ↦ lent-by v (page_of l (guests v).tree.map SharedBorrowed f) | None ↦ None ]

  abbrev borrows : Bool
  borrows = is_some (page_of l g.tree.map SharedBorrowed f)

  lent-slot : (slot : Option ℕ)
      → lent-of (put_guest (λ w. no_guest) slot g) (where_holds borrows slot) ≡ guest_lent l s slot g f
  lent-slot None = ap (lent-of (λ w. no_guest)) (no-slot borrows)
  lent-slot (Some v) =
      let at : Guest → Option Lent = λ x. lent-by v (page_of l x.tree.map SharedBorrowed f) in
      let same : at (put_at (λ w. no_guest) v g v) ≡ at g =
      ap (λ (b : Bool). at (if b then g else no_guest)) (eq-self v) in
      by_test borrows
      (λ t. ap (λ (b : Bool). lent-of (put_at (λ w. no_guest) v g) (where_holds b (Some v))) t ∙ same)
      (λ t. ap (λ (b : Bool). lent-of (put_at (λ w. no_guest) v g) (where_holds b (Some v))) t
      ∙ sym (ap (lent-by v) (nothing (page_of l g.tree.map SharedBorrowed f) t)))

  pub guest-lent-is : (slot : Option ℕ) (found : Option ℕ)
      → found ≡ where_holds borrows slot
      → lent-of (put_guest (λ w. no_guest) slot g) found ≡ guest_lent l s slot g f
  guest-lent-is slot found e = ap (lent-of (put_guest (λ w. no_guest) slot g)) e ∙ lent-slot slot

module _ (l : Layout) (vms : Vms) (s : Shared) (slot : Option ℕ) (low : IsLowSlot slot) (g : Guest) (cpu : ℕ) (k : Cpu)
    (f : ℕ) where
  -- the state of these parts alone
  abbrev pub alone : Contents
  alone = record { vms = vms; shared = s; guest = put_guest (λ v. no_guest) slot g; cpu = put_at (λ c. no_cpu) cpu k }

  no-page : (state : State) → page_of l empty_map state f ≡ None
  no-page state = first-none 0 (pages_below l.depth) (λ page. false) (λ j h. refl)

  guest-is : (state : State) → guest_with l alone f state ≡ where_holds (is_some (page_of l g.tree.map state f)) slot
  guest-is state = one-guest (λ x. is_some (page_of l x.tree.map state f)) (ap is_some (no-page state)) slot low g

  pool-is : vm_pool_of l alone f ≡ pool_found l s slot g f
  pool-is =
      one-guest (λ x. is_free x.free f || is_table_frame l x.tree f)
      (is_table_frame-none l no_tree f (λ b. refl)) slot low g

  abbrev hand-if : Bool → Bool
  hand-if b = is_in_hand (if b then k else no_cpu).hand f

  abbrev hand-at : ℕ → Bool
  hand-at c = hand-if (c == cpu)

  here : hand-at cpu ≡ is_in_hand k.hand f
  here = ap hand-if (eq-self cpu)

  elsewhere : (c : ℕ) → (c ≡ cpu → ⊥) → hand-at c ≡ false
  elsewhere c e = ap hand-if (eq-other c cpu e)

  held : cpu < l.config.cpus → is_in_hand k.hand f ≡ true → holding_cpu l alone f ≡ Some cpu
  held less t =
      first-is 0 l.config.cpus cpu hand-at (omega arith) (omega arith) (here ∙ t)
      (λ j h. elsewhere j (λ e. omega (arith, h, e)))

  not-held : is_in_hand k.hand f ≡ false → holding_cpu l alone f ≡ None
  not-held t =
      first-none 0 l.config.cpus hand-at (λ j h. by_test (j == cpu) (λ e. ap hand-if e ∙ t) (λ e. ap hand-if e))

  abbrev number-of : Option ℕ → ℕ
  number-of o = elim o [ Some v ↦ 2 + v | None ↦ 0 ]

  sharer-by : (o : Option ℕ)
      → number-of (where_holds (is_some o) slot) ≡ elim o [ Some page ↦ number-of slot | None ↦ 0 ]
  sharer-by None = refl
  sharer-by (Some page) = refl

  sharer-is : sharer l alone f ≡ sharer_found l s slot g f
  sharer-is = ap number-of (guest-is SharedOwned) ∙ sharer-by (page_of l g.tree.map SharedOwned f)

  lender-by : (o : Option ℕ) (n : ℕ)
      → ◌≡◌ {A = ℕ} (elim (is_some o) [ true ↦ n | false ↦ 0 ]) (elim o [ Some page ↦ n | None ↦ 0 ])
  lender-by None n = refl
  lender-by (Some page) n = refl

  abbrev lender-if : ℕ → ℕ
  lender-if n = elim (is_some (page_of l s.host.map SharedBorrowed f)) [ true ↦ n | false ↦ 0 ]

  lender-is : lender-if (sharer l alone f) ≡ lender_found l s slot g f
  lender-is = ap lender-if sharer-is ∙ lender-by (page_of l s.host.map SharedBorrowed f) (sharer_found l s slot g f)

  owner-is : (e : Entry) → owner_by l alone f e ≡ owner_or (lender_found l s slot g f) e
  owner-is (Annotated o) = refl
  owner-is Unmapped = lender-is
  owner-is Malformed = lender-is
  owner-is (Leaf frame prot kind state) = lender-is

  abbrev lent-else : Option Lent → Option Lent
  lent-else o = elim (page_of l s.host.map SharedBorrowed f) [
    | Some page ↦ Some (lent_at 0 page)
    | None ↦ elim (page_of l s.hyp.map SharedBorrowed f) [ Some page ↦ Some (lent_at 1 page) | None ↦ o ]
  ]

  lent-is : lent_to l alone f ≡ lent_found l s slot g f
  lent-is = ap lent-else (guest-lent-is l s g f slot (guest_with l alone f SharedBorrowed) (guest-is SharedBorrowed))

  abbrev usage-by : Option ℕ → Option ℕ → Usage
  usage-by o h = elim (is_in_shared_pool l alone f) [
    | true ↦ SharedPool
    | false ↦ elim o [ Some v ↦ VmPool v | None ↦ elim h [ Some c ↦ InHand c | None ↦ Plain ] ]
  ]

  abbrev usage-if : Bool → Usage
  usage-if b = elim (is_in_shared_pool l alone f) [
    | true ↦ SharedPool
    | false ↦ elim (pool_found l s slot g f) [ Some v ↦ VmPool v | None ↦ elim b [ true ↦ InHand cpu | false ↦ Plain ] ]
  ]

  usage-is : cpu < l.config.cpus → usage_of l alone f ≡ usage_found l s slot g f cpu k
  usage-is less = by_test (is_in_hand k.hand f)
      (λ t. same2 usage-by pool-is (held less t) ∙ sym (ap usage-if t))
      (λ t. same2 usage-by pool-is (not-held t) ∙ sym (ap usage-if t))

  abbrev row-with : ℕ → Option Lent → Usage → Row
  row-with owner lent usage = record { owner = record { 0 = owner }; lent = lent; usage = usage }

  pub row-is : cpu < l.config.cpus → row_of l alone f ≡ row_found l s slot g f cpu k
  unfolding row_of
  row-is less = same3 row-with (owner-is (s.host.map f)) lent-is (usage-is less)

pick-same : {X : Type 0} (b : Bool) (p r q : X)
    → (b ≡ true → p ≡ r)
    → ◌≡◌ {A = X} (elim b [ true ↦ p | false ↦ q ]) (elim b [ true ↦ r | false ↦ q ])
pick-same true p r q h = h refl
pick-same false p r q h = refl

module _ (l : Layout) (cpu : ℕ) (slot : Option ℕ) (low : IsLowSlot slot) (step : Step)
    (less : cpu < l.config.cpus) where
  own-row : (y : Used) (f : ℕ)
      → uses_shared (names step) slot ≡ true
      → own_row l cpu slot step y f ≡ row_found l y.shared slot y.guest f cpu y.cpu
  unfolding own_row put_back
  own-row y f on =
      rw on (row-is l (if uses_vms (names step) then y.vms else no_vms) y.shared slot low y.guest cpu y.cpu f less)

  untouched : (h : Changes) (f : ℕ) → touched h ≡ None → is_in_hand (touched h) f ≡ true → ⊥
  untouched h f e t = let bad : false ≡ true = sym (ap (λ o. is_in_hand o f) e) ∙ t in cc

  pub rows-are : (h : Changes) (y : Used)
      → (uses_shared (names step) slot ≡ false → touched h ≡ None)
      → with_rows l cpu slot step h y ≡ used_found l (touched h) slot cpu y
  unfolding with_rows
  rows-are h y none = ap (λ (row : ℕ → Row). record y { shared = record y.shared { row = row } })
      (fun_ext
      (λ f. pick-same (is_memory l f && is_in_hand (touched h) f) (own_row l cpu slot step y f)
      (row_found l y.shared slot y.guest f cpu y.cpu) (y.shared.row f)
      (λ t. by_test (uses_shared (names step) slot)
      (λ u. own-row y f u)
      (λ u. absurd (untouched h f (none u) (and-right (is_memory l f) (is_in_hand (touched h) f) t))))))
