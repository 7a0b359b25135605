-- The boot state is sound.
use Rattle.std.proofs.Common.{◌≡◌, ◌≢◌, ℕ, zero, suc, ◌+◌, ◌-◌, ◌≤◌, ◌<◌, refl, ap, sym, ◌∙◌, subst, arith, inl, inr, [], length, drop, Contains}
use Rattle.std.specs.Prelude.{Bool, true, false, ◌||◌, ◌==◌, nat_lt, is_some, ◌⊎◌, IsTrue, Option, Some, None, if◌then◌else◌}
use Rattle.std.proofs.lemmas.Bool.Decides.{nat_tests}
use Rattle.descriptor.specs.declared.Kind.TheVariants.{Normal}
use Rattle.descriptor.specs.declared.Prot.TheVariants.{RW}
use Rattle.descriptor.specs.declared.State.{State}
use Rattle.descriptor.specs.declared.State.TheVariants.{Owned, SharedOwned, SharedBorrowed}
use Rattle.page_state.specs.declared.entry.Entry.{Entry}
use Rattle.page_state.specs.declared.entry.Entry.TheVariants.{Unmapped, Leaf}
use Rattle.page_state.specs.declared.row.Usage.TheVariants.{Plain, SharedPool, VmPool, InHand}
use Rattle.page_state.specs.Map.{is_within}
use Rattle.page_state.specs.EntryTests.{annotation, maps_frame}
use Rattle.page_state.specs.Geometries.{pages_below}
use Rattle.page_state.specs.Trees.{Block, Tree, no_tree, frames_from}
use Rattle.reference_model.specs.model.State.{vacant, reserved, opened, closing}
use Rattle.page_state.specs.Layouts.{Layout, is_memory, hyp_page}
use Rattle.reference_model.specs.model.Owner.{row_of, is_free, is_table_frame, is_in_hand, is_in_shared_pool, vm_pool_of, holding_cpu, is_lent_to_host, sharer, owner_by}
use Rattle.page_state.specs.Tables.{needs, edited}
use Rattle.reference_model.specs.claims.Sound.{IsOne, IsLeafOf, Maps, Holds, IsHostsOwn, owner, usage, OneOwner, OneBorrower, Place, shared_pool, vm_pool, table_of, hand, IsHeld, HeldOnce, SlotsAgree}
use Rattle.reference_model.specs.model.Boot.{carve_first, host_edit, hyp_edit, host_root, hyp_root, spare, host_need, hyp_need, IsCarveEnough, booted}
use Rattle.reference_model.specs.claims.Laws.{BootSound}
use Rattle.page_state.proofs.Common.{both, if-true, if-false}
use Rattle.reference_model.proofs.Frames.{first_from-none, is_table_frame-none, is_table_frame-block, is_free-contains, drop-frames, contains-frames, nth, tables-of}
use Rattle.reference_model.proofs.conditions.Stands.{when-not}

-- a frame of the carve-out
abbrev InCarve : Layout → ℕ → Type 0
InCarve l f = (carve_first l ≤ f) × (f < carve_first l + l.memory.carve.count)

-- the maps at boot

host-at : (l : Layout) (page : ℕ)
    → (booted l).shared.host.map page
    ≡ (if is_within (carve_first l) l.memory.carve.count page then annotation 1 else Unmapped)
unfolding booted edited
host-at l page = refl

hyp-at : (l : Layout) (page : ℕ)
    → (booted l).shared.hyp.map page
    ≡ (if is_within (hyp_page (carve_first l)) l.memory.carve.count page
    then Leaf (record { 0 = carve_first l + (page - hyp_page (carve_first l)) }) RW Normal Owned
    else Unmapped)
unfolding booted edited
hyp-at l page = refl

-- who maps a frame

host-maps : (l : Layout) (page f : ℕ) (state : State) → IsLeafOf f state ((booted l).shared.host.map page) → ⊥
host-maps l page f state h = elim (both (is_within (carve_first l) l.memory.carve.count page)) [
  | inl i ↦ let no_leaf : IsLeafOf f state (annotation 1) =
      subst (IsLeafOf f state) (host-at l page ∙ if-true _ (annotation 1) Unmapped i) h in
      no_leaf
  | inr i ↦ let no_leaf : IsLeafOf f state Unmapped =
      subst (IsLeafOf f state) (host-at l page ∙ if-false _ (annotation 1) Unmapped i) h in
      no_leaf
]

hyp-maps : (l : Layout) (page f : ℕ) (state : State)
    → IsLeafOf f state ((booted l).shared.hyp.map page)
    → (page ≡ hyp_page f) × InCarve l f × (Owned ≡ state)
hyp-maps l page f state h = elim (both (is_within (hyp_page (carve_first l)) l.memory.carve.count page)) [
  | inl i ↦
      let e : Entry = Leaf (record { 0 = carve_first l + (page - hyp_page (carve_first l)) }) RW Normal Owned in
      let a : (carve_first l + (page - hyp_page (carve_first l)) ≡ f) × (Owned ≡ state) =
      subst (IsLeafOf f state) (hyp-at l page ∙ if-true _ e Unmapped i) h in
      let is : carve_first l + (page - hyp_page (carve_first l)) ≡ f = a.0 in
      let low : hyp_page (carve_first l) ≤ page = grind (arith, nat_tests) in
      let high : page < hyp_page (carve_first l) + l.memory.carve.count = grind (arith, nat_tests) in
      (omega arith, (omega arith, omega arith), a.1)
  | inr i ↦
      let no_leaf : IsLeafOf f state Unmapped = subst (IsLeafOf f state) (hyp-at l page ∙ if-false _ _ Unmapped i) h in
      absurd no_leaf
]

guest-maps : (l : Layout) (v page f : ℕ) (state : State) → IsLeafOf f state (((booted l).guest v).tree.map page) → ⊥
unfolding booted
guest-maps l v page f state h = h

-- what maps a frame at boot is the hypervisor's page of a frame of the carve-out, in state Owned
record MapsAtBoot (l : Layout) (component page f : ℕ) (state : State) : Type 0 where
  hyps : component ≡ 1
  page_is : page ≡ hyp_page f
  carved : InCarve l f
  is_owned : Owned ≡ state

maps-booted : (l : Layout) (component page f : ℕ) (state : State)
    → Maps (booted l) component page f state
    → MapsAtBoot l component page f state
maps-booted l zero page f state h = absurd (host-maps l page f state h)
maps-booted l (suc zero) page f state h = let a = hyp-maps l page f state h in
    record { hyps = refl; page_is = a.0; carved = a.1; is_owned = a.2 }
maps-booted l (suc (suc v)) page f state h = absurd (guest-maps l v page f state h)

-- and each frame of the carve-out is mapped so
carve-maps : (l : Layout) (f : ℕ) → InCarve l f → Maps (booted l) 1 (hyp_page f) f Owned
carve-maps l f a =
    let low : carve_first l ≤ f = a.0 in
    let high : f < carve_first l + l.memory.carve.count = a.1 in
    let i : is_within (hyp_page (carve_first l)) l.memory.carve.count (hyp_page f) ≡ true = grind (arith, nat_tests) in
    let e : Entry = Leaf (record { 0 = carve_first l + (hyp_page f - hyp_page (carve_first l)) }) RW Normal Owned in
    let n : carve_first l + (hyp_page f - hyp_page (carve_first l)) ≡ f = omega arith in
    subst (IsLeafOf f Owned) (sym (hyp-at l (hyp_page f) ∙ if-true _ e Unmapped i)) (n, refl)

-- the owners at boot

owner-carve : (l : Layout) (f : ℕ) → InCarve l f → owner l (booted l) f ≡ 1
unfolding row_of
owner-carve l f a =
    let low : carve_first l ≤ f = a.0 in
    let high : f < carve_first l + l.memory.carve.count = a.1 in
    let i : is_within (carve_first l) l.memory.carve.count f ≡ true = grind (arith, nat_tests) in
    rw (host-at l f, i)

host-other : (l : Layout) (f : ℕ)
    → is_within (carve_first l) l.memory.carve.count f ≡ false
    → (booted l).shared.host.map f ≡ Unmapped
host-other l f i = host-at l f ∙ if-false _ (annotation 1) Unmapped i

-- the host borrows nothing
host-borrows : (l : Layout) (f page : ℕ) → maps_frame f SharedBorrowed ((booted l).shared.host.map page) ≡ false
host-borrows l f page = rw (host-at l page) (go (is_within (carve_first l) l.memory.carve.count page))
  where
    go : (b : Bool) → maps_frame f SharedBorrowed (if b then annotation 1 else Unmapped) ≡ false
    go true = refl
    go false = refl

not-lent : (l : Layout) (f : ℕ) → is_lent_to_host l (booted l) f ≡ false
not-lent l f =
    ap is_some
    (first_from-none 0 (pages_below l.depth)
    (λ page. maps_frame f SharedBorrowed ((booted l).shared.host.map page)) (host-borrows l f))

owner-other : (l : Layout) (f : ℕ) → is_within (carve_first l) l.memory.carve.count f ≡ false → owner l (booted l) f ≡ 0
unfolding row_of
owner-other l f i =
    ap (owner_by l (booted l) f) (host-other l f i)
    ∙ when-not (is_lent_to_host l (booted l) f) (sharer l (booted l) f) (not-lent l f)

is_within-carve : (l : Layout) (f : ℕ) → is_within (carve_first l) l.memory.carve.count f ≡ true → InCarve l f
is_within-carve l f i = (grind (arith, nat_tests), grind (arith, nat_tests))

one_owner : (l : Layout) → OneOwner l (booted l)
one_owner l = record { host_owned = host_owned; owned = owned; no_other = no_other }
  where
    host_owned : (f : ℕ)
        → IsTrue (is_memory l f)
        → owner l (booted l) f ≡ 0
        → IsHostsOwn f ((booted l).shared.host.map f)
    host_owned f m o = elim (both (is_within (carve_first l) l.memory.carve.count f)) [
      | inl i ↦ absurd (let a = owner-carve l f (is_within-carve l f i) in omega arith)
      | inr i ↦ inl (host-other l f i)
    ]

    single : (f : ℕ) → InCarve l f → IsOne (λ page. Holds (booted l) 1 page f)
    single f a = (
      hyp_page f,
      inl (carve-maps l f a),
      λ page h. elim h [
        | inl m ↦ (maps-booted l 1 page f Owned m).page_is
        | inr m ↦ (maps-booted l 1 page f SharedOwned m).page_is
      ],
    )

    owned : (f : ℕ)
        → IsTrue (is_memory l f)
        → owner l (booted l) f ≢ 0
        → IsOne (λ page. Holds (booted l) (owner l (booted l) f) page f)
    owned f m o = elim (both (is_within (carve_first l) l.memory.carve.count f)) [
      | inl i ↦ let a = is_within-carve l f i in
          subst (λ c. IsOne (λ page. Holds (booted l) c page f)) (sym (owner-carve l f a)) (single f a)
      | inr i ↦ absurd (o (owner-other l f i))
    ]

    by_map : (f component page : ℕ) (state : State)
        → Maps (booted l) component page f state
        → component ≡ owner l (booted l) f
    by_map f component page state m = let a = maps-booted l component page f state m in
        a.hyps ∙ sym (owner-carve l f a.carved)

    no_other : (f component page : ℕ) → Holds (booted l) component page f → component ≡ owner l (booted l) f
    no_other f component page h =
        elim h [ inl a ↦ by_map f component page Owned a | inr a ↦ by_map f component page SharedOwned a ]

not-borrowed : (l : Layout) (component page f : ℕ) → Maps (booted l) component page f SharedBorrowed → ⊥
not-borrowed l component page f m = let e = (maps-booted l component page f SharedBorrowed m).is_owned in cc

not-shared : (l : Layout) (component page f : ℕ) → Maps (booted l) component page f SharedOwned → ⊥
not-shared l component page f m = let e = (maps-booted l component page f SharedOwned m).is_owned in cc

one_borrower : (l : Layout) → OneBorrower l (booted l)
one_borrower l = record {
  one_borrower = λ f a page b other m n. absurd (not-borrowed l a page f m);
  lent = λ f. (λ h. absurd (not-borrowed l h.0 h.1 f h.2), λ h. absurd (not-shared l (owner l (booted l) f) h.0 f h.1));
}

-- where frames are held at boot

-- the first frame of the hypervisor's new tables, and of the pool
abbrev hyp_tables : Layout → ℕ
hyp_tables l = carve_first l + 2 + host_need l

abbrev pool_first : Layout → ℕ
pool_first l = hyp_tables l + hyp_need l

-- the place of each frame of the carve-out
abbrev place_of : Layout → ℕ → Place
place_of l f =
    if f == carve_first l then table_of 0 (l.depth + 1, 0)
    else if f == carve_first l + 1 then table_of 1 (l.depth + 1, 0)
    else if nat_lt f (hyp_tables l)
    then table_of 0 (nth (needs l.depth (host_root l) (host_edit l)) (f - (carve_first l + 2)))
    else if nat_lt f (pool_first l) then table_of 1 (nth (needs l.depth (hyp_root l) (hyp_edit l)) (f - hyp_tables l))
    else shared_pool

pub spare-frames : (l : Layout) → spare l ≡ frames_from (carve_first l + 2) (l.memory.carve.count - 2)
spare-frames l = drop-frames 2 (carve_first l) l.memory.carve.count

after-host : (l : Layout)
    → drop (host_need l) (spare l) ≡ frames_from (hyp_tables l) (l.memory.carve.count - 2 - host_need l)
after-host l =
    ap (drop (host_need l)) (spare-frames l) ∙ drop-frames (host_need l) (carve_first l + 2) (l.memory.carve.count - 2)

after-hyp : (l : Layout)
    → drop (host_need l + hyp_need l) (spare l)
    ≡ frames_from (carve_first l + 2 + (host_need l + hyp_need l))
    (l.memory.carve.count - 2 - (host_need l + hyp_need l))
after-hyp l =
    ap (drop (host_need l + hyp_need l)) (spare-frames l)
    ∙ drop-frames (host_need l + hyp_need l) (carve_first l + 2) (l.memory.carve.count - 2)

-- what holds frames at boot

host-tree : (l : Layout) → (booted l).shared.host ≡ edited l.depth (host_root l) (host_edit l) (spare l)
unfolding booted
host-tree l = refl

hyp-tree : (l : Layout)
    → (booted l).shared.hyp ≡ edited l.depth (hyp_root l) (hyp_edit l) (drop (host_need l) (spare l))
unfolding booted
hyp-tree l = refl

pool-at : (l : Layout) → (booted l).shared.free ≡ drop (host_need l + hyp_need l) (spare l)
unfolding booted
pool-at l = refl

guest-pool : (l : Layout) (v : ℕ) → ((booted l).guest v).free ≡ []
unfolding booted
guest-pool l v = refl

guest-tree : (l : Layout) (v : ℕ) → ((booted l).guest v).tree ≡ no_tree
unfolding booted
guest-tree l v = refl

hand-at : (l : Layout) (c : ℕ) → ((booted l).cpu c).hand ≡ None
unfolding booted
hand-at l c = refl

-- each place in turn

pool-place : (l : Layout)
    → IsCarveEnough l
    → (f : ℕ)
    → Contains (booted l).shared.free f
    → (shared_pool ≡ place_of l f) × InCarve l f
pool-place l enough f h =
    let at =
    contains-frames (carve_first l + 2 + (host_need l + hyp_need l))
    (l.memory.carve.count - 2 - (host_need l + hyp_need l)) f
    (subst (λ fs. Contains fs f) (pool-at l ∙ after-hyp l) h) in
    let low : carve_first l + 2 + (host_need l + hyp_need l) ≤ f = at.0 in
    let high : f < carve_first l + 2 + (host_need l + hyp_need l) + (l.memory.carve.count - 2 - (host_need l + hyp_need l)) =
    at.1 in
    let a : (f == carve_first l) ≡ false = grind (arith, nat_tests) in
    let b : (f == carve_first l + 1) ≡ false = grind (arith, nat_tests) in
    let c : nat_lt f (hyp_tables l) ≡ false = grind (arith, nat_tests) in
    let d : nat_lt f (pool_first l) ≡ false = grind (arith, nat_tests) in
    (simp (a, b, c, d), (omega arith, omega arith))

host-place : (l : Layout)
    → IsCarveEnough l
    → (f : ℕ) (block : Block)
    → (booted l).shared.host.table block ≡ Some f
    → (table_of 0 block ≡ place_of l f) × InCarve l f
host-place l enough f block h =
    let stands : (edited l.depth (host_root l) (host_edit l) (spare l)).table block ≡ Some f =
    subst (λ (t : Tree). t.table block ≡ Some f) (host-tree l) h in
    elim
    (tables-of l.depth (carve_first l) (host_edit l) (carve_first l + 2) (l.memory.carve.count - 2)
    (spare l) block f (spare-frames l) stands) [
      | inl at ↦
          let e : f ≡ carve_first l = at.0 in
          let a : (f == carve_first l) ≡ true = grind (arith, nat_tests) in
          (ap (table_of 0) at.1 ∙ simp a, (omega arith, omega arith))
      | inr at ↦
          let low : carve_first l + 2 ≤ f = at.0 in
          let high : f < carve_first l + 2 + host_need l = at.1 in
          let a : (f == carve_first l) ≡ false = grind (arith, nat_tests) in
          let b : (f == carve_first l + 1) ≡ false = grind (arith, nat_tests) in
          let c : nat_lt f (hyp_tables l) ≡ true = grind (arith, nat_tests) in
          (ap (table_of 0) at.2 ∙ simp (a, b, c), (omega arith, omega arith))
    ]

hyp-place : (l : Layout)
    → IsCarveEnough l
    → (f : ℕ) (block : Block)
    → (booted l).shared.hyp.table block ≡ Some f
    → (table_of 1 block ≡ place_of l f) × InCarve l f
hyp-place l enough f block h =
    let stands : (edited l.depth (hyp_root l) (hyp_edit l) (drop (host_need l) (spare l))).table block ≡ Some f =
    subst (λ (t : Tree). t.table block ≡ Some f) (hyp-tree l) h in
    elim
    (tables-of l.depth (carve_first l + 1) (hyp_edit l) (hyp_tables l) (l.memory.carve.count - 2 - host_need l)
    (drop (host_need l) (spare l)) block f (after-host l) stands) [
      | inl at ↦
          let e : f ≡ carve_first l + 1 = at.0 in
          let a : (f == carve_first l) ≡ false = grind (arith, nat_tests) in
          let b : (f == carve_first l + 1) ≡ true = grind (arith, nat_tests) in
          (ap (table_of 1) at.1 ∙ simp (a, b), (omega arith, omega arith))
      | inr at ↦
          let low : hyp_tables l ≤ f = at.0 in
          let high : f < hyp_tables l + hyp_need l = at.1 in
          let a : (f == carve_first l) ≡ false = grind (arith, nat_tests) in
          let b : (f == carve_first l + 1) ≡ false = grind (arith, nat_tests) in
          let c : nat_lt f (hyp_tables l) ≡ false = grind (arith, nat_tests) in
          let d : nat_lt f (pool_first l) ≡ true = grind (arith, nat_tests) in
          (ap (table_of 1) at.2 ∙ simp (a, b, c, d), (omega arith, omega arith))
    ]

none-some : {X : Type 0} {x : X} → None ≡ Some x → ⊥
none-some h = cc

nil-contains : (f : ℕ) → Contains [] f → ⊥
nil-contains f h = let k : h.0 < length {A = ℕ} [] = h.1 in omega arith

-- a frame that is held is one of the carve-out, and held at its place
held-place : (l : Layout)
    → IsCarveEnough l
    → (f : ℕ) (p : Place)
    → IsHeld (booted l) f p
    → (p ≡ place_of l f) × InCarve l f
held-place l enough f shared_pool h = pool-place l enough f h
held-place l enough f (vm_pool v) h = absurd (nil-contains f (subst (λ fs. Contains fs f) (guest-pool l v) h))
held-place l enough f (table_of zero b) h = host-place l enough f b h
held-place l enough f (table_of (suc zero) b) h = hyp-place l enough f b h
held-place l enough f (table_of (suc (suc v)) b) h =
    absurd (none-some (sym (ap (λ (t : Tree). t.table b) (guest-tree l v)) ∙ h))
held-place l enough f (hand c) h = let no_hand : false ≡ true = sym (ap (λ r. is_in_hand r f) (hand-at l c)) ∙ h in cc

-- a frame in use is held somewhere

vm_pool-none : (l : Layout) (f : ℕ) → vm_pool_of l (booted l) f ≡ None
vm_pool-none l f =
    first_from-none 0 64 (λ v. is_free ((booted l).guest v).free f || is_table_frame l ((booted l).guest v).tree f)
    (λ v. rw (guest-pool l v, guest-tree l v) (is_table_frame-none l no_tree f (λ b. refl)))

hand-none : (l : Layout) (f : ℕ) → holding_cpu l (booted l) f ≡ None
hand-none l f = first_from-none 0 l.config.cpus (λ c. is_in_hand ((booted l).cpu c).hand f) (λ c. rw (hand-at l c))

usage-plain : (l : Layout) (f : ℕ) → is_in_shared_pool l (booted l) f ≡ false → usage l (booted l) f ≡ Plain
unfolding row_of
usage-plain l f h =
    go (is_in_shared_pool l (booted l) f) (vm_pool_of l (booted l) f) (holding_cpu l (booted l) f) h (vm_pool-none l f)
    (hand-none l f)
  where
    go : (a : Bool) (v c : Option ℕ)
        → a ≡ false
        → v ≡ None
        → c ≡ None
        → elim a [
          | true ↦ SharedPool
          | false ↦ elim v [ Some u ↦ VmPool u | None ↦ elim c [ Some d ↦ InHand d | None ↦ Plain ] ]
        ]
        ≡ Plain
    go a v c p q r = rw (p, q, r)

one_of : (a b c : Bool) → a || b || c ≡ true → (a ≡ true) ⊎ (b ≡ true) ⊎ (c ≡ true)
one_of true b c h = inl refl
one_of false true c h = inr (inl refl)
one_of false false c h = inr (inr h)

in-use : (l : Layout) (f : ℕ) → is_in_shared_pool l (booted l) f ≡ true → (p : Place) × IsHeld (booted l) f p
in-use l f h =
    elim
    (one_of (is_free (booted l).shared.free f) (is_table_frame l (booted l).shared.host f)
    (is_table_frame l (booted l).shared.hyp f) h) [
      | inl a ↦ (shared_pool, is_free-contains (booted l).shared.free f a)
      | inr (inl a) ↦ let found = is_table_frame-block l (booted l).shared.host f a in (table_of 0 found.0, found.1)
      | inr (inr a) ↦ let found = is_table_frame-block l (booted l).shared.hyp f a in (table_of 1 found.0, found.1)
    ]

held_once : (l : Layout) → IsCarveEnough l → HeldOnce l (booted l)
held_once l enough = record { held = held }
  where
    at_place : (f : ℕ) (p : Place) → IsHeld (booted l) f p → (owner l (booted l) f ≡ 1) × IsOne (IsHeld (booted l) f)
    at_place f p h =
        let here = held-place l enough f p h in
        (owner-carve l f here.1, (p, h, λ q k. (held-place l enough f q k).0 ∙ sym here.0))

    held : (f : ℕ) → usage l (booted l) f ≢ Plain → (owner l (booted l) f ≡ 1) × IsOne (IsHeld (booted l) f)
    held f u = elim (both (is_in_shared_pool l (booted l) f)) [
      | inl i ↦ let found = in-use l f i in at_place f found.0 found.1
      | inr i ↦ absurd (u (usage-plain l f i))
    ]

vacant-opened : vacant ≡ opened → ⊥
vacant-opened h = cc

vacant-reserved : vacant ≡ reserved → ⊥
vacant-reserved h = cc

vacant-closing : vacant ≡ closing → ⊥
vacant-closing h = cc

slots_agree : (l : Layout) → SlotsAgree (booted l)
unfolding booted
slots_agree l = record {
  loads = record { loaded = λ c k e. absurd (none-some e); loads = λ v i c e. absurd (none-some e) };
  guests =
      record {
        open_live = λ v e. absurd (vacant-opened e);
        vacant_empty = λ v e. refl;
        same_vm = λ v e. absurd (e refl);
      };
  tickets =
      record {
        ticket = λ c t e. absurd (none-some e);
        reserved_once = λ v e. absurd (vacant-reserved e);
        closing_once = λ v e. absurd (vacant-closing e);
      };
}

pub boot_sound : BootSound
boot_sound l enough =
    record {
      one_owner = one_owner l;
      one_borrower = one_borrower l;
      held_once = held_once l enough;
      slots_agree = slots_agree l;
    }
