-- A legal state is sound.
use Rattle.std.proofs.Common.{◌≡◌, ◌≢◌, ℕ, zero, suc, ◌+◌, ◌≤◌, ◌<◌, refl, ap, sym, ◌∙◌, subst, arith, inl, inr, List, [], ◌∷◌, length, Contains, slice_index_or}
use Rattle.std.specs.Prelude.{Bool, true, false, ◌&&◌, ◌==◌, Option, Some, None}
use Rattle.std.proofs.lemmas.Bool.Decides.{nat_tests}
use Rattle.descriptor.specs.declared.Prot.TheVariants.{RW, RWX}
use Rattle.descriptor.specs.declared.State.{State}
use Rattle.descriptor.specs.declared.State.TheVariants.{Owned, SharedOwned, SharedBorrowed}
use Rattle.page_state.specs.declared.entry.Entry.{Entry}
use Rattle.page_state.specs.declared.entry.Entry.TheVariants.{Unmapped, Malformed, Annotated, Leaf}
use Rattle.page_state.specs.declared.row.Lent.{Lent}
use Rattle.page_state.specs.declared.row.Usage.{Usage}
use Rattle.page_state.specs.declared.row.Usage.TheVariants.{Plain, SharedPool, VmPool, InHand}
use Rattle.page_state.specs.EntryTests.{maps_frame, state_eq, leaf, device_leaf}
use Rattle.page_state.specs.Trees.{Block, Tree}
use Rattle.reference_model.specs.model.State.{Contents}
use Rattle.page_state.specs.Layouts.{Layout, is_memory, hyp_page}
use Rattle.reference_model.specs.model.Owner.{lent_at}
use Rattle.page_state.specs.Counts.{is_one, frame_count}
use Rattle.reference_model.specs.claims.Sound.{IsOne, IsLeafOf, Maps, Holds, IsHostsOwn, owner, usage, OneOwner, IsBorrowed, OneBorrower, Place, shared_pool, vm_pool, table_of, hand, IsHeld, HeldOnce, Sound}
use Rattle.reference_model.specs.help.Conditions.{Condition, outside, hosts, with_hyp, hyps, with_guest, guests, lent_back, HostFits, hyp_entry_by, guest_condition, Legal, IsUsable, row_in, in_shared, in_vm, in_hand, one, table_uses, shared_uses, guest_uses, is_inside}
use Rattle.reference_model.specs.claims.RowLaws.{use_of}
use Rattle.reference_model.specs.claims.RunLaws.{LegalSound}
use Rattle.page_state.proofs.Cases.{by_lt}
use Rattle.page_state.proofs.Common.{eq-same, eq-made, eq-self, and-both}
use Rattle.page_state.proofs.Counts.{count_next}
use Rattle.coarse_trees.specs.Coarsest.{IsCoarsest}
use Rattle.reference_model.proofs.conditions.Stands.{SharedStands, GuestsStand, HandsStand, usage-stands, is_free-count, is_table_frame-uses}
use Rattle.reference_model.proofs.Frames.{is_free-contains, is_table_frame-block}
use Rattle.reference_model.proofs.conditions.Tables.{uses_of, uses-some, uses-once}
use Rattle.reference_model.proofs.conditions.OfLegal.{shared-of, guests-of, legal_rows, leaf-maps, leaf-state, unmapped-none, annotated-none, state_eq-same, state_eq-self}

-- the two ways to say that an entry is a leaf of the frame

to-test : (f : ℕ) (state : State) (e : Entry) → IsLeafOf f state e → maps_frame f state e ≡ true
to-test f state (Leaf frame prot kind other) h =
    go (frame.0 == f) (state_eq other state) (eq-made frame.0 f h.0)
    (subst (λ a. state_eq other a ≡ true) h.1 (state_eq-self other))
  where
    go : (a b : Bool) → a ≡ true → b ≡ true → a && b ≡ true
    go true b p q = q
    go false b p q = cc
to-test f state Unmapped h = absurd h
to-test f state Malformed h = absurd h
to-test f state (Annotated o) h = absurd h

from-test : (f : ℕ) (state : State) (e : Entry) → maps_frame f state e ≡ true → IsLeafOf f state e
from-test f state (Leaf frame prot kind other) h = let p = and-both (frame.0 == f) (state_eq other state) h in
    (eq-same frame.0 f p.0, state_eq-same other state p.1)
from-test f state Unmapped h = cc
from-test f state Malformed h = cc
from-test f state (Annotated o) h = cc

IsBorrow : State → Type 0
IsBorrow state = state ≡ SharedBorrowed

device-state : (f : ℕ) (state : State) (e : Entry) → e ≡ device_leaf f → maps_frame f state e ≡ true → Owned ≡ state
device-state f state e h m =
    state_eq-same Owned state ((and-both (f == f) (state_eq Owned state) (sym (ap (maps_frame f state) h) ∙ m)).1)

-- the owner's number, by who maps the frame in a state that is the owner's alone

fits-owner : (f : ℕ) (c : Condition) (state : State) (e : Entry)
    → HostFits f c e
    → maps_frame f state e ≡ true
    → (state ≡ SharedBorrowed → ⊥)
    → 0 ≡ (row_in f c).owner.0
fits-owner f outside state e h m n = refl
fits-owner f hosts state e h m n = refl
fits-owner f with_hyp state e h m n = refl
fits-owner f (hyps u) state e h m n = annotated-none f 1 state e h m
fits-owner f (with_guest v g) state e h m n = refl
fits-owner f (guests v g) state e h m n = annotated-none f (2 + v) state e h m
fits-owner f (lent_back v g) state e h m n = absurd (n (sym (leaf-state RWX f f SharedBorrowed state e h m)))

says-owner : (f : ℕ) (c : Condition) (state : State) (e : Entry)
    → e ≡ hyp_entry_by f c
    → maps_frame f state e ≡ true
    → (state ≡ SharedBorrowed → ⊥)
    → 1 ≡ (row_in f c).owner.0
says-owner f with_hyp state e h m n = absurd (n (sym (leaf-state RW f f SharedBorrowed state e h m)))
says-owner f (hyps u) state e h m n = refl
says-owner f outside state e h m n = unmapped-none f state e h m
says-owner f hosts state e h m n = unmapped-none f state e h m
says-owner f (with_guest v g) state e h m n = unmapped-none f state e h m
says-owner f (guests v g) state e h m n = unmapped-none f state e h m
says-owner f (lent_back v g) state e h m n = unmapped-none f state e h m

guest-owner : (f v p : ℕ) (state : State)
    → (state ≡ SharedBorrowed → ⊥)
    → suc (suc v) ≡ (row_in f (guest_condition state v p)).owner.0
guest-owner f v p Owned n = omega arith
guest-owner f v p SharedOwned n = omega arith
guest-owner f v p SharedBorrowed n = absurd (n refl)

-- to whom it is lent, by who borrows it

fits-lent : (f : ℕ) (c : Condition) (e : Entry)
    → HostFits f c e
    → maps_frame f SharedBorrowed e ≡ true
    → (row_in f c).lent ≡ Some (lent_at 0 f)
fits-lent f outside e (inl h) m = unmapped-none f SharedBorrowed e h m
fits-lent f outside e (inr h) m = let s = device-state f SharedBorrowed e h m in cc
fits-lent f hosts e (inl h) m = unmapped-none f SharedBorrowed e h m
fits-lent f hosts e (inr h) m = let s = leaf-state RWX f f Owned SharedBorrowed e h m in cc
fits-lent f with_hyp e h m = let s = leaf-state RWX f f SharedOwned SharedBorrowed e h m in cc
fits-lent f (hyps u) e h m = annotated-none f 1 SharedBorrowed e h m
fits-lent f (with_guest v g) e h m = let s = leaf-state RWX f f SharedOwned SharedBorrowed e h m in cc
fits-lent f (guests v g) e h m = annotated-none f (2 + v) SharedBorrowed e h m
fits-lent f (lent_back v g) e h m = refl

says-lent : (f : ℕ) (c : Condition) (e : Entry)
    → e ≡ hyp_entry_by f c
    → maps_frame f SharedBorrowed e ≡ true
    → (row_in f c).lent ≡ Some (lent_at 1 (hyp_page f))
says-lent f with_hyp e h m = refl
says-lent f (hyps u) e h m = let s = leaf-state RW f f Owned SharedBorrowed e h m in cc
says-lent f outside e h m = unmapped-none f SharedBorrowed e h m
says-lent f hosts e h m = unmapped-none f SharedBorrowed e h m
says-lent f (with_guest v g) e h m = unmapped-none f SharedBorrowed e h m
says-lent f (guests v g) e h m = unmapped-none f SharedBorrowed e h m
says-lent f (lent_back v g) e h m = unmapped-none f SharedBorrowed e h m

pub two-more : (v : ℕ) → 2 + v ≡ suc (suc v)
two-more v = omega arith

one-none : (f p q : ℕ) (a b : State) → IsLeafOf f a Unmapped → p ≡ q
one-none f p q a b h = absurd h

module _ (l : Layout) (s : Contents) (f : ℕ) (c : Condition) (x : SharedStands l s.shared f c)
    (g : GuestsStand l s.guest f c) where
  host-at : (page : ℕ) (state : State)
      → Maps s 0 page f state
      → (page ≡ f) × (maps_frame f state (s.shared.host.map f) ≡ true)
  host-at page state m =
      let t = to-test f state (s.shared.host.map page) m in
      let e = x.host_alone page state t in
      (e, subst (λ p. maps_frame f state (s.shared.host.map p) ≡ true) e t)

  hyp-at : (page : ℕ) (state : State)
      → Maps s 1 page f state
      → (page ≡ hyp_page f) × (maps_frame f state (s.shared.hyp.map (hyp_page f)) ≡ true)
  hyp-at page state m =
      let t = to-test f state (s.shared.hyp.map page) m in
      let e = x.hyp_alone page state t in
      (e, subst (λ p. maps_frame f state (s.shared.hyp.map p) ≡ true) e t)

  guest-at : (v page : ℕ) (state : State) → Maps s (suc (suc v)) page f state → c ≡ guest_condition state v page
  guest-at v page state m = g.alone v page state (to-test f state ((s.guest v).tree.map page) m)

  -- who maps the frame as its owner alone does
  pub owner-of : (component page : ℕ) (state : State)
      → Maps s component page f state
      → (state ≡ SharedBorrowed → ⊥)
      → component ≡ (row_in f c).owner.0
  owner-of zero page state m n = fits-owner f c state (s.shared.host.map f) x.host (host-at page state m).1 n
  owner-of (suc zero) page state m n =
      says-owner f c state (s.shared.hyp.map (hyp_page f)) x.hyp (hyp-at page state m).1 n
  owner-of (suc (suc v)) page state m n =
      guest-owner f v page state n ∙ ap (λ d. (row_in f d).owner.0) (sym (guest-at v page state m))

  -- who borrows it
  pub lent-of : (component page : ℕ)
      → Maps s component page f SharedBorrowed
      → (row_in f c).lent ≡ Some (lent_at component page)
  lent-of zero page m = let at = host-at page SharedBorrowed m in
      fits-lent f c (s.shared.host.map f) x.host at.1 ∙ ap (λ p. Some (lent_at 0 p)) (sym at.0)
  lent-of (suc zero) page m = let at = hyp-at page SharedBorrowed m in
      says-lent f c (s.shared.hyp.map (hyp_page f)) x.hyp at.1 ∙ ap (λ p. Some (lent_at 1 p)) (sym at.0)
  lent-of (suc (suc v)) page m =
      ap (λ d. (row_in f d).lent) (guest-at v page SharedBorrowed m) ∙ ap (λ n. Some (lent_at n page)) (two-more v)

  pub guest-maps : (v p : ℕ) (state : State) → c ≡ guest_condition state v p → Maps s (2 + v) p f state
  guest-maps v p state h =
      subst (λ n. Maps s n p f state) (sym (two-more v))
      (from-test f state ((s.guest v).tree.map p) (g.has v p state h))

pub holds-state : (s : Contents) (component page f : ℕ) {P : Type 0}
    → Holds s component page f
    → ((state : State) → Maps s component page f state → (state ≡ SharedBorrowed → ⊥) → P)
    → P
holds-state s component page f (inl m) k = k Owned m (λ e. cc)
holds-state s component page f (inr m) k = k SharedOwned m (λ e. cc)

pub some-lent : {a b p q : ℕ} → Some (lent_at a p) ≡ Some (lent_at b q) → (b ≡ a) × (q ≡ p)
some-lent {a} {b} {p} {q} h = (sym (ap (λ (o : Option Lent). number o) h), sym (ap (λ (o : Option Lent). page o) h))
  where
    number : Option Lent → ℕ
    number (Some x) = x.owner.0
    number None = 0

    page : Option Lent → ℕ
    page (Some x) = x.page
    page None = 0

pub none-lent : {P : Type 0} {a : ℕ} {p : ℕ} → None ≡ Some (lent_at a p) → P
none-lent h = cc

pub leaf-is : (f : ℕ) (state : State) (e e' : Entry) → e ≡ e' → maps_frame f state e' ≡ true → IsLeafOf f state e
leaf-is f state e e' h m = from-test f state e (ap (maps_frame f state) h ∙ m)

-- the host's entry of a frame that it owns
pub own-fits : (f : ℕ) (c : Condition) (e : Entry)
    → is_inside c ≡ true
    → HostFits f c e
    → (row_in f c).owner.0 ≡ 0
    → IsHostsOwn f e
own-fits f outside e i h o = cc
own-fits f hosts e i (inl h) o = inl h
own-fits f hosts e i (inr h) o = inr (inl (leaf-is f Owned e (leaf RWX f Owned) h (leaf-maps RWX f Owned)))
own-fits f with_hyp e i h o =
    inr (inr (leaf-is f SharedOwned e (leaf RWX f SharedOwned) h (leaf-maps RWX f SharedOwned)))
own-fits f (hyps u) e i h o = absurd (omega arith)
own-fits f (with_guest v g) e i h o =
    inr (inr (leaf-is f SharedOwned e (leaf RWX f SharedOwned) h (leaf-maps RWX f SharedOwned)))
own-fits f (guests v g) e i h o = absurd (omega arith)
own-fits f (lent_back v g) e i h o = absurd (omega arith)

abbrev guest-page : Condition → ℕ
guest-page (with_guest v g) = g
guest-page (guests v g) = g
guest-page (lent_back v g) = g
guest-page other = 0

named-page : (state : State) (v p : ℕ) → guest-page (guest_condition state v p) ≡ p
named-page Owned v p = refl
named-page SharedOwned v p = refl
named-page SharedBorrowed v p = refl

-- a component maps a frame in a state at one page at most
pub maps-once : (l : Layout) (s : Contents) (f : ℕ) (c : Condition) (x : SharedStands l s.shared f c)
    (g : GuestsStand l s.guest f c) (component a b : ℕ) (state : State)
    → Maps s component a f state
    → Maps s component b f state
    → b ≡ a
maps-once l s f c x g zero a b state m n = (host-at l s f c x g b state n).0 ∙ sym (host-at l s f c x g a state m).0
maps-once l s f c x g (suc zero) a b state m n = (hyp-at l s f c x g b state n).0 ∙ sym (hyp-at l s f c x g a state m).0
maps-once l s f c x g (suc (suc v)) a b state m n =
    sym (named-page state v b)
    ∙ ap guest-page (sym (guest-at l s f c x g v b state n) ∙ guest-at l s f c x g v a state m)
    ∙ named-page state v a

-- the one entry of another owner
pub own-one : (l : Layout) (s : Contents) (f : ℕ) (c : Condition) (x : SharedStands l s.shared f c)
    (g : GuestsStand l s.guest f c)
    → ((row_in f c).owner.0 ≡ 0 → ⊥)
    → IsOne (λ page. Holds s (row_in f c).owner.0 page f)
own-one l s f outside x g n = absurd (n refl)
own-one l s f hosts x g n = absurd (n refl)
own-one l s f with_hyp x g n = absurd (n refl)
own-one l s f (with_guest v q) x g n = absurd (n refl)
own-one l s f (hyps u) x g n = (
  hyp_page f,
  inl (leaf-is f Owned (s.shared.hyp.map (hyp_page f)) (leaf RW f Owned) x.hyp (leaf-maps RW f Owned)),
  λ page h. holds-state s 1 page f h (λ state m k. (hyp-at l s f (hyps u) x g page state m).0),
)
own-one l s f (guests v q) x g n = (
  q,
  inl (guest-maps l s f (guests v q) x g v q Owned refl),
  λ page h. holds-state s (2 + v) page f h
      (λ state m k. sym
      (ap guest-page
      (guest-at l s f (guests v q) x g v page state (subst (λ a. Maps s a page f state) (two-more v) m))
      ∙ named-page state v page)),
)
own-one l s f (lent_back v q) x g n = (
  q,
  inr (guest-maps l s f (lent_back v q) x g v q SharedOwned refl),
  λ page h. holds-state s (2 + v) page f h
      (λ state m k. sym
      (ap guest-page
      (guest-at l s f (lent_back v q) x g v page state
      (subst (λ a. Maps s a page f state) (two-more v) m))
      ∙ named-page state v page)),
)

-- it is borrowed exactly where its owner's entry is shared
lent-shared : (l : Layout) (s : Contents) (f : ℕ) (c : Condition) (x : SharedStands l s.shared f c)
    (g : GuestsStand l s.guest f c)
    → IsBorrowed s f
    → (page : ℕ) × Maps s (row_in f c).owner.0 page f SharedOwned
lent-shared l s f with_hyp x g b =
    (f, leaf-is f SharedOwned (s.shared.host.map f) (leaf RWX f SharedOwned) x.host (leaf-maps RWX f SharedOwned))
lent-shared l s f (with_guest v q) x g b =
    (f, leaf-is f SharedOwned (s.shared.host.map f) (leaf RWX f SharedOwned) x.host (leaf-maps RWX f SharedOwned))
lent-shared l s f (lent_back v q) x g b = (q, guest-maps l s f (lent_back v q) x g v q SharedOwned refl)
lent-shared l s f outside x g b = none-lent (lent-of l s f outside x g b.0 b.1 b.2)
lent-shared l s f hosts x g b = none-lent (lent-of l s f hosts x g b.0 b.1 b.2)
lent-shared l s f (hyps u) x g b = none-lent (lent-of l s f (hyps u) x g b.0 b.1 b.2)
lent-shared l s f (guests v q) x g b = none-lent (lent-of l s f (guests v q) x g b.0 b.1 b.2)

shared-lent : (l : Layout) (s : Contents) (f : ℕ) (c : Condition) (x : SharedStands l s.shared f c)
    (g : GuestsStand l s.guest f c)
    → (page : ℕ)
    → Maps s (row_in f c).owner.0 page f SharedOwned
    → IsBorrowed s f
shared-lent l s f with_hyp x g page m = (
  1,
  hyp_page f,
  leaf-is f SharedBorrowed (s.shared.hyp.map (hyp_page f)) (leaf RW f SharedBorrowed) x.hyp
      (leaf-maps RW f SharedBorrowed),
)
shared-lent l s f (with_guest v q) x g page m =
    (2 + v, q, guest-maps l s f (with_guest v q) x g v q SharedBorrowed refl)
shared-lent l s f (lent_back v q) x g page m = (
  0,
  f,
  leaf-is f SharedBorrowed (s.shared.host.map f) (leaf RWX f SharedBorrowed) x.host
      (leaf-maps RWX f SharedBorrowed),
)
shared-lent l s f outside x g page m = elim (x.host) [
  | inl h ↦ unmapped-none f SharedOwned (s.shared.host.map f) h (host-at l s f outside x g page SharedOwned m).1
  | inr h ↦ let e =
      device-state f SharedOwned (s.shared.host.map f) h (host-at l s f outside x g page SharedOwned m).1 in
      cc
]
shared-lent l s f hosts x g page m = elim (x.host) [
  | inl h ↦ unmapped-none f SharedOwned (s.shared.host.map f) h (host-at l s f hosts x g page SharedOwned m).1
  | inr h ↦ let e =
      leaf-state RWX f f Owned SharedOwned (s.shared.host.map f) h (host-at l s f hosts x g page SharedOwned m).1 in
      cc
]
shared-lent l s f (hyps u) x g page m = let e =
    leaf-state RW f f Owned SharedOwned (s.shared.hyp.map (hyp_page f)) x.hyp
    (hyp-at l s f (hyps u) x g page SharedOwned m).1 in
    cc
shared-lent l s f (guests v q) x g page m = let e =
    guest-at l s f (guests v q) x g v page SharedOwned (subst (λ a. Maps s a page f SharedOwned) (two-more v) m) in
    cc

-- where a frame is held

pub contains-count : (fs : List ℕ) (f k : ℕ) → k < length fs → slice_index_or fs k f ≡ f → 1 ≤ frame_count f fs
contains-count [] f k less h = absurd (omega arith)
contains-count (g ∷ gs) f zero less h = let n = count_next f g gs in
    let e : is_one g f ≡ 1 = ap one (eq-made g f h) in
    omega arith
contains-count (g ∷ gs) f (suc k) less h = let n = count_next f g gs in
    let m = contains-count gs f k (omega arith) h in
    omega arith

pub one-true : (b : Bool) (n : ℕ) → 1 ≤ n → n ≡ one b → b ≡ true
one-true true n h k = refl
one-true false n h k = absurd (omega arith)

pub in_shared-is : (c : Condition) → in_shared c ≡ true → c ≡ hyps SharedPool
in_shared-is (hyps SharedPool) h = refl
in_shared-is c h = cc

pub in_vm-is : (v : ℕ) (c : Condition) → in_vm v c ≡ true → c ≡ hyps (VmPool v)
in_vm-is v (hyps (VmPool u)) h = ap (λ n. hyps (VmPool n)) (eq-same u v h)
in_vm-is v c h = cc

pub in_hand-is : (v : ℕ) (c : Condition) → in_hand v c ≡ true → c ≡ hyps (InHand v)
in_hand-is v (hyps (InHand u)) h = ap (λ n. hyps (InHand n)) (eq-same u v h)
in_hand-is v c h = cc

table-some : (depth f : ℕ) (t : Tree) (b : Block) → IsCoarsest depth t → t.table b ≡ Some f → 1 ≤ table_uses depth t f
unfolding table_uses uses_of
table-some depth f t b coarse h = uses-some depth f b t.table (coarse.inside b f h) h

table-once : (depth f : ℕ) (t : Tree) (a b : Block)
    → IsCoarsest depth t
    → t.table a ≡ Some f
    → t.table b ≡ Some f
    → table_uses depth t f ≤ 1
    → b ≡ a
unfolding table_uses uses_of
table-once depth f t a b coarse h k less =
    uses-once depth f a b t.table (coarse.inside a f h) (coarse.inside b f k) h k less

table-found : (l : Layout) (t : Tree) (f : ℕ) → 1 ≤ table_uses l.depth t f → (b : Block) × (t.table b ≡ Some f)
table-found l t f h = is_table_frame-block l t f (is_table_frame-uses l t f ∙ grind (arith, nat_tests))

pool-found : (fs : List ℕ) (f : ℕ) → 1 ≤ frame_count f fs → Contains fs f
pool-found fs f h = is_free-contains fs f (is_free-count fs f ∙ grind (arith, nat_tests))

pub one-most : (b : Bool) → one b ≤ 1
one-most true = omega arith
one-most false = omega arith

module _ (l : Layout) (s : Contents) (f : ℕ) (c : Condition) (x : SharedStands l s.shared f c)
    (g : GuestsStand l s.guest f c) (k : HandsStand s.cpu f c) (host : IsCoarsest l.depth s.shared.host)
    (hyp : IsCoarsest l.depth s.shared.hyp) (guest : (v : ℕ) → IsCoarsest l.depth (s.guest v).tree) where
  -- a held frame is the hypervisor's, in the use of its place
  pub held-use : (p : Place) → IsHeld s f p → c ≡ hyps (use_of p)
  held-use shared_pool h = let n = contains-count s.shared.free f h.0 h.1 h.2 in
      let e = x.held in
      in_shared-is c (one-true (in_shared c) (shared_uses l.depth s.shared f) (omega arith) e)
  held-use (vm_pool v) h = let n = contains-count (s.guest v).free f h.0 h.1 h.2 in
      let e = g.held v in
      in_vm-is v c (one-true (in_vm v c) (guest_uses l.depth (s.guest v) f) (omega arith) e)
  held-use (table_of zero b) h = let n = table-some l.depth f s.shared.host b host h in
      let e = x.held in
      in_shared-is c (one-true (in_shared c) (shared_uses l.depth s.shared f) (omega arith) e)
  held-use (table_of (suc zero) b) h = let n = table-some l.depth f s.shared.hyp b hyp h in
      let e = x.held in
      in_shared-is c (one-true (in_shared c) (shared_uses l.depth s.shared f) (omega arith) e)
  held-use (table_of (suc (suc v)) b) h = let n = table-some l.depth f (s.guest v).tree b (guest v) h in
      let e = g.held v in
      in_vm-is v c (one-true (in_vm v c) (guest_uses l.depth (s.guest v) f) (omega arith) e)
  held-use (hand d) h = in_hand-is d c (sym (k d) ∙ h)

  shared-most : shared_uses l.depth s.shared f ≤ 1
  shared-most = let e = x.held in let m = one-most (in_shared c) in omega arith

  vm-most : (v : ℕ) → guest_uses l.depth (s.guest v) f ≤ 1
  vm-most v = let e = g.held v in let m = one-most (in_vm v c) in omega arith

  usage-in : Condition → Usage
  usage-in (hyps u) = u
  usage-in other = Plain

  -- and held there alone
  held-once : (p q : Place) → IsHeld s f p → IsHeld s f q → hyps (use_of p) ≡ hyps (use_of q) → q ≡ p
  held-once shared_pool shared_pool h j e = refl
  held-once shared_pool (table_of zero b) h j e =
      absurd
      (let n = contains-count s.shared.free f h.0 h.1 h.2 in
      let m = table-some l.depth f s.shared.host b host j in
      let t = shared-most in
      omega arith)
  held-once shared_pool (table_of (suc zero) b) h j e =
      absurd
      (let n = contains-count s.shared.free f h.0 h.1 h.2 in
      let m = table-some l.depth f s.shared.hyp b hyp j in
      let t = shared-most in
      omega arith)
  held-once (table_of zero b) shared_pool h j e =
      absurd
      (let n = contains-count s.shared.free f j.0 j.1 j.2 in
      let m = table-some l.depth f s.shared.host b host h in
      let t = shared-most in
      omega arith)
  held-once (table_of (suc zero) b) shared_pool h j e =
      absurd
      (let n = contains-count s.shared.free f j.0 j.1 j.2 in
      let m = table-some l.depth f s.shared.hyp b hyp h in
      let t = shared-most in
      omega arith)
  held-once (table_of zero a) (table_of zero b) h j e =
      ap (table_of 0) (table-once l.depth f s.shared.host a b host h j (let t = shared-most in omega arith))
  held-once (table_of (suc zero) a) (table_of (suc zero) b) h j e =
      ap (table_of 1) (table-once l.depth f s.shared.hyp a b hyp h j (let t = shared-most in omega arith))
  held-once (table_of zero a) (table_of (suc zero) b) h j e =
      absurd
      (let n = table-some l.depth f s.shared.host a host h in
      let m = table-some l.depth f s.shared.hyp b hyp j in
      let t = shared-most in
      omega arith)
  held-once (table_of (suc zero) a) (table_of zero b) h j e =
      absurd
      (let n = table-some l.depth f s.shared.hyp a hyp h in
      let m = table-some l.depth f s.shared.host b host j in
      let t = shared-most in
      omega arith)
  held-once (vm_pool v) (vm_pool u) h j e = let same : v ≡ u = cc in ap vm_pool (sym same)
  held-once (vm_pool v) (table_of (suc (suc u)) b) h j e =
      let same : v ≡ u = cc in
      let j' : (s.guest v).tree.table b ≡ Some f = subst (λ w. (s.guest w).tree.table b ≡ Some f) (sym same) j in
      absurd
      (let n = contains-count (s.guest v).free f h.0 h.1 h.2 in
      let m = table-some l.depth f (s.guest v).tree b (guest v) j' in
      let t = vm-most v in
      omega arith)
  held-once (table_of (suc (suc u)) b) (vm_pool v) h j e =
      let same : u ≡ v = cc in
      let h' : (s.guest v).tree.table b ≡ Some f = subst (λ w. (s.guest w).tree.table b ≡ Some f) same h in
      absurd
      (let n = contains-count (s.guest v).free f j.0 j.1 j.2 in
      let m = table-some l.depth f (s.guest v).tree b (guest v) h' in
      let t = vm-most v in
      omega arith)
  held-once (table_of (suc (suc v)) a) (table_of (suc (suc u)) b) h j e =
      let same : v ≡ u = cc in
      let j' : (s.guest v).tree.table b ≡ Some f = subst (λ w. (s.guest w).tree.table b ≡ Some f) (sym same) j in
      let block = table-once l.depth f (s.guest v).tree a b (guest v) h j' (let t = vm-most v in omega arith) in
      ap (λ w. table_of (suc (suc w)) b) (sym same) ∙ ap (table_of (suc (suc v))) block
  held-once (hand v) (hand u) h j e = let same : v ≡ u = cc in ap hand (sym same)
  held-once (hand v) (table_of zero b) h j e = cc
  held-once (hand v) (table_of (suc zero) b) h j e = cc
  held-once (hand v) (table_of (suc (suc u)) b) h j e = cc
  held-once (table_of zero b) (hand v) h j e = cc
  held-once (table_of (suc zero) b) (hand v) h j e = cc
  held-once (table_of (suc (suc u)) b) (hand v) h j e = cc
  held-once shared_pool (table_of (suc (suc u)) b) h j e = cc
  held-once (table_of (suc (suc u)) b) shared_pool h j e = cc
  held-once (vm_pool v) (table_of zero b) h j e = cc
  held-once (vm_pool v) (table_of (suc zero) b) h j e = cc
  held-once (table_of zero b) (vm_pool v) h j e = cc
  held-once (table_of (suc zero) b) (vm_pool v) h j e = cc
  held-once (table_of zero a) (table_of (suc (suc u)) b) h j e = cc
  held-once (table_of (suc zero) a) (table_of (suc (suc u)) b) h j e = cc
  held-once (table_of (suc (suc u)) a) (table_of zero b) h j e = cc
  held-once (table_of (suc (suc u)) a) (table_of (suc zero) b) h j e = cc
  held-once p q h j e = cc

  shared-found : 1 ≤ shared_uses l.depth s.shared f → (p : Place) × IsHeld s f p
  shared-found h = by_lt 0 (frame_count f s.shared.free)
      (λ a. (shared_pool, pool-found s.shared.free f a))
      (λ a. by_lt 0 (table_uses l.depth s.shared.host f)
      (λ b. let at = table-found l s.shared.host f b in (table_of 0 at.0, at.1))
      (λ b. let at = table-found l s.shared.hyp f (omega arith) in (table_of 1 at.0, at.1)))

  vm-found : (v : ℕ) → 1 ≤ guest_uses l.depth (s.guest v) f → (p : Place) × IsHeld s f p
  vm-found v h = by_lt 0 (frame_count f (s.guest v).free)
      (λ a. (vm_pool v, pool-found (s.guest v).free f a))
      (λ a. let at = table-found l (s.guest v).tree f (omega arith) in (table_of (suc (suc v)) at.0, at.1))

  pub held-found : (u : Usage) → (u ≡ Plain → ⊥) → c ≡ hyps u → (p : Place) × IsHeld s f p
  held-found Plain n e = absurd (n refl)
  held-found SharedPool n e =
      shared-found (let q = x.held in let w : one (in_shared c) ≡ 1 = ap (λ d. one (in_shared d)) e in omega arith)
  held-found (VmPool v) n e =
      vm-found v
      (let q = g.held v in
      let w : one (in_vm v c) ≡ 1 = ap (λ d. one (in_vm v d)) e ∙ ap one (eq-self v) in
      omega arith)
  held-found (InHand d) n e = (hand d, k d ∙ ap (in_hand d) e ∙ eq-self d)

  held-one : (u : Usage) → (u ≡ Plain → ⊥) → c ≡ hyps u → IsOne (IsHeld s f)
  held-one u n e = let at = held-found u n e in
      (at.0, at.1, λ q j. held-once at.0 q at.1 j (sym (held-use at.0 at.1) ∙ held-use q j))

-- a use that isn't Plain is the hypervisor's
pub used-hyps : (f : ℕ) (c : Condition) → ((row_in f c).usage ≡ Plain → ⊥) → c ≡ hyps (row_in f c).usage
used-hyps f (hyps u) n = refl
used-hyps f outside n = absurd (n refl)
used-hyps f hosts n = absurd (n refl)
used-hyps f with_hyp n = absurd (n refl)
used-hyps f (with_guest v g) n = absurd (n refl)
used-hyps f (guests v g) n = absurd (n refl)
used-hyps f (lent_back v g) n = absurd (n refl)

module _ (l : Layout) (s : Contents) (legal : Legal l s) (usable : IsUsable l) where
  x : (f : ℕ) → SharedStands l s.shared f (legal.condition f)
  x f = shared-of s legal.condition legal.maps f l legal.held

  g : (f : ℕ) → GuestsStand l s.guest f (legal.condition f)
  g f = guests-of s legal.condition legal.maps f l legal.held

  owner-is : (f : ℕ) → owner l s f ≡ (row_in f (legal.condition f)).owner.0
  owner-is f = ap (λ r. r.owner.0) (legal_rows l s legal usable f)

  one_owner : OneOwner l s
  one_owner = record {
    host_owned =
        λ f m o. own-fits f (legal.condition f) (s.shared.host.map f) (legal.of_layout.inside f ∙ m)
        (legal.maps.host f) (sym (owner-is f) ∙ o);
    owned =
        λ f m o. subst (λ n. IsOne (λ page. Holds s n page f)) (sym (owner-is f))
        (own-one l s f (legal.condition f) (x f) (g f) (λ e. o (owner-is f ∙ e)));
    no_other =
        λ f component page h. holds-state s component page f h
        (λ state k n. owner-of l s f (legal.condition f) (x f) (g f) component page state k n ∙ sym (owner-is f));
  }

  one_borrower : OneBorrower l s
  one_borrower = record {
    one_borrower =
        λ f a page b other m n. some-lent
        (sym (lent-of l s f (legal.condition f) (x f) (g f) a page m)
        ∙ lent-of l s f (legal.condition f) (x f) (g f) b other n);
    lent = λ f. (
      λ h. subst (λ n. (page : ℕ) × Maps s n page f SharedOwned) (sym (owner-is f))
          (lent-shared l s f (legal.condition f) (x f) (g f) h),
      λ h. shared-lent l s f (legal.condition f) (x f) (g f) h.0
          (subst (λ n. Maps s n h.0 f SharedOwned) (owner-is f) h.1),
    );
  }

  held_once : HeldOnce l s
  held_once = record { held = held }
    where
      held : (f : ℕ) → usage l s f ≢ Plain → (owner l s f ≡ 1) × IsOne (IsHeld s f)
      held f n =
          let c = legal.condition f in
          let k : HandsStand s.cpu f c = λ cpu. legal.held.hand cpu f in
          let same = usage-stands l s f c (x f) (g f) k (legal.of_layout.good f) in
          let out : (row_in f c).usage ≡ Plain → ⊥ = λ e. n (same ∙ e) in
          let is : c ≡ hyps (row_in f c).usage = used-hyps f c out in
          let m : is_memory l f ≡ true = sym (legal.of_layout.inside f) ∙ ap is_inside is in (
            owner-is f
                ∙ ap (λ d. (row_in f d).owner.0) is,
            held-one l s f c (x f) (g f) k legal.trees.host legal.trees.hyp legal.trees.guest
                (row_in f c).usage out is,
          )

  sound : Sound l s
  sound =
      record {
        one_owner = one_owner;
        one_borrower = one_borrower;
        held_once = held_once;
        slots_agree = legal.slots.agree;
      }

pub legal_sound : LegalSound
legal_sound l s legal usable = sound l s legal usable
