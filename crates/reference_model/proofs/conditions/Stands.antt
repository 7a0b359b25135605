-- What a condition says of one frame in a part of a state, and the row of the frame from scratch by it.
use Rattle.std.proofs.Common.{◌≡◌, ℕ, zero, suc, ◌+◌, ◌≤◌, ◌<◌, refl, ap, sym, ◌∙◌, subst, arith, inl, inr, List, [], ◌∷◌}
use Rattle.std.specs.Prelude.{Bool, true, false, ◌&&◌, ◌||◌, ◌==◌, nat_lt, is_some, Option, Some, None, if◌then◌else◌}
use Rattle.std.proofs.lemmas.Bool.Decides.{nat_tests}
use Rattle.descriptor.specs.declared.State.{State}
use Rattle.descriptor.specs.declared.State.TheVariants.{Owned, SharedOwned, SharedBorrowed}
use Rattle.page_state.specs.declared.entry.Entry.{Entry}
use Rattle.page_state.specs.declared.row.Row.{Row}
use Rattle.page_state.specs.declared.row.Lent.{Lent}
use Rattle.page_state.specs.declared.row.Usage.{Usage}
use Rattle.page_state.specs.declared.row.Usage.TheVariants.{Plain, SharedPool, VmPool, InHand}
use Rattle.page_state.specs.Map.{Map}
use Rattle.page_state.specs.Counts.{frame_count}
use Rattle.page_state.specs.EntryTests.{maps_frame}
use Rattle.page_state.specs.Geometries.{pages_below}
use Rattle.page_state.specs.Search.{first_from, first_below}
use Rattle.page_state.specs.Trees.{Tree}
use Rattle.reference_model.specs.model.State.{Shared, Guest, Cpu, Contents}
use Rattle.page_state.specs.Layouts.{Layout, hyp_page}
use Rattle.reference_model.specs.model.Owner.{page_of, is_free, is_in_hand, is_table_frame, guest_with, is_lent_to_host, sharer, owner_by, lent_to, lent_at, is_in_shared_pool, vm_pool_of, holding_cpu, usage_of, row_of}
use Rattle.reference_model.specs.help.Conditions.{Condition, outside, hosts, with_hyp, hyps, with_guest, guests, lent_back, HostFits, hyp_entry_by, guest_condition, IsGood, in_shared, in_vm, in_hand, one, is_inside, table_uses, shared_uses, guest_uses, row_in}
use Rattle.page_state.proofs.Common.{both, eq-same, eq-made, eq-self, same3}
use Rattle.page_state.proofs.Counts.{count_next}
use Rattle.reference_model.proofs.Frames.{first_from-none}

-- the Shared part says of the frame what its condition says
pub record SharedStands (l : Layout) (x : Shared) (f : ℕ) (c : Condition) : Type 0 where
  pub host : HostFits f c (x.host.map f)
  pub host_alone : (p : ℕ) (state : State) → maps_frame f state (x.host.map p) ≡ true → p ≡ f
  pub hyp : x.hyp.map (hyp_page f) ≡ hyp_entry_by f c
  pub hyp_alone : (p : ℕ) (state : State) → maps_frame f state (x.hyp.map p) ≡ true → p ≡ hyp_page f
  pub held : shared_uses l.depth x f ≡ one (in_shared c)

-- and the guests
pub record GuestsStand (l : Layout) (g : ℕ → Guest) (f : ℕ) (c : Condition) : Type 0 where
  pub has : (v p : ℕ) (state : State) → c ≡ guest_condition state v p → maps_frame f state ((g v).tree.map p) ≡ true
  pub alone : (v p : ℕ) (state : State) → maps_frame f state ((g v).tree.map p) ≡ true → c ≡ guest_condition state v p
  pub held : (v : ℕ) → guest_uses l.depth (g v) f ≡ one (in_vm v c)

-- and the hands
abbrev pub HandsStand : (ℕ → Cpu) → ℕ → Condition → Type 0
HandsStand k f c = (cpu : ℕ) → is_in_hand (k cpu).hand f ≡ in_hand cpu c

-- searches

pub first_from-is : (from n k : ℕ) (test : ℕ → Bool)
    → from ≤ k
    → k < from + n
    → test k ≡ true
    → ((j : ℕ) → test j ≡ true → j ≡ k)
    → first_from from n test ≡ Some k
first_from-is from zero k test low high t u = absurd (omega arith)
first_from-is from (suc n) k test low high t u = elim (both (test from)) [
  | inl e ↦ let same : from ≡ k = u from e in rw (first_from, e) (ap Some same)
  | inr e ↦
      let apart : from ≡ k → ⊥ = λ same. let bad : test k ≡ false = subst (λ j. test j ≡ false) same e in
      let no_way : true ≡ false = sym t ∙ bad in
      cc in
      rw (first_from, e) (first_from-is (suc from) n k test (grind (arith, nat_tests)) (omega arith) t u)
]

not-true : (b : Bool) → (b ≡ true → ⊥) → b ≡ false
not-true true h = absurd (h refl)
not-true false h = refl

pub first_from-found : (from n : ℕ) (test : ℕ → Bool)
    → is_some (first_from from n test) ≡ true
    → (k : ℕ) × (test k ≡ true)
first_from-found from zero test h = cc
first_from-found from (suc n) test h = elim (both (test from)) [
  | inl e ↦ (from, e)
  | inr e ↦ let more : is_some (first_from (suc from) n test) ≡ true = rw (e, first_from) at h in
      first_from-found (suc from) n test more
]

-- the page that maps the frame

page_of-is : (l : Layout) (m : Map) (state : State) (f k : ℕ)
    → k < pages_below l.depth
    → maps_frame f state (m k) ≡ true
    → ((p : ℕ) → maps_frame f state (m p) ≡ true → p ≡ k)
    → page_of l m state f ≡ Some k
page_of-is l m state f k less t u =
    first_from-is 0 (pages_below l.depth) k (λ p. maps_frame f state (m p)) (omega arith) (omega arith) t u

page_of-none : (l : Layout) (m : Map) (state : State) (f : ℕ)
    → ((p : ℕ) → maps_frame f state (m p) ≡ true → ⊥)
    → page_of l m state f ≡ None
page_of-none l m state f h =
    first_from-none 0 (pages_below l.depth) (λ p. maps_frame f state (m p))
    (λ p. not-true (maps_frame f state (m p)) (h p))

-- which guest a condition names in a state, and its page

abbrev guest_of : State → Condition → Option ℕ
guest_of Owned (guests v g) = Some v
guest_of SharedOwned (lent_back v g) = Some v
guest_of SharedBorrowed (with_guest v g) = Some v
guest_of state other = None

abbrev page_in : Condition → ℕ
page_in (guests v g) = g
page_in (lent_back v g) = g
page_in (with_guest v g) = g
page_in other = 0

guest_of-named : (state : State) (v p : ℕ)
    → (guest_of state (guest_condition state v p) ≡ Some v) × (page_in (guest_condition state v p) ≡ p)
guest_of-named Owned v p = (refl, refl)
guest_of-named SharedOwned v p = (refl, refl)
guest_of-named SharedBorrowed v p = (refl, refl)

guest_of-names : (state : State) (c : Condition) (v : ℕ)
    → guest_of state c ≡ Some v
    → c ≡ guest_condition state v (page_in c)
guest_of-names Owned (guests u g) v h = let e : u ≡ v = cc in ap (λ w. guests w g) e
guest_of-names SharedOwned (lent_back u g) v h = let e : u ≡ v = cc in ap (λ w. lent_back w g) e
guest_of-names SharedBorrowed (with_guest u g) v h = let e : u ≡ v = cc in ap (λ w. with_guest w g) e
guest_of-names state c v h = cc

named-good : (l : Layout) (state : State) (v p : ℕ)
    → IsGood l (guest_condition state v p)
    → (v < 64) × (p < pages_below l.depth)
named-good l Owned v p h = h
named-good l SharedOwned v p h = h
named-good l SharedBorrowed v p h = h

some-same : {a b : ℕ} → Some a ≡ Some b → a ≡ b
some-same h = cc

none-some : {a : ℕ} → None ≡ Some a → ⊥
none-some h = cc

-- counts and tests

free-step : (b r : Bool) (m n : ℕ) → n ≡ (if b then 1 else 0) + m → r ≡ nat_lt 0 m → (b || r) ≡ nat_lt 0 n
free-step true r m n h k = grind (arith, nat_tests)
free-step false r m n h k = let e : n ≡ m = omega arith in k ∙ ap (nat_lt 0) (sym e)

pub is_free-count : (fs : List ℕ) (f : ℕ) → is_free fs f ≡ nat_lt 0 (frame_count f fs)
is_free-count [] f = refl
is_free-count (g ∷ gs) f =
    free-step (g == f) (is_free gs f) (frame_count f gs) (frame_count f (g ∷ gs)) (count_next f g gs)
    (is_free-count gs f)

pub is_table_frame-uses : (l : Layout) (t : Tree) (f : ℕ) → is_table_frame l t f ≡ nat_lt 0 (table_uses l.depth t f)
unfolding table_uses
is_table_frame-uses l t f = refl

two-tests : (a b : ℕ) (t : Bool) → a + b ≡ one t → nat_lt 0 a || nat_lt 0 b ≡ t
two-tests a b true h = grind (arith, nat_tests)
two-tests a b false h = grind (arith, nat_tests)

three-tests : (a b c : ℕ) (t : Bool) → a + (b + c) ≡ one t → nat_lt 0 a || nat_lt 0 b || nat_lt 0 c ≡ t
three-tests a b c true h = grind (arith, nat_tests)
three-tests a b c false h = grind (arith, nat_tests)

-- by its condition, who lends the frame and where it is held

abbrev vm_of : Condition → Option ℕ
vm_of (hyps (VmPool v)) = Some v
vm_of other = None

abbrev cpu_of : Condition → Option ℕ
cpu_of (hyps (InHand c)) = Some c
cpu_of other = None

vm_of-in : (c : Condition) (v : ℕ) → in_vm v c ≡ true → vm_of c ≡ Some v
vm_of-in (hyps (VmPool u)) v h = ap Some (eq-same u v h)
vm_of-in c v h = cc

in-vm_of : (c : Condition) (v : ℕ) → vm_of c ≡ Some v → in_vm v c ≡ true
in-vm_of (hyps (VmPool u)) v h = eq-made u v (some-same h)
in-vm_of c v h = cc

cpu_of-in : (c : Condition) (v : ℕ) → in_hand v c ≡ true → cpu_of c ≡ Some v
cpu_of-in (hyps (InHand u)) v h = ap Some (eq-same u v h)
cpu_of-in c v h = cc

in-cpu_of : (c : Condition) (v : ℕ) → cpu_of c ≡ Some v → in_hand v c ≡ true
in-cpu_of (hyps (InHand u)) v h = eq-made u v (some-same h)
in-cpu_of c v h = cc

vm-good : (l : Layout) (c : Condition) (v : ℕ) → IsGood l c → vm_of c ≡ Some v → v < 64
vm-good l (hyps (VmPool u)) v g h = let e : u ≡ v = some-same h in subst (λ w. w < 64) e g
vm-good l c v g h = cc

cpu-good : (l : Layout) (c : Condition) (v : ℕ) → IsGood l c → cpu_of c ≡ Some v → v < l.config.cpus
cpu-good l (hyps (InHand u)) v g h = let e : u ≡ v = some-same h in subst (λ w. w < l.config.cpus) e g
cpu-good l c v g h = cc

-- a search for the only number that an option names
search-option : (n : ℕ) (test : ℕ → Bool) (o : Option ℕ)
    → ((v : ℕ) → test v ≡ true → o ≡ Some v)
    → ((v : ℕ) → o ≡ Some v → (test v ≡ true) × (v < n))
    → first_below n test ≡ o
search-option n test (Some v) a b = let at = b v refl in
    first_from-is 0 n v test (omega arith) (let less : v < n = at.1 in omega arith) at.0
    (λ j t. some-same (sym (a j t)))
search-option n test None a b = first_from-none 0 n test (λ v. not-true (test v) (λ t. none-some (a v t)))

and-none : (b : Bool) → (b && false) ≡ false
and-none true = refl
and-none false = refl

and-some : (b : Bool) → b ≡ true → (b && true) ≡ true
and-some true h = refl
and-some false h = cc

abbrev pub when : Bool → ℕ → ℕ
when b n = elim b [ true ↦ n | false ↦ 0 ]

pub when-not : (b : Bool) (n : ℕ) → b ≡ false → when b n ≡ 0
when-not true n h = cc
when-not false n h = refl

when-so : (b : Bool) (n : ℕ) → b ≡ true → when b n ≡ n
when-so true n h = refl
when-so false n h = cc

-- the page at which the host, or the hypervisor, borrows the frame
abbrev host_lends : ℕ → Condition → Option ℕ
host_lends f (lent_back v g) = Some f
host_lends f other = None

abbrev hyp_lends : ℕ → Condition → Option ℕ
hyp_lends f with_hyp = Some (hyp_page f)
hyp_lends f other = None

fits-borrowed : (f : ℕ) (c : Condition) (e : Entry)
    → HostFits f c e
    → maps_frame f SharedBorrowed e ≡ is_some (host_lends f c)
fits-borrowed f outside e (inl h) = ap (maps_frame f SharedBorrowed) h
fits-borrowed f outside e (inr h) = ap (maps_frame f SharedBorrowed) h ∙ and-none (f == f)
fits-borrowed f hosts e (inl h) = ap (maps_frame f SharedBorrowed) h
fits-borrowed f hosts e (inr h) = ap (maps_frame f SharedBorrowed) h ∙ and-none (f == f)
fits-borrowed f with_hyp e h = ap (maps_frame f SharedBorrowed) h ∙ and-none (f == f)
fits-borrowed f (hyps u) e h = ap (maps_frame f SharedBorrowed) h
fits-borrowed f (with_guest v g) e h = ap (maps_frame f SharedBorrowed) h ∙ and-none (f == f)
fits-borrowed f (guests v g) e h = ap (maps_frame f SharedBorrowed) h
fits-borrowed f (lent_back v g) e h = ap (maps_frame f SharedBorrowed) h ∙ and-some (f == f) (eq-self f)

says-borrowed : (f : ℕ) (c : Condition) → maps_frame f SharedBorrowed (hyp_entry_by f c) ≡ is_some (hyp_lends f c)
says-borrowed f with_hyp = and-some (f == f) (eq-self f)
says-borrowed f (hyps u) = and-none (f == f)
says-borrowed f outside = refl
says-borrowed f hosts = refl
says-borrowed f (with_guest v g) = refl
says-borrowed f (guests v g) = refl
says-borrowed f (lent_back v g) = refl

host_lends-same : (f p : ℕ) (c : Condition) → host_lends f c ≡ Some p → p ≡ f
host_lends-same f p (lent_back v g) h = sym (some-same h)
host_lends-same f p c h = cc

host_lends-inside : (f p : ℕ) (c : Condition) → host_lends f c ≡ Some p → is_inside c ≡ true
host_lends-inside f p (lent_back v g) h = refl
host_lends-inside f p c h = cc

hyp_lends-inside : (f p : ℕ) (c : Condition) → hyp_lends f c ≡ Some p → is_inside c ≡ true
hyp_lends-inside f p with_hyp h = refl
hyp_lends-inside f p c h = cc

hyp_lends-same : (f p : ℕ) (c : Condition) → hyp_lends f c ≡ Some p → p ≡ hyp_page f
hyp_lends-same f p with_hyp h = sym (some-same h)
hyp_lends-same f p c h = cc

-- the page of a map that has one page alone for the frame, where it borrows it at most
page-by : (l : Layout) (m : Map) (f k : ℕ) (o : Option ℕ)
    → ((p : ℕ) → o ≡ Some p → k < pages_below l.depth)
    → maps_frame f SharedBorrowed (m k) ≡ is_some o
    → ((p : ℕ) → o ≡ Some p → p ≡ k)
    → ((p : ℕ) → maps_frame f SharedBorrowed (m p) ≡ true → p ≡ k)
    → page_of l m SharedBorrowed f ≡ o
page-by l m f k (Some p) less h same alone = let e = same p refl in
    page_of-is l m SharedBorrowed f k (less p refl) h alone ∙ ap Some (sym e)
page-by l m f k None less h same alone =
    page_of-none l m SharedBorrowed f
    (λ p t. let e = alone p t in
    let bad : true ≡ false = sym t ∙ ap (λ q. maps_frame f SharedBorrowed (m q)) e ∙ h in
    cc)

sharer-is : (l : Layout) (s : Contents) (f : ℕ) (o : Option ℕ)
    → guest_with l s f SharedOwned ≡ o
    → sharer l s f ≡ elim o [ Some v ↦ 2 + v | None ↦ 0 ]
sharer-is l s f o q = ap (λ (w : Option ℕ). the-sharer w) q
  where
    the-sharer : Option ℕ → ℕ
    the-sharer w = elim w [ Some v ↦ 2 + v | None ↦ 0 ]

-- the owner by the host's entry and by whether the host borrows the frame
owner-is : (l : Layout) (s : Contents) (f : ℕ) (c : Condition) (e : Entry)
    → HostFits f c e
    → is_lent_to_host l s f ≡ is_some (host_lends f c)
    → guest_with l s f SharedOwned ≡ guest_of SharedOwned c
    → owner_by l s f e ≡ (row_in f c).owner.0
owner-is l s f outside e (inl h) b q = ap (owner_by l s f) h ∙ when-not (is_lent_to_host l s f) (sharer l s f) b
owner-is l s f outside e (inr h) b q = ap (owner_by l s f) h ∙ when-not (is_lent_to_host l s f) (sharer l s f) b
owner-is l s f hosts e (inl h) b q = ap (owner_by l s f) h ∙ when-not (is_lent_to_host l s f) (sharer l s f) b
owner-is l s f hosts e (inr h) b q = ap (owner_by l s f) h ∙ when-not (is_lent_to_host l s f) (sharer l s f) b
owner-is l s f with_hyp e h b q = ap (owner_by l s f) h ∙ when-not (is_lent_to_host l s f) (sharer l s f) b
owner-is l s f (hyps u) e h b q = ap (owner_by l s f) h
owner-is l s f (with_guest v g) e h b q = ap (owner_by l s f) h ∙ when-not (is_lent_to_host l s f) (sharer l s f) b
owner-is l s f (guests v g) e h b q = ap (owner_by l s f) h
owner-is l s f (lent_back v g) e h b q =
    ap (owner_by l s f) h ∙ when-so (is_lent_to_host l s f) (sharer l s f) b ∙ sharer-is l s f (Some v) q

abbrev lent_form : Option ℕ → Option ℕ → Option ℕ → (ℕ → Option ℕ) → Option Lent
lent_form a b d e = elim a [
  | Some page ↦ Some (lent_at 0 page)
  | None ↦ elim b [
    | Some page ↦ Some (lent_at 1 page)
    | None ↦ elim d
        [ Some v ↦ elim (e v) [ Some page ↦ Some (lent_at (2 + v) page) | None ↦ None ] | None ↦ None ]
  ]
]

lent-go : (f : ℕ) (c : Condition) (a b d : Option ℕ) (e : ℕ → Option ℕ)
    → a ≡ host_lends f c
    → b ≡ hyp_lends f c
    → d ≡ guest_of SharedBorrowed c
    → ((v : ℕ) → guest_of SharedBorrowed c ≡ Some v → e v ≡ Some (page_in c))
    → lent_form a b d e ≡ (row_in f c).lent
lent-go f outside a b d e p q r u = rw (p, q, r)
lent-go f hosts a b d e p q r u = rw (p, q, r)
lent-go f with_hyp a b d e p q r u = rw (p, q)
lent-go f (hyps w) a b d e p q r u = rw (p, q, r)
lent-go f (with_guest v g) a b d e p q r u = rw (p, q, r, u v refl)
lent-go f (guests v g) a b d e p q r u = rw (p, q, r)
lent-go f (lent_back v g) a b d e p q r u = rw p

lent-is : (l : Layout) (s : Contents) (f : ℕ) (c : Condition)
    → page_of l s.shared.host.map SharedBorrowed f ≡ host_lends f c
    → page_of l s.shared.hyp.map SharedBorrowed f ≡ hyp_lends f c
    → guest_with l s f SharedBorrowed ≡ guest_of SharedBorrowed c
    → ((v : ℕ)
    → guest_of SharedBorrowed c ≡ Some v
    → page_of l (s.guest v).tree.map SharedBorrowed f ≡ Some (page_in c))
    → lent_to l s f ≡ (row_in f c).lent
lent-is l s f c p q r u =
    lent-go f c (page_of l s.shared.host.map SharedBorrowed f) (page_of l s.shared.hyp.map SharedBorrowed f)
    (guest_with l s f SharedBorrowed) (λ v. page_of l (s.guest v).tree.map SharedBorrowed f) p q r u

abbrev usage_form : Bool → Option ℕ → Option ℕ → Usage
usage_form a b d =
    elim a [
      | true ↦ SharedPool
      | false ↦ elim b [ Some v ↦ VmPool v | None ↦ elim d [ Some c ↦ InHand c | None ↦ Plain ] ]
    ]

usage-go : (f : ℕ) (c : Condition) (a : Bool) (b d : Option ℕ)
    → a ≡ in_shared c
    → b ≡ vm_of c
    → d ≡ cpu_of c
    → usage_form a b d ≡ (row_in f c).usage
usage-go f (hyps SharedPool) a b d p q r = rw p
usage-go f (hyps (VmPool v)) a b d p q r = rw (p, q)
usage-go f (hyps (InHand v)) a b d p q r = rw (p, q, r)
usage-go f (hyps Plain) a b d p q r = rw (p, q, r)
usage-go f outside a b d p q r = rw (p, q, r)
usage-go f hosts a b d p q r = rw (p, q, r)
usage-go f with_hyp a b d p q r = rw (p, q, r)
usage-go f (with_guest v g) a b d p q r = rw (p, q, r)
usage-go f (guests v g) a b d p q r = rw (p, q, r)
usage-go f (lent_back v g) a b d p q r = rw (p, q, r)

usage-is : (l : Layout) (s : Contents) (f : ℕ) (c : Condition)
    → is_in_shared_pool l s f ≡ in_shared c
    → vm_pool_of l s f ≡ vm_of c
    → holding_cpu l s f ≡ cpu_of c
    → usage_of l s f ≡ (row_in f c).usage
usage-is l s f c p q r = usage-go f c (is_in_shared_pool l s f) (vm_pool_of l s f) (holding_cpu l s f) p q r

make_row : ℕ → Option Lent → Usage → Row
make_row owner lent usage = record { owner = record { 0 = owner }; lent = lent; usage = usage }

row-is : (l : Layout) (s : Contents) (f : ℕ) (c : Condition)
    → owner_by l s f (s.shared.host.map f) ≡ (row_in f c).owner.0
    → lent_to l s f ≡ (row_in f c).lent
    → usage_of l s f ≡ (row_in f c).usage
    → row_of l s f ≡ row_in f c
unfolding row_of make_row
row-is l s f c a b d = same3 make_row a b d

module _ (l : Layout) (s : Contents) (f : ℕ) (c : Condition) (x : SharedStands l s.shared f c)
    (g : GuestsStand l s.guest f c) (k : HandsStand s.cpu f c) (good : IsGood l c) where
  -- the page of a guest that maps the frame
  guest-page : (state : State) (v : ℕ)
      → guest_of state c ≡ Some v
      → page_of l (s.guest v).tree.map state f ≡ Some (page_in c)
  guest-page state v h =
      let named = guest_of-names state c v h in
      let limits = named-good l state v (page_in c) (subst (IsGood l) named good) in
      page_of-is l (s.guest v).tree.map state f (page_in c) limits.1 (g.has v (page_in c) state named)
      (λ p t. sym (ap page_in (g.alone v p state t) ∙ (guest_of-named state v p).1))

  guest-search : (state : State) → guest_with l s f state ≡ guest_of state c
  guest-search state = search-option 64 (λ v. is_some (page_of l (s.guest v).tree.map state f)) (guest_of state c)
      (λ v t. let found =
      first_from-found 0 (pages_below l.depth) (λ p. maps_frame f state ((s.guest v).tree.map p)) t in
      ap (guest_of state) (g.alone v found.0 state found.1) ∙ (guest_of-named state v found.0).0)
      (λ v h. (
        ap is_some (guest-page state v h),
        (named-good l state v (page_in c) (subst (IsGood l) (guest_of-names state c v h) good)).0,
      ))

  pool-search : vm_pool_of l s f ≡ vm_of c
  pool-search = search-option 64 (λ v. is_free (s.guest v).free f || is_table_frame l (s.guest v).tree f) (vm_of c)
      (λ v t. vm_of-in c v (sym (pool-test v) ∙ t))
      (λ v h. (pool-test v ∙ in-vm_of c v h, vm-good l c v good h))
    where
      pool-test : (v : ℕ) → (is_free (s.guest v).free f || is_table_frame l (s.guest v).tree f) ≡ in_vm v c
      pool-test v =
          rw (is_free-count (s.guest v).free f, is_table_frame-uses l (s.guest v).tree f)
          (two-tests (frame_count f (s.guest v).free) (table_uses l.depth (s.guest v).tree f) (in_vm v c)
          (g.held v))

  hand-search : holding_cpu l s f ≡ cpu_of c
  hand-search = search-option l.config.cpus (λ cpu. is_in_hand (s.cpu cpu).hand f) (cpu_of c)
      (λ v t. cpu_of-in c v (sym (k v) ∙ t))
      (λ v h. (k v ∙ in-cpu_of c v h, cpu-good l c v good h))

  shared-test : is_in_shared_pool l s f ≡ in_shared c
  shared-test =
      rw (is_free-count s.shared.free f, is_table_frame-uses l s.shared.host f, is_table_frame-uses l s.shared.hyp f)
      (three-tests (frame_count f s.shared.free) (table_uses l.depth s.shared.host f)
      (table_uses l.depth s.shared.hyp f) (in_shared c) x.held)

  -- the use from scratch is that of the condition
  pub usage-stands : (row_of l s f).usage ≡ (row_in f c).usage
  unfolding row_of
  usage-stands = usage-is l s f c shared-test pool-search hand-search

  -- the row from scratch is that of the condition
  pub row-stands : (is_inside c ≡ true → hyp_page f < pages_below l.depth) → row_of l s f ≡ row_in f c
  row-stands less = row-is l s f c
      (owner-is l s f c (s.shared.host.map f) x.host (ap is_some host-page) (guest-search SharedOwned))
      (lent-is l s f c host-page hyp-page (guest-search SharedBorrowed) (guest-page SharedBorrowed))
      (usage-is l s f c shared-test pool-search hand-search)
    where
      host-page : page_of l s.shared.host.map SharedBorrowed f ≡ host_lends f c
      host-page =
          page-by l s.shared.host.map f f (host_lends f c)
          (λ p h. let k = less (host_lends-inside f p c h) in omega arith)
          (fits-borrowed f c (s.shared.host.map f) x.host) (λ p. host_lends-same f p c)
          (λ p. x.host_alone p SharedBorrowed)

      hyp-page : page_of l s.shared.hyp.map SharedBorrowed f ≡ hyp_lends f c
      hyp-page =
          page-by l s.shared.hyp.map f (hyp_page f) (hyp_lends f c) (λ p h. less (hyp_lends-inside f p c h))
          (ap (maps_frame f SharedBorrowed) x.hyp ∙ says-borrowed f c) (λ p. hyp_lends-same f p c)
          (λ p. x.hyp_alone p SharedBorrowed)
