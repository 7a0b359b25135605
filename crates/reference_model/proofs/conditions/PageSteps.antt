-- The made steps that change pages of the host and of a guest keep the invariant.
use Rattle.std.proofs.Common.{◌≤◌, length, ◌≡◌, ◌≢◌, ℕ, ◌+◌, ◌-◌, ◌<◌, refl, ap, sym, ◌∙◌, subst, arith, inl, inr}
use Rattle.std.specs.Prelude.{Bool, true, false, not, ◌||◌, ◌==◌, ◌⊎◌, Some, None, if◌then◌else◌, ◌&&◌}
use Rattle.std.proofs.lemmas.Bool.Decides.{nat_tests}
use Rattle.descriptor.specs.declared.Prot.{Prot}
use Rattle.descriptor.specs.declared.Prot.TheVariants.{RWX}
use Rattle.descriptor.specs.declared.State.{State}
use Rattle.descriptor.specs.declared.State.TheVariants.{Owned, SharedOwned, SharedBorrowed}
use Rattle.page_state.specs.declared.entry.Entry.{Entry}
use Rattle.page_state.proofs.Cases.{by_test}
use Rattle.page_state.specs.declared.entry.Entry.TheVariants.{Unmapped}
use Rattle.call_table.specs.declared.step.Step.{Step}
use Rattle.call_table.specs.declared.step.Step.TheVariants.{ShareGuest, UnshareGuest, DonateGuest, GuestShareHost, GuestUnshareHost, ReclaimPage}
use Rattle.call_table.specs.declared.step.VmId.{VmId}
use Rattle.page_state.specs.Entries.{advance}
use Rattle.page_state.specs.EntryTests.{is_unmapped, is_in, is_free_page, leaf, entry_frame, with_state}
use Rattle.page_state.specs.Geometries.{pages_below}
use Rattle.reference_model.specs.model.Rule.{reads}
use Rattle.reference_model.specs.model.GuestRules.{share_guest, unshare_guest, donate_guest, guest_share_host, guest_unshare_host, reclaim_page, is_guest, phase_eq, is_protected, two_ranges, are_good_pages, may_give, is_alive}
use Rattle.page_state.specs.Map.{is_within}
use Rattle.reference_model.specs.model.State.{Guest, Contents, empty, live, dying}
use Rattle.page_state.specs.Layouts.{Layout, is_memory, is_good_range, is_good_page}
use Rattle.reference_model.specs.model.Parts.{shared_and_guest, is_good_vm}
use Rattle.reference_model.specs.model.Rules.{names}
use Rattle.reference_model.specs.model.Used.{Used, used_of}
use Rattle.reference_model.specs.model.Step.{refusal, shared_need, guest_need}
use Rattle.reference_model.specs.help.ConditionChanges.{touched_condition}
use Rattle.reference_model.specs.help.RowChanges.{touched_row}
use Rattle.page_state.specs.declared.row.Usage.TheVariants.{Plain}
use Rattle.reference_model.specs.model.Owner.{lent_at}
use Rattle.reference_model.specs.help.Conditions.{row_in, Condition, hosts, with_guest, guests, lent_back, HostFits, hyp_entry_by, guest_condition, IsGuestLeaf, IsMemoryLeaf, Legal, IsUsable, in_shared, in_vm, in_hand, is_inside, IsGood}
use Rattle.reference_model.proofs.conditions.FrameMoves.{StepKept}
use Rattle.page_state.proofs.Common.{eq-self, and-both, and-right, not-true}
use Rattle.reference_model.proofs.conditions.GuestMoves.{only, g_of, guest-keeps}
use Rattle.reference_model.proofs.conditions.OfLegal.{state_eq-same}
use Rattle.reference_model.proofs.conditions.PageMoves.{PagesMove, advance-none, within-turned, turned-back, pages-move}
use Rattle.reference_model.proofs.conditions.RangeMoves.{within-is, range-advance, one-within, one-frame, advance-leaf, good-range, good-pages, both-all, free-is}
use Rattle.reference_model.proofs.conditions.Tests.{passed}

-- conditions that name a guest's page

gc-inside : (a : State) (v g : ℕ) → is_inside (guest_condition a v g) ≡ true
gc-inside Owned v g = refl
gc-inside SharedOwned v g = refl
gc-inside SharedBorrowed v g = refl

gc-only : (a : State) (v g : ℕ) → only v (guest_condition a v g) ≡ true
gc-only Owned v g = eq-self v
gc-only SharedOwned v g = eq-self v
gc-only SharedBorrowed v g = eq-self v

gc-shared : (a : State) (v g : ℕ) → in_shared (guest_condition a v g) ≡ false
gc-shared Owned v g = refl
gc-shared SharedOwned v g = refl
gc-shared SharedBorrowed v g = refl

pub gc-vm : (a : State) (u v g : ℕ) → in_vm u (guest_condition a v g) ≡ false
gc-vm Owned u v g = refl
gc-vm SharedOwned u v g = refl
gc-vm SharedBorrowed u v g = refl

pub gc-hand : (a : State) (d v g : ℕ) → in_hand d (guest_condition a v g) ≡ false
gc-hand Owned d v g = refl
gc-hand SharedOwned d v g = refl
gc-hand SharedBorrowed d v g = refl

gc-hyp : (a : State) (f v g : ℕ) → hyp_entry_by f (guest_condition a v g) ≡ Unmapped
gc-hyp Owned f v g = refl
gc-hyp SharedOwned f v g = refl
gc-hyp SharedBorrowed f v g = refl

gc-good : (l : Layout) (a : State) (v g : ℕ) → v < 64 → g < pages_below l.depth → IsGood l (guest_condition a v g)
gc-good l Owned v g p q = (p, q)
gc-good l SharedOwned v g p q = (p, q)
gc-good l SharedBorrowed v g p q = (p, q)

gc-page : (a b : State) (v g p : ℕ) → guest_condition a v g ≡ guest_condition b v p → (p ≡ g) × (b ≡ a)
gc-page Owned Owned v g p h = (sym (ap (λ c. page c) h), refl)
  where
    page : Condition → ℕ
    page (guests u q) = q
    page c = 0
gc-page SharedOwned SharedOwned v g p h = (sym (ap (λ c. page c) h), refl)
  where
    page : Condition → ℕ
    page (lent_back u q) = q
    page c = 0
gc-page SharedBorrowed SharedBorrowed v g p h = (sym (ap (λ c. page c) h), refl)
  where
    page : Condition → ℕ
    page (with_guest u q) = q
    page c = 0
gc-page a b v g p h = cc

hosts-named : {P : Type 0} (a : State) (v g : ℕ) → hosts ≡ guest_condition a v g → P
hosts-named Owned v g h = cc
hosts-named SharedOwned v g h = cc
hosts-named SharedBorrowed v g h = cc

-- a frame and a guest's page of it before, and after, a step: the frame is the host's and the page is unmapped, or the
-- condition names the page

data Side : Type 0 where
  apart : Side
  joined : State → Side

abbrev side_condition : Side → ℕ → ℕ → Condition
side_condition apart v g = hosts
side_condition (joined a) v g = guest_condition a v g

abbrev SideFits : Side → ℕ → Entry → Type 0
SideFits apart f e = e ≡ Unmapped
SideFits (joined a) f e = IsMemoryLeaf f a e

-- the memory frames and their pages before
record SideBefore (l : Layout) (s : Contents) (condition : ℕ → Condition) (v f g n : ℕ) (old : Side) : Type 0 where
  some : 1 ≤ n
  memory : (q : ℕ) → is_within f n q ≡ true → is_memory l q ≡ true
  pages : g + n ≤ pages_below l.depth
  alive : (s.guest v).phase ≢ empty
  was : (q : ℕ) → is_within f n q ≡ true → condition q ≡ side_condition old v (g + (q - f))
  stood : (q : ℕ) → is_within f n q ≡ true → SideFits old q ((s.guest v).tree.map (g + (q - f)))

-- and after a change of the host's pages and the guest's
record SideAfter (v f : ℕ) (e : Entry) (g : ℕ) (e' : Entry) (n : ℕ) (new : Side) : Type 0 where
  stands : (q : ℕ) → is_within f n q ≡ true → SideFits new q (advance e' (q - f))
  host : (q : ℕ) → is_within f n q ≡ true → HostFits q (side_condition new v (g + (q - f))) (advance e (q - f))
  told : (cpu q : ℕ)
      → is_within f n q ≡ true
      → row_in q (side_condition new v (g + (q - f))) ≡ touched_row cpu (Some v) (two_ranges f e g e' n) q
  goes : (cpu q : ℕ)
      → is_within f n q ≡ true
      → side_condition new v (g + (q - f)) ≡ touched_condition cpu (Some v) (two_ranges f e g e' n) q

side-only : (a : Side) (v g : ℕ) → only v (side_condition a v g) ≡ true
side-only apart v g = refl
side-only (joined a) v g = gc-only a v g

side-shared : (a : Side) (v g : ℕ) → in_shared (side_condition a v g) ≡ false
side-shared apart v g = refl
side-shared (joined a) v g = gc-shared a v g

side-vm : (a : Side) (u v g : ℕ) → in_vm u (side_condition a v g) ≡ false
side-vm apart u v g = refl
side-vm (joined a) u v g = gc-vm a u v g

side-hand : (a : Side) (d v g : ℕ) → in_hand d (side_condition a v g) ≡ false
side-hand apart d v g = refl
side-hand (joined a) d v g = gc-hand a d v g

side-hyp : (a : Side) (f v g : ℕ) → hyp_entry_by f (side_condition a v g) ≡ Unmapped
side-hyp apart f v g = refl
side-hyp (joined a) f v g = gc-hyp a f v g

side-inside : (a : Side) (v g : ℕ) → is_inside (side_condition a v g) ≡ true
side-inside apart v g = refl
side-inside (joined a) v g = gc-inside a v g

side-good : (l : Layout) (a : Side) (v g : ℕ) → v < 64 → g < pages_below l.depth → IsGood l (side_condition a v g)
side-good l apart v g p q = tt
side-good l (joined a) v g p q = gc-good l a v g p q

side-page : (a : Side) (v g p : ℕ) (b : State) → side_condition a v g ≡ guest_condition b v p → (p ≡ g) × (a ≡ joined b)
side-page apart v g p b h = hosts-named b v p h
side-page (joined a) v g p b h = let k = gc-page a b v g p h in (k.0, ap joined (sym k.1))

side-new : (a : Side) (v f g : ℕ) (e : Entry)
    → SideFits a f e
    → (e ≡ Unmapped)
    ⊎ ((prot : Prot)
    × (state : State)
    × (e ≡ leaf prot f state)
    × (side_condition a v g ≡ guest_condition state v g))
side-new apart v f g e h = inl h
side-new (joined a) v f g e h = inr (h.0, a, h.1, refl)

-- the frame that stands at the page
side-frame : (a : Side) (f q : ℕ) (b : State) (e : Entry) → SideFits a f e → IsMemoryLeaf q b e → q ≡ f
side-frame apart f q b e h k = let bad : Unmapped ≡ leaf k.0 q b = sym h ∙ k.1 in cc
side-frame (joined a) f q b e h k = ap entry_frame (sym k.1 ∙ h.1)

side-move : (l : Layout) (s : Contents) (legal : Legal l s) {v f : ℕ} {e : Entry} {g : ℕ} {e' : Entry} {n : ℕ}
    {old new : Side}
    → v < 64
    → SideBefore l s legal.condition v f g n old
    → SideAfter v f e g e' n new
    → PagesMove l s legal.condition v f e g e' n (λ q. side_condition new v (g + (q - f)))
side-move l s legal {v} {f} {e} {g} {e'} {n} {old} {new} slot b m = record {
  some_pages = b.some;
  memory = b.memory;
  pages = b.pages;
  alive = b.alive;
  good = λ q w. side-good l new v (g + (q - f)) slot (page-low q w);
  some = λ q w. side-inside new v (g + (q - f));
  only_new = λ q w. side-only new v (g + (q - f));
  only_old = λ q w. ap (only v) (b.was q w) ∙ side-only old v (g + (q - f));
  same_shared =
      λ q w. ap in_shared (b.was q w) ∙ side-shared old v (g + (q - f)) ∙ sym (side-shared new v (g + (q - f)));
  same_vm = λ q w. ap (in_vm v) (b.was q w) ∙ side-vm old v v (g + (q - f)) ∙ sym (side-vm new v v (g + (q - f)));
  same_hand =
      λ d q w. ap (in_hand d) (b.was q w) ∙ side-hand old d v (g + (q - f)) ∙ sym (side-hand new d v (g + (q - f)));
  no_hand = λ d q w. side-hand new d v (g + (q - f));
  same_hyp =
      λ q w. ap (hyp_entry_by q) (b.was q w) ∙ side-hyp old q v (g + (q - f)) ∙ sym (side-hyp new q v (g + (q - f)));
  host = m.host;
  told = m.told;
  goes = m.goes;
  old_page = λ q p state w h. (side-page old v (g + (q - f)) p state (sym (b.was q w) ∙ h)).0;
  old_frame =
      λ q p state w h. side-frame old (f + (p - g)) q state ((s.guest v).tree.map p) (stood-at p w)
      (legal.maps.guest_has v p q state h);
  new_page =
      λ p w. subst (Lands p) (at-page p w)
      (side-new new v (f + (p - g)) (g + (f + (p - g) - f)) (advance e' (p - g)) (stands-at p w));
  new_has = λ q p state w h. let k = side-page new v (g + (q - f)) p state h in
      (k.0, subst (λ a. SideFits a q (advance e' (q - f))) k.1 (m.stands q w));
}
  where
    page-low : (q : ℕ) → is_within f n q ≡ true → g + (q - f) < pages_below l.depth
    page-low q w = let at = within-is f n q w in
        let low : f ≤ q = at.0 in
        let high : q < f + n = at.1 in
        let all : g + n ≤ pages_below l.depth = b.pages in
        omega arith

    -- the page of the frame of a page
    at-page : (p : ℕ) → is_within g n p ≡ true → g + (f + (p - g) - f) ≡ p
    at-page p w = turned-back g f n p w

    stood-at : (p : ℕ) → is_within g n p ≡ true → SideFits old (f + (p - g)) ((s.guest v).tree.map p)
    stood-at p w =
        subst (λ k. SideFits old (f + (p - g)) ((s.guest v).tree.map k)) (at-page p w)
        (b.stood (f + (p - g)) (within-turned g f n p w))

    stands-at : (p : ℕ) → is_within g n p ≡ true → SideFits new (f + (p - g)) (advance e' (p - g))
    stands-at p w = let same : f + (p - g) - f ≡ p - g = omega arith in
        subst (λ k. SideFits new (f + (p - g)) (advance e' k)) same (m.stands (f + (p - g)) (within-turned g f n p w))

    Lands : ℕ → ℕ → Type 0
    Lands p k =
        (advance e' (p - g) ≡ Unmapped)
        ⊎ ((prot : Prot)
        × (state : State)
        × (advance e' (p - g) ≡ leaf prot (f + (p - g)) state)
        × (side_condition new v (g + (f + (p - g) - f)) ≡ guest_condition state v k))

-- what the guest's entry tells of the frame

pub record Named (s : Contents) (condition : ℕ → Condition) (v g : ℕ) (state : State) : Type 0 where
  pub named : condition (entry_frame ((s.guest v).tree.map g)) ≡ guest_condition state v g
  pub is_leaf : IsMemoryLeaf (entry_frame ((s.guest v).tree.map g)) state ((s.guest v).tree.map g)

leaf-named : (s : Contents) (condition : ℕ → Condition) (v g : ℕ)
    → (h : IsGuestLeaf condition v g ((s.guest v).tree.map g))
    → Named s condition v g h.state
leaf-named s condition v g h =
    let frame : entry_frame ((s.guest v).tree.map g) ≡ h.frame = ap entry_frame h.leaf_is in
    record {
      named = ap condition frame
          ∙ h.named;
      is_leaf = (h.prot, h.leaf_is ∙ ap (λ n. leaf h.prot n h.state) (sym frame));
    }

in-named : (l : Layout) (s : Contents) (legal : Legal l s) (v g : ℕ) (state : State)
    → is_in state ((s.guest v).tree.map g) ≡ true
    → Named s legal.condition v g state
in-named l s legal v g state t = elim (legal.maps.guest v g) [
  | inl h ↦ let bad : false ≡ true = sym (ap (is_in state) h) ∙ t in cc
  | inr h ↦ let is : h.state ≡ state = state_eq-same h.state state (sym (ap (is_in state) h.leaf_is) ∙ t) in
      subst (Named s legal.condition v g) is (leaf-named s legal.condition v g h)
]

pub mapped-named : (l : Layout) (s : Contents) (legal : Legal l s) (v g : ℕ)
    → is_unmapped ((s.guest v).tree.map g) ≡ false
    → (state : State) × Named s legal.condition v g state
mapped-named l s legal v g t = elim (legal.maps.guest v g) [
  | inl h ↦ let bad : true ≡ false = sym (ap is_unmapped h) ∙ t in cc
  | inr h ↦ (h.state, leaf-named s legal.condition v g h)
]

pub named-memory : (l : Layout) (s : Contents) (legal : Legal l s) (f v g : ℕ) (state : State)
    → legal.condition f ≡ guest_condition state v g
    → is_memory l f ≡ true
named-memory l s legal f v g state h = sym (legal.of_layout.inside f) ∙ ap is_inside h ∙ gc-inside state v g

pub good-page : (l : Layout) (g : ℕ) → is_good_page l g ≡ true → g < pages_below l.depth
good-page l g h = grind (arith, nat_tests)

unmapped-entry : (e : Entry) → is_unmapped e ≡ true → e ≡ Unmapped
unmapped-entry Unmapped h = refl
unmapped-entry e h = cc

-- a guest of a phase that a call asks isn't Empty
pub live-alive : (vm : VmId) (g : Guest) → is_guest live vm g ≡ true → g.phase ≢ empty
live-alive vm g h e = let t = (and-both (phase_eq g.phase live) (g.generation == vm.generation) h).0 in
    let bad : false ≡ true = sym (ap (λ p. phase_eq p live) e) ∙ t in
    cc

pub dying-alive : (vm : VmId) (g : Guest) → is_guest dying vm g ≡ true → g.phase ≢ empty
dying-alive vm g h e = let t = (and-both (phase_eq g.phase dying) (g.generation == vm.generation) h).0 in
    let bad : false ≡ true = sym (ap (λ p. phase_eq p dying) e) ∙ t in
    cc

pub stands-alive : (vm : VmId) (g : Guest) → is_alive vm g ≡ true → g.phase ≢ empty
stands-alive vm g h =
    by_test (is_guest live vm g) (λ a. live-alive vm g a)
    (λ a. dying-alive vm g (second (is_guest live vm g) (is_guest dying vm g) a h))
  where
    second : (a b : Bool) → a ≡ false → a || b ≡ true → b ≡ true
    second false b h k = k
    second true b h k = cc

page-advance : (f q g : ℕ) → is_within f 1 q ≡ true → g ≡ g + (q - f)
page-advance f q g w = let same = one-within f q w in omega arith

-- what holds of a frame and its page holds along the range of that frame
one-page : (f g : ℕ) (P : ℕ → ℕ → Type 0) → P f g → (q : ℕ) → is_within f 1 q ≡ true → P q (g + (q - f))
one-page f g P p q w = subst (λ k. P k (g + (q - f))) (one-within f q w) (subst (P f) (page-advance f q g w) p)

one-stands : (new : Side) (f : ℕ) (e' : Entry)
    → SideFits new f e'
    → (q : ℕ)
    → is_within f 1 q ≡ true
    → SideFits new q (advance e' (q - f))
one-stands new f e' h =
    one-frame f (λ q. SideFits new q (advance e' (q - f))) (subst (SideFits new f) (sym (advance-none e' f)) h)

module _ (l : Layout) (s : Contents) (legal : Legal l s) (usable : IsUsable l) (cpu v : ℕ) (slot : v < 64) where
  abbrev pub x : Used
  x = g_of v cpu s

  -- the guest's entry of a page, and the frame that it maps
  abbrev entry_at : ℕ → Entry
  entry_at g = (s.guest v).tree.map g

  abbrev frame_at : ℕ → ℕ
  frame_at g = entry_frame (entry_at g)

  -- free frames of the host and unmapped pages
  free-before : (f g n : ℕ) (kind : Bool)
      → (s.guest v).phase ≢ empty
      → (is_good_range l f n && are_good_pages l g n) ≡ true
      → (kind && may_give x f g n) ≡ true
      → SideBefore l s legal.condition v f g n apart
  unfolding used_of
  free-before f g n kind alive args allowed =
      let a = and-both (is_good_range l f n) (are_good_pages l g n) args in
      let good = good-range l f n a.0 in
      let t =
      both-all f g n (λ q. is_free_page (s.shared.host.map q)) (λ p. is_unmapped (entry_at p))
      (and-right kind (may_give x f g n) allowed) in
      record {
        some = good.0;
        memory = good.1;
        pages = good-pages l g n good.0 a.1;
        alive = alive;
        was = λ q w. free-is legal q (good.1 q w) (t q w).0;
        stood = λ q w. unmapped-entry (entry_at (g + (q - f))) (t q w).1;
      }

  -- a page and the frame that it maps
  named-before : (g : ℕ) (state : State)
      → (s.guest v).phase ≢ empty
      → is_good_page l g ≡ true
      → Named s legal.condition v g state
      → SideBefore l s legal.condition v (frame_at g) g 1 (joined state)
  named-before g state alive good at = record {
    some = omega arith;
    memory =
        one-frame (frame_at g) (λ q. is_memory l q ≡ true) (named-memory l s legal (frame_at g) v g state at.named);
    pages = let low = good-page l g good in omega arith;
    alive = alive;
    was = one-page (frame_at g) g (λ q p. legal.condition q ≡ guest_condition state v p) at.named;
    stood = one-page (frame_at g) g (λ q p. IsMemoryLeaf q state (entry_at p)) at.is_leaf;
  }

  in-state : (g : ℕ) (state : State) → is_in state (entry_at g) ≡ true → Named s legal.condition v g state
  in-state g state t = in-named l s legal v g state t

  -- such frames and pages change, where the pools have the frames that are needed
  side-keeps : (step : Step)
      → names step ≡ shared_and_guest
      → {f : ℕ} {e : Entry} {g : ℕ} {e' : Entry} {n : ℕ} {old new : Side}
      → SideBefore l s legal.condition v f g n old
      → SideAfter v f e g e' n new
      → shared_need l.depth (two_ranges f e g e' n) s.shared ≤ length s.shared.free
      → guest_need l.depth (two_ranges f e g e' n) (s.guest v) ≤ length (s.guest v).free
      → StepKept l s legal.condition shared_and_guest (Some v) cpu step (two_ranges f e g e' n)
  side-keeps step named {f} {e} {g} {e'} {n} {old} {new} b m enough own =
      guest-keeps l s legal usable cpu v step named (two_ranges f e g e' n) f n
      (λ q. side_condition new v (g + (q - f)))
      (pages-move l s legal usable cpu v f e g e' n (λ q. side_condition new v (g + (q - f)))
      (side-move l s legal slot b m) own) enough

  module _ (alive : (s.guest v).phase ≢ empty) where
    pub donate_guest-keeps : (f g n : ℕ)
        → refusal l.depth (donate_guest f g n (reads l cpu (Some v) x)) false x ≡ None
        → StepKept l s legal.condition shared_and_guest (Some v) cpu (DonateGuest f g n)
        (donate_guest f g n (reads l cpu (Some v) x)).changes
    unfolding used_of
    donate_guest-keeps f g n h =
        let p = passed l.depth (donate_guest f g n (reads l cpu (Some v) x)) false x h in
        side-keeps (DonateGuest f g n) refl {new = joined Owned}
        (free-before f g n (is_protected (s.guest v).kind) alive p.valid p.allowed) (record {
          stands = λ q w. (RWX, advance-leaf RWX f n q Owned w);
          host = λ q w. refl;
          told = λ d q w. refl;
          goes = λ d q w. refl;
        }) p.shared_enough p.guest_enough

    pub share_guest-keeps : (f g : ℕ) (rights : Prot) (n : ℕ)
        → refusal l.depth (share_guest f g rights n (reads l cpu (Some v) x)) false x ≡ None
        → StepKept l s legal.condition shared_and_guest (Some v) cpu (ShareGuest f g rights n)
        (share_guest f g rights n (reads l cpu (Some v) x)).changes
    unfolding used_of
    share_guest-keeps f g rights n h =
        let p = passed l.depth (share_guest f g rights n (reads l cpu (Some v) x)) false x h in
        side-keeps (ShareGuest f g rights n) refl {new = joined SharedBorrowed}
        (free-before f g n (not (is_protected (s.guest v).kind)) alive p.valid p.allowed) (record {
          stands = λ q w. (rights, advance-leaf rights f n q SharedBorrowed w);
          host = λ q w. advance-leaf RWX f n q SharedOwned w;
          told = λ d q w. refl;
          goes = λ d q w. refl;
        }) p.shared_enough p.guest_enough

    pub guest_share_host-keeps : (g : ℕ)
        → refusal l.depth (guest_share_host g (reads l cpu (Some v) x)) false x ≡ None
        → StepKept l s legal.condition shared_and_guest (Some v) cpu (GuestShareHost g)
        (guest_share_host g (reads l cpu (Some v) x)).changes
    unfolding used_of
    guest_share_host-keeps g h =
        let p = passed l.depth (guest_share_host g (reads l cpu (Some v) x)) false x h in
        let at = in-state g Owned p.allowed in
        side-keeps (GuestShareHost g) refl {new = joined SharedOwned} (named-before g Owned alive p.valid at) (record {
          stands =
              one-stands (joined SharedOwned) (frame_at g) (with_state SharedOwned (entry_at g))
              (at.is_leaf.0, ap (with_state SharedOwned) at.is_leaf.1);
          host = λ q w. advance-leaf RWX (frame_at g) 1 q SharedBorrowed w;
          told =
              λ d q w. ap (λ p. record { owner = record { 0 = 2 + v }; lent = Some (lent_at 0 p); usage = Plain })
              (range-advance (frame_at g) 1 q w);
          goes = λ d q w. refl;
        }) p.shared_enough p.guest_enough

    pub guest_unshare_host-keeps : (g : ℕ)
        → refusal l.depth (guest_unshare_host g (reads l cpu (Some v) x)) false x ≡ None
        → StepKept l s legal.condition shared_and_guest (Some v) cpu (GuestUnshareHost g)
        (guest_unshare_host g (reads l cpu (Some v) x)).changes
    unfolding used_of
    guest_unshare_host-keeps g h =
        let p = passed l.depth (guest_unshare_host g (reads l cpu (Some v) x)) false x h in
        let at = in-state g SharedOwned p.allowed in
        side-keeps (GuestUnshareHost g) refl {new = joined Owned} (named-before g SharedOwned alive p.valid at)
        (record {
          stands = one-stands (joined Owned) (frame_at g) (with_state Owned (entry_at g))
              (at.is_leaf.0, ap (with_state Owned) at.is_leaf.1);
          host = λ q w. refl;
          told = λ d q w. refl;
          goes = λ d q w. refl;
        }) p.shared_enough p.guest_enough

  pub unshare_guest-keeps : (vm : VmId) (g : ℕ)
      → refusal l.depth (unshare_guest vm g (reads l cpu (Some v) x)) false x ≡ None
      → StepKept l s legal.condition shared_and_guest (Some v) cpu (UnshareGuest vm g)
      (unshare_guest vm g (reads l cpu (Some v) x)).changes
  unfolding used_of
  unshare_guest-keeps vm g h =
      let p = passed l.depth (unshare_guest vm g (reads l cpu (Some v) x)) false x h in
      let b =
      named-before g SharedBorrowed (live-alive vm (s.guest v) p.has_vm)
      (and-right (is_good_vm vm) (is_good_page l g) p.valid) (in-state g SharedBorrowed p.allowed) in
      side-keeps (UnshareGuest vm g) refl {new = apart} b
      (record {
        stands = λ q w. refl;
        host = λ q w. inr (advance-leaf RWX (frame_at g) 1 q Owned w);
        told = λ d q w. refl;
        goes = λ d q w. refl;
      }) p.shared_enough p.guest_enough

  -- what the host gets back
  reclaimed : (b : Bool) (f g : ℕ) → SideAfter v f (if b then Unmapped else leaf RWX f Owned) g Unmapped 1 apart
  reclaimed true f g =
      record { stands = λ q w. refl; host = λ q w. inl refl; told = λ d q w. refl; goes = λ d q w. refl }
  reclaimed false f g =
      record {
        stands = λ q w. refl;
        host = λ q w. inr (advance-leaf RWX f 1 q Owned w);
        told = λ d q w. refl;
        goes = λ d q w. refl;
      }

  pub reclaim_page-keeps : (vm : VmId) (g : ℕ)
      → refusal l.depth (reclaim_page vm g (reads l cpu (Some v) x)) false x ≡ None
      → StepKept l s legal.condition shared_and_guest (Some v) cpu (ReclaimPage vm g)
      (reclaim_page vm g (reads l cpu (Some v) x)).changes
  unfolding used_of
  reclaim_page-keeps vm g h =
      let p = passed l.depth (reclaim_page vm g (reads l cpu (Some v) x)) false x h in
      let found = mapped-named l s legal v g (not-true (is_unmapped (entry_at g)) p.allowed) in
      let b =
      named-before g found.0 (dying-alive vm (s.guest v) p.has_vm)
      (and-right (is_good_vm vm) (is_good_page l g) p.valid) found.1 in
      side-keeps (ReclaimPage vm g) refl b
      (reclaimed (is_in Owned (entry_at g)) (frame_at g) g) p.shared_enough p.guest_enough
