-- The made steps that move frames into and out of a guest's pool and root keep the invariant.
use Rattle.std.proofs.Common.{◌≡◌, ◌≢◌, ℕ, zero, suc, ◌+◌, ◌-◌, ◌*◌, ◌≤◌, ◌<◌, refl, ap, sym, ◌∙◌, subst, arith, inl, inr, [], ◌∷◌, length, mul-le-mul_right}
use Rattle.std.specs.Prelude.{Bool, true, false, not, ◌&&◌, ◌==◌, nat_lt, unwrap_or, is_some, Option, Some, None}
use Rattle.std.proofs.lemmas.Bool.Decides.{nat_tests}
use Rattle.descriptor.specs.declared.State.{State}
use Rattle.descriptor.specs.declared.State.TheVariants.{Owned, SharedOwned, SharedBorrowed}
use Rattle.reference_model.specs.model.Rule.{reads}
use Rattle.reference_model.specs.declared.changes.Ticket.{Ticket}
use Rattle.reference_model.specs.declared.changes.Stage.{Stage}
use Rattle.reference_model.specs.declared.changes.Stage.TheVariants.{Dying as dying_vm, Finished as finished}
use Rattle.page_state.specs.declared.entry.Entry.{Entry}
use Rattle.page_state.specs.declared.entry.Entry.TheVariants.{Unmapped}
use Rattle.page_state.specs.declared.row.Usage.TheVariants.{VmPool}
use Rattle.call_table.specs.declared.step.Step.TheVariants.{ReclaimPool, FinishGuest}
use Rattle.call_table.specs.declared.step.VmId.{VmId}
use Rattle.call_table.specs.declared.step.VmKind.TheVariants.{Plain as PlainVm}
use Rattle.page_state.specs.Blocks.{first_page, span}
use Rattle.page_state.specs.Trees.{frames_from, root_tree, Block, Tree, Pool}
use Rattle.page_state.specs.Counts.{is_one, frame_count}
use Rattle.page_state.specs.EntryTests.{is_unmapped, leaf}
use Rattle.page_state.specs.Geometries.{block_pages, pages_below}
use Rattle.reference_model.specs.model.GuestRules.{moved_on, reclaim_pool, finish_guest, is_guest, least}
use Rattle.call_table.specs.declared.reply.Value.{Value}
use Rattle.call_table.specs.declared.reply.Value.TheVariants.{Nothing, Frame as FrameOf}
use Rattle.reference_model.specs.declared.changes.CpuChange.{CpuChange}
use Rattle.reference_model.specs.declared.changes.GuestChange.{GuestChange}
use Rattle.reference_model.specs.declared.changes.GuestChange.TheVariants.{LoseLowest, Empty}
use Rattle.reference_model.specs.model.Changes.{cpu_by, same_cpu, rest}
use Rattle.page_state.specs.Map.{is_within}
use Rattle.page_state.specs.Search.{all_below}
use Rattle.reference_model.specs.model.State.{Guest, Contents, empty, dying, no_guest}
use Rattle.page_state.specs.Layouts.{Layout}
use Rattle.reference_model.specs.model.Owner.{is_frame}
use Rattle.reference_model.specs.model.Parts.{shared_and_guest}
use Rattle.reference_model.specs.model.Used.{Used, used_of}
use Rattle.reference_model.specs.model.Step.{refusal, guest_after}
use Rattle.page_state.specs.Tables.{needs, freed, returned, edited}
use Rattle.page_state.specs.Blocks.{is_one_word}
use Rattle.coarse_trees.proofs.Stays.{none_is_coarsest}
use Rattle.reference_model.proofs.conditions.Conserved.{empty-one_word}
use Rattle.reference_model.specs.help.Conditions.{Condition, hosts, hyps, guest_condition, GuestFits, Legal, IsUsable, in_vm, in_hand, one, table_uses, guest_uses, IsGood}
use Rattle.page_state.proofs.Blocks.{all_from-each, empty_means, is_unmapped-same}
use Rattle.page_state.proofs.Cases.{by_eq, by_lt}
use Rattle.page_state.proofs.Common.{both, eq-same, eq-self, eq-made, if-true, if-false, and-both}
use Rattle.page_state.proofs.Counts.{count_next}
use Rattle.page_state.proofs.BlockTests.{block-same}
use Rattle.reference_model.proofs.Frames.{count_blocks-none}
use Rattle.page_state.proofs.Sizes.{size_some, size_split}
use Rattle.coarse_trees.specs.Coarsest.{IsCoarsest, IsInTree}
use Rattle.reference_model.proofs.conditions.Tables.{uses_of, uses-put}
use Rattle.reference_model.proofs.conditions.Moves.{moved_to, always, is_pageless, guest-kept, has-kept, moved-in, moved-out}
use Rattle.reference_model.proofs.conditions.FrameMoves.{StepKept, FramesMove, no-uses}
use Rattle.reference_model.proofs.conditions.GuestMoves.{only, g_of, new_guest, new_cpu, GuestMove, guest-keeps, slots-stay}
use Rattle.reference_model.proofs.conditions.PageSteps.{dying-alive}
use Rattle.reference_model.proofs.conditions.RangeMoves.{range_changes, within-made, one-within, one-frame, hands-stay, back-frames}
use Rattle.reference_model.proofs.conditions.Tests.{Passed, passed}
use Rattle.reference_model.proofs.conditions.Slots.{ticket-fits, slots-turn}

-- counts

pub count-frames : (first n f : ℕ) → frame_count f (frames_from first n) ≡ one (is_within first n f)
count-frames first zero f = let w : is_within first 0 f ≡ false = grind (arith, nat_tests) in sym (ap one w)
count-frames first (suc n) f =
    let next = count_next f first (frames_from (first + 1) n) in
    let more = count-frames (first + 1) n f in
    by_eq first f
    (λ e.
    let a : is_one first f ≡ 1 = ap one (eq-made first f e) in
    let b : is_within (first + 1) n f ≡ false = grind (arith, nat_tests) in
    let c : is_within first (suc n) f ≡ true = within-made first (suc n) f (omega arith) (omega arith) in
    let d : one (is_within (first + 1) n f) ≡ 0 = ap one b in
    let z : one (is_within first (suc n) f) ≡ 1 = ap one c in
    omega arith)
    (λ ne.
    let a : is_one first f ≡ 0 = ap one (eq-off first f ne) in
    let c : is_within first (suc n) f ≡ is_within (first + 1) n f = same-within first n f ne in
    let z : one (is_within first (suc n) f) ≡ one (is_within (first + 1) n f) = ap one c in
    omega arith)
  where
    eq-off : (a b : ℕ) → (a ≡ b → ⊥) → (a == b) ≡ false
    eq-off a b h = grind (arith, nat_tests)

    same-within : (a n b : ℕ) → (a ≡ b → ⊥) → is_within a (suc n) b ≡ is_within (a + 1) n b
    same-within a n b h = elim (both (is_within (a + 1) n b)) [
      | inl e ↦ let x : is_within a (suc n) b ≡ true = grind (arith, nat_tests) in x ∙ sym e
      | inr e ↦ let x : is_within a (suc n) b ≡ false = grind (arith, nat_tests) in x ∙ sym e
    ]

abbrev pub root_block : ℕ → Block
root_block depth = (depth + 1, 0)

pub root-inside : (depth : ℕ) → IsInTree depth (root_block depth)
root-inside depth = record { some = omega arith; top = omega arith; index = size_some (depth + 1 - (depth + 1)) }

-- a tree of its root alone uses that frame
pub root-uses : (depth root f : ℕ) (table : Block → Option ℕ)
    → ((b : Block) → (b ≡ root_block depth → ⊥) → table b ≡ None)
    → table (root_block depth) ≡ Some root
    → uses_of depth table f ≡ is_one root f
unfolding uses_of
root-uses depth root f table none h =
    let put = uses-put depth f (root_block depth) table (λ b. None) (root-inside depth) none in
    let nothing : uses_of depth (λ b. None) f ≡ 0 =
    count_blocks-none (depth + 1) (depth + 1) (λ b. is_frame f None) (λ b. refl) in
    let is : one (is_frame f (table (root_block depth))) ≡ is_one root f = ap (λ o. one (is_frame f o)) h in
    sum (uses_of depth table f) (uses_of depth (λ b. None) f) (one (is_frame f (table (root_block depth))))
    (is_one root f) put nothing is
  where
    sum : (a b c d : ℕ) → a + 0 ≡ b + c → b ≡ 0 → c ≡ d → a ≡ d
    sum a b c d p q r = omega arith

pub root-none : (depth root : ℕ) (b : Block) → (b ≡ root_block depth → ⊥) → (root_tree depth root).table b ≡ None
root-none depth root b h = elim (both (b.0 == depth + 1 && b.1 == 0)) [
  | inl e ↦ absurd
      (let k = and-both (b.0 == depth + 1) (b.1 == 0) e in
      h (block-same (eq-same b.0 (depth + 1) k.0) (eq-same b.1 0 k.1)))
  | inr e ↦ if-false (b.0 == depth + 1 && b.1 == 0) (Some root) None e
]

pub root-here : (depth root : ℕ) → (root_tree depth root).table (root_block depth) ≡ Some root
root-here depth root =
    if-true (depth + 1 == depth + 1 && 0 == 0) (Some root) None (go (depth + 1 == depth + 1) (eq-self (depth + 1)))
  where
    go : (a : Bool) → a ≡ true → (a && (0 == 0)) ≡ true
    go true e = refl
    go false e = cc

-- a coarsest tree in which nothing is mapped has no table but its root
pages-of : (depth : ℕ) (b : Block) (i : ℕ) → IsInTree depth b → i < span b → first_page b + i < pages_below depth
pages-of depth b i inside less =
    let size : block_pages (depth + 1) ≡ block_pages (depth + 1 - b.0) * block_pages b.0 =
    size_split (depth + 1) (b.0) inside.top in
    let up : (b.1 + 1) * block_pages b.0 ≤ block_pages (depth + 1 - b.0) * block_pages b.0 =
    mul-le-mul_right (block_pages b.0) (let k = inside.index in omega arith) in
    omega arith

pub bare-tree : (depth : ℕ) (t : Tree)
    → IsCoarsest depth t
    → ((p : ℕ) → p < pages_below depth → t.map p ≡ Unmapped)
    → (b : Block)
    → (b ≡ root_block depth → ⊥)
    → t.table b ≡ None
bare-tree depth t coarse bare b off = go (t.table b) refl
  where
    go : (o : Option ℕ) → t.table b ≡ o → o ≡ None
    go None h = refl
    go (Some f) h =
        let inside = coarse.inside b f h in
        by_lt b.0 (depth + 1)
        (λ low.
        let said : is_one_word t.map b ≡ true =
        empty-one_word t.map b
        ((empty_means t.map b).1 (λ i less. bare (first_page b + i) (pages-of depth b i inside less))) in
        let z : true ≡ false =
        sym (ap (λ (x : Option ℕ). is_some x) h) ∙ coarse.below b inside (omega arith) ∙ ap (λ w. not w) said in
        cc)
        (λ high.
        let top : b.0 ≡ depth + 1 = let k = inside.top in omega arith in
        let zero-index : b.1 ≡ 0 =
        let k : b.1 < block_pages (depth + 1 - (depth + 1)) =
        subst (λ d. b.1 < block_pages (depth + 1 - d)) top inside.index in
        let z : depth + 1 - (depth + 1) ≡ 0 = omega arith in
        let m : b.1 < 1 = subst (λ d. b.1 < block_pages d) z k in
        omega arith in
        absurd (off (block-same top zero-index)))

-- pools

no-pool : (free : Pool) → (length free == 0) ≡ true → free ≡ []
no-pool [] h = refl
no-pool (g ∷ gs) h =
    absurd (let z : (length (g ∷ gs) == 0) ≡ false = grind (arith, nat_tests) in let w : false ≡ true = sym z ∙ h in cc)

pool-some : (free : Pool) → nat_lt 0 (length free) ≡ true → free ≡ least free ∷ rest free
pool-some [] h = cc
pool-some (f ∷ fs) h = refl

pub in_vm-hyps : (v : ℕ) (c : Condition) → in_vm v c ≡ true → c ≡ hyps (VmPool v)
in_vm-hyps v (hyps (VmPool u)) h = ap (λ n. hyps (VmPool n)) (eq-same u v h)
in_vm-hyps v c h = cc

one-off : (f q : ℕ) → is_within f 1 q ≡ false → (f == q) ≡ false
one-off f q w =
    elim (both (f == q)) [
      | inr e ↦ e
      | inl e ↦
          (let same : f ≡ q = eq-same f q e in
          let z : true ≡ false = sym (within-made f 1 q (omega arith) (omega arith)) ∙ w in
          cc)
    ]

pub one-some : (b : Bool) (n : ℕ) → n ≡ one b → 1 ≤ n → b ≡ true
one-some true n h k = refl
one-some false n h k = absurd (omega arith)

empty-uses : (depth q f root : ℕ) (g : Guest)
    → f ≡ root
    → g.free ≡ []
    → ((b : Block) → (b ≡ root_block depth → ⊥) → g.tree.table b ≡ None)
    → g.tree.table (root_block depth) ≡ Some root
    → guest_uses depth g q ≡ is_one f q
unfolding table_uses uses_of
empty-uses depth q f root g is pool none h =
    let a = root-uses depth root q g.tree.table none h in
    let b : frame_count q g.free ≡ 0 = ap (frame_count q) pool in
    let c : is_one f q ≡ is_one root q = ap (λ n. is_one n q) is in
    omega arith

named-page : (l : Layout) (a : State) (v p : ℕ) → IsGood l (guest_condition a v p) → p < pages_below l.depth
named-page l Owned v p h = h.1
named-page l SharedOwned v p h = h.1
named-page l SharedBorrowed v p h = h.1

abbrev pub turn : Stage → Option Ticket → Option Ticket
turn b o =
    Some
    (record {
      vm = elim o [ Some t ↦ t.vm | None ↦ record { slot = 0; generation = 0 } ];
      kind = elim o [ Some t ↦ t.kind | None ↦ PlainVm ];
      stage = b;
    })

-- the ticket after it goes on to a stage
pub turned : (o : Option Ticket) (t : Ticket) (b : Stage)
    → o ≡ Some t
    → turn b o ≡ Some (record { vm = t.vm; kind = t.kind; stage = b })
turned o t b h = ap (turn b) h

module _ (l : Layout) (s : Contents) (legal : Legal l s) (usable : IsUsable l) (cpu v : ℕ) (slot : v < 64) where
  abbrev pub x : Used
  x = g_of v cpu s

  -- a frame that the guest held goes back to the host
  module _ (f : ℕ) (was : legal.condition f ≡ hyps (VmPool v)) where
    at-range : {X : Type 0} (see : Condition → X) (q : ℕ)
        → is_within f 1 q ≡ true
        → see (legal.condition q) ≡ see (hyps (VmPool v))
    at-range see = one-frame f (λ q. see (legal.condition q) ≡ see (hyps (VmPool v))) (ap see was)

    root-frames : (part : GuestChange) (k : CpuChange) (value : Value)
        → (cpu_by k (s.cpu cpu)).hand ≡ (s.cpu cpu).hand
        → FramesMove l s legal.condition cpu (Some v) (range_changes f 1 Unmapped Unmapped part k value) f 1
        (always hosts)
    root-frames part k value same =
        back-frames legal usable cpu (Some v) part k value f 1 (VmPool v) (omega arith) (at-range (λ c. c)) refl
        (hands-stay legal cpu k (always hosts) f 1 same (λ d. at-range (in_hand d)))

    pool-guest : (p : ℕ) (e : Entry)
        → GuestFits legal.condition v p e
        → GuestFits (moved_to (always hosts) f 1 legal.condition) v p e
    pool-guest = guest-kept hosts f 1 legal.condition (at-range is_pageless) v

    pool-has : (p q : ℕ) (state : State)
        → moved_to (always hosts) f 1 legal.condition q ≡ guest_condition state v p
        → legal.condition q ≡ guest_condition state v p
    pool-has p q state = has-kept hosts f 1 legal.condition refl v p q state

  -- the least free frame of the guest's pool
  pub least-was : nat_lt 0 (length (s.guest v).free) ≡ true → legal.condition (least (s.guest v).free) ≡ hyps (VmPool v)
  least-was some =
      let f = least (s.guest v).free in
      let next : frame_count f (s.guest v).free ≡ is_one f f + frame_count f (rest (s.guest v).free) =
      ap (frame_count f) (pool-some (s.guest v).free some) ∙ count_next f f (rest (s.guest v).free) in
      let mine : is_one f f ≡ 1 = ap one (eq-self f) in
      in_vm-hyps v (legal.condition f)
      (one-some (in_vm v (legal.condition f)) (guest_uses l.depth (s.guest v) f) (legal.held.vm v f) (omega arith))

  reclaim_pool-move : (vm : VmId)
      → Passed l.depth (reclaim_pool vm (reads l cpu (Some v) x)) false x
      → GuestMove l s legal.condition cpu v (reclaim_pool vm (reads l cpu (Some v) x)).changes
      (least (s.guest v).free) 1 (always hosts)
  unfolding used_of guest_after edited freed needs returned
  reclaim_pool-move vm p =
      let f = least (s.guest v).free in
      let alive = dying-alive vm (s.guest v) p.has_vm in
      let next : (q : ℕ) → frame_count q (s.guest v).free ≡ is_one f q + frame_count q (rest (s.guest v).free) =
      λ q. ap (frame_count q) (pool-some (s.guest v).free p.allowed) ∙ count_next q f (rest (s.guest v).free) in
      let was = least-was p.allowed in
      record {
        frames = root-frames f was LoseLowest same_cpu (FrameOf (record { 0 = f })) refl;
        only_new = λ q w. refl;
        only_old = λ q w. at-range f was (only v) q w ∙ eq-self v;
        guest = λ q. pool-guest f was q ((s.guest v).tree.map q) (legal.maps.guest v q);
        guest_has = λ q w state h. legal.maps.guest_has v q w state (pool-has f was q w state h);
        held = λ q. pool-held f was q (next q) (ap one (eq-self f));
        coarse = legal.trees.guest v;
        blank = λ k. absurd (alive k);
        rooted = legal.guest_parts.rooted v;
        slots =
            slots-stay legal cpu v (new_guest l s v (reclaim_pool vm (reads l cpu (Some v) x)).changes)
            (new_cpu s cpu (reclaim_pool vm (reads l cpu (Some v) x)).changes) refl refl refl refl refl
            (legal.slots.some_hand cpu);
      }
    where
      pool-held : (f : ℕ)
          → legal.condition f ≡ hyps (VmPool v)
          → (q : ℕ)
          → frame_count q (s.guest v).free ≡ is_one f q + frame_count q (rest (s.guest v).free)
          → is_one f f ≡ 1
          → frame_count q (rest (s.guest v).free) + table_uses l.depth (s.guest v).tree q
          ≡ one (in_vm v (moved_to (always hosts) f 1 legal.condition q))
      pool-held f was q next mine = elim (both (is_within f 1 q)) [
        | inl w ↦
            let same : f ≡ q = one-within f q w in
            let here : is_one f q ≡ 1 = ap (is_one f) (sym same) ∙ mine in
            let old = legal.held.vm v q in
            let was-one : one (in_vm v (legal.condition q)) ≡ 1 =
            ap (λ k. one (in_vm v (legal.condition k))) (sym same) ∙ ap (λ k. one (in_vm v k)) was
            ∙ ap one (eq-self v) in
            let now : one (in_vm v (moved_to (always hosts) f 1 legal.condition q)) ≡ 0 =
            ap (λ k. one (in_vm v k)) (moved-in (always hosts) f 1 legal.condition q w) in
            omega arith
        | inr w ↦
            let ne : (f == q) ≡ false = one-off f q w in let off : is_one f q ≡ 0 = ap one ne in
            let old = legal.held.vm v q in
            let now : one (in_vm v (moved_to (always hosts) f 1 legal.condition q)) ≡ one (in_vm v (legal.condition q)) =
            ap (λ k. one (in_vm v k)) (moved-out (always hosts) f 1 legal.condition q w) in
            omega arith
      ]

  pub reclaim_pool-keeps : (vm : VmId)
      → refusal l.depth (reclaim_pool vm (reads l cpu (Some v) x)) false x ≡ None
      → StepKept l s legal.condition shared_and_guest (Some v) cpu (ReclaimPool vm)
      (reclaim_pool vm (reads l cpu (Some v) x)).changes
  unfolding used_of
  reclaim_pool-keeps vm h =
      let p = passed l.depth (reclaim_pool vm (reads l cpu (Some v) x)) false x h in
      guest-keeps l s legal usable cpu v (ReclaimPool vm) refl (reclaim_pool vm (reads l cpu (Some v) x)).changes
      (least (s.guest v).free) 1 (always hosts) (reclaim_pool-move vm p) p.shared_enough

  -- finish_guest: the root goes back

  -- a guest of which the root alone is left
  pub record IsRootLeft (f : ℕ) : Type 0 where
    pub bare : (q : ℕ) → q < pages_below l.depth → (s.guest v).tree.map q ≡ Unmapped
    pub uses : (q : ℕ) → guest_uses l.depth (s.guest v) q ≡ is_one f q
    pub was : legal.condition f ≡ hyps (VmPool v)

  pub root-left : (s.guest v).phase ≡ dying
      → (finish_guest (reads l cpu (Some v) x)).allowed.passes ≡ true
      → IsRootLeft (unwrap_or ((s.guest v).tree.table (l.depth + 1, 0)) 0)
  unfolding used_of
  root-left here allowed =
      let f = unwrap_or ((s.guest v).tree.table (l.depth + 1, 0)) 0 in
      let alive : (s.guest v).phase ≢ empty = λ e. (let z : dying ≡ empty = sym here ∙ e in cc) in
      let root = legal.guest_parts.rooted v alive in
      let is : f ≡ root.0 = ap (λ o. unwrap_or o 0) root.1 in
      let tests =
      and-both (all_below (pages_below l.depth) (λ g. is_unmapped ((s.guest v).tree.map g)))
      (length (s.guest v).free == 0) allowed in
      let bare : (q : ℕ) → q < pages_below l.depth → (s.guest v).tree.map q ≡ Unmapped =
      λ q less. is_unmapped-same ((s.guest v).tree.map q)
      (all_from-each 0 (pages_below l.depth) (λ g. is_unmapped ((s.guest v).tree.map g)) tests.0 q
      (omega arith) (omega arith)) in
      let uses : (q : ℕ) → guest_uses l.depth (s.guest v) q ≡ is_one f q =
      λ q. empty-uses l.depth q f root.0 (s.guest v) is (no-pool (s.guest v).free tests.1)
      (bare-tree l.depth (s.guest v).tree (legal.trees.guest v) bare) root.1 in
      let mine : is_one f f ≡ 1 = ap one (eq-self f) in
      let n = uses f in
      record {
        bare = bare;
        uses = uses;
        was =
            in_vm-hyps v (legal.condition f)
            (one-some (in_vm v (legal.condition f)) (guest_uses l.depth (s.guest v) f) (legal.held.vm v f)
            (omega arith));
      }

  finish_guest-move : (t : Ticket)
      → (s.cpu cpu).ticket ≡ Some t
      → t.vm.slot ≡ v
      → t.stage ≡ dying_vm
      → Passed l.depth (finish_guest (reads l cpu (Some v) x)) false x
      → GuestMove l s legal.condition cpu v (finish_guest (reads l cpu (Some v) x)).changes
      (unwrap_or ((s.guest v).tree.table (l.depth + 1, 0)) 0) 1 (always hosts)
  unfolding used_of guest_after edited freed needs returned
  finish_guest-move t has at-slot stage p =
      let f = unwrap_or ((s.guest v).tree.table (l.depth + 1, 0)) 0 in
      let here = ticket-fits s legal.slots cpu v dying_vm t has at-slot stage in
      let left = root-left here.1 p.allowed in
      record {
        frames = root-frames f left.was Empty (moved_on finished (s.cpu cpu)) Nothing refl;
        only_new = λ q w. refl;
        only_old = λ q w. at-range f left.was (only v) q w ∙ eq-self v;
        guest = λ q. inl refl;
        guest_has = λ q w state h. absurd (unnamed q w state (pool-has f left.was q w state h) left.bare);
        held = λ q. blank-uses q ∙ sym (none-left f q (left.uses q));
        coarse = none_is_coarsest l.depth;
        blank = λ k. refl;
        rooted = λ k. absurd (k refl);
        slots =
            slots-turn s legal.slots cpu v t (new_guest l s v (finish_guest (reads l cpu (Some v) x)).changes)
            (new_cpu s cpu (finish_guest (reads l cpu (Some v) x)).changes) finished has at-slot (here.0, refl)
            (λ k. absurd (k refl)) refl (turned (s.cpu cpu).ticket t finished has) (legal.slots.some_hand cpu);
      }
    where
      none-left : (f q : ℕ)
          → guest_uses l.depth (s.guest v) q ≡ is_one f q
          → one (in_vm v (moved_to (always hosts) f 1 legal.condition q)) ≡ 0
      none-left f q uses = elim (both (is_within f 1 q)) [
        | inl w ↦ ap (λ k. one (in_vm v k)) (moved-in (always hosts) f 1 legal.condition q w)
        | inr w ↦
            let ne : (f == q) ≡ false = one-off f q w in
            let off : is_one f q ≡ 0 = ap one ne in
            ap (λ k. one (in_vm v k)) (moved-out (always hosts) f 1 legal.condition q w) ∙ sym (legal.held.vm v q)
            ∙ uses ∙ off
      ]

      unnamed : (q w : ℕ) (state : State)
          → legal.condition w ≡ guest_condition state v q
          → ((p : ℕ) → p < pages_below l.depth → (s.guest v).tree.map p ≡ Unmapped)
          → ⊥
      unnamed q w state h bare =
          let k = legal.maps.guest_has v q w state h in
          let less = named-page l state v q (subst (IsGood l) h (legal.of_layout.good w)) in
          let z : Unmapped ≡ leaf k.0 w state = sym (bare q less) ∙ k.1 in
          cc

      blank-uses : (q : ℕ) → guest_uses l.depth no_guest q ≡ 0
      blank-uses q = let e = no-uses l.depth q in omega arith

  pub finish_guest-keeps : (t : Ticket)
      → (s.cpu cpu).ticket ≡ Some t
      → t.vm.slot ≡ v
      → t.stage ≡ dying_vm
      → refusal l.depth (finish_guest (reads l cpu (Some v) x)) false x ≡ None
      → StepKept l s legal.condition shared_and_guest (Some v) cpu FinishGuest
      (finish_guest (reads l cpu (Some v) x)).changes
  unfolding used_of
  finish_guest-keeps t has at stage h =
      let p = passed l.depth (finish_guest (reads l cpu (Some v) x)) false x h in
      guest-keeps l s legal usable cpu v FinishGuest refl (finish_guest (reads l cpu (Some v) x)).changes
      (unwrap_or ((s.guest v).tree.table (l.depth + 1, 0)) 0) 1 (always hosts)
      (finish_guest-move t has at stage p) p.shared_enough
