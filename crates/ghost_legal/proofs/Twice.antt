-- What is held in a legal state is memory, and held once.
use Rattle.std.proofs.Common.{◌≡◌, ℕ, zero, suc, ◌+◌, ◌-◌, ◌^◌, ◌<◌, ◌≤◌, Bool, true, false, ◌==◌, List, [], ◌∷◌, ◌++◌, length, get_or, Option, Some, None, refl, sym, ap, subst, ◌∙◌, inl, inr, arith}
use Rattle.std.specs.Prelude.{◌⊎◌, ◌&&◌, All, IsPermutation}
use Rattle.std.proofs.lemmas.Bool.Decides.{nat_tests}
use Rattle.std.proofs.lemmas.List.Elements.{All-append, All-cons, All-contains, All-head, All-nil, All-tail}
use Rattle.std.proofs.lemmas.List.Sorted.{IsPermutation-refl, sum_by-IsPermutation}
use Rattle.std.proofs.lemmas.List.Sums.{sum_by-append, sum_by-cons}
use Rattle.descriptor.specs.declared.State.{State}
use Rattle.descriptor.specs.declared.State.TheVariants.{Owned, SharedOwned, SharedBorrowed}
use Rattle.page_state.specs.declared.entry.Entry.{Entry}
use Rattle.page_state.specs.declared.entry.Entry.TheVariants.{Unmapped}
use Rattle.page_state.specs.Blocks.{block_eq}
use Rattle.page_state.specs.Entries.{entry_of_target}
use Rattle.page_state.specs.Map.{is_within}
use Rattle.page_state.proofs.BlockTests.{block_eq-same}
use Rattle.page_state.proofs.Runs.{StartsFrom}
use Rattle.freedoms.specs.AnyTrees.{AreFramesLegal}
use Rattle.ghost_trees.specs.Parts.{BeginsFrom}
use Rattle.ghost_trees.proofs.Coarse.{begins_next}
use Rattle.std.proofs.lemmas.List.{get_or_default}
use Rattle.page_state.specs.declared.entry.PageRange.{PageRange}
use Rattle.page_state.specs.declared.entry.Run.{Run}
use Rattle.page_state.specs.declared.entry.Target.{Target}
use Rattle.page_state.specs.declared.entry.Target.TheVariants.{Malformed, Annotated, Leaf}
use Rattle.page_state.specs.declared.row.Usage.TheVariants.{SharedPool as SharedPoolUse, InHand}
use Rattle.page_state.specs.EntryTests.{leaf, entry_frame}
use Rattle.page_state.specs.LayoutFaults.{IsAccepted}
use Rattle.page_state.specs.LayoutView.{layout_of}
use Rattle.page_state.specs.Layouts.{is_memory}
use Rattle.page_state.specs.Regions.{end_of, is_in_range}
use Rattle.page_state.specs.Runs.{run_end, IsCoarsest}
use Rattle.page_state.specs.Trees.{Block}
use Rattle.page_state.proofs.Accepted.{memory_below}
use Rattle.page_state.proofs.Cases.{by_eq, by_lt, by_test}
use Rattle.page_state.proofs.Common.{and-both, eq-same, eq-self, not-holds}
use Rattle.reference_model.specs.help.Conditions.{Condition, hyps, guest_condition, in_shared, in_vm, in_hand, is_inside, one, GuestFits, IsMemoryLeaf}
use Rattle.ghost_trees.specs.declared.tree.Table.{Table as TableOf}
use Rattle.ghost_trees.specs.Small.{AreSmall, HasLowFrames, IsSmall}
use Rattle.ghost_trees.specs.Trees.{table_of}
use Rattle.ghost_trees.proofs.Overlaid.{within_means}
use Rattle.ghost_spec.specs.declared.cpu.GhostCpu.{GhostCpu}
use Rattle.ghost_spec.specs.declared.lists.GhostLists.{GhostLists}
use Rattle.ghost_spec.specs.declared.parts.GhostGuest.{GhostGuest}
use Rattle.ghost_spec.specs.Kept.{AreLowFrames, HasLowTables, IsKeptCpu, IsKeptGuest, IsSmallRange}
use Rattle.ghost_spec.specs.States.{contents_in, AreKeptCpus, AreKeptGuests, IsKept}
use Rattle.ghost_legal.specs.declared.finding.Holder.{Holder}
use Rattle.ghost_legal.specs.declared.finding.Holder.TheVariants.{SharedPool, VmPool, Table, Hand, Guest}
use Rattle.ghost_legal.specs.declared.held.Held.{Held}
use Rattle.ghost_legal.specs.AllHeld.{held_count, AreCounted}
use Rattle.ghost_legal.specs.Blocks.{HasFirstBlocks, TreesHaveFirstBlocks, TreesHaveOwnBlocks}
use Rattle.ghost_legal.specs.Facts.{held_in, later, table_use}
use Rattle.ghost_legal.specs.Frames.{holder_on, IsSmallHeld, IsSmallHolder}
use Rattle.ghost_legal.specs.Illegals.{FitsPages, IsFar, IsTwice}
use Rattle.ghost_legal.specs.Listed.{all_held_in, free_held, guest_held, guests_held, hand_held, hands_held, mapped_of, option_list, runs_held, shared_held, tables_held, target_held}
use Rattle.ghost_legal.proofs.Lows.{trees-own}
use Rattle.ghost_legal.proofs.Pointwise.{hand-is, is-guest, shared-is, vm-is}
use Rattle.ghost_legal.proofs.Whole.{all-counted, all-guests}

-- a piece is small, or one frame of the Shared part
abbrev IsNear : Held → Type 0
IsNear h =
    IsSmallHeld h
    ⊎ ((h.frames.count ≡ 1)
    × (in_shared (held_in (holder_on h h.frames.first.0)) ≡ true)
    × IsSmallHolder h.holder 1)

near-free : (fs : List ℕ) → All IsNear (free_held SharedPool fs)
near-free [] = All-nil IsNear
near-free (f ∷ fs) = All-cons IsNear _ (free_held SharedPool fs) (inr (refl, refl, tt)) (near-free fs)

near-host : (ts : List TableOf) → All IsNear (tables_held 0 ts)
near-host [] = All-nil IsNear
near-host (t ∷ ts) = All-cons IsNear _ (tables_held 0 ts) (inr (refl, refl, tt)) (near-host ts)

near-hyp : (ts : List TableOf) → All IsNear (tables_held 1 ts)
near-hyp [] = All-nil IsNear
near-hyp (t ∷ ts) = All-cons IsNear _ (tables_held 1 ts) (inr (refl, refl, tt)) (near-hyp ts)

low-free : (v : ℕ) (fs : List ℕ) → AreLowFrames fs → All IsNear (free_held (VmPool v) fs)
low-free v [] h = All-nil IsNear
low-free v (f ∷ fs) h =
    All-cons IsNear _ (free_held (VmPool v) fs) (inl (record { frames = omega (arith, h.0); holder = tt }))
    (low-free v fs h.1)

block-self : (b : Block) → block_eq b b ≡ true
block-self b = rw (eq-self b.0, eq-self b.1) refl

tables-low : (t : TableOf) (ts : List TableOf)
    → HasFirstBlocks (t ∷ ts)
    → HasLowTables (table_of (t ∷ ts))
    → HasLowTables (table_of ts)
tables-low t ts f h b n e = by_test (block_eq t.block b)
    (λ x. let same : t.block ≡ b = block_eq-same t.block b x in
    let bad : None ≡ Some n = sym f.0 ∙ ap (table_of ts) same ∙ e in
    absurd (cc))
    (λ x. h b n (rw x e))

low-tables : (tree : ℕ) (ts : List TableOf)
    → HasFirstBlocks ts
    → HasLowTables (table_of ts)
    → All IsNear (tables_held tree ts)
low-tables tree [] f h = All-nil IsNear
low-tables tree (t ∷ ts) f h =
    let low : t.frame ≤ 2 ^ 62 = h t.block t.frame (rw (block-self t.block) refl) in
    All-cons IsNear _ (tables_held tree ts) (inl (record { frames = omega (arith, low); holder = tt }))
    (low-tables tree ts f.1 (tables-low t ts f h))

low-target : (v : ℕ) (pages : PageRange) (t : Target)
    → v < 64
    → end_of pages ≤ 2 ^ 63
    → HasLowFrames (entry_of_target t) pages.count
    → All IsNear (option_list (target_held v pages t))
low-target v pages Malformed less end low = All-nil IsNear
low-target v pages (Annotated o) less end low = All-nil IsNear
low-target v pages (Leaf f p k s) less end low =
    All-cons IsNear _ [] (inl (record { frames = omega (arith, low); holder = (less, omega (arith, end)) }))
    (All-nil IsNear)

low-runs : (v : ℕ) (rs : List Run) → v < 64 → AreSmall rs → All IsNear (runs_held v rs)
low-runs v [] less s = All-nil IsNear
low-runs v (r ∷ rs) less s =
    let small = All-head IsSmall r rs s in
    All-append IsNear (option_list (mapped_of v r)) (runs_held v rs)
    (low-target v r.pages r.target less small.0 small.1) (low-runs v rs less (All-tail IsSmall r rs s))

low-guests : (from : ℕ) (gs : List GhostGuest)
    → from + length gs ≤ 64
    → AreKeptGuests gs
    → All (λ x. HasFirstBlocks x.tree.tables.items) gs
    → All IsNear (guests_held from gs)
low-guests from [] n k f = All-nil IsNear
low-guests from (x ∷ gs) n k f =
    let kept = All-head IsKeptGuest x gs k in
    let first = All-head (λ (x : GhostGuest). HasFirstBlocks x.tree.tables.items) x gs f in
    All-append IsNear (guest_held from x) (guests_held (suc from) gs)
    (All-append IsNear (tables_held (2 + from) x.tree.tables.items)
    (free_held (VmPool from) x.free.items ++ runs_held from x.tree.runs.items)
    (low-tables (2 + from) x.tree.tables.items first kept.tables)
    (All-append IsNear (free_held (VmPool from) x.free.items) (runs_held from x.tree.runs.items)
    (low-free from x.free.items kept.free) (low-runs from x.tree.runs.items (omega (arith, n)) kept.tree.small)))
    (low-guests (suc from) gs (omega (arith, n)) (All-tail IsKeptGuest x gs k)
    (All-tail (λ (x : GhostGuest). HasFirstBlocks x.tree.tables.items) x gs f))

low-hand : (c : ℕ) (o : Option PageRange) → IsSmallRange o → All IsNear (hand_held c o)
low-hand c None h = All-nil IsNear
low-hand c (Some r) h = All-cons IsNear _ [] (inl (record { frames = omega (arith, h); holder = tt })) (All-nil IsNear)

low-hands : (from : ℕ) (ks : List GhostCpu) → AreKeptCpus ks → All IsNear (hands_held from ks)
low-hands from [] k = All-nil IsNear
low-hands from (x ∷ ks) k =
    All-append IsNear (hand_held from x.hand) (hands_held (suc from) ks)
    (low-hand from x.hand (All-head IsKeptCpu x ks k).hand) (low-hands (suc from) ks (All-tail IsKeptCpu x ks k))

all-near : (g : GhostLists) → IsKept g → TreesHaveFirstBlocks g → All IsNear (all_held_in g)
all-near g kept first =
    let n = kept.guests_count in
    All-append IsNear (shared_held g.shared) (guests_held 0 g.guests.items ++ hands_held 0 g.cpus.items)
    (All-append IsNear (tables_held 0 g.shared.host.tables.items)
    (tables_held 1 g.shared.hyp.tables.items ++ free_held SharedPool g.shared.free.items)
    (near-host g.shared.host.tables.items)
    (All-append IsNear (tables_held 1 g.shared.hyp.tables.items) (free_held SharedPool g.shared.free.items)
    (near-hyp g.shared.hyp.tables.items) (near-free g.shared.free.items)))
    (All-append IsNear (guests_held 0 g.guests.items) (hands_held 0 g.cpus.items)
    (low-guests 0 g.guests.items (omega (arith, n)) kept.guests first.guests) (low-hands 0 g.cpus.items kept.cpus))

-- how often a list has a frame, by a test of holders

abbrev times : (Holder → Bool) → ℕ → Held → ℕ
times T f h = one (is_in_range h.frames f && T (holder_on h f))

once-more : (T : Holder → Bool) (f : ℕ) (h : Held)
    → is_in_range h.frames f ≡ true
    → T (holder_on h f) ≡ true
    → times T f h ≡ 1
once-more T f h a b = rw (a, b) refl

some-times : (T : Holder → Bool) (f : ℕ) (hs : List Held) (k : ℕ) (d : Held)
    → k < length hs
    → is_in_range (get_or hs k d).frames f ≡ true
    → T (holder_on (get_or hs k d) f) ≡ true
    → 1 ≤ held_count T f hs
some-times T f [] k d less a b = absurd (omega (arith, less))
some-times T f (h ∷ hs) zero d less a b = let all = sum_by-cons (times T f) h hs in
    let here = once-more T f h a b in
    omega (arith, all, here)
some-times T f (h ∷ hs) (suc k) d less a b = let all = sum_by-cons (times T f) h hs in
    let more = some-times T f hs k d (omega (arith, less)) a b in
    omega (arith, all, more)

two-times : (T : Holder → Bool) (f : ℕ) (a b : Held) (rest : List Held)
    → is_in_range a.frames f ≡ true
    → is_in_range b.frames f ≡ true
    → T (holder_on a f) ≡ true
    → T (holder_on b f) ≡ true
    → 2 ≤ held_count T f (a ∷ (b ∷ rest))
two-times T f a b rest p q s t =
    let all = sum_by-cons (times T f) a (b ∷ rest) in
    let more = sum_by-cons (times T f) b rest in
    let x = once-more T f a p s in
    let y = once-more T f b q t in
    omega (arith, all, more, x, y)

most-one : (b : Bool) → one b ≤ 1
most-one true = omega arith
most-one false = omega arith

exact-one : (b : Bool) → 1 ≤ one b → one b ≡ 1
exact-one true h = refl
exact-one false h = absurd (omega (arith, h))

module _ (g : GhostLists) (kept : IsKept g) (first : TreesHaveFirstBlocks g) where
  owned : FitsPages g → TreesHaveOwnBlocks (layout_of g.layout).depth g
  owned p = let t = p.tables in trees-own (layout_of g.layout).depth g t.host t.hyp t.guests first

  pub not-far : IsAccepted g.layout.map
      → AreFramesLegal (layout_of g.layout) (contents_in g)
      → FitsPages g
      → (f : ℕ) (h : Holder)
      → IsFar g f h
      → ⊥
  not-far accepted k p f h far = by (All-contains IsNear (all_held_in g) far.piece (all-near g kept first) far.held)
    where
      by : IsNear far.piece → ⊥
      by (inl s) = far.far s
      by (inr n) =
          let x = far.piece in
          let at = x.frames.first.0 in
          let here : is_in_range x.frames at ≡ true = one-frame at x.frames.count n.0 in
          let c = far.held in
          let e : get_or (all_held_in g) c.0 x ≡ x = c.2 in
          let some =
          some-times (λ h. in_shared (held_in h)) at (all_held_in g) c.0 x c.1
          (ap (λ (y : Held). is_in_range y.frames at) e ∙ here)
          (ap (λ (y : Held). in_shared (held_in (holder_on y at))) e ∙ n.1) in
          let count = (all-counted g (all_held_in g) (owned p) (IsPermutation-refl (all_held_in g))).shared at in
          let uses = k.held.shared at in
          let exact = exact-one (in_shared (k.condition at)) (omega (arith, some, count, uses)) in
          let is = shared-is (k.condition at) exact in
          let memory : is_memory (layout_of g.layout) at ≡ true = sym (k.of_layout.inside at) ∙ ap is_inside is in
          let low = memory_below g.layout.map at accepted memory in
          let holder : IsSmallHolder x.holder x.frames.count = subst (IsSmallHolder x.holder) (sym n.0) n.2 in
          far.far (record { frames = omega (arith, low, n.0); holder = holder })
        where
          one-frame : (a c : ℕ) → c ≡ 1 → is_within a c a ≡ true
          one-frame a c e = grind (arith, nat_tests)

-- the pieces of guests at one page: a frame is there once

abbrev pub at_page : ℕ → ℕ → Holder → Bool
at_page v q (Guest u p s) = u == v && p == q
at_page v q other = false

starts-later : (low : ℕ) (rs : List Run) {n : ℕ} → BeginsFrom low rs → n ≤ low → StartsFrom n rs
starts-later low [] b h = tt
starts-later low (r ∷ rs) b h = omega (arith, b, h)

module _ (v q f : ℕ) where
  abbrev T : Holder → Bool
  T = at_page v q

  none-of : (h : Held) → T (holder_on h f) ≡ false → times T f h ≡ 0
  none-of h e = by_test (is_in_range h.frames f) (λ t. rw (t, e) refl) (λ t. rw t refl)

  free-zero : (h : Holder) (fs : List ℕ) → ((n : ℕ) → T (later h n) ≡ false) → held_count T f (free_held h fs) ≡ 0
  free-zero h [] e = refl
  free-zero h (x ∷ fs) e =
      let all =
      sum_by-cons (times T f) (record { frames = record { first = record { 0 = x }; count = 1 }; holder = h })
      (free_held h fs) in
      let here = none-of (record { frames = record { first = record { 0 = x }; count = 1 }; holder = h }) (e (f - x)) in
      let more = free-zero h fs e in
      omega (arith, all, here, more)

  tables-zero : (tree : ℕ) (ts : List TableOf) → held_count T f (tables_held tree ts) ≡ 0
  tables-zero tree [] = refl
  tables-zero tree (t ∷ ts) =
      let all =
      sum_by-cons (times T f)
      (record {
        frames = record { first = record { 0 = t.frame }; count = 1 };
        holder = Table (record { tree = tree; block = t.block });
      })
      (tables_held tree ts) in
      let here =
      none-of
      (record {
        frames = record { first = record { 0 = t.frame }; count = 1 };
        holder = Table (record { tree = tree; block = t.block });
      }) refl in
      let more = tables-zero tree ts in
      omega (arith, all, here, more)

  hands-zero : (from : ℕ) (ks : List GhostCpu) → held_count T f (hands_held from ks) ≡ 0
  hands-zero from [] = refl
  hands-zero from (k ∷ ks) =
      let all = sum_by-append (times T f) (hand_held from k.hand) (hands_held (suc from) ks) in
      let here = hand-zero from k.hand in
      let more = hands-zero (suc from) ks in
      omega (arith, all, here, more)
    where
      hand-zero : (c : ℕ) (o : Option PageRange) → held_count T f (hand_held c o) ≡ 0
      hand-zero c None = refl
      hand-zero c (Some r) = let all = sum_by-cons (times T f) (record { frames = r; holder = Hand c }) [] in
          let here = none-of (record { frames = r; holder = Hand c }) refl in
          omega (arith, all, here)

  -- a run of the guest has the frame at the page, only where the page is one of its pages
  target-most : (u : ℕ) (pages : PageRange) (t : Target) → held_count T f (option_list (target_held u pages t)) ≤ 1
  target-most u pages Malformed = omega arith
  target-most u pages (Annotated o) = omega arith
  target-most u pages (Leaf x p k s) =
      let h : Held =
      record {
        frames = record { first = record { 0 = x.0 }; count = pages.count };
        holder = Guest u pages.first.0 s;
      } in
      let all = sum_by-cons (times T f) h [] in
      let few = most-one (is_in_range h.frames f && T (holder_on h f)) in
      omega (arith, all, few)

  target-zero : (u : ℕ) (pages : PageRange) (t : Target)
      → (pages.first.0 ≤ q → q < end_of pages → ⊥)
      → held_count T f (option_list (target_held u pages t)) ≡ 0
  target-zero u pages Malformed out = refl
  target-zero u pages (Annotated o) out = refl
  target-zero u pages (Leaf x p k s) out =
      let h : Held =
      record {
        frames = record { first = record { 0 = x.0 }; count = pages.count };
        holder = Guest u pages.first.0 s;
      } in
      let all = sum_by-cons (times T f) h [] in
      let here : times T f h ≡ 0 = by_test (is_in_range h.frames f)
      (λ t. let w = within_means x.0 pages.count f t in
      let e : T (holder_on h f) ≡ false =
      not-holds (T (holder_on h f))
      (λ y. let z =
      eq-same (pages.first.0 + (f - x.0)) q (and-both (u == v) (pages.first.0 + (f - x.0) == q) y).1 in
      out (omega (arith, z)) (omega (arith, z, w.0, w.1))) in
      none-of h e)
      (λ t. rw t refl) in
      omega (arith, all, here)

  other-target : (u : ℕ) (pages : PageRange) (t : Target)
      → (u ≡ v → ⊥)
      → held_count T f (option_list (target_held u pages t)) ≡ 0
  other-target u pages Malformed n = refl
  other-target u pages (Annotated o) n = refl
  other-target u pages (Leaf x p k s) n =
      let h : Held =
      record {
        frames = record { first = record { 0 = x.0 }; count = pages.count };
        holder = Guest u pages.first.0 s;
      } in
      let all = sum_by-cons (times T f) h [] in
      let e : T (holder_on h f) ≡ false =
      not-holds (T (holder_on h f))
      (λ y. n (eq-same u v (and-both (u == v) (pages.first.0 + (f - x.0) == q) y).0)) in
      let here = none-of h e in
      omega (arith, all, here)

  other-runs : (u : ℕ) (rs : List Run) → (u ≡ v → ⊥) → held_count T f (runs_held u rs) ≡ 0
  other-runs u [] n = refl
  other-runs u (r ∷ rs) n =
      let all = sum_by-append (times T f) (option_list (mapped_of u r)) (runs_held u rs) in
      let here = other-target u r.pages r.target n in
      let more = other-runs u rs n in
      omega (arith, all, here, more)

  runs-past : (u : ℕ) (rs : List Run) → IsCoarsest rs → StartsFrom (q + 1) rs → held_count T f (runs_held u rs) ≡ 0
  runs-past u [] c b = refl
  runs-past u (r ∷ rs) c b =
      let all = sum_by-append (times T f) (option_list (mapped_of u r)) (runs_held u rs) in
      let here = target-zero u r.pages r.target (λ x y. absurd (omega (arith, x, b))) in
      let more = runs-past u rs c.2 (starts-later (run_end r) rs (begins_next r rs c.1) (omega (arith, b))) in
      omega (arith, all, here, more)

  runs-most : (u : ℕ) (rs : List Run) → IsCoarsest rs → held_count T f (runs_held u rs) ≤ 1
  runs-most u [] c = omega arith
  runs-most u (r ∷ rs) c =
      let all = sum_by-append (times T f) (option_list (mapped_of u r)) (runs_held u rs) in
      by_lt q (run_end r)
      (λ l. let few = target-most u r.pages r.target in
      let more = runs-past u rs c.2 (starts-later (run_end r) rs (begins_next r rs c.1) (omega (arith, l))) in
      omega (arith, all, few, more))
      (λ l. let none = target-zero u r.pages r.target (λ x y. absurd (omega (arith, y, l))) in
      let more = runs-most u rs c.2 in
      omega (arith, all, none, more))

  guest-held : (u : ℕ) (x : GhostGuest)
      → held_count T f (guest_held u x) ≡ held_count T f (runs_held u x.tree.runs.items)
  guest-held u x =
      let all =
      sum_by-append (times T f) (tables_held (2 + u) x.tree.tables.items)
      (free_held (VmPool u) x.free.items ++ runs_held u x.tree.runs.items) in
      let more = sum_by-append (times T f) (free_held (VmPool u) x.free.items) (runs_held u x.tree.runs.items) in
      let a = tables-zero (2 + u) x.tree.tables.items in
      let b = free-zero (VmPool u) x.free.items (λ n. refl) in
      omega (arith, all, more, a, b)

  guests-past : (from : ℕ) (gs : List GhostGuest) → v < from → held_count T f (guests_held from gs) ≡ 0
  guests-past from [] h = refl
  guests-past from (x ∷ gs) h =
      let all = sum_by-append (times T f) (guest_held from x) (guests_held (suc from) gs) in
      let here = guest-held from x in
      let none = other-runs from x.tree.runs.items (λ e. omega (arith, e, h)) in
      let more = guests-past (suc from) gs (omega (arith, h)) in
      omega (arith, all, here, none, more)

  guests-most : (from : ℕ) (gs : List GhostGuest) → AreKeptGuests gs → held_count T f (guests_held from gs) ≤ 1
  guests-most from [] k = omega arith
  guests-most from (x ∷ gs) k =
      let all = sum_by-append (times T f) (guest_held from x) (guests_held (suc from) gs) in
      let here = guest-held from x in
      by_eq from v
      (λ e. let few = runs-most from x.tree.runs.items (All-head IsKeptGuest x gs k).tree.coarsest in
      let more = guests-past (suc from) gs (omega (arith, e)) in
      omega (arith, all, here, few, more))
      (λ n. let none = other-runs from x.tree.runs.items n in
      let more = guests-most (suc from) gs (All-tail IsKeptGuest x gs k) in
      omega (arith, all, here, none, more))

  page-once : (g : GhostLists) → IsKept g → held_count T f (all_held_in g) ≤ 1
  page-once g kept =
      let all =
      sum_by-append (times T f) (shared_held g.shared)
      (guests_held 0 g.guests.items ++ hands_held 0 g.cpus.items) in
      let rest = sum_by-append (times T f) (guests_held 0 g.guests.items) (hands_held 0 g.cpus.items) in
      let shared =
      sum_by-append (times T f) (tables_held 0 g.shared.host.tables.items)
      (tables_held 1 g.shared.hyp.tables.items ++ free_held SharedPool g.shared.free.items) in
      let pool =
      sum_by-append (times T f) (tables_held 1 g.shared.hyp.tables.items)
      (free_held SharedPool g.shared.free.items) in
      let a = tables-zero 0 g.shared.host.tables.items in
      let b = tables-zero 1 g.shared.hyp.tables.items in
      let c = free-zero SharedPool g.shared.free.items (λ n. refl) in
      let d = guests-most 0 g.guests.items kept.guests in
      let e = hands-zero 0 g.cpus.items in
      omega (arith, all, rest, shared, pool, a, b, c, d, e)

-- two pieces of a legal state don't have one frame

state-guest : (v p : ℕ) (s : State) → held_in (Guest v p s) ≡ guest_condition s v p
state-guest v p Owned = refl
state-guest v p SharedOwned = refl
state-guest v p SharedBorrowed = refl

get-self : (hs : List Held) (n : ℕ) (d : Held) → n < length hs → get_or hs n (get_or hs n d) ≡ get_or hs n d
get-self hs n d less = get_or_default hs n (get_or hs n d) d less

leaf-named : (c : ℕ → Condition) (f v q : ℕ) (s : State) (e : Entry)
    → IsMemoryLeaf f s e
    → GuestFits c v q e
    → c f ≡ guest_condition s v q
leaf-named c f v q s e m (inl u) = let bad : leaf m.0 f s ≡ Unmapped = sym m.1 ∙ u in absurd (cc)
leaf-named c f v q s e m (inr x) =
    let same : leaf x.prot x.frame x.state ≡ leaf m.0 f s = sym x.leaf_is ∙ m.1 in
    let e : f ≡ x.frame = sym (ap entry_frame same) in
    let d : s ≡ x.state = cc in
    ap c e ∙ x.named ∙ ap (λ z. guest_condition z v q) (sym d)

module _ (g : GhostLists) (kept : IsKept g) (first : TreesHaveFirstBlocks g)
    (k : AreFramesLegal (layout_of g.layout) (contents_in g)) (p : FitsPages g) (f : ℕ) (a b : Held) (rest : List Held)
    (perm : IsPermutation (all_held_in g) (a ∷ (b ∷ rest))) (in-a : is_in_range a.frames f ≡ true)
    (in-b : is_in_range b.frames f ≡ true) where
  abbrev hs : List Held
  hs = a ∷ (b ∷ rest)

  counts : AreCounted g hs
  counts = all-counted g hs (owned g kept first p) perm

  shared-once : (T : Condition → Bool)
      → held_count (λ h. T (held_in h)) f hs ≤ 1
      → T (held_in (holder_on a f)) ≡ true
      → T (held_in (holder_on b f)) ≡ true
      → ⊥
  shared-once T few x y = let more = two-times (λ h. T (held_in h)) f a b rest in-a in-b x y in omega (arith, few, more)

  -- the condition of a frame is the one that a piece names
  named : (n : ℕ)
      → n < length hs
      → is_in_range (get_or hs n a).frames f ≡ true
      → (h : Holder)
      → holder_on (get_or hs n a) f ≡ h
      → k.condition f ≡ held_in h
  named n less t h e = by h e
    where
      by-use : (u : ℕ) (h : Holder)
          → held_in h ≡ hyps (table_use u)
          → holder_on (get_or hs n a) f ≡ h
          → k.condition f ≡ hyps (table_use u)
      by-use zero h i e = shared-named h i e
        where
          shared-named : (h : Holder)
              → held_in h ≡ hyps SharedPoolUse
              → holder_on (get_or hs n a) f ≡ h
              → k.condition f ≡ hyps SharedPoolUse
          shared-named h i e =
              let some =
              some-times (λ h. in_shared (held_in h)) f hs n a less t
              (ap (λ x. in_shared (held_in x)) e ∙ ap in_shared i) in
              let uses = k.held.shared f in
              let count = counts.shared f in
              shared-is (k.condition f) (exact-one (in_shared (k.condition f)) (omega (arith, some, uses, count)))
      by-use (suc zero) h i e =
          let some =
          some-times (λ h. in_shared (held_in h)) f hs n a less t
          (ap (λ x. in_shared (held_in x)) e ∙ ap in_shared i) in
          let uses = k.held.shared f in
          let count = counts.shared f in
          shared-is (k.condition f) (exact-one (in_shared (k.condition f)) (omega (arith, some, uses, count)))
      by-use (suc (suc v)) h i e =
          let some =
          some-times (λ h. in_vm v (held_in h)) f hs n a less t
          (ap (λ x. in_vm v (held_in x)) e ∙ ap (in_vm v) i ∙ eq-self v) in
          let uses = k.held.vm v f in
          let count = counts.vm v f in
          vm-is (k.condition f) v (exact-one (in_vm v (k.condition f)) (omega (arith, some, uses, count)))

      by-hand : (c : ℕ) → holder_on (get_or hs n a) f ≡ Hand c → k.condition f ≡ hyps (InHand c)
      by-hand c e =
          let some =
          some-times (λ h. in_hand c (held_in h)) f hs n a less t (ap (λ x. in_hand c (held_in x)) e ∙ eq-self c) in
          let uses = ap one (k.held.hand c f) in
          let count = counts.hand c f in
          hand-is (k.condition f) c (exact-one (in_hand c (k.condition f)) (omega (arith, some, uses, count)))

      by-guest : (v q : ℕ) (s : State)
          → holder_on (get_or hs n a) f ≡ Guest v q s
          → k.condition f ≡ guest_condition s v q
      by-guest v q s e =
          leaf-named k.condition f v q s _
          ((all-guests g hs p.runs perm v q f s).1 (n, get_or hs n a, less, get-self hs n a less, (t, e)))
          (k.maps.guest v q)

      by : (h : Holder) → holder_on (get_or hs n a) f ≡ h → k.condition f ≡ held_in h
      by SharedPool e = by-use 0 SharedPool refl e
      by (VmPool v) e = by-use (suc (suc v)) (VmPool v) refl e
      by (Table at) e = by-use at.tree (Table at) refl e
      by (Hand c) e = by-hand c e
      by (Guest v q s) e = by-guest v q s e ∙ sym (state-guest v q s)

  few-by : (n m : ℕ) (b : Bool) → n ≡ m → n ≡ one b → m ≤ 1
  few-by n m b x y = let most = most-one b in omega (arith, most, x, y)

  same-named : held_in (holder_on a f) ≡ held_in (holder_on b f)
  same-named =
      sym (named zero (omega arith) in-a (holder_on a f) refl)
      ∙ named (suc zero) (omega arith) in-b (holder_on b f) refl

  by-class : (T : Condition → Bool) → held_count (λ h. T (held_in h)) f hs ≤ 1 → T (held_in (holder_on a f)) ≡ true → ⊥
  by-class T few x = shared-once T few x (sym (ap T same-named) ∙ x)

  by-use-twice : (u : ℕ) → held_in (holder_on a f) ≡ hyps (table_use u) → ⊥
  by-use-twice zero i =
      by-class in_shared (few-by _ _ (in_shared (k.condition f)) (counts.shared f) (k.held.shared f)) (ap in_shared i)
  by-use-twice (suc zero) i =
      by-class in_shared (few-by _ _ (in_shared (k.condition f)) (counts.shared f) (k.held.shared f)) (ap in_shared i)
  by-use-twice (suc (suc v)) i =
      by-class (in_vm v) (few-by _ _ (in_vm v (k.condition f)) (counts.vm v f) (k.held.vm v f))
      (ap (in_vm v) i ∙ eq-self v)

  by-page : (v q : ℕ) (s : State) → holder_on a f ≡ Guest v q s → ⊥
  by-page v q s e =
      let other : holder_on b f ≡ Guest v q s =
      is-guest (holder_on b f) v q s (sym same-named ∙ ap held_in e ∙ state-guest v q s) in
      let at : at_page v q (Guest v q s) ≡ true = rw (eq-self v, eq-self q) refl in
      let two = two-times (at_page v q) f a b rest in-a in-b (ap (at_page v q) e ∙ at) (ap (at_page v q) other ∙ at) in
      let all = sum_by-IsPermutation (times (at_page v q) f) (all_held_in g) hs perm in
      let once = page-once v q f g kept in
      omega (arith, two, all, once)

  no-two : (h : Holder) → holder_on a f ≡ h → ⊥
  no-two SharedPool e = by-use-twice 0 (ap held_in e)
  no-two (VmPool v) e = by-use-twice (suc (suc v)) (ap held_in e)
  no-two (Table at) e = by-use-twice at.tree (ap held_in e)
  no-two (Hand c) e =
      by-class (in_hand c) (few-by _ _ (in_hand c (k.condition f)) (counts.hand c f) (ap one (k.held.hand c f)))
      (ap (λ x. in_hand c (held_in x)) e ∙ eq-self c)
  no-two (Guest v q s) e = by-page v q s e

pub not-twice : (g : GhostLists)
    → IsKept g
    → TreesHaveFirstBlocks g
    → AreFramesLegal (layout_of g.layout) (contents_in g)
    → FitsPages g
    → (f : ℕ) (one other : Holder)
    → IsTwice g f one other
    → ⊥
not-twice g kept first k p f one other t =
    no-two g kept first k p f t.first t.second t.rest t.held t.has t.has_too (holder_on t.first f) refl
