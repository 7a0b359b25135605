-- Pieces of guests are just their leaves.
use Rattle.std.proofs.Common.{◌≡◌, ℕ, zero, suc, ◌+◌, ◌-◌, ◌<◌, ◌≤◌, true, List, [], ◌∷◌, ◌++◌, map, length, get_or, Option, Some, None, refl, sym, ap, subst, ◌∙◌, inl, inr, arith}
use Rattle.std.specs.Prelude.{◌⊎◌, Any, IsPermutation}
use Rattle.std.proofs.lemmas.List.Sorted.{Contains-permutation, IsPermutation-sym}
use Rattle.descriptor.specs.declared.Kind.{Kind}
use Rattle.descriptor.specs.declared.Kind.TheVariants.{Normal}
use Rattle.descriptor.specs.declared.Prot.{Prot}
use Rattle.descriptor.specs.declared.State.{State}
use Rattle.page_state.specs.declared.entry.Entry.TheVariants.{Unmapped as UnmappedEntry, Leaf as LeafEntry}
use Rattle.page_state.specs.declared.entry.PageRange.{PageRange}
use Rattle.page_state.specs.declared.entry.Run.{Run}
use Rattle.page_state.specs.declared.entry.Target.{Target}
use Rattle.page_state.specs.declared.entry.Target.TheVariants.{Malformed, Annotated, Leaf}
use Rattle.page_state.specs.Entries.{advance, entry_of_target}
use Rattle.page_state.specs.EntryTests.{leaf, entry_frame}
use Rattle.page_state.specs.Regions.{is_in_range}
use Rattle.page_state.specs.Runs.{map_of, entry_on, run_end, IsCoarsest, PrecedesFirst}
use Rattle.page_state.proofs.Cases.{by_lt, by_test}
use Rattle.page_state.proofs.Runs.{StartsFrom, low, map_of-first, map_of-behind}
use Rattle.reference_model.specs.help.Conditions.{IsMemoryLeaf}
use Rattle.reference_model.specs.model.State.{no_guest}
use Rattle.ghost_trees.proofs.Overlaid.{within_means}
use Rattle.ghost_trees.specs.declared.tree.Table.{Table as TableOf}
use Rattle.ghost_spec.specs.declared.cpu.GhostCpu.{GhostCpu}
use Rattle.ghost_spec.specs.declared.lists.GhostLists.{GhostLists}
use Rattle.ghost_spec.specs.declared.parts.GhostGuest.{GhostGuest}
use Rattle.ghost_spec.specs.States.{contents_in, guest_in}
use Rattle.ghost_legal.specs.declared.finding.Holder.{Holder}
use Rattle.ghost_legal.specs.declared.finding.Holder.TheVariants.{SharedPool, VmPool, Guest}
use Rattle.ghost_legal.specs.declared.held.Held.{Held}
use Rattle.ghost_legal.specs.AllHeld.{IsHeldIn}
use Rattle.ghost_legal.specs.Facts.{later}
use Rattle.ghost_legal.specs.Frames.{holder_on}
use Rattle.ghost_legal.specs.Listed.{all_held_in, free_held, guest_held, guests_held, hand_held, hands_held, mapped_of, option_list, runs_held, shared_held, tables_held, target_held}
use Rattle.ghost_legal.specs.Pages.{HaveGoodRuns, AreNormal, IsNormal}
use Rattle.ghost_legal.proofs.InOrder.{inside_of}

-- some member, by recursion

abbrev Has : (Held → Type 0) → List Held → Type 0
Has P [] = ⊥
Has P (h ∷ hs) = P h ⊎ Has P hs

has-any : (P : Held → Type 0) (hs : List Held) → Has P hs → Any P hs
has-any P [] h = absurd h
has-any P (x ∷ hs) (inl h) = (0, x, omega arith, refl, h)
has-any P (x ∷ hs) (inr h) = let a = has-any P hs h in (suc a.0, a.1, omega (arith, a.2), a.3, a.4)

any-has : (P : Held → Type 0) (hs : List Held) (k : ℕ) (x : Held) → k < length hs → get_or hs k x ≡ x → P x → Has P hs
any-has P [] k x less e h = absurd (omega (arith, less))
any-has P (y ∷ hs) zero x less e h = inl (subst P (sym e) h)
any-has P (y ∷ hs) (suc k) x less e h = inr (any-has P hs k x (omega (arith, less)) e h)

has-left : (P : Held → Type 0) (xs ys : List Held) → Has P xs → Has P (xs ++ ys)
has-left P [] ys h = absurd h
has-left P (x ∷ xs) ys (inl h) = inl h
has-left P (x ∷ xs) ys (inr h) = inr (has-left P xs ys h)

has-right : (P : Held → Type 0) (xs ys : List Held) → Has P ys → Has P (xs ++ ys)
has-right P [] ys h = h
has-right P (x ∷ xs) ys h = inr (has-right P xs ys h)

has-split : (P : Held → Type 0) (xs ys : List Held) → Has P (xs ++ ys) → Has P xs ⊎ Has P ys
has-split P [] ys h = inr h
has-split P (x ∷ xs) ys (inl h) = inl (inl h)
has-split P (x ∷ xs) ys (inr h) = more (has-split P xs ys h)
  where
    more : Has P xs ⊎ Has P ys → Has P (x ∷ xs) ⊎ Has P ys
    more (inl k) = inl (inr k)
    more (inr k) = inr k

-- a piece of the guest

abbrev IsPieceOf : ℕ → ℕ → State → ℕ → Held → Type 0
IsPieceOf v p s f h = (is_in_range h.frames f ≡ true) × (holder_on h f ≡ Guest v p s)

module _ (v p f : ℕ) (s : State) where
  no-free : (h : Holder) (fs : List ℕ)
      → ((n : ℕ) → later h n ≡ Guest v p s → ⊥)
      → Has (IsPieceOf v p s f) (free_held h fs)
      → ⊥
  no-free h [] n k = k
  no-free h (x ∷ fs) n (inl k) = n (f - x) k.1
  no-free h (x ∷ fs) n (inr k) = no-free h fs n k

  no-table : (tree : ℕ) (ts : List TableOf) → Has (IsPieceOf v p s f) (tables_held tree ts) → ⊥
  no-table tree [] k = k
  no-table tree (t ∷ ts) (inl k) = let e = k.1 in cc
  no-table tree (t ∷ ts) (inr k) = no-table tree ts k

  no-hand : (from : ℕ) (ks : List GhostCpu) → Has (IsPieceOf v p s f) (hands_held from ks) → ⊥
  no-hand from [] h = h
  no-hand from (k ∷ ks) h =
      more (no-hand (suc from) ks) (has-split (IsPieceOf v p s f) (hand_held from k.hand) (hands_held (suc from) ks) h)
    where
      one : (o : Option PageRange) → Has (IsPieceOf v p s f) (hand_held from o) → ⊥
      one None h = h
      one (Some r) (inl h) = let e = h.1 in cc
      one (Some r) (inr h) = h

      more : (Has (IsPieceOf v p s f) (hands_held (suc from) ks) → ⊥)
          → Has (IsPieceOf v p s f) (hand_held from k.hand) ⊎ Has (IsPieceOf v p s f) (hands_held (suc from) ks)
          → ⊥
      more next (inl a) = one k.hand a
      more next (inr a) = next a

  -- from the map to the piece
  target-piece : (slot : ℕ) (pages : PageRange) (t : Target) (prot : Prot)
      → slot ≡ v
      → pages.first.0 ≤ p
      → p < pages.first.0 + pages.count
      → advance (entry_of_target t) (p - pages.first.0) ≡ leaf prot f s
      → Has (IsPieceOf v p s f) (option_list (target_held slot pages t))
  target-piece slot pages Malformed prot n a b e = cc
  target-piece slot pages (Annotated owner) prot n a b e = cc
  target-piece slot pages (Leaf frame pr kind st) prot n a b e =
      let is : frame.0 + (p - pages.first.0) ≡ f = ap entry_frame e in
      let state : st ≡ s = cc in
      let page : pages.first.0 + (f - frame.0) ≡ p = omega (arith, is, a) in
      inl (
        inside_of frame.0 pages.count f (omega (arith, is)) (omega (arith, is, a, b)),
        same slot v n (pages.first.0 + (f - frame.0)) page st state,
      )
    where
      same : (i j : ℕ) → i ≡ j → (x : ℕ) → x ≡ p → (y : State) → y ≡ s → Guest i x y ≡ Guest j p s
      same i j a x b y c = rw (a, b, c) refl

  run-piece : (slot : ℕ) (rs : List Run) (prot : Prot)
      → slot ≡ v
      → map_of rs p ≡ leaf prot f s
      → Has (IsPieceOf v p s f) (runs_held slot rs)
  run-piece slot [] prot n e = cc
  run-piece slot (r ∷ rs) prot n e = by_test (is_in_range r.pages p)
      (λ t. let w = within_means r.pages.first.0 r.pages.count p t in
      let here : entry_on r p ≡ leaf prot f s = rw t at e in
      has-left (IsPieceOf v p s f) (option_list (mapped_of slot r)) (runs_held slot rs)
      (target-piece slot r.pages r.target prot n w.0 w.1 here))
      (λ t. let there : map_of rs p ≡ leaf prot f s = rw t at e in
      has-right (IsPieceOf v p s f) (option_list (mapped_of slot r)) (runs_held slot rs)
      (run-piece slot rs prot n there))

  guest-piece : (from k : ℕ) (gs : List GhostGuest) (prot : Prot)
      → v ≡ from + k
      → (get_or (map guest_in gs) k no_guest).tree.map p ≡ leaf prot f s
      → Has (IsPieceOf v p s f) (guests_held from gs)
  guest-piece from k [] prot n e = cc
  guest-piece from zero (x ∷ gs) prot n e =
      has-left (IsPieceOf v p s f) (guest_held from x) (guests_held (suc from) gs) (
      has-right (IsPieceOf v p s f) (tables_held (2 + from) x.tree.tables.items) _ (
      has-right (IsPieceOf v p s f) (free_held (VmPool from) x.free.items) _
      (run-piece from x.tree.runs.items prot (omega (arith, n)) e)))
  guest-piece from (suc k) (x ∷ gs) prot n e =
      has-right (IsPieceOf v p s f) (guest_held from x) (guests_held (suc from) gs)
      (guest-piece (suc from) k gs prot (omega (arith, n)) e)

  -- from the piece to the map
  target-leaf : (slot : ℕ) (pages : PageRange) (t : Target)
      → IsNormal t
      → Has (IsPieceOf v p s f) (option_list (target_held slot pages t))
      → (slot ≡ v)
      × (pages.first.0 ≤ p)
      × (p < pages.first.0 + pages.count)
      × IsMemoryLeaf f s (advance (entry_of_target t) (p - pages.first.0))
  target-leaf slot pages Malformed n h = absurd h
  target-leaf slot pages (Annotated owner) n h = absurd h
  target-leaf slot pages (Leaf frame pr kind st) n (inr h) = absurd h
  target-leaf slot pages (Leaf frame pr kind st) n (inl h) =
      let w = within_means frame.0 pages.count f h.0 in
      let e : Guest slot (pages.first.0 + (f - frame.0)) st ≡ Guest v p s = h.1 in
      let i : slot ≡ v = cc in
      let j : pages.first.0 + (f - frame.0) ≡ p = cc in
      let k : st ≡ s = cc in (
        i,
        omega (arith, j),
        omega (arith, j, w.0, w.1),
        (pr, made kind st (frame.0 + (p - pages.first.0)) n k (omega (arith, j, w.0))),
      )
    where
      made : (x : Kind) (y : State) (z : ℕ)
          → x ≡ Normal
          → y ≡ s
          → z ≡ f
          → LeafEntry (record { 0 = z }) pr x y ≡ leaf pr f s
      made x y z a b c = rw (a, b, c) refl

  starts : (r : Run) (rs : List Run) → PrecedesFirst r rs → StartsFrom (run_end r) rs
  starts r [] h = tt
  starts r (n ∷ rs) h = h.before

  run-leaf : (slot : ℕ) (rs : List Run)
      → IsCoarsest rs
      → AreNormal rs
      → Has (IsPieceOf v p s f) (runs_held slot rs)
      → (slot ≡ v) × IsMemoryLeaf f s (map_of rs p)
  run-leaf slot [] c n h = absurd h
  run-leaf slot (r ∷ rs) c n h =
      more (run-leaf slot rs c.2 n.1)
      (has-split (IsPieceOf v p s f) (option_list (mapped_of slot r)) (runs_held slot rs) h)
    where
      more : (Has (IsPieceOf v p s f) (runs_held slot rs) → (slot ≡ v) × IsMemoryLeaf f s (map_of rs p))
          → Has (IsPieceOf v p s f) (option_list (mapped_of slot r)) ⊎ Has (IsPieceOf v p s f) (runs_held slot rs)
          → (slot ≡ v) × IsMemoryLeaf f s (map_of (r ∷ rs) p)
      more next (inl a) = let t = target-leaf slot r.pages r.target n.0 a in
          (t.0, subst (IsMemoryLeaf f s) (sym (map_of-first r rs p t.1 t.2)) t.3)
      more next (inr a) =
          let t = next a in
          by_lt p (run_end r)
          (λ l. let none : map_of rs p ≡ UnmappedEntry = low rs (run_end r) c.2 (starts r rs c.1) p l in
          let bad : leaf t.1.0 f s ≡ UnmappedEntry = sym t.1.1 ∙ none in absurd (cc))
          (λ l. (t.0, subst (IsMemoryLeaf f s) (sym (map_of-behind r rs p l)) t.1))

  guest-leaf : (from : ℕ) (gs : List GhostGuest)
      → HaveGoodRuns gs
      → Has (IsPieceOf v p s f) (guests_held from gs)
      → (k : ℕ) × (v ≡ from + k) × IsMemoryLeaf f s ((get_or (map guest_in gs) k no_guest).tree.map p)
  guest-leaf from [] n h = absurd h
  guest-leaf from (x ∷ gs) n h =
      more (guest-leaf (suc from) gs n.1)
      (has-split (IsPieceOf v p s f) (guest_held from x) (guests_held (suc from) gs) h)
    where
      part : Has (IsPieceOf v p s f) (free_held (VmPool from) x.free.items)
          ⊎ Has (IsPieceOf v p s f) (runs_held from x.tree.runs.items)
          → (k : ℕ) × (v ≡ from + k) × IsMemoryLeaf f s ((get_or (map guest_in (x ∷ gs)) k no_guest).tree.map p)
      part (inl a) = absurd (no-free (VmPool from) x.free.items (λ n e. absurd (cc)) a)
      part (inr a) = let t = run-leaf from x.tree.runs.items n.0.0 n.0.1 a in (0, omega (arith, t.0), t.1)

      own : Has (IsPieceOf v p s f) (tables_held (2 + from) x.tree.tables.items)
          ⊎ Has (IsPieceOf v p s f) (free_held (VmPool from) x.free.items ++ runs_held from x.tree.runs.items)
          → (k : ℕ) × (v ≡ from + k) × IsMemoryLeaf f s ((get_or (map guest_in (x ∷ gs)) k no_guest).tree.map p)
      own (inl a) = absurd (no-table (2 + from) x.tree.tables.items a)
      own (inr a) =
          part
          (has-split (IsPieceOf v p s f) (free_held (VmPool from) x.free.items)
          (runs_held from x.tree.runs.items) a)

      more :
          (Has (IsPieceOf v p s f) (guests_held (suc from) gs)
          → (k : ℕ) × (v ≡ suc from + k) × IsMemoryLeaf f s ((get_or (map guest_in gs) k no_guest).tree.map p))
          → Has (IsPieceOf v p s f) (guest_held from x) ⊎ Has (IsPieceOf v p s f) (guests_held (suc from) gs)
          → (k : ℕ) × (v ≡ from + k) × IsMemoryLeaf f s ((get_or (map guest_in (x ∷ gs)) k no_guest).tree.map p)
      more next (inl a) = own (has-split (IsPieceOf v p s f) (tables_held (2 + from) x.tree.tables.items) _ a)
      more next (inr a) = let t = next a in (suc t.0, omega (arith, t.1), t.2)

  no-shared : (g : GhostLists) → Has (IsPieceOf v p s f) (shared_held g.shared) → ⊥
  no-shared g h = more (has-split (IsPieceOf v p s f) (tables_held 0 g.shared.host.tables.items) _ h)
    where
      rest : Has (IsPieceOf v p s f) (tables_held 1 g.shared.hyp.tables.items)
          ⊎ Has (IsPieceOf v p s f) (free_held SharedPool g.shared.free.items)
          → ⊥
      rest (inl a) = no-table 1 g.shared.hyp.tables.items a
      rest (inr a) = no-free SharedPool g.shared.free.items (λ n e. absurd (cc)) a

      more : Has (IsPieceOf v p s f) (tables_held 0 g.shared.host.tables.items)
          ⊎ Has (IsPieceOf v p s f)
          (tables_held 1 g.shared.hyp.tables.items ++ free_held SharedPool g.shared.free.items)
          → ⊥
      more (inl a) = no-table 0 g.shared.host.tables.items a
      more (inr a) =
          rest
          (has-split (IsPieceOf v p s f) (tables_held 1 g.shared.hyp.tables.items)
          (free_held SharedPool g.shared.free.items) a)

  module _ (g : GhostLists) (hs : List Held) (o : IsPermutation (all_held_in g) hs) where
    moved : (xs ys : List Held) → IsPermutation xs ys → Any (IsPieceOf v p s f) xs → Any (IsPieceOf v p s f) ys
    moved xs ys q a = let c = Contains-permutation xs ys a.1 q (a.0, a.2, a.3) in (c.0, a.1, c.1, c.2, a.4)

    pub leaf-held : IsMemoryLeaf f s (((contents_in g).guest v).tree.map p) → IsHeldIn hs (Guest v p s) f
    leaf-held m = moved (all_held_in g) hs o (has-any (IsPieceOf v p s f) (all_held_in g) (
        has-right (IsPieceOf v p s f) (shared_held g.shared) _
        (has-left (IsPieceOf v p s f) (guests_held 0 g.guests.items) (hands_held 0 g.cpus.items)
        (guest-piece 0 v g.guests.items m.0 (omega arith) m.1))))

    pub held-leaf : HaveGoodRuns g.guests.items
        → IsHeldIn hs (Guest v p s) f
        → IsMemoryLeaf f s (((contents_in g).guest v).tree.map p)
    held-leaf n a = all (has-split (IsPieceOf v p s f) (shared_held g.shared) _ found)
      where
        found : Has (IsPieceOf v p s f) (all_held_in g)
        found = let b = moved hs (all_held_in g) (IsPermutation-sym (all_held_in g) hs o) a in
            any-has (IsPieceOf v p s f) (all_held_in g) b.0 b.1 b.2 b.3 b.4

        rest : Has (IsPieceOf v p s f) (guests_held 0 g.guests.items)
            ⊎ Has (IsPieceOf v p s f) (hands_held 0 g.cpus.items)
            → IsMemoryLeaf f s (((contents_in g).guest v).tree.map p)
        rest (inl h) = let t = guest-leaf 0 g.guests.items n h in
            let k : t.0 ≡ v = omega (arith, t.1) in
            subst (λ (u : ℕ). IsMemoryLeaf f s (((contents_in g).guest u).tree.map p)) k t.2
        rest (inr h) = absurd (no-hand 0 g.cpus.items h)

        all : Has (IsPieceOf v p s f) (shared_held g.shared)
            ⊎ Has (IsPieceOf v p s f) (guests_held 0 g.guests.items ++ hands_held 0 g.cpus.items)
            → IsMemoryLeaf f s (((contents_in g).guest v).tree.map p)
        all (inl h) = absurd (no-shared g h)
        all (inr h) = rest (has-split (IsPieceOf v p s f) (guests_held 0 g.guests.items) (hands_held 0 g.cpus.items) h)
