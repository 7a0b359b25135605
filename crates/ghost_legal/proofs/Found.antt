-- What is found where a state isn't legal.
use Rattle.std.proofs.Common.{◌≡◌, ℕ, zero, suc, ◌+◌, ◌-◌, ◌<◌, ◌≤◌, true, List, [], ◌∷◌, ◌++◌, map, take, length, get_or, Option, Some, None, Result, Ok, Err, refl, sym, ap, subst, ◌∙◌, arith}
use Rattle.std.specs.Prelude.{All, IsPermutation, IfOk, MatchOption}
use Rattle.std.specs.declared.alloc.AllocError.{AllocError}
use Rattle.std.specs.List.Sorted.{IsNonDecreasingBy}
use Rattle.std.proofs.lemmas.Bool.Decides.{nat_tests}
use Rattle.std.proofs.lemmas.List.Elements.{All-append, All-more, All-cons, All-head, All-nil, All-tail}
use Rattle.std.proofs.lemmas.List.Sorted.{IsPermutation-cons, IsPermutation-middle, IsPermutation-refl, IsPermutation-sym, IsPermutation-trans}
use Rattle.descriptor.specs.declared.Kind.TheVariants.{Normal}
use Rattle.descriptor.specs.declared.Prot.{Prot}
use Rattle.descriptor.specs.declared.State.{State}
use Rattle.page_state.specs.declared.entry.PageRange.{PageRange}
use Rattle.page_state.specs.declared.entry.Run.{Run}
use Rattle.page_state.specs.declared.entry.Target.{Target}
use Rattle.page_state.specs.declared.entry.Target.TheVariants.{Malformed, Annotated, Leaf}
use Rattle.page_state.specs.Entries.{advance, entry_of_target}
use Rattle.page_state.specs.EntryTests.{leaf}
use Rattle.page_state.specs.Geometries.{pages_below}
use Rattle.page_state.specs.LayoutView.{layout_of}
use Rattle.page_state.specs.Layouts.{Layout}
use Rattle.page_state.specs.Map.{is_within}
use Rattle.page_state.specs.Regions.{end_of}
use Rattle.page_state.specs.Runs.{entry_on, map_of, IsCoarsest}
use Rattle.page_state.proofs.Cases.{by_lt}
use Rattle.page_state.proofs.Entries.{target-mapped}
use Rattle.coarse_trees.specs.Coarsest.{IsCoarsest as IsCoarsestTree}
use Rattle.coarse_trees.proofs.Stays.{none_is_coarsest}
use Rattle.reference_model.specs.help.Conditions.{AreCoarsest, SlotsFit}
use Rattle.reference_model.specs.claims.Sound.{tree_at}
use Rattle.reference_model.specs.model.State.{Contents, Guest, no_cpu, no_guest}
use Rattle.page_state.specs.Trees.{Block, Tree, no_tree}
use Rattle.ghost_trees.specs.Trees.{table_of, tree_in_lists}
use Rattle.ghost_spec.specs.declared.cpu.GhostCpu.{GhostCpu}
use Rattle.ghost_spec.specs.declared.lists.GhostLists.{GhostLists}
use Rattle.ghost_spec.specs.declared.parts.GhostGuest.{GhostGuest}
use Rattle.ghost_spec.specs.Kept.{IsKeptGuest}
use Rattle.ghost_spec.specs.States.{contents_in, guest_in, AreKeptGuests, IsKept}
use Rattle.ghost_spec.specs.Views.{cpu_in}
use Rattle.ghost_coarse.specs.Misfits.{AreInside, IsMisfit, IsOutside}
use Rattle.ghost_coarse.specs.declared.misfit.Misfit.{Misfit}
use Rattle.ghost_coarse.proofs.Along.{run-goes}
use Rattle.ghost_legal.specs.declared.finding.Holder.{Holder}
use Rattle.ghost_legal.specs.declared.finding.Holder.TheVariants.{VmPool, SharedPool}
use Rattle.ghost_legal.specs.declared.held.Held.{Held}
use Rattle.ghost_legal.specs.Frames.{AreTwice}
use Rattle.ghost_legal.specs.declared.finding.Illegal.{Illegal}
use Rattle.ghost_legal.specs.Illegals.{FitsParts, FitsTables, IsIllegal, IsIllegalButForTrees, IsPageFault}
use Rattle.ghost_legal.specs.Listed.{all_held_in, free_held, guest_held, guests_held, hand_held, hands_held, mapped_of, option_list, runs_held, tables_held, target_held}
use Rattle.ghost_legal.specs.Pages.{IsBadEntry, IsBadPage, IsNormal}
use Rattle.ghost_trees.specs.declared.tree.Table.{Table}

-- the guest of a slot, by the list
pub guest-at : (gs : List GhostGuest) (v : ℕ) (d : GhostGuest)
    → v < length gs
    → get_or (map guest_in gs) v no_guest ≡ guest_in (get_or gs v d)
guest-at [] v d less = absurd (omega (arith, less))
guest-at (x ∷ gs) zero d less = refl
guest-at (x ∷ gs) (suc v) d less = guest-at gs v d (omega (arith, less))

-- the tree of a guest, by its number
pub guest-tree : (s : Contents) (v : ℕ) → tree_at s (2 + v) ≡ (s.guest v).tree
guest-tree s v = let n : 2 + v ≡ suc (suc v) = omega arith in ap (tree_at s) n

-- a bad page of a run is one of the map
normal-of : (t : Target) (n frame : ℕ) (prot : Prot) (state : State)
    → advance (entry_of_target t) n ≡ leaf prot frame state
    → IsNormal t
normal-of Malformed n frame prot state e = absurd (cc)
normal-of (Annotated owner) n frame prot state e = absurd (cc)
normal-of (Leaf f p k s) n frame prot state e = let kind : k ≡ Normal = cc in kind

pub bad-entry : (pages : ℕ) (rs : List Run) (i : ℕ) (d : Run) (p : ℕ)
    → IsCoarsest rs
    → i < length rs
    → IsBadPage pages (get_or rs i d) p
    → IsBadEntry pages p (map_of rs p)
bad-entry pages rs i d p c less b =
    let r = get_or rs i d in
    let e : map_of rs p ≡ entry_on r p = run-goes rs i d c less p b.from b.to in
    record {
      mapped = λ u. target-mapped r.target (p - r.pages.first.0) (sym e ∙ u);
      bad = λ frame prot state k. b.bad (normal-of r.target (p - r.pages.first.0) frame prot state (sym e ∙ k));
    }

pub page-fault : (l : Layout) (g : GhostLists) (v p pages : ℕ) (x : GhostGuest) (rs : List Run)
    → (contents_in g).guest v ≡ guest_in x
    → pages ≡ pages_below l.depth
    → rs ≡ x.tree.runs.items
    → IsBadEntry pages p (map_of rs p)
    → IsPageFault l v p (((contents_in g).guest v).tree.map p)
page-fault l g v p pages x rs e n a h =
    subst (λ (y : Guest). IsPageFault l v p (y.tree.map p)) (sym e)
    (of (subst (λ (rs : List Run). IsBadEntry pages p (map_of rs p)) a h))
  where
    of : IsBadEntry pages p (map_of x.tree.runs.items p) → IsPageFault l v p (map_of x.tree.runs.items p)
    of b = (
      b.mapped,
      λ k. let high = b.bad k.frame k.prot k.state k.leaf_is in
          let low = k.below in
          omega (arith, high, low, n),
    )

-- two neighbours of a list, in front
two-front : (hs : List Held) (k : ℕ) (d : Held)
    → suc k < length hs
    → (rest : List Held) × IsPermutation hs (get_or hs k d ∷ (get_or hs (suc k) d ∷ rest))
two-front [] k d less = absurd (omega (arith, less))
two-front (x ∷ []) k d less = absurd (omega (arith, less))
two-front (x ∷ (y ∷ hs)) zero d less = (hs, IsPermutation-refl (x ∷ (y ∷ hs)))
two-front (x ∷ (y ∷ hs)) (suc k) d less =
    let more = two-front (y ∷ hs) k d (omega (arith, less)) in
    let a = get_or (y ∷ hs) k d in
    let b = get_or (y ∷ hs) (suc k) d in (
      x ∷ more.0,
      IsPermutation-trans (x ∷ (y ∷ hs)) (x ∷ (a ∷ (b ∷ more.0))) (a ∷ (b ∷ (x ∷ more.0)))
          (IsPermutation-cons x (y ∷ hs) (a ∷ (b ∷ more.0)) more.1)
          (IsPermutation-sym (a ∷ (b ∷ (x ∷ more.0))) (x ∷ (a ∷ (b ∷ more.0)))
          (IsPermutation-middle (a ∷ (b ∷ [])) x more.0)),
    )

in-range : (a n p : ℕ) → a ≤ p → p < a + n → is_within a n p ≡ true
in-range a n p h k = grind (arith, nat_tests)

pub twice : (hs : List Held) (i : ℕ) (d : Held)
    → 1 ≤ i
    → i < length hs
    → IsNonDecreasingBy (λ h. h.frames.first.0) hs
    → All (λ h. 0 < h.frames.count) hs
    → (end_of (get_or hs (i - 1) d).frames ≤ (get_or hs i d).frames.first.0 → ⊥)
    → AreTwice hs (get_or hs (i - 1) d) (get_or hs i d)
twice hs zero d some less rise pos not = absurd (omega (arith, some))
twice hs (suc k) d some less rise pos not =
    let n : suc k - 1 ≡ k = omega arith in
    let a = get_or hs k d in
    let b = get_or hs (suc k) d in
    let up : a.frames.first.0 ≤ b.frames.first.0 = rise k (suc k) d (omega arith) less in
    let one : 0 < b.frames.count = pos (suc k) d less in
    let t = two-front hs k d less in
    subst (λ (m : ℕ). (end_of (get_or hs m d).frames ≤ b.frames.first.0 → ⊥) → AreTwice hs (get_or hs m d) b) (sym n)
    (λ no. record {
      rest = t.0;
      two = t.1;
      has =
          by_lt b.frames.first.0 (end_of a.frames)
          (λ l. in-range a.frames.first.0 a.frames.count b.frames.first.0 up l) (λ l. absurd (no l));
      has_too = in-range b.frames.first.0 b.frames.count b.frames.first.0 (omega arith) (omega (arith, one));
    }) not

-- each piece has a frame

pieces-some : (h : Holder) (fs : List ℕ) → All (λ h. 0 < h.frames.count) (free_held h fs)
pieces-some h [] = All-nil (λ h. 0 < h.frames.count)
pieces-some h (f ∷ fs) = All-cons (λ h. 0 < h.frames.count) _ _ (omega arith) (pieces-some h fs)

tables-some : (tree : ℕ) (ts : List Table) → All (λ h. 0 < h.frames.count) (tables_held tree ts)
tables-some tree [] = All-nil (λ h. 0 < h.frames.count)
tables-some tree (t ∷ ts) = All-cons (λ h. 0 < h.frames.count) _ _ (omega arith) (tables-some tree ts)

target-some : (v : ℕ) (pages : PageRange) (t : Target)
    → 0 < pages.count
    → All (λ h. 0 < h.frames.count) (option_list (target_held v pages t))
target-some v pages Malformed some = All-nil (λ h. 0 < h.frames.count)
target-some v pages (Annotated o) some = All-nil (λ h. 0 < h.frames.count)
target-some v pages (Leaf f p k s) some =
    All-cons (λ h. 0 < h.frames.count) _ [] some (All-nil (λ h. 0 < h.frames.count))

runs-some : (v : ℕ) (rs : List Run) → IsCoarsest rs → All (λ h. 0 < h.frames.count) (runs_held v rs)
runs-some v [] c = All-nil (λ h. 0 < h.frames.count)
runs-some v (r ∷ rs) c =
    All-append (λ h. 0 < h.frames.count) (option_list (mapped_of v r)) (runs_held v rs)
    (target-some v r.pages r.target c.0) (runs-some v rs c.2)

guests-some : (from : ℕ) (gs : List GhostGuest) → AreKeptGuests gs → All (λ h. 0 < h.frames.count) (guests_held from gs)
guests-some from [] k = All-nil (λ h. 0 < h.frames.count)
guests-some from (x ∷ gs) k =
    let kept = All-head IsKeptGuest x gs k in
    All-append (λ h. 0 < h.frames.count) (guest_held from x) (guests_held (suc from) gs)
    (All-append (λ h. 0 < h.frames.count) (tables_held (2 + from) x.tree.tables.items)
    (free_held (VmPool from) x.free.items ++ runs_held from x.tree.runs.items)
    (tables-some (2 + from) x.tree.tables.items)
    (All-append (λ h. 0 < h.frames.count) (free_held (VmPool from) x.free.items) (runs_held from x.tree.runs.items)
    (pieces-some (VmPool from) x.free.items) (runs-some from x.tree.runs.items kept.tree.coarsest)))
    (guests-some (suc from) gs (All-tail IsKeptGuest x gs k))

hand-some : (c : ℕ) (o : Option PageRange)
    → ((r : PageRange) → o ≡ Some r → 1 ≤ r.count)
    → All (λ h. 0 < h.frames.count) (hand_held c o)
hand-some c None h = All-nil (λ h. 0 < h.frames.count)
hand-some c (Some r) h = let some = h r refl in
    All-cons (λ h. 0 < h.frames.count) _ [] (omega (arith, some)) (All-nil (λ h. 0 < h.frames.count))

hands-some : (from : ℕ) (ks : List GhostCpu)
    → All (λ k. (r : PageRange) → k.hand ≡ Some r → 1 ≤ r.count) ks
    → All (λ h. 0 < h.frames.count) (hands_held from ks)
hands-some from [] h = All-nil (λ h. 0 < h.frames.count)
hands-some from (k ∷ ks) h =
    All-append (λ h. 0 < h.frames.count) (hand_held from k.hand) (hands_held (suc from) ks)
    (hand-some from k.hand (All-head (λ (k : GhostCpu). (r : PageRange) → k.hand ≡ Some r → 1 ≤ r.count) k ks h))
    (hands-some (suc from) ks
    (All-tail (λ (k : GhostCpu). (r : PageRange) → k.hand ≡ Some r → 1 ≤ r.count) k ks h))

cpu-hand : (ks : List GhostCpu) (n : ℕ) (d : GhostCpu)
    → n < length ks
    → (get_or (map cpu_in ks) n no_cpu).hand ≡ (get_or ks n d).hand
cpu-hand [] n d less = absurd (omega (arith, less))
cpu-hand (k ∷ ks) zero d less = refl
cpu-hand (k ∷ ks) (suc n) d less = cpu-hand ks n d (omega (arith, less))

pub all-some : (g : GhostLists) → IsKept g → SlotsFit (contents_in g) → All (λ h. 0 < h.frames.count) (all_held_in g)
all-some g kept s =
    let hands : All (λ (k : GhostCpu). (r : PageRange) → k.hand ≡ Some r → 1 ≤ r.count) g.cpus.items =
    λ n d less r e. s.some_hand n r (cpu-hand g.cpus.items n d less ∙ e) in
    All-append (λ h. 0 < h.frames.count) _ (guests_held 0 g.guests.items ++ hands_held 0 g.cpus.items)
    (All-append (λ h. 0 < h.frames.count) (tables_held 0 g.shared.host.tables.items) _
    (tables-some 0 g.shared.host.tables.items)
    (All-append (λ h. 0 < h.frames.count) (tables_held 1 g.shared.hyp.tables.items)
    (free_held SharedPool g.shared.free.items) (tables-some 1 g.shared.hyp.tables.items)
    (pieces-some SharedPool g.shared.free.items)))
    (All-append (λ h. 0 < h.frames.count) (guests_held 0 g.guests.items) (hands_held 0 g.cpus.items)
    (guests-some 0 g.guests.items kept.guests) (hands-some 0 g.cpus.items hands))

-- a table outside, and the coarsest trees of guests

pub outside-guest : (g : GhostLists) (v depth : ℕ) (x : GhostGuest) (ts : List Table) (b : Block)
    → (contents_in g).guest v ≡ guest_in x
    → depth ≡ (layout_of g.layout).depth
    → ts ≡ x.tree.tables.items
    → IsOutside depth (table_of ts) b
    → IsOutside (layout_of g.layout).depth (tree_at (contents_in g) (2 + v)).table b
outside-guest g v depth x ts b e n a o =
    subst (λ (t : Tree). IsOutside (layout_of g.layout).depth t.table b) (sym (guest-tree (contents_in g) v))
    (subst (λ (y : Guest). IsOutside (layout_of g.layout).depth y.tree.table b) (sym e)
    (subst (λ (m : ℕ). IsOutside m (table_of x.tree.tables.items) b) n
    (subst (λ (ts : List Table). IsOutside depth (table_of ts) b) a o)))

no-tree : (depth : ℕ) → IsCoarsestTree depth no_tree
no-tree depth = none_is_coarsest depth

guest-coarsest : (depth : ℕ) (gs : List GhostGuest) (v : ℕ)
    → All (λ x. IsCoarsestTree depth (tree_in_lists x.tree)) gs
    → IsCoarsestTree depth (get_or (map guest_in gs) v no_guest).tree
guest-coarsest depth [] v h = no-tree depth
guest-coarsest depth (x ∷ gs) zero h = All-head (λ (x : GhostGuest). IsCoarsestTree depth (tree_in_lists x.tree)) x gs h
guest-coarsest depth (x ∷ gs) (suc v) h =
    guest-coarsest depth gs v (All-tail (λ (x : GhostGuest). IsCoarsestTree depth (tree_in_lists x.tree)) x gs h)

pub all-coarsest : (g : GhostLists)
    → IsCoarsestTree (layout_of g.layout).depth (tree_in_lists g.shared.host)
    → IsCoarsestTree (layout_of g.layout).depth (tree_in_lists g.shared.hyp)
    → All (λ x. IsCoarsestTree (layout_of g.layout).depth (tree_in_lists x.tree)) g.guests.items
    → AreCoarsest (layout_of g.layout) (contents_in g)
all-coarsest g a b c =
    record { host = a; hyp = b; guest = λ v. guest-coarsest (layout_of g.layout).depth g.guests.items v c }

-- guests of a list, one more

pub guests-more : (P : GhostGuest → Type 0) (gs hs : List GhostGuest) (i : ℕ) (x : GhostGuest)
    → hs ≡ gs
    → x ≡ get_or hs i x
    → i < length gs
    → All P (take i gs)
    → P x
    → All P (take (i + 1) gs)
guests-more P gs hs i x e is less a p = All-more P gs i x less a (subst P (is ∙ ap (λ ys. get_or ys i x) e) p)

pub guest-of : (g : GhostLists) (hs : List GhostGuest) (v : ℕ) (x : GhostGuest)
    → hs ≡ g.guests.items
    → x ≡ get_or hs v x
    → v < length g.guests.items
    → (contents_in g).guest v ≡ guest_in x
guest-of g hs v x e is less = guest-at g.guests.items v x less ∙ ap guest_in (sym (is ∙ ap (λ ys. get_or ys v x) e))

pub below-64 : (hs gs : List GhostGuest) (v : ℕ) → hs ≡ gs → length gs ≡ 64 → v < length hs → v < 64
below-64 hs gs v e n less = let k = ap length e in omega (arith, k, n, less)

pub told-some : {X : Type 0} (P : Type 0) (Q : X → Type 0) (o : Option X) (x : X) → o ≡ Some x → MatchOption o P Q → Q x
told-some P Q None x e h = absurd (cc)
told-some P Q (Some y) x e h = let same : y ≡ x = cc in subst Q same h

pub misfit-guest : (g : GhostLists) (v depth : ℕ) (x : GhostGuest) (m : Misfit)
    → (contents_in g).guest v ≡ guest_in x
    → depth ≡ (layout_of g.layout).depth
    → IsMisfit depth (tree_in_lists x.tree) m
    → IsMisfit (layout_of g.layout).depth (tree_at (contents_in g) (2 + v)) m
misfit-guest g v depth x m e n h =
    subst (λ (t : Tree). IsMisfit (layout_of g.layout).depth t m) (sym (guest-tree (contents_in g) v))
    (subst (λ (y : Guest). IsMisfit (layout_of g.layout).depth y.tree m) (sym e)
    (subst (λ (k : ℕ). IsMisfit k (tree_in_lists x.tree) m) n h))

-- what is told of guests is told of all

pub tables-joined : (g : GhostLists) (o : Option Illegal)
    → FitsParts g
    → AreInside (layout_of g.layout).depth g.shared.host.tables.items
    → AreInside (layout_of g.layout).depth g.shared.hyp.tables.items
    → MatchOption o (All (λ x. AreInside (layout_of g.layout).depth x.tree.tables.items) g.guests.items)
    (IsIllegalButForTrees g)
    → MatchOption o (FitsTables g) (IsIllegalButForTrees g)
tables-joined g None p a b h = record { parts = p; host = a; hyp = b; guests = h }
tables-joined g (Some x) p a b h = h

pub trees-joined : (g : GhostLists) (o : Option Illegal)
    → IsCoarsestTree (layout_of g.layout).depth (tree_in_lists g.shared.host)
    → IsCoarsestTree (layout_of g.layout).depth (tree_in_lists g.shared.hyp)
    → MatchOption o (All (λ x. IsCoarsestTree (layout_of g.layout).depth (tree_in_lists x.tree)) g.guests.items)
    (IsIllegal g)
    → MatchOption o (AreCoarsest (layout_of g.layout) (contents_in g)) (IsIllegal g)
trees-joined g None a b h = all-coarsest g a b h
trees-joined g (Some x) a b h = h

pub trees-joined-in : (g : GhostLists) (r : Result (Option Illegal) AllocError)
    → IsCoarsestTree (layout_of g.layout).depth (tree_in_lists g.shared.host)
    → IsCoarsestTree (layout_of g.layout).depth (tree_in_lists g.shared.hyp)
    → IfOk r
    (λ o. MatchOption o
    (All (λ x. IsCoarsestTree (layout_of g.layout).depth (tree_in_lists x.tree)) g.guests.items) (IsIllegal g))
    → IfOk r (λ o. MatchOption o (AreCoarsest (layout_of g.layout) (contents_in g)) (IsIllegal g))
trees-joined-in g (Ok o) a b h = trees-joined g o a b h
trees-joined-in g (Err e) a b h = tt
