-- What is told of a state isn't so of a legal one.
use Rattle.std.proofs.Common.{◌≡◌, ℕ, zero, suc, ◌+◌, ◌-◌, ◌<◌, true, false, List, [], ◌∷◌, map, length, get_or, Option, Some, None, Result, Ok, Err, refl, sym, ap, subst, ◌∙◌, inl, inr, arith}
use Rattle.std.specs.Prelude.{◌↔◌, IfOk, IfSome, MatchOption, not, All, is_some}
use Rattle.std.specs.declared.alloc.AllocError.{AllocError}
use Rattle.std.proofs.lemmas.List.Elements.{All-head, All-tail}
use Rattle.page_state.specs.declared.entry.Entry.TheVariants.{Unmapped}
use Rattle.page_state.specs.declared.entry.Run.{Run}
use Rattle.page_state.specs.LayoutFaults.{IsAccepted}
use Rattle.page_state.specs.LayoutView.{layout_of}
use Rattle.page_state.specs.Layouts.{Layout}
use Rattle.page_state.specs.Runs.{map_of, IsCoarsest}
use Rattle.page_state.specs.Trees.{Block, Tree}
use Rattle.page_state.proofs.Entries.{target-mapped}
use Rattle.page_state.proofs.Runs.{map_of-first}
use Rattle.coarse_trees.specs.Coarsest.{IsCoarsest as IsCoarsestTree, IsInTree}
use Rattle.reference_model.specs.help.Conditions.{guest_condition, AreCoarsest, GuestFits, IsGood, Legal}
use Rattle.reference_model.specs.claims.Sound.{tree_at}
use Rattle.reference_model.specs.model.State.{Contents, Guest, empty, live, dying, no_guest}
use Rattle.freedoms.specs.AnyTrees.{AreFramesLegal, IsLegalButForTrees}
use Rattle.ghost_trees.specs.declared.tree.Table.{Table}
use Rattle.ghost_trees.specs.Trees.{table_of}
use Rattle.ghost_spec.specs.declared.lists.GhostLists.{GhostLists}
use Rattle.ghost_spec.specs.declared.parts.GhostGuest.{GhostGuest}
use Rattle.ghost_spec.specs.declared.parts.GhostPhase.{GhostPhase}
use Rattle.ghost_spec.specs.declared.parts.GhostPhase.TheVariants.{Empty, Live, Dying}
use Rattle.ghost_spec.specs.Kept.{IsKeptGuest}
use Rattle.ghost_spec.specs.States.{contents_in, guest_in, phase_in, IsKept}
use Rattle.ghost_coarse.specs.Misfits.{AreInside, IsMisfit}
use Rattle.ghost_coarse.specs.declared.misfit.Misfit.{Misfit}
use Rattle.ghost_coarse.specs.declared.misfit.Misfit.TheVariants.{Needless, Lacking}
use Rattle.ghost_coarse.proofs.Listing.{there}
use Rattle.ghost_coarse.proofs.Placed.{inside-at}
use Rattle.ghost_slots.proofs.Agreeing.{are-real}
use Rattle.ghost_legal.specs.declared.finding.Illegal.{Illegal}
use Rattle.ghost_legal.specs.declared.finding.Illegal.TheVariants.{Slots, Guest as GuestFault, Outside, GuestPage, HypPage, FarFrame, HeldTwice, Frame, Tree as TreeFault}
use Rattle.ghost_legal.specs.declared.finding.Facts.{Facts}
use Rattle.ghost_legal.specs.Blocks.{TreesHaveFirstBlocks}
use Rattle.ghost_legal.specs.Facts.{IsCondition}
use Rattle.ghost_legal.specs.Illegals.{FitsFrames, FitsPages, FitsTables, IsIllegal, IsIllegalButForTrees, IsPageFault, IsUnfit}
use Rattle.ghost_legal.specs.Pages.{IsWhole, IsWholeIn}
use Rattle.ghost_legal.proofs.Found.{guest-at}
use Rattle.ghost_legal.proofs.Lows.{trees-own}
use Rattle.ghost_legal.proofs.Pointwise.{each-condition, guest-good}
use Rattle.ghost_legal.proofs.Twice.{not-far, not-twice}
use Rattle.ghost_legal.proofs.Whole.{all-held}
use Rattle.ghost_legal.proofs.WholeGuests.{guests-fit}

-- a guest that fits is whole

no-runs : (rs : List Run) → IsCoarsest rs → ((p : ℕ) → map_of rs p ≡ Unmapped) → length rs ≡ 0
no-runs [] c h = refl
no-runs (r ∷ rs) c h =
    absurd
    (target-mapped r.target (r.pages.first.0 - r.pages.first.0)
    (sym (map_of-first r rs r.pages.first.0 (omega arith) (omega (arith, c.0))) ∙ h r.pages.first.0))

no-tables : (ts : List Table) → ((b : Block) → table_of ts b ≡ None) → length ts ≡ 0
no-tables [] h = refl
no-tables (t ∷ ts) h = let bad : true ≡ false = sym (there (t ∷ ts) 0 t (omega arith)) ∙ ap is_some (h t.block) in cc

whole-in : (depth : ℕ) (x : GhostGuest) (ph : GhostPhase)
    → x.phase ≡ ph
    → IsKeptGuest x
    → ((guest_in x).phase ≡ empty → guest_in x ≡ no_guest)
    → (((guest_in x).phase ≡ empty → ⊥) → (root : ℕ) × ((guest_in x).tree.table (depth + 1, 0) ≡ Some root))
    → IsWholeIn depth x ph
whole-in depth x Empty p k b r =
    let e = b (ap phase_in p) in
    record {
      generation = ap (λ (g : Guest). g.generation) e;
      kind = ap (λ (g : Guest). g.kind) e;
      runs = no-runs x.tree.runs.items k.tree.coarsest (λ q. ap (λ (g : Guest). g.tree.map q) e);
      tables = no-tables x.tree.tables.items (λ b. ap (λ (g : Guest). g.tree.table b) e);
      free = ap (λ (g : Guest). length g.free) e;
    }
whole-in depth x Live p k b r = let root = r (λ e. let bad : live ≡ empty = sym (ap phase_in p) ∙ e in cc) in
    ap is_some root.1
whole-in depth x Dying p k b r = let root = r (λ e. let bad : dying ≡ empty = sym (ap phase_in p) ∙ e in cc) in
    ap is_some root.1

-- trees

coarsest-at : (l : Layout) (s : Contents) → AreCoarsest l s → (t : ℕ) → IsCoarsestTree l.depth (tree_at s t)
coarsest-at l s h zero = h.host
coarsest-at l s h (suc zero) = h.hyp
coarsest-at l s h (suc (suc v)) = h.guest v

some-table : (o : Option ℕ) → is_some o ≡ true → (f : ℕ) × (o ≡ Some f)
some-table None e = cc
some-table (Some f) e = (f, refl)

no-misfit : (depth : ℕ) (t : Tree) (m : Misfit) → IsCoarsestTree depth t → IsMisfit depth t m → ⊥
no-misfit depth t (Needless b) c f = let bad : true ≡ false =
    sym f.there ∙ c.below b f.inside f.below ∙ ap not f.word in
    cc
no-misfit depth t (Lacking b) c f = let bad : false ≡ true =
    sym f.none ∙ c.below b f.inside f.below ∙ ap not f.no_word in
    cc

module _ (g : GhostLists) (kept : IsKept g) (first : TreesHaveFirstBlocks g) (accepted : IsAccepted g.layout.map)
    (l : IsLegalButForTrees (layout_of g.layout) (contents_in g)) where
  page-fits : (v p : ℕ) → IsPageFault (layout_of g.layout) v p (((contents_in g).guest v).tree.map p) → ⊥
  page-fits v p f = by (l.frames.maps.guest v p)
    where
      by : GuestFits l.frames.condition v p (((contents_in g).guest v).tree.map p) → ⊥
      by (inl u) = f.0 u
      by (inr x) =
          let is : IsGood (layout_of g.layout) (guest_condition x.state v p) =
          subst (IsGood (layout_of g.layout)) x.named (l.frames.of_layout.good x.frame) in
          let good = guest-good (layout_of g.layout) x.state v p is in
          f.1
          (record {
            frame = x.frame;
            prot = x.prot;
            state = x.state;
            leaf_is = x.leaf_is;
            slot = good.0;
            below = good.1;
          })

  guest-fits : (v : ℕ) (x : GhostGuest) → x ≡ get_or g.guests.items v x → v < 64 → IsWhole (layout_of g.layout).depth x
  guest-fits v x is less =
      let n = kept.guests_count in
      let below : v < length g.guests.items = omega (arith, less, n) in
      let e : (contents_in g).guest v ≡ guest_in x = guest-at g.guests.items v x below ∙ ap guest_in (sym is) in
      let blank = subst (λ (y : Guest). y.phase ≡ empty → y ≡ no_guest) e (l.guest_parts.blank v) in
      let root =
      subst
      (λ (y : Guest). (y.phase ≡ empty → ⊥)
      → (root : ℕ) × (y.tree.table ((layout_of g.layout).depth + 1, 0) ≡ Some root)) e
      (l.guest_parts.rooted v) in
      whole-in (layout_of g.layout).depth x x.phase refl (subst IsKeptGuest (sym is) (kept.guests v x below)) blank root

  unfit : (f : ℕ) (x : Facts) → FitsPages g → IsUnfit g f x → ⊥
  unfit f x p u =
      let t = p.tables in
      let own = trees-own (layout_of g.layout).depth g t.host t.hyp t.guests first in
      let hs = u.held in
      u.none
      (subst (IsCondition f) (sym u.facts)
      (each-condition g hs u.once.order
      (all-held g hs u.once.order kept.guests_count kept.cpus_count own p.runs p.guests u.all) l.frames f))

  -- a legal state has no fault
  pub no-early : (x : Illegal) → IsIllegalButForTrees g x → ⊥
  no-early (Slots x) f = are-real (contents_in g) x f l.slots
  no-early (GuestFault v) f = f.1.not_whole (guest-fits v f.1.guest f.1.is f.1.slot)
  no-early (Outside at) f =
      let o = f.1 in
      let t = some-table ((tree_at (contents_in g) at.tree).table at.block) o.there in
      o.outside (l.inside at.tree at.block t.0 t.1)
  no-early (GuestPage v p) f = page-fits v p f.1
  no-early (HypPage p) f = f.3 (l.frames.maps.hyp_below p f.2)
  no-early (FarFrame f h) k = not-far g kept first accepted l.frames k.0 f h k.1
  no-early (HeldTwice f a b) k = not-twice g kept first l.frames k.0 f a b k.2
  no-early (Frame f x) k = unfit f x k.0 k.1
  no-early (TreeFault t m) k = k

-- a legal state is so, whatever tables its trees need

but-for-trees : (l : Layout) (s : Contents) → Legal l s → IsLegalButForTrees l s
but-for-trees l s h = record {
  frames = record { condition = h.condition; of_layout = h.of_layout; maps = h.maps; held = h.held; rows = h.rows };
  inside = λ t. (coarsest-at l s h.trees t).inside;
  guest_parts = h.guest_parts;
  slots = h.slots;
}

pub no-fault : (g : GhostLists)
    → IsKept g
    → TreesHaveFirstBlocks g
    → IsAccepted g.layout.map
    → Legal (layout_of g.layout) (contents_in g)
    → (x : Illegal)
    → IsIllegal g x
    → ⊥
no-fault g kept first a l (TreeFault t m) k =
    no-misfit (layout_of g.layout).depth (tree_at (contents_in g) t) m
    (coarsest-at (layout_of g.layout) (contents_in g) l.trees t) k.2
no-fault g kept first a l (Slots x) f =
    no-early g kept first a (but-for-trees (layout_of g.layout) (contents_in g) l) (Slots x) f
no-fault g kept first a l (GuestFault v) f =
    no-early g kept first a (but-for-trees (layout_of g.layout) (contents_in g) l) (GuestFault v) f
no-fault g kept first a l (Outside at) f =
    no-early g kept first a (but-for-trees (layout_of g.layout) (contents_in g) l) (Outside at) f
no-fault g kept first a l (GuestPage v p) f =
    no-early g kept first a (but-for-trees (layout_of g.layout) (contents_in g) l) (GuestPage v p) f
no-fault g kept first a l (HypPage p) f =
    no-early g kept first a (but-for-trees (layout_of g.layout) (contents_in g) l) (HypPage p) f
no-fault g kept first a l (FarFrame f h) k =
    no-early g kept first a (but-for-trees (layout_of g.layout) (contents_in g) l) (FarFrame f h) k
no-fault g kept first a l (HeldTwice f x y) k =
    no-early g kept first a (but-for-trees (layout_of g.layout) (contents_in g) l) (HeldTwice f x y) k
no-fault g kept first a l (Frame f x) k =
    no-early g kept first a (but-for-trees (layout_of g.layout) (contents_in g) l) (Frame f x) k

-- what is told whatever tables the trees need is told of all
pub told-of-all : (g : GhostLists) (x : Illegal) → IsIllegalButForTrees g x → IsIllegal g x
told-of-all g (TreeFault t m) k = absurd k
told-of-all g (Slots x) k = k
told-of-all g (GuestFault v) k = k
told-of-all g (Outside at) k = k
told-of-all g (GuestPage v p) k = k
told-of-all g (HypPage p) k = k
told-of-all g (FarFrame f h) k = k
told-of-all g (HeldTwice f x y) k = k
told-of-all g (Frame f x) k = k

-- tables are at blocks of their trees

guest-inside : (depth : ℕ) (gs : List GhostGuest) (v : ℕ)
    → All (λ x. AreInside depth x.tree.tables.items) gs
    → (b : Block) (f : ℕ)
    → (get_or (map guest_in gs) v no_guest).tree.table b ≡ Some f
    → IsInTree depth b
guest-inside depth [] v h b f e = let bad : None ≡ Some f = e in absurd (cc)
guest-inside depth (x ∷ gs) zero h b f e =
    inside-at depth x.tree.tables.items b f
    (All-head (λ (x : GhostGuest). AreInside depth x.tree.tables.items) x gs h) e
guest-inside depth (x ∷ gs) (suc v) h b f e =
    guest-inside depth gs v (All-tail (λ (x : GhostGuest). AreInside depth x.tree.tables.items) x gs h) b f e

all-inside : (g : GhostLists)
    → FitsTables g
    → (t : ℕ) (b : Block) (f : ℕ)
    → (tree_at (contents_in g) t).table b ≡ Some f
    → IsInTree (layout_of g.layout).depth b
all-inside g h zero b f e = inside-at (layout_of g.layout).depth g.shared.host.tables.items b f h.host e
all-inside g h (suc zero) b f e = inside-at (layout_of g.layout).depth g.shared.hyp.tables.items b f h.hyp e
all-inside g h (suc (suc v)) b f e = guest-inside (layout_of g.layout).depth g.guests.items v h.guests b f e

made-but-for-trees : (g : GhostLists)
    → FitsPages g
    → AreFramesLegal (layout_of g.layout) (contents_in g)
    → IsLegalButForTrees (layout_of g.layout) (contents_in g)
made-but-for-trees g p f =
    record {
      frames = f;
      inside = all-inside g p.tables;
      guest_parts = guests-fit g p.tables.parts.guests;
      slots = p.tables.parts.slots;
    }

pub frames-fit : (g : GhostLists)
    → FitsPages g
    → (r : Result (Option Illegal) AllocError)
    → IfOk r (λ o. MatchOption o (AreFramesLegal (layout_of g.layout) (contents_in g)) (IsIllegalButForTrees g))
    → IfOk r (λ o. MatchOption o (FitsFrames g) (IsIllegalButForTrees g))
frames-fit g p (Ok None) h = record { pages = p; frames = h }
frames-fit g p (Ok (Some x)) h = h
frames-fit g p (Err e) h = tt

pub early-legal : (g : GhostLists)
    → IsKept g
    → TreesHaveFirstBlocks g
    → IsAccepted g.layout.map
    → (r : Result (Option Illegal) AllocError)
    → IfOk r (λ o. MatchOption o (FitsFrames g) (IsIllegalButForTrees g))
    → IfOk r (λ o. (o ≡ None) ↔ IsLegalButForTrees (layout_of g.layout) (contents_in g))
early-legal g kept first a (Ok None) h = (λ e. made-but-for-trees g h.pages h.frames, λ l. refl)
early-legal g kept first a (Ok (Some x)) h = (λ e. absurd (cc), λ l. absurd (no-early g kept first a l x h))
early-legal g kept first a (Err e) h = tt

pub early-told : (g : GhostLists) (r : Result (Option Illegal) AllocError)
    → IfOk r (λ o. MatchOption o (FitsFrames g) (IsIllegalButForTrees g))
    → IfOk r (λ o. IfSome o (IsIllegalButForTrees g))
early-told g (Ok None) h = tt
early-told g (Ok (Some x)) h = h
early-told g (Err e) h = tt

-- a state without a fault is legal

pub made-legal : (g : GhostLists)
    → FitsPages g
    → AreFramesLegal (layout_of g.layout) (contents_in g)
    → AreCoarsest (layout_of g.layout) (contents_in g)
    → Legal (layout_of g.layout) (contents_in g)
made-legal g p f t =
    record {
      condition = f.condition;
      of_layout = f.of_layout;
      maps = f.maps;
      held = f.held;
      rows = f.rows;
      trees = t;
      guest_parts = guests-fit g p.tables.parts.guests;
      slots = p.tables.parts.slots;
    }

pub none-or-told : (g : GhostLists)
    → IsKept g
    → TreesHaveFirstBlocks g
    → IsAccepted g.layout.map
    → FitsPages g
    → AreFramesLegal (layout_of g.layout) (contents_in g)
    → (o : Option Illegal)
    → MatchOption o (AreCoarsest (layout_of g.layout) (contents_in g)) (IsIllegal g)
    → (o ≡ None) ↔ Legal (layout_of g.layout) (contents_in g)
none-or-told g kept first a p f None h = (λ e. made-legal g p f h, λ l. refl)
none-or-told g kept first a p f (Some x) h = (λ e. absurd (cc), λ l. absurd (no-fault g kept first a l x h))

pub none-or-told-in : (g : GhostLists)
    → IsKept g
    → TreesHaveFirstBlocks g
    → IsAccepted g.layout.map
    → FitsPages g
    → AreFramesLegal (layout_of g.layout) (contents_in g)
    → (r : Result (Option Illegal) AllocError)
    → IfOk r (λ o. MatchOption o (AreCoarsest (layout_of g.layout) (contents_in g)) (IsIllegal g))
    → IfOk r (λ o. (o ≡ None) ↔ Legal (layout_of g.layout) (contents_in g))
none-or-told-in g kept first a p f (Ok o) h = none-or-told g kept first a p f o h
none-or-told-in g kept first a p f (Err e) h = tt

pub some-told : (g : GhostLists)
    → IsKept g
    → TreesHaveFirstBlocks g
    → IsAccepted g.layout.map
    → (x : Illegal)
    → IsIllegal g x
    → (Some x ≡ None) ↔ Legal (layout_of g.layout) (contents_in g)
some-told g kept first a x h = (λ e. absurd (cc), λ l. absurd (no-fault g kept first a l x h))

pub some-told-in : (g : GhostLists) (P : Type 0) (r : Result (Option Illegal) AllocError)
    → IfOk r (λ o. MatchOption o P (IsIllegal g))
    → IfOk r (λ o. IfSome o (IsIllegal g))
some-told-in g P (Ok None) h = tt
some-told-in g P (Ok (Some x)) h = h
some-told-in g P (Err e) h = tt
