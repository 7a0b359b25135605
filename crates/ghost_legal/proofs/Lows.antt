-- Where runs begin, and what guests' runs and tables come to.
use Rattle.std.proofs.Common.{◌≡◌, ℕ, zero, suc, ◌+◌, ◌-◌, ◌<◌, ◌≤◌, List, [], ◌∷◌, map, length, get_or, refl, sym, subst, ◌∙◌, inl, inr, arith}
use Rattle.std.specs.Prelude.{◌⊎◌, ◌↔◌, All}
use Rattle.std.proofs.lemmas.List.Elements.{All-head, All-tail}
use Rattle.page_state.specs.declared.entry.Entry.TheVariants.{Unmapped}
use Rattle.page_state.specs.declared.entry.Run.{Run}
use Rattle.page_state.specs.declared.entry.Target.{Target}
use Rattle.page_state.specs.declared.entry.Target.TheVariants.{Malformed, Annotated, Leaf}
use Rattle.page_state.specs.Entries.{advance, entry_of_target}
use Rattle.page_state.specs.Geometries.{pages_below}
use Rattle.page_state.specs.Layouts.{Layout}
use Rattle.page_state.specs.Regions.{is_in_range}
use Rattle.page_state.specs.Runs.{map_of, IsCoarsest}
use Rattle.page_state.proofs.Cases.{by_lt, by_test}
use Rattle.page_state.proofs.Entries.{target-mapped}
use Rattle.page_state.proofs.Runs.{low, map_of-first}
use Rattle.reference_model.specs.model.State.{no_guest}
use Rattle.ghost_trees.proofs.Overlaid.{within_means}
use Rattle.ghost_spec.specs.declared.parts.GhostGuest.{GhostGuest}
use Rattle.ghost_spec.specs.Kept.{IsKeptGuest}
use Rattle.ghost_spec.specs.States.{guest_in, AreKeptGuests}
use Rattle.ghost_legal.specs.AllHeld.{IsGuestPage}
use Rattle.coarse_trees.specs.Coarsest.{IsInTree}
use Rattle.ghost_trees.specs.declared.tree.Table.{Table}
use Rattle.ghost_spec.specs.declared.lists.GhostLists.{GhostLists}
use Rattle.ghost_coarse.specs.Misfits.{AreInside}
use Rattle.ghost_legal.specs.Blocks.{HasFirstBlocks, HasOwnBlocks, HaveOwnBlocks, TreesHaveFirstBlocks, TreesHaveOwnBlocks}
use Rattle.ghost_legal.specs.Pages.{AreNormal, HaveGoodRuns, IsGoodRun, IsNormal}

pub begins-low : (rs : List Run) (least : ℕ) (d : Run)
    → IsCoarsest rs
    → 0 < length rs
    → (least ≤ (get_or rs 0 d).pages.first.0) ↔ ((p : ℕ) → p < least → map_of rs p ≡ Unmapped)
begins-low [] least d c less = absurd (omega (arith, less))
begins-low (r ∷ rs) least d c less = (
  λ h p l. low (r ∷ rs) least c h p l,
  λ h. by_lt r.pages.first.0 least
      (λ l. absurd
      (target-mapped r.target (r.pages.first.0 - r.pages.first.0)
      (sym (map_of-first r rs r.pages.first.0 (omega arith) (omega (arith, c.0))) ∙ h r.pages.first.0 l)))
      (λ l. l),
)

normal-all : (pages : ℕ) (rs : List Run) → All (IsGoodRun pages) rs → AreNormal rs
normal-all pages [] h = tt
normal-all pages (r ∷ rs) h =
    ((All-head (IsGoodRun pages) r rs h).0, normal-all pages rs (All-tail (IsGoodRun pages) r rs h))

pub good-runs : (pages : ℕ) (gs : List GhostGuest)
    → AreKeptGuests gs
    → All (λ g. All (IsGoodRun pages) g.tree.runs.items) gs
    → HaveGoodRuns gs
good-runs pages [] k h = tt
good-runs pages (x ∷ gs) k h = (
  (
    (All-head IsKeptGuest x gs k).tree.coarsest,
    normal-all pages x.tree.runs.items (All-head (λ g. All (IsGoodRun pages) g.tree.runs.items) x gs h),
  ),
  good-runs pages gs (All-tail IsKeptGuest x gs k)
      (All-tail (λ g. All (IsGoodRun pages) g.tree.runs.items) x gs h),
)

target-page : (l : Layout) (v p : ℕ) (t : Target) (n : ℕ)
    → IsNormal t
    → v < 64
    → p < pages_below l.depth
    → IsGuestPage l v p (advance (entry_of_target t) n)
target-page l v p Malformed n h a b = absurd h
target-page l v p (Annotated owner) n h a b = absurd h
target-page l v p (Leaf frame prot kind state) n h a b =
    record { frame = frame.0 + n; prot = prot; state = state; leaf_is = rw h refl; slot = a; below = b }

run-page : (l : Layout) (v p : ℕ) (rs : List Run)
    → All (IsGoodRun (pages_below l.depth)) rs
    → v < 64
    → (map_of rs p ≡ Unmapped) ⊎ IsGuestPage l v p (map_of rs p)
run-page l v p [] h a = inl refl
run-page l v p (r ∷ rs) h a =
    let first : IsGoodRun (pages_below l.depth) r = All-head (IsGoodRun (pages_below l.depth)) r rs h in
    by_test (is_in_range r.pages p)
    (λ t. let w = within_means r.pages.first.0 r.pages.count p t in
    let e = map_of-first r rs p w.0 w.1 in
    inr
    (subst (IsGuestPage l v p) (sym e)
    (target-page l v p r.target (p - r.pages.first.0) first.0 a (omega (arith, w.1, first.1)))))
    (λ t. rw t (run-page l v p rs (All-tail (IsGoodRun (pages_below l.depth)) r rs h) a))

-- each page of each guest
guest-page : (l : Layout) (gs : List GhostGuest) (v p k : ℕ)
    → All (λ g. All (IsGoodRun (pages_below l.depth)) g.tree.runs.items) gs
    → v < 64
    → ((get_or (map guest_in gs) k no_guest).tree.map p ≡ Unmapped)
    ⊎ IsGuestPage l v p ((get_or (map guest_in gs) k no_guest).tree.map p)
guest-page l [] v p k h a = inl refl
guest-page l (x ∷ gs) v p zero h a =
    run-page l v p x.tree.runs.items (All-head (λ g. All (IsGoodRun (pages_below l.depth)) g.tree.runs.items) x gs h) a
guest-page l (x ∷ gs) v p (suc k) h a =
    guest-page l gs v p k (All-tail (λ g. All (IsGoodRun (pages_below l.depth)) g.tree.runs.items) x gs h) a

past-page : (gs : List GhostGuest) (v p : ℕ)
    → length gs ≤ v
    → (get_or (map guest_in gs) v no_guest).tree.map p ≡ Unmapped
past-page [] v p h = refl
past-page (x ∷ gs) zero p h = absurd (omega (arith, h))
past-page (x ∷ gs) (suc v) p h = past-page gs v p (omega (arith, h))

pub pages-fit : (l : Layout) (gs : List GhostGuest)
    → length gs ≡ 64
    → All (λ g. All (IsGoodRun (pages_below l.depth)) g.tree.runs.items) gs
    → (v p : ℕ)
    → ((get_or (map guest_in gs) v no_guest).tree.map p ≡ Unmapped)
    ⊎ IsGuestPage l v p ((get_or (map guest_in gs) v no_guest).tree.map p)
pages-fit l gs n h v p = by_lt v 64 (λ a. guest-page l gs v p v h a) (λ a. inl (past-page gs v p (omega (arith, a, n))))

-- tables

own-blocks : (depth : ℕ) (ts : List Table) → AreInside depth ts → HasFirstBlocks ts → HasOwnBlocks depth ts
own-blocks depth [] i f = tt
own-blocks depth (t ∷ ts) i f = (
  All-head (λ x. IsInTree depth x.block) t ts i,
  f.0,
  own-blocks depth ts (All-tail (λ x. IsInTree depth x.block) t ts i) f.1,
)

guests-own : (depth : ℕ) (gs : List GhostGuest)
    → All (λ g. AreInside depth g.tree.tables.items) gs
    → All (λ x. HasFirstBlocks x.tree.tables.items) gs
    → HaveOwnBlocks depth gs
guests-own depth [] i f = tt
guests-own depth (x ∷ gs) i f = (
  own-blocks depth x.tree.tables.items (All-head (λ g. AreInside depth g.tree.tables.items) x gs i)
      (All-head (λ x. HasFirstBlocks x.tree.tables.items) x gs f),
  guests-own depth gs (All-tail (λ g. AreInside depth g.tree.tables.items) x gs i)
      (All-tail (λ x. HasFirstBlocks x.tree.tables.items) x gs f),
)

pub trees-own : (depth : ℕ) (g : GhostLists)
    → AreInside depth g.shared.host.tables.items
    → AreInside depth g.shared.hyp.tables.items
    → All (λ g. AreInside depth g.tree.tables.items) g.guests.items
    → TreesHaveFirstBlocks g
    → TreesHaveOwnBlocks depth g
trees-own depth g a b c f =
    record {
      host = own-blocks depth g.shared.host.tables.items a f.host;
      hyp = own-blocks depth g.shared.hyp.tables.items b f.hyp;
      guests = guests-own depth g.guests.items c f.guests;
    }
