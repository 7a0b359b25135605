-- The maps of all trees by their runs.
use Rattle.std.proofs.Common.{◌≡◌, ℕ, zero, suc, ◌+◌, ◌-◌, ◌<◌, ◌≤◌, List, [], ◌∷◌, length, get_or, map, Option, Some, None, refl, sym, ap, subst, ◌∙◌, arith}
use Rattle.std.specs.Prelude.{All}
use Rattle.std.proofs.lemmas.List.{get_or-map}
use Rattle.std.proofs.lemmas.List.Elements.{All-head, All-tail}
use Rattle.page_state.specs.declared.entry.Run.{Run}
use Rattle.page_state.specs.declared.entry.Target.{Target}
use Rattle.page_state.specs.declared.entry.Target.TheVariants.{Malformed, Annotated, Leaf}
use Rattle.page_state.specs.Entries.{advance, entry_of_target}
use Rattle.page_state.specs.Regions.{is_in_range}
use Rattle.page_state.specs.Runs.{map_of, entry_on, run_end, PrecedesFirst, IsCoarsest}
use Rattle.page_state.proofs.Cases.{by_test, by_lt}
use Rattle.page_state.proofs.Runs.{StartsFrom, low, map_of-first, map_of-behind}
use Rattle.reference_model.specs.claims.Sound.{tree_at}
use Rattle.reference_model.specs.model.State.{no_guest}
use Rattle.ghost_spec.specs.declared.lists.GhostLists.{GhostLists}
use Rattle.ghost_spec.specs.declared.parts.GhostGuest.{GhostGuest}
use Rattle.ghost_spec.specs.States.{contents_in, guest_in}
use Rattle.ghost_trees.specs.KeptTrees.{IsKeptTree}
use Rattle.ghost_trees.proofs.Overlaid.{within_means}
use Rattle.ghost_sound.specs.declared.leaves.Side.{Side}
use Rattle.ghost_sound.specs.inner.Leaves.{counts, guest_runs, runs_in, target_frame, Has, HasKeptTrees, HasLeaf, IsOn}

some-same : {a b : ℕ} → Some a ≡ Some b → a ≡ b
some-same h = cc

module _ (side : Side) where
  -- a leaf that counts, by the first frame of its target

  target-leaf : (t : Target) (start n f : ℕ)
      → target_frame side t ≡ Some start
      → start + n ≡ f
      → HasLeaf side f (advance (entry_of_target t) n)
  target-leaf Malformed start n f h e = cc
  target-leaf (Annotated o) start n f h e = cc
  target-leaf (Leaf frame prot kind state) start n f h e = by_test (counts side state)
      (λ t. let some : Some frame.0 ≡ Some start = rw t at h in
      let same : frame.0 ≡ start = some-same some in
      (ap (λ k. k + n) same ∙ e, t))
      (λ t. let none : ◌≡◌ {A = Option ℕ} None (Some start) = rw t at h in absurd (cc))

  leaf-target : (t : Target) (n f : ℕ)
      → HasLeaf side f (advance (entry_of_target t) n)
      → (start : ℕ) × (target_frame side t ≡ Some start) × (start + n ≡ f)
  leaf-target Malformed n f h = absurd h
  leaf-target (Annotated o) n f h = absurd h
  leaf-target (Leaf frame prot kind state) n f h = (frame.0, rw h.1 refl, h.0)

  on-leaf : (r : Run) (p f : ℕ) → IsOn side r p f → HasLeaf side f (entry_on r p)
  on-leaf r p f h = target-leaf r.target h.start (p - r.pages.first.0) f h.starts h.frame

  leaf-on : (r : Run) (p f : ℕ) → r.pages.first.0 ≤ p → p < run_end r → HasLeaf side f (entry_on r p) → IsOn side r p f
  leaf-on r p f a b h =
      let e = leaf-target r.target (p - r.pages.first.0) f h in
      record { start = e.0; starts = e.1; from = a; below = b; frame = e.2 }

  starts : (r : Run) (rs : List Run) → PrecedesFirst r rs → StartsFrom (run_end r) rs
  starts r [] h = tt
  starts r (n ∷ rs) h = h.before

  -- what a run of a list maps, the list maps
  pub on-mapped : (rs : List Run) (p f : ℕ)
      → IsCoarsest rs
      → (k : ℕ) (d : Run)
      → k < length rs
      → IsOn side (get_or rs k d) p f
      → HasLeaf side f (map_of rs p)
  on-mapped [] p f c k d less h = absurd (omega (arith, less))
  on-mapped (r ∷ rs) p f c zero d less h =
      subst (HasLeaf side f) (sym (map_of-first r rs p h.from h.below)) (on-leaf r p f h)
  on-mapped (r ∷ rs) p f c (suc k) d less h =
      let more : HasLeaf side f (map_of rs p) = on-mapped rs p f c.2 k d (omega (arith, less)) h in
      by_lt p (run_end r)
      (λ l. absurd (subst (HasLeaf side f) (low rs (run_end r) c.2 (starts r rs c.1) p l) more))
      (λ l. subst (HasLeaf side f) (sym (map_of-behind r rs p l)) more)

  -- what a list maps, one of its runs does
  pub mapped-on : (rs : List Run) (p f : ℕ)
      → HasLeaf side f (map_of rs p)
      → (k : ℕ) × (k < length rs) × ((d : Run) → IsOn side (get_or rs k d) p f)
  mapped-on [] p f h = absurd h
  mapped-on (r ∷ rs) p f h = by_test (is_in_range r.pages p)
      (λ t. let w = within_means r.pages.first.0 r.pages.count p t in
      let here : HasLeaf side f (entry_on r p) = subst (HasLeaf side f) (map_of-first r rs p w.0 w.1) h in
      (0, omega arith, λ d. leaf-on r p f w.0 w.1 here))
      (λ t. let more : HasLeaf side f (map_of rs p) = rw t at h in
      let e = mapped-on rs p f more in
      (suc e.0, omega (arith, e.1), e.2))

-- the runs of guests

guest-map : (gs : List GhostGuest) (v p : ℕ)
    → map_of (guest_runs gs v) p ≡ (get_or (map guest_in gs) v no_guest).tree.map p
guest-map [] v p = refl
guest-map (g ∷ gs) zero p = refl
guest-map (g ∷ gs) (suc v) p = guest-map gs v p

guest-past : (gs : List GhostGuest) (v : ℕ) → length gs ≤ v → guest_runs gs v ≡ []
guest-past [] v h = refl
guest-past (g ∷ gs) zero h = absurd (omega (arith, h))
guest-past (g ∷ gs) (suc v) h = guest-past gs v (omega (arith, h))

guest-kept : (gs : List GhostGuest) (v : ℕ) → All (λ x. IsKeptTree x.tree) gs → IsCoarsest (guest_runs gs v)
guest-kept [] v h = tt
guest-kept (g ∷ gs) zero h = (All-head (λ x. IsKeptTree x.tree) g gs h).coarsest
guest-kept (g ∷ gs) (suc v) h = guest-kept gs v (All-tail (λ x. IsKeptTree x.tree) g gs h)

-- the runs of the tree of a number are those of the guest at its place
pub runs-at : (g : GhostLists) (t : ℕ) (x : GhostGuest)
    → (t ≡ 0 → ⊥)
    → (t ≡ 1 → ⊥)
    → t - 2 < length g.guests.items
    → runs_in g t ≡ (get_or g.guests.items (t - 2) x).tree.runs.items
runs-at g zero x a b h = absurd (a refl)
runs-at g (suc zero) x a b h = absurd (b refl)
runs-at g (suc (suc v)) x a b h =
    let e : suc (suc v) - 2 ≡ v = omega arith in
    get_or-map (λ y. y.tree.runs.items) g.guests.items v x [] (omega (arith, h))
    ∙ ap (λ n. (get_or g.guests.items n x).tree.runs.items) (sym e)

module _ (g : GhostLists) (k : HasKeptTrees g) where
  tree-map : (t p : ℕ) → map_of (runs_in g t) p ≡ (tree_at (contents_in g) t).map p
  tree-map zero p = refl
  tree-map (suc zero) p = refl
  tree-map (suc (suc v)) p = guest-map g.guests.items v p

  tree-kept : (t : ℕ) → IsCoarsest (runs_in g t)
  tree-kept zero = k.host.coarsest
  tree-kept (suc zero) = k.hyp.coarsest
  tree-kept (suc (suc v)) = guest-kept g.guests.items v k.guests

  tree-past : (t : ℕ) → 66 ≤ t → runs_in g t ≡ []
  tree-past zero h = absurd (omega (arith, h))
  tree-past (suc zero) h = absurd (omega (arith, h))
  tree-past (suc (suc v)) h = guest-past g.guests.items v (omega (arith, h, k.count))

  module _ (side : Side) (t p f : ℕ) where
    pub on-has : (i : ℕ) (d : Run)
        → i < length (runs_in g t)
        → IsOn side (get_or (runs_in g t) i d) p f
        → Has side (contents_in g) t p f
    on-has i d less h =
        subst (HasLeaf side f) (tree-map t p) (on-mapped side (runs_in g t) p f (tree-kept t) i d less h)

    pub has-on : Has side (contents_in g) t p f
        → (t < 66) × ((i : ℕ) × (i < length (runs_in g t)) × ((d : Run) → IsOn side (get_or (runs_in g t) i d) p f))
    has-on h =
        let mapped : HasLeaf side f (map_of (runs_in g t) p) = subst (HasLeaf side f) (sym (tree-map t p)) h in (
          by_lt t 66 (λ l. l)
              (λ l. absurd (subst (λ (rs : List Run). HasLeaf side f (map_of rs p)) (tree-past t l) mapped)),
          mapped-on side (runs_in g t) p f mapped,
        )

-- some run, past the end of a list
pub any_run : Run
any_run = record { pages = record { first = record { 0 = 0 }; count = 0 }; target = Malformed }
