-- The boot state, from what the changes of both new trees did.
use Rattle.std.proofs.Common.{◌≡◌, ℕ, ◌+◌, ◌≤◌, ◌<◌, Bool, true, false, ◌==◌, ◌++◌, [], ◌∷◌, List, length, drop, filter, filter_map, is_some, All, zero, suc, ◌-◌, slice_index_or, length-drop, Option, Some, None, IsSome, Contains, refl, ap, sym, subst, ◌∙◌, arith}
use Rattle.std.proofs.lemmas.Bool.Decides.{nat_tests}
use Rattle.std.proofs.lemmas.List.Elements.{All-weaker, All-contains_itself}
use mathlib.Core.Path.{fun_ext}
use Rattle.page_state.specs.Blocks.{blocks_on, is_one_word}
use Rattle.descriptor.specs.declared.Prot.TheVariants.{RW}
use Rattle.descriptor.specs.declared.State.TheVariants.{Owned}
use Rattle.page_state.specs.Trees.{frames_from, root_tree, Block}
use Rattle.reference_model.specs.model.Boot.{carve_first, host_root, host_edit, host_need, hyp_root, hyp_edit, hyp_need, spare, boot_shared, booted, pool_row, IsCarveEnough}
use Rattle.page_state.specs.EntryTests.{annotation, leaf}
use Rattle.page_state.specs.declared.entry.Entry.{Entry}
use Rattle.page_state.specs.Laws.{BlocksMeet}
use Rattle.page_state.specs.Layouts.{Layout, hyp_page}
use Rattle.page_state.specs.Map.{empty_map, is_within}
use Rattle.reference_model.specs.declared.changes.Changes.{Changes}
use Rattle.reference_model.specs.model.Changes.{edit_of}
use Rattle.reference_model.specs.help.Conditions.{IsUsable}
use Rattle.reference_model.specs.claims.RunLaws.{EachBootRow}
use Rattle.reference_model.specs.model.State.{Shared, plain_row}
use Rattle.reference_model.specs.model.Step.{shared_need, shared_after}
use Rattle.page_state.specs.declared.layout.Config.{Config}
use Rattle.page_state.specs.declared.layout.Geometry.{Geometry}
use Rattle.page_state.specs.Regions.{Memory, end_of}
use Rattle.part_types.specs.MemoryRows.{HasMemoryRows}
use Rattle.part_types.specs.View.{rows_given}
use Rattle.owner_table.specs.Rows.{row_at}
use Rattle.page_state.specs.declared.entry.PageRange.{PageRange}
use Rattle.reference_model.specs.declared.changes.MapChange.{MapChange}
use Rattle.run_list.specs.declared.run.Run.{Run}
use Rattle.page_state.specs.Tables.{Edit, put, need, edited, returned, freed, edited_map, all_given}
use Rattle.std.specs.Prelude.{Result, Ok, Err, IsErrAnd, OnErr}
use Rattle.hyp_pool.specs.declared.PoolFault.{PoolFault}
use Rattle.hyp_pool.specs.declared.PoolFault.TheVariants as pools
use Rattle.world.specs.declared.boot.BootFault.{BootFault}
use Rattle.world.specs.declared.boot.BootFault.TheVariants.{NoMemory}
use Rattle.hypercalls.specs.Booted.{layout_for}
use Rattle.world.specs.Boots.{fault_of_pool, new_shared_of}
use Rattle.hyp_pool.proofs.Order.{length-frames_from}
use Rattle.page_state.specs.Geometries.{levels_below}
use Rattle.page_state.specs.declared.row.Row.{Row}

-- a test that no element passes
filter_none : {X : Type 0} (p : X → Bool) (xs : List X) → All (λ x. p x ≡ false) xs → filter p xs ≡ []
filter_none p [] h = refl
filter_none p (x ∷ xs) h =
    let here : p x ≡ false = h 0 x (omega arith) in
    rw here (filter_none p xs (λ k d less. h (suc k) d (omega (arith, less))))

-- a new tree has no table below its root
not_root : (l : Layout) (root : ℕ) (b : Block) → b.0 ≤ l.depth → (root_tree l.depth root).table b ≡ None
not_root l root b h = let e : (b.0 == l.depth + 1) ≡ false = grind (arith, nat_tests) in rw e refl

module _ (meet : BlocksMeet) where
  low_blocks : (top first count : ℕ) → 0 < count → All (λ b. b.0 ≤ top) (blocks_on top first count)
  low_blocks top first count some =
      All-weaker (Contains (blocks_on top first count)) (λ b. b.0 ≤ top) (λ b h. ((meet top first count b some).0 h).1)
      (blocks_on top first count) (All-contains_itself (blocks_on top first count))

  -- a change of a new tree gives no frame back
  pub none_back : (l : Layout) (root first count : ℕ) (e : Entry)
      → 0 < count
      → returned l.depth (root_tree l.depth root) (put first count e) ≡ []
  unfolding returned freed
  none_back l root first count e some =
      let goes : Block → Bool =
      λ b. elim (is_some ((root_tree l.depth root).table b))
      [ true ↦ is_one_word (edited_map empty_map (put first count e)) b | false ↦ false ] in
      let bs = blocks_on l.depth first count in
      ap (filter_map (root_tree l.depth root).table)
      (filter_none goes bs
      (All-weaker (λ b. b.0 ≤ l.depth) (λ b. goes b ≡ false) (λ b h. rw (not_root l root b h) refl) bs
      (low_blocks l.depth first count some)))

-- the two lowest frames are those of the roots
pub two_taken : (first n a b : ℕ) (once twice : List ℕ)
    → 2 ≤ n
    → frames_from first n ≡ a ∷ once
    → once ≡ b ∷ twice
    → (a ≡ first) × (b ≡ first + 1) × (twice ≡ drop 2 (frames_from first n))
two_taken first zero a b once twice h p q = absurd (omega (arith, h))
two_taken first (suc zero) a b once twice h p q = absurd (omega (arith, h))
two_taken first (suc (suc n)) a b once twice h p q =
    let rest : once ≡ (first + 1) ∷ frames_from (first + 1 + 1) n = sym (ap (drop 1) p) in
    let again = sym q ∙ rest in
    (sym (ap (λ xs. slice_index_or xs 0 0) p), ap (λ xs. slice_index_or xs 0 0) again, ap (drop 1) again)

-- the Shared part after the changes of boot
module _ (meet : BlocksMeet) (m : Memory) (c : Config) (g : Geometry) (h : Changes)
    (host_is : edit_of h.host ≡ host_edit (layout_for m c g))
    (hyp_is : edit_of h.hyp ≡ hyp_edit (layout_for m c g)) where
  abbrev l : Layout
  l = layout_for m c g

  pub need_is : shared_need (levels_below g) h (new_shared_of m g) ≡ host_need l + hyp_need l
  need_is =
      ap (λ e. need l.depth (host_root l) e + need l.depth (hyp_root l) (edit_of h.hyp)) host_is
      ∙ ap (λ e. host_need l + need l.depth (hyp_root l) e) hyp_is

  -- the pool has a frame for each table
  pub enough : IsCarveEnough l → shared_need (levels_below g) h (new_shared_of m g) ≤ length (new_shared_of m g).free
  enough k =
      let n : length (spare l) ≡ m.carve.count - 2 =
      length-drop 2 (frames_from (carve_first l) m.carve.count)
      ∙ ap (λ x. x - 2) (length-frames_from (carve_first l) m.carve.count) in
      omega (arith, k, n, need_is)

  -- the same of what is one
  pub enough_at : (d : ℕ) (x : Shared)
      → d ≡ levels_below g
      → x ≡ new_shared_of m g
      → IsCarveEnough l
      → shared_need d h x ≤ length x.free
  enough_at d x a b k = let n = enough k in
      subst (λ (y : Shared). shared_need d h y ≤ length y.free) (sym b)
      (subst (λ e. shared_need e h (new_shared_of m g) ≤ length (new_shared_of m g).free) (sym a) n)

  pub after_is : 0 < m.carve.count → shared_after (levels_below g) h (new_shared_of m g) ≡ boot_shared l
  unfolding shared_after
  after_is some =
      let d = l.depth in
      let host_back : returned d (host_root l) (host_edit l) ≡ [] =
      none_back meet l (carve_first l) (carve_first l) m.carve.count (annotation 1) some in
      let hyp_back : returned d (hyp_root l) (hyp_edit l) ≡ [] =
      none_back meet l (carve_first l + 1) (hyp_page (carve_first l)) m.carve.count
      (leaf RW (carve_first l) Owned) some in
      ap (λ e. after_by e (edit_of h.hyp)) host_is ∙ ap (after_by (host_edit l)) hyp_is
      ∙ ap
      (λ bs. pooled
      (all_given (bs ++ returned d (hyp_root l) (hyp_edit l))
      (drop (host_need l + hyp_need l) (spare l)))) host_back
      ∙ ap (λ bs. pooled (all_given bs (drop (host_need l + hyp_need l) (spare l)))) hyp_back
    where
      after_by : Edit → Edit → Shared
      after_by e f = record {
        host = edited l.depth (host_root l) e (spare l);
        hyp = edited l.depth (hyp_root l) f (drop (need l.depth (host_root l) e) (spare l));
        free =
            all_given (returned l.depth (host_root l) e ++ returned l.depth (hyp_root l) f)
            (drop (need l.depth (host_root l) e + need l.depth (hyp_root l) f) (spare l));
        row = λ x. plain_row;
      }

      pooled : List ℕ → Shared
      pooled free = record (boot_shared l) { free = free }

-- the rows of the carve-out are those of the boot state
pub rows_are : EachBootRow
    → (l : Layout)
    → IsCarveEnough l
    → IsUsable l
    → rows_given l.memory.carve pool_row (boot_shared l) ≡ (booted l).shared
unfolding booted
rows_are told l enough usable =
    ap (λ (r : ℕ → Row). record (boot_shared l) { row = r }) (fun_ext (λ f. sym (told l f enough usable)))

-- the changes of boot, by the carve-out
pub host_edit_is : (m : Memory) (c : Config) (g : Geometry) (r : PageRange) (h : MapChange)
    → r ≡ m.carve
    → h ≡ (record { range = r; entry = annotation 1 })
    → edit_of (Some h) ≡ host_edit (layout_for m c g)
host_edit_is m c g r h a b =
    ap (λ x. edit_of (Some x)) b ∙ ap (λ (x : PageRange). put x.first.0 x.count (annotation 1)) a

pub hyp_edit_is : (m : Memory) (c : Config) (g : Geometry) (r : PageRange) (h : MapChange)
    → r ≡ m.carve
    → h
    ≡ (record {
      range = record { first = record { 0 = hyp_page r.first.0 }; count = r.count };
      entry = leaf RW r.first.0 Owned;
    })
    → edit_of (Some h) ≡ hyp_edit (layout_for m c g)
hyp_edit_is m c g r h a b =
    ap (λ x. edit_of (Some x)) b ∙ ap (λ (x : PageRange). put (hyp_page x.first.0) x.count (leaf RW x.first.0 Owned)) a

has_some : {P : Type 0} (o : Option P) → is_some o ≡ true → IsSome o
has_some None h = cc
has_some (Some p) h = refl

-- the frames of the carve-out have a row
pub known_rows : (m : Memory) (c : Config) (g : Geometry) (r : PageRange) (rows : List (Run Row))
    → r ≡ m.carve
    → IsUsable (layout_for m c g)
    → HasMemoryRows m rows
    → (f : ℕ)
    → r.first.0 ≤ f
    → f < end_of r
    → IsSome (row_at rows f)
known_rows m c g r rows a usable has f low high =
    let first = ap (λ (x : PageRange). x.first.0) a in
    let count = ap (λ (x : PageRange). x.count) a in
    let lower : m.carve.first.0 ≤ f = omega (arith, first, low) in
    let upper : f < m.carve.first.0 + m.carve.count = omega (arith, first, count, high) in
    let inside : is_within m.carve.first.0 m.carve.count f ≡ true = grind (arith, nat_tests) in
    has_some (row_at rows f) (has f ∙ usable.carve f inside)

-- a fault that isn't want of frames is want of memory
pub told : {T : Type 0} (r : Result T BootFault) (f : PoolFault)
    → (f ≡ pools.NoPool → ⊥)
    → IsErrAnd r (λ b. b ≡ fault_of_pool f)
    → OnErr r (r ≡ Err NoMemory)
told r pools.NoPool h e = absurd (h refl)
told (Ok x) pools.NoMemory h e = _
told (Err b) pools.NoMemory h e = ap Err e
