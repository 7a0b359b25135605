-- What is in hand for changes of the Shared part's maps.
use Rattle.std.proofs.Common.{◌≡◌, ℕ, ◌+◌, ◌++◌, sym, ap, subst, ◌∙◌, arith, length, length-append, take, drop, take-append-drop, append_assoc, List, Option}
use Rattle.std.proofs.Math.Seq.{take-append_seam, drop-append_seam}
use Rattle.std.proofs.lemmas.List.Sums.{sum_by-append}
use Rattle.component.specs.View.{HasRoomFor, IsPlanFor, need_for, tree_after, back_from}
use Rattle.hyp_pool.specs.Pools.{StoredFrames, IsPool}
use Rattle.hyp_pool.proofs.Counts.{given_append}
use Rattle.hyp_pool.proofs.Order.{given_back}
use Rattle.hyp_pool.proofs.Pools.{same_pool}
use Rattle.page_state.specs.Counts.{frame_count, is_one}
use Rattle.page_state.specs.Geometries.{levels_below}
use Rattle.page_state.specs.Tables.{all_given, returned}
use Rattle.page_state.specs.Trees.{Pool}
use Rattle.page_state.proofs.Counts.{count_parts}
use Rattle.reference_model.specs.declared.changes.Changes.{Changes}
use Rattle.reference_model.specs.declared.changes.MapChange.{MapChange}
use Rattle.reference_model.specs.model.Changes.{edit_of}
use Rattle.reference_model.specs.model.State.{Shared}
use Rattle.reference_model.specs.model.Step.{shared_after}
use Rattle.table_tree.specs.declared.tree.Tree.{Tree as TableTree}
use Rattle.table_tree.specs.Stocks.{frames_of}
use Rattle.table_tree.specs.View.{tree_of}
use Rattle.table_tree.proofs.Same.{same_uses, same_count}
use Rattle.walk_plan.specs.Hands.{IsTaken, Stays}
use Rattle.walk_plan.proofs.Given.{take_drop_length, take_length}
use Rattle.guest_component.proofs.Same.{after_take, need_same}
use Rattle.part_types.specs.declared.parts.SharedPart.{SharedPart}
use Rattle.part_types.specs.declared.shared.SharedNeed.{SharedNeed}
use Rattle.part_types.specs.declared.shared.SharedPlan.{SharedPlan}
use Rattle.part_types.specs.Apart.{IsApart}
use Rattle.part_types.specs.Planned.{IsNeedOf, IsPlanOf, PlansBoth, in_hand, planned, pool_with, shared_with}
use Rattle.part_types.specs.View.{shared_of, depth_of}
use Rattle.part_types.proofs.Shares.{row_of, same_shared, shared}

pub counted : (f : ℕ) (xs ys : List ℕ) → frame_count f (xs ++ ys) ≡ frame_count f xs + frame_count f ys
counted f xs ys = sum_by-append (λ g. is_one g f) xs ys

-- frames that were taken come back to their places, though in two parts
pub comes_back : (fs gs p : Pool) (room : ℕ)
    → IsPool (record { frames = (fs ++ gs) ++ p; room = room })
    → all_given fs (all_given gs p) ≡ (fs ++ gs) ++ p
comes_back fs gs p room is =
    let all = fs ++ gs in
    sym (given_append fs gs p) ∙ sym (ap (λ xs. all_given xs p) (take-append_seam all p))
    ∙ sym (ap (all_given (take (length all) (all ++ p))) (drop-append_seam all p))
    ∙ given_back (length all) (all ++ p) is.rising

-- trees that are the same but for spares, with the same frames in the pool
pub apart_same : {A : Type 0} (host hyp host' hyp' : TableTree A) (p q : StoredFrames)
    → host'.geometry ≡ host.geometry
    → host'.table ≡ host.table
    → hyp'.geometry ≡ hyp.geometry
    → hyp'.table ≡ hyp.table
    → q ≡ p
    → IsApart host hyp p
    → IsApart host' hyp' q
apart_same host hyp host' hyp' p q a b c d e h =
    let there : IsApart host' hyp' p = (
      λ f. omega (arith, h.0 f, same_uses host' host a b f, same_uses hyp' hyp c d f),
      omega (arith, h.1, same_count host' host a b, same_count hyp' hyp c d),
    ) in
    subst (IsApart host' hyp') (sym e) there

-- the lowest frames of a pool, in two parts, and the others
parted : (n m : ℕ) (fs : Pool) → (take n fs ++ take m (drop n fs)) ++ drop m (drop n fs) ≡ fs
parted n m fs =
    append_assoc (take n fs) (take m (drop n fs)) (drop m (drop n fs))
    ∙ ap (λ xs. take n fs ++ xs) (take-append-drop m (drop n fs)) ∙ take-append-drop n fs

-- a part from which the lowest frames were taken: first for the host, from its pool, and then for the hypervisor, from
-- what was left
module _ {A : Type 0} (s : SharedPart A) (k : SharedNeed) (host hyp : TableTree A) (left pool : StoredFrames)
    (p : SharedPlan A) (a : IsTaken k.host s.host.tree s.pool host left (frames_of p.host.spare.stock))
    (b : IsTaken k.hyp s.hyp.tree left hyp pool (frames_of p.hyp.spare.stock))
    (stays : Stays s.host.tree host) (hyp_stays : Stays s.hyp.tree hyp) (room : pool.room ≡ s.pool.room) where
  hyp_frames : frames_of p.hyp.spare.stock ≡ take k.hyp (drop k.host s.pool.frames)
  hyp_frames = b.frames ∙ ap (take k.hyp) a.pool

  rest : pool.frames ≡ drop k.hyp (drop k.host s.pool.frames)
  rest = b.pool ∙ ap (drop k.hyp) a.pool

  whole : in_hand p ++ pool.frames ≡ s.pool.frames
  whole =
      ap (λ xs. (xs ++ frames_of p.hyp.spare.stock) ++ pool.frames) a.frames
      ∙ ap (λ xs. (take k.host s.pool.frames ++ xs) ++ pool.frames) hyp_frames
      ∙ ap (λ xs. (take k.host s.pool.frames ++ take k.hyp (drop k.host s.pool.frames)) ++ xs) rest
      ∙ parted k.host k.hyp s.pool.frames

  pub apart_after : IsApart host hyp pool
  apart_after = (
    λ f. omega (
      arith,
      ap (frame_count f) rest,
      count_parts f k.host s.pool.frames,
      count_parts f k.hyp (drop k.host s.pool.frames),
      same_uses host s.host.tree stays.geometry stays.table f,
      same_uses hyp s.hyp.tree hyp_stays.geometry hyp_stays.table f,
      s.apart.0 f,
    ),
    omega (
      arith,
      ap length rest,
      room,
      take_drop_length k.host s.pool.frames,
      take_drop_length k.hyp (drop k.host s.pool.frames),
      same_count host s.host.tree stays.geometry stays.table,
      same_count hyp s.hyp.tree hyp_stays.geometry hyp_stays.table,
      s.apart.1,
    ),
  )

  pub told : shared (row_of s) (tree_of host) (tree_of hyp) (in_hand p ++ pool.frames) ≡ shared_of s
  told = same_shared s host hyp (in_hand p ++ pool.frames) stays hyp_stays whole

  pub taken : (h : Changes) (y : SharedPart A)
      → y.host.tree ≡ host
      → y.hyp.tree ≡ hyp
      → y.pool ≡ pool
      → IsPool s.pool
      → IsNeedOf s h k
      → IsPlanFor h.host y.host.maplets p.host
      → IsPlanFor h.hyp y.hyp.maplets p.hyp
      → IsPlanOf y p
  taken h y yh yy yp is need plan hyp_plan =
      let all : pool_with p y ≡ s.pool =
      same_pool (pool_with p y) s.pool (ap (λ (q : StoredFrames). in_hand p ++ q.frames) yp ∙ whole)
      (ap (λ (q : StoredFrames). q.room) yp ∙ room) in
      record {
        host =
            ap length a.frames ∙ take_length k.host s.pool.frames a.enough ∙ need.host
            ∙ sym
            (ap (λ t. need_for t p.host.change) yh ∙ ap (need_for host) plan.change
            ∙ need_same host s.host.tree stays.geometry stays.table h.host);
        hyp =
            ap length b.frames ∙ take_length k.hyp left.frames b.enough ∙ need.hyp
            ∙ sym
            (ap (λ t. need_for t p.hyp.change) yy ∙ ap (need_for hyp) hyp_plan.change
            ∙ need_same hyp s.hyp.tree hyp_stays.geometry hyp_stays.table h.hyp);
        host_ready = subst (λ c. HasRoomFor c y.host.maplets) (sym plan.change) plan.ready;
        hyp_ready = subst (λ c. HasRoomFor c y.hyp.maplets) (sym hyp_plan.change) hyp_plan.ready;
        apart =
            subst (λ t. IsApart t y.hyp.tree (pool_with p y)) (sym yh)
            (subst (λ t. IsApart host t (pool_with p y)) (sym yy)
            (apart_same s.host.tree s.hyp.tree host hyp s.pool
            (pool_with p y) stays.geometry stays.table hyp_stays.geometry hyp_stays.table all s.apart));
        pool = subst IsPool (sym all) is;
      }

-- frames that were taken for the host come back
pub came_back : {A : Type 0} (n : ℕ) (t u v : TableTree A) (p left q : StoredFrames) (fs : List ℕ)
    → IsPool p
    → IsTaken n t p u left fs
    → left.room ≡ p.room
    → q.frames ≡ all_given fs left.frames
    → q.room ≡ left.room
    → q ≡ p
came_back n t u v p left q fs is taken room frames kept =
    same_pool q p
    (frames ∙ ap (λ gs. all_given gs left.frames) taken.frames ∙ ap (all_given (take n p.frames)) taken.pool
    ∙ given_back n p.frames is.rising)
    (kept ∙ room)

module _ {A : Type 0} (s : SharedPart A) (p : SharedPlan A) (is : IsPlanOf s p) where
  -- the frames in hand are those that the new tables get
  pub host_after : tree_after s.host.tree p.host.change (frames_of p.host.spare.stock)
      ≡ tree_after s.host.tree p.host.change (in_hand p ++ s.pool.frames)
  host_after =
      let a = frames_of p.host.spare.stock in
      let b = frames_of p.hyp.spare.stock in
      let all = in_hand p ++ s.pool.frames in
      sym
      (ap (tree_after s.host.tree p.host.change)
      (ap (λ n. take n all) (sym is.host) ∙ ap (take (length a)) (append_assoc a b s.pool.frames)
      ∙ take-append_seam a (b ++ s.pool.frames)))
      ∙ after_take s.host.tree p.host.change all

  behind_host : drop (need_for s.host.tree p.host.change) (in_hand p ++ s.pool.frames)
      ≡ frames_of p.hyp.spare.stock ++ s.pool.frames
  behind_host =
      let a = frames_of p.host.spare.stock in
      let b = frames_of p.hyp.spare.stock in
      ap (λ n. drop n (in_hand p ++ s.pool.frames)) (sym is.host)
      ∙ ap (drop (length a)) (append_assoc a b s.pool.frames) ∙ drop-append_seam a (b ++ s.pool.frames)

  pub hyp_after : tree_after s.hyp.tree p.hyp.change (frames_of p.hyp.spare.stock)
      ≡ tree_after s.hyp.tree p.hyp.change (drop (need_for s.host.tree p.host.change) (in_hand p ++ s.pool.frames))
  hyp_after =
      let b = frames_of p.hyp.spare.stock in
      let all = b ++ s.pool.frames in
      sym
      (ap (tree_after s.hyp.tree p.hyp.change)
      (ap (λ n. take n all) (sym is.hyp) ∙ take-append_seam b s.pool.frames))
      ∙ after_take s.hyp.tree p.hyp.change all ∙ ap (tree_after s.hyp.tree p.hyp.change) (sym behind_host)

  pub left_after : s.pool.frames
      ≡ drop (need_for s.host.tree p.host.change + need_for s.hyp.tree p.hyp.change) (in_hand p ++ s.pool.frames)
  left_after =
      let all = in_hand p in
      let many : length all ≡ need_for s.host.tree p.host.change + need_for s.hyp.tree p.hyp.change =
      omega (arith, length-append (frames_of p.host.spare.stock) (frames_of p.hyp.spare.stock), is.host, is.hyp) in
      sym (drop-append_seam all s.pool.frames) ∙ ap (λ n. drop n (all ++ s.pool.frames)) many

-- only the maps' changes matter to the Shared part
pub after_planned : {A : Type 0} (d : ℕ) (h : Changes) (p : SharedPlan A) (x : Shared)
    → PlansBoth h p
    → shared_after d (planned p) x ≡ shared_after d h x
unfolding shared_after
after_planned d h p x is =
    ap (λ (a : Option MapChange). shared_after d (record (planned p) { host = a }) x) is.host
    ∙ ap (λ (b : Option MapChange). shared_after d (record (planned p) { host = h.host; hyp = b }) x) is.hyp

-- the frames that come back are those that came back before plans were made
module _ {A : Type 0} (s r : SharedPart A) (p : SharedPlan A) (h : Changes) (depth : depth_of r ≡ depth_of s)
    (both : PlansBoth h p) (whole : shared_with p r ≡ shared_of s) where
  pub host_back : back_from r.host.tree p.host.change ≡ back_from s.host.tree h.host
  host_back =
      ap (back_from r.host.tree) both.host ∙ ap (λ d. returned d (tree_of r.host.tree) (edit_of h.host)) depth
      ∙ ap (λ (x : Shared). returned (depth_of s) x.host (edit_of h.host)) whole

  pub hyp_back : back_from r.hyp.tree p.hyp.change ≡ back_from s.hyp.tree h.hyp
  hyp_back =
      ap (back_from r.hyp.tree) both.hyp
      ∙ ap (λ d. returned d (tree_of r.hyp.tree) (edit_of h.hyp)) (r.alike ∙ depth ∙ sym s.alike)
      ∙ ap (λ (x : Shared). returned (levels_below s.hyp.tree.geometry) x.hyp (edit_of h.hyp)) whole
