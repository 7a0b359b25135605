-- What is in hand for a change of a guest's map.
use Rattle.std.proofs.Common.{◌≡◌, ℕ, ◌++◌, sym, ap, subst, ◌∙◌, arith, length, take, drop, take-append-drop, List, Option, Result, Ok, Err, IfOk, OnErr}
use Rattle.std.proofs.Math.Seq.{take-append_seam, drop-append_seam}
use Rattle.component.specs.declared.Plan.{Plan}
use Rattle.component.specs.View.{IsPlanFor, need_for, tree_after}
use Rattle.hyp_pool.specs.Pools.{StoredFrames, IsPool}
use Rattle.hyp_pool.proofs.Order.{given_back}
use Rattle.page_state.specs.Counts.{frame_count}
use Rattle.page_state.specs.Tables.{all_given}
use Rattle.page_state.specs.Trees.{Pool}
use Rattle.page_state.proofs.Counts.{count_parts}
use Rattle.reference_model.specs.declared.changes.MapChange.{MapChange}
use Rattle.table_tree.specs.Stocks.{frames_of}
use Rattle.table_tree.specs.View.{tree_of}
use Rattle.table_tree.specs.declared.tree.Tree.{Tree as TableTree}
use Rattle.table_tree.proofs.Same.{same_tree, same_uses, same_count}
use Rattle.walk_plan.specs.Hands.{IsLeft, IsTaken, Stays}
use Rattle.walk_plan.proofs.Given.{take_length, take_drop_length}
use Rattle.guest_component.specs.declared.body.Body.{Body}
use Rattle.guest_component.specs.Bodies.{body_of, phase_of}
use Rattle.guest_component.specs.InHand.{IsInHand, pool_with}
use Rattle.guest_component.specs.Own.{HoldsOwn}
use Rattle.guest_component.proofs.Guests.{guest_told, owned, same_parts}
use Rattle.guest_component.proofs.Same.{after_take, need_same}

-- frames that were taken come back to their places
pub comes_back : (fs p : Pool) (room : ℕ) → IsPool (record { frames = fs ++ p; room = room }) → all_given fs p ≡ fs ++ p
comes_back fs p room is =
    let back = given_back (length fs) (fs ++ p) is.rising in
    sym (ap (λ xs. all_given xs p) (take-append_seam fs p))
    ∙ sym (ap (all_given (take (length fs) (fs ++ p))) (drop-append_seam fs p)) ∙ back

module _ {A : Type 0} where
  -- the new tables get the frames in hand
  pub after_in_hand : (b : Body A) (p : Plan A) (c : Option MapChange)
      → IsInHand c b p
      → tree_after b.map.tree c (frames_of p.spare.stock)
      ≡ tree_after b.map.tree c (frames_of p.spare.stock ++ b.pool.frames)
  after_in_hand b p c h =
      let fs = frames_of p.spare.stock in
      sym
      (ap (tree_after b.map.tree c)
      (ap (λ n. take n (fs ++ b.pool.frames)) (sym h.just) ∙ take-append_seam fs b.pool.frames))
      ∙ after_take b.map.tree c (fs ++ b.pool.frames)

  -- and those behind them stay
  pub left_in_hand : (b : Body A) (p : Plan A) (c : Option MapChange)
      → IsInHand c b p
      → b.pool.frames ≡ drop (need_for b.map.tree c) (frames_of p.spare.stock ++ b.pool.frames)
  left_in_hand b p c h =
      let fs = frames_of p.spare.stock in
      sym (ap (λ n. drop n (fs ++ b.pool.frames)) (sym h.just) ∙ drop-append_seam fs b.pool.frames)

  -- a guest from which the lowest frames were taken
  module _ (b y : Body A) (c : Option MapChange) (n : ℕ) (need : n ≡ need_for b.map.tree c)
      (geometry : y.map.tree.geometry ≡ b.map.tree.geometry) (table : y.map.tree.table ≡ b.map.tree.table)
      (room : y.pool.room ≡ b.pool.room) where
    whole : (p : Plan A)
        → frames_of p.spare.stock ≡ take n b.pool.frames
        → y.pool.frames ≡ drop n b.pool.frames
        → frames_of p.spare.stock ++ y.pool.frames ≡ b.pool.frames
    whole p stock left =
        ap (λ fs. fs ++ y.pool.frames) stock ∙ ap (λ fs. take n b.pool.frames ++ fs) left
        ∙ take-append-drop n b.pool.frames

    pool_is : (p : Plan A) → frames_of p.spare.stock ++ y.pool.frames ≡ b.pool.frames → pool_with p y ≡ b.pool
    pool_is p e = ap (λ fs. pool fs y.pool.room) e ∙ ap (pool b.pool.frames) room
      where
        pool : Pool → ℕ → StoredFrames
        pool fs r = record { frames = fs; room = r }

    pub taken : (p : Plan A)
        → IsPool b.pool
        → IsPlanFor c y.map.maplets p
        → IsTaken n b.map.tree b.pool y.map.tree y.pool (frames_of p.spare.stock)
        → IsInHand c y p
    taken p is plan from =
        let all = pool_is p (whole p from.frames from.pool) in record {
          change = plan.change;
          just =
              ap length from.frames ∙ take_length n b.pool.frames from.enough ∙ need
              ∙ sym (need_same y.map.tree b.map.tree geometry table c);
          ready = plan.ready;
          own = owned y.map.tree b.map.tree (pool_with p y) b.pool geometry table all b.own;
          pool = subst IsPool (sym all) is;
        }

  -- and with them given back it is as it was
  pub told : (b : Body A) (u : TableTree A) (q : StoredFrames) (n : ℕ) (fs : List ℕ)
      → Stays b.map.tree u
      → IsTaken n b.map.tree b.pool u q fs
      → guest_told (phase_of b.phase) b.generation b.kind (tree_of u) (fs ++ q.frames) ≡ body_of b
  told b u q n fs stays from =
      same_parts (phase_of b.phase) b.generation b.kind (tree_of u) (tree_of b.map.tree) (fs ++ q.frames) b.pool.frames
      (same_tree u b.map.tree stays.geometry stays.table)
      (ap (λ gs. gs ++ q.frames) from.frames ∙ ap (λ gs. take n b.pool.frames ++ gs) from.pool
      ∙ take-append-drop n b.pool.frames)

  pub untaken : (b : Body A) (u : TableTree A) (q : StoredFrames)
      → Stays b.map.tree u
      → q ≡ b.pool
      → guest_told (phase_of b.phase) b.generation b.kind (tree_of u) q.frames ≡ body_of b
  untaken b u q stays pool =
      same_parts (phase_of b.phase) b.generation b.kind (tree_of u) (tree_of b.map.tree) q.frames b.pool.frames
      (same_tree u b.map.tree stays.geometry stays.table) (ap (λ (p : StoredFrames). p.frames) pool)

  -- what it holds then, whatever was answered
  pub owned_after : {E : Type 0} (b : Body A) (u : TableTree A) (q : StoredFrames) (n : ℕ) (r : Result (Plan A) E)
      → Stays b.map.tree u
      → q.room ≡ b.pool.room
      → IfOk r (λ p. IsTaken n b.map.tree b.pool u q (frames_of p.spare.stock))
      → OnErr r (IsLeft b.map.tree b.pool u q)
      → HoldsOwn u q
  owned_after b u q n (Err e) stays room from same =
      owned u b.map.tree q b.pool stays.geometry stays.table same.pool b.own
  owned_after b u q n (Ok x) stays room from same = (
    λ f. let e = ap (frame_count f) from.pool in
        omega (arith, e, count_parts f n b.pool.frames, same_uses u b.map.tree stays.geometry stays.table f, b.own.0 f),
    (
      let e = ap length from.pool in
          omega (arith, e, take_drop_length n b.pool.frames, same_count u b.map.tree stays.geometry stays.table, b.own.1.0),
      omega (arith, room, b.own.1.1),
    ),
  )
