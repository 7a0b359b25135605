use Rattle.std.proofs.Common.{◌≡◌, Result, Ok, Err, ap, arith, sym, ◌∙◌, length}
use Rattle.std.specs.Result.{IsErrAnd}
use Rattle.hyp_pool.specs.declared.PoolFault.{PoolFault}
use Rattle.page_state.specs.Counts.{frame_count}
use Rattle.page_state.specs.Geometries.{levels_below}
use Rattle.page_state.specs.Tables.{need, edited, returned, all_given}
use Rattle.page_state.proofs.Counts.{count_parts}
use Rattle.page_state.proofs.Edits.{edited_take}
use Rattle.table_tree.specs.Meaning.{frame_of}
use Rattle.table_tree.specs.Stocks.{frames_of}
use Rattle.table_tree.specs.View.{tree_of}
use Rattle.table_tree.proofs.Same.{root_is, same_uses, same_count, by_views}
use Rattle.walk_plan.specs.Hands.{edit_on, need_in, after_in, back_in}
use Rattle.walk_plan.proofs.Coarse.{tree_canonical, need_by_map}
use Rattle.walk_plan.proofs.Given.{take_drop_length, take_length}
use Rattle.walker.proofs.change.set.Goals as goal

err_is : {X E : Type 0} {a b : E} → ◌≡◌ {A = Result X E} (Err a) (Err b) → a ≡ b
err_is h = cc

never : {X E : Type 0} {x : X} {e : E} → ◌≡◌ {A = Result X E} (Ok x) (Err e) → ⊥
never h = cc

-- a fault that is passed on is the one that there was
same_fault : {X : Type 0} (r : Result X PoolFault) (f x : PoolFault) → IsErrAnd r (λ g. g ≡ f) → r ≡ Err x → f ≡ x
same_fault (Ok y) f x h e = absurd h
same_fault (Err g) f x h e = sym h ∙ err_is e

passed_on : {X : Type 0} (r : Result X PoolFault) (f x : PoolFault) → IsErrAnd r (λ g. g ≡ f) → f ≡ x → r ≡ Err x
passed_on (Ok y) f x h e = absurd h
passed_on (Err g) f x h e = ap Err (h ∙ e)

pub set_with-requires-clause-just : goal.set_with-requires-clause-just
set_with-requires-clause-just g c =
    let t = c.args.tree.now in
    let e = edit_on c.args.range c.args.entry in
    let taken = c.in_ok-spare.ensures.taken in
    let stays = c.reserve.ensures.stays in
    ap length taken.frames ∙ take_length (need_in t e) c.args.pool.now.frames taken.enough
    ∙ sym (by_views c.reserve.new.tree t stays.geometry stays.table (λ x y. need (levels_below x) y e))

pub set_with-requires-clause-apart : goal.set_with-requires-clause-apart
set_with-requires-clause-apart g c =
    let p = c.args.pool.now.frames in
    let n = need_in c.args.tree.now (edit_on c.args.range c.args.entry) in
    let taken = c.in_ok-spare.ensures.taken in
    let stays = c.reserve.ensures.stays in
    record {
      distinct =
          λ f. omega (
            arith,
            ap (frame_count f) taken.frames,
            ap (frame_count f) taken.pool,
            count_parts f n p,
            c.requires.apart.distinct f,
            same_uses c.reserve.new.tree c.args.tree.now stays.geometry stays.table f,
          );
      covered =
          omega (
            arith,
            ap length taken.frames,
            ap length taken.pool,
            take_drop_length n p,
            c.requires.apart.covered,
            c.reserve.ensures.room,
            same_count c.reserve.new.tree c.args.tree.now stays.geometry stays.table,
          );
    }

pub returns-clause-changed : goal.returns-clause-changed
returns-clause-changed g c =
    let t = c.args.tree.now in
    let u = c.reserve.new.tree in
    let p = c.args.pool.now.frames in
    let e = edit_on c.args.range c.args.entry in
    let taken = c.in_ok-spare.ensures.taken in
    let stays = c.reserve.ensures.stays in
    let made = c.set_with.ensures.edited in
    let back = by_views u t stays.geometry stays.table (λ x y. returned (levels_below x) y e) in
    record {
      enough = taken.enough;
      tree =
          made.tree
          ∙ by_views u t stays.geometry stays.table
          (λ x y. edited (levels_below x) y e (frames_of c.in_ok-spare.spare.stock))
          ∙ ap (after_in t e) taken.frames ∙ edited_take (levels_below t.geometry) (tree_of t) e p;
      pool =
          made.pool ∙ ap (λ fs. all_given fs c.reserve.new.pool.frames) back ∙ ap (all_given (back_in t e)) taken.pool;
      spares = omega (arith, made.spares, taken.spares, ap length back);
    }

pub returns-clause-keeps : goal.returns-clause-keeps
returns-clause-keeps g c =
    let t = c.args.tree.now in
    let p = c.args.pool.now.frames in
    let n = need_in t (edit_on c.args.range c.args.entry) in
    let taken = c.in_ok-spare.ensures.taken in
    let stays = c.reserve.ensures.stays in
    let kept = c.set_with.ensures.edited.keeps in
    record {
      geometry = kept.geometry ∙ stays.geometry;
      root = kept.root ∙ root_is t c.reserve.new.tree (ap (λ x. frame_of x) stays.table);
      room = kept.room ∙ c.reserve.ensures.room;
      frames =
          λ f. kept.frames f
          ∙ omega (
            arith,
            ap (frame_count f) taken.frames,
            ap (frame_count f) taken.pool,
            count_parts f n p,
            same_uses c.reserve.new.tree t stays.geometry stays.table f,
          );
      tables =
          omega (
            arith,
            kept.tables,
            ap length taken.frames,
            ap length taken.pool,
            take_drop_length n p,
            same_count c.reserve.new.tree t stays.geometry stays.table,
          );
    }

pub returns-clause-canonical : goal.returns-clause-canonical
returns-clause-canonical g c = tree_canonical c.set_with.new.tree

pub returns-clause-by_map : goal.returns-clause-by_map
returns-clause-by_map g c =
    let same =
    need_by_map c.args.tree.now c.args.range.first.0 c.args.range.count c.args.entry c.requires.fits.within in
    (λ e. absurd (never e), λ few. absurd (omega (arith, same, few, c.in_ok-spare.ensures.taken.enough)))

pub returns-in_err-spare-clause-keeps : goal.returns-in_err-spare-clause-keeps
returns-in_err-spare-clause-keeps g c =
    let t = c.args.tree.now in
    let stays = c.reserve.ensures.stays in
    let same = c.in_err-spare.ensures.refused.left.pool in
    record {
      geometry = stays.geometry;
      root = root_is t c.reserve.new.tree (ap (λ x. frame_of x) stays.table);
      room = c.reserve.ensures.room;
      frames =
          λ f. omega (
            arith,
            ap (λ q. frame_count f q.frames) same,
            same_uses c.reserve.new.tree t stays.geometry stays.table f,
          );
      tables =
          omega (arith, ap (λ q. length q.frames) same, same_count c.reserve.new.tree t stays.geometry stays.table);
    }

pub returns-in_err-spare-clause-canonical : goal.returns-in_err-spare-clause-canonical
returns-in_err-spare-clause-canonical g c = tree_canonical c.reserve.new.tree

pub returns-in_err-spare-clause-by_map : goal.returns-in_err-spare-clause-by_map
returns-in_err-spare-clause-by_map g c =
    let same =
    need_by_map c.args.tree.now c.args.range.first.0 c.args.range.count c.args.entry c.requires.fits.within in
    let f = c.in_err-spare.field-0.0 in
    let short = c.in_err-spare.ensures.refused.no_pool in (
      λ e. omega (arith, same, short.0 (same_fault c.from_residual.result f _ c.from_residual.ensures.1 e)),
      λ few. passed_on c.from_residual.result f _ c.from_residual.ensures.1 (short.1 (omega (arith, same, few))),
    )
