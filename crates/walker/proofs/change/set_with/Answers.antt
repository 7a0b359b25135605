use Rattle.std.proofs.Common.{◌≡◌, ℕ, ◌+◌, ◌*◌, refl, ap, arith, ◌∙◌, length, length-drop}
use Rattle.page_state.specs.declared.entry.Entry.{Entry}
use Rattle.page_state.specs.declared.entry.PageRange.{PageRange}
use Rattle.page_state.specs.Geometries.{levels_below}
use Rattle.page_state.specs.Tables.{put, returned, edited, all_given}
use Rattle.page_state.specs.Counts.{frame_count}
use Rattle.table_tree.specs.Meaning.{frame_of}
use Rattle.table_tree.specs.Reading.{count_of}
use Rattle.table_tree.specs.Stocks.{frames_of}
use Rattle.table_tree.specs.View.{tree_of, uses, tables_of}
use Rattle.table_tree.specs.declared.tree.Tree.{Tree}
use Rattle.table_tree.proofs.Same.{root_is, same_tree, same_uses, same_count, same_spares}
use Rattle.table_tree.proofs.Sums.{tree_some}
use Rattle.walk_plan.specs.declared.change.Change.{Change}
use Rattle.walk_plan.specs.inner.Needs.{table_need}
use Rattle.walk_plan.proofs.Given.{none_left}
use Rattle.walk_plan.proofs.Looks.{edges_most}
use Rattle.walk_plan.proofs.Needed.{need_walked}
use Rattle.walk_plan.proofs.OfTree.{low_depth}
use Rattle.walker.specs.inner.Walks.{IsTableChanged}
use Rattle.walker.proofs.Changed.{after, still_distinct, edited_tree, moved, counted, came_back}
use Rattle.walker.proofs.change.set_with.Goals.{After-set_all}
use Rattle.walker.proofs.change.set_with.Goals as goal

-- the change that is made
abbrev change : PageRange → Entry → Change
change r e = record { first = r.first.0; end = r.first.0 + r.count; entry = e }

-- what the change made of the root table
grown : (g : _) (c : After-set_all g)
    → IsTableChanged (levels_below c.args.tree.now.geometry) c.args.tree.now.table c.set_all.new.table
    (change c.args.range c.args.entry) (frames_of c.args.spare.stock) (frames_of c.set_all.new.walk.spare)
grown g c =
    let e : c.depth-depth.result ≡ levels_below c.args.tree.now.geometry =
    c.depth-depth.ensures.value ∙ ap levels_below c.geometry.ensures in
    record {
      frame = c.set_all.ensures.changed.frame;
      shape = rw e at c.set_all.ensures.changed.shape;
      tight = rw e at c.set_all.ensures.changed.tight;
      map = rw e at c.set_all.ensures.changed.map;
      kept = rw e at c.set_all.ensures.changed.kept;
      spare = rw e at c.set_all.ensures.changed.spare;
      uses = rw e at c.set_all.ensures.changed.uses;
    }

-- the tree with that table
abbrev tree : (g : _) (c : After-set_all g) → Tree g.row.A.Denot
tree g c =
    after c.args.tree.now c.set_all.new.table (change c.args.range c.args.entry) (frames_of c.args.spare.stock)
    (frames_of c.set_all.new.walk.spare) c.args.pool.now.frames (grown g c) c.requires.apart.distinct

tree_edited : (g : _) (c : After-set_all g)
    → tree_of (tree g c)
    ≡ edited (levels_below c.args.tree.now.geometry) (tree_of c.args.tree.now)
    (put c.args.range.first.0 c.args.range.count c.args.entry) (frames_of c.args.spare.stock)
tree_edited g c =
    edited_tree c.args.tree.now (tree g c) c.args.range.first.0 c.args.range.count c.args.entry
    (change c.args.range c.args.entry) (frames_of c.args.spare.stock) (frames_of c.set_all.new.walk.spare)
    (omega (arith, c.requires.fits.some)) c.requires.fits.within refl refl refl refl c.requires.just (grown g c)

-- each frame is where it was, was moved, or went
tree_uses : (g : _) (c : After-set_all g) (f : ℕ)
    → uses (tree g c) f + frame_count f (frames_of c.set_all.new.walk.freed)
    ≡ uses c.args.tree.now f + frame_count f (frames_of c.args.spare.stock)
tree_uses g c f =
    let e : c.depth-depth.result ≡ levels_below c.args.tree.now.geometry =
    c.depth-depth.ensures.value ∙ ap levels_below c.geometry.ensures in
    let m =
    moved c.args.tree.now (tree g c) c.args.range.first.0 c.args.range.count c.args.entry
    (change c.args.range c.args.entry) (frames_of c.args.spare.stock) (frames_of c.set_all.new.walk.spare)
    (omega (arith, c.requires.fits.some)) c.requires.fits.within refl refl refl refl c.requires.just
    (grown g c) f in
    let none = ap (frame_count f) c.new-freed.ensures in
    let gone = rw e at (c.set_all.ensures.freed.frames f) in
    omega (arith, m, none, gone)

tree_tables : (g : _) (c : After-set_all g)
    → tables_of (tree g c) + length (frames_of c.set_all.new.walk.freed)
    ≡ tables_of c.args.tree.now + length (frames_of c.args.spare.stock)
tree_tables g c =
    let e : c.depth-depth.result ≡ levels_below c.args.tree.now.geometry =
    c.depth-depth.ensures.value ∙ ap levels_below c.geometry.ensures in
    let tables = rw e at c.set_all.ensures.freed.tables in
    let n =
    counted c.args.tree.now (tree g c) c.args.range.first.0 c.args.range.count c.args.entry
    (change c.args.range c.args.entry) (frames_of c.args.spare.stock) (frames_of c.set_all.new.walk.spare)
    (omega (arith, c.requires.fits.some)) c.requires.fits.within refl refl refl refl c.requires.just
    (grown g c) (length (frames_of c.new-freed.result))
    (length (frames_of c.set_all.new.walk.freed)) tables in
    let zero = ap length c.new-freed.ensures in
    omega (arith, n, zero)

-- the frames that went are those that come back
pool_back : (g : _) (c : After-set_all g)
    → all_given (frames_of c.set_all.new.walk.freed) c.args.pool.now.frames
    ≡ all_given
    (returned (levels_below c.args.tree.now.geometry) (tree_of c.args.tree.now)
    (put c.args.range.first.0 c.args.range.count c.args.entry)) c.args.pool.now.frames
pool_back g c =
    let e : c.depth-depth.result ≡ levels_below c.args.tree.now.geometry =
    c.depth-depth.ensures.value ∙ ap levels_below c.geometry.ensures in
    let none = λ (f : ℕ). ap (frame_count f) c.new-freed.ensures in
    let gone = λ (f : ℕ). (rw e at (c.set_all.ensures.freed.frames f)) in
    came_back c.args.tree.now (tree g c) c.args.range.first.0 c.args.range.count c.args.entry
    (change c.args.range c.args.entry) (frames_of c.args.spare.stock) (frames_of c.set_all.new.walk.spare)
    (omega (arith, c.requires.fits.some)) c.requires.fits.within refl refl refl refl c.requires.just
    (grown g c) c.given_in_any_order.ensures.counted
    (frames_of c.set_all.new.walk.freed) c.args.pool.now.frames (λ f. omega (arith, none f, gone f))

pub set_all-requires-clause-enough : goal.set_all-requires-clause-enough
set_all-requires-clause-enough g c =
    let e : c.depth-depth.result ≡ levels_below c.args.tree.now.geometry =
    c.depth-depth.ensures.value ∙ ap levels_below c.geometry.ensures in
    let n =
    need_walked c.args.tree.now c.args.range.first.0 c.args.range.count c.args.entry
    (change c.args.range c.args.entry)
    (omega (arith, c.requires.fits.some)) c.requires.fits.within refl refl refl in
    rw e (omega (arith, n, c.requires.just))

pub drain-requires-clause-distinct : goal.drain-requires-clause-distinct
drain-requires-clause-distinct g c f =
    let m = tree_uses g (goal.at.drain-requires-clause-distinct g c).After-set_all f in
    omega (arith, m, c.requires.apart.distinct f)

pub drain-requires-clause-covered : goal.drain-requires-clause-covered
drain-requires-clause-covered g c =
    let d = (goal.at.drain-requires-clause-covered g c).After-set_all in
    omega (arith, tree_tables g d, tree_some (tree g d), c.requires.apart.covered)

pub close-requires : goal.close-requires
close-requires g c =
    let t = c.args.tree.now in
    let fs = frames_of c.args.spare.stock in
    let e : c.depth-depth.result ≡ levels_below t.geometry =
    c.depth-depth.ensures.value ∙ ap levels_below c.geometry.ensures in
    let n =
    need_walked t c.args.range.first.0 c.args.range.count c.args.entry (change c.args.range c.args.entry)
    (omega (arith, c.requires.fits.some)) c.requires.fits.within refl refl refl in
    let left = ap length (rw e at c.set_all.ensures.changed.spare) in
    none_left (frames_of c.set_all.new.walk.spare)
    (omega (
      arith,
      left,
      length-drop (table_need (levels_below t.geometry) t.table (change c.args.range c.args.entry)) fs,
      n,
      c.requires.just,
    ))

pub returns-clause-edited : goal.returns-clause-edited
returns-clause-edited g c =
    let d = (goal.at.returns-clause-edited g c).After-set_all in
    let t = c.args.tree.now in
    let p = c.args.pool.now.frames in
    let fs = frames_of c.set_all.new.walk.freed in
    let stays = c.drain.ensures.stays in
    let back = pool_back g d in
    record {
      tree = same_tree _ (tree g d) stays.geometry stays.table ∙ tree_edited g d;
      pool = c.drain.ensures.frames ∙ back;
      spares =
          c.drain.ensures.spares ∙ ap (λ n. n + length fs) (same_spares _ t refl)
          ∙ omega (
            arith,
            ap length back,
            c.given_many.ensures.length fs p,
            c.given_many.ensures.length
                (returned (levels_below t.geometry) (tree_of t)
                (put c.args.range.first.0 c.args.range.count c.args.entry)) p,
          );
      keeps = record {
        geometry = stays.geometry;
        root = root_is t _ (ap (λ x. frame_of x) stays.table ∙ c.set_all.ensures.changed.frame);
        room = c.drain.ensures.room;
        frames = λ f.
            let m = tree_uses g d f in
            let q = ap (frame_count f) c.drain.ensures.frames ∙ c.given_many.ensures.count f fs p in
            ap (λ n. n + frame_count f c.drain.new.pool.frames) (same_uses _ (tree g d) stays.geometry stays.table f)
            ∙ omega (arith, m, q);
        tables =
            let n = tree_tables g d in
            let q = ap length c.drain.ensures.frames ∙ c.given_many.ensures.length fs p in
            ap (λ n. n + length c.drain.new.pool.frames) (same_count _ (tree g d) stays.geometry stays.table)
            ∙ omega (arith, n, q);
      };
    }

pub returns-clause-reads : goal.returns-clause-reads
returns-clause-reads g c =
    let t = c.args.tree.now in
    let e : c.depth-depth.result ≡ levels_below t.geometry =
    c.depth-depth.ensures.value ∙ ap levels_below c.geometry.ensures in
    let l = low_depth t.geometry in
    let m = edges_most (1028 * c.depth-depth.result) (c.depth-depth.result + 1) (change c.args.range c.args.entry) in
    omega (arith, c.set_all.ensures.reads, m, e, l, ap count_of c.replace.ensures.value)

pub invariant_of-tree-clause-distinct : goal.invariant_of-tree-clause-distinct
invariant_of-tree-clause-distinct g c =
    still_distinct c.args.tree.now c.set_all.new.table (change c.args.range c.args.entry)
    (frames_of c.args.spare.stock) (frames_of c.set_all.new.walk.spare) c.args.pool.now.frames
    (grown g (goal.at.invariant_of-tree-clause-distinct g c).After-set_all) c.requires.apart.distinct
