use Rattle.std.proofs.Common.{◌≡◌, ℕ, List, [], Option, None, ap, sym, ◌∙◌, length, arith}
use Rattle.page_state.specs.Counts.{frame_count}
use Rattle.page_state.specs.Geometries.{levels_below}
use Rattle.page_state.specs.Tables.{all_given}
use Rattle.reference_model.specs.declared.changes.MapChange.{MapChange}
use Rattle.table_tree.specs.declared.tree.Tree.{Tree}
use Rattle.table_tree.specs.Meaning.{frame_of}
use Rattle.table_tree.specs.Stocks.{frames_of}
use Rattle.table_tree.specs.View.{tree_of}
use Rattle.table_tree.proofs.Same.{root_is, same_tree, same_uses, same_count}
use Rattle.table_tree.proofs.Sums.{tree_some}
use Rattle.component.specs.View.{need_for, tree_after, back_from}
use Rattle.walk_plan.proofs.Given.{none_left}
use Rattle.component.proofs.Keeps.{need_keep, edited_keep, returned_keep}
use Rattle.component.proofs.Component.commit.Goals as goal

-- what is in hand for no change is nothing
empty : {A : Type 0} (t : Tree A) (o : Option MapChange) (fs : List ℕ) → length fs ≡ need_for t o → o ≡ None → fs ≡ []
empty t o fs just is = none_left fs (just ∙ ap (need_for t) is ∙ need_keep (levels_below t.geometry) (tree_of t))

pub release-requires-clause-covered : goal.release-requires-clause-covered
release-requires-clause-covered g c = omega (arith, c.requires.apart.covered, tree_some c.args.self.now.tree)

pub returns-in-None : goal.returns-in-None
returns-in-None g c =
    let t = c.args.self.now.tree in
    let u = c.release.new.self.tree in
    let p = c.args.pool.now.frames in
    let fs = frames_of c.args.plan.spare.stock in
    let given = c.release.ensures.given in
    let none = empty t c.args.plan.change fs c.requires.just c.in-None.is in
    let back : back_from t c.args.plan.change ≡ [] =
    ap (back_from t) c.in-None.is ∙ returned_keep (levels_below t.geometry) (tree_of t) in
    let pool : c.release.new.pool.frames ≡ p = given.frames ∙ ap (λ gs. all_given gs p) none in
    record {
      tree =
          same_tree u t given.stays.geometry given.stays.table
          ∙ sym (ap (λ x. tree_after t x fs) c.in-None.is ∙ edited_keep (levels_below t.geometry) (tree_of t) fs);
      pool = pool ∙ sym (ap (λ gs. all_given gs p) back);
      spares = omega (arith, ap length none, ap length back, given.spares);
      keeps = record {
        geometry = given.stays.geometry;
        root = root_is t u (ap (λ x. frame_of x) given.stays.table);
        room = given.room;
        frames =
            λ f. omega (
              arith,
              ap (frame_count f) none,
              ap (frame_count f) pool,
              same_uses u t given.stays.geometry given.stays.table f,
            );
        tables = omega (arith, ap length none, ap length pool, same_count u t given.stays.geometry given.stays.table);
      };
    }
