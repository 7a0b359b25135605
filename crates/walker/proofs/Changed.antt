-- A tree whose root table was changed is the edited tree.
use Rattle.std.proofs.Common.{◌≡◌, ℕ, ◌+◌, ◌<◌, ◌≤◌, sym, ap, arith, ◌∙◌, List, length, take}
use Rattle.std.proofs.lemmas.List.{take_all}
use Rattle.std.proofs.lemmas.List.Sums.{sum_by-take-le}
use Rattle.page_state.specs.declared.entry.Entry.{Entry}
use Rattle.page_state.specs.Trees.{Pool}
use Rattle.page_state.specs.Tables.{put, need, returned, edited, all_given}
use Rattle.page_state.specs.Geometries.{levels_below, input_pages}
use Rattle.page_state.specs.Counts.{is_one, frame_count}
use Rattle.hyp_pool.specs.Laws.{GivenCounted}
use Rattle.table_tree.specs.declared.table.Table.{Table}
use Rattle.table_tree.specs.declared.tree.Tree.{Tree}
use Rattle.table_tree.specs.Tables.{tables_in, uses_in, AreDistinct}
use Rattle.table_tree.specs.View.{tree_of, uses, tables_of}
use Rattle.table_tree.proofs.Same.{uses_are, tables_are}
use Rattle.walk_plan.specs.declared.change.Change.{Change}
use Rattle.walk_plan.specs.inner.Needs.{table_need}
use Rattle.walk_plan.specs.inner.Ranks.{table_gone}
use Rattle.walk_plan.proofs.Needed.{need_walked}
use Rattle.walk_plan.proofs.Edited.{IsWalked, tree_edited}
use Rattle.walk_plan.proofs.Gone.{gone_returned}
use Rattle.table_tree.proofs.OneWord.{one_word_gone}
use Rattle.walker.specs.inner.Walks.{IsTableChanged}

module _ {A : Type 0} where
  -- tables that a change makes have frames of their own
  pub still_distinct : (t : Tree A) (b : Table A) (c : Change) (fs rest : List ℕ) (free : Pool)
      → IsTableChanged (levels_below t.geometry) t.table b c fs rest
      → ((f : ℕ) → uses t f + frame_count f fs + frame_count f free ≤ 1)
      → AreDistinct (levels_below t.geometry) b
  still_distinct t b c fs rest free grown apart f =
      omega (
        arith,
        grown.uses f,
        uses_are t f,
        apart f,
        sum_by-take-le (λ g. is_one g f) fs (table_need (levels_below t.geometry) t.table c),
      )

  -- the tree with the root table that a change makes
  abbrev pub after : (t : Tree A) (b : Table A) (c : Change) (fs rest : List ℕ) (free : Pool)
      → IsTableChanged (levels_below t.geometry) t.table b c fs rest
      → ((f : ℕ) → uses t f + frame_count f fs + frame_count f free ≤ 1)
      → Tree A
  after t b c fs rest free grown apart =
      record {
        geometry = t.geometry;
        table = b;
        spares = t.spares;
        shaped = grown.shape;
        tight = grown.tight;
        distinct = still_distinct t b c fs rest free grown apart;
      }

module _ {A : Type 0} (t u : Tree A) (first count : ℕ) (e : Entry) (c : Change) (fs rest : List ℕ) (some : 0 < count)
    (within : first + count ≤ input_pages t.geometry) (from : c.first ≡ first) (to : c.end ≡ first + count)
    (gives : c.entry ≡ e)
    (geometry : u.geometry ≡ t.geometry)
    (just : length fs ≡ need (levels_below t.geometry) (tree_of t) (put first count e))
    (grown : IsTableChanged (levels_below t.geometry) t.table u.table c fs rest) where
  need_is : table_need (levels_below t.geometry) t.table c ≡ length fs
  need_is = need_walked t first count e c some within from to gives ∙ sym just

  walked : IsWalked t u c fs
  walked = record {
    geometry = geometry;
    frame = grown.frame;
    enough = let n = need_is in omega (arith, n);
    map = grown.map;
    kept = grown.kept;
    gone = λ low q l a. one_word_gone (levels_below t.geometry) u.table low q grown.shape grown.tight l a;
    full = λ low q l a. one_word_gone (levels_below t.geometry) t.table low q t.shaped t.tight l a;
  }

  pub edited_tree : tree_of u ≡ edited (levels_below t.geometry) (tree_of t) (put first count e) fs
  edited_tree = tree_edited t u first count e c fs some within from to gives walked

  -- each frame is where it was, or was moved
  pub moved : (f : ℕ) → uses u f + table_gone (levels_below t.geometry) t.table c f ≡ uses t f + frame_count f fs
  moved f =
      let a = uses_are t f in
      let b : uses u f ≡ uses_in (levels_below t.geometry) u.table f =
      uses_are u f ∙ ap (λ g. uses_in (levels_below g) u.table f) geometry in
      let k : frame_count f (take (table_need (levels_below t.geometry) t.table c) fs) ≡ frame_count f fs =
      ap (λ n. frame_count f (take n fs)) need_is ∙ ap (frame_count f) (take_all (length fs) fs (omega arith)) in
      omega (arith, a, b, k, grown.uses f)

  pub counted : (before after : ℕ)
      → tables_in (levels_below t.geometry) u.table + after
      ≡ tables_in (levels_below t.geometry) t.table + table_need (levels_below t.geometry) t.table c + before
      → tables_of u + after ≡ tables_of t + length fs + before
  counted before after h =
      let a = tables_are t in
      let b : tables_of u ≡ tables_in (levels_below t.geometry) u.table =
      tables_are u ∙ ap (λ g. tables_in (levels_below g) u.table) geometry in
      let n = need_is in
      omega (arith, a, b, n, h)

  -- the frames that went are those that come back
  pub came_back : GivenCounted
      → (gs : List ℕ) (p : Pool)
      → ((f : ℕ) → frame_count f gs ≡ table_gone (levels_below t.geometry) t.table c f)
      → all_given gs p ≡ all_given (returned (levels_below t.geometry) (tree_of t) (put first count e)) p
  came_back law gs p h =
      law gs (returned (levels_below t.geometry) (tree_of t) (put first count e)) p
      (λ f. h f ∙ gone_returned t first count e c some within from to gives f)
