-- A tree after a change, as its walk leaves it, is the edited tree.
use Rattle.std.proofs.Common.{◌≡◌, ℕ, zero, suc, ◌+◌, ◌-◌, ◌*◌, ◌/◌, ◌%◌, ◌<◌, ◌≤◌, refl, sym, ap, arith, add-one, ◌∙◌, inl, inr, ◌⊎◌, true, false, Option, Some, None, List, length, Contains}
use Rattle.std.proofs.lemmas.List.Elements.{All-filter}
use mathlib.Core.Path.{fun_ext}
use Rattle.page_state.specs.declared.entry.Entry.{Entry}
use Rattle.page_state.specs.Entries.{advance}
use Rattle.page_state.specs.Map.{Map, update}
use Rattle.page_state.specs.Trees.{Block}
use Rattle.page_state.specs.Blocks.{block_eq, is_one_word, blocks_on}
use Rattle.page_state.specs.Tables.{Edit, put, needs, need, freed, placed, cleared, edited}
use Rattle.page_state.proofs.Blocks.{one_word_means}
use Rattle.page_state.proofs.BlockLists.{blocks_meet}
use Rattle.page_state.specs.Geometries.{levels_below, input_pages, block_pages}
use Rattle.page_state.proofs.Cases.{by_test, by_lt}
use Rattle.page_state.proofs.Edits.{tree-same}
use Rattle.table_tree.specs.declared.tree.Tree.{Tree}
use Rattle.table_tree.specs.Meaning.{entry_at, frame_of}
use Rattle.table_tree.specs.Tables.{table_in}
use Rattle.table_tree.specs.Tight.{IsOneWordAt}
use Rattle.table_tree.specs.View.{meaning, table_at, tree_of}
use Rattle.table_tree.proofs.Standing.{table_top}
use Rattle.walk_plan.specs.declared.change.Change.{Change}
use Rattle.walk_plan.specs.Changes.{changed_entry}
use Rattle.walk_plan.specs.inner.Needs.{table_need}
use Rattle.walk_plan.specs.inner.Ranks.{given_rank, table_rank}
use Rattle.walk_plan.proofs.Cases.{by_option}
use Rattle.walk_plan.proofs.InBlocks.{IsIn, page_under, under_page, block_within}
use Rattle.walk_plan.proofs.Changed.{changed_inside, changed_outside}
use Rattle.walk_plan.proofs.OneWord.{IsMade, one_word_made}
use Rattle.walk_plan.proofs.Matched.{meaning_in, table_at_in, all_pages, table_deep, meaning_past, table_past, table_page}
use Rattle.walk_plan.proofs.OfTree.{made_tree}
use Rattle.walk_plan.proofs.Needed.{is_needed, one_word_not, need_walked}
use Rattle.walk_plan.proofs.Places.{place_none, place_filter, placed_old}
use Rattle.walk_plan.proofs.Cleared.{is_freed, bare_not, full_not, said_freed, absent, cleared_absent, absent_filter, cleared_present}
use Rattle.walk_plan.proofs.Numbers.{place_in}
use Rattle.walk_plan.proofs.Ranked.{ranked_at}

-- what the walk leaves of a tree
pub record IsWalked {A : Type 0} (t u : Tree A) (c : Change) (fs : List ℕ) : Type 0 where
  pub geometry : u.geometry ≡ t.geometry
  pub frame : frame_of u.table ≡ frame_of t.table
  pub enough : table_need (levels_below t.geometry) t.table c ≤ length fs
  pub map : (q : ℕ)
      → entry_at (levels_below t.geometry) u.table q
      ≡ changed_entry (levels_below t.geometry + 1) (entry_at (levels_below t.geometry) t.table) c q
  pub kept : (low q : ℕ)
      → low < levels_below t.geometry
      → (IsOneWordAt (low + 1) (entry_at (levels_below t.geometry) u.table) q → ⊥)
      → table_in (levels_below t.geometry) u.table low q
      ≡ given_rank fs (table_in (levels_below t.geometry) t.table low q)
      (table_rank (levels_below t.geometry) t.table c low q)
  pub gone : (low q : ℕ)
      → low < levels_below t.geometry
      → IsOneWordAt (low + 1) (entry_at (levels_below t.geometry) u.table) q
      → table_in (levels_below t.geometry) u.table low q ≡ None
  pub full : (low q : ℕ)
      → low < levels_below t.geometry
      → IsOneWordAt (low + 1) (entry_at (levels_below t.geometry) t.table) q
      → table_in (levels_below t.geometry) t.table low q ≡ None

-- a block that a word can say, told by the pages of its first page's block
pub said_at : (m n : ℕ → Entry) (low j : ℕ)
    → ((p : ℕ) → IsIn (suc low) j p → m p ≡ n p)
    → is_one_word n (suc low, j) ≡ true
    → IsOneWordAt (low + 1) m (j * block_pages (suc low))
said_at m n low j same h =
    let s = block_pages (suc low) in
    let o : suc low ≡ low + 1 = omega arith in
    let x = (one_word_means n (suc low, j)).0 h in
    record {
      entry = n (j * s);
      fits = rw (sym o) x.0;
      along = λ p e.
          let k = page_under low j p (rw add-one at e) in
          let low' = k.low in
          let high = k.high in
          let at : j * s + (p - j * s) ≡ p = omega arith in
          let place : p % block_pages (low + 1) ≡ p - j * s =
          ap (λ d. p % block_pages d) (sym o) ∙ place_in (suc low) j p low' high in
          same p k ∙ ap n (sym at) ∙ x.1 (p - j * s) (omega arith) ∙ ap (λ i. advance (n (j * s)) i) (sym place);
    }

pub at_said : (m n : ℕ → Entry) (low j : ℕ)
    → ((p : ℕ) → IsIn (suc low) j p → m p ≡ n p)
    → IsOneWordAt (low + 1) m (j * block_pages (suc low))
    → is_one_word n (suc low, j) ≡ true
at_said m n low j same a =
    let s = block_pages (suc low) in
    let o : low + 1 ≡ suc low = omega arith in
    one_word_made n (suc low) j a.entry (rw o at a.fits)
    (λ i l.
    let k : IsIn (suc low) j (j * s + i) = record { low = omega arith; high = omega arith } in
    let under : (j * s + i) / block_pages (low + 1) ≡ j * s / block_pages (low + 1) =
    rw o (under_page low j (j * s + i) k) in
    let place : (j * s + i) % block_pages (low + 1) ≡ i =
    ap (λ d. (j * s + i) % block_pages d) o ∙ place_in (suc low) j (j * s + i) k.low k.high ∙ omega arith in
    sym (same (j * s + i) k) ∙ a.along (j * s + i) under ∙ ap (λ r. advance a.entry r) place)

module _ {A : Type 0} (t u : Tree A) (first count : ℕ) (e : Entry) (c : Change) (fs : List ℕ) (some : 0 < count)
    (within : first + count ≤ input_pages t.geometry) (from : c.first ≡ first) (to : c.end ≡ first + count)
    (gives : c.entry ≡ e) where
  abbrev top : ℕ
  top = levels_below t.geometry

  abbrev edit : Edit
  edit = put first count e

  abbrev after : Map
  after = update (meaning t) first count e

  abbrev standing : Block → Option ℕ
  standing b = table_at t b.0 b.1

  abbrev left : Block → Option ℕ
  left = cleared (freed top (tree_of t) edit) (placed (needs top (tree_of t) edit) fs standing)

  made : IsMade c (meaning t) after
  made = made_tree t first count e c some within from to gives

  -- tables that no list names
  left_off : (b : Block) → (Contains (blocks_on top first count) b → ⊥) → left b ≡ standing b
  unfolding needs freed
  left_off b h =
      let off = absent b (blocks_on top first count) h in
      let gone = All-filter (is_freed standing after) (λ a. block_eq a b ≡ false) (blocks_on top first count) off in
      let new = All-filter (is_needed standing after) (λ a. block_eq a b ≡ false) (blocks_on top first count) off in
      cleared_absent (freed top (tree_of t) edit) (placed (needs top (tree_of t) edit) fs standing) b gone
      ∙ placed_old (needs top (tree_of t) edit) fs standing b (place_none (needs top (tree_of t) edit) b new)

  left_placed : (b : Block)
      → is_freed standing after b ≡ false
      → left b ≡ placed (needs top (tree_of t) edit) fs standing b
  unfolding freed
  left_placed b h =
      cleared_absent (freed top (tree_of t) edit) (placed (needs top (tree_of t) edit) fs standing) b
      (absent_filter (is_freed standing after) (blocks_on top first count) b h)

  left_gone : (b : Block) → is_freed standing after b ≡ true → Contains (blocks_on top first count) b → left b ≡ None
  unfolding freed
  left_gone b h k =
      cleared_present (is_freed standing after) (blocks_on top first count)
      (placed (needs top (tree_of t) edit) fs standing) b h k

  left_one_word : (b : Block)
      → is_one_word after b ≡ true
      → placed (needs top (tree_of t) edit) fs standing b ≡ standing b
  unfolding needs
  left_one_word b h =
      placed_old (needs top (tree_of t) edit) fs standing b
      (place_filter (is_needed standing after) (blocks_on top first count) b (one_word_not c after standing b h))

  module _ (w : IsWalked t u c fs) where
    -- the map afterwards
    map_after : (q : ℕ) → q < input_pages t.geometry → entry_at top u.table q ≡ after q
    map_after q h =
        let m = entry_at top t.table in
        w.map q ∙ by_lt q c.first
        (λ l. changed_outside (top + 1) m c q h (inl l) ∙ sym (meaning_in t q h) ∙ sym (made.outside q (inl l)))
        (λ l. by_lt q c.end
        (λ r. changed_inside (top + 1) m c q h l r ∙ sym (made.inside q l r))
        (λ r. changed_outside (top + 1) m c q h (inr r) ∙ sym (meaning_in t q h) ∙ sym (made.outside q (inr r))))

    same_pages : input_pages u.geometry ≡ input_pages t.geometry
    same_pages = ap input_pages w.geometry

    meaning_after : (q : ℕ) → meaning u q ≡ after q
    meaning_after q = by_lt q (input_pages t.geometry)
        (λ h. meaning_in u q (let z = same_pages in omega arith)
        ∙ ap (λ g. entry_at (levels_below g) u.table q) w.geometry ∙ map_after q h)
        (λ h. meaning_past u q (let z = same_pages in omega arith)
        ∙ sym (made.outside q (inr (omega arith)) ∙ meaning_past t q h))

    table_now : (low j : ℕ)
        → j * block_pages (suc low) < input_pages t.geometry
        → table_at u (suc low) j ≡ table_in top u.table low (j * block_pages (suc low))
    table_now low j h =
        table_at_in u low j (let z = same_pages in omega arith)
        ∙ ap (λ g. table_in (levels_below g) u.table low (j * block_pages (suc low))) w.geometry

    -- a block below the root
    module _ (low j : ℕ) (deep : low < top) (begins : j * block_pages (suc low) < input_pages t.geometry) where
      abbrev first_of : ℕ
      first_of = j * block_pages (suc low)

      input_page : (p : ℕ) → IsIn (suc low) j p → p < input_pages t.geometry
      input_page p h = let e = all_pages t in let x = block_within top low j p deep (omega arith) h in omega arith

      -- what it has afterwards
      now_after : (p : ℕ) → IsIn (suc low) j p → entry_at top u.table p ≡ after p
      now_after p h = map_after p (input_page p h)

      -- a word can say it afterwards
      module _ (said : is_one_word after (suc low, j) ≡ true) where
        said_now : table_at u (suc low) j ≡ None
        said_now =
            table_now low j begins
            ∙ w.gone low first_of deep (said_at (entry_at top u.table) after low j now_after said)

        -- a change beside it
        left_beside : (first_of < first + count → first < first_of + block_pages (suc low) → ⊥)
            → left (suc low, j) ≡ None
        left_beside off =
            let side : (p : ℕ) → IsIn (suc low) j p → (p < c.first) ⊎ (c.end ≤ p) = λ p h. let l = h.low in
            let r = h.high in
            by_lt p c.first (λ a. inl a)
            (λ a. by_lt p c.end (λ z. absurd (off (omega arith) (omega arith))) (λ z. inr z)) in
            let was : (p : ℕ) → IsIn (suc low) j p → entry_at top t.table p ≡ after p =
            λ p h. sym (meaning_in t p (input_page p h)) ∙ sym (made.outside p (side p h)) in
            left_off (suc low, j)
            (λ k. let m = (blocks_meet top first count (suc low, j) some).0 k in
            off (omega (arith, m.2)) (omega (arith, m.3)))
            ∙ table_at_in t low j begins
            ∙ w.full low first_of deep (said_at (entry_at top t.table) after low j was said)

        on_range : first_of < first + count
            → first < first_of + block_pages (suc low)
            → Contains (blocks_on top first count) (suc low, j)
        on_range p q =
            (blocks_meet top first count (suc low, j) some).1 (omega arith, omega arith, omega arith, omega arith)

        left_some : (f : ℕ) → standing (suc low, j) ≡ Some f → left (suc low, j) ≡ None
        left_some f h =
            by_lt first_of (first + count)
            (λ p. by_lt first (first_of + block_pages (suc low))
            (λ q. left_gone (suc low, j) (said_freed standing after (suc low, j) f h said) (on_range p q))
            (λ q. left_beside (λ x y. omega arith)))
            (λ p. left_beside (λ x y. omega arith))

        left_none : left (suc low, j) ≡ None
        left_none = by_option (standing (suc low, j))
            left_some
            (λ h. left_placed (suc low, j) (bare_not standing after (suc low, j) h) ∙ left_one_word (suc low, j) said
            ∙ h)

      -- no word can say it afterwards
      full_now : is_one_word after (suc low, j) ≡ false → left (suc low, j) ≡ table_at u (suc low) j
      full_now h =
          let none : IsOneWordAt (low + 1) (entry_at top u.table) first_of → ⊥ =
          λ a. let bad : true ≡ false = sym (at_said (entry_at top u.table) after low j now_after a) ∙ h in
          cc in
          let enough : need top (tree_of t) edit ≤ length fs =
          let z = need_walked t first count e c some within from to gives in
          let k = w.enough in
          omega arith in
          left_placed (suc low, j) (full_not standing after (suc low, j) h)
          ∙ ranked_at t first count e c some within from to gives fs low j deep begins enough
          ∙ ap (λ o. given_rank fs o (table_rank top t.table c low first_of)) (table_at_in t low j begins)
          ∙ sym (table_now low j begins ∙ w.kept low first_of deep none)

    -- the tables afterwards
    tables_after : (b : Block) → table_at u b.0 b.1 ≡ left b
    tables_after (zero, j) =
        table_page u j
        ∙ sym
        (left_off (zero, j)
        (λ k. let m = (blocks_meet top first count (zero, j) some).0 k in omega (arith, m.0))
        ∙ table_page t j)
    tables_after (suc low, j) =
        by_lt (j * block_pages (suc low)) (input_pages t.geometry)
        (λ h. by_lt low top
        (λ l. by_test (is_one_word after (suc low, j)) (λ z. said_now low j l h z ∙ sym (left_none low j l h z))
        (λ z. sym (full_now low j l h z)))
        (λ l. table_now low j h ∙ root_now low (j * block_pages (suc low)) l
        ∙ sym
        (left_off (suc low, j)
        (λ k. let m = (blocks_meet top first count (suc low, j) some).0 k in omega (arith, m.1))
        ∙ table_at_in t low j h)))
        (λ h. table_past u low j (let z = same_pages in omega arith)
        ∙ sym
        (left_off (suc low, j)
        (λ k. let m = (blocks_meet top first count (suc low, j) some).0 k in omega (arith, m.2))
        ∙ table_past t low j h))
      where
        root_now : (low q : ℕ) → top ≤ low → table_in top u.table low q ≡ table_in top t.table low q
        root_now low q l = by_lt top low
            (λ x. table_deep top low q u.table x ∙ sym (table_deep top low q t.table x))
            (λ x. let z : low ≡ top = omega arith in
            table_top top low u.table q z ∙ ap Some w.frame ∙ sym (table_top top low t.table q z))

    -- the tree afterwards
    pub tree_edited : tree_of u ≡ edited top (tree_of t) edit fs
    unfolding edited
    tree_edited = tree-same (fun_ext meaning_after) (fun_ext tables_after)
