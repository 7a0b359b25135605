-- A legal state in which all frames of a guest with pages are tables, if they aren't more than a tree can have.
use Rattle.std.proofs.Common.{◌≡◌, ◌≢◌, ℕ, zero, suc, ◌+◌, ◌≤◌, List, [], ◌∷◌, length, take, Option, Some, None, refl, ap, sym, ◌∙◌, subst, arith}
use Rattle.std.specs.Prelude.{true, false, nat_le}
use Rattle.std.proofs.lemmas.Bool.Decides.{nat_tests}
use Rattle.page_state.specs.Counts.{frame_count}
use Rattle.page_state.specs.EntryTests.{is_unmapped}
use Rattle.page_state.specs.Layouts.{Layout}
use Rattle.page_state.specs.Tables.{placed}
use Rattle.page_state.specs.Trees.{Block, root_tree}
use Rattle.reference_model.proofs.conditions.Tables.{placed-absent, placed-uses, uses_of, AreBare}
use Rattle.reference_model.specs.help.Conditions.{guest_uses, table_uses}
use Rattle.reference_model.specs.model.State.{Contents, Guest, empty}
use Rattle.freedoms.specs.AnyTrees.{LegalInAnyTrees}
use Rattle.freedoms.specs.Laws.{with_pool, with_root}
use Rattle.freedoms.specs.OwnTables.{OwnTables}
use Rattle.freedoms.proofs.ByRows.{pools_by_rows}
use Rattle.free_judge.specs.Laws.{HasLowMemory}
use Rattle.free_judge.specs.PoolByRows.{free_of, may_hold, most_tables, pool_frames, with_tables, HasPage}
use Rattle.free_judge.proofs.PoolStands.{at-put, by-rows, once, root-listed}
use Rattle.freedoms.proofs.Replaced.{legal-there, replaced, same-there, Replaces}
use Rattle.free_judge.proofs.RowsPool.{free-length, root-some}
use Rattle.free_judge.proofs.TreeBlocks.{bare-below, bare-take, below-length, below-root, placed-inside, root-absent}

take-whole : (xs : List ℕ) → take (length xs) xs ≡ xs
take-whole [] = refl
take-whole (x ∷ xs) = ap (λ ys. x ∷ ys) (take-whole xs)

take-length : (n : ℕ) (bs : List Block) → n ≤ length bs → length (take n bs) ≡ n
take-length zero bs h = refl
take-length (suc n) [] h = absurd (omega arith)
take-length (suc n) (b ∷ bs) h = let rest = take-length n bs (omega arith) in omega arith

fitting : (m n : ℕ) → nat_le m n ≡ true → m ≤ n
fitting m n h = grind (arith, nat_tests)

-- a guest whose free frames have become tables
module _ (l : Layout) (t : Contents) (legal : LegalInAnyTrees l t) (v root : ℕ)
    (alive : (t.guest v).phase ≢ empty) (page : HasPage (t.guest v).tree.map)
    (alone : (t.guest v).tree.table ≡ (root_tree l.depth root).table)
    (enough : length (t.guest v).free ≤ length (below-root l.depth)) where
  abbrev free : List ℕ
  free = (t.guest v).free

  abbrev old : Block → Option ℕ
  old = (t.guest v).tree.table

  abbrev bs : List Block
  bs = take (length free) (below-root l.depth)

  abbrev g : Guest
  g = with_tables (placed bs free old) [] (t.guest v)

  many : length bs ≡ length free
  many = take-length (length free) (below-root l.depth) enough

  bare : AreBare l.depth old bs
  bare =
      subst (λ (table : Block → Option ℕ). AreBare l.depth table bs) (sym alone)
      (bare-take l.depth (root_tree l.depth root).table (length free) (below-root l.depth) (bare-below l.depth root))

  uses-same : (f : ℕ) → guest_uses l.depth g f ≡ guest_uses l.depth (t.guest v) f
  unfolding table_uses uses_of
  uses-same f =
      let put = placed-uses l.depth f bs free old bare (let same = many in omega arith) in
      let all : frame_count f (take (length bs) free) ≡ frame_count f free =
      ap (λ n. frame_count f (take n free)) many ∙ ap (frame_count f) (take-whole free) in
      sums (uses_of l.depth (placed bs free old) f) (uses_of l.depth old f)
      (frame_count f (take (length bs) free)) (frame_count f free) put all
    where
      sums : (a b c d : ℕ) → a ≡ b + c → c ≡ d → 0 + a ≡ d + b
      sums a b c d p q = omega arith

  replaces : Replaces l t v g
  replaces =
      let root-there = legal.state.guest_parts.rooted v alive in
      record {
        bare = refl;
        uses = uses-same;
        inside = placed-inside l.depth old bs free bare (legal.state.inside (suc (suc v)));
        root = root-there.0;
        rooted =
            placed-absent bs free old (l.depth + 1, 0) (root-absent l.depth (length free)) ∙ root-there.1;
        emptied =
            λ none. let bad : true ≡ false = sym (ap is_unmapped (none page.0)) ∙ page.1 in cc;
      }

  pub all-tables : LegalInAnyTrees l (replaced t v g)
      × OwnTables t (replaced t v g)
      × (((replaced t v g).guest v).free ≡ [])
  all-tables = (
    legal-there l t v g legal alive replaces,
    same-there l t v g legal alive replaces,
    ap (λ (k : Guest). k.free) (at-put t.guest v g),
  )

pub tabled : (l : Layout) (s : Contents) (legal : LegalInAnyTrees l s) (low : HasLowMemory l) (v : ℕ)
    → (s.guest v).phase ≢ empty
    → HasPage (s.guest v).tree.map
    → may_hold l.depth (pool_frames l s v) ≡ true
    → (u : Contents) × LegalInAnyTrees l u × OwnTables s u × ((u.guest v).free ≡ [])
tabled l s legal low v alive page fits =
    let fs = pool_frames l s v in
    let first = root-listed l s legal low v alive in
    let r = root-some None fs first.0 first.2 in
    let free = free_of None (Some r.0) fs in
    let t = with_pool l v r.0 free s in
    let there = pools_by_rows l s v r.0 free legal alive (by-rows l s legal low v None r.0 r.1) in
    let here : t.guest v ≡ with_root l.depth r.0 free (s.guest v) =
    at-put s.guest v (with_root l.depth r.0 free (s.guest v)) in
    let number = free-length None r.0 fs (once l s legal low v None r.0 r.1) in
    let below = below-length l.depth in
    let most = fitting (length fs) (most_tables l.depth) fits in
    let frees : length (t.guest v).free ≡ length free = ap (λ (g : Guest). length g.free) here in
    let enough : length (t.guest v).free ≤ length (below-root l.depth) =
    few (length (t.guest v).free) (length free) (length fs) (most_tables l.depth) (length (below-root l.depth)) frees
    number most below in
    let all =
    all-tables l t there.0 v r.0
    (λ e. alive (sym (ap (λ (g : Guest). g.phase) here) ∙ e))
    (subst (λ (g : Guest). HasPage g.tree.map) (sym here) page)
    (ap (λ (g : Guest). g.tree.table) here) enough in
    (replaced t v _, all.0, there.1 ∙ all.1, all.2)
  where
    few : (a b c d e : ℕ) → a ≡ b → b + 1 ≡ c → c ≤ d → e + 1 ≡ d → a ≤ e
    few a b c d e p q r s = omega arith
