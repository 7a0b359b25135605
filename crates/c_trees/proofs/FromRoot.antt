-- What a walk from the pages of a root finds.
use Rattle.std.proofs.Common.{◌≡◌, ℕ, zero, suc, ◌+◌, ◌*◌, ◌≤◌, arith, List, [], ◌∷◌, ◌++◌, Option, Some, None, drop, length, map, refl, sym, ap, ◌∙◌}
use Rattle.std.specs.Prelude.{All, option_to_list}
use Rattle.std.proofs.lemmas.List.Elements.{All-append, All-cons, All-nil, All-weaker}
use Rattle.page_state.specs.Map.{Map}
use Rattle.table_words.specs.declared.profile.Profile.{Profile}
use Rattle.walked_tables.specs.declared.follow.TablePage.{TablePage}
use Rattle.walked_tables.specs.declared.reached.Reached.{Reached}
use Rattle.walked_tables.specs.declared.said.Said.{Said}
use Rattle.walked_tables.specs.ByFrames.{IsWhole, along, led_at, led_case, map_by_frames, page_of, reached_at, reached_words, tables_by_frames, tables_under, words_of}
use Rattle.walked_tables.proofs.Slots.{found_in}
use Rattle.c_trees.specs.declared.root.PlainRange.{PlainRange}
use Rattle.c_trees.specs.Entries.{entries_by, without}
use Rattle.c_trees.specs.Roots.{pages_from}
use Rattle.c_trees.specs.Trees.{HasLowDepth}

module _ (pages : List TablePage) (whole : All IsWhole pages) where
  one_whole : (f : ℕ) (rest : List TablePage) (o : Option TablePage)
      → page_of pages f ≡ o
      → All IsWhole rest
      → All IsWhole (option_to_list o ++ rest)
  one_whole f rest None e h = h
  one_whole f rest (Some p) e h = All-cons IsWhole p rest (found_in IsWhole _ pages p e whole) h

  pub whole_from : (f n : ℕ) → All IsWhole (pages_from pages f n)
  whole_from f zero = All-nil IsWhole
  whole_from f (suc n) = one_whole f (pages_from pages (f + 1) n) (page_of pages f) refl (whole_from (f + 1) n)

module _ (p q : Profile) (pages : List TablePage) (d e : ℕ) (rs qs : List TablePage) (same_p : p ≡ q) (same_d : d ≡ e)
    (same_rs : rs ≡ qs) where
  pub found_tables : (tree : ℕ) → tables_by_frames p pages tree d rs ≡ tables_by_frames q pages tree e qs
  found_tables tree =
      ap (λ x. tables_by_frames x pages tree d rs) same_p ∙ ap (λ x. tables_by_frames q pages tree x rs) same_d
      ∙ ap (tables_by_frames q pages tree e) same_rs

  pub found_map : (skips : List PlainRange) (kept : Map) (said : ℕ → Option Said) (all runs : Map)
      → said ≡ map_by_frames p pages d rs
      → all ≡ entries_by p kept said
      → runs ≡ without skips all
      → runs ≡ without skips (entries_by q kept (map_by_frames q pages e qs))
  found_map skips kept said all runs s a r =
      r ∙ ap (without skips) (a ∙ ap (entries_by p kept) s)
      ∙ ap (λ x. without skips (entries_by x kept (map_by_frames x pages d rs))) same_p
      ∙ ap (λ x. without skips (entries_by q kept (map_by_frames q pages x rs))) same_d
      ∙ ap (λ x. without skips (entries_by q kept (map_by_frames q pages e x))) same_rs

module _ (p : Profile) (pages : List TablePage) (tree : ℕ) where
  abbrev Low : ℕ → Reached → Type 0
  Low d r = r.depth ≤ d

  low_along : {W : Type 0} (d : ℕ) (f : ℕ → W → List Reached)
      → ((k : ℕ) (w : W) → All (Low d) (f k w))
      → (k : ℕ) (ws : List W)
      → All (Low d) (along f k ws)
  low_along d f h k [] = All-nil (Low d)
  low_along d f h k (w ∷ ws) = All-append (Low d) (f k w) (along f (k + 1) ws) (h k w) (low_along d f h (k + 1) ws)

  by_led : (d k : ℕ) (o : Option TablePage)
      → ((next : TablePage) → All (Low d) (tables_under p pages tree d k next))
      → All (Low (suc d)) (led_case [] (λ next. tables_under p pages tree d k next) o)
  by_led d k None h = All-nil (Low (suc d))
  by_led d k (Some next) h =
      All-weaker (Low d) (Low (suc d)) (λ r l. omega (arith, l)) (tables_under p pages tree d k next) (h next)

  low_under : (d n : ℕ) (page : TablePage) → All (Low d) (tables_under p pages tree d n page)
  unfolding tables_under
  low_under zero n page = All-cons (Low 0) (reached_at tree 0 n page) [] (omega arith) (All-nil (Low 0))
  low_under (suc d) n page =
      All-cons (Low (suc d)) (reached_at tree (suc d) n page) _ (omega arith)
      (low_along (suc d) _
      (λ k w. by_led d k (led_at p pages (suc d) w) (λ next. low_under d k next)) (n * 512)
      (reached_words (suc d) (words_of page)))

  pub low_tables : (d : ℕ) (roots : List TablePage) → d ≤ 3 → All HasLowDepth (tables_by_frames p pages tree d roots)
  unfolding tables_by_frames
  low_tables d roots l =
      All-weaker (Low d) HasLowDepth (λ r h. omega (arith, h, l)) _
      (low_along d (tables_under p pages tree d) (low_under d) 0 roots)
