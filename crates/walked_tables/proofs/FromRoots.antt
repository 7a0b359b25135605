-- A walk over the root's pages.
use Rattle.std.proofs.Common.{◌≡◌, ℕ, zero, suc, ◌+◌, ◌*◌, ◌/◌, ◌^◌, ◌<◌, ◌≤◌, List, [], ◌++◌, length, get_or, drop, Some, None, true, false, refl, sym, ap, subst, inl, inr, ◌∙◌, arith}
use Rattle.std.specs.Prelude.{AllPairs, slice_get}
use Rattle.std.proofs.lemmas.Bool.Decides.{nat_tests}
use Rattle.std.proofs.lemmas.List.{append_assoc, append-nil, at_drop_more, at_drop_all}
use Rattle.std.proofs.lemmas.Option.{slice_get-get_or, slice_get_cases}
use Rattle.std.proofs.Math.Nat.{mul-le-mul_right}
use mathlib.Core.Path.{fun_ext}
use Rattle.page_state.specs.Geometries.{block_pages}
use Rattle.page_state.specs.Map.{is_within}
use Rattle.page_state.proofs.Cases.{by_lt}
use Rattle.page_state.proofs.Common.{if-true, if-false}
use Rattle.run_list.specs.declared.run.Run.{Run}
use Rattle.run_list.specs.Runs.{EndBefore, run_map}
use Rattle.run_list.specs.View.{IsKept}
use Rattle.table_words.specs.declared.profile.Profile.{Profile}
use Rattle.walked_tables.specs.declared.follow.TablePage.{TablePage}
use Rattle.walked_tables.specs.declared.reached.Reached.{Reached}
use Rattle.walked_tables.specs.declared.reached.Stopped.{Stopped}
use Rattle.walked_tables.specs.declared.said.Said.{Said}
use Rattle.walked_tables.specs.Values.{advance_said, CanGoOn}
use Rattle.walked_tables.specs.ByFrames.{along, led_case, map_by_frames, most_pages, said_by, table_pages, tables_by_frames, tables_under}
use Rattle.walked_tables.specs.Laid.{laid}
use Rattle.walked_tables.specs.Reached.{AreOtherFrames, IsStopped}
use Rattle.walked_tables.proofs.Laid.{laid_none, laid_on, SaidMap}
use Rattle.walked_tables.proofs.MetTables.{stopped_on}
use Rattle.walked_tables.proofs.Reach.{pages_some, root_first}
use Rattle.walked_tables.proofs.Slots.{part_of}

-- no page has anything
abbrev pub nothing_said : SaidMap
nothing_said page = None

-- places
pub past_div : (s n p : ℕ) → 1 ≤ s → n * s ≤ p → n ≤ p / s
past_div s n p h l = by_lt (p / s) n
    (λ k. let m : (p / s + 1) * s ≤ n * s = mul-le-mul_right s (omega (arith, k)) in absurd (omega (arith, h, m, l)))
    (λ k. k)

pub none_past : {X : Type 0} (xs : List X) (i : ℕ) → length xs ≤ i → slice_get xs i ≡ None
none_past xs i h = elim (slice_get_cases xs i).1 [ inl x ↦ absurd (let l = x.1 in omega (arith, h, l)) | inr y ↦ y.1 ]

inside : (n p : ℕ) → p < n → is_within 0 n p ≡ true
inside n p l = grind (arith, nat_tests)

outside : (n p : ℕ) → n ≤ p → is_within 0 n p ≡ false
outside n p l = grind (arith, nat_tests)

module _ (profile : Profile) (pages : List TablePage) (tree depth : ℕ) (roots : List TablePage)
    (met₀ : List Reached) where
  -- its first pages were walked
  pub record IsRooted (k : ℕ) (met : List Reached) (runs : List (Run Said)) : Type 0 where
    pub met_is : (met₀ ++ tables_by_frames profile pages tree depth roots)
        ≡ met ++ along (tables_under profile pages tree depth) k (drop k roots)
    pub apart : AllPairs AreOtherFrames met
    pub map : run_map advance_said runs
        ≡ laid 0 (k * table_pages depth) (map_by_frames profile pages depth roots) nothing_said
    pub kept : IsKept advance_said CanGoOn runs
    pub behind : EndBefore (k * table_pages depth + 1) runs

  pub begun : (runs : List (Run Said)) → runs ≡ [] → AllPairs AreOtherFrames met₀ → IsRooted 0 met₀ runs
  unfolding tables_by_frames
  begun runs f apart =
      let none : 0 * table_pages depth ≡ 0 = omega arith in
      record {
        met_is = refl;
        apart = apart;
        map =
            ap (run_map advance_said) f
            ∙ sym
            (ap (λ n. laid 0 n (map_by_frames profile pages depth roots) nothing_said) none
            ∙ laid_none 0 (map_by_frames profile pages depth roots) nothing_said);
        kept = rw f (record { coarsest = tt; in_reach = tt });
        behind = rw f tt;
      }

  -- what the root's page has that a page is under
  root_gives : (root : TablePage) (p k : ℕ)
      → slice_get roots k ≡ Some root
      → p / table_pages depth ≡ k
      → said_by profile pages depth root p ≡ map_by_frames profile pages depth roots p
  unfolding map_by_frames
  root_gives root p k e d =
      sym (ap (λ o. led_case None (λ r. said_by profile pages depth r p) o) (ap (slice_get roots) d ∙ e))

  nothing_past : (p : ℕ) → length roots * table_pages depth ≤ p → map_by_frames profile pages depth roots p ≡ None
  unfolding map_by_frames
  nothing_past p h =
      ap (λ o. led_case None (λ r. said_by profile pages depth r p) o)
      (none_past roots (p / table_pages depth)
      (past_div (table_pages depth) (length roots) p (pages_some depth) h))

  module _ (k : ℕ) (met : List Reached) (runs : List (Run Said)) (x : IsRooted k met runs) (below : k < length roots)
      (root other : TablePage) (root_is : root ≡ get_or roots k other) where
    rest_is : along (tables_under profile pages tree depth) k (drop k roots)
        ≡ tables_under profile pages tree depth k root
        ++ along (tables_under profile pages tree depth) (k + 1) (drop (k + 1) roots)
    rest_is =
        at_drop_more (along (tables_under profile pages tree depth) k) roots k other below
        ∙ ap
        (λ r. tables_under profile pages tree depth k r
        ++ along (tables_under profile pages tree depth) (k + 1) (drop (k + 1) roots))
        (sym root_is)

    more_met : (met' : List Reached)
        → met' ≡ met ++ tables_under profile pages tree depth k root
        → (met₀ ++ tables_by_frames profile pages tree depth roots)
        ≡ met' ++ along (tables_under profile pages tree depth) (k + 1) (drop (k + 1) roots)
    more_met met' e =
        x.met_is ∙ ap (λ us. met ++ us) rest_is
        ∙ sym
        (append_assoc met (tables_under profile pages tree depth k root)
        (along (tables_under profile pages tree depth) (k + 1) (drop (k + 1) roots)))
        ∙ ap (λ us. us ++ along (tables_under profile pages tree depth) (k + 1) (drop (k + 1) roots)) (sym e)

    pub stopped_at : (s : Stopped)
        → IsStopped (met ++ tables_under profile pages tree depth k root) s
        → IsStopped ((met₀ ++ tables_by_frames profile pages tree depth roots)) s
    stopped_at s h =
        stopped_on (met ++ tables_under profile pages tree depth k root) _ _ s
        (more_met (met ++ tables_under profile pages tree depth k root) refl) h

    pub more : length roots ≤ most_pages depth
        → (met' : List Reached) (runs' : List (Run Said))
        → met' ≡ met ++ tables_under profile pages tree depth k root
        → AllPairs AreOtherFrames met'
        → run_map advance_said runs'
        ≡ laid (k * block_pages (depth + 1)) (table_pages depth) (said_by profile pages depth root)
        (run_map advance_said runs)
        → IsKept advance_said CanGoOn runs'
        → EndBefore (k * block_pages (depth + 1) + table_pages depth + 1) runs'
        → IsRooted (k + 1) met' runs'
    more few met' runs' e apart m kept behind =
        let size = table_pages depth in
        let first = root_first depth k (length roots) below few in
        let start : k * block_pages (depth + 1) ≡ 0 + k * size = omega (arith, first) in
        let end : k * size + size ≡ (k + 1) * size = omega arith in
        record {
          met_is = more_met met' e;
          apart = apart;
          map =
              laid_on (map_by_frames profile pages depth roots) (said_by profile pages depth root) nothing_said
              (run_map advance_said runs) (run_map advance_said runs') 0 (k * size) size x.map
              (m ∙ ap (λ n. laid n size (said_by profile pages depth root) (run_map advance_said runs)) start)
              (λ p low high. root_gives root p k
              (slice_get-get_or roots k other below ∙ ap (λ (r : TablePage). Some r) (sym root_is))
              (part_of profile pages size k p (pages_some depth) (omega (arith, low))
              (omega (arith, high))))
              ∙ ap (λ n. laid 0 n (map_by_frames profile pages depth roots) nothing_said) end;
          kept = kept;
          behind = subst (λ (j : ℕ). EndBefore (j + 1) runs') (ap (λ j. j + size) first ∙ end) behind;
        }

  module _ (k : ℕ) (met : List Reached) (runs : List (Run Said)) (x : IsRooted k met runs) (low : k ≤ length roots)
      (all : length roots ≤ k) where
    last : k ≡ length roots
    last = omega (arith, low, all)

    pub all_met : met ≡ (met₀ ++ tables_by_frames profile pages tree depth roots)
    all_met =
        sym
        (x.met_is
        ∙ ap (λ us. met ++ us) (at_drop_all (along (tables_under profile pages tree depth) k) roots k all)
        ∙ append-nil met)

    at_page : (p : ℕ) → run_map advance_said runs p ≡ map_by_frames profile pages depth roots p
    at_page p =
        let size = table_pages depth in
        let said : run_map advance_said runs p ≡ laid 0 (length roots * size) (map_by_frames profile pages depth roots) nothing_said p =
        ap (λ m. m p)
        (x.map ∙ ap (λ n. laid 0 (n * size) (map_by_frames profile pages depth roots) nothing_said) last) in
        by_lt p (length roots * size)
        (λ l. said
        ∙ if-true (is_within 0 (length roots * size) p) (map_by_frames profile pages depth roots p) None
        (inside (length roots * size) p l))
        (λ l. said
        ∙ if-false (is_within 0 (length roots * size) p) (map_by_frames profile pages depth roots p) None
        (outside (length roots * size) p l)
        ∙ sym (nothing_past p l))

    pub all_map : run_map advance_said runs ≡ map_by_frames profile pages depth roots
    all_map = fun_ext at_page
