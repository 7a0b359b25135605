-- Rows with one behind them.
use Rattle.std.proofs.Common.{◌≡◌, ◌∙◌, ℕ, zero, suc, ◌+◌, ◌<◌, ◌≤◌, ◌^◌, false, List, [], ◌∷◌, ◌++◌, length, get_or, Option, Some, None, refl, ap, arith}
use Rattle.std.specs.Prelude.{◌==◌, is_some}
use Rattle.std.proofs.lemmas.Bool.Decides.{nat_tests}
use Rattle.page_state.specs.declared.entry.PageRange.{PageRange}
use Rattle.page_state.specs.declared.entry.Run.{Run as PageRun}
use Rattle.page_state.specs.declared.row.Row.{Row}
use Rattle.page_state.specs.Entries.{entry_of_target}
use Rattle.page_state.specs.Regions.{end_of}
use Rattle.page_state.specs.Rows.{advance_row, HasPageBelow}
use Rattle.page_state.specs.Runs.{run_end as page_end, IsCoarsest as AreCoarsest}
use Rattle.run_list.specs.declared.run.Run.{Run}
use Rattle.run_list.specs.OwnerRows.{row_eq, row_laws}
use Rattle.run_list.specs.Parts.{glue, one_run, run_of}
use Rattle.run_list.specs.Runs.{run_end, run_map, map_updated, EndBefore}
use Rattle.run_list.specs.View.{IsKept}
use Rattle.run_list.proofs.Behind.{behind_edited}
use Rattle.run_list.proofs.Changed.{changed_coarsest, changed_map, changed_reach, run_of_ends}
use Rattle.run_list.proofs.Glue.{glue_ends}
use Rattle.run_list.proofs.Maps.{ends_later}
use Rattle.ghost_rows.specs.RowsLaid.{annotated_row, annotated_end}
use Rattle.ghost_rows.proofs.RowsAhead.{next_begins}
use Rattle.ghost_rows.proofs.RowsLaid.{small-some}

-- nothing is joined with what begins behind the end of each run
pub apart-glued : (r : Run Row) (rs : List (Run Row))
    → EndBefore r.pages.first.0 rs
    → rs ++ (r ∷ []) ≡ glue advance_row row_eq rs (r ∷ [])
apart-glued r [] e = refl
apart-glued r (x ∷ []) e = let apart : (run_end x == r.pages.first.0) ≡ false = grind (arith, nat_tests, e.0) in
    rw apart refl
apart-glued r (x ∷ (w ∷ xs)) e = ap (λ us. x ∷ us) (apart-glued r (w ∷ xs) e.1)

-- what a list of rows is with those of a range behind it
pub record IsPushed (frames : PageRange) (row : Row) (old new : List (Run Row)) : Type 0 where
  pub map : run_map advance_row new
      ≡ map_updated advance_row (run_map advance_row old) frames.first.0 frames.count (Some row)
  pub kept : IsKept advance_row HasPageBelow new
  pub behind : EndBefore (end_of frames + 1) new

module _ (frames : PageRange) (row : Row) (old new : List (Run Row)) (low : end_of frames ≤ 2 ^ 63)
    (some : 0 < frames.count) (small : HasPageBelow row frames.count) (kept : IsKept advance_row HasPageBelow old) where
  pub pushed : EndBefore (frames.first.0 + 1) old
      → new ≡ glue advance_row row_eq old (one_run (run_of frames (Some row)))
      → IsPushed frames row old new
  pushed behind same =
      let end = frames.first.0 + frames.count + 1 in
      let edited =
      same ∙ behind_edited advance_row HasPageBelow row_eq row_laws frames (Some row) old kept.coarsest behind in
      record {
        map =
            ap (run_map advance_row) edited
            ∙ changed_map advance_row HasPageBelow row_eq row_laws frames (Some row) old kept some;
        kept = rw edited (record {
          coarsest = changed_coarsest advance_row HasPageBelow row_eq row_laws frames (Some row) old kept some;
          in_reach =
              changed_reach advance_row HasPageBelow row_eq row_laws frames (Some row) old kept some low
              (small-some row frames.count small);
        });
        behind =
            rw same
            (glue_ends advance_row HasPageBelow row_eq row_laws end old _
            (ends_later (frames.first.0 + 1) end old (omega arith) behind) (run_of_ends frames (Some row)));
      }

  pub pushed-apart : (high : ℕ)
      → EndBefore (high + 1) old
      → high < frames.first.0
      → new ≡ old ++ (record { pages = frames; value = row } ∷ [])
      → IsPushed frames row old new
  pushed-apart high behind apart same = pushed
      (ends_later (high + 1) (frames.first.0 + 1) old (omega (arith, apart)) behind)
      (same
      ∙ apart-glued (record { pages = frames; value = row }) old
      (ends_later (high + 1) frames.first.0 old (omega (arith, apart)) behind))

-- pages of runs

abbrev pub end_by : ℕ → PageRun → Option Row → ℕ
end_by high r o = elim o [ Some row ↦ page_end r | None ↦ high ]

pub some-page : (rs : List PageRun) (i : ℕ) (d : PageRun)
    → AreCoarsest rs
    → i < length rs
    → 0 < (get_or rs i d).pages.count
some-page [] i d c h = absurd (omega (arith, h))
some-page (r ∷ rs) zero d c h = c.0
some-page (r ∷ rs) (suc i) d c h = some-page rs i d c.2 (omega (arith, h))

pub end-of : (high : ℕ) (r : PageRun) (o : Option Row)
    → o ≡ annotated_row (entry_of_target r.target)
    → end_by high r o ≡ annotated_end high r
end-of high r o e = ap (end_by high r) e

pub none-of : (high : ℕ) (r : PageRun) (o : Option Row)
    → o ≡ annotated_row (entry_of_target r.target)
    → is_some o ≡ false
    → high ≡ annotated_end high r
none-of high r None e none = end-of high r None e
none-of high r (Some row) e none = cc

annotated-by : (high : ℕ) (r : PageRun) → high ≤ r.pages.first.0 → annotated_end high r ≤ page_end r
annotated-by high r h = by_row (annotated_row (entry_of_target r.target)) refl
  where
    by_row : (o : Option Row) → o ≡ annotated_row (entry_of_target r.target) → annotated_end high r ≤ page_end r
    by_row None e = let same : high ≡ annotated_end high r = end-of high r None e in omega (arith, same, h)
    by_row (Some row) e = let same : page_end r ≡ annotated_end high r = end-of high r (Some row) e in
        omega (arith, same)

-- the next run begins where that of the rows so far ends, or behind that
pub annotated-next : (rs : List PageRun) (i : ℕ) (d e : PageRun) (high end : ℕ)
    → AreCoarsest rs
    → i + 1 < length rs
    → high ≤ (get_or rs i d).pages.first.0
    → end ≡ annotated_end high (get_or rs i d)
    → end ≤ (get_or rs (i + 1) e).pages.first.0
annotated-next rs i d e high end c less order is =
    let next = next_begins rs i d e c less in
    let by = annotated-by high (get_or rs i d) order in
    omega (arith, next, by, is)
