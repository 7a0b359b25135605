use Rattle.std.proofs.Common.{◌≡◌, ℕ, OnOk, Option, ap, subst}
use mathlib.Core.Path.{fun_ext}
use Rattle.std.specs.Option.{option_or}
use Rattle.page_state.specs.declared.row.Row.{Row}
use Rattle.page_state.specs.LayoutView.{layout_of}
use Rattle.page_state.specs.Rows.{advance_row}
use Rattle.run_list.specs.Runs.{run_map}
use Rattle.ghost_rows.specs.RowsLaid.{loan_at}
use Rattle.ghost_rows.proofs.RowsPages.{low_page-is}
use Rattle.ghost_rows.proofs.rows.loans.lend_runs.Goals as goal

pub returns-in-Some-clause-map : goal.returns-in-Some-clause-map
returns-in-Some-clause-map c =
    let lent = rw c.in-Some.is at c.in_ok-lent.ensures.map in
    subst
    (λ (m : ℕ → Option Row). OnOk c.lay_all.result ((f : ℕ) → run_map advance_row c.lay_all.new.rows.runs f ≡ m f))
    (fun_ext (λ f. ap (λ (o : Option Row). option_or o (run_map advance_row c.args.rows.now.runs f)) (lent f)))
    c.lay_all.ensures.map

pub returns-in-None-clause-map : goal.returns-in-None-clause-map
returns-in-None-clause-map c =
    subst
    (λ (m : ℕ → Option Row). OnOk c.lend_back.result
    ((f : ℕ) → run_map advance_row c.lend_back.new.rows.runs f ≡ m f))
    (fun_ext
    (λ f. ap (λ (o : Option ℕ). option_or (loan_at c.args.number o) (run_map advance_row c.args.rows.now.runs f))
    (low_page-is (layout_of c.args.layout.now) c.args.state f c.args.runs.now c.requires.coarsest)))
    c.lend_back.ensures.map
