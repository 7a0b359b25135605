use Rattle.std.proofs.Common.{◌≡◌, ◌∙◌, ℕ, Option, OnOk, ap, subst}
use mathlib.Core.Path.{fun_ext}
use Rattle.page_state.specs.declared.row.Row.{Row}
use Rattle.page_state.specs.Regions.{is_in_range, is_memory_kind}
use Rattle.page_state.specs.Rows.{advance_row}
use Rattle.run_list.specs.Runs.{run_map}
use Rattle.ghost_rows.specs.ListedRows.{told}
use Rattle.ghost_rows.proofs.ListedRows.{none-laid, memory-over}
use Rattle.ghost_rows.proofs.rows.add_region.Goals as goal

pub returns-in_ok-found-in-Memory-clause-map : goal.returns-in_ok-found-in-Memory-clause-map
returns-in_ok-found-in-Memory-clause-map c =
    subst
    (λ (m : ℕ → Option Row). OnOk c.lay_all.result ((f : ℕ) → run_map advance_row c.lay_all.new.rows.runs f ≡ m f))
    (fun_ext
    (λ f. memory-over (is_in_range c.args.region.pages f) (is_memory_kind c.args.region.kind)
    (told c.args.lists.now f) (run_map advance_row c.in_ok-found-in-Memory.found.runs f)
    (run_map advance_row c.args.rows.now.runs f) (ap is_memory_kind c.in-Memory.is)
    (c.in_ok-found-in-Memory.ensures.map f)))
    c.lay_all.ensures.map

pub returns-in_ok-lay-in-Device-clause-map : goal.returns-in_ok-lay-in-Device-clause-map
returns-in_ok-lay-in-Device-clause-map c = λ f.
    ap (λ (m : ℕ → Option Row). m f) c.in_ok-lay-in-Device.ensures.map
    ∙ none-laid c.args.region.pages.first.0 c.args.region.pages.count (is_memory_kind c.args.region.kind)
    (run_map advance_row c.args.rows.now.runs) (told c.args.lists.now f) f (ap is_memory_kind c.in-Device.is)
