use Rattle.std.proofs.Common.{List, Some, None, get_or, refl, sym, subst}
use Rattle.page_state.specs.declared.row.Row.{Row}
use Rattle.page_state.specs.Rows.{plain_row}
use Rattle.run_list.specs.declared.run.Run.{Run}
use Rattle.ghost_judge.specs.inner.Same.{IsBegin}
use Rattle.ghost_judge.proofs.rows.begin_from.Goals as goal

abbrev none : Run Row
none = record { pages = record { first = record { 0 = 0 }; count = 0 }; value = plain_row }

pub returns-in-Some : goal.returns-in-Some
returns-in-Some c = let next = rw c.in-Some.is at c.next_marked.ensures in
    subst (λ (rs : List (Run Row)). IsBegin rs (Some (get_or c.args.runs.now c.in-Some.at none).pages.first.0))
    (sym (next.rest none)) refl

pub returns-in-None : goal.returns-in-None
returns-in-None c = let next = rw c.in-None.is at c.next_marked.ensures in
    subst (λ (rs : List (Run Row)). IsBegin rs None) (sym next) refl
