use Rattle.std.proofs.Common.{◌∙◌, ap, subst}
use Rattle.trace_cases.specs.Cases.{IsCaseRecord}
use Rattle.trace_reader.specs.Reading.{lines_of}
use Rattle.trace_values.specs.Expansions.{note_at}
use Rattle.trace_watches.proofs.Leading.{mapped}
use Rattle.trace_watches.proofs.asking.noted.Goals as goal

pub returns : goal.returns
returns g c =
    let recorded = c.in_ok-recorded.recorded.items in
    mapped c.last_note.result _ _
    (λ note is. record {
      text = recorded;
      is = subst (λ t. IsCaseRecord g.row.A.Denot t recorded) (c.as_slice.ensures.value ∙ c.in_ok-text.ensures)
          c.in_ok-recorded.ensures;
      note_is = is ∙ ap (λ t. note_at (lines_of t) 0) c.as_slice-2.ensures.value;
    })
    c.last_note.ensures
