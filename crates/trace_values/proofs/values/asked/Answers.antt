use Rattle.std.proofs.Common.{◌∙◌, ◌+◌, ◌-◌, ap, map, subst, sym}
use Rattle.std.proofs.lemmas.List.{take-map}
use Rattle.trace_cases.specs.Cases.{IsCaseRecord}
use Rattle.trace_check.specs.Records.{bytes_of}
use Rattle.trace_reader.specs.Reading.{lines_of}
use Rattle.trace_values.specs.Expansions.{note_at, value_told}
use Rattle.trace_values.specs.View.{named_in}
use Rattle.trace_values.proofs.Turns.{mapped}
use Rattle.trace_values.proofs.values.asked.Goals as goal

pub returns : goal.returns
returns g c =
    let recorded = c.in_ok-recorded.recorded.items in
    let front = c.as_slice.ensures.value ∙ c.in_ok-front.ensures
    ∙ ap bytes_of (sym (take-map (λ line. line.now) (c.args.last + 1) c.args.lines.now)) in
    mapped c.value_in.result _ _
    (λ bound is. record {
      text = recorded;
      is = subst (λ t. IsCaseRecord g.row.A.Denot t recorded) front c.in_ok-recorded.ensures;
      told_is =
          is
          ∙ ap
          (λ t. value_told (named_in c.args.named)
          (note_at (lines_of t) (c.args.named.number - 1 - (c.args.last + 1)))) c.as_slice-2.ensures.value;
    })
    c.value_in.ensures
