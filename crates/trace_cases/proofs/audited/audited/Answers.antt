use Rattle.std.proofs.Common.{◌∙◌, ap, arith, length, map}
use Rattle.std.proofs.lemmas.List.{length-map}
use Rattle.trace_text.proofs.ReplayLemmas.{mapped}
use Rattle.trace_text.specs.Oracles.{audited_lines}
use Rattle.trace_audit.specs.Audited.{nothing_audited}
use Rattle.trace_check.specs.View.{told_in}
use Rattle.trace_cases.specs.Audits.{behind, last_spoken_line}
use Rattle.trace_cases.proofs.Going.{runs_few}
use Rattle.trace_cases.proofs.audited.audited.Goals as goal

pub returns-clause-told : goal.returns-clause-told
returns-clause-told g c =
    let lines = map (λ line. line.now) c.args.lines.now in
    let found = c.in_ok-carried.carried.found in
    mapped c.with_found.result _ _
    (λ all told. record {
      own = told_in c.in_ok-carried.carried.told.items;
      found = found;
      runs = c.in_ok-carried.ensures;
      told_is =
          told ∙ ap (λ n. behind 0 n (audited_lines found) (told_in c.as_slice.result.now)) c.last_spoken_line.ensures
          ∙ ap (λ ts. behind 0 (last_spoken_line lines) (audited_lines found) (told_in ts)) c.as_slice.ensures.value;
    })
    c.with_found.ensures.told

pub returns-clause-few : goal.returns-clause-few
returns-clause-few g c =
    let lines = map (λ line. line.now) c.args.lines.now in
    let few =
    runs_few 1 nothing_audited lines
    (told_in c.in_ok-carried.carried.told.items) c.in_ok-carried.carried.found c.in_ok-carried.ensures in
    mapped c.with_found.result _ _
    (λ all same. omega (
      arith,
      same,
      few,
      length-map c.args.lines.now (λ line. line.now),
      length-map c.in_ok-carried.carried.told.items (λ reported. reported.items),
      ap length c.as_slice.ensures.value,
    ))
    c.with_found.ensures.few
