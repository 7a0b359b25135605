use Rattle.std.proofs.Common.{Bool, arith, ap, subst, refl, ◌∙◌, ◌++◌, map, length, ◌+◌}
use Rattle.std.specs.Io.KnownBytes.{Appends}
use Rattle.std.specs.List.{list_all}
use Rattle.image_dump.specs.Dumped.{gives_states, text_by}
use Rattle.image_findings.specs.declared.finding.Finding.{Finding}
use Rattle.image_dump.specs.Collecting.{findings_by}
use Rattle.image_dump.specs.declared.line.DumpLine.TheVariants as line
use Rattle.image_dump.proofs.Collected.{all_dumped}
use Rattle.image_dump.proofs.dump.dump_trees.Goals as goal

pub overflow_add-findings : goal.overflow_add-findings
overflow_add-findings g c =
    omega (
      arith,
      c.add_unsound.new.found.small,
      c.add_unsound.new.found.ok.1,
      c.in_ok-unwalked.ensures.few,
      c.requires.few,
      c.len.ensures,
    )

pub returns-in-Ok-clause-dumped : goal.returns-in-Ok-clause-dumped
returns-in-Ok-clause-dumped g c =
    let all = c.collect.new.all in
    let states = c.all_say_states-states.result in
    let found = c.add_unsound.new.found in
    let words =
    c.in_ok-add_unsound.ensures
    ∙ (ap (λ cl. all.words.items ++ findings_by states cl c.as_slice-2.result.now) c.as_slice.ensures.value
    ∙ ap (λ tb. all.words.items ++ findings_by states all.claims.items tb) c.as_slice-2.ensures.value) in
    let first =
    c.in_ok-add_findings.ensures
    ∙ ap (λ ws. all.lines.items ++ map (λ (f : Finding). line.Finding f) ws) c.as_slice-3.ensures.value in
    let written =
    subst
    (λ ls. Appends (g.W.Write.contents c.args.writer.now) (g.W.Write.contents c.write_shaped.new.writer)
    (text_by c.args.shape ls)) c.as_slice-4.ensures.value c.in-Ok.ensures in
    all_dumped (g.I.ImageBytes.bytes c.args.image.now)
    (g.I.ImageBytes.may_fail c.args.image.now) c.args.segments.now c.args.roots.now c.args.vmemmap
    c.in_ok-records.records c.args.skips.now c.args.shape
    (g.W.Write.contents c.args.writer.now) (g.W.Write.contents c.write_shaped.new.writer)
    (record {
      lines = c.new.result;
      words = c.new-2.result;
      claims = c.new-3.result;
      tables =
          c.new-4.result;
    }) all c.in_ok-unwalked.unwalked states found.items c.add_findings.new.lines.items c.add_line.new.lines.items
    (length c.args.roots.now) (c.in_ok-unwalked.unwalked + c.len.result) c.outcome.result
    c.in_ok-records.ensures.records c.in_ok-unwalked.ensures.collected c.new.ensures.items c.new-2.ensures.items
    c.new-3.ensures.items c.new-4.ensures.items
    (c.all_say_states-states.ensures
    ∙ ap (λ (b : Bool). list_all (gives_states b) c.args.roots.now) c.is_some.ensures) words first
    (ap (λ k. c.in_ok-unwalked.unwalked + k)
    (c.len.ensures ∙ found.ok.0)) refl c.in_ok-add_line.ensures written c.outcome.ensures
