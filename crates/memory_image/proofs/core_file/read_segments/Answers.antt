use Rattle.std.proofs.Common.{sym, ◌∙◌, ap, Ok}
use Rattle.std.proofs.lemmas.List.Elements.{All-nil, All-same}
use Rattle.memory_image.specs.CoreFile.{IsPlaced, segments_of}
use Rattle.memory_image.proofs.Headers.{after_header, none_yet, of_ok, passed, wrong_header}
use Rattle.memory_image.proofs.core_file.read_segments.Goals as goal

pub loop-i-init : goal.loop-i-init
loop-i-init g c = record {
  said = λ all e. none_yet c.args.count all c.args.table ∙ ap Ok (sym c.new-found.ensures.items);
  placed = All-same IsPlaced _ _ c.new-found.ensures.items (All-nil IsPlaced);
}

pub loop-i-preserved : goal.loop-i-preserved
loop-i-preserved g c = record {
  said = λ all e.
      let read = of_ok c.fill.result _ (sym c.is_err.ensures.value ∙ c.if-is_err.false) c.fill.ensures.read in
      after_header c.args.count all c.args.table c.loop-i.i c.loop-i.found.items c.fill.new.into _
      (c.loop-i.invariant.said all e) (read all e) c.in-Ok.ensures.joined;
  placed = c.in-Ok.ensures.placed;
}

pub returns-in-Err-clause-read : goal.returns-in-Err-clause-read
returns-in-Err-clause-read g c =
    let read = of_ok c.fill.result _ (sym c.is_err.ensures.value ∙ c.if-is_err.false) c.fill.ensures.read in
    passed (g.I.ImageBytes.bytes c.args.image.now) (g.I.ImageBytes.may_fail c.args.image.now)
    (λ all. segments_of c.args.count all c.args.table c.args.table.headers) _ c.join.new.found.items
    c.in-Err.refused c.in-Err.ensures.joined
    (λ f j all e. wrong_header c.args.count all c.args.table c.loop-i.i c.loop-i.found.items c.fill.new.into f
    (c.loop-i.invariant.said all e) (read all e) j c.loop-i-test.true)
