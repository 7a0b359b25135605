use Rattle.std.proofs.Common.{Some, ap₂, subst, sym, ◌∙◌}
use Rattle.memchr.specs.Find.{FindsNeedle}
use Rattle.report_json.proofs.Parts.{cut_by}
use Rattle.report_json.proofs.cutting.cut.Goals as goal

pub returns : goal.returns
returns c =
    let bytes = c.args.bytes.now in
    let stop = c.args.stop.now in
    let finds = subst (FindsNeedle bytes stop 0) c.in_ok-place.was c.find.ensures in
    ap₂ (λ x y. Some (x, y)) c.split_at.ensures.front c.split_at-2.ensures.back
    ∙ sym (cut_by stop bytes (Some c.in_ok-place.place) (sym c.is_empty.ensures ∙ c.if-is_empty.false) finds)
