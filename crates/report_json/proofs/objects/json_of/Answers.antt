use Rattle.std.proofs.Common.{◌≤◌, Some, ap, subst, sym, arith, ◌∙◌}
use Rattle.std.proofs.lemmas.Result.{IfOk-weaker}
use Rattle.serde_json.specs.Data.{depth}
use Rattle.serde_json.specs.Read.{max_depth}
use Rattle.report_json.proofs.Flat.{object_flat}
use Rattle.report_json.proofs.objects.json_of.Goals as goal

pub returns : goal.returns
returns c =
    let is = c.in_ok-value.ensures in
    let low : 1 ≤ max_depth = omega arith in
    let shallow = subst (λ n. n ≤ max_depth) (sym (ap depth is ∙ object_flat c.args.forms.now c.args.line.now)) low in
    IfOk-weaker c.to_string.result _ _ (λ s h. h shallow ∙ ap Some is) c.to_string.ensures.reads_back
