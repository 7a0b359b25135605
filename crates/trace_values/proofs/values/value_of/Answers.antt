use Rattle.std.proofs.Common.{◌∙◌, ◌-◌, ap, map, sym}
use Rattle.std.proofs.lemmas.List.{take-map}
use Rattle.trace_values.specs.Expansions.{last_line}
use Rattle.trace_values.proofs.Turns.{gives, gives_some, mapped}
use Rattle.trace_values.proofs.values.value_of.Goals as goal

pub returns-in-Some : goal.returns-in-Some
returns-in-Some g c =
    let place = ap last_line (take-map (λ line. line.now) (c.args.named.number - 1) c.args.lines.now)
    ∙ sym c.last_line.ensures.place ∙ c.in-Some.is in
    mapped c.asked.result _ _ (λ bound told. gives_some _ _ _ c.in-Some.last place told) c.asked.ensures

pub returns-in-None : goal.returns-in-None
returns-in-None g c =
    let place = ap last_line (take-map (λ line. line.now) (c.args.named.number - 1) c.args.lines.now)
    ∙ sym c.last_line.ensures.place ∙ c.in-None.is in
    mapped c.other_at.result _ _ (λ bound told. gives _ _ _ place told) c.other_at.ensures
