use Rattle.std.proofs.Common.{◌-◌, ◌++◌, ◌∙◌, ap, arith, drop, length, map}
use Rattle.std.proofs.lemmas.List.{length-drop, length-map, take_all}
use Rattle.trace_check.specs.View.{told_in}
use Rattle.trace_cases.specs.Races.{silences}
use Rattle.trace_cases.proofs.Filling.{padded_whole}
use Rattle.trace_cases.proofs.races.padded.Goals as goal

pub returns-clause-told : goal.returns-clause-told
returns-clause-told c =
    let lines = c.args.lines.now in
    let count = c.args.count in
    padded_whole (λ line. line.now) lines count (told_in c.args.told.items) _
    (omega (arith, c.if-len-count.false, c.len.ensures, length-map c.args.told.items (λ reported. reported.items)))
    (c.in_ok-add_silences.ensures.told
    ∙ ap (λ ls. told_in c.args.told.items ++ silences (map (λ line. line.now) ls))
    (take_all (length lines - count) (drop count lines) (omega (arith, length-drop count lines))))
