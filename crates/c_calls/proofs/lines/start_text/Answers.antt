use Rattle.std.proofs.Common.{◌++◌, ◌∙◌, ap, map}
use Rattle.c_calls.specs.Lines.{end_lines, region_line, text_of_lines}
use Rattle.c_calls.proofs.LinesJoined.{start_joined}
use Rattle.c_calls.proofs.lines.start_text.Goals as goal

pub returns : goal.returns
returns c =
    let l = c.args.layout.now in
    let regions =
    c.in_ok-add_regions.ensures
    ∙ ap (λ t. t ++ text_of_lines (map region_line l.regions.now)) c.in_ok-text.ensures in
    c.in_ok-add_end.ensures ∙ ap (λ t. t ++ text_of_lines (end_lines l.carve_first l.carve_count)) regions
    ∙ start_joined l l.regions.now
