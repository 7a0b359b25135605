use Rattle.std.proofs.Common.{◌∙◌, ◌++◌, ap}
use Rattle.std.specs.Prelude.{codes}
use Rattle.svg_elements.specs.Items.{namespace, style, text_of_size}
use Rattle.svg_elements.proofs.Joined.{seven_pieces}
use Rattle.svg_elements.proofs.svg.opening.Goals as goal

pub returns : goal.returns
returns c =
    let size = text_of_size c.args.size in
    c.in_ok-svg.ensures.ok
    ∙ ap
    (λ t. codes "<svg xmlns='"
    ++ (t
    ++ (codes "' "
    ++ (size
    ++ (codes ">\n"
    ++ (c.style_rules-rules.result.now ++ codes "\n")))))) c.namespace_name-space.ensures
    ∙ ap
    (λ t. codes "<svg xmlns='"
    ++ (namespace ++ (codes "' " ++ (size ++ (codes ">\n" ++ (t ++ codes "\n")))))) c.style_rules-rules.ensures
    ∙ seven_pieces (codes "<svg xmlns='") namespace (codes "' ") size (codes ">\n") style (codes "\n")
