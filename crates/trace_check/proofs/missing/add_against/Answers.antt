use Rattle.std.proofs.Common.{◌+◌, ◌++◌, ◌∙◌, ap, sym, drop, map, length, string_bytes, codes, append_assoc}
use Rattle.std.proofs.lemmas.List.{length-map}
use Rattle.trace_check.specs.Misses.{extra, unmet}
use Rattle.trace_check.specs.View.{misses_in}
use Rattle.trace_check.proofs.missing.add_against.Goals as goal

pub returns : goal.returns
returns c =
    let got = map string_bytes c.args.got.now in
    let texts = map (λ text. text.now) c.args.texts.now in
    let own = unmet (c.args.number + 1) (codes "got no more") got texts in
    c.in_ok-add_past.ensures
    ∙ ap (λ l. l ++ extra c.args.number (drop (length c.args.texts.now) got)) c.in_ok-add_unmet.ensures
    ∙ append_assoc (misses_in c.args.found.now.items) own (extra c.args.number (drop (length c.args.texts.now) got))
    ∙ ap (λ n. misses_in c.args.found.now.items ++ (own ++ extra c.args.number (drop n got)))
    (sym (length-map c.args.texts.now (λ text. text.now)))
