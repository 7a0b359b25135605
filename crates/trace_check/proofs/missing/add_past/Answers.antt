use Rattle.std.proofs.Common.{◌++◌, ◌∙◌, ap, sym, map, string_bytes}
use Rattle.std.proofs.lemmas.List.{append-nil, drop-map}
use Rattle.trace_check.specs.Misses.{extra}
use Rattle.trace_check.specs.View.{misses_in}
use Rattle.trace_check.proofs.Steps.{past_end, to_end}
use Rattle.trace_check.proofs.missing.add_past.Goals as goal

pub returns-then-got-count : goal.returns-then-got-count
returns-then-got-count c =
    sym (append-nil (misses_in c.args.found.now.items))
    ∙ ap (λ xs. misses_in c.args.found.now.items ++ extra c.args.number xs)
    (sym (past_end string_bytes c.args.got.now c.args.count c.if-got-count.true))

pub returns : goal.returns
returns c =
    c.in_ok-add_extra.ensures
    ∙ ap (λ xs. misses_in c.args.found.now.items ++ extra c.args.number xs)
    (ap (map string_bytes) (to_end c.args.got.now c.args.count)
    ∙ sym (drop-map string_bytes c.args.count c.args.got.now))
