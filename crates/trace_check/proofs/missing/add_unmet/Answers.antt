use Rattle.std.proofs.Common.{◌∙◌, ap, sym, map, option_map, string_bytes}
use Rattle.std.proofs.lemmas.Option.{slice_get-map}
use Rattle.trace_check.proofs.Steps.{along}
use Rattle.trace_check.proofs.Unmet.{got_at, unmet_from}
use Rattle.trace_check.proofs.missing.add_unmet.Goals as goal

pub loop-place-preserved : goal.loop-place-preserved
loop-place-preserved c =
    let got =
    ap (option_map string_bytes)
    (got_at _ c.get.result c.args.got.now c.loop-place.place c.get.ensures.lookup.3 c.get.ensures.lookup.1)
    ∙ sym (slice_get-map string_bytes c.args.got.now c.loop-place.place) in
    along _ _ _ _ _ _
    (rw got at c.in_ok-add_unmet_at.ensures)
    (unmet_from (λ text. text.now) c.args.why.now
    (map string_bytes c.args.got.now) c.args.texts.now c.args.number c.loop-place.place _ c.loop-place-test.true)
    c.loop-place.invariant
