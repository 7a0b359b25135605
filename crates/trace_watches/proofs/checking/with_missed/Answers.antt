use Rattle.std.proofs.Common.{length, map, subst, sym}
use Rattle.std.proofs.lemmas.List.{length-map}
use Rattle.trace_watches.specs.Checked.{IsAnswer}
use Rattle.trace_watches.specs.View.{miss_in, watch_in}
use Rattle.trace_watches.proofs.Leading.{mapped}
use Rattle.trace_watches.proofs.checking.with_missed.Goals as goal

pub returns : goal.returns
returns g c =
    let name = c.args.name.now in
    let own = c.args.own.now in
    let missed = c.in_ok-missed.missed.items in
    mapped c.answered.result _ _
    (λ checked is. record {
      missed = map miss_in missed;
      tells = c.in_ok-missed.ensures;
      answer = subst (λ n. IsAnswer name own n (map miss_in missed) checked)
          (sym (length-map c.args.watches.now watch_in))
          (subst (λ ms. IsAnswer name own (length c.args.watches.now) (map miss_in ms) checked)
          c.as_slice.ensures.value is);
    })
    c.answered.ensures
