use Rattle.std.proofs.Common.{◌∙◌, map, subst, sym}
use Rattle.trace_watches.specs.Checked.{AddsMissed}
use Rattle.trace_watches.specs.View.{watch_in}
use Rattle.trace_watches.proofs.Leading.{mapped}
use Rattle.trace_watches.proofs.Listed.{listed}
use Rattle.trace_watches.proofs.checking.check_listed.Goals as goal

pub returns : goal.returns
returns g c =
    let A = g.row.A.Denot in
    let name = c.args.name.now in
    let own = c.in_ok-own.own in
    mapped c.with_missed.result _ _
    (λ checked adds. listed A name c.args.plain.now checked watch_in c.args.watches.now
    (sym c.is_empty.ensures ∙ c.if-is_empty.false)
    (record {
      own = own;
      is = c.in_ok-own.ensures;
      adds = subst (λ lines. AddsMissed A name own lines (map watch_in c.args.watches.now) checked) c.requires adds;
    }))
    c.with_missed.ensures
