use Rattle.std.proofs.Common.{◌∙◌, Err, Ok, ap, map, subst, sym}
use Rattle.trace_values.specs.Expansions.{Says}
use Rattle.trace_values.specs.Names.{first_name}
use Rattle.trace_values.specs.View.{bound_in, named_in, spot_in}
use Rattle.trace_values.proofs.Turns.{mapped, next_is}
use Rattle.trace_values.proofs.expanding.next_put.Goals as goal

pub returns-in-Fault : goal.returns-in-Fault
returns-in-Fault g c =
    let A = g.row.A.Denot in
    let n = named_in c.in-Some.named in
    let same = ap (map (λ line. line.now)) c.as_slice.ensures.value ∙ c.in_ok-lines.ensures in
    let again = ap (map (λ line. line.now)) c.as_slice-2.ensures.value ∙ c.in_ok-lines.ensures in
    let said = subst (λ b. Says A (map (λ line. line.now) c.as_slice-2.result.now) n (bound_in b)) c.in-Fault.is
    c.in_ok-spot.ensures in
    record {
      name = n;
      first = ap first_name (sym same) ∙ sym c.in-Some.ensures.name;
      says = subst (λ ls. Says A ls n (Err (spot_in c.in-Fault.spot))) again said;
    }

pub returns : goal.returns
returns g c =
    let A = g.row.A.Denot in
    let n = named_in c.in-Some.named in
    let same = ap (map (λ line. line.now)) c.as_slice.ensures.value ∙ c.in_ok-lines.ensures in
    let again = ap (map (λ line. line.now)) c.as_slice-2.ensures.value ∙ c.in_ok-lines.ensures in
    let said = subst (λ b. Says A (map (λ line. line.now) c.as_slice-2.result.now) n (bound_in b)) c.in-Value.is
    c.in_ok-spot.ensures in
    mapped c.put_first.result _ _
    (λ next puts. next_is A c.args.text.now c.in-Value.value.items n next
    (ap first_name (sym same) ∙ sym c.in-Some.ensures.name)
    (subst (λ ls. Says A ls n (Ok c.in-Value.value.items)) again said) puts)
    c.put_first.ensures
