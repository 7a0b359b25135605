use Rattle.std.proofs.Common.{◌≡◌, ◌≤◌, ◌<◌, ◌∙◌, ap, get_or, length, Some, None, MatchOption, subst, sym}
use Rattle.trace_text.proofs.Machines.{held_at, none_at}
use Rattle.trace_explain.proofs.looking.guest_body.Goals as goal

pub returns-in_err-part : goal.returns-in_err-part
returns-in_err-part g c =
    let all = c.deref.ensures.value ∙ ap (λ p. p.guests.items) c.parts.ensures in
    let past : length c.deref.result.now ≤ c.args.slot = c.in_err-part.ensures.lookup.3 in
    rw c.from_residual.ensures (none_at c.args.world.now c.args.slot (subst (λ xs. length xs ≤ c.args.slot) all past))

pub returns : goal.returns
returns g c =
    let all = c.deref.ensures.value ∙ ap (λ p. p.guests.items) c.parts.ensures in
    let part = c.in_ok-part.part.now in
    let inside : c.args.slot < length c.deref.result.now = c.in_ok-part.ensures.lookup.3.0 in
    let at : part ≡ get_or c.deref.result.now c.args.slot part = c.in_ok-part.ensures.lookup.1 in
    let is =
    held_at c.args.world.now c.args.slot part (subst (λ xs. c.args.slot < length xs) all inside)
    (subst (λ xs. part ≡ get_or xs c.args.slot part) all at) in
    subst (λ o. MatchOption c.body.result (o ≡ None) (λ b. o ≡ Some b.now)) (sym is) c.body.ensures
