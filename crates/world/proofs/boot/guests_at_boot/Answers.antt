use Rattle.std.proofs.Common.{◌≡◌, ◌+◌, ◌++◌, ◌∷◌, [], All, Bool, true, is_ok, if◌then◌else◌, ap, sym, subst, ◌∙◌, arith}
use Rattle.std.proofs.lemmas.List.Elements.{All-push}
use Rattle.world.specs.Boots.{IsVacant}
use Rattle.world.proofs.Merging.{if_not_ok}
use Rattle.world.proofs.boot.guests_at_boot.Goals as goal

pub loop-made-preserved : goal.loop-made-preserved
loop-made-preserved g c =
    let made : is_ok c.push.result ≡ true = sym c.map_err.ensures.variant ∙ ap is_ok c.in_ok-map_err.was in
    let items =
    c.push.ensures.items
    ∙ ap
    (λ (b : Bool). if b then c.loop-made.guests.items ++ c.in_ok-part.part ∷ []
    else c.loop-made.guests.items) made in
    let long = c.push.ensures.len ∙ ap (λ b. if b then c.loop-made.guests.len + 1 else c.loop-made.guests.len) made in
    record {
      count = omega (arith, long, c.loop-made.invariant.count);
      vacant =
          subst (All (IsVacant c.args.geometry c.args.calls)) (sym items)
          (All-push
          (IsVacant c.args.geometry c.args.calls) c.loop-made.guests.items c.in_ok-part.part
          c.loop-made.invariant.vacant c.in_ok-part.ensures);
    }

pub returns-in_err-guests-clause-count : goal.returns-in_err-guests-clause-count
returns-in_err-guests-clause-count g c = if_not_ok _ _ c.from_residual.result c.from_residual.ensures.1

pub returns-in_err-guests-clause-vacant : goal.returns-in_err-guests-clause-vacant
returns-in_err-guests-clause-vacant g c = if_not_ok _ _ c.from_residual.result c.from_residual.ensures.1

pub returns-in_err-part-clause-count : goal.returns-in_err-part-clause-count
returns-in_err-part-clause-count g c =
    if_not_ok _ _ c.from_residual-in_err-part.result c.from_residual-in_err-part.ensures.1

pub returns-in_err-part-clause-vacant : goal.returns-in_err-part-clause-vacant
returns-in_err-part-clause-vacant g c =
    if_not_ok _ _ c.from_residual-in_err-part.result c.from_residual-in_err-part.ensures.1

pub returns-in_err-map_err-clause-count : goal.returns-in_err-map_err-clause-count
returns-in_err-map_err-clause-count g c =
    if_not_ok _ _ c.from_residual-in_err-map_err.result c.from_residual-in_err-map_err.ensures.1

pub returns-in_err-map_err-clause-vacant : goal.returns-in_err-map_err-clause-vacant
returns-in_err-map_err-clause-vacant g c =
    if_not_ok _ _ c.from_residual-in_err-map_err.result c.from_residual-in_err-map_err.ensures.1

pub loop-made-init : goal.loop-made-init
loop-made-init g c = record {
  count = c.in_ok-guests.ensures.len;
  vacant =
      subst (All (IsVacant c.args.geometry c.args.calls)) (sym c.in_ok-guests.ensures.items)
      (λ k d less. absurd (omega (arith, less)));
}

pub returns-clause-count : goal.returns-clause-count
returns-clause-count g c =
    omega (arith, c.loop-made.invariant.count, c.loop-made-test.false, c.loop-made.auto._made-end)

pub returns-clause-vacant : goal.returns-clause-vacant
returns-clause-vacant g c = c.loop-made.invariant.vacant
