use Rattle.std.proofs.Common.{◌<◌, length, refl, sym, ap, subst, ◌∙◌, arith}
use Rattle.std.proofs.lemmas.List.{get_or-map, length-set}
use Rattle.std.proofs.lemmas.List.Elements.{All-set}
use Rattle.reference_model.specs.model.State.{put_at, no_guest}
use Rattle.ghost_spec.specs.Kept.{IsKeptGuest}
use Rattle.ghost_spec.specs.States.{guest_in}
use Rattle.ghost_spec.proofs.Predictions.{put-again, put-list}
use Rattle.ghost_spec.proofs.used.take_guest.Goals as goal

pub returns-in-Some-clause-others : goal.returns-in-Some-clause-others
returns-in-Some-clause-others c g =
    let low : c.in-Some.v < 64 = rw c.in-Some.is at c.requires.slot in
    rw c.in-Some.is
    (ap (λ (f : _). put_at f c.in-Some.v g)
    (put-list guest_in no_guest c.args.guests.now.items c.in-Some.v c.replace.new.dest
    (omega (arith, low, c.requires.count)))
    ∙ put-again _ c.in-Some.v _ g)

pub returns-in-Some-clause-count : goal.returns-in-Some-clause-count
returns-in-Some-clause-count c = length-set c.args.guests.now.items c.in-Some.v c.replace.new.dest ∙ c.requires.count

pub returns-in-None-clause-guest : goal.returns-in-None-clause-guest
returns-in-None-clause-guest c = rw c.in-None.is c.none-in-None.ensures.none

pub returns-in-None-clause-kept : goal.returns-in-None-clause-kept
returns-in-None-clause-kept c = c.none-in-None.ensures.kept

pub returns-in-None-clause-others : goal.returns-in-None-clause-others
returns-in-None-clause-others c g = refl

pub returns-in-None-clause-count : goal.returns-in-None-clause-count
returns-in-None-clause-count c = c.requires.count

pub returns-in-None-clause-left : goal.returns-in-None-clause-left
returns-in-None-clause-left c = c.requires.kept

pub returns-in-Some-clause-left : goal.returns-in-Some-clause-left
returns-in-Some-clause-left c =
    All-set IsKeptGuest c.args.guests.now.items c.in-Some.v c.replace.new.dest
    (rw c.replace.ensures.after c.none.ensures.kept) c.requires.kept

pub returns-in-Some-clause-guest : goal.returns-in-Some-clause-guest
returns-in-Some-clause-guest c =
    let low : c.in-Some.v < 64 = rw c.in-Some.is at c.requires.slot in
    let less : c.in-Some.v < length c.args.guests.now.items = omega (arith, low, c.requires.count) in
    rw c.in-Some.is
    (ap guest_in (c.replace.ensures.value ∙ c.index_mut.ensures.value)
    ∙ sym (get_or-map guest_in c.args.guests.now.items c.in-Some.v c.index_mut.result.now no_guest less))

pub returns-in-Some-clause-kept : goal.returns-in-Some-clause-kept
returns-in-Some-clause-kept c =
    let low : c.in-Some.v < 64 = rw c.in-Some.is at c.requires.slot in
    let less : c.in-Some.v < length c.args.guests.now.items = omega (arith, low, c.requires.count) in
    rw c.replace.ensures.value
    (subst IsKeptGuest (sym c.index_mut.ensures.value) (c.requires.kept c.in-Some.v c.index_mut.result.now less))
