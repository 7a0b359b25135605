use Rattle.std.proofs.Common.{◌≡◌, ◌∙◌, [], ap, false, length, true}
use Rattle.std.specs.Prelude.{nat_lt}
use Rattle.ghost_oracle.proofs.PokedParts.{past_seen, word_unpoked}
use Rattle.ghost_oracle.proofs.pokes.guest_word.Goals as goal

pub returns-in_err-part : goal.returns-in_err-part
returns-in_err-part g c =
    let h : false ≡ nat_lt c.args.slot (length c.deref.result.now) = c.in_err-part.ensures.lookup.0 in
    c.from_residual.ensures
    ∙ past_seen c.args.parts.now.guests.items [] c.args.slot c.args.path.now
    (h ∙ ap (λ xs. nat_lt c.args.slot (length xs)) c.deref.ensures.value)

pub returns : goal.returns
returns g c =
    let a : true ≡ nat_lt c.args.slot (length c.deref.result.now) = c.in_ok-part.ensures.lookup.0 in
    c.slot_word.ensures
    ∙ word_unpoked c.args.parts.now.guests.items [] c.args.slot c.args.path.now c.in_ok-part.part.now
    (a ∙ ap (λ xs. nat_lt c.args.slot (length xs)) c.deref.ensures.value)
    (rw c.deref.ensures.value at c.in_ok-part.ensures.lookup.1)
