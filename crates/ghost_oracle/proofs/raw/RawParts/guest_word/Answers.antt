use Rattle.std.proofs.Common.{◌≡◌, ◌∙◌, ap, arith, false, length, true}
use Rattle.std.specs.Prelude.{nat_lt}
use Rattle.ghost_oracle.proofs.PokedParts.{past_poked, past_seen, word_seen}
use Rattle.ghost_oracle.proofs.raw.RawParts.guest_word.Goals as goal

pub returns-in_err-part : goal.returns-in_err-part
returns-in_err-part g c =
    let h : false ≡ nat_lt c.args.slot (length c.deref.result.now) = c.in_err-part.ensures.lookup.0 in
    c.from_residual.ensures
    ∙ past_seen c.args.self.now.guests.items c.args.self.now.poked.items c.args.slot c.args.path.now
    (h ∙ ap (λ xs. nat_lt c.args.slot (length xs)) c.deref.ensures.value)

pub returns-in_err-held : goal.returns-in_err-held
returns-in_err-held g c =
    let h : false ≡ nat_lt c.args.slot (length c.deref-2.result.now) = c.in_err-held.ensures.lookup.0 in
    let e : length c.args.self.now.poked.items ≡ length c.args.self.now.guests.items =
    omega (
      arith,
      c.args.self.now.slots,
      c.args.self.now.places,
      c.args.self.now.guests.ok.0,
      c.args.self.now.poked.ok.0,
    ) in
    c.from_residual-in_err-held.ensures
    ∙ past_poked c.args.self.now.guests.items c.args.self.now.poked.items c.args.slot c.args.path.now e
    (h ∙ ap (λ xs. nat_lt c.args.slot (length xs)) c.deref-2.ensures.value)

pub returns : goal.returns
returns g c =
    let a : true ≡ nat_lt c.args.slot (length c.deref.result.now) = c.in_ok-part.ensures.lookup.0 in
    let b : true ≡ nat_lt c.args.slot (length c.deref-2.result.now) = c.in_ok-held.ensures.lookup.0 in
    c.slot_word.ensures
    ∙ word_seen c.args.self.now.guests.items c.args.self.now.poked.items c.args.slot c.args.path.now
    c.in_ok-part.part.now c.in_ok-held.held.now
    (a ∙ ap (λ xs. nat_lt c.args.slot (length xs)) c.deref.ensures.value)
    (b ∙ ap (λ xs. nat_lt c.args.slot (length xs)) c.deref-2.ensures.value)
    (rw c.deref.ensures.value at c.in_ok-part.ensures.lookup.1)
    (rw c.deref-2.ensures.value at c.in_ok-held.ensures.lookup.1)
