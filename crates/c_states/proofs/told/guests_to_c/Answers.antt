use Rattle.std.proofs.Common.{◌≡◌, ap, get_or, map, rules, sym, ◌∙◌}
use Rattle.c_states.specs.declared.members.PlainGuest.{PlainGuest}
use Rattle.c_states.specs.Told.{guest_head_in, guest_head_from_c}
use Rattle.c_states.proofs.OneMore.{numbered_more, seen_more}
use Rattle.std.proofs.Common.{arith}
use Rattle.c_states.specs.Known.{is_guest}
use Rattle.c_states.proofs.ToldKnown.{known_more}
use Rattle.c_states.proofs.told.guests_to_c.Goals as goal

pub loop-i-preserved : goal.loop-i-preserved
loop-i-preserved c =
    let here : get_or c.args.guests.now c.loop-i.i c.index-guests-i.result ≡ c.index-guests-i.result = search rules in (
      ap (map (λ (x : PlainGuest). x.slot)) c.in_ok-push.ensures.items
          ∙ numbered_more (λ (x : PlainGuest). x.slot)
          (λ n. n) c.loop-i.told.items c.loop-i.i c.guest_to_c.result
          c.loop-i.invariant.0 c.guest_to_c.ensures.number,
      ap (map guest_head_from_c) c.in_ok-push.ensures.items
          ∙ seen_more guest_head_from_c guest_head_in c.args.guests.now c.loop-i.told.items c.loop-i.i
          c.index-guests-i.result c.guest_to_c.result c.loop-i-test.true c.loop-i.invariant.1
          (c.guest_to_c.ensures.head ∙ ap guest_head_in (sym here)),
      λ most. known_more is_guest c.loop-i.told.items c.push.new.self.items c.guest_to_c.result
          c.in_ok-push.ensures.items
          (c.loop-i.invariant.2 most) (c.guest_to_c.ensures.known (omega (arith, most, c.loop-i-test.true))),
    )
