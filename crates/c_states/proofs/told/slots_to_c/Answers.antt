use Rattle.std.proofs.Common.{◌≡◌, ap, get_or, map, rules, sym, ◌∙◌}
use Rattle.c_states.specs.declared.members.PlainSlot.{PlainSlot}
use Rattle.c_states.specs.Told.{slot_head_in, slot_head_from_c}
use Rattle.c_states.proofs.OneMore.{numbered_more, seen_more}
use Rattle.std.proofs.Common.{arith}
use Rattle.c_states.specs.Known.{is_slot}
use Rattle.c_states.proofs.ToldKnown.{known_more}
use Rattle.c_states.proofs.told.slots_to_c.Goals as goal

pub loop-i-preserved : goal.loop-i-preserved
loop-i-preserved c =
    let here : get_or c.args.slots.now c.loop-i.i c.index-slots-i.result ≡ c.index-slots-i.result = search rules in (
      ap (map (λ (x : PlainSlot). x.slot)) c.in_ok-push.ensures.items
          ∙ numbered_more (λ (x : PlainSlot). x.slot)
          (λ n. n) c.loop-i.told.items c.loop-i.i c.slot_to_c.result
          c.loop-i.invariant.0 c.slot_to_c.ensures.number,
      ap (map slot_head_from_c) c.in_ok-push.ensures.items
          ∙ seen_more slot_head_from_c slot_head_in c.args.slots.now c.loop-i.told.items c.loop-i.i
          c.index-slots-i.result c.slot_to_c.result c.loop-i-test.true c.loop-i.invariant.1
          (c.slot_to_c.ensures.head ∙ ap slot_head_in (sym here)),
      λ most. known_more is_slot c.loop-i.told.items c.push.new.self.items c.slot_to_c.result c.in_ok-push.ensures.items
          (c.loop-i.invariant.2 most) (c.slot_to_c.ensures.known (omega (arith, most, c.loop-i-test.true))),
    )
