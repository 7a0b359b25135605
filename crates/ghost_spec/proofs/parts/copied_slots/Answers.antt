use Rattle.std.proofs.Common.{◌≡◌, ℕ, suc, ◌+◌, ◌<◌, List, [], ◌∷◌, ◌++◌, length, map, take, get_or, ap, sym, ◌∙◌, arith}
use Rattle.std.proofs.lemmas.List.{map_push}
use Rattle.std.proofs.Math.Seq.{take-suc}
use Rattle.page_state.proofs.Common.{same2}
use Rattle.reference_model.specs.model.State.{Slot}
use Rattle.ghost_spec.specs.declared.parts.GhostSlot.{GhostSlot}
use Rattle.ghost_spec.specs.States.{slot_in}
use Rattle.ghost_spec.proofs.parts.copied_slots.Goals as goal

copied-more : (xs ys : List GhostSlot) (i : ℕ) (x copy : GhostSlot)
    → i < length xs
    → x ≡ get_or xs i x
    → map slot_in ys ≡ map slot_in (take i xs)
    → slot_in copy ≡ slot_in x
    → map slot_in (ys ++ copy ∷ []) ≡ map slot_in (take (i + 1) xs)
copied-more xs ys i x copy less e same one =
    let next : i + 1 ≡ suc i = omega arith in
    map_push slot_in ys copy ∙ same2 (λ (gs : List Slot) (g : Slot). gs ++ g ∷ []) same (one ∙ ap slot_in e)
    ∙ sym (map_push slot_in (take i xs) (get_or xs i x)) ∙ ap (map slot_in) (sym (take-suc xs i x less))
    ∙ ap (λ (n : ℕ). map slot_in (take n xs)) (sym next)

pub loop-slot-preserved : goal.loop-slot-preserved
loop-slot-preserved c =
    ap (map slot_in) c.in_ok-push.ensures.items
    ∙ copied-more c.args.slots.now c.loop-slot.copies.items c.loop-slot.slot-index c.slot-item.result
    c.in_ok-copied.field-0 c.loop-slot-test.true c.slot-item.is c.loop-slot.invariant c.in_ok-copied.ensures
