use Rattle.std.proofs.Common.{◌≡◌, ℕ, suc, ◌+◌, ◌<◌, List, [], ◌∷◌, ◌++◌, length, map, take, get_or, ap, sym, ◌∙◌, arith}
use Rattle.std.proofs.lemmas.List.{map_push}
use Rattle.std.proofs.Math.Seq.{take-suc}
use Rattle.page_state.proofs.Common.{same2}
use Rattle.reference_model.specs.model.State.{Guest}
use Rattle.ghost_spec.specs.declared.parts.GhostGuest.{GhostGuest}
use Rattle.ghost_spec.specs.Kept.{IsKeptGuest}
use Rattle.ghost_spec.specs.States.{guest_in}
use Rattle.ghost_trees.proofs.Pushed.{all_pushed}
use Rattle.ghost_spec.proofs.parts.copied_guests.Goals as goal

copied-more : (xs ys : List GhostGuest) (i : ℕ) (x copy : GhostGuest)
    → i < length xs
    → x ≡ get_or xs i x
    → map guest_in ys ≡ map guest_in (take i xs)
    → guest_in copy ≡ guest_in x
    → map guest_in (ys ++ copy ∷ []) ≡ map guest_in (take (i + 1) xs)
copied-more xs ys i x copy less e same one =
    let next : i + 1 ≡ suc i = omega arith in
    map_push guest_in ys copy ∙ same2 (λ (gs : List Guest) (g : Guest). gs ++ g ∷ []) same (one ∙ ap guest_in e)
    ∙ sym (map_push guest_in (take i xs) (get_or xs i x)) ∙ ap (map guest_in) (sym (take-suc xs i x less))
    ∙ ap (λ (n : ℕ). map guest_in (take n xs)) (sym next)

pub loop-guest-preserved : goal.loop-guest-preserved
loop-guest-preserved c = record {
  same =
      ap (map guest_in) c.in_ok-push.ensures.items
      ∙ copied-more c.args.guests.now c.loop-guest.copies.items c.loop-guest.guest-index c.guest-item.result
      c.in_ok-copied.field-0 c.loop-guest-test.true c.guest-item.is
      c.loop-guest.invariant.same c.in_ok-copied.ensures.same;
  kept =
      all_pushed IsKeptGuest c.loop-guest.copies.items c.push.new.self.items c.in_ok-copied.field-0
      c.in_ok-push.ensures.items c.loop-guest.invariant.kept c.in_ok-copied.ensures.kept;
}
