use Rattle.std.proofs.Common.{◌≡◌, ℕ, suc, ◌+◌, ◌<◌, List, [], ◌∷◌, ◌++◌, length, map, take, get_or, ap, sym, ◌∙◌, arith}
use Rattle.std.specs.Prelude.{false}
use Rattle.std.proofs.lemmas.List.{map_push}
use Rattle.std.proofs.Math.Seq.{take-suc}
use Rattle.page_state.proofs.Common.{same2}
use Rattle.reference_model.specs.model.State.{Guest}
use Rattle.ghost_spec.specs.declared.parts.GhostGuest.{GhostGuest}
use Rattle.ghost_spec.specs.Kept.{IsKeptGuest}
use Rattle.ghost_spec.specs.States.{guest_in}
use Rattle.ghost_trees.proofs.Pushed.{all_pushed}
use Rattle.free_judge.specs.Asked.{filled_guest}
use Rattle.free_judge.proofs.bare.bare_guests.Goals as goal

abbrev told : List ℕ → GhostGuest → Guest
told fs g = filled_guest false fs 0 (guest_in g)

copied-more : (fs : List ℕ) (xs ys : List GhostGuest) (i : ℕ) (x copy : GhostGuest)
    → i < length xs
    → x ≡ get_or xs i x
    → map guest_in ys ≡ map (told fs) (take i xs)
    → guest_in copy ≡ told fs x
    → map guest_in (ys ++ copy ∷ []) ≡ map (told fs) (take (i + 1) xs)
copied-more fs xs ys i x copy less e same one =
    let next : i + 1 ≡ suc i = omega arith in
    map_push guest_in ys copy ∙ same2 (λ (gs : List Guest) (g : Guest). gs ++ g ∷ []) same (one ∙ ap (told fs) e)
    ∙ sym (map_push (told fs) (take i xs) (get_or xs i x)) ∙ ap (map (told fs)) (sym (take-suc xs i x less))
    ∙ ap (λ (n : ℕ). map (told fs) (take n xs)) (sym next)

pub loop-guest-preserved : goal.loop-guest-preserved
loop-guest-preserved c = record {
  same =
      ap (map guest_in) c.in_ok-push.ensures.items
      ∙ copied-more c.args.frames.now c.args.guests.now c.loop-guest.copies.items c.loop-guest.guest-index
      c.guest-item.result c.in_ok-bare_guest.field-0 c.loop-guest-test.true c.guest-item.is
      c.loop-guest.invariant.same c.in_ok-bare_guest.ensures.same;
  kept =
      all_pushed IsKeptGuest c.loop-guest.copies.items c.push.new.self.items c.in_ok-bare_guest.field-0
      c.in_ok-push.ensures.items c.loop-guest.invariant.kept c.in_ok-bare_guest.ensures.kept;
}
