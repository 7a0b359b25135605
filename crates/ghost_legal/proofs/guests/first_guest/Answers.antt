use Rattle.std.proofs.Common.{ap, sym, subst, get_or, List, ℕ, true, false, ◌≡◌, ◌∙◌}
use Rattle.std.specs.Prelude.{All}
use Rattle.std.proofs.lemmas.List.Elements.{All-more}
use Rattle.ghost_spec.specs.declared.parts.GhostGuest.{GhostGuest}
use Rattle.ghost_legal.specs.Pages.{IsWhole}
use Rattle.ghost_legal.proofs.Found.{below-64}
use Rattle.ghost_legal.proofs.Steady.{all_taken}
use Rattle.ghost_legal.proofs.guests.first_guest.Goals as goal

pub returns-then-not-is_whole : goal.returns-then-not-is_whole
returns-then-not-is_whole c =
    let g = c.args.state.now in
    let gs = c.as_slice-guests.result.now in
    let e = c.as_slice-guests.ensures.value in (
      c.requires.slots,
      record {
        slot = below-64 gs g.guests.items c.loop-slot.slot e c.requires.kept.guests_count c.loop-slot-test.true;
        guest = c.index-guests-slot.result;
        is =
            c.index-guests-slot.is
            ∙ ap (λ (ys : List GhostGuest). get_or ys c.loop-slot.slot c.index-guests-slot.result) e;
        not_whole = λ w. let bad : true ≡ false =
            sym
            (c.is_whole.ensures.1
            (subst (λ (n : ℕ). IsWhole n c.index-guests-slot.result) (sym c.depth_of-depth.ensures.value) w))
            ∙ c.if-not-is_whole.true in
            cc;
      },
    )

pub loop-slot-preserved : goal.loop-slot-preserved
loop-slot-preserved c =
    All-more
    (IsWhole c.depth_of-depth.result) c.as_slice-guests.result.now c.loop-slot.slot c.index-guests-slot.result
    c.loop-slot-test.true c.loop-slot.invariant
    (subst (IsWhole c.depth_of-depth.result) c.index-guests-slot.is (c.is_whole.ensures.0 c.if-not-is_whole.false))

pub returns : goal.returns
returns c =
    let all =
    all_taken
    (IsWhole c.depth_of-depth.result) c.as_slice-guests.result.now c.loop-slot.slot c.loop-slot-test.false
    c.loop-slot.invariant in
    record {
      slots = c.requires.slots;
      guests =
          subst (λ (n : ℕ). All (IsWhole n) c.args.state.now.guests.items) c.depth_of-depth.ensures.value
          (subst
          (λ (gs : List GhostGuest). All (IsWhole c.depth_of-depth.result) gs) c.as_slice-guests.ensures.value
          all);
    }
