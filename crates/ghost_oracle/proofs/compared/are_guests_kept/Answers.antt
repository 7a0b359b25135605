use Rattle.std.proofs.Common.{◌∙◌, refl, ap, sym, map, arith}
use Rattle.std.proofs.lemmas.List.{take_all}
use Rattle.guest_component.specs.View.{runs_of}
use Rattle.ghost_oracle.proofs.Comparing.{same_at}
use Rattle.ghost_oracle.proofs.Lists.{given_next}
use Rattle.ghost_oracle.proofs.compared.are_guests_kept.Goals as goal

pub returns-then-not-is_guest_kept : goal.returns-then-not-is_guest_kept
returns-then-not-is_guest_kept g c = (
  λ h. cc,
  λ h.
      let yes =
      c.is_guest_kept.ensures.1
      (same_at (λ x. x.tree.runs.items)
      (λ x. runs_of x.guest.body) c.args.found.now c.args.parts.now c.loop-v.v _ _ h
      (omega (arith, c.requires, c.loop-v-test.true)) c.loop-v-test.true c.index-found-v.is
      c.index-parts-v.is
      ∙ ap (λ x. runs_of x.guest.body) c.index-parts-v.is) in
      let no = c.if-not-is_guest_kept.true in
      let clash = sym yes ∙ no in cc,
)

pub loop-v-preserved : goal.loop-v-preserved
loop-v-preserved g c =
    sym
    (given_next (λ x. x.tree.runs.items) c.args.found.now c.loop-v.v _
    (omega (arith, c.requires, c.loop-v-test.true)) c.index-found-v.is _ _ refl refl)
    ∙ given_next
    (λ x. runs_of x.guest.body) c.args.parts.now c.loop-v.v _ c.loop-v-test.true c.index-parts-v.is _ _
    c.loop-v.invariant
    (c.is_guest_kept.ensures.0 c.if-not-is_guest_kept.false
    ∙ ap (λ x. runs_of x.guest.body) (sym c.index-parts-v.is))

pub returns : goal.returns
returns g c = (
  λ h.
      ap (map (λ x. x.tree.runs.items))
      (sym (take_all c.loop-v.v c.args.found.now (omega (arith, c.requires, c.loop-v-test.false))))
      ∙ c.loop-v.invariant
      ∙ ap (map (λ x. runs_of x.guest.body)) (take_all c.loop-v.v c.args.parts.now c.loop-v-test.false),
  λ h. refl,
)
