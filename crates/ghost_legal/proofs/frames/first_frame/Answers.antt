use Rattle.std.proofs.Common.{arith, sym, subst, ◌≡◌, ◌+◌, ◌-◌, ◌^◌, ◌≤◌, ℕ}
use Rattle.page_state.specs.Layouts.{hyp_page}
use Rattle.page_state.proofs.Cases.{by_lt}
use Rattle.ghost_legal.specs.declared.finding.Facts.{Facts}
use Rattle.ghost_legal.specs.Facts.{facts_later, IsCondition, IsLowHolder}
use Rattle.ghost_legal.specs.Frames.{facts_in, held_frames}
use Rattle.ghost_legal.proofs.InOrder.{near_later}
use Rattle.ghost_legal.proofs.Later.{condition-later}
use Rattle.ghost_legal.proofs.Past.{low-at, past}
use Rattle.ghost_legal.proofs.frames.first_frame.Goals as goal

pub fits-requires-clause-holder : goal.fits-requires-clause-holder
fits-requires-clause-holder c =
    subst (λ (x : Facts). IsLowHolder x.holder) (sym c.facts_at-facts.ensures)
    (low-at c.args.held.now c.loop-frame.frame c.requires.held.small)

goes-on : (p : ℕ → Facts) (frame f : ℕ)
    → frame ≤ f
    → IsCondition frame (p frame)
    → p f ≡ facts_later (p frame) (f - frame)
    → IsCondition f (p f)
goes-on p frame f a k e =
    let n : frame + (f - frame) ≡ f = omega (arith, a) in
    subst (IsCondition f) (sym e)
    (subst (λ (m : ℕ). IsCondition m (facts_later (p frame) (f - frame))) n
    (condition-later frame (p frame) (f - frame) k))

pub loop-frame-preserved : goal.loop-frame-preserved
loop-frame-preserved c =
    let g = c.args.state.now in
    let hs = c.args.held.now in
    let frame = c.loop-frame.frame in
    let p = c.places_at-places.ensures in
    let above = c.until-frame.ensures.above in
    let next = c.until-frame.result in
    let here : IsCondition frame (facts_in g hs frame) =
    subst (IsCondition frame) c.facts_at-facts.ensures (c.fits.ensures.0 (search)) in
    record {
      low = c.until-frame.ensures.below;
      near = record {
        host = near_later _ frame next _ _ (omega (arith, above)) p.host.near;
        hyp = near_later _ (hyp_page frame) (hyp_page next) _ _ (omega (arith, above)) p.hyp.near;
        rows = near_later _ frame next _ _ (omega (arith, above)) p.rows.near;
        held = near_later held_frames frame next _ _ (omega (arith, above)) p.held.near;
      };
      done = λ f less. by_lt f frame
          (λ l. c.loop-frame.invariant.done f l)
          (λ l. goes-on (facts_in g hs) frame f l here (c.until-frame.ensures.goes_on f l less));
    }

pub returns : goal.returns
returns c = λ f. by_lt f (2 ^ 63)
    (λ l. c.loop-frame.invariant.done f (omega (arith, l, c.loop-frame-test.false)))
    (λ l. past c.args.state.now c.args.held.now f c.regions-regions.ensures.accepted c.requires.kept c.requires.held l)
