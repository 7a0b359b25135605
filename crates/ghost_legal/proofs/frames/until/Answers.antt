use Rattle.std.proofs.Common.{arith, ap, ◌∙◌, ◌≡◌, ◌-◌, ℕ}
use Rattle.page_state.specs.Entries.{advance}
use Rattle.page_state.specs.Layouts.{hyp_page}
use Rattle.page_state.specs.Runs.{map_of}
use Rattle.ghost_legal.specs.Facts.{facts_later}
use Rattle.ghost_legal.specs.Frames.{facts_in}
use Rattle.ghost_legal.proofs.Steady.{entry-goes-on, facts-same, held-goes-on, row-goes-on}
use Rattle.ghost_legal.proofs.frames.until.Goals as goal

pub returns-clause-goes_on : goal.returns-clause-goes_on
returns-clause-goes_on c = λ f a b.
    let g = c.args.state.now in
    let p = c.args.places in
    let less = c.memory_until.ensures.below in
    let m1 = c.min.ensures in
    let m2 = c.min-2.ensures in
    let m3 = c.min-3.ensures in
    let m4 = c.min-most.ensures in
    let d : hyp_page f - hyp_page c.args.frame ≡ f - c.args.frame = omega arith in
    facts-same (facts_in g c.args.held.now f) (facts_later (facts_in g c.args.held.now c.args.frame) (f - c.args.frame))
    (c.memory_until.ensures.goes_on f a b)
    (entry-goes-on g.shared.host.runs.items c.args.frame p.host c.requires.places.host c.requires.kept.host.coarsest f a
    (omega (arith, b, less, m1, m2, m3, m4)))
    (entry-goes-on g.shared.hyp.runs.items
    (hyp_page c.args.frame) p.hyp c.requires.places.hyp c.requires.kept.hyp.coarsest (hyp_page f)
    (omega (arith, a)) (omega (arith, b, less, m1, m2, m3, m4))
    ∙ ap (λ (n : ℕ). advance (map_of g.shared.hyp.runs.items (hyp_page c.args.frame)) n) d)
    (row-goes-on g.shared.rows.runs c.args.frame p.rows c.requires.places.rows c.runs-rows.ensures.coarsest f a
    (omega (arith, b, less, m1, m2, m3, m4)))
    (held-goes-on c.args.held.now c.args.frame p.held c.requires.places.held c.requires.held.order f a
    (omega (arith, b, less, m1, m2, m3, m4)))
