use Rattle.std.proofs.Common.{ap, arith, ◌∙◌, length}
use Rattle.reference_model.specs.model.Step.{shared_after}
use Rattle.part_types.specs.Planned.{planned, shared_with}
use Rattle.part_types.specs.View.{depth_of}
use Rattle.part_types.proofs.Planned.{after_planned, host_back, hyp_back}
use Rattle.part_types.proofs.parts.SharedPart.change.Goals as goal

pub returns-clause-made : goal.returns-clause-made
returns-clause-made g c =
    let s = c.args.self.now in
    let r = c.reserve.new.self in
    let p = c.in_ok-plan.plan in
    let h = c.args.changes.now in
    let is = c.in_ok-plan.ensures.planned in
    let depth = c.reserve.ensures.rest.depth in
    record {
      made =
          c.commit.ensures.made ∙ ap (λ d. shared_after d (planned p) (shared_with p r)) depth
          ∙ after_planned (depth_of s) h p (shared_with p r) is.both ∙ ap (shared_after (depth_of s) h) is.whole;
      host_spares =
          omega (
            arith,
            c.commit.ensures.host_spares,
            is.host_spares,
            ap length (host_back s r p h depth is.both is.whole),
            c.need-need.ensures.host,
          );
      hyp_spares =
          omega (
            arith,
            c.commit.ensures.hyp_spares,
            is.hyp_spares,
            ap length (hyp_back s r p h depth is.both is.whole),
            c.need-need.ensures.hyp,
          );
    }
