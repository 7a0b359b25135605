use Rattle.reference_model.specs.model.Rules.{rule}
use Rattle.std.proofs.Common.{rules}
use Rattle.part_types.specs.View.{cpu_of, shared_of}
use Rattle.decisions.proofs.Hands.{hand_low}
use Rattle.decisions.proofs.calls.hand.decide_unfund.Goals as goal

pub hyp_page-requires : goal.hyp_page-requires
hyp_page-requires g c =
    hand_low c.args.layout.now c.args.cpu.now.id (shared_of c.args.shared.now)
    (cpu_of c.args.cpu.now) c.in-Some.hand c.in-Some.is c.requires.rely

pub returns : goal.returns
unfolding rule
returns g c = search rules
