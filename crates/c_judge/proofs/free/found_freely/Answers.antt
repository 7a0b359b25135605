use Rattle.std.proofs.Common.{sym, ◌∙◌}
use Rattle.c_states.specs.Views.{lists_from_c}
use Rattle.c_judge.proofs.Callable.{cpu-is, generation-is}
use Rattle.c_judge.proofs.Said.{found-freely, unfound-freely}
use Rattle.c_judge.proofs.free.found_freely.Goals as goal

pub found_from-requires-clause-cpu : goal.found_from-requires-clause-cpu
found_from-requires-clause-cpu c =
    cpu-is c.args.layout.now c.args.layout.now.regions.now
    (lists_from_c c.args.before.now) c.args.call.now.cpu c.args.call.now.step c.in_ok-step.step c.in_ok-step.pre
    c.in_ok-step.ensures.ready

pub found_from-requires-clause-generation : goal.found_from-requires-clause-generation
found_from-requires-clause-generation c =
    generation-is c.args.layout.now c.args.layout.now.regions.now
    (lists_from_c c.args.before.now) c.args.call.now.cpu c.args.call.now.step c.in_ok-step.step c.in_ok-step.pre
    c.in_ok-step.ensures.ready

pub returns-clause-found : goal.returns-clause-found
returns-clause-found c =
    found-freely c.args.freedoms c.args.layout.now c.args.layout.now.regions.now
    (lists_from_c c.args.before.now) c.args.call.now
    (lists_from_c c.args.after.now) c.in_ok-step.step c.in_ok-step.pre c.in_ok-step.ensures.ready c.in-Some.said
    (sym c.said_of.ensures ∙ c.in-Some.is) c.found_from.result c.found_from.ensures.found

pub returns-clause-unfound : goal.returns-clause-unfound
returns-clause-unfound c =
    unfound-freely c.args.freedoms c.args.layout.now c.args.layout.now.regions.now
    (lists_from_c c.args.before.now) c.args.call.now
    (lists_from_c c.args.after.now) c.in_ok-step.step c.in_ok-step.pre c.in_ok-step.ensures.ready c.in-Some.said
    (sym c.said_of.ensures ∙ c.in-Some.is) c.found_from.result c.found_from.ensures.unfound
