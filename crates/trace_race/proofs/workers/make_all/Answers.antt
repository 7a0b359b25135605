use Rattle.std.proofs.Common.{arith, rules, ◌≡◌, ◌∙◌, ◌++◌, ◌∷◌, [], ◌≤◌, ap, length, refl, subst, sym}
use Rattle.std.specs.Prelude.{is_ok, if◌then◌else◌}
use Rattle.std.specs.Vec.{vec_capacity}
use Rattle.trace_race.specs.Made.{Makes, paired, steps_of}
use Rattle.trace_race.specs.Workers.{HearsEach}
use Rattle.trace_race.proofs.Hearing.{hears_none, hears_on}
use Rattle.trace_race.proofs.Made.{own_all, own_first, own_made}
use Rattle.trace_race.proofs.workers.make_all.Goals as goal

pub loop-i-init : goal.loop-i-init
loop-i-init g c = record {
  of = c.requires.of;
  own = c.cpu-cpu.ensures.number;
  same = refl;
  room =
      subst (λ k. length (steps_of k c.args.steps.now) ≤ vec_capacity c.args.replies.now)
      (sym c.cpu-cpu.ensures.number) c.requires.room;
  heard =
      hears_none
      (g.G.Gate.heard_taken c.args.gate.now c.args.pass.now.knows.cpu) c.args.pass.now.knows
      c.args.pass.now.knows refl;
  makes = own_first c.cpu-cpu.result c.args.steps.now c.args.pass.now.knows c.args.replies.now.items c.requires.none;
}

pub loop-i-preserved : goal.loop-i-preserved
loop-i-preserved g c =
    let i = c.loop-i.invariant in
    let items =
    c.push.ensures.items
    ∙ ap
    (λ r. if is_ok r then c.loop-i.replies.items ++ c.call-reply.result ∷ []
    else c.loop-i.replies.items) c.unwrap.ensures in
    record {
      of = c.call-reply.ensures.of;
      own = i.own;
      same = c.call-reply.ensures.cpu ∙ i.same;
      room = search rules;
      heard =
          hears_on
          (g.G.Gate.heard_taken c.args.gate.now c.args.pass.now.knows.cpu) c.args.pass.now.knows
          c.loop-i.pass.knows c.call-reply.new.pass.knows i.heard
          (subst
          (λ n. HearsEach
          (g.G.Gate.heard_taken c.args.gate.now n) c.loop-i.pass.knows c.call-reply.new.pass.knows) i.same
          c.call-reply.ensures.heard);
      makes =
          own_made c.cpu-cpu.result c.args.steps.now c.loop-i.i _ c.args.pass.now.knows c.loop-i.pass.knows
          c.call-reply.new.pass.knows c.loop-i.replies.items c.push.new.self.items c.call-reply.result
          c.loop-i-test.true c.if-asked-cpu.false items c.call-reply.ensures.calls i.makes;
    }

pub returns-clause-makes : goal.returns-clause-makes
returns-clause-makes g c =
    let i = c.loop-i.invariant in
    let all =
    own_all c.cpu-cpu.result c.args.steps.now c.loop-i.i c.args.pass.now.knows c.loop-i.pass.knows
    c.loop-i.replies.items
    (omega (arith, c.loop-i-test.false)) i.makes in
    subst
    (λ k. Makes c.args.pass.now.knows
    (paired (steps_of k c.args.steps.now) c.loop-i.replies.items) c.loop-i.pass.knows) i.own all.1

pub returns-clause-count : goal.returns-clause-count
returns-clause-count g c =
    let i = c.loop-i.invariant in
    let all =
    own_all c.cpu-cpu.result c.args.steps.now c.loop-i.i c.args.pass.now.knows c.loop-i.pass.knows
    c.loop-i.replies.items
    (omega (arith, c.loop-i-test.false)) i.makes in
    subst (λ k. length c.loop-i.replies.items ≡ length (steps_of k c.args.steps.now)) i.own all.0

pub returns-clause-heard : goal.returns-clause-heard
returns-clause-heard g c = c.loop-i.invariant.heard
