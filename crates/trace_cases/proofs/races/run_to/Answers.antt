use Rattle.std.proofs.Common.{arith, map, subst, sym, take}
use Rattle.std.proofs.lemmas.List.{length-map, length-take, take-map}
use Rattle.trace_text.proofs.ReplayLemmas.{mapped}
use Rattle.trace_text.specs.Session.{at_start}
use Rattle.trace_check.specs.Runs.{Runs}
use Rattle.trace_check.specs.View.{told_in}
use Rattle.trace_check.proofs.Going.{runs_few}
use Rattle.trace_cases.proofs.races.run_to.Goals as goal

pub padded-requires-clause-few : goal.padded-requires-clause-few
padded-requires-clause-few g c =
    let lines = map (λ line. line.now) (take c.args.count c.args.lines.now) in
    let few = runs_few 1 at_start lines (told_in c.in_ok-carried.carried.told.items) c.in_ok-carried.ensures.told in
    omega (
      arith,
      few,
      c.requires,
      length-take c.args.count c.args.lines.now,
      length-map (take c.args.count c.args.lines.now) (λ line. line.now),
      length-map c.in_ok-carried.carried.told.items (λ reported. reported.items),
    )

pub returns-clause-run : goal.returns-clause-run
returns-clause-run g c =
    mapped c.padded.result _ _
    (λ all told. record {
      own = told_in c.in_ok-carried.carried.told.items;
      runs =
          subst (λ ls. Runs 1 at_start ls (told_in c.in_ok-carried.carried.told.items))
          (sym (take-map (λ line. line.now) c.args.count c.args.lines.now)) c.in_ok-carried.ensures.told;
      told_is = told;
    })
    c.padded.ensures.told
