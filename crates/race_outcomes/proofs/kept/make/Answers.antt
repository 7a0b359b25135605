use Rattle.std.proofs.Common.{refl, sym, subst}
use Rattle.std.specs.Prelude.{OnOk, Result}
use Rattle.page_state.specs.LayoutView.{layout_of}
use Rattle.race_outcomes.specs.declared.finding.OutcomesFault.{OutcomesFault}
use Rattle.race_outcomes.specs.declared.kept.Known.{Known}
use Rattle.race_outcomes.specs.declared.kept.Made.{Made}
use Rattle.race_outcomes.specs.Kept.{IsKnown}
use Rattle.race_outcomes.proofs.Known.{known_made, leads_shared}
use Rattle.race_outcomes.proofs.kept.make.Goals.{in-Ok-push, in-Err}
use Rattle.race_outcomes.proofs.kept.make.Goals as goal

pub returns-clause-known : goal.returns-clause-known
returns-clause-known c =
    let k = c.args.known.now in
    let l = layout_of k.state.layout in
    let turns = c.args.turns.now in
    let new : Known = record { state = k.state; made = c.push.new.self } in
    let m = c.in-Ok-again.again in
    let Told : Result Made OutcomesFault → Type 0 = λ r. OnOk r (IsKnown l turns new) in
    let leads =
    leads_shared k.state c.get.result.now c.in_ok-reply.after c.in-Ok.state c.args.turn c.in_ok-reply.reply
    c.get.ensures c.in_ok-reply.ensures.told c.in_ok-reply.ensures.layout c.in-Ok.ensures.state
    c.in-Ok.ensures.layout in
    elim c.match-push.branch [
      | in-Ok-push w ↦
          subst Told (sym w.result-is)
          (known_made l turns k new c.args.turn m c.args.place c.in_ok-reply.reply c.in-Ok.state c.requires.known
          c.requires.at leads c.in-Ok-again.ensures.place c.in-Ok-again.ensures.reply c.in-Ok-again.ensures.state
          refl w.in-Ok-push.ensures.items)
      | in-Err w ↦ subst Told (sym w.result-is) tt
    ]
