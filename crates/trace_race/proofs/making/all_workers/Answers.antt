use Rattle.std.proofs.Common.{All, subst, sym}
use Rattle.std.proofs.lemmas.List.Elements.{All-tail}
use Rattle.part_table.specs.Passes.{IsPassOf}
use Rattle.trace_race.specs.declared.workers.Worker.{Worker}
use Rattle.trace_race.specs.Workers.{IsReady}
use Rattle.trace_race.proofs.Made.{all_more, mapped_more}
use Rattle.trace_race.proofs.making.all_workers.Goals as goal

pub loop-pass-preserved : goal.loop-pass-preserved
loop-pass-preserved c =
    let i = c.loop-pass.invariant in
    let both = subst (All (IsPassOf c.args.machine.now.table)) c.in-Some.ensures.steps.0 i.rest in
    record {
      next = tt;
      finite = tt;
      rest = All-tail (IsPassOf c.args.machine.now.table) c.in-Some.pass _ both;
      ready =
          subst (All (IsReady c.args.machine.now.table c.args.steps.now)) (sym c.in_ok-push.ensures.items)
          (all_more
          (IsReady c.args.machine.now.table c.args.steps.now) c.loop-pass.workers.items c.in_ok-new.field-0
          i.ready c.in_ok-new.ensures.ready);
      all =
          mapped_more
          (λ (w : Worker). w.pass) c.loop-pass.workers.items c.push.new.self.items c.in_ok-new.field-0
          c.in-Some.pass _ _ c.args.passes.items c.in_ok-push.ensures.items c.in_ok-new.ensures.pass
          c.in-Some.ensures.steps.0 i.all;
    }
