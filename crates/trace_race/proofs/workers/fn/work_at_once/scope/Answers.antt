use Rattle.std.proofs.Common.{rules, ◌≡◌, ◌∙◌, ◌++◌, [], All, ap, map, subst, sym}
use Rattle.std.proofs.lemmas.List.{append-nil}
use Rattle.std.specs.Vec.Iter.{into_iter_items}
use Rattle.std.proofs.lemmas.List.Elements.{All-tail}
use Rattle.std.proofs.Crossing.{crosses}
use denote.Param.Send.{sendable}
use Rattle.cpu_threads.proofs.Crossing.{machine_sync}
use Rattle.trace_race.specs.declared.workers.Worker.{Worker}
use Rattle.trace_race.specs.Workers.{IsReady}
use Rattle.trace_race.proofs.Crossing.{asked_sync, done_send, worker_send}
use Rattle.trace_race.proofs.Made.{all_more, mapped_more, no_items}
use Rattle.trace_race.proofs.Threads.{IsTheirs, joins_all, joins_none, joins_one, passes_of}
use Rattle.trace_race.proofs.workers.fn.work_at_once.scope.Goals as goal

pub spawn_with-requires-send-F : goal.spawn_with-requires-send-F
spawn_with-requires-send-F g c κs within =
    search (sendable, crosses, machine_sync, asked_sync, worker_send) depth 60 fits 20000

pub spawn_with-requires-send-T : goal.spawn_with-requires-send-T
spawn_with-requires-send-T g c κs within = search (sendable, crosses, done_send) depth 60 fits 20000

pub loop-worker-preserved : goal.loop-worker-preserved
loop-worker-preserved g c =
    let i = c.loop-worker.invariant in
    let ready = IsReady c.captures.machine.now.table c.captures.steps.now in
    let theirs = IsTheirs c.captures.machine.now.table c.captures.steps.now in
    let both = subst (All ready) c.in-Some.ensures.steps.0 i.rest in
    record {
      next = tt;
      finite = tt;
      rest = All-tail ready c.in-Some.worker _ both;
      threads =
          mapped_more
          (λ h. h.promise.pass.value) c.loop-worker.threads.items _ c.in-Ok.thread c.in-Some.worker.pass _ _ _
          c.in_ok-push-in-Ok.ensures.items
          (ap (λ p. p.pass.value) c.in-Ok.ensures.ok ∙ c.promised-promise.ensures.pass)
          (ap (map (λ (w : Worker). w.pass)) c.in-Some.ensures.steps.0) i.threads;
      theirs = subst (All theirs) (sym c.in_ok-push-in-Ok.ensures.items)
          (all_more theirs c.loop-worker.threads.items c.in-Ok.thread i.theirs
          (record {
            table = ap (λ p. p.machine.value.table) c.in-Ok.ensures.ok
                ∙ ap (λ m. m.table) c.promised-promise.ensures.machine;
            steps_are =
                ap (λ p. p.steps.now) c.in-Ok.ensures.ok ∙ c.promised-promise.ensures.steps;
          }));
      none = i.none;
    }

pub loop-thread-init : goal.loop-thread-init
loop-thread-init g c =
    record {
      next = tt;
      finite = tt;
      joins = λ t steps theirs. joins_none t steps _ c.in_ok-all.all.items c.in_ok-all.ensures.items theirs;
    }

pub loop-thread-preserved : goal.loop-thread-preserved
loop-thread-preserved g c = record {
  next = tt;
  finite = tt;
  joins =
      λ t steps theirs. joins_one t steps _ _ _ c.loop-thread.all.items _ c.in-Some-thread.thread c.join.result
      c.in-Some-thread.ensures.steps.0 c.in_ok-push.ensures.items c.join.ensures
      (c.loop-thread.invariant.joins t steps theirs);
}

pub returns : goal.returns
returns g c =
    let i = c.loop-worker.invariant in
    let gives : into_iter_items c.into_iter-thread-iterator.result ≡ c.loop-worker.threads.items =
    c.into_iter-thread-iterator.ensures.into_iter_gives.0 in
    let given : into_iter_items c.into_iter-worker-iterator.result ≡ c.captures.workers.items =
    c.into_iter-worker-iterator.ensures.into_iter_gives.0 in
    let left : into_iter_items c.loop-worker.worker-iterator ≡ [] =
    no_items _ (let n = c.in-None.ensures.steps.0 in search rules) in
    let none : into_iter_items c.loop-thread.thread-iterator ≡ [] =
    no_items _ (let n = c.in-None-thread.ensures.steps.0 in search rules) in
    let theirs = subst (All (IsTheirs c.captures.machine.now.table c.captures.steps.now)) (sym gives) i.theirs in
    let passes : passes_of c.loop-worker.threads.items ≡ map (λ (w : Worker). w.pass) c.captures.workers.items =
    sym (append-nil (passes_of c.loop-worker.threads.items))
    ∙ (ap (λ ws. passes_of c.loop-worker.threads.items ++ map (λ (w : Worker). w.pass) ws) (sym left)
    ∙ (i.threads ∙ ap (map (λ (w : Worker). w.pass)) given)) in
    joins_all c.captures.machine.now.table c.captures.steps.now _ _ c.loop-thread.all.items _ none
    (ap passes_of gives ∙ passes)
    (c.loop-thread.invariant.joins c.captures.machine.now.table c.captures.steps.now theirs)
