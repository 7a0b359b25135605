use Rattle.std.proofs.Common.{arith, ◌≡◌, ◌∙◌, Some, length, map, ap, slice_get, subst, sym}
use Rattle.trace_race.specs.declared.workers.Done.{Done}
use Rattle.trace_race.specs.Made.{AreBelow, AreDone, IsGathered}
use Rattle.trace_race.specs.Workers.{AllFinish}
use Rattle.trace_race.proofs.Made.{all_done, all_of, count_at, count_is}
use Rattle.trace_race.proofs.making.make_on.Goals.{After-as_slice}
use Rattle.trace_race.proofs.making.make_on.Goals as goal

-- what the threads came to
finish : (g : _) (c : After-as_slice g)
    → AllFinish c.args.machine.now.table c.args.steps.now c.args.passes.items c.in-Some.done.items
finish g c =
    let all = rw c.in-Some.is at c.in_ok-done.ensures in
    subst
    (λ ps. AllFinish c.args.machine.now.table c.args.steps.now ps
    c.in-Some.done.items) c.in_ok-workers.ensures.passes_are all

count : (g : _) (c : After-as_slice g) → length c.in-Some.done.items ≡ c.args.machine.now.table.layout.config.cpus
count g c =
    count_is c.args.machine.now.table c.args.steps.now c.args.passes.items c.in-Some.done.items c.requires.first
    (finish g c)

pub all_workers-requires : goal.all_workers-requires
all_workers-requires g c =
    all_of c.args.machine.now.table c.args.machine.now.table.layout.config.cpus c.args.passes.items c.requires.first

pub gather-requires-clause-below : goal.gather-requires-clause-below
gather-requires-clause-below g c =
    let k = (goal.at.gather-requires-clause-below g c).After-as_slice in
    subst (λ n. AreBelow n c.args.steps.now) (sym (ap length c.as_slice.ensures.value ∙ count g k)) c.requires.below

pub gather-requires-clause-count : goal.gather-requires-clause-count
gather-requires-clause-count g c =
    let k = (goal.at.gather-requires-clause-count g c).After-as_slice in
    let n = count g k in
    let long = ap length c.as_slice.ensures.value in
    let first = c.requires.first.count in
    let ok = c.args.passes.ok.0 in
    omega (arith, n, long, first, ok, c.in_ok-cursors.ensures.count, c.len-count.ensures)

pub gather-requires-clause-done : goal.gather-requires-clause-done
gather-requires-clause-done g c =
    let k = (goal.at.gather-requires-clause-done g c).After-as_slice in
    λ cpu d there.
    count_at c.args.machine.now.table c.args.steps.now c.args.passes.items c.in-Some.done.items c.requires.first
    (finish g k) cpu d (subst (λ ds. slice_get ds cpu ≡ Some d) c.as_slice.ensures.value there)

pub returns : goal.returns
returns g c =
    let k = (goal.at.returns g c).After-as_slice in
    let gathered = c.in_ok-gather.ensures.gathered in
    let more : IsGathered c.args.steps.now c.in-Some.done.items gathered.0 =
    subst (λ ds. IsGathered c.args.steps.now ds gathered.0) c.as_slice.ensures.value gathered.2 in
    let done =
    all_done c.args.machine.now.table c.args.steps.now c.args.passes.items c.in-Some.done.items c.requires.first
    (finish g k) gathered.0 more in (
      gathered.0,
      gathered.1,
      more.count,
      subst (λ ps. AreDone c.args.machine.now.table c.args.steps.now gathered.0 ps)
          (sym c.in_ok-passes_of.ensures) done,
    )
