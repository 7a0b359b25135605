use Rattle.std.proofs.Common.{arith, ◌≡◌, ◌∙◌, ◌++◌, ℕ, List, ap, drop, length, subst, sym, take}
use Rattle.std.proofs.lemmas.List.{length-append}
use Rattle.page_state.specs.LayoutView.{layout_of}
use Rattle.page_state.specs.Layouts.{Layout}
use Rattle.call_table.specs.declared.reply.Reply.{Reply}
use Rattle.part_table.specs.Passes.{Opened}
use Rattle.trace_race.specs.declared.course.Asked.{Asked}
use Rattle.trace_race.specs.Made.{AreBelow, AreDone, AreFirstPasses, HasBegun}
use Rattle.trace_race.proofs.Made.{below_dropped, below_taken, front_cut, rest_cut}
use Rattle.trace_race.proofs.making.make.Goals as goal

pub begin-requires-clause-below : goal.begin-requires-clause-below
begin-requires-clause-below g c =
    subst (AreBelow c.args.cpus) (sym c.split_at.ensures.front)
    (below_taken c.args.cpus c.args.steps.now c.args.first c.requires.below)

pub all_passes-requires-clause-cpus : goal.all_passes-requires-clause-cpus
all_passes-requires-clause-cpus g c =
    c.requires.cpus ∙ sym (ap (λ (l : Layout). l.config.cpus) c.in_ok-machine.ensures.layout)

pub make_on-requires-clause-first : goal.make_on-requires-clause-first
make_on-requires-clause-first g c κs within =
    subst (λ (t : Opened). AreFirstPasses t t.layout.config.cpus c.in_ok-passes.passes.items)
    (sym c.all_passes.ensures.table) c.in_ok-passes.ensures.first

pub make_on-requires-clause-below : goal.make_on-requires-clause-below
make_on-requires-clause-below g c κs within =
    let count =
    c.requires.cpus ∙ sym (ap (λ (l : Layout). l.config.cpus) c.in_ok-machine.ensures.layout)
    ∙ sym (ap (λ (t : Opened). t.layout.config.cpus) c.all_passes.ensures.table) in
    subst (λ (n : ℕ). AreBelow n c.split_at.result.1.now) count
    (subst (AreBelow c.args.cpus) (sym c.split_at.ensures.back)
    (below_dropped c.args.cpus c.args.steps.now c.args.first c.requires.below))

pub returns : goal.returns
returns g c =
    let n : ℕ = c.args.first in
    let b = c.in_ok-machine.ensures.begun in
    let all = rw c.in-Some.is at c.in_ok-ended.ensures in
    let table = c.all_passes.ensures.table in
    let first : List Reply = c.begin.new.replies.items in
    let more : List Reply = all.0 in
    let long : length first ≡ n = b.replied ∙ c.split_at.ensures.front_len in
    let front = sym (front_cut n first more long) ∙ ap (take n) (sym all.1) in
    let rest = sym (rest_cut n first more long) ∙ ap (drop n) (sym all.1) in (
      ap (λ (t : Opened). layout_of t.layout) table ∙ c.in_ok-machine.ensures.layout,
      record {
        count = let m = ap length all.1 in
            let k = length-append first more in
            let d = all.2 in
            omega (arith, m, k, d, long, c.split_at.ensures.back_len);
        made = record {
          begun =
              subst (λ (z : Opened × (List Asked × List Reply)). HasBegun z.0 z.1.0 z.1.1)
              (λ i. (sym table i, (c.split_at.ensures.front i, front i))) b;
          done =
              subst
              (λ
              (z : List Asked × List Reply). AreDone c.all_passes.new.machine.table z.0 z.1
              c.in-Some.ended.items)
              (λ i. (c.split_at.ensures.back i, rest i)) all.3;
        };
      },
    )
