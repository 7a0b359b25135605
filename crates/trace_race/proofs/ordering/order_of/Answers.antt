use Rattle.std.proofs.Common.{◌≡◌, ◌<◌, ◌==◌, ◌∙◌, ℕ, List, All, IfOk, Result, Ok, Err, Vec, ap, drop, filter, length, map, subst, sym, take}
use Rattle.std.specs.Global.{Global}
use Rattle.std.specs.Prelude.{slice_index}
use Rattle.page_state.specs.Layouts.{Layout}
use Rattle.call_table.specs.declared.reply.Reply.{Reply}
use Rattle.call_table.specs.declared.step.Step.{Step}
use Rattle.hypercalls.specs.Stands.{parts_layout}
use Rattle.trace_race.specs.declared.course.Asked.{Asked}
use Rattle.trace_race.specs.Made.{AreBelow}
use Rattle.trace_race.specs.Ordered.{OrdersBy, behind, own_from}
use Rattle.trace_race.proofs.Made.{below_dropped}
use Rattle.trace_race.proofs.Reordered.{calls_below, cpus_below, fits, has_order}
use Rattle.trace_race.proofs.ordering.order_of.Goals as goal

-- what comes of an Ok
on_ok : {X E : Type 0} (P Q : X → Type 0) (r : Result X E) → ((x : X) → P x → Q x) → IfOk r P → IfOk r Q
on_ok P Q (Ok x) f h = f x h
on_ok P Q (Err e) f h = tt

pub behind-requires : goal.behind-requires
behind-requires c =
    let l : Layout = parts_layout c.args.world.now.parts in
    subst (λ (n : ℕ). All (λ (k : ℕ × Step × Reply). k.0 < n) c.args.calls.now)
    (sym (c.in_ok-counts.ensures.count ∙ c.cpus-count.ensures))
    (calls_below l c.args.start c.args.steps.now c.args.replies.now c.args.calls.now c.requires.merged
    (below_dropped l.config.cpus c.args.steps.now c.args.start c.requires.asked.below))

pub lines_of-requires-clause-below : goal.lines_of-requires-clause-below
lines_of-requires-clause-below c =
    let l : Layout = parts_layout c.args.world.now.parts in
    let n : ℕ = c.args.start in
    let each : (k : ℕ)
    → slice_index c.in_ok-counts.counts.items k
    ≡ length (own_from k 0 (take n c.args.steps.now) (take n c.args.replies.now)) =
    λ k. c.in_ok-counts.ensures.each k
    ∙ (λ i. length (own_from k 0 (c.split_at.ensures.front i) (c.split_at-2.ensures.front i))) in
    let all = cpus_below l n c.args.steps.now c.args.replies.now c.args.calls.now c.requires.merged
    (below_dropped l.config.cpus c.args.steps.now n c.requires.asked.below) c.in_ok-counts.counts.items
    c.in_ok-cpus.cpus.items each c.in_ok-cpus.ensures in
    subst (λ (z : ℕ × List ℕ). All (λ k. k < z.0) z.1)
    (λ i. (sym c.cpus-count.ensures i, sym c.as_slice.ensures.value i)) all

pub lines_of-requires-clause-fits : goal.lines_of-requires-clause-fits
lines_of-requires-clause-fits c =
    let l : Layout = parts_layout c.args.world.now.parts in
    let n : ℕ = c.args.start in
    let each : (k : ℕ)
    → slice_index c.in_ok-counts.counts.items k
    ≡ length (own_from k 0 (take n c.args.steps.now) (take n c.args.replies.now)) =
    λ k. c.in_ok-counts.ensures.each k
    ∙ (λ i. length (own_from k 0 (c.split_at.ensures.front i) (c.split_at-2.ensures.front i))) in
    λ k. ap (λ (cs : List ℕ). length (filter (λ m. m == k) cs)) c.as_slice.ensures.value
    ∙ fits l n c.args.steps.now c.args.replies.now c.args.calls.now c.requires.merged
    (below_dropped l.config.cpus c.args.steps.now n c.requires.asked.below) c.in_ok-counts.counts.items
    c.in_ok-cpus.cpus.items each c.in_ok-cpus.ensures k
    ∙ (λ i. length (own_from k 0 (sym c.split_at.ensures.back i) (sym c.split_at-2.ensures.back i)))

pub returns : goal.returns
returns c =
    let l : Layout = parts_layout c.args.world.now.parts in
    let n : ℕ = c.args.start in
    let each : (k : ℕ)
    → slice_index c.in_ok-counts.counts.items k
    ≡ length (own_from k 0 (take n c.args.steps.now) (take n c.args.replies.now)) =
    λ k. c.in_ok-counts.ensures.each k
    ∙ (λ i. length (own_from k 0 (c.split_at.ensures.front i) (c.split_at-2.ensures.front i))) in
    on_ok _ _ c.lines_of.result
    (λ v o. has_order l n c.args.steps.now c.args.replies.now c.args.calls.now c.requires.merged
    (below_dropped l.config.cpus c.args.steps.now n c.requires.asked.below) c.in_ok-counts.counts.items
    c.in_ok-cpus.cpus.items each c.in_ok-cpus.ensures v.items
    (subst (λ (z : List Asked × List Reply × List ℕ). OrdersBy z.0 z.1 z.2 v.items)
    (λ i. (c.split_at.ensures.back i, c.split_at-2.ensures.back i, c.as_slice.ensures.value i)) o))
    c.lines_of.ensures
