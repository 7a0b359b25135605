use Rattle.std.proofs.Common.{◌<◌, ◌+◌, ◌∙◌, subst, sym}
use Rattle.page_state.specs.LayoutView.{layout_of}
use Rattle.part_table.specs.Does.{both_at}
use Rattle.cpu_threads.proofs.Judging.{asks_of, known_in, next_known}
use Rattle.cpu_threads.proofs.Recordable.{can_after, can_before, id_after, next_before}
use Rattle.cpu_threads.proofs.judged.RecorderMaker.both.Goals as goal

pub record_both-pre-requires-clause-low : goal.record_both-pre-requires-clause-low
record_both-pre-requires-clause-low g c =
    can_before (layout_of c.args.layout.now) c.args.cpu.now.id c.args.cpu.now
    (both_at (c.args.v + 2) c.args.guest 1 c.args.shared) c.requires.can.left

pub record_both-post-requires-clause-known : goal.record_both-post-requires-clause-known
record_both-post-requires-clause-known g c =
    let e = c.both-shared.ensures in
    subst (λ n. n < c.args.layout.now.config.cpus)
    (sym
    (id_after (layout_of c.args.layout.now) c.args.cpu.now.id c.args.cpu.now
    (both_at (c.args.v + 2) c.args.guest 1 c.args.shared) c.requires.can.left c.both-shared.result.2
    (both_at (c.args.v + 2) c.both-shared.result.1 1 c.both-shared.result.0) c.both-shared.new.cpu
    e.call.by e.does
    ∙ e.call.by)) c.requires.can.known

pub record_both-post-requires-clause-low : goal.record_both-post-requires-clause-low
record_both-post-requires-clause-low g c =
    let e = c.both-shared.ensures in
    can_after (layout_of c.args.layout.now) c.args.cpu.now.id c.args.cpu.now
    (both_at (c.args.v + 2) c.args.guest 1 c.args.shared) c.requires.can.left c.both-shared.result.2
    (both_at (c.args.v + 2) c.both-shared.result.1 1 c.both-shared.result.0) c.both-shared.new.cpu
    c.requires.can.known e.call.by e.does

pub ask-requires-clause-cpu : goal.ask-requires-clause-cpu
ask-requires-clause-cpu g c =
    let e = c.both-shared.ensures in
    known_in c.record_both-pre.result c.record_both-post.result c.args.layout.now c.both-shared.result.2.cpu
    (both_at (c.args.v + 2) c.args.guest 1 c.args.shared) c.args.cpu.now
    (subst (λ n. n < c.args.layout.now.config.cpus) (sym e.call.by) c.requires.can.known)
    c.record_both-pre.ensures

pub ask-requires-clause-generation : goal.ask-requires-clause-generation
ask-requires-clause-generation g c =
    let e = c.both-shared.ensures in
    next_known c.record_both-pre.result c.record_both-post.result c.args.layout.now c.both-shared.result.2.cpu
    c.both-shared.result.2.step
    (both_at (c.args.v + 2) c.args.guest 1 c.args.shared) c.args.cpu.now (sym e.call.by)
    (next_before (layout_of c.args.layout.now) c.args.cpu.now.id c.args.cpu.now
    (both_at (c.args.v + 2) c.args.guest 1 c.args.shared) c.requires.can.left
    c.both-shared.result.2.step) c.record_both-pre.ensures

pub returns-clause-told : goal.returns-clause-told
returns-clause-told g c =
    asks_of c.record_both-pre.result c.record_both-post.result g.J.Judge.takes c.args.layout.now
    (both_at (c.args.v + 2) c.args.guest 1 c.args.shared)
    (both_at (c.args.v + 2) c.both-shared.result.1 1 c.both-shared.result.0) c.args.cpu.now
    c.both-shared.new.cpu c.both-shared.result.2 c.args.told.now c.ask.new.judge c.ask.ensures
    c.record_both-pre.ensures c.record_both-post.ensures
