use Rattle.std.proofs.Common.{◌<◌, ◌∙◌, subst, sym}
use Rattle.page_state.specs.LayoutView.{layout_of}
use Rattle.part_table.specs.Does.{none_at}
use Rattle.cpu_threads.proofs.Judging.{asks_of, known_in, next_known}
use Rattle.cpu_threads.proofs.Recordable.{can_after, can_before, id_after, next_before}
use Rattle.cpu_threads.proofs.judged.RecorderMaker.idle.Goals as goal

pub record_own-pre-requires-clause-low : goal.record_own-pre-requires-clause-low
record_own-pre-requires-clause-low g c =
    can_before (layout_of c.args.layout.now) c.args.cpu.now.id c.args.cpu.now
    (none_at {A = g.row.A.Denot}) c.requires.can.left

pub record_own-post-requires-clause-known : goal.record_own-post-requires-clause-known
record_own-post-requires-clause-known g c =
    let e = c.idle-call.ensures in
    subst (λ n. n < c.args.layout.now.config.cpus)
    (sym
    (id_after (layout_of c.args.layout.now) c.args.cpu.now.id c.args.cpu.now
    (none_at {A = g.row.A.Denot}) c.requires.can.left c.idle-call.result
    (none_at) c.idle-call.new.cpu e.call.by e.does
    ∙ e.call.by)) c.requires.can.known

pub record_own-post-requires-clause-low : goal.record_own-post-requires-clause-low
record_own-post-requires-clause-low g c =
    let e = c.idle-call.ensures in
    can_after (layout_of c.args.layout.now) c.args.cpu.now.id c.args.cpu.now
    (none_at {A = g.row.A.Denot}) c.requires.can.left c.idle-call.result
    (none_at) c.idle-call.new.cpu c.requires.can.known e.call.by e.does

pub ask-requires-clause-cpu : goal.ask-requires-clause-cpu
ask-requires-clause-cpu g c =
    let e = c.idle-call.ensures in
    known_in c.record_own-pre.result c.record_own-post.result c.args.layout.now c.idle-call.result.cpu
    (none_at {A = g.row.A.Denot}) c.args.cpu.now
    (subst (λ n. n < c.args.layout.now.config.cpus) (sym e.call.by) c.requires.can.known)
    c.record_own-pre.ensures

pub ask-requires-clause-generation : goal.ask-requires-clause-generation
ask-requires-clause-generation g c =
    let e = c.idle-call.ensures in
    next_known c.record_own-pre.result c.record_own-post.result c.args.layout.now c.idle-call.result.cpu
    c.idle-call.result.step
    (none_at {A = g.row.A.Denot}) c.args.cpu.now (sym e.call.by)
    (next_before (layout_of c.args.layout.now) c.args.cpu.now.id c.args.cpu.now
    (none_at {A = g.row.A.Denot}) c.requires.can.left c.idle-call.result.step) c.record_own-pre.ensures

pub returns-clause-told : goal.returns-clause-told
returns-clause-told g c =
    asks_of c.record_own-pre.result c.record_own-post.result g.J.Judge.takes c.args.layout.now
    (none_at {A = g.row.A.Denot})
    (none_at) c.args.cpu.now c.idle-call.new.cpu c.idle-call.result c.args.told.now c.ask.new.judge
    c.ask.ensures c.record_own-pre.ensures c.record_own-post.ensures
