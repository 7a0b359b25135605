use Rattle.std.proofs.Common.{◌<◌, ◌∙◌, subst, sym}
use Rattle.page_state.specs.LayoutView.{layout_of}
use Rattle.part_table.specs.Does.{only_at}
use Rattle.cpu_threads.proofs.Judging.{asks_of, known_in, next_known}
use Rattle.cpu_threads.proofs.Recordable.{can_after, can_before, id_after, next_before}
use Rattle.cpu_threads.proofs.judged.RecorderMaker.alone.Goals as goal

pub record_part-pre-requires-clause-low : goal.record_part-pre-requires-clause-low
record_part-pre-requires-clause-low g c =
    can_before (layout_of c.args.layout.now) c.args.cpu.now.id c.args.cpu.now
    (only_at c.args.k c.args.slot) c.requires.can.left

pub record_part-post-requires-clause-known : goal.record_part-post-requires-clause-known
record_part-post-requires-clause-known g c =
    let e = c.alone-slot.ensures in
    subst (λ n. n < c.args.layout.now.config.cpus)
    (sym
    (id_after (layout_of c.args.layout.now) c.args.cpu.now.id c.args.cpu.now
    (only_at c.args.k c.args.slot) c.requires.can.left c.alone-slot.result.1
    (only_at c.args.k c.alone-slot.result.0) c.alone-slot.new.cpu e.call.by e.does
    ∙ e.call.by)) c.requires.can.known

pub record_part-post-requires-clause-low : goal.record_part-post-requires-clause-low
record_part-post-requires-clause-low g c =
    let e = c.alone-slot.ensures in
    can_after (layout_of c.args.layout.now) c.args.cpu.now.id c.args.cpu.now
    (only_at c.args.k c.args.slot) c.requires.can.left c.alone-slot.result.1
    (only_at c.args.k c.alone-slot.result.0) c.alone-slot.new.cpu c.requires.can.known e.call.by e.does

pub ask-requires-clause-cpu : goal.ask-requires-clause-cpu
ask-requires-clause-cpu g c =
    let e = c.alone-slot.ensures in
    known_in c.record_part-pre.result c.record_part-post.result c.args.layout.now c.alone-slot.result.1.cpu
    (only_at c.args.k c.args.slot) c.args.cpu.now
    (subst (λ n. n < c.args.layout.now.config.cpus) (sym e.call.by) c.requires.can.known)
    c.record_part-pre.ensures

pub ask-requires-clause-generation : goal.ask-requires-clause-generation
ask-requires-clause-generation g c =
    let e = c.alone-slot.ensures in
    next_known c.record_part-pre.result c.record_part-post.result c.args.layout.now c.alone-slot.result.1.cpu
    c.alone-slot.result.1.step
    (only_at c.args.k c.args.slot) c.args.cpu.now (sym e.call.by)
    (next_before (layout_of c.args.layout.now) c.args.cpu.now.id c.args.cpu.now
    (only_at c.args.k c.args.slot) c.requires.can.left c.alone-slot.result.1.step) c.record_part-pre.ensures

pub returns-clause-told : goal.returns-clause-told
returns-clause-told g c =
    asks_of c.record_part-pre.result c.record_part-post.result g.J.Judge.takes c.args.layout.now
    (only_at c.args.k c.args.slot)
    (only_at c.args.k c.alone-slot.result.0) c.args.cpu.now c.alone-slot.new.cpu c.alone-slot.result.1
    c.args.told.now c.ask.new.judge c.ask.ensures c.record_part-pre.ensures c.record_part-post.ensures
