use Rattle.std.proofs.Common.{arith, ◌≡◌, ◌∙◌, refl}
use Rattle.trace_reader.specs.Ahead.{left}
use Rattle.trace_text.proofs.Failing.{no_report, read_failed, reads_passed, reads_same, writes_none, writes_passed, writes_told}
use Rattle.trace_text.proofs.ReplayLemmas.{plays, faults_at, too_many, complete, mapped, on_err, when_err, begun_so, begun_line, begun_past, begun_end, so_far_none}
use Rattle.trace_text.proofs.player.play_lines.Goals as goal

pub loop-number-init : goal.loop-number-init
loop-number-init g c = record {
  so_far =
      so_far_none g.P.Player.does g.P.Player.ends c.args.player.now
      (left c.args.ahead.now (g.S.Source.remaining c.args.source.now)) (g.K.Sink.contents c.args.sink.now);
  ready = c.requires.ready;
  reads = refl;
  writes = refl;
}

pub returns-in_err-read_line-clause-begun : goal.returns-in_err-read_line-clause-begun
returns-in_err-read_line-clause-begun g c =
    on_err _
    (begun_so g.P.Player.does g.P.Player.ends c.args.player.now _ _ _ _ c.loop-number.number c.loop-number.player
    c.loop-number.invariant.so_far)

pub returns-then-not-branch-clause-report : goal.returns-then-not-branch-clause-report
returns-then-not-branch-clause-report g c =
    let read = rw c.if-not-branch.true at c.in_ok-read_line.ensures.ok in
    mapped c.end.result _ _
    (λ outcome. complete g.P.Player.does g.P.Player.ends c.args.player.now _
    (left c.loop-number.ahead (g.S.Source.remaining c.loop-number.source))
    (left c.read_line.new.ahead (g.S.Source.remaining c.read_line.new.source)) _
    (g.K.Sink.contents c.loop-number.sink) _ c.read_line.new.line.items c.loop-number.number
    c.loop-number.player outcome c.loop-number.invariant.so_far read)
    c.end.ensures.ok

pub returns-then-not-branch-clause-begun : goal.returns-then-not-branch-clause-begun
returns-then-not-branch-clause-begun g c =
    let read = rw c.if-not-branch.true at c.in_ok-read_line.ensures.ok in
    when_err c.end.result _ _
    (begun_end g.P.Player.does g.P.Player.ends c.args.player.now _
    (left c.loop-number.ahead (g.S.Source.remaining c.loop-number.source))
    (left c.read_line.new.ahead (g.S.Source.remaining c.read_line.new.source)) _
    (g.K.Sink.contents c.loop-number.sink) _ c.read_line.new.line.items c.loop-number.number
    c.loop-number.player c.loop-number.invariant.so_far read)
    c.end.ensures.front

pub returns-in_err-played-clause-begun : goal.returns-in_err-played-clause-begun
returns-in_err-played-clause-begun g c =
    let read = rw c.if-not-branch.false at c.in_ok-read_line.ensures.ok in
    let front = rw c.as_slice.ensures.value at c.in_err-played.ensures.front in
    on_err _
    (begun_line g.P.Player.does g.P.Player.ends c.args.player.now c.requires.enough _
    (left c.loop-number.ahead (g.S.Source.remaining c.loop-number.source))
    (left c.read_line.new.ahead (g.S.Source.remaining c.read_line.new.source)) _
    (g.K.Sink.contents c.loop-number.sink) _ c.read_line.new.line.items c.loop-number.number
    c.loop-number.player c.loop-number.invariant.so_far read
    (omega arith) front)

pub returns-in-Some-clause-report : goal.returns-in-Some-clause-report
returns-in-Some-clause-report g c =
    let read = rw c.if-not-branch.false at c.in_ok-read_line.ensures.ok in
    let played = rw (c.in-Some.is, c.as_slice.ensures.value) at c.in_ok-played.ensures.played in
    faults_at g.P.Player.does g.P.Player.ends c.args.player.now c.requires.enough _
    (left c.loop-number.ahead (g.S.Source.remaining c.loop-number.source))
    (left c.read_line.new.ahead (g.S.Source.remaining c.read_line.new.source)) _
    (g.K.Sink.contents c.loop-number.sink) _ c.read_line.new.line.items c.loop-number.number
    c.loop-number.player c.play.new.self c.in-Some.outcome c.loop-number.invariant.so_far read (omega arith) played

pub loop-number-preserved : goal.loop-number-preserved
loop-number-preserved g c =
    let read = rw c.if-not-branch.false at c.in_ok-read_line.ensures.ok in
    let played = rw (c.in_default.is, c.as_slice.ensures.value) at c.in_ok-played.ensures.played in
    record {
      so_far =
          plays g.P.Player.does g.P.Player.ends c.args.player.now c.requires.enough _
          (left c.loop-number.ahead (g.S.Source.remaining c.loop-number.source))
          (left c.read_line.new.ahead (g.S.Source.remaining c.read_line.new.source)) _
          (g.K.Sink.contents c.loop-number.sink) _ c.read_line.new.line.items c.loop-number.number
          c.loop-number.player c.play.new.self c.loop-number.invariant.so_far read (omega arith) played;
      ready = c.in_ok-played.ensures.ready;
      reads = c.in_ok-read_line.ensures.counted ∙ c.loop-number.invariant.reads;
      writes = c.in_ok-played.ensures.counted ∙ c.loop-number.invariant.writes;
    }

pub returns-in_err-read_line-2-clause-begun : goal.returns-in_err-read_line-2-clause-begun
returns-in_err-read_line-2-clause-begun g c =
    on_err _
    (begun_so g.P.Player.does g.P.Player.ends c.args.player.now _ _ _ _ c.loop-number.number c.loop-number.player
    c.loop-number.invariant.so_far)

pub returns-then-branch-clause-report : goal.returns-then-branch-clause-report
returns-then-branch-clause-report g c =
    let read = rw c.if-branch.true at c.in_ok-read_line-2.ensures.ok in
    let last : c.loop-number.number ≡ 1048577 = omega arith in
    mapped c.faulted.result _ _
    (λ outcome written. too_many g.P.Player.does g.P.Player.ends c.args.player.now _
    (left c.loop-number.ahead (g.S.Source.remaining c.loop-number.source))
    (left c.read_line-2.new.ahead (g.S.Source.remaining c.read_line-2.new.source)) _
    (g.K.Sink.contents c.loop-number.sink) _ c.read_line-2.new.line.items 1048577
    c.loop-number.player outcome (rw last at c.loop-number.invariant.so_far) read (omega arith) written)
    c.faulted.ensures.ok

pub returns-then-branch-clause-begun : goal.returns-then-branch-clause-begun
returns-then-branch-clause-begun g c =
    let read = rw c.if-branch.true at c.in_ok-read_line-2.ensures.ok in
    let last : c.loop-number.number ≡ 1048577 = omega arith in
    when_err c.faulted.result _ _
    (λ front. begun_past g.P.Player.does g.P.Player.ends c.args.player.now _
    (left c.loop-number.ahead (g.S.Source.remaining c.loop-number.source))
    (left c.read_line-2.new.ahead (g.S.Source.remaining c.read_line-2.new.source)) _
    (g.K.Sink.contents c.loop-number.sink) _ c.read_line-2.new.line.items 1048577
    c.loop-number.player (rw last at c.loop-number.invariant.so_far) read (omega arith) front)
    c.faulted.ensures.front

pub returns-clause-report : goal.returns-clause-report
returns-clause-report g c =
    let read = rw c.if-branch.false at c.in_ok-read_line-2.ensures.ok in
    mapped c.end-2.result _ _
    (λ outcome. complete g.P.Player.does g.P.Player.ends c.args.player.now _
    (left c.loop-number.ahead (g.S.Source.remaining c.loop-number.source))
    (left c.read_line-2.new.ahead (g.S.Source.remaining c.read_line-2.new.source)) _
    (g.K.Sink.contents c.loop-number.sink) _ c.read_line-2.new.line.items c.loop-number.number
    c.loop-number.player outcome c.loop-number.invariant.so_far read)
    c.end-2.ensures.ok

pub returns-clause-begun : goal.returns-clause-begun
returns-clause-begun g c =
    let read = rw c.if-branch.false at c.in_ok-read_line-2.ensures.ok in
    when_err c.end-2.result _ _
    (begun_end g.P.Player.does g.P.Player.ends c.args.player.now _
    (left c.loop-number.ahead (g.S.Source.remaining c.loop-number.source))
    (left c.read_line-2.new.ahead (g.S.Source.remaining c.read_line-2.new.source)) _
    (g.K.Sink.contents c.loop-number.sink) _ c.read_line-2.new.line.items c.loop-number.number
    c.loop-number.player c.loop-number.invariant.so_far read)
    c.end-2.ensures.front

pub returns-in_err-read_line-clause-report : goal.returns-in_err-read_line-clause-report
returns-in_err-read_line-clause-report g c = no_report _ _ c.from_residual.result c.from_residual.ensures.1

pub returns-in_err-read_line-clause-reads : goal.returns-in_err-read_line-clause-reads
returns-in_err-read_line-clause-reads g c =
    read_failed c.from_residual.result _ _ _ _ c.from_residual.ensures.1 c.loop-number.invariant.reads
    c.in_err-read_line.ensures.counted

pub returns-in_err-read_line-clause-writes : goal.returns-in_err-read_line-clause-writes
returns-in_err-read_line-clause-writes g c =
    writes_none c.from_residual.result _ _ _ _ _ c.from_residual.ensures.1 c.loop-number.invariant.writes
    c.in_err-read_line.ensures.counted

pub returns-in_err-read_line-2-clause-report : goal.returns-in_err-read_line-2-clause-report
returns-in_err-read_line-2-clause-report g c =
    no_report _ _ c.from_residual-in_err-read_line-2.result c.from_residual-in_err-read_line-2.ensures.1

pub returns-in_err-read_line-2-clause-reads : goal.returns-in_err-read_line-2-clause-reads
returns-in_err-read_line-2-clause-reads g c =
    read_failed c.from_residual-in_err-read_line-2.result _ _ _ _ c.from_residual-in_err-read_line-2.ensures.1
    c.loop-number.invariant.reads c.in_err-read_line-2.ensures.counted

pub returns-in_err-read_line-2-clause-writes : goal.returns-in_err-read_line-2-clause-writes
returns-in_err-read_line-2-clause-writes g c =
    writes_none c.from_residual-in_err-read_line-2.result _ _ _ _ _ c.from_residual-in_err-read_line-2.ensures.1
    c.loop-number.invariant.writes c.in_err-read_line-2.ensures.counted

pub returns-in_err-played-clause-report : goal.returns-in_err-played-clause-report
returns-in_err-played-clause-report g c =
    no_report _ _ c.from_residual-in_err-played.result c.from_residual-in_err-played.ensures.1

pub returns-in_err-played-clause-reads : goal.returns-in_err-played-clause-reads
returns-in_err-played-clause-reads g c =
    reads_passed c.from_residual-in_err-played.result _ _ _ _ _ c.from_residual-in_err-played.ensures.1
    (c.in_ok-read_line.ensures.counted ∙ c.loop-number.invariant.reads) c.in_err-played.ensures.counted

pub returns-in_err-played-clause-writes : goal.returns-in_err-played-clause-writes
returns-in_err-played-clause-writes g c =
    writes_passed c.from_residual-in_err-played.result _ _ _ _ c.from_residual-in_err-played.ensures.1
    c.loop-number.invariant.writes c.in_err-played.ensures.counted

pub returns-in-Some-clause-begun : goal.returns-in-Some-clause-begun
returns-in-Some-clause-begun g c = tt

pub returns-in-Some-clause-reads : goal.returns-in-Some-clause-reads
returns-in-Some-clause-reads g c = c.in_ok-read_line.ensures.counted ∙ c.loop-number.invariant.reads

pub returns-in-Some-clause-writes : goal.returns-in-Some-clause-writes
returns-in-Some-clause-writes g c = c.in_ok-played.ensures.counted ∙ c.loop-number.invariant.writes

pub returns-then-not-branch-clause-reads : goal.returns-then-not-branch-clause-reads
returns-then-not-branch-clause-reads g c =
    reads_same c.end.result _ _ _ _
    (c.in_ok-read_line.ensures.counted ∙ c.loop-number.invariant.reads) c.end.ensures.counted

pub returns-then-not-branch-clause-writes : goal.returns-then-not-branch-clause-writes
returns-then-not-branch-clause-writes g c =
    writes_told c.end.result _ _ _ c.loop-number.invariant.writes c.end.ensures.counted

pub returns-then-branch-clause-reads : goal.returns-then-branch-clause-reads
returns-then-branch-clause-reads g c =
    reads_same c.faulted.result _ _ _ _
    (c.in_ok-read_line-2.ensures.counted ∙ c.loop-number.invariant.reads) c.faulted.ensures.counted

pub returns-then-branch-clause-writes : goal.returns-then-branch-clause-writes
returns-then-branch-clause-writes g c =
    writes_told c.faulted.result _ _ _ c.loop-number.invariant.writes c.faulted.ensures.counted

pub returns-clause-reads : goal.returns-clause-reads
returns-clause-reads g c =
    reads_same c.end-2.result _ _ _ _
    (c.in_ok-read_line-2.ensures.counted ∙ c.loop-number.invariant.reads) c.end-2.ensures.counted

pub returns-clause-writes : goal.returns-clause-writes
returns-clause-writes g c = writes_told c.end-2.result _ _ _ c.loop-number.invariant.writes c.end-2.ensures.counted
