use Rattle.std.proofs.Common.{subst}
use Rattle.std.proofs.lemmas.Result.{IfOk-at_ok}
use Rattle.std.specs.Io.Buffered.{writer_contents}
use Rattle.trace_text.specs.Reports.{IsWriteBegun, IsWritten}
use Rattle.trace_text.proofs.Kept.{begins_as, begun_on, err_of, passed_on, with_writer}
use Rattle.trace_text.proofs.ReplayLemmas.{mapped}
use Rattle.trace_text.proofs.buffered.play_buffered.Goals as goal

pub returns-clause-report : goal.returns-clause-report
returns-clause-report g c =
    let contents = g.W.Write.contents in
    let does = g.P.Player.does in
    let ends = g.P.Player.ends in
    let player = c.args.player.now in
    let start =
    begins_as contents c.new-sink.result.device c.in-Ok.writer c.args.writer c.new-sink.ensures.device
    c.in-Ok.ensures.empty c.in-Ok.ensures.inner in
    mapped c.finish.result _ _
    (λ r h.
    let report = IfOk-at_ok _ h.0 c.play_trace-answer.ensures.report in
    passed_on does ends player _ _ (writer_contents contents c.play_trace-answer.new.sink.device) _ r.0
    (subst
    (λ old. IsWritten does ends player (g.R.Read.remaining c.args.reader) old
    (writer_contents contents c.play_trace-answer.new.sink.device) r.0) start
    (subst
    (λ d. IsWritten does ends player (g.R.Read.remaining d) (writer_contents contents c.new-sink.result.device)
    (writer_contents contents c.play_trace-answer.new.sink.device) r.0) c.new-source.ensures.device report))
    h.1)
    c.finish.ensures.ok

pub returns-clause-begun : goal.returns-clause-begun
returns-clause-begun g c =
    let contents = g.W.Write.contents in
    let does = g.P.Player.does in
    let ends = g.P.Player.ends in
    let player = c.args.player.now in
    let start =
    begins_as contents c.new-sink.result.device c.in-Ok.writer c.args.writer c.new-sink.ensures.device
    c.in-Ok.ensures.empty c.in-Ok.ensures.inner in
    with_writer c.finish.result _ _
    (λ w h.
    let begun = err_of c.play_trace-answer.result _ h.0 c.play_trace-answer.ensures.begun in
    begun_on does ends player _ _ (writer_contents contents c.play_trace-answer.new.sink.device) _
    (subst
    (λ old. IsWriteBegun does ends player (g.R.Read.remaining c.args.reader) old
    (writer_contents contents c.play_trace-answer.new.sink.device)) start
    (subst
    (λ d. IsWriteBegun does ends player (g.R.Read.remaining d) (writer_contents contents c.new-sink.result.device)
    (writer_contents contents c.play_trace-answer.new.sink.device)) c.new-source.ensures.device begun))
    h.1)
    c.finish.ensures.kept
