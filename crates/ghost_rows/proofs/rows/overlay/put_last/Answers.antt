use Rattle.std.proofs.Common.{◌+◌, Some, arith}
use Rattle.page_state.specs.Rows.{advance_row}
use Rattle.run_list.specs.Runs.{run_map}
use Rattle.run_list.proofs.Changed.{unchanged_map}
use Rattle.run_list.proofs.Maps.{ends_later}
use Rattle.ghost_rows.proofs.RowsPushed.{pushed}
use Rattle.ghost_rows.proofs.rows.overlay.put_last.Goals as goal

pub returns-then-frames-eq0-clause-map : goal.returns-then-frames-eq0-clause-map
returns-then-frames-eq0-clause-map c =
    unchanged_map advance_row (run_map advance_row c.args.rows.now.items) c.args.frames.first.0 c.args.frames.count
    (Some c.args.row) c.if-frames-eq0.true

pub returns-then-frames-eq0-clause-behind : goal.returns-then-frames-eq0-clause-behind
returns-then-frames-eq0-clause-behind c =
    ends_later (c.args.frames.first.0 + 1) (c.args.frames.first.0 + c.args.frames.count + 1) c.args.rows.now.items
    (omega arith) c.requires.behind

pub returns-clause-map : goal.returns-clause-map
returns-clause-map c =
    (pushed c.args.frames c.args.row c.args.rows.now.items c.push_run.new.runs.items c.requires.frames
    (omega (arith, c.if-frames-eq0.false)) c.requires.small c.requires.kept c.requires.behind
    c.in_ok-push_run.ensures.ok).map

pub returns-clause-kept : goal.returns-clause-kept
returns-clause-kept c =
    (pushed c.args.frames c.args.row c.args.rows.now.items c.push_run.new.runs.items c.requires.frames
    (omega (arith, c.if-frames-eq0.false)) c.requires.small c.requires.kept c.requires.behind
    c.in_ok-push_run.ensures.ok).kept

pub returns-clause-behind : goal.returns-clause-behind
returns-clause-behind c =
    (pushed c.args.frames c.args.row c.args.rows.now.items c.push_run.new.runs.items c.requires.frames
    (omega (arith, c.if-frames-eq0.false)) c.requires.small c.requires.kept c.requires.behind
    c.in_ok-push_run.ensures.ok).behind
