use Rattle.std.proofs.Common.{◌+◌, arith}
use Rattle.run_list.proofs.Maps.{ends_later}
use Rattle.ghost_rows.proofs.RowsPushed.{pushed-apart}
use Rattle.ghost_rows.proofs.rows.overlay.put_behind.Goals as goal

pub put_last-requires-clause-behind : goal.put_last-requires-clause-behind
put_last-requires-clause-behind c =
    ends_later (c.args.high + 1) (c.args.frames.first.0 + 1) c.args.rows.now.items
    (omega (arith, c.requires.order)) c.requires.behind

pub returns-clause-map : goal.returns-clause-map
returns-clause-map c =
    (pushed-apart c.args.frames c.args.row c.args.rows.now.items _ c.requires.frames c.requires.some c.requires.small
    c.requires.kept c.args.high c.requires.behind
    (omega (arith, c.requires.order, c.if-frames-high.false)) c.in_ok-push.ensures.items).map

pub returns-clause-kept : goal.returns-clause-kept
returns-clause-kept c =
    (pushed-apart c.args.frames c.args.row c.args.rows.now.items _ c.requires.frames c.requires.some c.requires.small
    c.requires.kept c.args.high c.requires.behind
    (omega (arith, c.requires.order, c.if-frames-high.false)) c.in_ok-push.ensures.items).kept

pub returns-clause-behind : goal.returns-clause-behind
returns-clause-behind c =
    (pushed-apart c.args.frames c.args.row c.args.rows.now.items _ c.requires.frames c.requires.some c.requires.small
    c.requires.kept c.args.high c.requires.behind
    (omega (arith, c.requires.order, c.if-frames-high.false)) c.in_ok-push.ensures.items).behind
