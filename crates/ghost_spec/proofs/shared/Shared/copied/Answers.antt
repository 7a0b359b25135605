use Rattle.std.proofs.Common.{ap, ◌∙◌}
use Rattle.std.proofs.lemmas.Result.{IfOk-at_ok}
use Rattle.page_state.specs.Rows.{advance_row}
use Rattle.run_list.specs.Runs.{run_map}
use Rattle.ghost_spec.proofs.Copied.{same_shared}
use Rattle.ghost_spec.proofs.shared.Shared.copied.Goals as goal

pub returns-clause-same : goal.returns-clause-same
returns-clause-same c =
    let lists = c.in_ok-free.ensures.first in
    let trees = c.in_ok-free.ensures.second in
    let free = IfOk-at_ok _ (IfOk-at_ok _ lists c.both.ensures.first) c.from_slice-free.ensures.items in
    let rows = IfOk-at_ok _ (IfOk-at_ok _ lists c.both.ensures.second) c.copied_rows-rows.ensures in
    let host = IfOk-at_ok _ (IfOk-at_ok _ trees c.both-2.ensures.first) c.copied-host.ensures.tree in
    let hyp = IfOk-at_ok _ (IfOk-at_ok _ trees c.both-2.ensures.second) c.copied-hyp.ensures.tree in
    same_shared
    (record {
      host = c.in_ok-free.host;
      hyp = c.in_ok-free.hyp;
      free = c.in_ok-free.free;
      rows = c.in_ok-free.rows;
    }) c.args.self.now host hyp
    (free ∙ c.as_slice.ensures.value) (ap (run_map advance_row) (rows ∙ c.runs.ensures.runs))

pub returns-clause-kept : goal.returns-clause-kept
returns-clause-kept c =
    let rows =
    IfOk-at_ok _ (IfOk-at_ok _ c.in_ok-free.ensures.first c.both.ensures.second) c.copied_rows-rows.ensures in
    let trees = c.in_ok-free.ensures.second in
    record {
      host = IfOk-at_ok _ (IfOk-at_ok _ trees c.both-2.ensures.first) c.copied-host.ensures.kept;
      hyp = IfOk-at_ok _ (IfOk-at_ok _ trees c.both-2.ensures.second) c.copied-hyp.ensures.kept;
      rows = rw (rows, c.runs.ensures.runs) c.requires.rows;
    }
