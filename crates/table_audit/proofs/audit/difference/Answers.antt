use Rattle.page_state.specs.LayoutView.{layout_of}
use Rattle.ghost_spec.specs.States.{contents_in}
use Rattle.table_audit.proofs.Firsts.{tables_none, tables_first}
use Rattle.table_audit.proofs.audit.difference.Goals as goal

pub returns-in-None-clause-none : goal.returns-in-None-clause-none
returns-in-None-clause-none c =
    tables_none (contents_in c.args.kept.now) (contents_in c.args.walked.now) c.first_table.result
    (c.audit_lists.ensures.none.0 c.in-None.is) c.first_table.ensures

pub returns-in-None-clause-first : goal.returns-in-None-clause-first
returns-in-None-clause-first c =
    tables_first (contents_in c.args.kept.now) (contents_in c.args.walked.now)
    (layout_of c.args.kept.now.layout) c.first_table.result
    (c.audit_lists.ensures.none.0 c.in-None.is) c.first_table.ensures
