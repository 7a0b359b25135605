use Rattle.page_state.specs.LayoutView.{layout_of}
use Rattle.ghost_spec.specs.States.{contents_in}
use Rattle.table_audit.proofs.Firsts.{lawful_in, unlawful_in}
use Rattle.table_audit.proofs.audit.compared.Goals as goal

pub returns-in-None-clause-none : goal.returns-in-None-clause-none
returns-in-None-clause-none c =
    lawful_in (layout_of c.args.kept.now.layout) (contents_in c.args.kept.now)
    (contents_in c.args.walked.now) c.unlawful.result
    (c.difference.ensures.none.0 c.in-None.is) c.unlawful.ensures.none

pub returns-in-None-clause-first : goal.returns-in-None-clause-first
returns-in-None-clause-first c =
    unlawful_in (layout_of c.args.kept.now.layout) (contents_in c.args.kept.now)
    (contents_in c.args.walked.now) c.unlawful.result
    (c.difference.ensures.none.0 c.in-None.is) c.unlawful.ensures.told
