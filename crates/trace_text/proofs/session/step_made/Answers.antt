use Rattle.std.proofs.Common.{sym, ◌∙◌}
use Rattle.trace_text.proofs.session.step_made.Goals as goal

pub returns-clause-given : goal.returns-clause-given
returns-clause-given g c = c.looks.ensures.silent (sym c.looks.ensures.looks ∙ c.if-looks.false) _ _ _

pub returns-clause-reads : goal.returns-clause-reads
returns-clause-reads g c shown =
    absurd (let wrong = sym c.if-looks.false ∙ c.looks.ensures.looks ∙ shown in cc)
