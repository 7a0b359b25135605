use Rattle.trace_lines.specs.Said.{said}
use Rattle.std.proofs.Common.{rules, IfOk, IfSome, subst, sym}
use Rattle.trace_lines.specs.Places.{IsAllowed}
use Rattle.trace_lines.specs.Settings.{told_of}
use Rattle.trace_lines.proofs.Saying.{words_allowed}
use Rattle.trace_lines.proofs.grammar.said.Goals as goal

pub returns-clause-allowed : goal.returns-clause-allowed
returns-clause-allowed c =
    subst (λ said. IfOk said (λ o. IfSome o (IsAllowed c.args.allows))) (sym c.said_by_words.ensures)
    (words_allowed c.args.allows (told_of c.args.settings.now) _)

pub returns-then-has_stray_byte-clause-value : goal.returns-then-has_stray_byte-clause-value
unfolding said
returns-then-has_stray_byte-clause-value c = search rules

pub returns-then-is_silent-clause-value : goal.returns-then-is_silent-clause-value
unfolding said
returns-then-is_silent-clause-value c = search rules

pub returns-then-has_empty-clause-value : goal.returns-then-has_empty-clause-value
unfolding said
returns-then-has_empty-clause-value c = search rules

pub returns-clause-value : goal.returns-clause-value
unfolding said
returns-clause-value c = search rules
