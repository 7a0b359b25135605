use Rattle.std.proofs.Common.{map, ap, subst, ◌∙◌, inr, Err}
use Rattle.std.proofs.lemmas.Result.{IfOk-at_ok}
use Rattle.clap.specs.Kinds.{FailsBy}
use Rattle.clap.specs.Words.{is_simple, is_simple_and_free}
use Rattle.trace_command.proofs.Plain.{is_free}
use Rattle.trace_command.proofs.Taken.{Comes, err_read, ok_read}
use Rattle.trace_command.proofs.words.read.Goals as goal

pub returns-in-Err : goal.returns-in-Err
returns-in-Err c =
    let is = c.in_ok-form.ensures in
    err_read _ _ c.in-Err.error c.fault_of.result is
    (subst (FailsBy _) c.in-Err.is
    (c.try_get_matches_from.ensures.kinds (ap is_simple_and_free is ∙ is_free))) c.fault_of.ensures

pub returns-in-Ok-asked : goal.returns-in-Ok-asked
returns-in-Ok-asked c =
    let is = c.in_ok-form.ensures in
    let words = map (λ w. w.bytes.items) c.args.words.now in
    let parse = c.try_get_matches_from.ensures in
    let none = subst (FailsBy _) c.in-Ok.is (parse.kinds (ap is_simple_and_free is ∙ is_free)) in
    let rows = (IfOk-at_ok _ c.in-Ok.is parse.matches (ap is_simple is)).1 in
    subst (Comes words) c.in-Ok-asked.is (ok_read words _ c.in-Ok.matches c.asked.result is none rows c.asked.ensures)

pub returns : goal.returns
returns c =
    let is = c.in_ok-form.ensures in
    let words = map (λ w. w.bytes.items) c.args.words.now in
    let parse = c.try_get_matches_from.ensures in
    let none = subst (FailsBy _) c.in-Ok.is (parse.kinds (ap is_simple_and_free is ∙ is_free)) in
    let rows = (IfOk-at_ok _ c.in-Ok.is parse.matches (ap is_simple is)).1 in
    let came = ok_read words _ c.in-Ok.matches c.asked.result is none rows c.asked.ensures in
    inr
    (subst (λ unread. Comes words (Err unread)) c.in-Err-Word.field-0-is
    (subst (Comes words) c.in-Err-Word.is came))
