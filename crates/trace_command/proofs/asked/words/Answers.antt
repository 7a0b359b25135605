use Rattle.std.proofs.Common.{[], ap, map, option_map, sym, ◌∙◌, ◌++◌, Some}
use Rattle.std.specs.Prelude.{unwrap_or}
use Rattle.clap.specs.Words.{found_of}
use Rattle.trace_command.proofs.Values.{all_is}
use Rattle.trace_command.proofs.asked.words.Goals as goal

pub returns-in_default : goal.returns-in_default
returns-in_default c =
    ap (map (λ word. word.now)) c.new.ensures.items
    ∙ ap (λ o. unwrap_or o [])
    (sym
    (all_is (found_of c.args.inner.now) _ ∙ sym c.get_strs.ensures
    ∙ ap (option_map (λ s. map (λ v. v.now) s.now)) c.in_default.is))

pub returns : goal.returns
returns c =
    let found =
    all_is (found_of c.args.inner.now) _ ∙ sym c.get_strs.ensures
    ∙ ap (option_map (λ s. map (λ v. v.now) s.now)) c.in-Some.is in
    let copied = c.in_ok-extend_from_slice.ensures.items in
    let empty = c.in_ok-words.ensures.items in
    sym
    (ap (λ o. unwrap_or o [])
    (found
    ∙ ap (λ xs. Some (map (λ word. word.now) xs))
    (sym (copied ∙ ap (λ xs. xs ++ c.in-Some.given.now) empty))))
