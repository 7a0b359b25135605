use Rattle.std.proofs.Common.{ap, map, option_map, sym, ◌∙◌, ◌++◌, Some}
use Rattle.clap.specs.Words.{found_of}
use Rattle.trace_command.proofs.Values.{all_is}
use Rattle.trace_command.proofs.asked.files.Goals as goal

pub returns-in_default : goal.returns-in_default
returns-in_default c =
    all_is (found_of c.args.inner.now) _ ∙ sym c.get_strs.ensures
    ∙ ap (option_map (λ s. map (λ v. v.now) s.now)) c.in_default.is

pub returns : goal.returns
returns c =
    let found =
    all_is (found_of c.args.inner.now) _ ∙ sym c.get_strs.ensures
    ∙ ap (option_map (λ s. map (λ v. v.now) s.now)) c.in-Some.is in
    let copied = c.in_ok-extend_from_slice.ensures.items in
    let empty = c.in_ok-files.ensures.items in
    found ∙ ap (λ xs. Some (map (λ path. path.now) xs)) (sym (copied ∙ ap (λ xs. xs ++ c.in-Some.given.now) empty))
