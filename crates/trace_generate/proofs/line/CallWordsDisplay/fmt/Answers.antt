use Rattle.std.proofs.Common.{◌≡◌, ◌∙◌, sym, ap, rules, arith, ℕ, zero, suc, ◌<◌, List, [], ◌∷◌, ◌++◌, length, take, get_or, add-one, append_assoc, append-nil}
use Rattle.std.proofs.Output.{has_written_append, has_written_of_eq}
use Rattle.call_table.specs.declared.argument.Arguments.{Arguments}
use Rattle.call_table.specs.declared.argument.Form.{Form}
use Rattle.call_table.specs.declared.argument.Form.TheVariants.{Frame}
use Rattle.trace_generate.specs.Lines.{text_of_argument, text_of_arguments}
use Rattle.trace_generate.proofs.line.CallWordsDisplay.fmt.Goals as goal

-- one more argument
one_more : (forms : List Form) (i : ℕ) (d : Form) (a : Arguments) → i < length forms
    → text_of_arguments (take i forms) a ++ (32 ∷ text_of_argument (get_or forms i d) a)
    ≡ text_of_arguments (take (suc i) forms) a
one_more [] i d a less = absurd (omega (arith, less))
one_more (form ∷ more) zero d a less = ap (λ t. 32 ∷ t) (sym (append-nil (text_of_argument form a)))
one_more (form ∷ more) (suc i) d a less =
    ap (λ t. 32 ∷ t)
    (append_assoc (text_of_argument form a) (text_of_arguments (take i more) a)
    (32 ∷ text_of_argument (get_or more i d) a)
    ∙ ap (λ t. text_of_argument form a ++ t) (one_more more i d a (omega (arith, less))))

pub loop-form-preserved : goal.loop-form-preserved
loop-form-preserved g c =
    let forms = c.row-row.result.forms.now in
    let a = c.values_of-named.result.arguments in
    let i = c.loop-form.form-index in
    let longer =
    one_more forms i Frame a (omega arith) ∙ ap (λ n. text_of_arguments (take n forms) a) (sym (add-one i)) in
    λ plain. has_written_of_eq _ _ _ _ _ longer
    (has_written_append _ _ _ _ _ _ (c.loop-form.invariant plain) (search rules))
