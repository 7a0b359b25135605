-- How what a judgement finds is written.
use Rattle.std.specs.Prelude.{ℕ, List, ◌++◌, codes}
use Rattle.std.specs.Fmt.{decimal}
use Rattle.call_table.specs.Texts.{text_of_reply}
use Rattle.ghost_judge.specs.Texts.{text_of_judgement}
use Rattle.c_judge.specs.declared.found.Found.{Found}
use Rattle.c_judge.specs.declared.found.Found.TheVariants.{Differs, Refusal, Stopped}

abbrev pub text_of_found : Found → List ℕ
text_of_found (Differs d) = text_of_judgement d
text_of_found (Refusal number spec) =
    codes "disagree reply said " ++ decimal number ++ codes " spec " ++ text_of_reply spec
text_of_found (Stopped spec) = codes "disagree reply said stopped spec " ++ text_of_reply spec
