use Rattle.std.proofs.Common.{◌≡◌, ◌^◌, ◌<◌, Some, rules}
use Rattle.c_words.specs.Numbers.{level_from_c}
use Rattle.c_words.specs.Said.{desc_from_c}
use Rattle.pkvm_oracle.proofs.TheWord.{encoded}
use Rattle.pkvm_oracle.proofs.words.pkvm_encode.Goals as goal

pub returns-in-Some-encode : goal.returns-in-Some-encode
returns-in-Some-encode c =
    let is_level : Some c.in-Some.level ≡ level_from_c c.args.level = search rules in
    let is_desc : Some c.in-Some-desc_of.desc ≡ desc_from_c c.args.says.now = search rules in
    let small : c.in-Some-encode.word < 2 ^ 64 = search rules in
    encoded c.args.level c.args.says.now c.args.out.now c.in-Some-encode.word c.in-Some.level c.in-Some-desc_of.desc
    is_level is_desc small c.in-Some-encode.ensures.exact
