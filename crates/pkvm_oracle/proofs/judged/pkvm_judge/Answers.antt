use Rattle.std.proofs.Common.{rules, refl, inr}
use Rattle.c_judge.specs.declared.found.Unfound.TheVariants.{Call}
use Rattle.c_judge.proofs.Said.{no-memory}
use Rattle.c_states.specs.declared.judge.Unjudged.TheVariants as unjudged
use Rattle.c_states.specs.Views.{lists_from_c}
use Rattle.pkvm_oracle.proofs.judged.pkvm_judge.Goals as goal

pub returns-in-Err-write_found : goal.returns-in-Err-write_found
returns-in-Err-write_found c =
    let l = c.args.layout.now in
    inr (inr (inr (record {
      why = Call unjudged.NoMemory;
      unjudged =
          no-memory l l.regions.now (lists_from_c c.args.before.now) c.args.call.now
          (lists_from_c c.args.after.now) c.in-Ok-Some.field-0 c.in-Ok-Some.ensures.found;
      status_is = refl;
      count_is = refl;
      refused_is = refl;
      text = search rules;
    })))
