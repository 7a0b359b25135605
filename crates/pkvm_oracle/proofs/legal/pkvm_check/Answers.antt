use Rattle.std.proofs.Common.{rules, refl, inr}
use Rattle.pkvm_oracle.specs.declared.legal.Untested.TheVariants as untested
use Rattle.pkvm_oracle.proofs.legal.pkvm_check.Goals as goal

pub returns-in-Err-write_finding : goal.returns-in-Err-write_finding
returns-in-Err-write_finding c =
    inr
    (inr
    (inr
    (record {
      why = untested.NoMemory;
      untested = tt;
      status_is = refl;
      count_is = refl;
      refused_is = refl;
      text = search rules;
    })))
