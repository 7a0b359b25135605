use Rattle.std.proofs.Common.{rules, refl, inr}
use Rattle.pkvm_oracle.specs.declared.audited.Unchecked.TheVariants as unchecked
use Rattle.pkvm_oracle.proofs.audited.pkvm_audit.Goals as goal

pub returns-in-Err-write_finding : goal.returns-in-Err-write_finding
returns-in-Err-write_finding c =
    inr
    (inr
    (inr
    (record {
      why = unchecked.NoMemory;
      unchecked = tt;
      status_is = refl;
      count_is = refl;
      refused_is = refl;
      text = search rules;
    })))
