-- The progress of an audit of code.
use Rattle.trace_text.specs.View.{standing_of}
use Rattle.trace_audit.specs.declared.poked.Audit.{Audit}
use Rattle.trace_audit.specs.Audited.{Audited}

abbrev pub audited_of : {A : Type 0} → Audit A → Audited A
audited_of a = record { session = standing_of a.session; poked = a.poked }
