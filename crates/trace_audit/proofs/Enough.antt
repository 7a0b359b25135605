-- 257 bytes of a line are enough for what an audit does.
use Rattle.trace_text.specs.Played.{Enough}
use Rattle.trace_text.proofs.ReplayLemmas.{by_said}
use Rattle.trace_audit.specs.Audited.{Follows, RunsLine, allowed}

pub audit_enough : {A : Type 0} → Enough (RunsLine {A = A})
audit_enough = by_said allowed (λ old. old.session.told) Follows (λ number fault old answer new h. h.0)
