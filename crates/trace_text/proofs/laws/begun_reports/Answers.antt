use Rattle.trace_text.proofs.BrokenOff.{beginning_reports, begun_writes}
use Rattle.trace_text.proofs.laws.begun_reports.Goals as goal

pub returns-clause-lines : goal.returns-clause-lines
returns-clause-lines g c = beginning_reports g.O.Oracle.gives

pub returns-clause-bytes : goal.returns-clause-bytes
returns-clause-bytes g c = begun_writes g.O.Oracle.gives
