-- A report that a buffer passed on.
use Rattle.std.proofs.Common.{◌≡◌, ◌∙◌, ℕ, refl, ap, List, [], Option, Some, None, Result, Ok, Err, IfErr, IfSome, IsErr, OnErr}
use Rattle.std.specs.Global.{Global}
use Rattle.std.specs.declared.io.buffered.BufWriter.{BufWriter}
use Rattle.std.proofs.lemmas.List.{append-nil}
use Rattle.std.specs.Io.Buffered.{writer_buffer, writer_contents, writer_inner}
use Rattle.std.specs.Io.KnownBytes.{Keeps, append_known}
use Rattle.trace_reader.specs.declared.outcome.Outcome.{Outcome}
use Rattle.trace_text.specs.declared.report.ReportLine.{ReportLine}
use Rattle.trace_text.specs.Reports.{Doing, IsWriteBegun, IsWritten}
use Rattle.trace_text.specs.declared.buffered.Stopped.{Stopped}
use Rattle.trace_text.proofs.Fronts.{appends_keeps}

-- what was written to a buffer stands in what the buffer passed on
pub passed_on : {S : Type 0} (does : Doing S) (ends : S → List ReportLine → Outcome → Type 0) (start : S)
    (bytes old mid new : Option (List ℕ)) (outcome : Outcome)
    → IsWritten does ends start bytes old mid outcome → Keeps mid new → IsWritten does ends start bytes old new outcome
passed_on does ends start bytes old mid new outcome w k =
    record { lines = w.lines; written = appends_keeps old mid new _ w.written k; report = w.report }

pub begun_on : {S : Type 0} (does : Doing S) (ends : S → List ReportLine → Outcome → Type 0) (start : S)
    (bytes old mid new : Option (List ℕ))
    → IsWriteBegun does ends start bytes old mid → Keeps mid new → IsWriteBegun does ends start bytes old new
begun_on does ends start bytes old mid new w k =
    record {
      lines = w.lines;
      front = w.front;
      behind = w.behind;
      text = w.text;
      written = appends_keeps old mid new _ w.written k;
      report = w.report;
    }

pub err_of : {X E : Type 0} (r : Result X E) (P : Type 0) → IsErr r → OnErr r P → P
err_of (Ok x) P e h = absurd (let no = e in cc)
err_of (Err x) P e h = h

-- what holds of the writer that a stop gives back
pub with_writer : {X W : Type 0} (r : Result X (Stopped W)) (P Q : W → Type 0)
    → ((w : W) → P w → Q w)
    → IfErr r (λ s. IfSome s.writer P)
    → IfErr r (λ s. IfSome s.writer Q)
with_writer (Ok x) P Q f h = tt
with_writer (Err s) P Q f h = of_some s.writer h
  where
    of_some : (o : Option _) → IfSome o P → IfSome o Q
    of_some None h = tt
    of_some (Some w) h = f w h

append_nothing : (o : Option (List ℕ)) → append_known o [] ≡ o
append_nothing None = refl
append_nothing (Some xs) = ap Some (append-nil xs)

-- what was written to the buffer, from the writer's own contents on
pub begins_as : {W : Type 0} (contents : W → Option (List ℕ)) (device before : BufWriter W Global) (writer : W)
    → device ≡ before
    → writer_buffer before ≡ []
    → writer_inner before ≡ writer
    → writer_contents contents device ≡ contents writer
begins_as contents device before writer same empty inner =
    ap (writer_contents contents) same ∙ ap (λ b. append_known (contents (writer_inner before)) b) empty
    ∙ append_nothing (contents (writer_inner before)) ∙ ap contents inner
