-- The progress of a session of code.
use Rattle.std.specs.Prelude.{ℕ, List, [], ◌∷◌, map, slice_get, Option, Some, None, Result, Ok, Err, option_and_then, option_map}
use Rattle.guest_component.specs.declared.body.Body.{Body}
use Rattle.guest_component.specs.View.{runs_of}
use Rattle.part_types.specs.declared.parts.GuestPart.{GuestPart}
use Rattle.hypercalls.specs.Stands.{parts_layout, state_of}
use Rattle.page_state.specs.declared.entry.Run.{Run}
use Rattle.trace_lines.specs.declared.line.TreeName.{TreeName}
use Rattle.trace_lines.specs.declared.line.TreeName.TheVariants.{Host, Hyp, Guest}
use Rattle.trace_lines.specs.declared.response.Response.TheVariants as responses
use Rattle.trace_lines.specs.Settings.{told_of}
use Rattle.trace_text.specs.declared.report.ReportLine.{ReportLine}
use Rattle.trace_text.specs.declared.report.ReportLine.TheVariants as report
use Rattle.trace_text.specs.declared.session.Reported.{Reported}
use Rattle.trace_text.specs.declared.session.Reported.TheVariants as reported
use Rattle.trace_text.specs.declared.session.Session.{Session}
use Rattle.trace_text.specs.declared.session.Stop.{Stop}
use Rattle.trace_text.specs.Oracles.{verdict_lines}
use Rattle.trace_text.specs.Session.{Answer, Standing}
use Rattle.trace_text.specs.Worlds.{Machine}
use Rattle.world.specs.declared.World.{World}

-- the machine that a world represents
abbrev pub machine_of : {A : Type 0} → World A → Machine
machine_of w = record { layout = parts_layout w.parts; state = state_of w.parts }

-- the progress of a session
abbrev pub standing_of : {A : Type 0} → Session A → Standing
standing_of s =
    record {
      told = told_of s.settings;
      machine = option_map machine_of s.world;
      started = s.started;
      steps = s.steps;
      disagreements = s.disagreements;
    }

-- what the guest in a slot holds, if it isn't Empty and there is such a slot
abbrev pub body_in : {A : Type 0} → Option (GuestPart A) → Option (Body A)
body_in part = option_and_then (λ g. g.guest.body) part

abbrev pub body_at : {A : Type 0} → World A → ℕ → Option (Body A)
body_at w slot = body_in (slice_get w.parts.guests.items slot)

-- the runs of the maplets beside a named tree, of an Empty guest none
abbrev pub maplets_of : {A : Type 0} → World A → TreeName → List Run
maplets_of w Host = w.parts.shared.host.maplets.runs
maplets_of w Hyp = w.parts.shared.hyp.maplets.runs
maplets_of w (Guest slot) = runs_of (body_at w slot)

-- those that a world keeps, if there is one
abbrev pub runs_in : {A : Type 0} → Option (World A) → TreeName → List Run
runs_in None tree = []
runs_in (Some w) tree = maplets_of w tree

-- those that a session keeps
abbrev pub kept_runs : {A : Type 0} → Session A → TreeName → List Run
kept_runs s tree = runs_in s.world tree

-- the lines of the report that a session's line makes
abbrev pub lines_reported : {A : Type 0} → Session A → Reported → List ReportLine
lines_reported s reported.Nothing = []
lines_reported s (reported.Line line) = report.Response line ∷ []
lines_reported s (reported.Step line verdict) = report.Response line ∷ verdict_lines verdict
lines_reported s (reported.Maplets tree) =
    map report.Response (map responses.Run (kept_runs s tree))

-- the answer of a session
abbrev pub answer_of : {A : Type 0} → Session A → Result Reported Stop → Answer
answer_of s (Ok told) = Ok (lines_reported s told)
answer_of s (Err stop) = Err stop
