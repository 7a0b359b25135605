use Rattle.std.proofs.Common.{◌≡◌, ◌∙◌, ◌++◌, ℕ, List, [], ◌∷◌, Option, Some, None, ap, map, refl, sym}
use Rattle.std.proofs.lemmas.List.{append-nil}
use Rattle.call_table.specs.declared.step.Step.{Step}
use Rattle.page_state.specs.declared.entry.Run.{Run}
use Rattle.trace_cover.specs.declared.condition.Condition.{Condition}
use Rattle.trace_cover.specs.declared.steps.Seen.{Seen}
use Rattle.trace_cover.specs.Steps.{seen_of}
use Rattle.trace_lines.specs.declared.response.Response.TheVariants as responses
use Rattle.trace_text.specs.declared.report.ReportLine.TheVariants as report
use Rattle.trace_text.specs.declared.session.Reported.{Reported}
use Rattle.trace_text.specs.View.{kept_runs, lines_reported}
use Rattle.trace_cover.proofs.steps.add_seen.Goals as goal

-- runs of maplets tell no step
no_steps : (asked : Option (ℕ × Step)) (condition : Option Condition) (runs : List Run)
    → seen_of asked condition (map report.Response (map responses.Run runs)) ≡ []
no_steps None condition runs = refl
no_steps (Some (cpu, step)) condition [] = refl
no_steps (Some (cpu, step)) condition (run ∷ more) = refl

pub returns-in-Maplets : goal.returns-in-Maplets
returns-in-Maplets g c =
    sym (append-nil c.args.seen.now.items)
    ∙ ap (λ (xs : List Seen). c.args.seen.now.items ++ xs)
    (sym
    (ap
    (λ (r : Reported). seen_of c.args.asked c.args.condition
    (lines_reported c.args.session.now r)) c.in-Maplets.is
    ∙ no_steps c.args.asked c.args.condition (kept_runs c.args.session.now c.in-Maplets.field-0)))
