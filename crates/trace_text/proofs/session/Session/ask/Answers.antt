use Rattle.std.proofs.Common.{rules, ◌≡◌, map, Some, Ok, refl, subst, sym}
use Rattle.trace_lines.specs.declared.response.Response.TheVariants as responses
use Rattle.trace_text.specs.declared.report.ReportLine.TheVariants as report
use Rattle.trace_text.specs.Session.{Answers}
use Rattle.trace_text.specs.View.{kept_runs, machine_of, runs_in, standing_of}
use Rattle.trace_text.specs.Worlds.{HasMaplets, named_tree}
use Rattle.trace_text.proofs.Machines.{has_maplets}
use Rattle.trace_text.proofs.Standing.{on_machine}
use Rattle.trace_text.proofs.session.Session.ask.Goals as goal

pub returns-in-Show : goal.returns-in-Show
returns-in-Show g c =
    let s = c.args.self.now in
    let w = c.in-Some.world.now in
    let there : s.world ≡ Some w = search rules in
    let has : HasMaplets (named_tree (machine_of w) c.in-Show.tree) (kept_runs s c.in-Show.tree)
    = subst (λ o. HasMaplets (named_tree (machine_of w) c.in-Show.tree) (runs_in o c.in-Show.tree)) (sym there)
    (has_maplets w c.in-Show.tree) in
    on_machine (Answers c.args.query) (standing_of s) s.world w _ _ refl there
    (subst
    (λ query. Answers query (machine_of w) (standing_of s)
    (Ok (map report.Response (map responses.Run (kept_runs s c.in-Show.tree)))) (standing_of s))
    (sym c.in-Show.is) (kept_runs s c.in-Show.tree, has, refl, refl))
