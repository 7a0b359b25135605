use Rattle.std.proofs.Common.{None, get_or}
use Rattle.std.specs.Prelude.{string_bytes}
use Rattle.std.proofs.lemmas.List.{get_or_default}
use Rattle.page_state.specs.declared.row.Row.{Row}
use Rattle.page_state.specs.declared.row.Usage.TheVariants.{Plain}
use Rattle.run_list.specs.declared.run.Run.{Run}
use Rattle.trace_draw.specs.Texts.{line_of_run}
use Rattle.svg_elements.proofs.Joined.{text_more}
use Rattle.trace_draw.proofs.snapshot.write_runs.Goals as goal

abbrev blank : Run Row
blank =
    record {
      pages = record { first = record { 0 = 0 }; count = 0 };
      value = record { owner = record { 0 = 0 }; lent = None; usage = Plain };
    }

pub loop-run-preserved : goal.loop-run-preserved
loop-run-preserved c =
    let run = get_or c.args.runs.now c.loop-run.run-index blank in
    record {
      written =
          text_more line_of_run c.args.runs.now c.loop-run.run-index run (string_bytes c.args.text.now)
          (string_bytes c.loop-run.text) (string_bytes c.write_run.new.text)
          c.loop-run-test.true
          (get_or_default c.args.runs.now c.loop-run.run-index blank run
          c.loop-run-test.true) c.loop-run.invariant.written c.in_ok-write_run.ensures;
    }
