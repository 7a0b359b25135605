use Rattle.std.proofs.Common.{◌+◌, ◌++◌, ◌∙◌, List, [], ℕ, Bor, ap, sym}
use Rattle.std.proofs.lemmas.List.{get_or-map}
use Rattle.trace_explain.specs.View.{looks_in, told_line}
use Rattle.trace_text.specs.ByPlace.{line_at}
use Rattle.trace_explain.proofs.Carrying.{block_made, has_frames, report_of_step}
use Rattle.trace_explain.proofs.explaining.show_run.Goals as goal
use Rattle.trace_text.specs.View.{lines_reported, standing_of}

pub add_changed-requires : goal.add_changed-requires
add_changed-requires g c =
    record {
      frames =
          has_frames (c.args.place + 1) (line_at c.args.lines.now c.args.place) (standing_of c.args.session.now)
          (lines_reported c.line_run.new.session c.in-Ok.reported)
          (standing_of c.line_run.new.session) c.args.asked c.args.before.now
          c.in-Ok.ensures.done c.requires.asked c.requires.before;
    }

pub returns-in_ok-add_changed-in-Ok-clause-done : goal.returns-in_ok-add_changed-in-Ok-clause-done
returns-in_ok-add_changed-in-Ok-clause-done g c = (
  lines_reported c.line_run.new.session c.in-Ok.reported,
  c.in-Ok.ensures.done,
  block_made (line_at c.args.lines.now c.args.place) (standing_of c.args.session.now)
      (lines_reported c.line_run.new.session c.in-Ok.reported) (standing_of c.line_run.new.session) c.args.asked
      (looks_in c.args.looks.now)
      c.args.text.now.items c.add_line.new.text.items c.add_changed.new.text.items c.requires.asked c.requires.looks
      (c.in_ok-add_line-in-Ok.ensures
      ∙ ap
      (λ (x : List ℕ). c.args.text.now.items
      ++ told_line c.line_run.new.session x c.args.asked c.args.looks.now c.in-Ok.reported)
      (sym (get_or-map (λ (l : Bor (List ℕ)). l.now) c.args.lines.now c.args.place _ [] c.requires.place)))
      (report_of_step (standing_of c.args.session.now).machine c.args.asked c.args.before.now
      (standing_of c.line_run.new.session).machine c.add_line.new.text.items c.add_changed.new.text.items
      c.requires.before c.in_ok-add_changed-in-Ok.ensures),
)
