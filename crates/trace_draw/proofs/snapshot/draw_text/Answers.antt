use Rattle.std.proofs.Common.{◌∙◌, ap, map, subst}
use Rattle.trace_draw.specs.Courses.{Leads}
use Rattle.trace_draw.proofs.snapshot.draw_text.Goals as goal
use Rattle.trace_text.specs.Session.{at_start}
use Rattle.trace_text.specs.View.{standing_of}

pub returns : goal.returns
returns g c =
    let standing = standing_of c.end_of-made.new.session in
    let ls = ap (map (λ line. line.now)) c.as_slice.ensures.value ∙ c.in_ok-lines.ensures in
    record {
      standing = standing;
      run = subst (λ all. Leads 1 at_start all standing c.in_ok-ended.ended) ls c.in_ok-ended.ensures.run;
      told = c.in_ok-ended.ensures.text;
    }
