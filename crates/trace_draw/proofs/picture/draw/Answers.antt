use Rattle.std.proofs.Common.{◌∙◌, ap, map, subst}
use Rattle.trace_draw.specs.Courses.{Leads}
use Rattle.trace_draw.proofs.picture.draw.Goals as goal
use Rattle.trace_text.specs.Session.{at_start}
use Rattle.trace_text.specs.View.{standing_of}

pub returns : goal.returns
returns g c =
    let standing = standing_of c.made-course.new.session in
    let ls = ap (map (λ line. line.now)) c.as_slice.ensures.value ∙ c.in_ok-lines.ensures in
    record {
      standing = standing;
      run = subst (λ all. Leads 1 at_start all standing c.in_ok-course.course.ended) ls c.in_ok-course.ensures;
      scenes = c.in_ok-course.course.scenes.items;
      picture = c.in_ok-svg.ensures;
    }
