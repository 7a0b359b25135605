use Rattle.std.proofs.Common.{◌≡◌, ap, ◌∙◌}
use Rattle.page_state.specs.LayoutView.{layout_of}
use Rattle.reference_model.specs.model.State.{Contents}
use Rattle.freedoms.specs.Ample.{predict_step_amply}
use Rattle.freedoms.specs.Freedoms.{view}
use Rattle.ghost_spec.specs.declared.lists.GhostLists.{GhostLists}
use Rattle.ghost_spec.specs.States.{contents_in}
use Rattle.free_judge.proofs.Judged.{agrees-by, both-ways, first-by}
use Rattle.free_judge.proofs.judge.judge_freely.Goals as goal

pub returns : goal.returns
returns c =
    let w = c.args.freedoms in
    let l = layout_of c.args.pre.now.layout in
    let pre = contents_in c.args.pre.now in
    let post = contents_in c.args.post.now in
    let made = contents_in c.in_ok-told.made in
    let e = c.in_ok-told.ensures.told in
    let t = predict_step_amply l e.ready c.args.cpu c.args.step in
    let at = λ (s : Contents) (g : GhostLists). view w (layout_of g.layout) s in
    let eb : contents_in c.in_ok-before.before ≡ view w l pre =
    c.in_ok-before.ensures.contents ∙ ap (at pre) c.lists.ensures.value in
    let ea : contents_in c.in_ok-after.after ≡ view w l post =
    c.in_ok-after.ensures.contents ∙ ap (at post) c.lists.ensures.value in
    let ev : contents_in c.in_ok-wanted.wanted ≡ view w l made =
    c.in_ok-wanted.ensures.contents ∙ ap (at made) c.lists.ensures.value in
    record {
      ready = e.ready;
      from = e.from;
      none =
          both-ways c.judge_seen.ensures.none
          (agrees-by w l pre c.args.step c.args.reply.now post c.in_ok-told.told made
          (contents_in c.in_ok-before.before) (contents_in c.in_ok-after.after)
          (contents_in c.in_ok-wanted.wanted) t e.reply_is e.contents_are eb ea ev);
      first =
          first-by w l pre c.args.step c.args.reply.now post c.in_ok-told.told made (contents_in c.in_ok-before.before)
          (contents_in c.in_ok-after.after)
          (contents_in c.in_ok-wanted.wanted) t e.reply_is e.contents_are eb ea ev
          c.judge_seen.result c.judge_seen.ensures.first;
    }
