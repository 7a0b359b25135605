use Rattle.page_state.specs.LayoutView.{layout_of}
use Rattle.ghost_legal.proofs.Lows.{trees-own}
use Rattle.ghost_legal.proofs.Pointwise.{frames-legal}
use Rattle.ghost_legal.proofs.Whole.{all-held}
use Rattle.ghost_legal.proofs.state.first_unfit.Goals as goal

pub returns-in-None : goal.returns-in-None
returns-in-None c =
    let g = c.args.state.now in
    let hs = c.args.held.now in
    let r = c.requires in
    let p = r.pages in
    let t = p.tables in
    let own = trees-own (layout_of g.layout).depth g t.host t.hyp t.guests r.tables in
    frames-legal g hs r.once.order
    (all-held g hs r.once.order r.kept.guests_count r.kept.cpus_count own p.runs p.guests r.all) c.in-None.ensures
    p.guests p.hyp
