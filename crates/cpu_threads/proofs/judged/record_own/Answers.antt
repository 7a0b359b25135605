use Rattle.std.proofs.Common.{None, refl, subst, sym}
use Rattle.page_state.specs.LayoutView.{layout_of}
use Rattle.part_table.specs.Does.{none_at}
use Rattle.cpu_threads.specs.Judged.{IsRecordOf}
use Rattle.cpu_threads.proofs.Judging.{given_own, record_of}
use Rattle.cpu_threads.proofs.judged.record_own.Goals as goal

pub of_kept-requires : goal.of_kept-requires
of_kept-requires g c = c.in_ok-lists.ensures.kept tt c.requires.low.own_low

pub returns : goal.returns
returns g c =
    subst (IsRecordOf {A = g.row.A.Denot} (layout_of c.args.layout.now) none_at c.args.cpu.now) (sym c.of_kept.ensures)
    (record_of {A = g.row.A.Denot} (layout_of c.args.layout.now) none_at c.args.cpu.now None None None refl refl refl
    (given_own c.args.cpu.now) c.in_ok-lists.lists c.in_ok-lists.ensures.state c.in_ok-lists.ensures.layout)
