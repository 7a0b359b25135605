use Rattle.std.proofs.Common.{List, sym, subst}
use Rattle.page_state.specs.declared.layout.Layout.{Layout as TheLayout}
use Rattle.call_table.specs.declared.reply.Call.{Call}
use Rattle.part_types.specs.declared.parts.CpuState.{CpuState}
use Rattle.part_table.proofs.Left.{each_part}
use Rattle.part_table.specs.declared.slot.Slot.{Slot}
use Rattle.part_table.specs.Endings.{IsEndOf, KeepsOwn, KeepsSeen, KeepsTried}
use Rattle.part_table.specs.Passes.{Pass}
use Rattle.part_table.specs.Known.{StartsWith, seen_at}
use Rattle.part_table.specs.Beginnings.{own_in}
use Rattle.cpu_threads.specs.Laws.{EndsInOne, IsHistoryOf}
use Rattle.cpu_threads.proofs.laws.one_history.Goals as goal

-- the end's history is that of a pass whose state and whose logs stand there
of_kept : {A : Type 0} (l : TheLayout) (found : List (Slot A)) (cpus : List CpuState) (e : IsEndOf l found cpus)
    (p : Pass)
    → KeepsOwn cpus p
    → KeepsSeen found p
    → KeepsTried l e.left.log p
    → IsHistoryOf l e.left.log p
of_kept l found cpus e p own seen tried = record {
  calls = sym (e.left.cpus p.knows.cpu p.knows.own own).0;
  seen = λ j less. let h = each_part e j less in
      subst (λ (cs : List Call). StartsWith cs (seen_at p.knows.seen j)) h.3 (seen j h.0 h.1);
  tried = tried;
}

ends_in_one : (A : Type 0) → EndsInOne A
ends_in_one A t found cpus passes given e fresh = record {
  end = e.end;
  goes_on = e.goes_on;
  each = λ j p there. of_kept t.layout found cpus e.end p (e.own j p there) (e.seen j p there) (e.tried j p there);
  idle = λ c home. sym (e.end.left.cpus c (own_in t.begun c) (fresh c home)).0;
}

pub returns : goal.returns
returns g c = ends_in_one g.row.A.Denot
