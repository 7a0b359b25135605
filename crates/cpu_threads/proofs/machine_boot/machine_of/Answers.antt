use Rattle.std.proofs.Common.{ℕ, sym, ap, ◌∙◌, subst}
use Rattle.page_state.specs.declared.layout.Layout.{Layout as TheLayout}
use Rattle.part_table.specs.Endings.{IsEndIn}
use Rattle.part_table.specs.Passes.{AreFirst}
use Rattle.part_table.specs.Beginnings.{logs_in}
use Rattle.part_table.specs.Slots.{slots_of}
use Rattle.part_table.proofs.Beginning.{logs_laid}
use Rattle.cpu_threads.proofs.Tries.{first_fresh}
use Rattle.cpu_threads.proofs.machine_boot.machine_of.Goals as goal

pub open-requires : goal.open-requires
open-requires g c =
    let a = c.apart-layout.ensures in
    record {
      end = subst
          (λ (l : TheLayout). IsEndIn {A = g.row.A.Denot} l c.apart-layout.result.1.items c.apart-layout.result.2.items)
          (sym a.layout) (a.end c.requires.history);
    }

pub invariant_of-result : goal.invariant_of-result
invariant_of-result g c =
    let e = c.in_ok-table.ensures in record {
      count = e.passes.0 ∙ ap (λ (l : TheLayout). l.config.cpus) (sym e.layout);
      fresh = first_fresh c.in_ok-table.table c.apart-layout.result.0.config.cpus c.in_ok-table.passes.items e.passes;
    }

pub returns : goal.returns
returns g c =
    let a = c.apart-layout.ensures in
    let e = c.in_ok-table.ensures in
    let p = c.args.parts in
    record {
      layout = e.layout ∙ a.layout;
      begun =
          e.begun ∙ (λ i. record { logs = (ap logs_in a.slots ∙ logs_laid (slots_of p)) i; owns = (a.cpus i).items });
      passes =
          subst (λ (n : ℕ). AreFirst c.in_ok-table.table n c.in_ok-table.passes.items)
          (ap (λ (l : TheLayout). l.config.cpus) a.layout) e.passes;
    }
