use Rattle.part_types.specs.View.{cpu_of}
use Rattle.decisions.proofs.GuestDecided.{installs, installs_none}
use Rattle.decisions.proofs.calls.guest_frames.decide_install.Goals as goal

pub returns-in_default : goal.returns-in_default
returns-in_default c =
    record { decided = λ l id slot s g. installs_none l id slot s g (cpu_of c.args.cpu.now) c.in_default.is }

pub returns : goal.returns
returns c =
    record {
      decided = λ l id slot s g. installs l id slot s g
          (cpu_of c.args.cpu.now) c.in-Some.hand c.ticket_kind.result c.ticket_vm.result c.moved_on.result
          c.ticket_kind.ensures c.ticket_vm.ensures c.moved_on.ensures c.in-Some.is;
    }
