-- A derived `==` tells whether two CPUs have the same loaded, in hand, and as ticket.
use Rattle.std.proofs.Common.{◌≡◌}
use Rattle.std.specs.Prelude.{Decides}
use Rattle.std.proofs.lemmas.Bool.Decides.{Decides-like}
use Rattle.page_state.specs.contracts.entry.PageRange as range_type
use Rattle.page_state.specs.contracts.entry.PageRangePartialEq.TheImpl as ranges
use Rattle.page_state.proofs.Equality.{both_tell, one, more, options_tell, ranges_tell}
use Rattle.reference_model.specs.contracts.changes.Loaded as loaded_type
use Rattle.reference_model.specs.contracts.changes.LoadedPartialEq.TheImpl as loads
use Rattle.reference_model.specs.contracts.changes.Ticket as ticket_type
use Rattle.reference_model.specs.contracts.changes.TicketPartialEq.TheImpl as tickets
use Rattle.reference_model.proofs.Equality.{loads_tell, tickets_tell}
use Rattle.ghost_spec.specs.contracts.cpu.GhostCpuPartialEq.TheImpl as cpus
use Rattle.ghost_spec.specs.declared.cpu.GhostCpu.{GhostCpu}
use Rattle.ghost_spec.specs.Views.{cpu_in}

pub cpus_tell : (a b : GhostCpu) → Decides (cpus.ghosts.eq a b) (cpu_in a ≡ cpu_in b)
cpus_tell a b =
    let loaded = options_tell loaded_type.the_row loads.ghosts loads.dict loads_tell in
    let hand = options_tell range_type.the_row ranges.ghosts ranges.dict ranges_tell in
    let ticket = options_tell ticket_type.the_row tickets.ghosts tickets.dict tickets_tell in
    let rest = more _ hand _ (one _ ticket) in
    Decides-like (cpus.ghosts.eq a b) (λ p i. record { loaded = p.0 i; hand = (p.1 i).0; ticket = (p.1 i).1.0 })
    (λ e. ((λ i. (e i).loaded), (λ i. ((e i).hand, ((e i).ticket, tt)))))
    (both_tell _ _ loaded rest a.loaded b.loaded (a.hand, (a.ticket, tt)) (b.hand, (b.ticket, tt)))
