use Rattle.std.proofs.Common.{◌≡◌, ◌<◌, ap, sym, ◌∙◌, arith, length, get_or, subst}
use Rattle.std.proofs.lemmas.List.{get_or-map}
use Rattle.std.proofs.lemmas.List.Elements.{All-get_or}
use Rattle.reference_model.specs.model.State.{Cpu, no_cpu}
use Rattle.ghost_spec.specs.declared.lists.GhostLists.{GhostLists}
use Rattle.ghost_spec.specs.Kept.{IsKeptCpu}
use Rattle.ghost_spec.specs.States.{contents_in, IsKept}
use Rattle.ghost_spec.specs.Views.{cpu_in}
use Rattle.free_judge.specs.PoolByRows.{asked_slot}
use Rattle.free_judge.proofs.asked.slot_in.Goals as goal

pub asked_slot-requires : goal.asked_slot-requires
asked_slot-requires c =
    let g = c.lists-lists.result.now in
    let k = c.lists-lists.ensures.kept in
    let less : c.args.cpu < length g.cpus.items =
    subst (λ (x : GhostLists). c.args.cpu < length x.cpus.items) (sym c.lists-lists.ensures.value)
    (omega (arith, k.cpus_count, c.requires)) in
    subst IsKeptCpu (sym c.index-own.ensures)
    (All-get_or IsKeptCpu g.cpus.items c.args.cpu c.index-own.result.now less
    (subst IsKept (sym c.lists-lists.ensures.value) k).cpus)

pub returns-clause-value : goal.returns-clause-value
returns-clause-value c =
    let g = c.lists-lists.result.now in
    let k = c.lists-lists.ensures.kept in
    let own = c.index-own.result.now in
    let less : c.args.cpu < length g.cpus.items =
    subst (λ (x : GhostLists). c.args.cpu < length x.cpus.items) (sym c.lists-lists.ensures.value)
    (omega (arith, k.cpus_count, c.requires)) in
    c.asked_slot.ensures.value
    ∙ ap (λ (x : Cpu). asked_slot x c.args.step)
    (sym (get_or-map cpu_in g.cpus.items c.args.cpu own no_cpu less ∙ ap cpu_in (sym c.index-own.ensures))
    ∙ ap (λ (x : GhostLists). (contents_in x).cpu c.args.cpu) c.lists-lists.ensures.value)
