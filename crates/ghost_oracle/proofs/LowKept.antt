-- CPUs on lists are kept where those that they stand for are of small numbers.
use Rattle.std.proofs.Common.{◌≡◌, ℕ, ◌<◌, List, [], ◌∷◌, length, map, All, ap, sym, ◌∙◌, subst, arith}
use Rattle.std.specs.Prelude.{get_or}
use Rattle.std.proofs.lemmas.List.{get_or-map, length-map}
use Rattle.reference_model.specs.model.State.{Cpu, no_cpu}
use Rattle.part_types.specs.declared.parts.CpuState.{CpuState}
use Rattle.part_types.specs.View.{cpu_of}
use Rattle.ghost_spec.specs.declared.cpu.GhostCpu.{GhostCpu}
use Rattle.ghost_spec.specs.Kept.{IsKeptCpu}
use Rattle.ghost_spec.specs.declared.lists.GhostLists.{GhostLists}
use Rattle.ghost_spec.specs.States.{AreKeptCpus, AreKeptGuests, IsKept}
use Rattle.ghost_spec.specs.Views.{cpu_in}
use Rattle.ghost_oracle.specs.Low.{IsLowCpu}
use Rattle.ghost_oracle.specs.inner.Trees.{AreTreesKept}

pub one_kept : (k : GhostCpu) (low : IsLowCpu (cpu_in k)) → IsKeptCpu k
one_kept k low = record { hand = low.hand; loaded = low.loaded; ticket = low.ticket }

any_state : (xs : List GhostCpu) (ys : List CpuState)
    → map cpu_in xs ≡ map cpu_of ys
    → All (λ y. IsLowCpu (cpu_of y)) ys
    → (d : CpuState)
    → (k : ℕ) (x : GhostCpu)
    → k < length xs
    → IsKeptCpu (get_or xs k x)
any_state xs ys same low d k x less =
    let long : length xs ≡ length ys = sym (length-map xs cpu_in) ∙ ap length same ∙ length-map ys cpu_of in
    let within : k < length ys = omega (arith, less, long) in
    let here : cpu_in (get_or xs k x) ≡ cpu_of (get_or ys k d) =
    sym (get_or-map cpu_in xs k x no_cpu less) ∙ ap (λ (zs : List Cpu). get_or zs k no_cpu) same
    ∙ get_or-map cpu_of ys k d no_cpu within in
    one_kept (get_or xs k x) (subst IsLowCpu (sym here) (low k d within))

pub low_cpus_kept : (xs : List GhostCpu) (ys : List CpuState)
    → map cpu_in xs ≡ map cpu_of ys
    → All (λ y. IsLowCpu (cpu_of y)) ys
    → AreKeptCpus xs
low_cpus_kept xs [] same low k x less = let long : length xs ≡ 0 = sym (length-map xs cpu_in) ∙ ap length same in
    absurd (omega (arith, less, long))
low_cpus_kept xs (y ∷ ys) same low k x less = any_state xs (y ∷ ys) same low y k x less

-- lists are kept where their trees are, and guests and CPUs are of small numbers
pub all_kept : {g : GhostLists} → AreTreesKept g → AreKeptGuests g.guests.items → AreKeptCpus g.cpus.items → IsKept g
all_kept trees guests cpus = record {
  shared = trees.shared;
  guests = guests;
  cpus = cpus;
  vms_count = trees.vms_count;
  guests_count = trees.guests_count;
  cpus_count = trees.cpus_count;
  guest_rooms_count = trees.guest_rooms_count;
  cpu_rooms_count = trees.cpu_rooms_count;
}

pub trees_of : {g : GhostLists} → IsKept g → AreTreesKept g
trees_of kept = record {
  shared = kept.shared;
  guests = λ k d less. (kept.guests k d less).tree;
  vms_count = kept.vms_count;
  guests_count = kept.guests_count;
  cpus_count = kept.cpus_count;
  guest_rooms_count = kept.guest_rooms_count;
  cpu_rooms_count = kept.cpu_rooms_count;
}
