use Rattle.std.proofs.Common.{rules, ◌≡◌, ℕ, [], drop, slice_index}
use Rattle.reference_model.specs.model.Parts.{vm_part, shared_part, guest_part}
use Rattle.world.specs.Merges.{log_at}
use Rattle.world.specs.inner.Merging.{by, on}
use Rattle.world.proofs.Merging.{none_left}
use Rattle.world.proofs.merge.all_given.Goals as goal

pub returns-then-not-is_given : goal.returns-then-not-is_given
returns-then-not-is_given c = (
  (λ e. cc),
  (λ e. let none : drop c.args.places.now.vms c.args.histories.now.vms.items ≡ [] = e (on vm_part) in search rules),
)

pub returns-then-not-is_given-2 : goal.returns-then-not-is_given-2
returns-then-not-is_given-2 c = (
  (λ e. cc),
  (λ e. let none : drop c.args.places.now.shared c.args.histories.now.shared.items ≡ [] = e (on shared_part) in
      search rules),
)

pub returns-then-not-are_given : goal.returns-then-not-are_given
returns-then-not-are_given c =
    let h = c.args.histories.now in
    let g = c.args.places.now in (
      (λ e. cc),
      (λ e. let none : (v : ℕ) → drop (slice_index g.guests.items v) (log_at h.guests.items v) ≡ [] =
          λ v. e (on (guest_part v)) in
          search rules),
    )

pub returns : goal.returns
returns c =
    let h = c.args.histories.now in
    let g = c.args.places.now in
    let vms : drop g.vms h.vms.items ≡ [] = search rules in
    let shared : drop g.shared h.shared.items ≡ [] = search rules in
    let guests : (v : ℕ) → drop (slice_index g.guests.items v) (log_at h.guests.items v) ≡ [] = search rules in (
      (λ e. let cpus : (k : ℕ) → drop (slice_index g.cpus.items k) (log_at h.cpus.items k) ≡ [] = search rules in
          none_left h g vms shared guests cpus),
      (λ e. let none : (k : ℕ) → drop (slice_index g.cpus.items k) (log_at h.cpus.items k) ≡ [] = λ k. e (by k) in
          search rules),
    )
