use Rattle.std.proofs.Common.{rules, ◌≡◌, true, drop}
use Rattle.std.specs.Prelude.{Some}
use Rattle.reference_model.specs.model.Parts.{vm_part, shared_part, guest_part}
use Rattle.reference_model.specs.model.Rules.{call_uses}
use Rattle.world.specs.inner.Merging.{first_of}
use Rattle.world.proofs.Merging.{parts_next}
use Rattle.world.proofs.merge.is_next_on_parts.Goals as goal

pub returns-then-not-is_next_where : goal.returns-then-not-is_next_where
returns-then-not-is_next_where c = (
  (λ e. cc),
  (λ e. let next : call_uses vm_part c.args.call.now ≡ true → first_of (drop c.args.places.now.vms c.args.histories.now.vms.items) ≡ Some c.args.call.now =
      e vm_part in
      search rules),
)

pub returns-then-not-is_next_where-2 : goal.returns-then-not-is_next_where-2
returns-then-not-is_next_where-2 c = (
  (λ e. cc),
  (λ e. let next : call_uses shared_part c.args.call.now ≡ true → first_of (drop c.args.places.now.shared c.args.histories.now.shared.items) ≡ Some c.args.call.now =
      e shared_part in
      search rules),
)

pub returns : goal.returns
returns c =
    let h = c.args.histories.now in
    let g = c.args.places.now in
    let call = c.args.call.now in
    let vms : call_uses vm_part call ≡ true → first_of (drop g.vms h.vms.items) ≡ Some call = search rules in
    let shared : call_uses shared_part call ≡ true → first_of (drop g.shared h.shared.items) ≡ Some call =
    search rules in (
      (λ e. parts_next h g call vms shared (c.is_next_on_guest.ensures.0 e)),
      (λ e. c.is_next_on_guest.ensures.1 (λ v. e (guest_part v))),
    )
