use Rattle.std.proofs.Common.{◌≡◌, refl, ap, sym, subst, ◌∙◌}
use Rattle.std.specs.Prelude.{IsErrAnd}
use Rattle.page_state.specs.Regions.{has_memory}
use Rattle.world.proofs.Booted.{has_booted, no_memory, err_is}
use Rattle.world.proofs.boot.booted.Goals as goal

pub returns : goal.returns
returns g c =
    has_booted c.args.map.now c.args.config c.in-Some.geometry _ c.in_ok-clone.ensures.cases refl refl
    c.in_ok-vms.ensures.slots c.in_ok-vms.ensures.log c.in_ok-shared.ensures.log c.in_ok-guests.ensures.vacant
    c.in_ok-cpus.ensures.idle c.in_ok-shared.ensures.shared c.regions.ensures.accepted c.in-Some.ensures
    ((c.is_carve_enough.ensures c.args.config).0 c.if-not-is_carve_enough.false)

pub shared_at_boot-requires-clause-enough : goal.shared_at_boot-requires-clause-enough
shared_at_boot-requires-clause-enough g c = (c.is_carve_enough.ensures c.args.config).0 c.if-not-is_carve_enough.false

pub returns-then-not-is_carve_enough : goal.returns-then-not-is_carve_enough
returns-then-not-is_carve_enough g c = (
  c.in-Some.geometry,
  c.in-Some.ensures,
  λ h. let yes = (c.is_carve_enough.ensures c.args.config).1 h in
      let no = c.if-not-is_carve_enough.true in
      let clash = sym yes ∙ no in
      cc,
)

pub returns-in_err-shared : goal.returns-in_err-shared
returns-in_err-shared g c =
    no_memory c.args.map.now c.args.config c.in-Some.geometry c.from_residual.result c.in-Some.ensures
    ((c.is_carve_enough.ensures c.args.config).0 c.if-not-is_carve_enough.false)
    (subst (λ e. IsErrAnd c.from_residual.result (λ f. f ≡ e))
    (err_is c.in_err-shared.ensures.err) c.from_residual.ensures.1)

pub returns-in_err-vms : goal.returns-in_err-vms
returns-in_err-vms g c =
    no_memory c.args.map.now c.args.config c.in-Some.geometry c.from_residual-in_err-vms.result c.in-Some.ensures
    ((c.is_carve_enough.ensures
    c.args.config).0 c.if-not-is_carve_enough.false) c.from_residual-in_err-vms.ensures.1

pub returns-in_err-guests : goal.returns-in_err-guests
returns-in_err-guests g c =
    no_memory c.args.map.now c.args.config c.in-Some.geometry c.from_residual-in_err-guests.result c.in-Some.ensures
    ((c.is_carve_enough.ensures
    c.args.config).0 c.if-not-is_carve_enough.false) c.from_residual-in_err-guests.ensures.1

pub returns-in_err-cpus : goal.returns-in_err-cpus
returns-in_err-cpus g c =
    no_memory c.args.map.now c.args.config c.in-Some.geometry c.from_residual-in_err-cpus.result c.in-Some.ensures
    ((c.is_carve_enough.ensures
    c.args.config).0 c.if-not-is_carve_enough.false) c.from_residual-in_err-cpus.ensures.1

pub returns-in_err-clone : goal.returns-in_err-clone
returns-in_err-clone g c =
    no_memory c.args.map.now c.args.config c.in-Some.geometry c.from_residual-in_err-clone.result c.in-Some.ensures
    ((c.is_carve_enough.ensures
    c.args.config).0 c.if-not-is_carve_enough.false) c.from_residual-in_err-clone.ensures.1

pub invariant_of-result-2 : goal.invariant_of-result-2
invariant_of-result-2 g c = record {
  slots = c.in_ok-guests.ensures.count;
  counted = c.in_ok-cpus.ensures.count;
  vm_log = c.in_ok-vms.ensures.log.size;
  shared_log = c.in_ok-shared.ensures.log.size;
  depth = c.in_ok-shared.ensures.depth;
  rows = λ f. c.in_ok-shared.ensures.rows f ∙ ap (λ m. has_memory m f) (sym c.in_ok-clone.ensures.cases);
  guest_depth = λ k d less. (c.in_ok-guests.ensures.vacant k d less).depth;
  guest_logs = λ k d less. (c.in_ok-guests.ensures.vacant k d less).log.size;
  numbers = c.in_ok-cpus.ensures.numbers;
  own_logs = λ k d less. (c.in_ok-cpus.ensures.idle k d less).log.size;
}

pub returns-in_default : goal.returns-in_default
returns-in_default g c = c.in_default.ensures

pub invariant_of-result : goal.invariant_of-result
invariant_of-result g c = record { known = c.in-Some.ensures.geometry }
