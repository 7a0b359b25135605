-- What a step's tests say where they pass.
use Rattle.std.proofs.Common.{◌≡◌, ℕ, ◌≤◌, refl, arith, length}
use Rattle.std.specs.Prelude.{Bool, true, false, not, ◌||◌, nat_lt, Option, Some, None, if◌then◌else◌}
use Rattle.std.proofs.lemmas.Bool.Decides.{nat_tests}
use Rattle.call_table.specs.declared.reply.Refusal.{Refusal}
use Rattle.call_table.specs.declared.reply.Refusal.TheVariants.{NoPool}
use Rattle.reference_model.specs.model.Rule.{Rule}
use Rattle.reference_model.specs.model.Step.{first_test, or_else, refusal, is_short, shared_need, guest_need}
use Rattle.reference_model.specs.model.Used.{Used}
use Rattle.page_state.proofs.Common.{not-false, or-neither}

-- what a step that decides to change has passed
pub record Tested (r : Rule) (lacks : Bool) : Type 0 where
  pub valid : r.valid.passes ≡ true
  pub lacks_none : lacks ≡ false
  pub has_vm : r.has_vm.passes ≡ true
  pub ready : r.ready.passes ≡ true
  pub allowed : r.allowed.passes ≡ true

-- and what a call that isn't refused has
pub record Passed (depth : ℕ) (r : Rule) (lacks : Bool) (x : Used) : Type 0 where
  pub valid : r.valid.passes ≡ true
  pub lacks_none : lacks ≡ false
  pub has_vm : r.has_vm.passes ≡ true
  pub ready : r.ready.passes ≡ true
  pub allowed : r.allowed.passes ≡ true
  pub shared_enough : shared_need depth r.changes x.shared ≤ length x.shared.free
  pub guest_enough : guest_need depth r.changes x.guest ≤ length x.guest.free

pass-test : (b : Bool) (why : Refusal) (rest : Option Refusal)
    → (if b then Some why else rest) ≡ None
    → (b ≡ false) × (rest ≡ None)
pass-test true why rest h = cc
pass-test false why rest h = (refl, h)

pass-both : (o : Option Refusal) (rest : Option Refusal) → or_else o rest ≡ None → (o ≡ None) × (rest ≡ None)
pass-both (Some why) rest h = cc
pass-both None rest h = (refl, h)

pub tested : (r : Rule) (lacks : Bool) → first_test r lacks ≡ None → Tested r lacks
tested r lacks h =
    let a = pass-test (not r.valid.passes) _ _ h in
    let b = pass-test (lacks || not r.has_vm.passes) _ _ a.1 in
    let vm = or-neither lacks (not r.has_vm.passes) b.0 in
    let c = pass-test (not r.ready.passes) _ _ b.1 in
    let d = pass-test (not r.allowed.passes) _ _ c.1 in
    record {
      valid = not-false r.valid.passes a.0;
      lacks_none = vm.0;
      has_vm = not-false r.has_vm.passes vm.1;
      ready = not-false r.ready.passes c.0;
      allowed = not-false r.allowed.passes d.0;
    }

pub passed : (depth : ℕ) (r : Rule) (lacks : Bool) (x : Used) → refusal depth r lacks x ≡ None → Passed depth r lacks x
unfolding refusal is_short
passed depth r lacks x h =
    let all = pass-both (first_test r lacks) (if is_short depth r.changes x then Some NoPool else None) h in
    let t = tested r lacks all.0 in
    let e = pass-test (is_short depth r.changes x) _ _ all.1 in
    let n =
    or-neither (nat_lt (length x.shared.free) (shared_need depth r.changes x.shared))
    (nat_lt (length x.guest.free) (guest_need depth r.changes x.guest)) e.0 in
    record {
      valid = t.valid;
      lacks_none = t.lacks_none;
      has_vm = t.has_vm;
      ready = t.ready;
      allowed = t.allowed;
      shared_enough =
          enough (length x.shared.free) (shared_need depth r.changes x.shared) n.0;
      guest_enough =
          enough (length x.guest.free) (guest_need depth r.changes x.guest) n.1;
    }
  where
    enough : (m n : ℕ) → nat_lt m n ≡ false → n ≤ m
    enough m n h = grind (arith, nat_tests)
