use Rattle.std.proofs.Common.{◌≡◌, ℕ, Ok, Err, sym, ap, subst, ◌∙◌}
use Rattle.std.specs.Prelude.{Result, IsErrAnd, MatchResult}
use Rattle.page_state.specs.declared.layout.Config.{Config}
use Rattle.page_state.specs.LayoutView.{layout_of}
use Rattle.page_state.specs.Layouts.{Layout}
use Rattle.page_state.specs.Regions.{Memory}
use Rattle.part_table.specs.Passes.{AreFirst}
use Rattle.hypercalls.proofs.AtBoot.{at_boot}
use Rattle.world.specs.Boots.{IsNoBoot}
use Rattle.world.specs.declared.boot.BootFault.{BootFault}
use Rattle.cpu_threads.proofs.AtBoot.{begins_at_boot}
use Rattle.cpu_threads.proofs.machine.Machine.boot.Goals as goal

-- a fault that is passed on tells what it told before
passed_on : {T : Type 0} (P : T → Type 0) (m : Memory) (c : Config) (r : Result T BootFault) (f : BootFault)
    → IsErrAnd r (λ b. b ≡ f)
    → IsNoBoot f m c
    → MatchResult r P (λ fault. IsNoBoot fault m c)
passed_on P m c (Ok x) f e h = absurd e
passed_on P m c (Err b) f e h = subst (λ (x : BootFault). IsNoBoot x m c) (sym e) h

pub machine_of-requires : goal.machine_of-requires
machine_of-requires g c =
    record { history = at_boot c.args.map.now c.args.config c.in_ok-parts.parts c.in_ok-parts.ensures }

pub returns-in_err-parts : goal.returns-in_err-parts
returns-in_err-parts g c =
    passed_on _ c.args.map.now c.args.config c.from_residual.result c.in_err-parts.field-0.0 c.from_residual.ensures.1
    c.in_err-parts.ensures

pub returns-in_err-machine : goal.returns-in_err-machine
returns-in_err-machine g c =
    let b = c.in_ok-parts.ensures in
    passed_on _ c.args.map.now c.args.config c.from_residual-in_err-machine.result _
    c.from_residual-in_err-machine.ensures.1
    (b.geometry, b.accepted, b.enough)

pub returns : goal.returns
returns g c =
    let b = c.in_ok-parts.ensures in
    let e = c.in_ok-machine.ensures in
    record {
      geometry = b.geometry;
      memory = b.memory;
      accepted = b.accepted;
      enough = b.enough;
      layout = ap layout_of e.layout ∙ b.layout;
      begun = begins_at_boot c.args.map.now c.args.config c.in_ok-parts.parts b c.in_ok-machine.machine e;
      passes =
          subst (λ (n : ℕ). AreFirst c.in_ok-machine.machine.table n c.in_ok-machine.machine.passes)
          (ap (λ (l : Layout). l.config.cpus) b.layout) e.passes;
    }
