use Rattle.std.proofs.Common.{ℕ, ap, sym, subst, ◌∙◌, arith}
use Rattle.std.proofs.lemmas.List.Elements.{All-set}
use Rattle.reference_model.specs.model.State.{Cpu, no_cpu, put_at}
use Rattle.ghost_spec.specs.Kept.{IsKeptCpu}
use Rattle.ghost_spec.specs.Views.{cpu_in}
use Rattle.ghost_oracle.specs.Low.{IsLowCpu}
use Rattle.ghost_oracle.proofs.LowKept.{one_kept}
use Rattle.ghost_oracle.proofs.Recording.{one_put}
use Rattle.ghost_oracle.proofs.record.cpus_with.Goals as goal

pub returns-clause-cpus : goal.returns-clause-cpus
returns-clause-cpus c =
    λ k. ap (λ (f : ℕ → Cpu). f k)
    (one_put cpu_in no_cpu c.in_ok-cpus.cpus.items c.args.state.now.id c.cpu_from.result c.in_ok-cpus.ensures.idle
    (omega (arith, c.requires, c.in_ok-cpus.ensures.count)))
    ∙ ap (λ (x : Cpu). put_at (λ j. no_cpu) c.args.state.now.id x k) c.cpu_from.ensures

pub returns-clause-kept : goal.returns-clause-kept
returns-clause-kept c =
    λ low. All-set IsKeptCpu c.in_ok-cpus.cpus.items c.args.state.now.id c.cpu_from.result
    (one_kept c.cpu_from.result (subst IsLowCpu (sym c.cpu_from.ensures) low)) c.in_ok-cpus.ensures.kept
