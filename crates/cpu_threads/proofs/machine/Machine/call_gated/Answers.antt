use Rattle.std.proofs.Common.{◌≡◌, ℕ, ◌+◌, length, sym, ap, ◌∙◌, subst}
use Rattle.std.proofs.lemmas.Bool.{false≢true}
use Rattle.call_table.specs.declared.reply.Refusal.TheVariants.{Contended}
use Rattle.call_table.specs.declared.reply.Reply.TheVariants.{Refused}
use Rattle.part_types.specs.declared.parts.CpuState.{CpuState}
use Rattle.part_table.specs.Known.{Known}
use Rattle.part_table.specs.Passes.{IsPassOf, Opened}
use Rattle.cpu_threads.specs.Machines.{Machine}
use Rattle.cpu_threads.proofs.Tries.{meets_more, meets_none}
use Rattle.cpu_threads.proofs.machine.Machine.call_gated.Goals as goal

pub loop-init : goal.loop-init
loop-init g c = (c.requires.pass, meets_none c.args.step c.args.pass.now.knows)

pub try_step-reply-requires : goal.try_step-reply-requires
try_step-reply-requires g c =
    record {
      pass = subst (λ (t : Opened). IsPassOf t c.loop.pass)
          (ap (λ (m : Machine). m.table) (sym c.self.view_is)) c.loop.invariant.0;
    }

pub returns-then-not-is_contended-clause-cpu : goal.returns-then-not-is_contended-clause-cpu
returns-then-not-is_contended-clause-cpu g c =
    c.try_step-reply.ensures.cpu ∙ ap (λ (k : Known). k.cpu) c.loop.invariant.1.same

pub returns-then-not-is_contended-clause-stored : goal.returns-then-not-is_contended-clause-stored
returns-then-not-is_contended-clause-stored g c s =
    record { last = c.loop.pass.knows; met = c.loop.invariant.1; stores = c.try_step-reply.ensures.answers.stored s }

pub returns-then-not-is_contended-clause-log_full : goal.returns-then-not-is_contended-clause-log_full
returns-then-not-is_contended-clause-log_full g c s =
    record { last = c.loop.pass.knows; met = c.loop.invariant.1; full = c.try_step-reply.ensures.answers.log_full s }

pub loop-preserved : goal.loop-preserved
loop-preserved g c =
    let e : c.try_step-reply.result ≡ Refused Contended = c.is_contended.ensures.0 c.if-not-is_contended.false in (
      subst (λ (t : Opened). IsPassOf t c.try_step-reply.new.pass)
          (ap (λ (m : Machine). m.table) c.self.view_is) c.try_step-reply.ensures.pass,
      meets_more c.args.step c.args.pass.now.knows c.loop.pass.knows c.try_step-reply.new.pass.knows c.loop.invariant.1
          (c.try_step-reply.ensures.answers.contended e),
    )

pub returns-then-not-is_contended-clause-pass : goal.returns-then-not-is_contended-clause-pass
returns-then-not-is_contended-clause-pass g c =
    subst (λ (t : Opened). IsPassOf t c.try_step-reply.new.pass)
    (ap (λ (m : Machine). m.table) c.self.view_is) c.try_step-reply.ensures.pass

pub returns-then-not-is_contended-clause-rest : goal.returns-then-not-is_contended-clause-rest
returns-then-not-is_contended-clause-rest g c = c.try_step-reply.ensures.rest

pub returns-then-not-is_contended-clause-answered : goal.returns-then-not-is_contended-clause-answered
returns-then-not-is_contended-clause-answered g c e =
    absurd (false≢true (sym c.if-not-is_contended.true ∙ c.is_contended.ensures.1 e))

pub returns-then-not-is_contended-clause-gate_taken : goal.returns-then-not-is_contended-clause-gate_taken
returns-then-not-is_contended-clause-gate_taken g c s =
    let same = c.loop.invariant.1.same in
    subst (λ (z : ℕ × CpuState). g.G.Gate.heard_taken c.args.gate.now z.0 (length z.1.log.calls + 1))
    (λ i. ((same i).cpu, (same i).own)) (c.try_step-reply.ensures.heard s)
