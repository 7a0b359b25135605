use Rattle.std.proofs.Common.{◌≡◌, ◌+◌, ◌++◌, ◌∷◌, [], All, Bool, None, true, is_ok, if◌then◌else◌, ap, sym, subst, refl, ◌∙◌, arith}
use Rattle.std.proofs.lemmas.List.Elements.{All-push}
use Rattle.part_types.specs.declared.parts.CpuState.{CpuState}
use Rattle.part_types.specs.Numbers.{AreNumbered}
use Rattle.hypercalls.proofs.Numbered.{numbered_more}
use Rattle.world.specs.Boots.{IsIdle}
use Rattle.world.proofs.boot.cpus_at_boot.Goals as goal

pub loop-id-preserved : goal.loop-id-preserved
loop-id-preserved c =
    let made : is_ok c.push.result ≡ true = sym c.map_err.ensures.variant ∙ ap is_ok c.in_ok-map_err.was in
    let cpu : CpuState =
    record { id = c.loop-id.id; loaded = None; hand = None; ticket = None; log = c.in_ok-log.log } in
    let items =
    c.push.ensures.items
    ∙ ap (λ (b : Bool). if b then c.loop-id.cpus.items ++ cpu ∷ [] else c.loop-id.cpus.items) made in
    let long = c.push.ensures.len ∙ ap (λ b. if b then c.loop-id.cpus.len + 1 else c.loop-id.cpus.len) made in
    let idle : IsIdle c.args.config.log cpu = record { idle = refl; log = c.in_ok-log.ensures } in
    record {
      count = omega (arith, long, c.loop-id.invariant.count);
      idle =
          subst (All (IsIdle c.args.config.log)) (sym items)
          (All-push (IsIdle c.args.config.log) c.loop-id.cpus.items cpu c.loop-id.invariant.idle idle);
      numbers =
          subst AreNumbered (sym items)
          (numbered_more c.loop-id.cpus.items cpu
          (let count = c.loop-id.invariant.count in
          omega (arith, count, c.loop-id.cpus.ok.0)) c.loop-id.invariant.numbers);
    }
