use Rattle.std.proofs.Common.{None, ap, sym, ◌∙◌}
use Rattle.std.specs.Prelude.{◌==◌, ◌&&◌, if◌then◌else◌}
use Rattle.std.specs.Option.{option_or}
use Rattle.c_states.specs.Lists.{loader_from_c}
use Rattle.c_states.proofs.Telling.{load_more}
use Rattle.c_states.proofs.ToldKnown.{loads_known}
use Rattle.c_states.proofs.told.push_load.Goals as goal

pub returns-in_ok-push-clause-said : goal.returns-in_ok-push-clause-said
returns-in_ok-push-clause-said c = λ s k.
    ap (λ xs. loader_from_c xs s k) c.in_ok-push.ensures.items
    ∙ (load_more c.args.told.now.items (record { slot = c.args.slot; vcpu = c.args.vcpu; cpu = c.in-Some.cpu }) s k
    ∙ ap
    (λ o. option_or (loader_from_c c.args.told.now.items s k)
    (if c.args.slot == s && c.args.vcpu == k then o else None))
    (sym c.in-Some.is))

pub returns-in_ok-push-clause-known : goal.returns-in_ok-push-clause-known
returns-in_ok-push-clause-known c =
    λ low known. loads_known c.args.told.now.items c.push.new.self.items c.args.slot c.args.vcpu c.in-Some.cpu
    c.in_ok-push.ensures.items low known
