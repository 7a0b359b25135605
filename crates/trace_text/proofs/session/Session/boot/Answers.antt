use Rattle.std.proofs.Common.{rules, refl, ap, option_map}
use Rattle.trace_text.specs.View.{machine_of, standing_of}
use Rattle.trace_text.proofs.Standing.{matched}
use Rattle.trace_text.proofs.Machines.{boots}
use Rattle.trace_text.proofs.session.Session.boot.Goals as goal

pub returns-in-Ok-clause-done : goal.returns-in-Ok-clause-done
returns-in-Ok-clause-done g c =
    let old = standing_of c.args.self.now in
    matched c.args.self.now.settings.carve c.in-Some.carve _ _ (search rules) (
      machine_of c.in-Ok.world,
      c.boot_line-line.result,
      refl,
      record {
        booted = boots _ _ c.in-Ok.world c.in-Ok.ensures;
        line = c.boot_line-line.ensures;
        standing = ap (λ world. record old { machine = option_map machine_of world }) c.replace.ensures.after;
      },
    )
