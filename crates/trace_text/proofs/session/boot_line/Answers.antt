use Rattle.std.proofs.Common.{rules, ◌≡◌, ◌∙◌, ℕ, refl}
use Rattle.trace_lines.specs.declared.response.Response.TheVariants as responses
use Rattle.trace_text.proofs.Machines.{host_count, hyp_count, free_is}
use Rattle.trace_text.proofs.session.boot_line.Goals as goal

boot_is : (a b c d e f : ℕ) → a ≡ d → b ≡ e → c ≡ f → responses.Boot a b c ≡ responses.Boot d e f
boot_is a b c d e f h k l = rw (h, k, l) refl

pub returns : goal.returns
returns g c =
    let w = c.args.world.now in
    boot_is _ _ _ _ _ _ (search rules ∙ host_count w) (search rules ∙ hyp_count w) (search rules ∙ free_is w)
