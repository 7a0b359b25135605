use Rattle.std.proofs.Common.{◌≡◌, ◌<◌, Some, drop, get_or, length, ap, refl, sym, ◌∙◌, rules}
use Rattle.std.proofs.lemmas.Option.{slice_get_read}
use Rattle.call_table.specs.declared.reply.Call.{Call}
use Rattle.call_table.proofs.Equality.{calls_tell}
use Rattle.world.specs.inner.Merging.{first_of}
use Rattle.world.proofs.Merging.{first_drop}
use Rattle.world.proofs.merge.is_next_in.Goals as goal

pub returns-in-Some : goal.returns-in-Some
returns-in-Some c =
    let log = c.args.log.now in
    let next = c.in-Some.next.now in
    let less : c.args.place < length log = search rules in
    let is : next ≡ get_or log c.args.place next = search rules in
    let told = calls_tell next c.args.call.now in
    let first : first_of (drop c.args.place log) ≡ Some next =
    first_drop log c.args.place ∙ slice_get_read log (length log) c.args.place next refl less is in (
      (λ t. first ∙ ap (λ (x : Call). Some x) (told.0 (sym c.eq.ensures ∙ t))),
      (λ e. let both : Some next ≡ Some c.args.call.now = sym first ∙ e in c.eq.ensures ∙ told.1 cc),
    )
