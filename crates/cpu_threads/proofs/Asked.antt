-- What a judge was asked and shown of a stored call.
use Rattle.std.proofs.Common.{⊎_elim, ap, ◌∙◌}
use Rattle.call_table.specs.declared.reply.Call.{Call}
use Rattle.ghost_spec.specs.States.{contents_in}
use Rattle.ghost_judge.specs.Judgements.{IsAsPredicted, IsUnchanged, told_of}
use Rattle.cpu_threads.specs.Judged.{Asked}
use Rattle.cpu_threads.specs.Laws.{AskedOnce, ShowsModel}
use Rattle.cpu_threads.proofs.Judging.{if_some}

pub asked_once : (A : Type 0) → AskedOnce A
asked_once A step reply v w from to h =
    let m = h.made in
    let told = m.told in (
      told.asked,
      told.takes_it,
      told.cpu ∙ ap (λ (c : Call). c.cpu) m.call_is,
      told.step ∙ ap (λ (c : Call). c.step) m.call_is,
      told.reply ∙ ap (λ (c : Call). c.reply) m.call_is,
    )

pub shows_model : (A : Type 0) {J : Type 0} (takes : J → Asked → J → Type 0) → ShowsModel A takes
shows_model A takes step reply v w from to h other = if_some h.made.told.asked.states
    (λ s. ⊎_elim
    (λ (as_told : IsAsPredicted reply (contents_in s.1) (told_of s.0 v.cpu step)). as_told)
    (λ (unchanged : IsUnchanged (contents_in s.0) step reply (contents_in s.1) (told_of s.0 v.cpu step)). absurd
    (other unchanged.wants.reply_is)))
    h.agrees
