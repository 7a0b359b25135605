-- What a step is predicted to do, computed; and a step that is refused leaves all that there is.
use Rattle.std.proofs.Common.{◌≡◌, ℕ, ◌∙◌}
use Rattle.call_table.specs.declared.reply.Refusal.{Refusal}
use Rattle.call_table.specs.declared.reply.Reply.TheVariants.{Refused}
use Rattle.call_table.specs.declared.step.Step.{Step}
use Rattle.page_state.specs.Blocks.{is_one_word, is_empty, blocks_on}
use Rattle.page_state.specs.Tables.{needs, freed, returned, edited}
use Rattle.reference_model.specs.model.Owner.{row_of}
use Rattle.reference_model.specs.model.Used.{used_of, put_back, rooms_of, put_rooms}
use Rattle.page_state.specs.Layouts.{Layout}
use Rattle.reference_model.specs.model.Rules.{rule}
use Rattle.reference_model.specs.model.SharedRules.{abort_edit}
use Rattle.reference_model.specs.help.RowChanges.{with_touched_rows}
use Rattle.reference_model.specs.model.State.{Reference}
use Rattle.reference_model.specs.model.Step.{stored, is_full, is_short, refusal, shared_after, guest_after, changed, own_row, with_rows, fails, made, answer, predict, predict_step}
use Rattle.reference_model.specs.model.Boot.{booted}
use Rattle.reference_model.specs.rows.Scene.{Refuses}
use Rattle.reference_model.proofs.Steps.{refusal_keeps, step_exists}

-- where this stands on a line of unfolding, a predicted step computes
unfoldable pub computing : Unit {0}
unfolding with_touched_rows used_of put_back rooms_of put_rooms stored is_full is_short refusal shared_after guest_after
    changed own_row with_rows fails made answer predict predict_step rule abort_edit row_of edited needs freed returned
    is_one_word is_empty blocks_on booted
computing = tt

-- a step whose reply is a refusal leaves all that there is
pub refuses : {l : Layout} {s : Reference} {cpu : ℕ} {step : Step} {why : Refusal}
    → (predict_step l s cpu step).0 ≡ Refused why
    → Refuses l s cpu step why
refuses {l} {s} {cpu} {step} {why} h =
    let e = step_exists l s cpu step in
    record { reply = h; left = refusal_keeps l s (predict_step l s cpu step).1 e.0 why e.4 (e.3 ∙ h) }
