-- The rows and slots of a machine, as they are written.
use Rattle.std.proofs.Common.{◌≡◌, ℕ, ◌+◌, Bool, true, false, List, ◌++◌, refl, sym, ap, ◌∙◌, Option, Some, None, add-one}
use Rattle.std.specs.Prelude.{is_some, unwrap_or, if◌then◌else◌}
use Rattle.std.proofs.lemmas.List.{append_assoc, append-nil}
use Rattle.page_state.specs.declared.row.Row.{Row}
use Rattle.reference_model.specs.model.State.{Slot}
use Rattle.trace_draw.specs.Texts.{line_by, text_of_slot, text_of_slots}

-- a row where a frame is memory, and none elsewhere
pub row_told : (found : Option Row) (plain : Row) (memory : Bool)
    → is_some found ≡ memory
    → found ≡ (if memory then Some (unwrap_or found plain) else None)
row_told None plain memory e = rw (sym e) refl
row_told (Some row) plain memory e = rw (sym e) refl

slots_more : (slots : ℕ → Slot) (v : ℕ)
    → text_of_slots slots (v + 1) ≡ text_of_slots slots v ++ line_by (slots v).stand (text_of_slot v (slots v))
unfolding text_of_slots
slots_more slots v = rw add-one refl

-- no slot yet
pub no_slots : (slots : ℕ → Slot) (begun : List ℕ) → begun ≡ begun ++ text_of_slots slots 0
unfolding text_of_slots
no_slots slots begun = sym (append-nil begun)

-- one more slot
pub slot_told : (slots : ℕ → Slot) (v : ℕ) (s : Slot) (begun now new : List ℕ)
    → now ≡ begun ++ text_of_slots slots v
    → s ≡ slots v
    → new ≡ now ++ line_by s.stand (text_of_slot v s)
    → new ≡ begun ++ text_of_slots slots (v + 1)
slot_told slots v s begun now new e at more =
    let line : Slot → List ℕ = λ t. line_by t.stand (text_of_slot v t) in
    more ∙ ap (λ t. t ++ line s) e ∙ append_assoc begun (text_of_slots slots v) (line s)
    ∙ ap (λ t. begun ++ t) (ap (λ t. text_of_slots slots v ++ line t) at ∙ sym (slots_more slots v))
