-- Lists of slots of which one changes, and lists of what has vCPUs loaded.
use Rattle.std.proofs.Common.{◌≡◌, ℕ, zero, suc, ◌<◌, List, [], ◌∷◌, ◌++◌, Option, None, length, get_or, set, refl, sym, ap, ◌∙◌}
use Rattle.std.proofs.lemmas.List.{get_or-map}
use mathlib.Core.Path.{fun_ext}
use Rattle.reference_model.specs.model.Changes.{with_slot}
use Rattle.reference_model.specs.model.State.{Slot, put_at, no_slot}
use Rattle.ghost_spec.specs.declared.parts.GhostSlot.{GhostSlot}
use Rattle.ghost_spec.specs.States.{slot_in}
use Rattle.ghost_spec.specs.Used.{vms_in}
use Rattle.ghost_spec.proofs.Predictions.{put-list, put-items}

-- one slot becomes what a function makes of it
pub slot-changed : (xs : List GhostSlot) (v : ℕ) (new : GhostSlot) (f : Slot → Slot)
    → v < length xs
    → slot_in new ≡ f ((vms_in xs).slot v)
    → vms_in (set xs v new) ≡ with_slot v f (vms_in xs)
slot-changed xs v new f less e =
    ap (λ (s : ℕ → Slot). record { slot = s })
    (put-list slot_in (no_slot 1) xs v new less ∙ ap (put_at (vms_in xs).slot v) e)

-- a slot of a list
pub slot-own : (xs : List GhostSlot) (v : ℕ) (old : GhostSlot)
    → v < length xs
    → old ≡ get_or xs v old
    → slot_in old ≡ (vms_in xs).slot v
slot-own xs v old less e = ap slot_in e ∙ sym (get_or-map slot_in xs v old (no_slot 1) less)

pub slot-by : (xs : List GhostSlot) (v : ℕ) (old new : GhostSlot) (f : Slot → Slot)
    → v < length xs
    → old ≡ get_or xs v old
    → slot_in new ≡ f (slot_in old)
    → vms_in (set xs v new) ≡ with_slot v f (vms_in xs)
slot-by xs v old new f less e h = slot-changed xs v new f less (h ∙ ap f (slot-own xs v old less e))

-- one more vCPU that no CPU has loaded
pub none-more : (xs : List (Option ℕ)) (i : ℕ) → get_or (xs ++ None ∷ []) i None ≡ get_or xs i None
none-more [] zero = refl
none-more [] (suc i) = refl
none-more (x ∷ xs) zero = refl
none-more (x ∷ xs) (suc i) = none-more xs i

-- a vCPU of a list that goes so far
pub loaded-put : (xs ys : List (Option ℕ)) (v : ℕ) (cpu : Option ℕ)
    → v < length ys
    → ((i : ℕ) → get_or ys i None ≡ get_or xs i None)
    → ◌≡◌ {A = ℕ → Option ℕ} (λ i. get_or (set ys v cpu) i None) (put_at (λ i. get_or xs i None) v cpu)
loaded-put xs ys v cpu less same =
    put-items None ys v cpu less ∙ ap (λ (f : ℕ → Option ℕ). put_at f v cpu) (fun_ext same)
