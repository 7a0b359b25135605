-- Consecutive frames, and lists that stand for the boot state.
use Rattle.std.proofs.Common.{◌≡◌, ℕ, zero, suc, ◌+◌, [], ◌∷◌, ◌++◌, drop, refl, ap, ◌∙◌, arith, add-one}
use Rattle.std.proofs.lemmas.List.{drop-drop}
use Rattle.page_state.specs.Layouts.{Layout}
use Rattle.page_state.specs.Tables.{edited}
use Rattle.page_state.specs.Trees.{frames_from}
use Rattle.reference_model.specs.model.Boot.{host_root, host_edit, host_need, hyp_root, hyp_edit, hyp_need, spare, boot_shared}
use Rattle.ghost_spec.specs.declared.shared.Shared.{Shared as SharedOfLists}
use Rattle.ghost_spec.specs.Views.{shared_in_lists}
use Rattle.ghost_trees.specs.Trees.{tree_in_lists}

-- one frame more at the end
last_frame : (first n : ℕ) → frames_from first (suc n) ≡ frames_from first n ++ (first + n) ∷ []
last_frame first zero = ap (λ f. f ∷ []) (omega arith)
last_frame first (suc n) =
    let e : first + 1 + n ≡ first + suc n = omega arith in
    ap (λ fs. first ∷ fs) (last_frame (first + 1) n ∙ ap (λ f. frames_from (first + 1) n ++ f ∷ []) e)

pub frames_more : (first n : ℕ) → frames_from first n ++ (first + n) ∷ [] ≡ frames_from first (n + 1)
frames_more first n = rw (add-one, last_frame first n) refl

-- lists of which each part is the boot state's
pub booted : (l : Layout) (s : SharedOfLists)
    → tree_in_lists s.host ≡ edited l.depth (host_root l) (host_edit l) (spare l)
    → tree_in_lists s.hyp ≡ edited l.depth (hyp_root l) (hyp_edit l) (drop (host_need l) (spare l))
    → s.free.items ≡ drop (hyp_need l) (drop (host_need l) (spare l))
    → s.rows.runs ≡ []
    → shared_in_lists s ≡ boot_shared l
booted l s host hyp free rows = rw (host, hyp, free, rows, drop-drop (hyp_need l) (host_need l) (spare l)) refl
