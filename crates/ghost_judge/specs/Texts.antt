-- How disagreements are written: pages and frames in hexadecimal, all else in decimal.
use Rattle.std.specs.Prelude.{ℕ, List, ◌++◌, Option, Some, None, codes}
use Rattle.std.specs.Fmt.{decimal}
use Rattle.page_state.specs.declared.row.Row.{Row}
use Rattle.page_state.specs.Trees.{Block}
use Rattle.page_state.specs.Texts.{text_of_page, text_of_entry, text_of_row}
use Rattle.call_table.specs.Texts.{text_of_reply}
use Rattle.call_table.specs.Words.{text_of_vm_kind}
use Rattle.ghost_spec.specs.declared.parts.GhostPhase.{GhostPhase}
use Rattle.ghost_spec.specs.declared.parts.GhostPhase.TheVariants.{Empty, Live, Dying}
use Rattle.ghost_judge.specs.declared.disagreement.Disagreement.{Disagreement}
use Rattle.ghost_judge.specs.declared.disagreement.Disagreement.TheVariants.{Map as MapDiffers, Owner as OwnerDiffers, Reply as ReplyDiffers, SharedPart, GuestPart, Vm, Cpu}
use Rattle.ghost_judge.specs.declared.disagreement.GuestHead.{GuestHead}
use Rattle.ghost_judge.specs.declared.disagreement.PartDifference.{PartDifference}
use Rattle.ghost_judge.specs.declared.disagreement.PartDifference.TheVariants.{Free, Table, Head}
use Rattle.ghost_judge.specs.declared.disagreement.TreeOf.{TreeOf}
use Rattle.ghost_judge.specs.declared.disagreement.TreeOf.TheVariants.{Host, Hyp, Guest}

abbrev pub text_of_tree : TreeOf → List ℕ
text_of_tree Host = codes "host"
text_of_tree Hyp = codes "hyp"
text_of_tree (Guest slot) = codes "guest " ++ decimal slot

-- a row, as replies have it
unfoldable pub text_of_told_row : Row → List ℕ
text_of_told_row row = text_of_row row

-- a frame, if there is one
abbrev pub text_of_frame : Option ℕ → List ℕ
text_of_frame (Some frame) = text_of_page frame
text_of_frame None = codes "-"

abbrev pub text_of_phase : GhostPhase → List ℕ
text_of_phase Empty = codes "empty"
text_of_phase Live = codes "live"
text_of_phase Dying = codes "dying"

-- a guest's phase, generation and kind
abbrev pub text_of_head : GuestHead → List ℕ
text_of_head head =
    text_of_phase head.phase ++ codes " generation " ++ decimal head.generation ++ codes " "
    ++ text_of_vm_kind head.kind

-- a table: whose tree, the block's depth, and its index there
abbrev pub text_of_block : TreeOf → Block → List ℕ
text_of_block tree block =
    codes "table " ++ text_of_tree tree ++ codes " " ++ decimal block.0 ++ codes " "
    ++ text_of_page block.1

-- a difference of the shared pool or of tables, or of a guest, with the words before both sides
abbrev pub text_of_part : Option ℕ → List ℕ → List ℕ → PartDifference → List ℕ
text_of_part None first second (Free one other) =
    codes "disagree free" ++ first ++ text_of_frame one ++ second ++ text_of_frame other
text_of_part (Some slot) first second (Free one other) =
    codes "disagree guest_free " ++ decimal slot ++ first ++ text_of_frame one ++ second
    ++ text_of_frame other
text_of_part slot first second (Table tree block one other) =
    codes "disagree " ++ text_of_block tree block ++ first ++ text_of_frame one ++ second
    ++ text_of_frame other
text_of_part None first second (Head one other) =
    codes "disagree state" ++ first ++ text_of_head one ++ second ++ text_of_head other
text_of_part (Some slot) first second (Head one other) =
    codes "disagree guest_state " ++ decimal slot ++ first ++ text_of_head one ++ second
    ++ text_of_head other

-- a disagreement, with the words before its first side and before its second
abbrev pub text_of_sides : List ℕ → List ℕ → Disagreement → List ℕ
text_of_sides first second (MapDiffers tree page one other) =
    codes "disagree " ++ text_of_tree tree ++ codes " " ++ text_of_page page ++ first
    ++ text_of_entry one ++ second ++ text_of_entry other
text_of_sides first second (OwnerDiffers frame one other) =
    codes "disagree owner " ++ text_of_page frame ++ first ++ text_of_told_row one ++ second
    ++ text_of_told_row other
text_of_sides _ _ (ReplyDiffers said spec) =
    codes "disagree reply said " ++ text_of_reply said ++ codes " spec " ++ text_of_reply spec
text_of_sides first second (SharedPart part) = text_of_part None first second part
text_of_sides first second (GuestPart slot part) = text_of_part (Some slot) first second part
text_of_sides _ _ (Vm slot) = codes "disagree vm " ++ decimal slot
text_of_sides _ _ (Cpu cpu) = codes "disagree cpu " ++ decimal cpu

-- of an audit: the kept side, and the side that the walk found
abbrev pub text_of_disagreement : Disagreement → List ℕ
text_of_disagreement d = text_of_sides (codes " kept ") (codes " walked ") d

-- of a judgement: the state after the step, and the model's
abbrev pub text_of_judgement : Disagreement → List ℕ
text_of_judgement d = text_of_sides (codes " post ") (codes " spec ") d
