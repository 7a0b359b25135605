-- Worked rows: how some disagreements are written.
use Rattle.std.specs.Prelude.{◌≡◌, Some, None, codes}
use Rattle.page_state.specs.declared.entry.Entry.TheVariants.{Annotated, Unmapped}
use Rattle.page_state.specs.declared.row.Usage.TheVariants.{Plain}
use Rattle.call_table.specs.declared.reply.Refusal.TheVariants.{Perm}
use Rattle.call_table.specs.declared.reply.Reply.TheVariants.{Done, Refused}
use Rattle.call_table.specs.declared.reply.Value.TheVariants.{Nothing}
use Rattle.call_table.specs.declared.step.VmKind.TheVariants.{Plain as PlainVm}
use Rattle.ghost_spec.specs.declared.parts.GhostPhase.TheVariants.{Live, Dying}
use Rattle.ghost_judge.specs.Texts.{text_of_disagreement, text_of_judgement}
use Rattle.ghost_judge.specs.declared.disagreement.Disagreement.TheVariants.{Map as MapDiffers, Owner as OwnerDiffers, Reply as ReplyDiffers, SharedPart, GuestPart}
use Rattle.ghost_judge.specs.declared.disagreement.PartDifference.TheVariants.{Free, Table, Head}
use Rattle.ghost_judge.specs.declared.disagreement.TreeOf.TheVariants.{Host, Guest}

abbrev pub MapWritten : Type 0
MapWritten =
    text_of_disagreement (MapDiffers (Guest 3) 262403 (Annotated (record { 0 = 1 })) Unmapped)
    ≡ codes "disagree guest 3 0x40103 kept annot 1 walked unmapped"

abbrev pub OwnerWritten : Type 0
OwnerWritten =
    text_of_disagreement
    (OwnerDiffers 262656 (record { owner = record { 0 = 0 }; lent = None; usage = Plain })
    (record { owner = record { 0 = 1 }; lent = None; usage = Plain }))
    ≡ codes "disagree owner 0x40200 kept owner 0 lent - use plain walked owner 1 lent - use plain"

abbrev pub ReplyWritten : Type 0
ReplyWritten =
    text_of_disagreement (ReplyDiffers (Done Nothing) (Refused Perm))
    ≡ codes "disagree reply said ok spec perm"

abbrev pub FreeWritten : Type 0
FreeWritten =
    text_of_judgement (GuestPart 2 (Free (Some 262162) None))
    ≡ codes "disagree guest_free 2 post 0x40012 spec -"

abbrev pub TableWritten : Type 0
TableWritten =
    text_of_judgement (SharedPart (Table Host (1, 512) (Some 263688) None))
    ≡ codes "disagree table host 1 0x200 post 0x40608 spec -"

abbrev pub StateWritten : Type 0
StateWritten =
    text_of_judgement
    (GuestPart 2 (Head (record { phase = Dying; generation = 1; kind = PlainVm })
    (record { phase = Live; generation = 1; kind = PlainVm })))
    ≡ codes
    "disagree guest_state 2 post dying generation 1 plain spec live generation 1 plain"

abbrev pub JudgementWritten : Type 0
JudgementWritten =
    text_of_judgement (MapDiffers (Guest 3) 262403 (Annotated (record { 0 = 1 })) Unmapped)
    ≡ codes "disagree guest 3 0x40103 post annot 1 spec unmapped"
