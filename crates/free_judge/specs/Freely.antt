-- When the judge agrees, and the first difference if it doesn't.
use Rattle.std.specs.Prelude.{◌≡◌, ◌⊎◌, ◌↔◌, ℕ, false, true, Option, Some, None, IfSome, if◌then◌else◌}
use Rattle.call_table.specs.declared.reply.Reply.{Reply}
use Rattle.call_table.specs.declared.reply.Reply.TheVariants.{Done}
use Rattle.call_table.specs.declared.step.Step.{Step}
use Rattle.call_table.specs.declared.step.Step.TheVariants.{HostAbort}
use Rattle.page_state.specs.declared.entry.Entry.TheVariants.{Unmapped}
use Rattle.page_state.specs.EntryTests.{is_unmapped}
use Rattle.page_state.specs.Layouts.{Layout}
use Rattle.reference_model.specs.model.State.{Contents}
use Rattle.freedoms.specs.declared.Freedoms.{Freedoms}
use Rattle.freedoms.specs.Ample.{WantsAnyMemory, predict_step_amply}
use Rattle.freedoms.specs.Freedoms.{CountsAs, Touches, is_read, view}
use Rattle.freedoms.specs.OwnTables.{OwnTables, without_tables}
use Rattle.freedoms.specs.Seen.{AgreesSeen}
use Rattle.ghost_judge.specs.declared.disagreement.Disagreement.{Disagreement}
use Rattle.ghost_judge.specs.declared.disagreement.Disagreement.TheVariants.{Map as MapDiffers, Reply as ReplyDiffers}
use Rattle.ghost_judge.specs.declared.disagreement.TreeOf.TheVariants.{Host}
use Rattle.ghost_judge.specs.Judgements.{IsFirstOfState}
use Rattle.ghost_spec.specs.declared.lists.GhostLists.{GhostLists}
use Rattle.ghost_spec.specs.States.{contents_in}
use Rattle.free_judge.specs.PoolByRows.{asked_slot, IsAskedOf}

-- the state by which a step is judged: the state before, as far as the freedoms fix it; for a step
-- that only reads, the state itself without tables and free frames
abbrev pub stepped_from : Freedoms → Layout → Contents → Step → Contents
stepped_from w l before step = if is_read step then without_tables before else view w l before

-- the state from which the model steps: that one, in which the guest whose pool a step asks has the
-- pool of its rows
abbrev pub IsReady : Freedoms → Layout → Contents → ℕ → Step → Reply → Contents → Type 0
IsReady w l before cpu step reply ready =
    IsAskedOf w l (stepped_from w l before step) (asked_slot (before.cpu cpu) step) step reply ready

-- the reply and the state after it, apart from tables and free frames, are the model's for such a
-- state; `said` is the reply that is judged
pub record IsPredictedFreely (w : Freedoms) (l : Layout) (before : Contents) (cpu : ℕ) (step : Step)
    (said reply : Reply) (after : Contents) : Type 0 where
  pub ready : Contents
  pub from : IsReady w l before cpu step said ready
  pub reply_is : reply ≡ (predict_step_amply l ready cpu step).0
  pub contents_are : OwnTables after (predict_step_amply l ready cpu step).1

-- the reply and the state after it agree with the model's; and a lazy host maps the page that it
-- touched
pub record AgreesFreely (w : Freedoms) (l : Layout) (before : Contents) (step : Step)
    (reply : Reply) (after : Contents) (told : Reply × Contents) : Type 0 where
  pub agrees : AgreesSeen w l before step reply after told
  pub mapped : w.lazy_host ≡ true → Touches step reply after

-- the page that a host touches by a call that was made
abbrev pub page_touched : Step → Reply → Option ℕ
page_touched (HostAbort page) (Done value) = Some page
page_touched step other = None

-- the page that the host hasn't mapped, and the expected entry there
pub record IsMissing (page : ℕ) (post wanted : Contents) (d : Disagreement) : Type 0 where
  pub unmapped : is_unmapped (post.shared.host.map page) ≡ true
  pub told_is : d ≡ MapDiffers Host page Unmapped (wanted.shared.host.map page)

-- a lazy host hasn't the page that it touched
pub record IsUntouchedBy (w : Freedoms) (step : Step) (reply : Reply) (post wanted : Contents)
    (d : Disagreement) : Type 0 where
  pub page : ℕ
  pub lazy : w.lazy_host ≡ true
  pub touched : page_touched step reply ≡ Some page
  pub missing : IsMissing page post wanted d

-- the state is the expected one, and a lazy host maps the page that it touched
abbrev pub IsWanted : Freedoms → Step → Reply → Contents → Contents → Contents → Type 0
IsWanted w step reply after wanted post =
    (after ≡ wanted) × (w.lazy_host ≡ true → Touches step reply post)

-- the first difference from the expected state, or else that page
abbrev pub IsFirstUnwanted : Freedoms → Step → Reply → Contents → Contents → Contents → Disagreement
    → Type 0
IsFirstUnwanted w step reply after wanted post d =
    IsFirstOfState after wanted d ⊎ ((after ≡ wanted) × IsUntouchedBy w step reply post wanted d)

-- agreement in the view of the states before and after and of the expected one, and in the state
-- after itself
pub record AgreesBy (w : Freedoms) (step : Step) (reply told : Reply)
    (before after wanted post : Contents) : Type 0 where
  pub agrees : (CountsAs w told reply × (after ≡ wanted))
      ⊎ (WantsAnyMemory step reply told × (after ≡ before))
  pub mapped : w.lazy_host ≡ true → Touches step reply post

-- the reply is neither the model's, nor one that counts as it, nor that of a step that ran out of
-- memory
pub record IsOtherReply (w : Freedoms) (step : Step) (reply told said spec : Reply) : Type 0 where
  pub said_is : said ≡ reply
  pub spec_is : spec ≡ told
  pub differ : CountsAs w told reply → ⊥
  pub is_no_want : WantsAnyMemory step reply told → ⊥

-- memory ran out, and the state changed: the first difference from the one before. Or the reply
-- counts as the model's, and the state isn't the expected one; or it is, and a lazy host doesn't
-- map the page that it touched
abbrev pub IsFirstSeen : Freedoms → Step → Reply → Reply → Contents → Contents → Contents → Contents
    → Disagreement → Type 0
IsFirstSeen w step reply told before after wanted post d =
    (WantsAnyMemory step reply told × IsFirstOfState after before d)
    ⊎ ((CountsAs w told reply × IsFirstOfState after wanted d)
    ⊎ (CountsAs w told reply × (after ≡ wanted) × IsUntouchedBy w step reply post wanted d))

-- the first difference
abbrev pub IsFirstBy : Freedoms → Step → Reply → Reply → Contents → Contents → Contents → Contents
    → Disagreement → Type 0
IsFirstBy w step reply told before after wanted post (ReplyDiffers said spec) =
    IsOtherReply w step reply told said spec
IsFirstBy w step reply told before after wanted post d =
    IsFirstSeen w step reply told before after wanted post d

-- both of states on lists
abbrev pub AgreesIn : Freedoms → Step → Reply → Reply → GhostLists → GhostLists → GhostLists
    → GhostLists → Type 0
AgreesIn w step reply told before after wanted post =
    AgreesBy w step reply told (contents_in before) (contents_in after) (contents_in wanted)
    (contents_in post)

abbrev pub IsFirstIn : Freedoms → Step → Reply → Reply → GhostLists → GhostLists → GhostLists
    → GhostLists → Disagreement → Type 0
IsFirstIn w step reply told before after wanted post =
    IsFirstBy w step reply told (contents_in before) (contents_in after) (contents_in wanted)
    (contents_in post)

-- judged up to the freedoms: nothing is found if and only if reply and state agree with the
-- model's; else the first difference in the view that the freedoms leave
pub record IsJudgedFreely (w : Freedoms) (l : Layout) (before : Contents) (cpu : ℕ) (step : Step)
    (reply : Reply) (after : Contents) (found : Option Disagreement) : Type 0 where
  pub ready : Contents
  pub from : IsReady w l before cpu step reply ready
  pub none : (found ≡ None)
      ↔ AgreesFreely w l before step reply after (predict_step_amply l ready cpu step)
  pub first : IfSome found
      (IsFirstBy w step reply (predict_step_amply l ready cpu step).0 (view w l before)
      (view w l after) (view w l (predict_step_amply l ready cpu step).1) after)
