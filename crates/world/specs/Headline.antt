-- The headline: what holds after any list of steps of any CPUs.
use Rattle.std.specs.Prelude.{◌≡◌, ℕ, ◌+◌, ◌⊎◌, true, List, ◌∷◌, ◌++◌, map}
use Rattle.descriptor.specs.declared.State.{State}
use Rattle.call_table.specs.declared.reply.Call.{Call}
use Rattle.call_table.specs.declared.reply.Refusal.{Refusal}
use Rattle.call_table.specs.declared.reply.Reply.{Reply}
use Rattle.call_table.specs.declared.reply.Reply.TheVariants.{Refused}
use Rattle.call_table.specs.declared.step.Step.{Step}
use Rattle.page_state.specs.Layouts.{Layout, is_memory}
use Rattle.reference_model.specs.claims.HeldFrames.{GivesHandOn, IsHeldFor, TakesBack}
use Rattle.reference_model.specs.claims.Isolation.{FrameStays, SharesWithHost}
use Rattle.reference_model.specs.model.Owner.{row_of}
use Rattle.reference_model.specs.model.Run.{Runs, IsRun}
use Rattle.reference_model.specs.claims.Sound.{Sound, Maps, owner, IsHeld, hand}
use Rattle.reference_model.specs.model.State.{Contents, Reference, live}
use Rattle.reference_model.specs.model.Step.{Steps, used_by, fails}
use Rattle.reference_model.specs.claims.TreeLaws.{AreCanonical, fails_by_maps}
use Rattle.hypercalls.specs.declared.parts.Parts.{Parts}
use Rattle.hypercalls.specs.Stands.{parts_layout, state_of}
use Rattle.world.specs.Laws.{AllAgree}

-- each owner row of a memory frame is the one that looking through all tables, pools and hands
-- finds
abbrev pub RowsAgree : Layout → Contents → Type 0
RowsAgree l s = (f : ℕ) → is_memory l f ≡ true → s.shared.row f ≡ row_of l s f

-- nobody maps a guest's frame but the guest, and the host while the guest's entry of it is
-- SharedOwned
abbrev pub KeepsOut : Layout → Contents → Type 0
KeepsOut l s =
    (v f component page : ℕ) (state : State)
    → owner l s f ≡ 2 + v
    → Maps s component page f state
    → (component ≡ 2 + v) ⊎ ((component ≡ 0) × SharesWithHost s v f)

-- what the parts represent: the maplets are the coarsest lists of what walks of all words find, the
-- owner rows are those from scratch, each memory frame has one owner and each frame at most one
-- borrower, what holds a frame holds it alone, guests' frames are kept apart, and each tree is the
-- one coarsest tree of its map
pub record IsRight {A : Type 0} (p : Parts A) : Type 0 where
  pub agree : AllAgree p
  pub rows : RowsAgree (parts_layout p) (state_of p).contents
  pub sound : Sound (parts_layout p) (state_of p).contents
  pub kept_out : KeepsOut (parts_layout p) (state_of p).contents
  pub trees : AreCanonical (parts_layout p) (state_of p).contents

-- a call of a run: it begins in a sound state whose rows are those from scratch and whose trees are
-- the coarsest of their maps; maps and numbers of free frames decide whether a pool is short for
-- it; if it is refused, out of memory included, the state stays as it is; it takes no frame from a
-- Live guest, nor changes its page unless the guest shares it or takes it back; and frames held for
-- a guest, or in a CPU's hand, stay so until those of a Dying guest are taken back, or that CPU
-- gives its hand on
pub record CallKeeps (l : Layout) (s : Reference) (c : Call) (t : Reference) : Type 0 where
  pub sound : Sound l s.contents
  pub rows : RowsAgree l s.contents
  pub trees : AreCanonical l s.contents
  pub by_maps : fails l c.cpu c.slot c.step (used_by c s)
      ≡ fails_by_maps l c.cpu c.slot c.step (used_by c s)
  pub refused : (why : Refusal) → c.reply ≡ Refused why → t.contents ≡ s.contents
  pub isolated : (v f : ℕ)
      → (s.contents.guest v).phase ≡ live
      → owner l s.contents f ≡ 2 + v
      → FrameStays l s.contents t.contents c v f
  pub held : (v f : ℕ)
      → IsHeldFor s.contents v f
      → IsHeldFor t.contents v f ⊎ TakesBack s.contents c.cpu c.step v
  pub in_hand : (k f : ℕ)
      → IsHeld s.contents f (hand k)
      → IsHeld t.contents f (hand k) ⊎ ((c.cpu ≡ k) × GivesHandOn c.step)

-- the calls of a list of steps with these replies: they continue a run of the reference step from
-- the boot state to the parts before, and end in the parts after. Each call keeps its promises
pub record RunsOn {A : Type 0} (p : Parts A) (steps : List (ℕ × Step)) (replies : List Reply)
    (q : Parts A) : Type 0 where
  pub before : List Call
  pub calls : List Call
  pub asked : map (λ c. (c.cpu, c.step)) calls ≡ steps
  pub replied : map (λ c. c.reply) calls ≡ replies
  pub begins : IsRun (parts_layout p) before (state_of p)
  pub ends : IsRun (parts_layout p) (before ++ calls) (state_of q)
  pub each : (done left : List Call) (c : Call) (s t : Reference)
      → calls ≡ done ++ c ∷ left
      → Runs (Steps (parts_layout p)) (state_of p) done s
      → Steps (parts_layout p) s c t
      → CallKeeps (parts_layout p) s c t

-- the headline: the layout stays, the state that the parts represent afterwards is right, and there
-- is such a run
pub record Headline {A : Type 0} (p : Parts A) (steps : List (ℕ × Step)) (replies : List Reply)
    (q : Parts A) : Type 0 where
  pub layout : parts_layout q ≡ parts_layout p
  pub right : IsRight q
  pub run : ∥ RunsOn p steps replies q ∥₁
