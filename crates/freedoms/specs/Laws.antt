-- Laws of judges with freedoms, each proved on the contract of a law function.
use Rattle.std.specs.Prelude.{◌≡◌, ◌≢◌, ◌↔◌, ◌+◌, ◌&&◌, ◌==◌, ℕ, Bool, true, List, ◌∷◌, false, length, Some, None}
use Rattle.call_table.specs.declared.reply.Call.{Call}
use Rattle.call_table.specs.declared.reply.Refusal.TheVariants.{LogFull}
use Rattle.call_table.specs.declared.reply.Reply.{Reply}
use Rattle.call_table.specs.declared.reply.Reply.TheVariants.{Refused}
use Rattle.call_table.specs.declared.reply.Reply.TheVariants.{Done}
use Rattle.call_table.specs.declared.reply.Value.TheVariants.{Frame as FrameOf}
use Rattle.call_table.specs.declared.step.Step.{Step}
use Rattle.call_table.specs.declared.step.Step.TheVariants.{HostAbort, ReclaimPool}
use Rattle.call_table.specs.declared.step.VmId.{VmId}
use Rattle.page_state.specs.declared.row.Row.{Row}
use Rattle.page_state.specs.declared.row.Usage.{Usage}
use Rattle.page_state.specs.declared.row.Usage.TheVariants.{VmPool}
use Rattle.page_state.specs.Counts.{frame_count}
use Rattle.page_state.specs.Trees.{root_tree}
use Rattle.page_state.specs.Layouts.{Layout, is_memory}
use Rattle.reference_model.specs.help.Conditions.{Legal, IsUsable, one}
use Rattle.reference_model.specs.model.GuestRules.{guest_table_count}
use Rattle.reference_model.specs.model.Parts.{slot_of, ticket_slot}
use Rattle.reference_model.specs.declared.changes.Stage.TheVariants.{Dying as dying_vm}
use Rattle.reference_model.specs.model.State.{Guest, Contents, Reference, empty, put_at}
use Rattle.reference_model.specs.model.Step.{Steps}
use Rattle.freedoms.specs.Ample.{is_done, asks_pool, is_by_order, StepsAmply, JudgedWithOwnTables, IsJudgedByMaps, predicted_bare, AgreesBare}
use Rattle.freedoms.specs.AnyTrees.{LegalInAnyTrees}
use Rattle.freedoms.specs.declared.Freedoms.{Freedoms}
use Rattle.freedoms.specs.Freedoms.{CountsAs, JudgedWith, Touches, no_more, view, Alike, reads_host, is_read, IsJudgedInView}
use Rattle.freedoms.specs.OwnTables.{OwnTables, without_tables}

-- each stored step of the model is also a step without the test of the pools
abbrev pub AmpleSteps : Type 0
AmpleSteps =
    (l : Layout) (s t : Reference) (c : Call)
    → Steps l s c t
    → c.reply ≢ Refused LogFull
    → StepsAmply l s.contents c.cpu c.step c.reply t.contents

-- such a step from a legal state and from that state without tables and free frames gives the same,
-- apart from these, in either direction
pub record StepsAlike (l : Layout) (s : Contents) (cpu : ℕ) (step : Step)
    (reply : Reply) : Type 0 where
  pub down : (t : Contents)
      → StepsAmply l s cpu step reply t
      → (u : Contents) × StepsAmply l (without_tables s) cpu step reply u × OwnTables t u
  pub up : (u : Contents)
      → StepsAmply l (without_tables s) cpu step reply u
      → (t : Contents) × StepsAmply l s cpu step reply t × OwnTables t u

abbrev pub BareSteps : Type 0
BareSteps =
    (l : Layout) (s : Contents) (cpu : ℕ) (step : Step) (reply : Reply)
    → LegalInAnyTrees l s
    → asks_pool step ≡ false
    → StepsAlike l s cpu step reply

-- if some legal state differs from the one before only in tables and free frames, the judgement
-- with own tables is the judgement by maps
abbrev pub JudgedByMaps : Type 0
JudgedByMaps =
    (l : Layout) (before legal : Contents) (cpu : ℕ) (step : Step) (reply : Reply)
    (after : Contents)
    → OwnTables before legal
    → LegalInAnyTrees l legal
    → asks_pool step ≡ false
    → JudgedWithOwnTables l before cpu step reply after
    ↔ IsJudgedByMaps l before cpu step reply after

-- each stored step of the model from a legal state is judged to agree, whatever tables and free
-- frames are reported for the states before and after it
abbrev pub StepsJudged : Type 0
StepsJudged =
    (l : Layout) (s t : Reference) (c : Call) (before after : Contents)
    → Legal l s.contents
    → Steps l s c t
    → c.reply ≢ Refused LogFull
    → OwnTables before s.contents
    → OwnTables t.contents after
    → JudgedWithOwnTables l before c.cpu c.step c.reply after

-- the judgement by maps follows from the model's step of the state before without tables and free
-- frames
abbrev pub JudgedByPredicted : Type 0
JudgedByPredicted =
    (l : Layout) (before : Contents) (cpu : ℕ) (step : Step) (reply : Reply) (after : Contents)
    → IsJudgedByMaps l before cpu step reply after
    ↔ AgreesBare before step reply after (predicted_bare l before cpu step)

-- the row of a frame of a guest's pool, free or a table
abbrev pub pool_row : ℕ → Row
pool_row v = record { owner = record { 0 = 1 }; lent = None; usage = VmPool v }

-- a frame of a guest's pool that isn't the root of its tree
pub record IsSpare (l : Layout) (s : Contents) (v f : ℕ) : Type 0 where
  pub row : s.shared.row f ≡ pool_row v
  pub no_root : (s.guest v).tree.table (l.depth + 1, 0) ≡ Some f → ⊥

-- in any order of the pool, reclaim_pool gives a frame whose row has the pool as its use, and not
-- the root
abbrev pub ReclaimsSpare : Type 0
ReclaimsSpare =
    (l : Layout) (s t : Contents) (cpu v f : ℕ) (vm : VmId)
    → LegalInAnyTrees l s
    → slot_of vm ≡ Some v
    → StepsAmply l s cpu (ReclaimPool vm) (Done (FrameOf (record { 0 = f }))) t
    → IsSpare l s v f

-- and a guest that finish_guest ends has a root, whose row has the pool as its use
abbrev pub FinishesRoot : Type 0
FinishesRoot =
    (l : Layout) (s : Contents) (cpu v : ℕ)
    → LegalInAnyTrees l s
    → ticket_slot dying_vm (s.cpu cpu) ≡ Some v
    → (root : ℕ)
    × ((s.guest v).tree.table (l.depth + 1, 0) ≡ Some root)
    × (s.shared.row root ≡ pool_row v)

-- two legal states of the same rows hold as many frames for each guest, whatever their tables are
abbrev pub HoldsAsMany : Type 0
HoldsAsMany =
    (l : Layout) (s t : Contents)
    → IsUsable l
    → LegalInAnyTrees l s
    → LegalInAnyTrees l t
    → s.shared.row ≡ t.shared.row
    → (v : ℕ)
    → guest_table_count l (s.guest v).tree + length (s.guest v).free
    ≡ guest_table_count l (t.guest v).tree + length (t.guest v).free

-- a step from one state can also be made from another, with the same result apart from tables and
-- free frames
abbrev pub LeadsToo : Layout → Contents → ℕ → Step → Reply → Contents → Type 0
LeadsToo l t cpu step reply u = (w : Contents) × StepsAmply l t cpu step reply w × OwnTables u w

-- two legal states that differ only in tables and free frames make the same steps
abbrev pub StepsOfAny : Type 0
StepsOfAny =
    (l : Layout) (s t : Contents) (cpu : ℕ) (step : Step) (reply : Reply) (u : Contents)
    → IsUsable l
    → LegalInAnyTrees l s
    → LegalInAnyTrees l t
    → OwnTables s t
    → is_by_order step ≡ false
    → StepsAmply l s cpu step reply u → LeadsToo l t cpu step reply u

-- and reclaim_pool too, if the pool of each has the same frame first
abbrev pub ReclaimsOfAny : Type 0
ReclaimsOfAny =
    (l : Layout) (s t : Contents) (cpu v f : ℕ) (vm : VmId) (fs : List ℕ) (u : Contents)
    → LegalInAnyTrees l s
    → LegalInAnyTrees l t
    → OwnTables s t
    → slot_of vm ≡ Some v
    → (t.guest v).free ≡ f ∷ fs
    → StepsAmply l s cpu (ReclaimPool vm) (Done (FrameOf (record { 0 = f }))) u
    → LeadsToo l t cpu (ReclaimPool vm) (Done (FrameOf (record { 0 = f }))) u

-- so the judgement with own tables is one step from any legal state that differs from the one
-- before only in tables and free frames
abbrev pub JudgedFromAny : Type 0
JudgedFromAny =
    (l : Layout) (before legal : Contents) (cpu : ℕ) (step : Step) (reply : Reply)
    (after : Contents)
    → IsUsable l
    → OwnTables before legal
    → LegalInAnyTrees l legal
    → is_by_order step ≡ false
    → JudgedWithOwnTables l before cpu step reply after ↔ LeadsToo l legal cpu step reply after

-- with no more freedoms the judge is the one with own tables
abbrev pub NoMoreIsOwn : Type 0
NoMoreIsOwn =
    (l : Layout) (before : Contents) (cpu : ℕ) (step : Step) (reply : Reply) (after : Contents)
    → JudgedWith no_more l before cpu step reply after
    ↔ JudgedWithOwnTables l before cpu step reply after

-- a judge with more freedoms accepts all these steps too, if the page that the host touched is
-- mapped
abbrev pub MoreLetsThrough : Type 0
MoreLetsThrough =
    (w : Freedoms) (l : Layout) (before : Contents) (cpu : ℕ) (step : Step) (reply : Reply)
    (after : Contents)
    → Touches step reply after
    → JudgedWithOwnTables l before cpu step reply after
    → JudgedWith w l before cpu step reply after

-- a step from a state without tables gives the same, as far as the freedoms fix it, as from the
-- state as far as they fix it
pub record StepsInView (w : Freedoms) (l : Layout) (s : Contents) (cpu : ℕ) (step : Step)
    (reply : Reply) : Type 0 where
  pub down : (t : Contents)
      → StepsAmply l (without_tables s) cpu step reply t
      → (u : Contents) × StepsAmply l (view w l s) cpu step reply u × Alike w l t u
  pub up : (u : Contents)
      → StepsAmply l (view w l s) cpu step reply u
      → (t : Contents) × StepsAmply l (without_tables s) cpu step reply t × Alike w l t u

abbrev pub ViewSteps : Type 0
ViewSteps =
    (w : Freedoms) (l : Layout) (s : Contents) (cpu : ℕ) (step : Step) (reply : Reply)
    → asks_pool step ≡ false
    → reads_host step ≡ false
    → StepsInView w l s cpu step reply

-- if some legal state is like the one before, the judgement with freedoms is the judgement in the
-- view that they leave
abbrev pub JudgedInView : Type 0
JudgedInView =
    (w : Freedoms) (l : Layout) (before legal : Contents) (cpu : ℕ) (step : Step) (reply : Reply)
    (after : Contents)
    → Alike w l before legal
    → LegalInAnyTrees l legal
    → asks_pool step ≡ false
    → reads_host step ≡ false
    → is_read step ≡ false
    → JudgedWith w l before cpu step reply after ↔ IsJudgedInView w l before cpu step reply after

-- a use of a guest's pool
abbrev pub is_pool_of : ℕ → Usage → Bool
is_pool_of v (VmPool u) = u == v
is_pool_of v other = false

-- a root and free frames are the frames whose rows have the guest's pool as their use, each once
abbrev pub IsPoolByRows : Layout → Contents → ℕ → ℕ → List ℕ → Type 0
IsPoolByRows l s v root free =
    (f : ℕ)
    → frame_count f (root ∷ free) ≡ one (is_memory l f && is_pool_of v (s.shared.row f).usage)

-- a guest with its root as its only table, and these free frames
abbrev pub with_root : ℕ → ℕ → List ℕ → Guest → Guest
with_root depth root free g =
    record g
    { tree = record { map = g.tree.map; table = (root_tree depth root).table }; free = free }

-- a state with such a guest in a slot
abbrev pub with_pool : Layout → ℕ → ℕ → List ℕ → Contents → Contents
with_pool l v root free s =
    record s { guest = put_at s.guest v (with_root l.depth root free (s.guest v)) }

-- so a legal state with a guest's pool replaced by the frames of its rows, in any order, is one of
-- the legal states that differ only in tables and free frames
abbrev pub PoolsByRows : Type 0
PoolsByRows =
    (l : Layout) (s : Contents) (v root : ℕ) (free : List ℕ)
    → LegalInAnyTrees l s
    → (s.guest v).phase ≢ empty
    → IsPoolByRows l s v root free
    → LegalInAnyTrees l (with_pool l v root free s) × OwnTables s (with_pool l v root free s)

-- and reclaim_pool, if that pool has the frame first that the reply names
abbrev pub ReclaimsByRows : Type 0
ReclaimsByRows =
    (l : Layout) (before legal : Contents) (cpu v root f : ℕ) (fs : List ℕ) (vm : VmId)
    (after : Contents)
    → OwnTables before legal
    → LegalInAnyTrees l legal
    → slot_of vm ≡ Some v
    → (legal.guest v).phase ≢ empty
    → IsPoolByRows l legal v root (f ∷ fs)
    → JudgedWithOwnTables l before cpu (ReclaimPool vm) (Done (FrameOf (record { 0 = f }))) after
    ↔ LeadsToo l (with_pool l v root (f ∷ fs) legal) cpu (ReclaimPool vm)
    (Done (FrameOf (record { 0 = f }))) after

-- a lazy host's abort is judged in this way too, if the page that it touched is also mapped
abbrev pub AbortInView : Type 0
AbortInView =
    (w : Freedoms) (l : Layout) (before legal : Contents) (cpu p : ℕ) (reply : Reply)
    (after : Contents)
    → w.lazy_host ≡ true
    → IsUsable l
    → Alike w l before legal
    → LegalInAnyTrees l legal
    → JudgedWith w l before cpu (HostAbort p) reply after
    ↔ (IsJudgedInView w l before cpu (HostAbort p) reply after
    × Touches (HostAbort p) reply after)

-- and that of a host that isn't lazy, whatever the kind of devices' pages
abbrev pub AbortOfAnyKind : Type 0
AbortOfAnyKind =
    (w : Freedoms) (l : Layout) (before legal : Contents) (cpu p : ℕ) (reply : Reply)
    (after : Contents)
    → w.lazy_host ≡ false
    → Alike w l before legal
    → LegalInAnyTrees l legal
    → JudgedWith w l before cpu (HostAbort p) reply after
    ↔ IsJudgedInView w l before cpu (HostAbort p) reply after

-- with no freedom does a refused step count as made, or a made step as refused
abbrev pub RefusalsStay : Type 0
RefusalsStay =
    (w : Freedoms) (told said : Reply) → CountsAs w told said → is_done said ≡ is_done told
