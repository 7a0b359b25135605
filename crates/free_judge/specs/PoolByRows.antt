-- The pool of the guest that a step asks, by the rows of the state before it.
use Rattle.std.specs.Prelude.{◌≡◌, ◌↔◌, ◌&&◌, ℕ, zero, suc, ◌+◌, ◌*◌, nat_le, Bool, true, false, not, IsTrue, List, [], ◌∷◌, ◌++◌, filter, find, length, Option, Some, None, if◌then◌else◌}
use Rattle.call_table.specs.declared.reply.Refusal.TheVariants.{Perm}
use Rattle.call_table.specs.declared.reply.Reply.{Reply}
use Rattle.call_table.specs.declared.reply.Reply.TheVariants.{Done, Refused}
use Rattle.call_table.specs.declared.reply.Value.TheVariants.{Frame as FrameOf}
use Rattle.call_table.specs.declared.step.Step.{Step}
use Rattle.call_table.specs.declared.step.Step.TheVariants.{ReclaimPool}
use Rattle.page_state.specs.EntryTests.{is_unmapped}
use Rattle.page_state.specs.Layouts.{Layout, is_memory}
use Rattle.page_state.specs.Map.{Map}
use Rattle.page_state.specs.Trees.{Block, frames_from, no_tree, root_tree}
use Rattle.reference_model.specs.model.Owner.{is_frame}
use Rattle.reference_model.specs.model.Rules.{guest_slot}
use Rattle.reference_model.specs.model.State.{Contents, Cpu, Guest, put_at}
use Rattle.freedoms.specs.declared.Freedoms.{Freedoms}
use Rattle.freedoms.specs.Ample.{asks_pool}
use Rattle.freedoms.specs.Laws.{is_pool_of}

-- the slot of the guest whose pool the step asks, if it asks one and finds its guest
abbrev pub asked_slot : Cpu → Step → Option ℕ
asked_slot k step = if asks_pool step then guest_slot k step else None

-- a frame of a guest's pool, by its row
abbrev pub is_pool_frame : Layout → Contents → ℕ → ℕ → Bool
is_pool_frame l s v f = is_memory l f && is_pool_of v (s.shared.row f).usage

-- all of them, in increasing order; memory lies below 2^26
unfoldable pub pool_frames : Layout → Contents → ℕ → List ℕ
pool_frames l s v = filter (is_pool_frame l s v) (frames_from 0 67108864)

-- the frame that a made reclaim_pool names
abbrev pub frame_named : Step → Reply → Option ℕ
frame_named (ReclaimPool vm) (Done (FrameOf f)) = Some f.0
frame_named step other = None

-- the first frame of a list
abbrev pub first_of : List ℕ → Option ℕ
first_of [] = None
first_of (f ∷ fs) = Some f

-- a frame, or else the next
abbrev pub frame_or : Option ℕ → Option ℕ → Option ℕ
frame_or next (Some f) = Some f
frame_or next None = next

-- the frame of the root: the first that isn't the named one, or else the first
abbrev pub root_of : Option ℕ → List ℕ → Option ℕ
root_of named fs = frame_or (first_of fs) (find (λ f. not (is_frame f named)) fs)

-- the frames of a list that are the given one, or that aren't
abbrev pub only : Option ℕ → List ℕ → List ℕ
only it fs = filter (λ f. is_frame f it) fs

abbrev pub without_it : Option ℕ → List ℕ → List ℕ
without_it it fs = filter (λ f. not (is_frame f it)) fs

-- the free frames: all but the root, the named one first
abbrev pub free_of : Option ℕ → Option ℕ → List ℕ → List ℕ
free_of named root fs =
    only named (without_it root fs) ++ without_it named (without_it root fs)

-- the tables of a tree that has only its root, or not even that
abbrev pub root_alone : ℕ → Option ℕ → Block → Option ℕ
root_alone depth None = no_tree.table
root_alone depth (Some root) = (root_tree depth root).table

-- a guest with these tables and free frames
abbrev pub with_tables : (Block → Option ℕ) → List ℕ → Guest → Guest
with_tables table free g =
    record g { tree = record { map = g.tree.map; table = table }; free = free }

-- how many tables a tree has at most: its root, and those of the 512 trees below it, which have a
-- level less
abbrev pub most_tables : ℕ → ℕ
most_tables zero = 1
most_tables (suc depth) = 512 * most_tables depth + 1

-- all frames may be tables
abbrev pub may_hold : ℕ → List ℕ → Bool
may_hold depth fs = nat_le (length fs) (most_tables depth)

-- a guest with these frames as its pool; if all are held, no other frame is free
abbrev pub guest_of : ℕ → Option ℕ → Bool → List ℕ → Guest → Guest
guest_of depth named held fs g =
    with_tables (root_alone depth (root_of named fs))
    (if held && may_hold depth fs then [] else free_of named (root_of named fs) fs) g

-- a state in which the guest of a slot has its pool from the rows
abbrev pub with_rows_pool : Layout → ℕ → Option ℕ → Bool → Contents → Contents
with_rows_pool l v named held s =
    record s
    { guest = put_at s.guest v (guest_of l.depth named held (pool_frames l s v) (s.guest v)) }

-- the reply may be that of a reclaim_pool that finds no free frame
abbrev pub may_lack_free : Freedoms → Step → Reply → Bool
may_lack_free w (ReclaimPool vm) (Refused Perm) = true
may_lack_free w (ReclaimPool vm) (Refused why) = w.any_refusal
may_lack_free w step reply = false

-- something is mapped
abbrev pub HasPage : Map → Type 0
HasPage m = (p : ℕ) × (is_unmapped (m p) ≡ false)

-- the guest has pages, and the reply may be that no frame is free: all but the root may be tables
abbrev pub IsHeld : Freedoms → Step → Reply → Map → Type 0
IsHeld w step reply m = (may_lack_free w step reply ≡ true) × HasPage m

-- a state in which the guest has just that pool
pub record HasPoolByRows (w : Freedoms) (l : Layout) (s : Contents) (v : ℕ) (step : Step)
    (reply : Reply) (ready : Contents) : Type 0 where
  pub held : Bool
  pub held_is : IsTrue held ↔ IsHeld w step reply (s.guest v).tree.map
  pub ready_is : ready ≡ with_rows_pool l v (frame_named step reply) held s

-- the state from which the model steps, by the state as it is seen
abbrev pub IsAskedOf : Freedoms → Layout → Contents → Option ℕ → Step → Reply → Contents → Type 0
IsAskedOf w l s None step reply ready = ready ≡ s
IsAskedOf w l s (Some v) step reply ready = HasPoolByRows w l s v step reply ready
