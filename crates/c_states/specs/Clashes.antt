-- Members of a list that can't be there with an earlier one.
use Rattle.std.specs.Prelude.{◌≡◌, ℕ, Bool, true, ◌==◌, ◌&&◌, ◌||◌, ◌<◌, nat_lt, List, take, Some, slice_get}
use Rattle.std.specs.List.{list_any}
use Rattle.page_state.specs.Regions.{is_in_range}
use Rattle.c_states.specs.declared.members.PlainRun.{PlainRun}
use Rattle.c_states.specs.declared.members.PlainTable.{PlainTable}
use Rattle.c_states.specs.declared.members.PlainFrame.{PlainFrame}
use Rattle.c_states.specs.declared.members.PlainSlot.{PlainSlot}
use Rattle.c_states.specs.declared.members.PlainGuest.{PlainGuest}
use Rattle.c_states.specs.declared.members.PlainCpu.{PlainCpu}
use Rattle.c_states.specs.Lists.{range_from_c}

-- two runs of one tree that have pages share one: either has the other's first
abbrev pub do_runs_clash : PlainRun → PlainRun → Bool
do_runs_clash a b =
    a.tree == b.tree && (nat_lt 0 a.count && nat_lt 0 b.count)
    && (is_in_range (range_from_c a.page a.count) b.page
    || is_in_range (range_from_c b.page b.count) a.page)

-- two tables of one tree have one block or one frame
abbrev pub do_tables_clash : PlainTable → PlainTable → Bool
do_tables_clash a b =
    a.tree == b.tree && (a.height == b.height && a.index == b.index || a.frame == b.frame)

-- two free frames of one pool are the same
abbrev pub do_frames_clash : PlainFrame → PlainFrame → Bool
do_frames_clash a b = a.pool == b.pool && a.frame == b.frame

-- two slots, guests or CPUs have one number
abbrev pub have_one_slot : PlainSlot → PlainSlot → Bool
have_one_slot a b = a.slot == b.slot

abbrev pub have_one_guest : PlainGuest → PlainGuest → Bool
have_one_guest a b = a.slot == b.slot

abbrev pub have_one_cpu : PlainCpu → PlainCpu → Bool
have_one_cpu a b = a.cpu == b.cpu

-- the member at an index clashes with an earlier one
pub record IsClash {X : Type 0} (clash : X → X → Bool) (xs : List X) (i : ℕ) : Type 0 where
  pub member : X
  pub is : slice_get xs i ≡ Some member
  pub earlier : list_any (clash member) (take i xs) ≡ true

-- none does
abbrev pub HasNoClash : {X : Type 0} → (X → X → Bool) → List X → Type 0
HasNoClash clash xs = (i : ℕ) → IsClash clash xs i → ⊥

-- it is the first that does
pub record IsFirstClash {X : Type 0} (clash : X → X → Bool) (xs : List X) (i : ℕ) : Type 0 where
  pub clashes : IsClash clash xs i
  pub before : (j : ℕ) → j < i → IsClash clash xs j → ⊥
