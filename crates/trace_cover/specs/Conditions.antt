-- The conditions of a frame (profile), as docs/MODEL.md names them.
use Rattle.std.specs.Prelude.{ℕ, Bool, true, false, List, [], ◌∷◌, codes}
use Rattle.descriptor.specs.declared.State.{State}
use Rattle.descriptor.specs.declared.State.TheVariants.{Owned, SharedOwned, SharedBorrowed}
use Rattle.page_state.specs.declared.row.Usage.{Usage}
use Rattle.page_state.specs.declared.row.Usage.TheVariants.{Plain, SharedPool, VmPool, InHand as in_hand}
use Rattle.trace_cover.specs.declared.condition.Condition.{Condition}
use Rattle.trace_cover.specs.declared.condition.Condition.TheVariants.{Device, Untouched, Mapped, WithHyp, HypPlain, InSharedPool, InVmPool, InHand, WithGuest, WithDying, Guests, OfDying, LentBack, LentByDying}

-- all conditions, in the order of the report
abbrev pub conditions : List Condition
conditions =
    Device ∷ Untouched ∷ Mapped ∷ WithHyp ∷ HypPlain ∷ InSharedPool ∷ InVmPool ∷ InHand ∷ WithGuest
    ∷ WithDying ∷ Guests ∷ OfDying ∷ LentBack
    ∷ LentByDying ∷ []

-- their places there
abbrev pub condition_number : Condition → ℕ
condition_number Device = 1
condition_number Untouched = 2
condition_number Mapped = 3
condition_number WithHyp = 4
condition_number HypPlain = 5
condition_number InSharedPool = 6
condition_number InVmPool = 7
condition_number InHand = 8
condition_number WithGuest = 9
condition_number WithDying = 10
condition_number Guests = 11
condition_number OfDying = 12
condition_number LentBack = 13
condition_number LentByDying = 14

-- their words
abbrev pub words_of : Condition → List ℕ
words_of Device = codes "a device's page"
words_of Untouched = codes "the host's, untouched"
words_of Mapped = codes "the host's, mapped"
words_of WithHyp = codes "shared with the hypervisor"
words_of HypPlain = codes "the hypervisor's, Plain"
words_of InSharedPool = codes "SharedPool"
words_of InVmPool = codes "VmPool"
words_of InHand = codes "InHand"
words_of WithGuest = codes "shared with a guest"
words_of WithDying = codes "shared with a Dying guest"
words_of Guests = codes "a guest's"
words_of OfDying = codes "a Dying guest's"
words_of LentBack = codes "lent back by a guest"
words_of LentByDying = codes "lent back by a Dying guest"

-- of a frame that a guest maps in a state, by whether it is Dying
abbrev pub by_state : Bool → State → Condition
by_state false SharedBorrowed = WithGuest
by_state true SharedBorrowed = WithDying
by_state false Owned = Guests
by_state true Owned = OfDying
by_state false SharedOwned = LentBack
by_state true SharedOwned = LentByDying

-- of a frame of the hypervisor, by its use
abbrev pub by_usage : Usage → Condition
by_usage Plain = HypPlain
by_usage SharedPool = InSharedPool
by_usage (VmPool slot) = InVmPool
by_usage (in_hand cpu) = InHand
