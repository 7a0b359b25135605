-- Worked rows of the conditions of a frame: the entries, holders and row of frame 5 in each, and
-- the moves that calls make.
use Rattle.std.specs.Prelude.{◌≡◌, ℕ, true, false, List, [], ◌∷◌, map, Some, None}
use Rattle.descriptor.specs.declared.Prot.TheVariants.{RW, RWX}
use Rattle.descriptor.specs.declared.State.TheVariants.{Owned, SharedOwned, SharedBorrowed}
use Rattle.page_state.specs.declared.entry.Entry.{Entry}
use Rattle.page_state.specs.declared.entry.Entry.TheVariants.{Unmapped}
use Rattle.page_state.specs.declared.row.Row.{Row}
use Rattle.page_state.specs.declared.row.Usage.TheVariants.{Plain, SharedPool, VmPool, InHand}
use Rattle.page_state.specs.EntryTests.{leaf, device_leaf, annotation}
use Rattle.reference_model.specs.declared.changes.Changes.{Changes}
use Rattle.reference_model.specs.model.Changes.{change, no_changes}
use Rattle.reference_model.specs.help.ConditionChanges.{touched_condition}
use Rattle.reference_model.specs.help.Conditions.{Condition, outside, hosts, with_hyp, hyps, with_guest, guests, lent_back, HostFits, hyp_entry_by, guest_condition, in_shared, in_vm, in_hand, row_in}
use Rattle.reference_model.specs.model.Owner.{lent_at}
use Rattle.reference_model.specs.model.SharedRules.{to_hyp, to_host, hand_becomes}
use Rattle.reference_model.specs.model.GuestRules.{two_pages}

-- the conditions, in the order of their table
abbrev pub each : List Condition
each =
    outside
    ∷ (hosts
    ∷ (with_hyp ∷ (hyps Plain ∷ (with_guest 2 9 ∷ (guests 2 9 ∷ (lent_back 2 9 ∷ []))))))

-- the report of each
abbrev pub of_each : {X : Type 0} → (Condition → X) → List X
of_each f = map f each

-- the host's page if the frame is no memory, and if only the host has it
abbrev pub HostAloneRow : Type 0
HostAloneRow =
    HostFits 5 outside Unmapped
    × HostFits 5 outside (device_leaf 5)
    × ¬ HostFits 5 outside (leaf RWX 5 Owned)
    × ¬ HostFits 5 outside (device_leaf 6)
    × HostFits 5 hosts Unmapped
    × HostFits 5 hosts (leaf RWX 5 Owned)
    × ¬ HostFits 5 hosts (leaf RWX 6 Owned)
    × ¬ HostFits 5 hosts (leaf RWX 5 SharedOwned)
    × ¬ HostFits 5 hosts (annotation 1)

-- the host's page if another component shares, borrows or owns the frame
abbrev pub HostSharedRow : Type 0
HostSharedRow =
    HostFits 5 with_hyp (leaf RWX 5 SharedOwned)
    × ¬ HostFits 5 with_hyp Unmapped
    × HostFits 5 (hyps Plain) (annotation 1)
    × ¬ HostFits 5 (hyps Plain) (annotation 2)
    × HostFits 5 (with_guest 2 9) (leaf RWX 5 SharedOwned)
    × ¬ HostFits 5 (with_guest 2 9) (leaf RWX 9 SharedOwned)
    × HostFits 5 (guests 2 9) (annotation 4)
    × ¬ HostFits 5 (guests 2 9) (annotation 2)
    × HostFits 5 (lent_back 2 9) (leaf RWX 5 SharedBorrowed)
    × ¬ HostFits 5 (lent_back 2 9) (leaf RWX 5 SharedOwned)

-- the hypervisor's page of the frame
abbrev pub HypRow : Type 0
HypRow =
    of_each (hyp_entry_by 5)
    ≡ Unmapped
    ∷ (Unmapped
    ∷ (leaf RW 5 SharedBorrowed
    ∷ (leaf RW 5 Owned ∷ (Unmapped ∷ (Unmapped ∷ (Unmapped ∷ []))))))

-- the condition of the frame that a guest's page maps
abbrev pub GuestRow : Type 0
GuestRow =
    (guest_condition Owned 2 9 ≡ guests 2 9)
    × (guest_condition SharedOwned 2 9 ≡ lent_back 2 9)
    × (guest_condition SharedBorrowed 2 9 ≡ with_guest 2 9)

-- an owner row in no use
abbrev pub owned_by : ℕ → Row
owned_by owner = record { owner = record { 0 = owner }; lent = None; usage = Plain }

-- the frame's owner row
abbrev pub RowsOfEach : Type 0
RowsOfEach =
    of_each (row_in 5)
    ≡ owned_by 0
    ∷ (owned_by 0 ∷ (record (owned_by 0) { lent = Some (lent_at 1 0x4000005) } ∷ (owned_by 1
    ∷ (record (owned_by 0) { lent = Some (lent_at 4 9) }
    ∷ (owned_by 4 ∷ (record (owned_by 4) { lent = Some (lent_at 0 5) } ∷ []))))))

-- which keeper holds a frame of the hypervisor's, by its use
abbrev pub KeepersRow : Type 0
KeepersRow =
    (map (λ u. in_shared (hyps u)) (Plain ∷ (SharedPool ∷ (VmPool 2 ∷ (InHand 3 ∷ []))))
    ≡ false ∷ (true ∷ (false ∷ (false ∷ []))))
    × (map (λ u. in_vm 2 (hyps u)) (Plain ∷ (SharedPool ∷ (VmPool 2 ∷ (VmPool 3 ∷ []))))
    ≡ false ∷ (false ∷ (true ∷ (false ∷ []))))
    × (map (λ u. in_hand 3 (hyps u)) (Plain ∷ (VmPool 3 ∷ (InHand 3 ∷ (InHand 2 ∷ []))))
    ≡ false ∷ (false ∷ (true ∷ (false ∷ []))))

-- the condition that changes of CPU 3 with the guest of slot 2 move a frame to
abbrev pub moves_to : Changes → Condition
moves_to h = touched_condition 3 (Some 2) h 5

-- a page of the host, and page 9 of the guest
abbrev pub two_sides : Entry → Entry → Changes
two_sides e g = two_pages 5 e 9 g

-- the places to which calls move a frame: shares, donations, funds and frames taken back
abbrev pub MovesRow : Type 0
MovesRow =
    (moves_to
    (record no_changes {
      host = change 5 1 (leaf RWX 5 SharedOwned);
      hyp = change 0x4000005 1 (leaf RW 5 SharedBorrowed);
    })
    ≡ with_hyp)
    × (moves_to (to_hyp 5 1) ≡ hyps Plain)
    × (moves_to
    (record (to_hyp 5 1)
    { cpu = hand_becomes (Some (record { first = record { 0 = 5 }; count = 1 })) })
    ≡ hyps (InHand 3))
    × (moves_to (to_host 5 1) ≡ hosts)
    × (moves_to
    (record no_changes { moved = Some (record { first = record { 0 = 5 }; count = 1 }) })
    ≡ hyps (VmPool 2))
    × (moves_to (two_sides (leaf RWX 5 SharedOwned) (leaf RW 5 SharedBorrowed)) ≡ with_guest 2 9)
    × (moves_to (two_sides (annotation 4) (leaf RWX 5 Owned)) ≡ guests 2 9)
    × (moves_to (two_sides (leaf RWX 5 SharedBorrowed) (leaf RWX 5 SharedOwned)) ≡ lent_back 2 9)
    × (moves_to (two_sides (leaf RWX 5 Owned) Unmapped) ≡ hosts)
    × (moves_to (two_sides Unmapped Unmapped) ≡ hosts)
