-- Worked rows of the owner rows that follow from each call's changes for the frames that it
-- touches.
use Rattle.std.specs.Prelude.{◌≡◌, ℕ, [], ◌∷◌, Some}
use Rattle.descriptor.specs.declared.Prot.TheVariants.{RW}
use Rattle.page_state.specs.declared.row.Row.{Row}
use Rattle.page_state.specs.declared.row.Usage.TheVariants.{Plain, VmPool, InHand}
use Rattle.call_table.specs.declared.step.Step.{Step}
use Rattle.call_table.specs.declared.step.Step.TheVariants.{ShareHyp, UnshareHyp, DonateHyp, HypDonateHost, HostAbort, HostTranslate, Fund, Unfund, ShareGuest, UnshareGuest, DonateGuest, GuestShareHost, GuestUnshareHost, Install, Topup, ReclaimPage, ReclaimPool, FinishGuest}
use Rattle.reference_model.specs.rows.EndRows.{flat_guest}
use Rattle.page_state.specs.Layouts.{Layout}
use Rattle.reference_model.specs.model.Owner.{lent_at}
use Rattle.page_state.specs.Rows.{advance_row}
use Rattle.reference_model.specs.help.RowChanges.{with_touched_rows}
use Rattle.reference_model.specs.model.Rules.{rule, names, guest_slot}
use Rattle.reference_model.specs.model.State.{Reference, plain_row}
use Rattle.reference_model.specs.model.Used.{used_of}
use Rattle.reference_model.specs.rows.Scene.{small, vm, pages, at, row, old_row}
use Rattle.reference_model.specs.rows.SceneState.{scene, with_guest_part, with_kept_rows}

-- the row of a frame after a step, as it follows from the step's changes
abbrev pub told : Layout → Reference → ℕ → Step → ℕ → Row
told l s cpu step f =
    let slot = guest_slot (s.contents.cpu cpu) step in
    let x = used_of (names step) slot cpu s.contents in
    (with_touched_rows l cpu slot (rule l cpu slot step x).changes x).shared.row f

-- the same from the scene, in trees of two levels, in which each frame has an old row
abbrev pub here : ℕ → Step → ℕ → Row
here cpu step f = told (small 1) (with_kept_rows (λ g. old_row) scene) cpu step f

-- the row of a frame of this owner, lent to this component's page
abbrev pub lent_row : ℕ → ℕ → ℕ → Row
lent_row owner borrower page =
    record { owner = record { 0 = owner }; lent = Some (lent_at borrower page); usage = Plain }

-- shared with the hypervisor, the frame is lent to its page; taken back, only the host has it; the
-- frames next to it keep their rows
abbrev pub ShareRows : Type 0
ShareRows =
    (at (here 2 (ShareHyp 0x1401)) (0x1400 ∷ 0x1401 ∷ 0x1402 ∷ [])
    ≡ old_row ∷ lent_row 0 1 0x4001401 ∷ old_row ∷ [])
    × (at (here 2 (UnshareHyp 0x1001)) (0x1000 ∷ 0x1001 ∷ 0x1002 ∷ [])
    ≡ old_row ∷ plain_row ∷ old_row ∷ [])

-- donated, each frame of the range is the hypervisor's; given back, each is the host's
abbrev pub DonateRows : Type 0
DonateRows =
    (at (here 2 (DonateHyp 0x1410 3)) (0x140f ∷ 0x1410 ∷ 0x1411 ∷ 0x1412 ∷ 0x1413 ∷ [])
    ≡ old_row ∷ row 1 Plain ∷ row 1 Plain ∷ row 1 Plain ∷ old_row ∷ [])
    × (at (here 2 (HypDonateHost 0x1002 2)) (0x1001 ∷ 0x1002 ∷ 0x1003 ∷ 0x1004 ∷ [])
    ≡ old_row ∷ plain_row ∷ plain_row ∷ old_row ∷ [])

-- funded, each frame is in the CPU's hand; unfunded, each is the host's
abbrev pub FundRows : Type 0
FundRows =
    (at (here 9 (Fund 0x1410 3)) (0x140f ∷ 0x1410 ∷ 0x1411 ∷ 0x1412 ∷ 0x1413 ∷ [])
    ≡ old_row ∷ row 1 (InHand 9) ∷ row 1 (InHand 9) ∷ row 1 (InHand 9) ∷ old_row ∷ [])
    × (at (here 3 Unfund) (0x1003 ∷ 0x1004 ∷ 0x1005 ∷ 0x1006 ∷ [])
    ≡ old_row ∷ plain_row ∷ plain_row ∷ old_row ∷ [])

-- the host owns the pages that it maps, the whole block; a device page has no row, and a mapped
-- page and a page that is read keep theirs
abbrev pub MapRows : Type 0
MapRows =
    (at (here 2 (HostAbort 0x1405)) (0x13ff ∷ 0x1400 ∷ 0x15ff ∷ 0x1600 ∷ [])
    ≡ old_row ∷ plain_row ∷ plain_row ∷ old_row ∷ [])
    × (here 2 (HostAbort 0x905) 0x905 ≡ old_row)
    × (here 2 (HostAbort 0x1001) 0x1001 ≡ old_row)
    × (here 2 (HostTranslate 0x1002) 0x1002 ≡ old_row)

-- shared with a plain guest, the frame is lent to its page; taken back, only the host has it
abbrev pub LendRows : Type 0
LendRows =
    (at (here 1 (ShareGuest 0x1401 0x300 RW 1)) (0x1400 ∷ 0x1401 ∷ 0x1402 ∷ [])
    ≡ old_row ∷ lent_row 0 6 0x300 ∷ old_row ∷ [])
    × (at (here 2 (UnshareGuest (vm 4 2) 16)) (0x1005 ∷ 0x1006 ∷ 0x1007 ∷ [])
    ≡ old_row ∷ plain_row ∷ old_row ∷ [])

-- a protected guest owns the frames that it is given, also while it shares them with the host, and
-- after it takes them back
abbrev pub GuestOwns : Type 0
GuestOwns =
    (at (here 0 (DonateGuest 0x1401 9 1)) (0x1400 ∷ 0x1401 ∷ 0x1402 ∷ [])
    ≡ old_row ∷ row 5 Plain ∷ old_row ∷ [])
    × (at (here 0 (GuestShareHost 7)) (0x1008 ∷ 0x1009 ∷ 0x100a ∷ [])
    ≡ old_row ∷ lent_row 5 0 0x1009 ∷ old_row ∷ [])
    × (at (here 0 (GuestUnshareHost 8)) (0x1006 ∷ 0x1007 ∷ 0x1008 ∷ [])
    ≡ old_row ∷ row 5 Plain ∷ old_row ∷ [])

-- the frames of a hand go to the guest's pool, the root's too
abbrev pub PoolRows : Type 0
PoolRows =
    (at (here 4 Install) (0x172f ∷ 0x1730 ∷ 0x1731 ∷ 0x1732 ∷ 0x1733 ∷ [])
    ≡ old_row ∷ row 1 (VmPool 6) ∷ row 1 (VmPool 6) ∷ row 1 (VmPool 6) ∷ old_row ∷ [])
    × (at (here 3 (Topup (vm 4 2))) (0x1003 ∷ 0x1004 ∷ 0x1005 ∷ 0x1006 ∷ [])
    ≡ old_row ∷ row 1 (VmPool 4) ∷ row 1 (VmPool 4) ∷ old_row ∷ [])

-- only the host has the frames that come back from a Dying guest: its pages, its pool's frames, its
-- root
abbrev pub EndedRows : Type 0
EndedRows =
    let s = with_kept_rows (λ f. old_row) (with_guest_part 8 (flat_guest (pages []) []) scene) in
    (told (small 1) s 2 (ReclaimPage (vm 5 3) 1) 0x100a ≡ plain_row)
    × (told (small 1) s 2 (ReclaimPage (vm 5 3) 2) 0x100b ≡ plain_row)
    × (told (small 1) s 2 (ReclaimPage (vm 5 3) 3) 0x100c ≡ plain_row)
    × (at (told (small 1) s 2 (ReclaimPool (vm 5 3))) (0x1721 ∷ 0x1722 ∷ 0x1723 ∷ [])
    ≡ old_row ∷ plain_row ∷ old_row ∷ [])
    × (at (told (small 0) s 6 FinishGuest) (0x1740 ∷ 0x1741 ∷ 0x1742 ∷ [])
    ≡ old_row ∷ plain_row ∷ old_row ∷ [])

-- along a range the borrower's page goes on
abbrev pub RowAdvances : Type 0
RowAdvances = advance_row (lent_row 0 1 0x4001401) 2 ≡ lent_row 0 1 0x4001403
