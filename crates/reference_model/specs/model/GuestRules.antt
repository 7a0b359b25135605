-- The call rules of the steps on a Guest part, with or without the Shared part.
use Rattle.std.specs.Prelude.{ℕ, ◌+◌, Bool, true, false, not, ◌&&◌, ◌||◌, ◌==◌, nat_le, nat_lt, is_some, unwrap_or, [], ◌∷◌, length, Option, Some, None, if◌then◌else◌, codes}
use Rattle.descriptor.specs.declared.Prot.{Prot}
use Rattle.descriptor.specs.declared.Prot.TheVariants.{RWX}
use Rattle.descriptor.specs.declared.State.TheVariants.{Owned, SharedOwned, SharedBorrowed}
use Rattle.reference_model.specs.declared.changes.Stage.{Stage}
use Rattle.reference_model.specs.declared.changes.Stage.TheVariants.{Installed as installed, Dying as dying_vm, Finished as finished}
use Rattle.page_state.specs.declared.entry.Entry.{Entry}
use Rattle.page_state.specs.declared.entry.Entry.TheVariants.{Unmapped}
use Rattle.call_table.specs.declared.step.VmId.{VmId}
use Rattle.call_table.specs.declared.step.VmKind.{VmKind}
use Rattle.call_table.specs.declared.step.VmKind.TheVariants.{Protected, Plain as PlainVm}
use Rattle.call_table.specs.declared.reply.Value.TheVariants.{Frame as FrameOf, Entry as EntryOf}
use Rattle.page_state.specs.EntryTests.{is_mapped, is_unmapped, is_in, is_free_page, leaf, annotation, entry_frame, with_state, with_rights}
use Rattle.page_state.specs.Geometries.{pages_below}
use Rattle.page_state.specs.Layouts.{Layout, is_good_range, is_good_page}
use Rattle.reference_model.specs.model.Owner.{count_blocks}
use Rattle.page_state.specs.Search.{all_below}
use Rattle.page_state.specs.Trees.{Tree, Pool}
use Rattle.reference_model.specs.model.State.{Phase, empty, live, dying, Guest, Cpu}
use Rattle.reference_model.specs.declared.changes.Update.TheVariants.{Becomes}
use Rattle.reference_model.specs.declared.changes.GuestChange.TheVariants.{Install, Gain, LoseLowest, Die, Empty}
use Rattle.reference_model.specs.declared.changes.CpuChange.{CpuChange}
use Rattle.reference_model.specs.declared.changes.Changes.{Changes}
use Rattle.reference_model.specs.model.Changes.{change, same_cpu, no_changes}
use Rattle.reference_model.specs.model.Parts.{is_good_vm}
use Rattle.reference_model.specs.model.Used.{Used}
use Rattle.reference_model.specs.model.Rule.{Reads, Test, ◌otherwise◌, Rule, fine}
use Rattle.reference_model.specs.model.SharedRules.{host_entry, hand_of, to_host, hand_becomes, input_page, has_hand}

-- the guest's entry of a page
abbrev pub guest_entry : Used → ℕ → Entry
guest_entry x g = x.guest.tree.map g

-- the owner's number of the guest of a slot
abbrev pub guest_owner : Option ℕ → ℕ
guest_owner slot = 2 + unwrap_or slot 0

-- the host can't reach the guest's memory
abbrev pub is_protected : VmKind → Bool
is_protected Protected = true
is_protected PlainVm = false

-- equality of phases, as a test
abbrev pub phase_eq : Phase → Phase → Bool
phase_eq empty empty = true
phase_eq live live = true
phase_eq dying dying = true
phase_eq p q = false

-- the guest has the phase, and the generation of the name
abbrev pub is_guest : Phase → VmId → Guest → Bool
is_guest phase vm g = phase_eq g.phase phase && g.generation == vm.generation

-- the VM of the CPU's ticket
abbrev pub ticket_vm : Cpu → VmId
ticket_vm k = elim (k.ticket) [ Some t ↦ t.vm | None ↦ record { slot = 0; generation = 0 } ]

-- the kind of the CPU's ticket
abbrev pub ticket_kind : Cpu → VmKind
ticket_kind k = elim (k.ticket) [ Some t ↦ t.kind | None ↦ PlainVm ]

-- the CPU gets this ticket
abbrev pub ticket_becomes : VmId → VmKind → Stage → CpuChange
ticket_becomes vm kind stage =
    record same_cpu { ticket = Becomes (Some (record { vm = vm; kind = kind; stage = stage })) }

-- the CPU's ticket moves on to another stage
abbrev pub moved_on : Stage → Cpu → CpuChange
moved_on stage k = ticket_becomes (ticket_vm k) (ticket_kind k) stage

-- the least frame of a pool
abbrev pub least : Pool → ℕ
least [] = 0
least (f ∷ fs) = f

-- how many tables a tree has
abbrev pub guest_table_count : Layout → Tree → ℕ
guest_table_count l t = count_blocks (l.depth + 1) (l.depth + 1) (λ b. is_some (t.table b))

-- a range of the host and one of the guest change
abbrev pub two_ranges : ℕ → Entry → ℕ → Entry → ℕ → Changes
two_ranges f e g e' n = record no_changes { host = change f n e; guest = change g n e' }

-- a page of the host and a page of the guest change
abbrev pub two_pages : ℕ → Entry → ℕ → Entry → Changes
two_pages f e g e' = two_ranges f e g e' 1

-- the pages of a range are good guest pages
abbrev pub are_good_pages : Layout → ℕ → ℕ → Bool
are_good_pages l g n = all_below n (λ i. is_good_page l (g + i))

-- each page of the host's range is free, and the guest's page of it is unmapped
abbrev pub may_give : Used → ℕ → ℕ → ℕ → Bool
may_give x f g n =
    all_below n (λ i. is_free_page (host_entry x (f + i)) && is_unmapped (guest_entry x (g + i)))

-- the guest holds memory: it is Live or Dying, with the generation of the name
abbrev pub is_alive : VmId → Guest → Bool
is_alive vm g = is_guest live vm g || is_guest dying vm g

-- a VM's name that has a slot
abbrev pub good_vm : VmId → Test
good_vm vm = is_good_vm vm otherwise codes "the slot is over 63"

-- and an input page
abbrev pub vm_and_page : Layout → VmId → ℕ → Test
vm_and_page l vm g =
    is_good_vm vm
    && is_good_page l g otherwise
    codes "the slot is over 63, or the page is past the input pages"

-- a range that calls take, and as many input pages
abbrev pub range_and_pages : Layout → ℕ → ℕ → ℕ → Test
range_and_pages l f g n = is_good_range l f n && are_good_pages l g n
    otherwise
    codes "the range isn't 1 to 512 pages of memory, or a page of the guest is past the input pages"

-- a page that the guest borrows
abbrev pub borrowed : Entry → Test
borrowed e = is_in SharedBorrowed e otherwise codes "the guest's page isn't SharedBorrowed"

-- the host shares a range with the guest
abbrev pub share_guest : ℕ → ℕ → Prot → ℕ → Reads → Rule
share_guest f g rights n x = record fine {
  valid = range_and_pages x.layout f g n;
  allowed = not (is_protected x.used.guest.kind) && may_give x.used f g n
      otherwise
      codes "the VM is protected, one of the host's pages isn't free to give, or one of the guest's pages is mapped";
  changes = two_ranges f (leaf RWX f SharedOwned) g (leaf rights f SharedBorrowed) n;
}

-- the host takes back the page that it shared with the guest
abbrev pub unshare_guest : VmId → ℕ → Reads → Rule
unshare_guest vm g x = let e = guest_entry x.used g in record fine {
  valid = vm_and_page x.layout vm g;
  has_vm = is_guest live vm x.used.guest otherwise codes "the VM's guest isn't Live";
  allowed = borrowed e;
  changes = two_pages (entry_frame e) (leaf RWX (entry_frame e) Owned) g Unmapped;
}

-- the host gives a range to the guest
abbrev pub donate_guest : ℕ → ℕ → ℕ → Reads → Rule
donate_guest f g n x = record fine {
  valid = range_and_pages x.layout f g n;
  allowed = is_protected x.used.guest.kind && may_give x.used f g n
      otherwise
      codes "the VM isn't protected, one of the host's pages isn't free to give, or one of the guest's pages is mapped";
  changes = two_ranges f (annotation (guest_owner x.slot)) g (leaf RWX f Owned) n;
}

-- the guest shares a page with the host
abbrev pub guest_share_host : ℕ → Reads → Rule
guest_share_host g x = let e = guest_entry x.used g in record fine {
  valid = input_page x.layout g;
  allowed = is_in Owned e otherwise codes "the guest's page isn't Owned";
  changes =
      two_pages (entry_frame e) (leaf RWX (entry_frame e) SharedBorrowed) g
      (with_state SharedOwned e);
}

-- the guest takes back a page that it shared
abbrev pub guest_unshare_host : ℕ → Reads → Rule
guest_unshare_host g x = let e = guest_entry x.used g in record fine {
  valid = input_page x.layout g;
  allowed = is_in SharedOwned e otherwise codes "the guest's page isn't SharedOwned";
  changes = two_pages (entry_frame e) (annotation (guest_owner x.slot)) g (with_state Owned e);
}

-- the guest becomes Live, with the hand as its root and pool
abbrev pub install : Reads → Rule
install x = record fine {
  allowed = has_hand x.used.cpu;
  changes = record no_changes {
    part = Install (ticket_kind x.used.cpu) (ticket_vm x.used.cpu).generation (hand_of x.used.cpu);
    cpu = record (moved_on installed x.used.cpu) { hand = Becomes None };
    moved = x.used.cpu.hand;
  };
}

-- the guest's pool gets the hand
abbrev pub topup : VmId → Reads → Rule
topup vm x = record fine {
  valid = good_vm vm;
  has_vm = is_alive vm x.used.guest otherwise codes "the VM's guest is neither Live nor Dying";
  allowed =
      is_some x.used.cpu.hand
      && nat_le
      (guest_table_count x.layout x.used.guest.tree + length x.used.guest.free +
      (hand_of x.used.cpu).count) 512
      otherwise
      codes "the CPU's hand is empty, or tables, free frames and the hand are over 512 together";
  changes =
      record no_changes
      { part = Gain (hand_of x.used.cpu); cpu = hand_becomes None; moved = x.used.cpu.hand };
}

-- the host gets a page of a Dying guest back
abbrev pub reclaim_page : VmId → ℕ → Reads → Rule
reclaim_page vm g x = let e = guest_entry x.used g in record fine {
  valid = vm_and_page x.layout vm g;
  has_vm = is_guest dying vm x.used.guest otherwise codes "the VM's guest isn't Dying";
  allowed = is_mapped e otherwise codes "the guest's page is unmapped";
  changes =
      two_pages (entry_frame e)
      (if is_in Owned e then Unmapped else leaf RWX (entry_frame e) Owned) g Unmapped;
}

-- the host gets a frame of a Dying guest's pool back
abbrev pub reclaim_pool : VmId → Reads → Rule
reclaim_pool vm x = record fine {
  valid = good_vm vm;
  has_vm = is_guest dying vm x.used.guest otherwise codes "the VM's guest isn't Dying";
  allowed =
      nat_lt 0 (length x.used.guest.free) otherwise codes "the guest's pool has no free frame";
  changes =
      record (to_host (least x.used.guest.free) 1)
      { part = LoseLowest; value = FrameOf (record { 0 = least x.used.guest.free }) };
}

-- the host gets the root of a Dying guest back, which is then Empty
abbrev pub finish_guest : Reads → Rule
finish_guest x = record fine {
  allowed =
      all_below (pages_below x.layout.depth) (λ g. is_unmapped (guest_entry x.used g))
      && length x.used.guest.free == 0
      otherwise codes "a page of the guest is mapped, or its pool has a free frame";
  changes =
      record (to_host (unwrap_or (x.used.guest.tree.table (x.layout.depth + 1, 0)) 0) 1)
      { part = Empty; cpu = moved_on finished x.used.cpu };
}

-- the guest may do more with a page that it borrows
abbrev pub guest_relax : ℕ → Prot → Reads → Rule
guest_relax g rights x = record fine {
  valid = input_page x.layout g;
  allowed = borrowed (guest_entry x.used g);
  changes = record no_changes { guest = change g 1 (with_rights rights (guest_entry x.used g)) };
}

-- the guest's entry of a page
abbrev pub guest_translate : VmId → ℕ → Reads → Rule
guest_translate vm g x = record fine {
  valid = vm_and_page x.layout vm g;
  has_vm = is_alive vm x.used.guest otherwise codes "the VM's guest is neither Live nor Dying";
  changes = record no_changes { value = EntryOf (guest_entry x.used g) };
}

-- a Live guest becomes Dying
abbrev pub mark_dying : Reads → Rule
mark_dying x =
    record fine { changes = record no_changes { part = Die; cpu = moved_on dying_vm x.used.cpu } }
