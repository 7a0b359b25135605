-- The call rules of the steps on the Shared part (profile).
use Rattle.std.specs.Prelude.{ℕ, ◌+◌, Bool, true, false, not, ◌&&◌, ◌||◌, ◌==◌, nat_le, is_some, is_none, unwrap_or, Option, Some, None, if◌then◌else◌, codes}
use Rattle.descriptor.specs.declared.Prot.TheVariants.{RW, RWX}
use Rattle.descriptor.specs.declared.State.TheVariants.{Owned, SharedOwned, SharedBorrowed}
use Rattle.page_state.specs.declared.entry.Entry.{Entry}
use Rattle.page_state.specs.declared.entry.Entry.TheVariants.{Unmapped}
use Rattle.page_state.specs.declared.entry.PageRange.{PageRange}
use Rattle.page_state.specs.declared.layout.Region.{Region}
use Rattle.page_state.specs.declared.row.Usage.{Usage}
use Rattle.page_state.specs.declared.row.Usage.TheVariants.{Plain}
use Rattle.call_table.specs.declared.reply.Value.TheVariants.{Entry as EntryOf, Row as RowOf}
use Rattle.page_state.specs.Blocks.{block_at, first_page, span, is_empty}
use Rattle.page_state.specs.EntryTests.{is_unmapped, is_annotated, is_in, is_free_page, leaf, device_leaf, annotation}
use Rattle.page_state.specs.Layouts.{Layout, is_memory, is_good_range, is_good_page, hyp_page}
use Rattle.page_state.specs.Map.{Map}
use Rattle.page_state.specs.Regions.{region_of, is_memory_kind, end_of}
use Rattle.page_state.specs.Search.{all_below}
use Rattle.reference_model.specs.model.State.{Cpu}
use Rattle.reference_model.specs.declared.changes.MapChange.{MapChange}
use Rattle.reference_model.specs.declared.changes.Update.TheVariants.{Becomes}
use Rattle.reference_model.specs.declared.changes.CpuChange.{CpuChange}
use Rattle.reference_model.specs.declared.changes.Changes.{Changes}
use Rattle.reference_model.specs.model.Changes.{change, same_cpu, no_changes}
use Rattle.reference_model.specs.model.Used.{Used}
use Rattle.reference_model.specs.model.Rule.{Reads, Test, ◌otherwise◌, Rule, fine}

-- the host's entry of a frame's page
abbrev pub host_entry : Used → ℕ → Entry
host_entry x f = x.shared.host.map f

-- the hypervisor's entry of its page of a frame
abbrev pub hyp_entry : Used → ℕ → Entry
hyp_entry x f = x.shared.hyp.map (hyp_page f)

-- the change of the host's tree for a share
abbrev pub host_share : ℕ → Option MapChange
host_share f = change f 1 (leaf RWX f SharedOwned)

-- and of the hypervisor's
abbrev pub hyp_share : ℕ → Option MapChange
hyp_share f = change (hyp_page f) 1 (leaf RW f SharedBorrowed)

-- a frame of memory
abbrev pub memory_frame : Layout → ℕ → Test
memory_frame l f = is_memory l f otherwise codes "the frame is no page of memory"

-- a range that calls take
abbrev pub good_range : Layout → ℕ → ℕ → Test
good_range l f n = is_good_range l f n otherwise codes "the range isn't 1 to 512 pages of memory"

-- an input page
abbrev pub input_page : Layout → ℕ → Test
input_page l page = is_good_page l page otherwise codes "the page is past the input pages"

-- a range in the CPU's hand
abbrev pub has_hand : Cpu → Test
has_hand k = is_some k.hand otherwise codes "the CPU's hand is empty"

-- the host shares the frame with the hypervisor
abbrev pub share_hyp : ℕ → Reads → Rule
share_hyp f x = record fine {
  valid = memory_frame x.layout f;
  allowed = is_free_page (host_entry x.used f) && is_unmapped (hyp_entry x.used f)
      otherwise
      codes "the host's page isn't free to give, or the hypervisor's page of the frame is mapped";
  changes = record no_changes { host = host_share f; hyp = hyp_share f };
}

-- nothing is in another use
abbrev pub is_plain : Usage → Bool
is_plain Plain = true
is_plain other = false

-- a range of no frame
abbrev pub no_range : PageRange
no_range = record { first = record { 0 = 0 }; count = 0 }

-- the CPU's hand, or an empty range if it has none
abbrev pub hand_of : Cpu → PageRange
hand_of k = unwrap_or k.hand no_range

-- each page of the range is free, and its page of the hypervisor unmapped
abbrev pub may_donate : Used → ℕ → ℕ → Bool
may_donate x f n =
    all_below n (λ i. is_free_page (host_entry x (f + i)) && is_unmapped (hyp_entry x (f + i)))

-- the hypervisor owns the frame, and it is in no other use
abbrev pub may_return : Used → ℕ → Bool
may_return x f =
    (x.shared.row f).owner.0 == 1 && is_plain (x.shared.row f).usage && is_in Owned (hyp_entry x f)

-- the range goes to the hypervisor
abbrev pub to_hyp : ℕ → ℕ → Changes
to_hyp f n =
    record no_changes
    { host = change f n (annotation 1); hyp = change (hyp_page f) n (leaf RW f Owned) }

-- the range goes back to the host
abbrev pub to_host : ℕ → ℕ → Changes
to_host f n = record no_changes { host = change f n Unmapped; hyp = change (hyp_page f) n Unmapped }

-- the CPU's hand becomes this
abbrev pub hand_becomes : Option PageRange → CpuChange
hand_becomes hand = record same_cpu { hand = Becomes hand }

-- the block of a depth lies in the page's region and is all unmapped
abbrev pub may_map : Map → Region → ℕ → ℕ → Bool
may_map m r d page =
    let b = block_at d page in
    nat_le r.pages.first.0 (first_page b) && nat_le (first_page b + span b) (end_of r.pages)
    && is_empty m b

-- the leaf that host_abort maps from a page on
abbrev pub abort_leaf : Region → ℕ → Entry
abort_leaf r first = if is_memory_kind r.kind then leaf RWX first Owned else device_leaf first

-- the depth of the largest block that host_abort may map
abbrev pub abort_depth : Map → Region → ℕ → ℕ
abort_depth m r page = if may_map m r 2 page then 2 else if may_map m r 1 page then 1 else 0

-- the change of the host's tree for host_abort
unfoldable pub abort_edit : Map → Option Region → ℕ → Option MapChange
abort_edit m None page = None
abort_edit m (Some r) page =
    let b = block_at (abort_depth m r page) page in
    if is_unmapped (m page) then change (first_page b) (span b) (abort_leaf r (first_page b))
    else None

-- the host takes back the page that it shared with the hypervisor
abbrev pub unshare_hyp : ℕ → Reads → Rule
unshare_hyp f x = record fine {
  valid = memory_frame x.layout f;
  allowed = is_in SharedOwned (host_entry x.used f) && is_in SharedBorrowed (hyp_entry x.used f)
      otherwise
      codes "the host's page isn't SharedOwned, or the hypervisor's page of the frame isn't SharedBorrowed";
  changes =
      record no_changes
      { host = change f 1 (leaf RWX f Owned); hyp = change (hyp_page f) 1 Unmapped };
}

-- the host gives a range to the hypervisor
abbrev pub donate_hyp : ℕ → ℕ → Reads → Rule
donate_hyp f n x = record fine {
  valid = good_range x.layout f n;
  allowed = may_donate x.used f n
      otherwise
      codes "of some frame of the range the host's page isn't free to give, or the hypervisor's page is mapped";
  changes = to_hyp f n;
}

-- the hypervisor gives a range back
abbrev pub hyp_donate_host : ℕ → ℕ → Reads → Rule
hyp_donate_host f n x = record fine {
  valid = good_range x.layout f n;
  allowed = all_below n (λ i. may_return x.used (f + i))
      otherwise
      codes "the hypervisor doesn't own some frame of the range, or it is in a pool, a table or a hand";
  changes = to_host f n;
}

-- the host touches a page that may be unmapped
abbrev pub host_abort : ℕ → Reads → Rule
host_abort page x = record fine {
  valid = is_some (region_of x.layout.memory page) otherwise codes "the page is in no region";
  allowed =
      not
      (is_annotated (host_entry x.used page)) otherwise
      codes "the page is annotated: another owner has it";
  changes =
      record no_changes
      { host = abort_edit x.used.shared.host.map (region_of x.layout.memory page) page };
}

-- the host's entry of a page
abbrev pub host_translate : ℕ → Reads → Rule
host_translate page x =
    record fine {
      valid = input_page x.layout page;
      changes = record no_changes { value = EntryOf (x.used.shared.host.map page) };
    }

-- the hypervisor's entry of a page
abbrev pub hyp_translate : ℕ → Reads → Rule
hyp_translate page x =
    record fine {
      valid = input_page x.layout page;
      changes = record no_changes { value = EntryOf (x.used.shared.hyp.map page) };
    }

-- the row of a frame
abbrev pub owner_of : ℕ → Reads → Rule
owner_of f x =
    record fine {
      valid = memory_frame x.layout f;
      changes = record no_changes { value = RowOf (x.used.shared.row f) };
    }

-- the host gives a range into the CPU's hand
abbrev pub fund : ℕ → ℕ → Reads → Rule
fund f n x = record fine {
  valid = good_range x.layout f n;
  ready = is_none x.used.cpu.hand otherwise codes "the CPU's hand isn't empty";
  allowed = may_donate x.used f n
      otherwise
      codes "of some frame of the range the host's page isn't free to give, or the hypervisor's page is mapped";
  changes =
      record (to_hyp f n)
      { cpu = hand_becomes (Some (record { first = record { 0 = f }; count = n })) };
}

-- the CPU's hand goes back to the host
abbrev pub unfund : Reads → Rule
unfund x = record fine {
  allowed = has_hand x.used.cpu;
  changes =
      record (to_host (hand_of x.used.cpu).first.0 (hand_of x.used.cpu).count)
      { cpu = hand_becomes None };
}
