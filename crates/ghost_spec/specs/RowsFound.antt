-- The row from scratch of a frame over the parts that a call uses: the Shared part, one guest at
-- most, and its CPU's own hand.
use Rattle.std.specs.Prelude.{ℕ, ◌+◌, true, false, ◌&&◌, ◌||◌, Option, Some, None}
use Rattle.descriptor.specs.declared.State.TheVariants.{SharedOwned, SharedBorrowed}
use Rattle.page_state.specs.declared.entry.Entry.{Entry}
use Rattle.page_state.specs.declared.entry.Entry.TheVariants.{Annotated}
use Rattle.page_state.specs.declared.entry.PageRange.{PageRange}
use Rattle.page_state.specs.declared.row.Lent.{Lent}
use Rattle.page_state.specs.declared.row.Row.{Row}
use Rattle.page_state.specs.declared.row.Usage.{Usage}
use Rattle.page_state.specs.declared.row.Usage.TheVariants.{Plain, SharedPool, VmPool, InHand}
use Rattle.page_state.specs.Layouts.{Layout, is_memory}
use Rattle.reference_model.specs.declared.changes.Changes.{Changes}
use Rattle.reference_model.specs.model.Changes.{touched}
use Rattle.reference_model.specs.model.Owner.{page_of, lent_at, is_free, is_table_frame, is_in_hand}
use Rattle.reference_model.specs.model.State.{Shared, Guest, Cpu}
use Rattle.reference_model.specs.model.Step.{changed}
use Rattle.reference_model.specs.model.Used.{Used}

-- the owner by the host's entry of the frame's page: the number of its annotation, and else this
-- one
abbrev pub owner_or : ℕ → Entry → ℕ
owner_or n (Annotated owner) = owner.0
owner_or n other = n

module _ (l : Layout) (s : Shared) (slot : Option ℕ) (g : Guest) (f : ℕ) where
  -- the number of the guest that shares the frame, or else the host's
  abbrev pub sharer_found : ℕ
  sharer_found =
      elim (page_of l g.tree.map SharedOwned f)
      [ Some page ↦ (elim slot [ Some v ↦ 2 + v | None ↦ 0 ]) | None ↦ 0 ]

  -- the owner of a frame that isn't annotated: its sharer if the host borrows it, else the host
  abbrev pub lender_found : ℕ
  lender_found =
      elim (page_of l s.host.map SharedBorrowed f) [ Some page ↦ sharer_found | None ↦ 0 ]

  -- the loan to the guest, if it borrows the frame
  abbrev pub guest_lent : Option Lent
  guest_lent = elim slot [
    | Some v ↦ elim (page_of l g.tree.map SharedBorrowed f)
        [ Some page ↦ Some (lent_at (2 + v) page) | None ↦ None ]
    | None ↦ None
  ]

  -- lent to the first of host, hypervisor and guest that borrows the frame
  abbrev pub lent_found : Option Lent
  lent_found = elim (page_of l s.host.map SharedBorrowed f) [
    | Some page ↦ Some (lent_at 0 page)
    | None ↦ elim (page_of l s.hyp.map SharedBorrowed f)
        [ Some page ↦ Some (lent_at 1 page) | None ↦ guest_lent ]
  ]

  -- the guest, if the frame is free in its pool or a table of its tree
  abbrev pub pool_found : Option ℕ
  pool_found = elim (is_free g.free f || is_table_frame l g.tree f) [ true ↦ slot | false ↦ None ]

  -- in the shared pool or a table of it, in the guest's, in the CPU's hand, or in no use
  abbrev pub usage_found : ℕ → Cpu → Usage
  usage_found cpu k =
      elim (is_free s.free f || is_table_frame l s.host f || is_table_frame l s.hyp f) [
        | true ↦ SharedPool
        | false ↦ elim pool_found [
          | Some v ↦ VmPool v
          | None ↦ elim (is_in_hand k.hand f) [ true ↦ InHand cpu | false ↦ Plain ]
        ]
      ]

  -- the row
  abbrev pub row_found : ℕ → Cpu → Row
  row_found cpu k =
      record {
        owner = record { 0 = owner_or lender_found (s.host.map f) };
        lent = lent_found;
        usage = usage_found cpu k;
      }

-- the Shared part once the rows of the touched memory frames are found again
abbrev pub rows_found : Layout → Option PageRange → Option ℕ → Guest → ℕ → Cpu → Shared → Shared
rows_found l touched slot g cpu k s =
    record s {
      row = λ f. elim (is_memory l f && is_in_hand touched f)
          [ true ↦ row_found l s slot g f cpu k | false ↦ s.row f ];
    }

-- the parts that a call uses after the rows of the touched memory frames are found again
abbrev pub used_found : Layout → Option PageRange → Option ℕ → ℕ → Used → Used
used_found l touched slot cpu x =
    record x { shared = rows_found l touched slot x.guest cpu x.cpu x.shared }

-- the parts that a call uses after its changes are made and the rows of the touched frames found
-- again
abbrev pub used_made : Layout → Option ℕ → ℕ → Changes → Used → Used
used_made l slot cpu h x = used_found l (touched h) slot cpu (changed l.depth h x)
