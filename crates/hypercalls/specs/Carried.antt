-- How changes are carried out on parts.
use Rattle.std.specs.Prelude.{◌≡◌, ◌<◌, ℕ, Bool, true, false, ◌&&◌, ◌||◌, nat_lt, length, Option, None, Result, Ok, Err, OnErr, OnOk}
use Rattle.page_state.specs.Layouts.{Layout, is_memory}
use Rattle.hyp_pool.specs.declared.PoolFault.{PoolFault}
use Rattle.hyp_pool.specs.declared.PoolFault.TheVariants.{NoPool, NoMemory}
use Rattle.call_table.specs.declared.reply.Refusal.TheVariants.{NoMemory as NoMemoryReply, NoPool as NoPoolReply}
use Rattle.call_table.specs.declared.reply.Reply.{Reply}
use Rattle.call_table.specs.declared.reply.Reply.TheVariants.{Done, Refused}
use Rattle.part_types.specs.declared.parts.GuestPart.{GuestPart}
use Rattle.part_types.specs.declared.parts.SharedPart.{SharedPart}
use Rattle.part_types.specs.Lent.{GuestSuits, SharedSuits}
use Rattle.part_types.specs.View.{guest_held, shared_of}
use Rattle.reference_model.specs.help.ChangeLaws.{AllFit, PartsFit, TouchedFits}
use Rattle.reference_model.specs.declared.changes.Changes.{Changes}
use Rattle.reference_model.specs.declared.changes.GuestChange.TheVariants.{Keep as KeepGuest}
use Rattle.reference_model.specs.model.Changes.{touched, cpu_by}
use Rattle.reference_model.specs.help.RowChanges.{first_of, touched_row}
use Rattle.reference_model.specs.model.State.{Shared, Guest, Cpu}
use Rattle.reference_model.specs.model.Step.{is_touched, guest_after, guest_need, shared_after, shared_need}

-- nothing changes of the guest
pub record LeavesGuest (h : Changes) : Type 0 where
  pub guest : h.guest ≡ None
  pub part : h.part ≡ KeepGuest

-- nothing changes of the Shared part
pub record LeavesShared (h : Changes) : Type 0 where
  pub host : h.host ≡ None
  pub hyp : h.hyp ≡ None
  pub moved : touched h ≡ None

-- the end of a call whose changes of parts were made or not: its CPU's own state changes too, or
-- the reply is the refusal
abbrev pub Ends : Result (Unit {0}) PoolFault → Changes → Cpu → Reply → Cpu → Type 0
Ends (Ok u) h before reply after = (reply ≡ Done h.value) × (after ≡ cpu_by h.cpu before)
Ends (Err NoPool) h before reply after = (reply ≡ Refused NoPoolReply) × (after ≡ before)
Ends (Err NoMemory) h before reply after = (reply ≡ Refused NoMemoryReply) × (after ≡ before)

-- a pool has fewer free frames than the changes need on its trees
abbrev pub is_either_short : ℕ → Changes → Shared → Guest → Bool
is_either_short depth h x g =
    nat_lt (length x.free) (shared_need depth h x) || nat_lt (length g.free) (guest_need depth h g)

-- the Shared part with the given rows at the touched range, if that is memory
abbrev pub with_rows_touched : Layout → ℕ → Option ℕ → Changes → Shared → Shared
with_rows_touched l cpu slot h x =
    record x {
      row = λ f. elim (is_memory l (first_of (touched h)) && is_touched h f)
          [ true ↦ touched_row cpu slot h f | false ↦ x.row f ];
    }

module _ {A : Type 0} (l : Layout) (h : Changes) where
  -- the changes can be made of the Shared part by a call of the CPU on the slot: they fit, and so
  -- do the frames that they touch
  pub record CanChangeShared (id : ℕ) (slot : Option ℕ) (s : SharedPart A) : Type 0 where
    pub fit : AllFit l.depth h
    pub touched : TouchedFits l id slot h
    pub suits : SharedSuits l s

  -- they can be made of the Guest part
  pub record CanChangeGuest (p : GuestPart A) : Type 0 where
    pub fit : AllFit l.depth h
    pub parts : PartsFit l h (guest_held p)
    pub suits : GuestSuits l p

  -- the Shared part after an attempt at the changes, `s` before: all of them are made, with the
  -- rows that follow from them, or none
  pub record IsSharedChanged (id : ℕ) (slot : Option ℕ) (r : Result (Unit {0}) PoolFault)
      (s t : SharedPart A) : Type 0 where
    pub made : OnOk r
        (shared_of t ≡ with_rows_touched l id slot h (shared_after l.depth h (shared_of s)))
    pub err : OnErr r (shared_of t ≡ shared_of s)
    pub suits : SharedSuits l t
    pub log : t.log ≡ s.log

  -- the Guest part after an attempt at the changes, `p` before: all of them are made, or none
  pub record IsGuestChanged (r : Result (Unit {0}) PoolFault) (p q : GuestPart A) : Type 0 where
    pub made : OnOk r (guest_held q ≡ guest_after l.depth h (guest_held p))
    pub err : OnErr r (guest_held q ≡ guest_held p)
    pub suits : GuestSuits l q
    pub log : q.log ≡ p.log

  -- a part's pool has fewer free frames than they need tables
  abbrev pub IsSharedShort : SharedPart A → Type 0
  IsSharedShort s = length (shared_of s).free < shared_need l.depth h (shared_of s)

  abbrev pub IsGuestShort : GuestPart A → Type 0
  IsGuestShort p = length (guest_held p).free < guest_need l.depth h (guest_held p)

  abbrev pub IsEitherShort : SharedPart A → GuestPart A → Type 0
  IsEitherShort s p = is_either_short l.depth h (shared_of s) (guest_held p) ≡ true
