-- Changes that were carried out, in words of the reference state.
use Rattle.std.proofs.Common.{◌≡◌, ℕ, ◌<◌, ◌↔◌, Bool, true, false, ◌&&◌, ◌||◌, nat_lt, length, Option, Some, None, IfSome, Result, Ok, Err, OnOk, OnErr, refl, ap, sym, ◌∙◌, subst, arith, inl, inr}
use mathlib.Core.Path.{fun_ext}
use Rattle.hyp_pool.specs.declared.PoolFault.{PoolFault}
use Rattle.hyp_pool.specs.declared.PoolFault.TheVariants.{NoPool, NoMemory as NoMemoryFault}
use Rattle.page_state.specs.declared.entry.PageRange.{PageRange}
use Rattle.page_state.specs.declared.row.Row.{Row}
use Rattle.call_table.specs.declared.reply.Refusal.TheVariants.{NoMemory}
use Rattle.call_table.specs.declared.reply.Reply.{Reply}
use Rattle.call_table.specs.declared.reply.Reply.TheVariants.{Refused}
use Rattle.call_table.specs.declared.step.Step.{Step}
use Rattle.page_state.specs.Layouts.{Layout, is_memory}
use Rattle.page_state.specs.Tables.{need, needs, edited, freed, returned}
use Rattle.page_state.proofs.Common.{or-false, not-holds}
use Rattle.reference_model.specs.declared.changes.Changes.{Changes}
use Rattle.reference_model.specs.declared.changes.MapChange.{MapChange}
use Rattle.reference_model.specs.help.Answers.{CarriesOut}
use Rattle.reference_model.specs.help.ChangeLaws.{AllFit, FitsWhere, OnlyUses, PartsFit}
use Rattle.reference_model.specs.model.Rules.{may_grow}
use Rattle.reference_model.specs.model.Changes.{edit_of, touched, cpu_by, vms_by}
use Rattle.reference_model.specs.model.Owner.{is_in_hand}
use Rattle.reference_model.specs.help.RowChanges.{first_of, touched_row, with_touched_rows}
use Rattle.reference_model.specs.model.State.{Vms, Shared, Guest, Cpu, no_vms, no_shared, no_guest}
use Rattle.reference_model.specs.model.Step.{shared_need, shared_after, guest_need, guest_after, is_short, changed}
use Rattle.reference_model.specs.model.Used.{Used}
use Rattle.part_types.specs.declared.parts.GuestPart.{GuestPart}
use Rattle.part_types.specs.declared.parts.SharedPart.{SharedPart}
use Rattle.std.proofs.lemmas.Bool.{ltb-true, lt-ltb}
use Rattle.std.proofs.lemmas.Bool.Decides.{nat_tests}
use Rattle.component.specs.View.{HasRoomFor, need_for}
use Rattle.guest_component.specs.declared.body.Body.{Body}
use Rattle.guest_component.specs.declared.guest.Guest.{Guest as GuestComponent}
use Rattle.guest_component.specs.Changing.{GuestCanChange}
use Rattle.guest_component.specs.Wants.{MakesNone}
use Rattle.guest_component.specs.Wants.{HasReadyMap, WantsNoMemory}
use Rattle.guest_component.specs.View.{guest_depth, guest_of}
use Rattle.component.proofs.Keeps.{need_keep}
use Rattle.page_state.specs.Geometries.{levels_below}
use Rattle.table_tree.specs.View.{tree_of}
use Rattle.part_types.specs.declared.parts.CpuState.{CpuState}
use Rattle.part_types.specs.declared.parts.VmPart.{VmPart}
use Rattle.part_types.specs.Lent.{Lent, SharedSuits, lent_both, lent_guest, lent_shared, lent_vms, used_in}
use Rattle.part_types.specs.Logs.{IsOfSize}
use Rattle.part_types.specs.MemoryRows.{HasMemoryRows}
use Rattle.part_types.specs.View.{vm_slots, shared_of, guest_held, cpu_of, depth_of}
use Rattle.reference_model.specs.declared.changes.SlotChange.TheVariants.{Keep as KeepSlots}
use Rattle.reference_model.specs.model.Parts.{Names, uses_shared}
use Rattle.decisions.specs.Grows.{GrowsOnly}
use Rattle.hypercalls.specs.Carried.{Ends, LeavesGuest, LeavesShared, is_either_short, with_rows_touched}
use Rattle.part_types.specs.Roomy.{IsRoomy}

less_none : (n : ℕ) → nat_lt n 0 ≡ false
less_none n = grind (arith, nat_tests)

row_kept : (b t : Bool) (x y : Row) → t ≡ false → y ≡ (elim (b && t) [ true ↦ x | false ↦ y ])
row_kept true t x y h = rw h refl
row_kept false t x y h = refl

-- where nothing changes of the Shared part
module _ (l : Layout) (h : Changes) (leaves : LeavesShared h) where
  no_need : shared_need l.depth h no_shared ≡ 0
  unfolding needs
  no_need = rw (leaves.host, leaves.hyp) refl

  same_after : shared_after l.depth h no_shared ≡ no_shared
  unfolding shared_after needs edited freed returned
  same_after = rw (leaves.host, leaves.hyp) refl

  untouched : (f : ℕ) → is_in_hand (touched h) f ≡ false
  untouched f = ap (λ (o : Option PageRange). is_in_hand o f) leaves.moved

  pub none_made : (id : ℕ) (slot : Option ℕ)
      → no_shared ≡ with_rows_touched l id slot h (shared_after l.depth h no_shared)
  none_made id slot =
      ap (λ (r : ℕ → Row). record no_shared { row = r })
      (fun_ext
      (λ f. row_kept (is_memory l (first_of (touched h))) (is_in_hand (touched h) f) (touched_row id slot h f)
      (no_shared.row f) (untouched f)))
      ∙ ap (with_rows_touched l id slot h) (sym same_after)

  pub none_short : nat_lt (length no_shared.free) (shared_need l.depth h no_shared) ≡ false
  none_short = ap (nat_lt 0) no_need ∙ less_none 0

same_used : (v v' : Vms) (s s' : Shared) (g g' : Guest) (k k' : Cpu)
    → v ≡ v'
    → s ≡ s'
    → g ≡ g'
    → k ≡ k'
    → ◌≡◌ {A = Used} (record { vms = v; shared = s; guest = g; cpu = k })
    (record { vms = v'; shared = s'; guest = g'; cpu = k' })
same_used v v' s s' g g' k k' a b c d = cc

-- all that was changed, in words of the reference state
pub all_made : (l : Layout) (h : Changes) (id : ℕ) (slot : Option ℕ) (v w : Vms) (s t : Shared) (g p : Guest)
    (k j : Cpu)
    → w ≡ vms_by h.slot v
    → t ≡ with_rows_touched l id slot h (shared_after l.depth h s)
    → p ≡ guest_after l.depth h g
    → j ≡ cpu_by h.cpu k
    → ◌≡◌ {A = Used} (record { vms = w; shared = t; guest = p; cpu = j })
    (with_touched_rows l id slot h (changed l.depth h (record { vms = v; shared = s; guest = g; cpu = k })))
unfolding with_touched_rows changed
all_made l h id slot v w s t g p k j a b c d =
    same_used w (vms_by h.slot v) t (with_rows_touched l id slot h (shared_after l.depth h s)) p
    (guest_after l.depth h g) j
    (cpu_by h.cpu k) a b c d

-- a guest of which nothing changes
pub guest_same : (d : ℕ) (h : Changes) (g : Guest) → LeavesGuest h → guest_after d h g ≡ g
unfolding guest_after needs edited freed returned
guest_same d h g stays = rw (stays.guest, stays.part) refl

pub need_same : (d : ℕ) (h : Changes) (g : Guest) → LeavesGuest h → guest_need d h g ≡ 0
need_same d h g stays = ap (λ (o : Option MapChange). need d g.tree (edit_of o)) stays.guest ∙ need_keep d g.tree

pub guest_short : (d : ℕ) (h : Changes)
    → LeavesGuest h
    → nat_lt (length no_guest.free) (guest_need d h no_guest) ≡ false
guest_short d h stays = ap (nat_lt 0) (need_same d h no_guest stays) ∙ less_none 0

-- so it is, whatever was answered
pub always_ok : {X E P : Type 0} (r : Result X E) → P → OnOk r P
always_ok (Ok x) h = h
always_ok (Err e) h = tt

pub always_err : {X E P : Type 0} (r : Result X E) → P → OnErr r P
always_err (Ok x) h = tt
always_err (Err e) h = h

-- a part of the layout whose trees' depth, rows and log stay is one
pub suits_after : {A : Type 0} (l : Layout) (s t : SharedPart A)
    → depth_of t ≡ depth_of s
    → t.owners ≡ s.owners
    → t.log ≡ s.log
    → SharedSuits l s
    → SharedSuits l t
suits_after l s t depth rows log is = record {
  depth = depth ∙ is.depth;
  rows = subst (HasMemoryRows l.memory) (sym rows) is.rows;
  log = subst (IsOfSize l.config.log) (sym log) is.log;
}

-- what can be made of parts can be made of the guest
pub can_change : {A : Type 0} (l : Layout) (h : Changes) (g : GuestComponent A)
    → guest_depth g ≡ l.depth
    → AllFit l.depth h
    → PartsFit l h (guest_of g)
    → GuestCanChange (guest_depth g) h (guest_of g)
can_change l h g e fit parts =
    record {
      map = subst (λ d. FitsWhere d h.guest) (sym e) fit.guest;
      mapped = parts.mapped;
      part = (l, (sym e, parts.part));
    }

-- where neither map changes, no growth can be needed
roomy : {A : Type 0} (h : Changes) → h.host ≡ None → h.hyp ≡ None → (s : SharedPart A) → IsRoomy h s
roomy h a b s = record {
  host = subst (λ (o : Option MapChange). HasRoomFor o s.host.maplets) (sym a) tt;
  hyp = subst (λ (o : Option MapChange). HasRoomFor o s.hyp.maplets) (sym b) tt;
  host_spares = let e = ap (need_for s.host.tree) a in
      omega (arith, e ∙ need_keep (levels_below s.host.tree.geometry) (tree_of s.host.tree));
  hyp_spares = let e = ap (need_for s.hyp.tree) b in
      omega (arith, e ∙ need_keep (levels_below s.hyp.tree.geometry) (tree_of s.hyp.tree));
}

ready_none : {A : Type 0} (n : ℕ) (c : Option MapChange) → n ≡ 0 → c ≡ None → (o : Option (Body A)) → HasReadyMap n c o
ready_none n c z e None = tt
ready_none n c z e (Some b) =
    (omega (arith, z), subst (λ (o : Option MapChange). HasRoomFor o b.map.maplets) (sym e) tt)

-- nor where the guest's map stays and no guest is made
ready : {A : Type 0} (h : Changes) → h.guest ≡ None → MakesNone h.part → (g : GuestPart A) → WantsNoMemory h g.guest
ready h a m g =
    record {
      made = m;
      map =
          ready_none _ h.guest
          (ap (λ (o : Option MapChange). need (guest_depth g.guest) (guest_held g).tree (edit_of o)) a
          ∙ need_keep (guest_depth g.guest) (guest_held g).tree) a g.guest.body;
    }

some_all : {P : Type 0} (Is : P → Type 0) → ((p : P) → Is p) → (o : Option P) → IfSome o Is
some_all Is all None = tt
some_all Is all (Some p) = all p

-- a step whose change wanted memory may grow
grows_by : {A : Type 0} (h : Changes) (step : Step) (x : Lent A)
    → GrowsOnly step h
    → (IfSome x.shared (λ s. IsRoomy h s) → IfSome x.guest (λ g. WantsNoMemory h g.guest) → ⊥)
    → may_grow step ≡ true
grows_by h step x only short = go (may_grow step) only
  where
    go : (b : Bool) → (b ≡ false → (h.host ≡ None) × (h.hyp ≡ None) × (h.guest ≡ None) × MakesNone h.part) → b ≡ true
    go true k = refl
    go false k = let o = k refl in
        absurd
        (short (some_all (λ s. IsRoomy h s) (roomy h o.0 o.1) x.shared)
        (some_all (λ g. WantsNoMemory h g.guest) (ready h o.2 o.3) x.guest))

-- where a pool is short
pub guest_short_iff : {R : Type 0} (a : Bool) (m n : ℕ) → a ≡ false → R ↔ (m < n) → R ↔ ((a || nat_lt m n) ≡ true)
guest_short_iff a m n p iff = (
  λ r. rw p (lt-ltb m n (iff.0 r)),
  λ e. iff.1 (ltb-true m n (let t : (false || nat_lt m n) ≡ true = rw p at e in t)),
)

pub shared_short_iff : {R : Type 0} (m n : ℕ) (b : Bool) → b ≡ false → R ↔ (m < n) → R ↔ ((nat_lt m n || b) ≡ true)
shared_short_iff m n b p iff = (
  λ r. rw (lt-ltb m n (iff.0 r)) refl,
  λ e. iff.1 (ltb-true m n (let t : (nat_lt m n || false) ≡ true = rw p at e in sym (or-false (nat_lt m n)) ∙ t)),
)

-- how the parts of a call came out that were to be changed: all are, or none is
pub record Comes {A : Type 0} (l : Layout) (id : ℕ) (slot : Option ℕ) (h : Changes) (x : Lent A)
    (r : Result (Unit {0}) PoolFault) (y : Lent A) : Type 0 where
  pub vms : OnOk r ((used_in y).vms ≡ vms_by h.slot (used_in x).vms)
  pub shared : OnOk r ((used_in y).shared ≡ with_rows_touched l id slot h (shared_after l.depth h (used_in x).shared))
  pub guest : OnOk r ((used_in y).guest ≡ guest_after l.depth h (used_in x).guest)
  pub err_vms : OnErr r ((used_in y).vms ≡ (used_in x).vms)
  pub err_shared : OnErr r ((used_in y).shared ≡ (used_in x).shared)
  pub err_guest : OnErr r ((used_in y).guest ≡ (used_in x).guest)
  pub no_pool : (r ≡ Err NoPool) ↔ (is_either_short l.depth h (used_in x).shared (used_in x).guest ≡ true)
  pub no_memory : r ≡ Err NoMemoryFault
      → IfSome x.shared (λ s. IsRoomy h s)
      → IfSome x.guest (λ g. WantsNoMemory h g.guest)
      → ⊥

never : {X E : Type 0} {x : X} {e : E} → ◌≡◌ {A = Result X E} (Ok x) (Err e) → ⊥
never e = cc

other : ◌≡◌ {A = Result (Unit {0}) PoolFault} (Err NoMemoryFault) (Err NoPool) → ⊥
other e = cc

module _ {A : Type 0} (l : Layout) (id : ℕ) (slot : Option ℕ) (step : Step) (h : Changes) (x y : Lent A) where
  short_is : is_short l.depth h (used_in x) ≡ is_either_short l.depth h (used_in x).shared (used_in x).guest
  unfolding is_short
  short_is = refl

  enough : (is_either_short l.depth h (used_in x).shared (used_in x).guest ≡ true → ⊥)
      → is_short l.depth h (used_in x) ≡ false
  enough never_short = short_is ∙ not-holds _ never_short

  pub carries : (r : Result (Unit {0}) PoolFault) (reply : Reply)
      → GrowsOnly step h
      → Comes l id slot h x r y
      → Ends r h (cpu_of x.cpu) reply (cpu_of y.cpu)
      → CarriesOut l id slot step true h (used_in x) reply (used_in y)
  carries (Ok u) reply grows c e = inl (record {
    enough = enough (λ few. never (c.no_pool.1 few));
    reply_is = e.0;
    next =
        all_made l h id slot (used_in x).vms (used_in y).vms (used_in x).shared (used_in y).shared (used_in x).guest
        (used_in y).guest (cpu_of x.cpu) (cpu_of y.cpu) c.vms c.shared c.guest e.1;
  })
  carries (Err NoPool) reply grows c e = inr (inl (record {
    short = short_is ∙ c.no_pool.0 refl;
    reply_is = e.0;
    next = same_used _ _ _ _ _ _ _ _ c.err_vms c.err_shared c.err_guest e.1;
  }))
  carries (Err NoMemoryFault) reply grows c e = inr (inr (record {
    enough = enough (λ few. other (c.no_pool.1 few));
    grows = grows_by h step x grows (c.no_memory refl);
    wanted = refl;
    reply_is = e.0;
    next = same_used _ _ _ _ _ _ _ _ c.err_vms c.err_shared c.err_guest e.1;
  }))

-- by what was handed on
pub ok_at : {E P X : Type 0} (r : Result (Unit {0}) E) (f : P → X) (v : X) {a b : P}
    → a ≡ b
    → OnOk r (f b ≡ v)
    → OnOk r (f a ≡ v)
ok_at (Ok u) f v e h = ap f e ∙ h
ok_at (Err x) f v e h = tt

pub err_at : {E P X : Type 0} (r : Result (Unit {0}) E) (f : P → X) (v : X) {a b : P}
    → a ≡ b
    → OnErr r (f b ≡ v)
    → OnErr r (f a ≡ v)
err_at (Ok u) f v e h = tt
err_at (Err x) f v e h = ap f e ∙ h

pub ends_at : (r : Result (Unit {0}) PoolFault) (h : Changes) (k : Cpu) {a b : Reply} {i j : CpuState}
    → a ≡ b
    → i ≡ j
    → Ends r h k b (cpu_of j)
    → Ends r h k a (cpu_of i)
ends_at r h k {a} {b} {i} {j} e f ends =
    subst (λ (x : CpuState). Ends r h k a (cpu_of x)) (sym f)
    (subst (λ (x : Reply). Ends r h k x (cpu_of j)) (sym e) ends)

-- memory was wanted where that is told
pub told_memory : (r : Result (Unit {0}) PoolFault) (h : Changes) (k j : Cpu) (reply : Reply)
    → Ends r h k reply j
    → reply ≡ Refused NoMemory
    → r ≡ Err NoMemoryFault
told_memory (Ok u) h k j reply e told = absurd (let clash = sym e.0 ∙ told in cc)
told_memory (Err NoPool) h k j reply e told = absurd (let clash = sym e.0 ∙ told in cc)
told_memory (Err NoMemoryFault) h k j reply e told = refl

slots_stay : (h : Changes) → h.slot ≡ KeepSlots → no_vms ≡ vms_by h.slot no_vms
slots_stay h e = sym (ap (λ c. vms_by c no_vms) e)

never_iff : {m n : ℕ} → nat_lt m n ≡ false → (◌≡◌ {A = Result (Unit {0}) PoolFault} (Ok tt) (Err NoPool)) ↔ (m < n)
never_iff {m} {n} e =
    (λ o. absurd (never o), λ less. let yes = lt-ltb m n less in absurd (let clash = sym yes ∙ e in cc))

module _ {A : Type 0} (l : Layout) (id : ℕ) (slot : Option ℕ) (h : Changes) where
  -- of the Shared part alone
  pub comes_shared : (s t : SharedPart A) (k j : CpuState) (r : Result (Unit {0}) PoolFault)
      → h.slot ≡ KeepSlots
      → LeavesGuest h
      → OnOk r (shared_of t ≡ with_rows_touched l id slot h (shared_after l.depth h (shared_of s)))
      → OnErr r (shared_of t ≡ shared_of s)
      → (r ≡ Err NoPool) ↔ (length (shared_of s).free < shared_need l.depth h (shared_of s))
      → (r ≡ Err NoMemoryFault → IsRoomy h s → ⊥)
      → Comes l id slot h (lent_shared s k) r (lent_shared t j)
  comes_shared s t k j r vms guest made err short memory = record {
    vms = always_ok r (slots_stay h vms);
    shared = made;
    guest = always_ok r (sym (guest_same l.depth h no_guest guest));
    err_vms = always_err r refl;
    err_shared = err;
    err_guest = always_err r refl;
    no_pool = shared_short_iff _ _ _ (guest_short l.depth h guest) short;
    no_memory = λ e roomy ready. memory e roomy;
  }

  -- of a guest alone
  pub comes_guest : (g p : GuestPart A) (k j : CpuState) (r : Result (Unit {0}) PoolFault)
      → h.slot ≡ KeepSlots
      → LeavesShared h
      → OnOk r (guest_held p ≡ guest_after l.depth h (guest_held g))
      → OnErr r (guest_held p ≡ guest_held g)
      → (r ≡ Err NoPool) ↔ (length (guest_held g).free < guest_need l.depth h (guest_held g))
      → (r ≡ Err NoMemoryFault → WantsNoMemory h g.guest → ⊥)
      → Comes l id slot h (lent_guest g k) r (lent_guest p j)
  comes_guest g p k j r vms shared made err short memory = record {
    vms = always_ok r (slots_stay h vms);
    shared = always_ok r (none_made l h shared id slot);
    guest = made;
    err_vms = always_err r refl;
    err_shared = always_err r refl;
    err_guest = err;
    no_pool = guest_short_iff _ _ _ (none_short l h shared) short;
    no_memory = λ e roomy ready. memory e ready;
  }

  -- of both
  pub comes_both : (s t : SharedPart A) (g p : GuestPart A) (k j : CpuState) (r : Result (Unit {0}) PoolFault)
      → h.slot ≡ KeepSlots
      → OnOk r (shared_of t ≡ with_rows_touched l id slot h (shared_after l.depth h (shared_of s)))
      → OnErr r (shared_of t ≡ shared_of s)
      → OnOk r (guest_held p ≡ guest_after l.depth h (guest_held g))
      → OnErr r (guest_held p ≡ guest_held g)
      → (r ≡ Err NoPool) ↔ (is_either_short l.depth h (shared_of s) (guest_held g) ≡ true)
      → (r ≡ Err NoMemoryFault → IsRoomy h s → WantsNoMemory h g.guest → ⊥)
      → Comes l id slot h (lent_both s g k) r (lent_both t p j)
  comes_both s t g p k j r vms made err made_guest err_guest short memory = record {
    vms = always_ok r (slots_stay h vms);
    shared = made;
    guest = made_guest;
    err_vms = always_err r refl;
    err_shared = err;
    err_guest = err_guest;
    no_pool = short;
    no_memory = memory;
  }

  -- of the VM part, which always can be
  pub comes_vms : (v w : VmPart) (k j : CpuState)
      → LeavesShared h
      → LeavesGuest h
      → vm_slots w ≡ vms_by h.slot (vm_slots v)
      → Comes {A = A} l id slot h (lent_vms v k) (Ok tt) (lent_vms w j)
  comes_vms v w k j shared guest made = record {
    vms = made;
    shared = none_made l h shared id slot;
    guest = sym (guest_same l.depth h no_guest guest);
    err_vms = tt;
    err_shared = tt;
    err_guest = tt;
    no_pool = shared_short_iff _ _ _ (guest_short l.depth h guest) (never_iff (none_short l h shared));
    no_memory = λ e roomy ready. never e;
  }

-- what a step changes is of parts that it uses
pub leaves_shared : (n : Names) (slot : Option ℕ) (h : Changes)
    → OnlyUses n slot h
    → uses_shared n slot ≡ false
    → LeavesShared h
leaves_shared n slot h only e = record { host = only.host e; hyp = only.hyp e; moved = only.moved e }

pub leaves_guest : (n : Names) (slot : Option ℕ) (h : Changes) → OnlyUses n slot h → slot ≡ None → LeavesGuest h
leaves_guest n slot h only e = record { guest = only.guest e; part = only.part e }
