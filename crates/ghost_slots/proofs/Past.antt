-- Past the lists' ends slots are vacant, guests Empty, and CPUs have nothing.
use Rattle.std.proofs.Common.{◌≡◌, ℕ, zero, suc, ◌+◌, ◌≤◌, ◌<◌, List, [], ◌∷◌, map, length, get_or, Option, Some, None, refl, sym, ap, subst, ◌∙◌, arith}
use Rattle.page_state.proofs.Cases.{by_lt}
use Rattle.reference_model.specs.model.State.{Contents, Cpu, Guest, Slot, no_cpu, no_guest, no_slot, empty, vacant, reserved, opened, closing}
use Rattle.reference_model.specs.help.Conditions.{SlotsFit}
use Rattle.reference_model.specs.claims.Sound.{HasLoaded, HasTicket, IsOne}
use Rattle.ghost_spec.specs.declared.lists.GhostLists.{GhostLists}
use Rattle.ghost_spec.specs.States.{contents_in, guest_in, slot_in, IsKept}
use Rattle.ghost_spec.specs.Views.{cpu_in}
use Rattle.ghost_slots.specs.Faults.{CpuFits, SlotFits, VcpuFits, VcpuOn}
use Rattle.ghost_slots.specs.Tickets.{HasNoTicketFrom, IsFirstTicket}
use Rattle.ghost_slots.proofs.Agreeing.{slots-fit}

past : {X Y : Type 0} (f : X → Y) (xs : List X) (n : ℕ) (d : Y) → length xs ≤ n → get_or (map f xs) n d ≡ d
past f [] n d h = refl
past f (x ∷ xs) zero d h = absurd (omega (arith, h))
past f (x ∷ xs) (suc n) d h = past f xs n d (omega (arith, h))

pub past_end : (xs : List (Option ℕ)) (n : ℕ) → length xs ≤ n → get_or xs n None ≡ None
past_end [] n h = refl
past_end (x ∷ xs) zero h = absurd (omega (arith, h))
past_end (x ∷ xs) (suc n) h = past_end xs n (omega (arith, h))

module _ (g : GhostLists) (kept : IsKept g) where
  pub past-cpu : (c : ℕ) → g.layout.config.cpus ≤ c → (contents_in g).cpu c ≡ no_cpu
  past-cpu c h = let n = kept.cpus_count in past cpu_in g.cpus.items c no_cpu (omega (arith, h, n))

  past-slot : (v : ℕ) → 64 ≤ v → (contents_in g).vms.slot v ≡ no_slot 1
  past-slot v h = let n = kept.vms_count in past slot_in g.vms.items v (no_slot 1) (omega (arith, h, n))

  past-guest : (v : ℕ) → 64 ≤ v → (contents_in g).guest v ≡ no_guest
  past-guest v h = let n = kept.guests_count in past guest_in g.guests.items v no_guest (omega (arith, h, n))

  pub no-load : (c v i : ℕ) → g.layout.config.cpus ≤ c → HasLoaded (contents_in g) v i c → ⊥
  no-load c v i h l = let e : None ≡ Some l.0 = sym (ap (λ (k : Cpu). k.loaded) (past-cpu c h)) ∙ l.1 in cc

  pub no-ticket : (c v : ℕ) → g.layout.config.cpus ≤ c → HasTicket (contents_in g) v c → ⊥
  no-ticket c v h l = let e : None ≡ Some l.0 = sym (ap (λ (k : Cpu). k.ticket) (past-cpu c h)) ∙ l.1 in cc

  cpu-past : (c : ℕ) → g.layout.config.cpus ≤ c → CpuFits (contents_in g) c
  cpu-past c h =
      let p = past-cpu c h in
      record {
        load = λ k e. let no : None ≡ Some k = sym (ap (λ (k : Cpu). k.loaded) p) ∙ e in cc;
        hand = λ r e. let no : None ≡ Some r = sym (ap (λ (k : Cpu). k.hand) p) ∙ e in cc;
        ticket = λ t e. let no : None ≡ Some t = sym (ap (λ (k : Cpu). k.ticket) p) ∙ e in cc;
      }

  pub all-cpus : (n : ℕ)
      → g.layout.config.cpus ≤ n
      → ((c : ℕ) → c < n → CpuFits (contents_in g) c)
      → (c : ℕ)
      → CpuFits (contents_in g) c
  all-cpus n far h c = by_lt c n (λ l. h c l) (λ l. cpu-past c (omega (arith, far, l)))

  slot-past : (v : ℕ) → 64 ≤ v → SlotFits (contents_in g) v
  slot-past v h =
      let p = past-slot v h in
      let stand : ((contents_in g).vms.slot v).stand ≡ vacant = ap (λ (x : Slot). x.stand) p in
      let phase : ((contents_in g).guest v).phase ≡ empty = ap (λ (x : Guest). x.phase) (past-guest v h) in
      record {
        vcpus = λ i c e. let no : None ≡ Some c = sym (ap (λ (x : Slot). x.loaded i) p) ∙ e in cc;
        guest = record {
          open_live = λ e. let no : vacant ≡ opened = sym stand ∙ e in cc;
          vacant_empty = λ e. phase;
          same_vm = λ n. absurd (n phase);
        };
        tickets = record {
          reserved_once = λ e. let no : vacant ≡ reserved = sym stand ∙ e in cc;
          closing_once = λ e. let no : vacant ≡ closing = sym stand ∙ e in cc;
        };
      }

  pub all-slots : (n : ℕ)
      → 64 ≤ n
      → ((c : ℕ) → CpuFits (contents_in g) c)
      → ((v : ℕ) → v < n → SlotFits (contents_in g) v)
      → SlotsFit (contents_in g)
  all-slots n far cpus h =
      slots-fit (contents_in g) cpus (λ v. by_lt v n (λ l. h v l) (λ l. slot-past v (omega (arith, far, l))))
      (λ v l. ap (λ (x : Slot). x.stand) (past-slot v l))

-- a slot's vCPUs by its list
pub vcpu-at : (g : GhostLists) (v i : ℕ) (xs : List (Option ℕ)) (slot : Slot)
    → slot ≡ (contents_in g).vms.slot v
    → slot.loaded i ≡ get_or xs i None
    → VcpuOn (contents_in g) v i (get_or xs i None)
    → VcpuFits (contents_in g) v i
vcpu-at g v i xs slot a b h = subst (VcpuOn (contents_in g) v i) (sym b ∙ ap (λ (x : Slot). x.loaded i) a) h

pub vcpu-of : (g : GhostLists) (v i : ℕ) (xs : List (Option ℕ)) (slot : Slot)
    → slot ≡ (contents_in g).vms.slot v
    → slot.loaded i ≡ get_or xs i None
    → VcpuFits (contents_in g) v i
    → VcpuOn (contents_in g) v i (get_or xs i None)
vcpu-of g v i xs slot a b h = subst (VcpuOn (contents_in g) v i) (sym (ap (λ (x : Slot). x.loaded i) a) ∙ b) h

pub vcpu-past : (g : GhostLists) (v i : ℕ) (xs : List (Option ℕ))
    → length xs ≤ i
    → VcpuOn (contents_in g) v i (get_or xs i None)
vcpu-past g v i xs h = λ c e. let no : None ≡ Some c = sym (past_end xs i h) ∙ e in cc

-- tickets of a slot

pub one-ticket : (s : Contents) (n v c : ℕ)
    → IsFirstTicket s n v 0 c
    → HasNoTicketFrom s v (c + 1)
    → IsOne (HasTicket s v)
one-ticket s n v c f h = (
  c,
  f.has,
  λ y t. by_lt y c (λ l. absurd (f.none y (omega arith) l t))
      (λ l. by_lt c y (λ m. absurd (h y (omega (arith, m)) t)) (λ m. omega (arith, l, m))),
)

pub two-tickets : (s : Contents) (n m v c d : ℕ)
    → IsFirstTicket s n v 0 c
    → IsFirstTicket s m v (c + 1) d
    → IsOne (HasTicket s v)
    → ⊥
two-tickets s n m v c d f g o =
    let a : c ≡ o.0 = o.2 c f.has in
    let b : d ≡ o.0 = o.2 d g.has in
    let low = g.low in
    omega (arith, a, b, low)
