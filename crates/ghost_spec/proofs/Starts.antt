-- The state at boot, on lists.
use Rattle.std.proofs.Common.{◌≡◌, ℕ, zero, suc, ◌<◌, Bool, true, false, List, [], ◌∷◌, Option, Some, None, All, length, map, get_or, refl, sym, ap, subst, ◌∙◌, arith}
use mathlib.Core.Path.{fun_ext}
use Rattle.page_state.specs.declared.layout.Region.{Region}
use Rattle.page_state.specs.declared.row.Row.{Row}
use Rattle.page_state.specs.Layouts.{Layout, is_memory}
use Rattle.page_state.specs.Regions.{Memory, is_in_range, region_of, is_memory_region, has_memory}
use Rattle.page_state.proofs.Common.{same2}
use Rattle.page_state.proofs.Regions.{found-in, find-holds}
use Rattle.reference_model.specs.model.Boot.{boot, booted, boot_shared, boot_without_rows}
use Rattle.reference_model.specs.model.Owner.{row_of}
use Rattle.reference_model.specs.model.State.{Slot, Vms, Shared, Cpu, Contents, no_vms, no_slot, no_guest, no_cpu, plain_row}
use Rattle.ghost_spec.specs.declared.shared.Shared.{Shared as SharedOfLists}
use Rattle.ghost_spec.specs.declared.lists.GhostLists.{GhostLists}
use Rattle.ghost_spec.specs.RowsFound.{row_found}
use Rattle.ghost_spec.specs.States.{slot_in, guest_in, ghost_state}
use Rattle.ghost_spec.specs.Views.{cpu_in, row_in, shared_in_lists}
use Rattle.ghost_spec.proofs.RowsAgain.{alone, row-is}
use Rattle.ghost_spec.proofs.Predictions.{put-own, state-same}

-- the region of a memory frame, and its place
pub record HasRegion (m : Memory) (f : ℕ) : Type 0 where
  pub region : Region
  pub place : ℕ
  pub within : place < length m.regions
  pub holds : is_in_range (get_or m.regions place region).pages f ≡ true

pub region-of-memory : (m : Memory) (f : ℕ) → has_memory m f ≡ true → HasRegion m f
region-of-memory m f h = go (region_of m f) refl h
  where
    go : (o : Option Region) → region_of m f ≡ o → is_memory_region o ≡ true → HasRegion m f
    go None e t = cc
    go (Some r) e t =
        let at = found-in m.regions f r e in
        record {
          region = r;
          place = at.0;
          within = at.1;
          holds = subst (λ (q : Region). is_in_range q.pages f ≡ true) (sym at.2) (find-holds m.regions f r e);
        }

-- lists of which each item stands for the same
pub all-same : {X Y : Type 0} (g : X → Y) (d : Y) (xs : List X)
    → All (λ x. g x ≡ d) xs
    → (i : ℕ)
    → get_or (map g xs) i d ≡ d
all-same g d [] h i = refl
all-same g d (x ∷ xs) h zero = h 0 x (omega arith)
all-same g d (x ∷ xs) h (suc i) = all-same g d xs (λ k e less. h (suc k) e (omega (arith, less))) i

pub all-equal : (d : ℕ) (xs : List ℕ) → All (λ n. n ≡ d) xs → (i : ℕ) → get_or xs i d ≡ d
all-equal d [] h i = refl
all-equal d (x ∷ xs) h zero = h 0 x (omega arith)
all-equal d (x ∷ xs) h (suc i) = all-equal d xs (λ k e less. h (suc k) e (omega (arith, less))) i

module _ (l : Layout) (some : 0 < l.config.cpus) where
  -- no CPU has anything at boot
  idle : alone l no_vms (boot_shared l) None tt no_guest 0 no_cpu 0 ≡ boot_without_rows l
  idle = ap (λ (k : ℕ → Cpu). with-cpus k) (put-own (λ c. no_cpu) 0)
    where
      with-cpus : (ℕ → Cpu) → Contents
      with-cpus k = record { vms = no_vms; shared = boot_shared l; guest = λ v. no_guest; cpu = k }

  boot-row : (f : ℕ) → row_found l (boot_shared l) None no_guest f 0 no_cpu ≡ row_of l (boot_without_rows l) f
  boot-row f =
      sym (row-is l no_vms (boot_shared l) None tt no_guest 0 no_cpu f some) ∙ ap (λ (s : Contents). row_of l s f) idle

  with-row : (ℕ → Row) → Shared
  with-row row =
      record { host = (boot_shared l).host; hyp = (boot_shared l).hyp; free = (boot_shared l).free; row = row }

  abbrev picked : Bool → Row → Row → Row
  picked b x y = elim b [ true ↦ x | false ↦ y ]

  found-rows : ℕ → Row
  found-rows f = picked (is_memory l f) (row_of l (boot_without_rows l) f) plain_row

  keep-row : Shared → Shared
  keep-row x = record { host = x.host; hyp = x.hyp; free = x.free; row = found-rows }

  booted-is : with-row found-rows ≡ (booted l).shared
  unfolding booted with-row found-rows
  booted-is = refl

  pub shared-booted : (s t : SharedOfLists)
      → shared_in_lists s ≡ boot_shared l
      → t.host ≡ s.host
      → t.hyp ≡ s.hyp
      → t.free ≡ s.free
      → ((f : ℕ)
      → row_in t.rows.runs f
      ≡ elim (is_memory l f)
      [ true ↦ row_found l (shared_in_lists s) None no_guest f 0 no_cpu | false ↦ row_in s.rows.runs f ])
      → shared_in_lists t ≡ (booted l).shared
  unfolding with-row keep-row found-rows
  shared-booted s t e host hyp free rows =
      let row : row_in t.rows.runs ≡ found-rows =
      fun_ext
      (λ f. rows f
      ∙ same2 (picked (is_memory l f))
      (ap (λ (x : Shared). row_found l x None no_guest f 0 no_cpu) e ∙ boot-row f)
      (ap (λ (x : Shared). x.row f) e)) in
      rw (host, hyp, free, row) (ap keep-row e) ∙ booted-is

  pub state-booted : (g : GhostLists)
      → g.layout.config.log ≡ l.config.log
      → All (λ s. slot_in s ≡ no_slot 1) g.vms.items
      → shared_in_lists g.shared ≡ (booted l).shared
      → All (λ v. guest_in v ≡ no_guest) g.guests.items
      → All (λ k. cpu_in k ≡ no_cpu) g.cpus.items
      → g.rooms.vms ≡ l.config.log
      → g.rooms.shared ≡ l.config.log
      → All (λ n. n ≡ l.config.log) g.rooms.guests.items
      → All (λ n. n ≡ l.config.log) g.rooms.cpus.items
      → ghost_state g ≡ boot l
  unfolding booted
  state-booted g log vms shared guests cpus rv rs rg rc =
      state-same (ap slots-of (fun_ext (all-same slot_in (no_slot 1) g.vms.items vms))) shared
      (fun_ext (all-same guest_in no_guest g.guests.items guests))
      (fun_ext (all-same cpu_in no_cpu g.cpus.items cpus))
      rv rs (fun_ext (λ v. rw log (all-equal l.config.log g.rooms.guests.items rg v)))
      (fun_ext (λ v. rw log (all-equal l.config.log g.rooms.cpus.items rc v)))
    where
      slots-of : (ℕ → Slot) → Vms
      slots-of f = record { slot = f }
