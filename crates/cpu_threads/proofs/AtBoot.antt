-- A machine that boots begins with no call.
use Rattle.std.proofs.Common.{◌≡◌, ◌∙◌, ℕ, zero, suc, ◌+◌, ◌<◌, List, [], ◌∷◌, length, map, slice_get, Option, Some, None, refl, sym, ap, arith}
use Rattle.std.specs.Prelude.{slice_index_or}
use Rattle.page_state.specs.declared.layout.Config.{Config}
use Rattle.page_state.specs.Layouts.{Layout}
use Rattle.page_state.specs.Regions.{Memory}
use Rattle.call_table.specs.declared.reply.Call.{Call}
use Rattle.reference_model.specs.model.Boot.{boot, booted}
use Rattle.reference_model.specs.model.State.{Cpu, Reference, no_cpu}
use Rattle.part_types.specs.declared.parts.CpuState.{CpuState}
use Rattle.part_types.specs.declared.parts.GuestPart.{GuestPart}
use Rattle.part_types.specs.Logs.{IsOfSize}
use Rattle.part_types.specs.View.{cpu_of}
use Rattle.hypercalls.specs.declared.parts.Parts.{Parts}
use Rattle.hypercalls.specs.Booted.{IsBooted}
use Rattle.hypercalls.specs.Stands.{at_place, parts_layout}
use Rattle.hypercalls.proofs.Lends.{all_get}
use Rattle.page_state.specs.declared.layout.Layout.{Layout as TheLayout}
use Rattle.part_table.specs.declared.rule.Begun.{Begun}
use Rattle.part_table.specs.declared.slot.Slot.{Slot}
use Rattle.part_table.specs.declared.slot.Slot.TheVariants.{Guest as GuestSlot}
use Rattle.part_table.specs.Known.{own_at_boot}
use Rattle.part_table.specs.Parts.{log_of, parts}
use Rattle.part_table.specs.Beginnings.{no_own, own_in}
use Rattle.part_table.specs.Slots.{slots_of}
use Rattle.part_table.proofs.Left.{there}
use Rattle.part_table.proofs.Lists.{or_of_get}
use Rattle.cpu_threads.specs.Machines.{BeginsAtBoot, IsMachineOf, Machine, begun_of}

-- a CPU's own state, by what it stands for and its log
own_same : (k : CpuState) (limit cpu : ℕ)
    → k.id ≡ cpu
    → cpu_of k ≡ no_cpu
    → k.log.calls ≡ []
    → k.log.room ≡ limit
    → k ≡ record { id = cpu; loaded = None; hand = None; ticket = None; log = record { calls = []; room = limit } }
own_same k limit cpu own e calls room =
    λ i. record {
      id = own i;
      loaded = (e i).loaded;
      hand = (e i).hand;
      ticket = (e i).ticket;
      log = record { calls = calls i; room = room i };
    }

module _ {A : Type 0} where
  -- guests whose logs are empty
  none_at : (gs : List (GuestPart A)) (j : ℕ)
      → ((v : ℕ) (g : GuestPart A) → slice_get gs v ≡ Some g → g.log.calls ≡ [])
      → slice_index_or (map (λ (x : Slot A). (log_of x).calls) (map (λ (g : GuestPart A). GuestSlot g) gs)) j [] ≡ []
  none_at [] j empty = refl
  none_at (g ∷ gs) zero empty = empty 0 g refl
  none_at (g ∷ gs) (suc j) empty = none_at gs j (λ v h e. empty (suc v) h e)

  module _ (m : Memory) (c : Config) (p : Parts A) (is : IsBooted m c p) where
    abbrev l : Layout
    l = parts_layout p

    guest_empty : (v : ℕ) (g : GuestPart A) → slice_get p.guests.items v ≡ Some g → g.log.calls ≡ []
    guest_empty v g e = sym (ap (at_place [] (λ (w : GuestPart A). w.log.calls)) e) ∙ is.no_calls.guests v

    logs_empty : (k : ℕ) → slice_index_or (begun_of p).logs k [] ≡ []
    logs_empty zero = is.no_calls.vms
    logs_empty (suc zero) = is.no_calls.shared
    logs_empty (suc (suc j)) = none_at p.guests.items j guest_empty

    idle : (boot l).contents.cpu ≡ (λ c. no_cpu)
    unfolding booted
    idle = refl

    -- the room of a log that has no calls
    empty_room : (k : CpuState) → k.log.calls ≡ [] → IsOfSize l.config.log k.log → k.log.room ≡ l.config.log
    empty_room k e size = let n = ap length e in omega (arith, n, size)

    own : (n : ℕ) (k : CpuState) → slice_get p.cpus.items n ≡ Some k → k ≡ own_at_boot p.layout n
    own n k e =
        let calls : k.log.calls ≡ [] = sym (ap (at_place [] (λ (j : CpuState). j.log.calls)) e) ∙ is.no_calls.cpus n in
        let size : IsOfSize l.config.log k.log =
        all_get (λ (j : CpuState). IsOfSize l.config.log j.log) p.cpus.items n k p.own_logs e in
        let content : cpu_of k ≡ no_cpu =
        sym (ap (at_place no_cpu cpu_of) e) ∙ sym (ap (λ (u : Reference). u.contents.cpu n) is.stands)
        ∙ ap (λ (f : ℕ → Cpu). f n) idle in
        own_same k l.config.log n (p.numbers n k e) content calls (empty_room k calls size)

    own_first : (n : ℕ) → n < p.layout.config.cpus → own_in (begun_of p) n ≡ own_at_boot p.layout n
    own_first n below =
        let k = there p.cpus.items n (omega (arith, below, p.counted, p.cpus.ok.0)) in
        or_of_get p.cpus.items n no_own k.0 k.1 ∙ own n k.0 k.1

    pub begins_at_boot : (it : Machine) → IsMachineOf p it → BeginsAtBoot it.table
    begins_at_boot it made = record {
      logs = λ k below. ap (λ (b : Begun). slice_index_or b.logs k []) made.begun ∙ logs_empty k;
      owns = λ n below.
          let less : n < p.layout.config.cpus = let same = ap (λ (x : TheLayout). x.config.cpus) made.layout in
          omega (arith, below, same) in
          ap (λ (b : Begun). own_in b n) made.begun ∙ own_first n less
          ∙ ap (λ (x : TheLayout). own_at_boot x n) (sym made.layout);
    }
