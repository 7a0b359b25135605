-- Bounds of the numbers in a state of a run.
use Rattle.std.proofs.Common.{◌≡◌, ℕ, zero, suc, ◌+◌, ◌-◌, ◌≤◌, ◌<◌, refl, ap, sym, ◌∙◌, subst, arith, inl, inr, List, [], ◌∷◌, All}
use Rattle.std.specs.Prelude.{Bool, true, false, not, ◌&&◌, ◌||◌, nat_le, nat_lt, is_some, is_none, unwrap_or, length, drop, Option, Some, None, if◌then◌else◌}
use Rattle.std.proofs.lemmas.Bool.Decides.{nat_tests}
use Rattle.reference_model.specs.declared.changes.Changes.{Changes}
use Rattle.reference_model.specs.declared.changes.SlotChange.{SlotChange}
use Rattle.reference_model.specs.declared.changes.SlotChange.TheVariants.{Keep as KeepSlots, Reserve, Open, Close, Release, Load, Unload}
use Rattle.reference_model.specs.declared.changes.Stage.TheVariants.{Booked, Finished}
use Rattle.reference_model.specs.declared.changes.Ticket.{Ticket}
use Rattle.reference_model.specs.declared.changes.Update.{Update}
use Rattle.reference_model.specs.declared.changes.Update.TheVariants.{Keep, Becomes}
use Rattle.page_state.specs.declared.entry.PageRange.{PageRange}
use Rattle.call_table.specs.declared.reply.Call.{Call}
use Rattle.call_table.specs.declared.reply.Refusal.TheVariants.{NoMemory}
use Rattle.call_table.specs.declared.step.Step.{Step}
use Rattle.call_table.specs.declared.step.Step.TheVariants.{Fund, ShareGuest, UnshareGuest, DonateGuest, GuestShareHost, GuestUnshareHost, Install, Topup, ReclaimPage, GuestRelax, VmReserve, VcpuLoad, VmRelease}
use Rattle.call_table.specs.declared.step.VmId.{VmId}
use Rattle.page_state.specs.Trees.{frames_from, root_tree, Block, Tree, Pool}
use Rattle.reference_model.specs.model.Boot.{boot, booted}
use Rattle.reference_model.specs.claims.Bounds.{Bounded, BoundedKeeps, RunBounded}
use Rattle.reference_model.specs.declared.changes.GuestChange.{GuestChange}
use Rattle.reference_model.specs.declared.changes.GuestChange.TheVariants.{Keep as KeepGuest, Install as Begin, Gain as Grow, LoseLowest, Die, Empty}
use Rattle.reference_model.specs.model.Changes.{updated, vms_by, cpu_by, guest_by, edit_of, rest, frames_in}
use Rattle.page_state.specs.Geometries.{pages_below}
use Rattle.reference_model.specs.model.SharedRules.{hand_of, no_range}
use Rattle.page_state.specs.Tables.{Edit, need, returned, edited, given, all_given}
use Rattle.reference_model.proofs.Frames.{count_blocks-none}
use Rattle.reference_model.proofs.conditions.Conserved.{length-drop}
use Rattle.reference_model.proofs.conditions.PageSteps.{good-page}
use Rattle.reference_model.proofs.conditions.PoolSteps.{root_block, root-inside, root-none, root-here}
use Rattle.reference_model.proofs.conditions.Tables.{some_of, some-put, edited-some}
use Rattle.reference_model.specs.help.Conditions.{Legal, IsUsable, one}
use Rattle.reference_model.specs.model.GuestRules.{ticket_vm, guest_table_count, are_good_pages}
use Rattle.page_state.specs.Layouts.{Layout, is_memory, is_good_range, is_good_page}
use Rattle.reference_model.specs.model.Parts.{lacks_slot, uses_vms, has_stage, is_good_vm}
use Rattle.reference_model.specs.model.Rules.{rule, names}
use Rattle.reference_model.specs.model.Rule.{Rule}
use Rattle.reference_model.specs.model.Run.{Runs}
use Rattle.page_state.specs.Search.{all_below}
use Rattle.reference_model.specs.model.State.{Guest, no_guest, Cpu, Slot, Vms, vacant, reserved, opened, closing, Contents, Rooms, Reference, put_at, no_vms, no_slot}
use Rattle.reference_model.specs.model.Step.{guest_need, guest_after, fails, made, changed, with_rows, used_by, Steps}
use Rattle.reference_model.specs.model.Used.{Used, used_of, put_back, guest_at, put_guest}
use Rattle.reference_model.specs.model.VmRules.{vacant_slot, stand_eq}
use Rattle.page_state.proofs.Common.{both, and-both, if-true, if-false, and-right}
use Rattle.coarse_trees.specs.Coarsest.{IsInRange}
use Rattle.reference_model.proofs.RoomLaws.{stored_falls}
use Rattle.reference_model.proofs.Steps.{refusal_keeps, log_full_keeps, answered-room}
use Rattle.reference_model.proofs.conditions.BootLegal.{boot_legal}
use Rattle.reference_model.proofs.conditions.Keeps.{legal_keeps}
use Rattle.reference_model.proofs.conditions.RunsLegal.{ready-usable}
use Rattle.reference_model.proofs.conditions.RangeMoves.{good-range, good-pages, hand-some}
use Rattle.reference_model.proofs.conditions.Tests.{Passed, passed}
use Rattle.reference_model.proofs.conditions.Slots.{put-fact, ticket-told}
use Rattle.reference_model.proofs.conditions.VmSteps.{has_stage-is, stand_eq-same, first-spec, some-is}

-- what a rule's changes keep of the bounds

ModestSlot : Vms → SlotChange → Type 0
ModestSlot z (Reserve v kind n) = (n ≤ 8) × ((i c : ℕ) → (z.slot v).loaded i ≡ Some c → ⊥)
ModestSlot z (Release vm) = (z.slot vm.slot).generation ≡ vm.generation
ModestSlot z (Load v i c) = i < (z.slot v).vcpus
ModestSlot z other = Unit {0}

ModestHand : Update (Option PageRange) → Type 0
ModestHand (Becomes (Some r)) = r.count ≤ 512
ModestHand other = Unit {0}

-- the slots after a modest change

grown : (z : Vms) (h : SlotChange)
    → ModestSlot z h
    → (v : ℕ)
    → ((vms_by h z).slot v).generation ≤ (z.slot v).generation + 1
unfolding ModestSlot
grown z KeepSlots m = λ v. omega arith
grown z (Reserve u kind n) m =
    put-fact (λ v (y : Slot). y.generation ≤ (z.slot v).generation + 1) z.slot u
    (record (z.slot u) { stand = reserved; kind = kind; vcpus = n }) (omega arith) (λ v e. omega arith)
grown z (Open u) m =
    put-fact (λ v (y : Slot). y.generation ≤ (z.slot v).generation + 1) z.slot u (record (z.slot u) { stand = opened })
    (omega arith) (λ v e. omega arith)
grown z (Close u) m =
    put-fact (λ v (y : Slot). y.generation ≤ (z.slot v).generation + 1) z.slot u
    (record (z.slot u) { stand = closing }) (omega arith) (λ v e. omega arith)
grown z (Release vm) m =
    put-fact (λ v (y : Slot). y.generation ≤ (z.slot v).generation + 1) z.slot vm.slot (no_slot (vm.generation + 1))
    (omega arith) (λ v e. omega arith)
grown z (Load u i c) m =
    put-fact (λ v (y : Slot). y.generation ≤ (z.slot v).generation + 1) z.slot u
    (record (z.slot u) { loaded = put_at (z.slot u).loaded i (Some c) }) (omega arith) (λ v e. omega arith)
grown z (Unload u i) m =
    put-fact (λ v (y : Slot). y.generation ≤ (z.slot v).generation + 1) z.slot u
    (record (z.slot u) { loaded = put_at (z.slot u).loaded i None }) (omega arith) (λ v e. omega arith)

-- at most 8 vCPUs, and those loaded are of them
record SlotBound (y : Slot) : Type 0 where
  vcpus : y.vcpus ≤ 8
  loads : (i c : ℕ) → y.loaded i ≡ Some c → i < y.vcpus

some-none : {P : Type 0} {a : ℕ} → None ≡ Some a → P
some-none h = cc

loaded-at : (old : ℕ → Option ℕ) (i n : ℕ) (new : Option ℕ)
    → ((j c : ℕ) → old j ≡ Some c → j < n)
    → ((c : ℕ) → new ≡ Some c → i < n)
    → (j c : ℕ)
    → put_at old i new j ≡ Some c
    → j < n
loaded-at old i n new h k = put-fact (λ j (o : Option ℕ). (c : ℕ) → o ≡ Some c → j < n) old i new k (λ j e. h j)

bound : (z : Vms) (h : SlotChange)
    → ModestSlot z h
    → ((v : ℕ) → SlotBound (z.slot v))
    → (v : ℕ)
    → SlotBound ((vms_by h z).slot v)
unfolding ModestSlot
bound z KeepSlots m b = b
bound z (Reserve u kind n) m b =
    put-fact (λ v (y : Slot). SlotBound y) z.slot u (record (z.slot u) { stand = reserved; kind = kind; vcpus = n })
    (record { vcpus = m.0; loads = λ i c e. absurd (m.1 i c e) }) (λ v e. b v)
bound z (Open u) m b =
    put-fact (λ v (y : Slot). SlotBound y) z.slot u (record (z.slot u) { stand = opened })
    (record { vcpus = (b u).vcpus; loads = (b u).loads }) (λ v e. b v)
bound z (Close u) m b =
    put-fact (λ v (y : Slot). SlotBound y) z.slot u (record (z.slot u) { stand = closing })
    (record { vcpus = (b u).vcpus; loads = (b u).loads }) (λ v e. b v)
bound z (Release vm) m b =
    put-fact (λ v (y : Slot). SlotBound y) z.slot vm.slot (no_slot (vm.generation + 1))
    (record { vcpus = omega arith; loads = λ i c e. some-none e }) (λ v e. b v)
bound z (Load u i d) m b =
    put-fact (λ v (y : Slot). SlotBound y) z.slot u
    (record (z.slot u) { loaded = put_at (z.slot u).loaded i (Some d) })
    (record {
      vcpus = (b u).vcpus;
      loads = loaded-at (z.slot u).loaded i (z.slot u).vcpus (Some d) (b u).loads (λ c e. m);
    })
    (λ v e. b v)
bound z (Unload u i) m b =
    put-fact (λ v (y : Slot). SlotBound y) z.slot u (record (z.slot u) { loaded = put_at (z.slot u).loaded i None })
    (record {
      vcpus = (b u).vcpus;
      loads = loaded-at (z.slot u).loaded i (z.slot u).vcpus None (b u).loads (λ c e. some-none e);
    })
    (λ v e. b v)

hand-bound : (h : Update (Option PageRange)) (old : Option PageRange)
    → ModestHand h
    → ((r : PageRange) → old ≡ Some r → r.count ≤ 512)
    → (r : PageRange)
    → updated h old ≡ Some r
    → r.count ≤ 512
unfolding ModestHand
hand-bound Keep old m b r e = b r e
hand-bound (Becomes (Some q)) old m b r e = let same : q ≡ r = cc in subst (λ (x : PageRange). x.count ≤ 512) same m
hand-bound (Becomes None) old m b r e = cc

-- how many frames a guest holds
abbrev frames : Layout → Guest → ℕ
frames l g = guest_table_count l g.tree + length g.free

ModestPart : GuestChange → ℕ → Type 0
ModestPart (Grow range) n = n + range.count ≤ 512
ModestPart (Begin kind generation hand) n = (1 ≤ hand.count) × (hand.count ≤ 512)
ModestPart other n = Unit {0}

length-given : (f : ℕ) (p : Pool) → length (given f p) ≡ length p + 1
length-given f [] = omega arith
length-given f (g ∷ gs) = elim (both (nat_lt f g)) [
  | inl e ↦
      (let is : length (given f (g ∷ gs)) ≡ length (f ∷ (g ∷ gs)) =
      ap length (if-true (nat_lt f g) (f ∷ (g ∷ gs)) (g ∷ given f gs) e) in
      is ∙ omega arith)
  | inr e ↦
      (let is : length (given f (g ∷ gs)) ≡ length (g ∷ given f gs) =
      ap length (if-false (nat_lt f g) (f ∷ (g ∷ gs)) (g ∷ given f gs) e) in
      let more = length-given f gs in
      is ∙ omega arith)
]

length-all : (fs : List ℕ) (p : Pool) → length (all_given fs p) ≡ length fs + length p
length-all [] p = omega arith
length-all (f ∷ fs) p = let a = length-given f (all_given fs p) in let b = length-all fs p in omega arith

length-frames : (first n : ℕ) → length (frames_from first n) ≡ n
length-frames first zero = refl
length-frames first (suc n) = let e = length-frames (first + 1) n in omega arith

length-rest : (p : Pool) → length (rest p) ≡ length p - 1
length-rest [] = refl
length-rest (f ∷ fs) = omega arith

tables : (l : Layout) (t : Tree) → guest_table_count l t ≡ some_of l.depth t.table
unfolding some_of
tables l t = refl

no-table : Block → Bool
no-table b = let o : Option ℕ = None in is_some o

one-root : (l : Layout) (root : ℕ) → guest_table_count l (root_tree l.depth root) ≡ 1
unfolding some_of no-table
one-root l root =
    let put =
    some-put l.depth (root_block l.depth) (root_tree l.depth root).table (λ b. None) (root-inside l.depth)
    (root-none l.depth root) in
    let nothing : some_of l.depth (λ b. None) ≡ 0 =
    count_blocks-none (l.depth + 1) (l.depth + 1) no-table (λ b. refl) in
    let is : one (is_some ((root_tree l.depth root).table (root_block l.depth))) ≡ 1 =
    ap (λ o. one (is_some o)) (root-here l.depth root) in
    sum (some_of l.depth (root_tree l.depth root).table) (some_of l.depth (λ b. None))
    (one (is_some ((root_tree l.depth root).table (root_block l.depth)))) put nothing is
  where
    sum : (a b c : ℕ) → a + 0 ≡ b + c → b ≡ 0 → c ≡ 1 → a ≡ 1
    sum a b c p q r = omega arith

none-frames : (l : Layout) → frames l no_guest ≡ 0
none-frames l = let e =
    count_blocks-none (l.depth + 1) (l.depth + 1) (λ b. is_some (no_guest.tree.table b)) (λ b. refl) in
    omega arith

-- a guest whose map changed holds as many frames
edited-frames : (l : Layout) (g : Guest) (e : Edit)
    → IsInRange l.depth e
    → need l.depth g.tree e ≤ length g.free
    → frames l
    (record g {
      tree = edited l.depth g.tree e g.free;
      free = all_given (returned l.depth g.tree e) (drop (need l.depth g.tree e) g.free);
    })
    ≡ frames l g
edited-frames l g e range less =
    let a = edited-some l.depth g.tree e g.free range less in
    let b = length-all (returned l.depth g.tree e) (drop (need l.depth g.tree e) g.free) in
    let d = length-drop (need l.depth g.tree e) g.free in
    let p = tables l (edited l.depth g.tree e g.free) in
    let q = tables l g.tree in
    sum (guest_table_count l (edited l.depth g.tree e g.free)) (some_of l.depth (edited l.depth g.tree e g.free).table)
    (guest_table_count l g.tree) (some_of l.depth g.tree.table)
    (length (all_given (returned l.depth g.tree e) (drop (need l.depth g.tree e) g.free)))
    (length (returned l.depth g.tree e)) (length (drop (need l.depth g.tree e) g.free))
    (need l.depth g.tree e) (length g.free) p q a b d less
  where
    sum : (t' s' t s free' r left n free : ℕ)
        → t' ≡ s'
        → t ≡ s
        → s' + r ≡ s + n
        → free' ≡ r + left
        → left ≡ free - n
        → n ≤ free
        → t' + free' ≡ t + free
    sum t' s' t s free' r left n free p q a b d less = omega arith

part-bound : (l : Layout) (h : GuestChange) (g : Guest)
    → ModestPart h (frames l g)
    → frames l g ≤ 512
    → frames l (guest_by l.depth h g) ≤ 512
unfolding ModestPart
part-bound l KeepGuest g m b = b
part-bound l (Begin kind generation hand) g m b =
    let a = one-root l hand.first.0 in
    let c : length (rest (frames_in hand)) ≡ hand.count - 1 =
    length-rest (frames_in hand) ∙ ap (λ n. n - 1) (length-frames hand.first.0 hand.count) in
    let low = m.0 in let high = m.1 in
    omega arith
part-bound l (Grow range) g m b = let a = length-all (frames_in range) g.free in
    let c = length-frames range.first.0 range.count in
    omega arith
part-bound l LoseLowest g m b = let a = length-rest g.free in omega arith
part-bound l Die g m b = b
part-bound l Empty g m b = let a = none-frames l in omega arith

-- each rule is modest in a legal state
record Modest (l : Layout) (x : Used) (h : Changes) : Type 0 where
  slot : ModestSlot x.vms h.slot
  hand : ModestHand h.cpu.hand
  part : ModestPart h.part (frames l x.guest)

page-range : (l : Layout) (g : ℕ) → is_good_page l g ≡ true → g + 1 ≤ pages_below l.depth
page-range l g h = let less = good-page l g h in omega arith

pages-range : (l : Layout) (f g n : ℕ)
    → (is_good_range l f n && are_good_pages l g n) ≡ true
    → g + n ≤ pages_below l.depth
pages-range l f g n h = let a = and-both (is_good_range l f n) (are_good_pages l g n) h in
    good-pages l g n (good-range l f n a.0).0 a.1

pub hand-few : (o : Option PageRange)
    → is_some o ≡ true
    → ((r : PageRange) → o ≡ Some r → r.count ≤ 512)
    → (unwrap_or o no_range).count ≤ 512
hand-few (Some r) h k = k r refl
hand-few None h k = cc

pub good-count : (l : Layout) (f n : ℕ) → is_good_range l f n ≡ true → n ≤ 512
good-count l f n h = go (nat_le 1 n) (nat_le n 512) (all_below n (λ i. is_memory l (f + i))) refl h
  where
    go : (a b c : Bool) → nat_le n 512 ≡ b → (a && b && c) ≡ true → n ≤ 512
    go true true c e k = grind (arith, nat_tests)
    go true false c e k = cc
    go false b c e k = cc

module _ (l : Layout) (s : Contents) (cpu : ℕ) where
  abbrev x_at : Option ℕ → Step → Used
  x_at slot step = used_of (names step) slot cpu s

  abbrev h_at : Option ℕ → Step → Rule
  h_at slot step = rule l cpu slot step (x_at slot step)

  pub pass : (slot : Option ℕ) (step : Step)
      → fails l cpu slot step (x_at slot step) ≡ None
      → Passed l.depth (h_at slot step) (lacks_slot (names step) slot) (x_at slot step)
  unfolding fails
  pass slot step h = passed l.depth (h_at slot step) (lacks_slot (names step) slot) (x_at slot step) h

  -- the pages of a guest's tree that a step changes are pages of a tree
  pub guest-range : (step : Step) (slot : Option ℕ)
      → fails l cpu slot step (x_at slot step) ≡ None
      → IsInRange l.depth (edit_of (h_at slot step).changes.guest)
  unfolding rule used_of
  guest-range (ShareGuest f g p n) o h = pages-range l f g n (pass o (ShareGuest f g p n) h).valid
  guest-range (UnshareGuest vm g) o h =
      page-range l g (and-right (is_good_vm vm) (is_good_page l g) (pass o (UnshareGuest vm g) h).valid)
  guest-range (DonateGuest f g n) o h = pages-range l f g n (pass o (DonateGuest f g n) h).valid
  guest-range (GuestShareHost g) o h = page-range l g (pass o (GuestShareHost g) h).valid
  guest-range (GuestUnshareHost g) o h = page-range l g (pass o (GuestUnshareHost g) h).valid
  guest-range (ReclaimPage vm g) o h =
      page-range l g (and-right (is_good_vm vm) (is_good_page l g) (pass o (ReclaimPage vm g) h).valid)
  guest-range (GuestRelax g p) o h = page-range l g (pass o (GuestRelax g p) h).valid
  guest-range step o h = tt

module _ (l : Layout) (s : Contents) (legal : Legal l s) (cpu : ℕ)
    (hands : (r : PageRange) → (s.cpu cpu).hand ≡ Some r → r.count ≤ 512) where
  held : (t : Ticket)
      → (s.cpu cpu).ticket ≡ Some t
      → (s.vms.slot (ticket_vm (s.cpu cpu)).slot).generation ≡ (ticket_vm (s.cpu cpu)).generation
  held t has =
      subst (λ (vm : VmId). (s.vms.slot vm.slot).generation ≡ vm.generation) (sym (ticket-told (s.cpu cpu) t has).0)
      (sym (legal.slots.agree.tickets.ticket cpu t has).generation)

  released : (a b : Bool)
      → has_stage Booked (s.cpu cpu) ≡ a
      → has_stage Finished (s.cpu cpu) ≡ b
      → (a || b) ≡ true
      → (s.vms.slot (ticket_vm (s.cpu cpu)).slot).generation ≡ (ticket_vm (s.cpu cpu)).generation
  released true b p q h = let t = has_stage-is Booked (s.cpu cpu) p in held t.0 t.1
  released false true p q h = let t = has_stage-is Finished (s.cpu cpu) q in held t.0 t.1
  released false false p q h = cc

  none-loaded : is_some (vacant_slot s.vms) ≡ true
      → (i c : ℕ)
      → (s.vms.slot (unwrap_or (vacant_slot s.vms) 0)).loaded i ≡ Some c
      → ⊥
  none-loaded free i c e =
      let v = unwrap_or (vacant_slot s.vms) 0 in
      let found = first-spec 0 64 v (λ u. stand_eq (s.vms.slot u).stand vacant) (some-is (vacant_slot s.vms) free) in
      let stands : (s.vms.slot v).stand ≡ vacant = stand_eq-same (s.vms.slot v).stand vacant found.0 in
      let bad : vacant ≡ opened = sym stands ∙ (legal.slots.agree.loads.loads v i c e).0 in cc

  at-least : (m n : ℕ) → nat_lt n m ≡ true → n < m
  at-least m n h = grind (arith, nat_tests)

  at-most : (m n : ℕ) → nat_le n m ≡ true → n ≤ m
  at-most m n h = grind (arith, nat_tests)

  few : (n : ℕ) → (nat_le 1 n && nat_le n 8) ≡ true → n ≤ 8
  few n h = let t = and-right (nat_le 1 n) (nat_le n 8) h in grind (arith, nat_tests)

  modest : (step : Step) (slot : Option ℕ)
      → fails l cpu slot step (x_at l s cpu slot step) ≡ None
      → Modest l (x_at l s cpu slot step) (h_at l s cpu slot step).changes
  unfolding rule ModestSlot ModestHand ModestPart used_of
  modest (Fund f n) o h = record { slot = tt; hand = good-count l f n (pass l s cpu o (Fund f n) h).valid; part = tt }
  modest Install o h =
      record {
        slot = tt;
        hand = tt;
        part = (
          hand-some (s.cpu cpu).hand (pass l s cpu o Install h).allowed (legal.slots.some_hand cpu),
          hand-few (s.cpu cpu).hand (pass l s cpu o Install h).allowed hands,
        );
      }
  modest (Topup vm) o h =
      record {
        slot = tt;
        hand = tt;
        part =
            at-most 512 (frames l (x_at l s cpu o (Topup vm)).guest + (hand_of (s.cpu cpu)).count)
            (and-right (is_some (s.cpu cpu).hand)
            (nat_le (frames l (x_at l s cpu o (Topup vm)).guest + (hand_of (s.cpu cpu)).count) 512)
            (pass l s cpu o (Topup vm) h).allowed);
      }
  modest (VmReserve kind n) o h = let p = pass l s cpu o (VmReserve kind n) h in
      record {
        slot =
            (few n p.valid, none-loaded (and-right (is_none (s.cpu cpu).ticket) (is_some (vacant_slot s.vms)) p.ready));
        hand = tt;
        part = tt;
      }
  modest (VcpuLoad vm i) o h =
      record {
        slot = at-least ((x_at l s cpu o (VcpuLoad vm i)).vms.slot vm.slot).vcpus i
            (pass l s cpu o (VcpuLoad vm i) h).allowed;
        hand = tt;
        part = tt;
      }
  modest VmRelease o h =
      record {
        slot = released (has_stage Booked (s.cpu cpu)) (has_stage Finished (s.cpu cpu)) refl refl
            (pass l s cpu o VmRelease h).has_vm;
        hand = tt;
        part = tt;
      }
  modest step o h = record { slot = tt; hand = tt; part = tt }

-- the VM part where a call may use it
grown-if : (b : Bool) (z : Vms) (h : SlotChange)
    → ModestSlot (if b then z else no_vms) h
    → (v : ℕ)
    → ((if b then vms_by h (if b then z else no_vms) else z).slot v).generation ≤ (z.slot v).generation + one b
grown-if true z h m v = grown z h m v
grown-if false z h m v = omega arith

bound-if : (b : Bool) (z : Vms) (h : SlotChange)
    → ModestSlot (if b then z else no_vms) h
    → ((v : ℕ) → SlotBound (z.slot v))
    → (v : ℕ)
    → SlotBound ((if b then vms_by h (if b then z else no_vms) else z).slot v)
bound-if true z h m k v = bound z h m k v
bound-if false z h m k v = k v

-- the guests where a call may use one
guest-if : (l : Layout) (h : Changes) (gs : ℕ → Guest) (slot : Option ℕ)
    → IsInRange l.depth (edit_of h.guest)
    → guest_need l.depth h (guest_at gs slot) ≤ length (guest_at gs slot).free
    → ModestPart h.part (frames l (guest_at gs slot))
    → ((v : ℕ) → frames l (gs v) ≤ 512)
    → (v : ℕ)
    → frames l (put_guest gs slot (guest_after l.depth h (guest_at gs slot)) v) ≤ 512
unfolding guest_after
guest-if l h gs None range less m b = b
guest-if l h gs (Some u) range less m b =
    let same = edited-frames l (gs u) (edit_of h.guest) range less in
    put-fact (λ v (g : Guest). frames l g ≤ 512) gs u (guest_after l.depth h (gs u))
    (part-bound l h.part _ (subst (ModestPart h.part) (sym same) m) (subst (λ n. n ≤ 512) (sym same) (b u)))
    (λ v e. b v)

-- what a made step leaves
made-bounded : (l : Layout) (s : Reference) (cpu : ℕ) (slot : Option ℕ) (step : Step) (r : Rooms)
    → Legal l s.contents
    → Bounded l s
    → fails l cpu slot step (used_of (names step) slot cpu s.contents) ≡ None
    → r.vms + one (uses_vms (names step)) ≡ s.rooms.vms
    → Bounded l
    (record {
      contents = put_back (names step) slot cpu s.contents
          (made l cpu slot step (used_of (names step) slot cpu s.contents));
      rooms = r;
    })
unfolding put_back made with_rows changed used_of
made-bounded l s cpu slot step r legal b h room =
    let x = used_of (names step) slot cpu s.contents in
    let c = (rule l cpu slot step x).changes in
    let m = modest l s.contents legal cpu (b.hands cpu) step slot h in
    let slots =
    bound-if (uses_vms (names step)) s.contents.vms c.slot m.slot
    (λ v. record { vcpus = b.vcpus v; loads = b.loads v }) in
    record {
      hands =
          put-fact (λ d (k : Cpu). (q : PageRange) → k.hand ≡ Some q → q.count ≤ 512) s.contents.cpu cpu
          (cpu_by c.cpu (s.contents.cpu cpu))
          (hand-bound c.cpu.hand (s.contents.cpu cpu).hand m.hand (b.hands cpu)) (λ d e. b.hands d);
      generations = λ v. let g = grown-if (uses_vms (names step)) s.contents.vms c.slot m.slot v in
          let old = b.generations v in
          omega arith;
      vcpus = λ v. (slots v).vcpus;
      loads = λ v. (slots v).loads;
      guests =
          guest-if l c s.contents.guest slot (guest-range l s.contents cpu step slot h)
          (pass l s.contents cpu slot step h).guest_enough m.part b.guests;
    }

-- the contents stay, and no room grows
still-bounded : (l : Layout) (s : Reference) (t : Contents) (r : Rooms)
    → t ≡ s.contents
    → r.vms ≤ s.rooms.vms
    → Bounded l s
    → Bounded l (record { contents = t; rooms = r })
still-bounded l s t r e less b =
    subst (λ (u : Contents). Bounded l (record { contents = u; rooms = r })) (sym e) (record {
      hands = b.hands;
      generations = λ v. let old = b.generations v in omega arith;
      vcpus = b.vcpus;
      loads = b.loads;
      guests = b.guests;
    })

pub bounded_keeps : BoundedKeeps
bounded_keeps l s t c legal b steps = elim (steps.on.answers) [
  | inl p ↦ subst (Bounded l) (sym (log_full_keeps l s t c steps p.reply)) b
  | inr p ↦
      let falls =
      stored_falls l s t c steps
      (answered-room l c.cpu c.slot c.step true (used_by c s) c.reply steps.after p.answered) in
      let fell : t.rooms.vms + one (uses_vms (names c.step)) ≡ s.rooms.vms = falls.vms in
      let less : t.rooms.vms ≤ s.rooms.vms = omega arith in
      elim (p.answered) [
        | inl m ↦
            let e : t.contents ≡ put_back (names c.step) c.slot c.cpu s.contents (made l c.cpu c.slot c.step (used_by c s)) =
            ap (λ (u : Reference). u.contents) steps.next
            ∙ ap (put_back (names c.step) c.slot c.cpu s.contents) m.next in
            subst (λ (u : Contents). Bounded l (record { contents = u; rooms = t.rooms })) (sym e)
            (made-bounded l s c.cpu c.slot c.step t.rooms legal b m.passes fell)
        | inr m ↦ elim m [
          | inl k ↦ still-bounded l s t.contents t.rooms (refusal_keeps l s t c k.why steps k.reply_is) less b
          | inr k ↦ still-bounded l s t.contents t.rooms (refusal_keeps l s t c NoMemory steps k.reply_is) less b
        ]
      ]
]

boot-bounded : (l : Layout) → Bounded l (boot l)
unfolding booted
boot-bounded l = record {
  hands = λ c r e. cc;
  generations = λ v. omega arith;
  vcpus = λ v. omega arith;
  loads = λ v i c e. some-none e;
  guests = λ v. let e = none-frames l in omega arith;
}

bounded-from : (l : Layout) (cs : List Call) (s t : Reference)
    → IsUsable l
    → All (λ c. c.cpu < l.config.cpus) cs
    → Legal l s.contents
    → Bounded l s
    → Runs (Steps l) s cs t
    → Bounded l t
bounded-from l [] s t usable known legal b run = subst (Bounded l) run b
bounded-from l (c ∷ cs) s t usable known legal b run =
    bounded-from l cs run.0 t usable (λ k d less. known (suc k) d (omega arith))
    (legal_keeps l s run.0 c usable (known 0 c (omega arith)) legal run.1)
    (bounded_keeps l s run.0 c legal b run.1) run.2

pub run_bounded : RunBounded
run_bounded l cs t ready run =
    bounded-from l cs (boot l) t (ready-usable l ready) run.cpus (boot_legal l ready.enough (ready-usable l ready))
    (boot-bounded l) run.leads
