-- Two legal states that differ in tables and free frames alone make the same steps, but for the frame that reclaim_pool
-- gives.
use Rattle.std.proofs.Common.{◌≡◌, ◌≢◌, ℕ, suc, ◌+◌, ◌≤◌, ◌<◌, refl, ap, sym, ◌∙◌, subst, arith, inl, inr, [], ◌∷◌, length}
use Rattle.std.specs.Prelude.{Bool, true, false, not, ◌&&◌, ◌==◌, nat_le, is_some, unwrap_or, Option, Some, None, if◌then◌else◌}
use Rattle.std.proofs.lemmas.Bool.Decides.{nat_tests}
use mathlib.Core.Path.{fun_ext}
use Rattle.descriptor.specs.declared.State.{State}
use Rattle.descriptor.specs.declared.State.TheVariants.{Owned, SharedOwned, SharedBorrowed}
use Rattle.page_state.proofs.Blocks.{all_from-each}
use Rattle.page_state.proofs.Cases.{by_lt}
use Rattle.page_state.proofs.Common.{both, same2}
use Rattle.page_state.specs.Counts.{frame_count}
use Rattle.page_state.specs.EntryTests.{is_unmapped}
use Rattle.page_state.specs.Geometries.{pages_below}
use Rattle.page_state.specs.Layouts.{Layout, is_memory}
use Rattle.page_state.specs.Search.{all_below}
use Rattle.page_state.specs.Trees.{Block, Pool}
use Rattle.page_state.specs.declared.entry.Entry.TheVariants.{Unmapped}
use Rattle.page_state.specs.declared.row.Row.{Row}
use Rattle.call_table.specs.declared.reply.Refusal.{Refusal}
use Rattle.call_table.specs.declared.reply.Refusal.TheVariants.{Perm}
use Rattle.call_table.specs.declared.reply.Reply.{Reply}
use Rattle.call_table.specs.declared.reply.Reply.TheVariants.{Done}
use Rattle.call_table.specs.declared.step.Step.{Step}
use Rattle.call_table.specs.declared.step.Step.TheVariants.{Topup, ReclaimPool, FinishGuest}
use Rattle.call_table.specs.declared.step.VmId.{VmId}
use Rattle.reference_model.proofs.Frames.{count_blocks-none, is_table_frame-block}
use Rattle.reference_model.proofs.conditions.Keeps.{stage-slot}
use Rattle.reference_model.proofs.conditions.RangeMoves.{one-within}
use Rattle.reference_model.proofs.conditions.SoundOf.{one-true, in_vm-is}
use Rattle.reference_model.proofs.conditions.Stands.{is_table_frame-uses}
use Rattle.reference_model.proofs.conditions.Tables.{uses_of, uses-some, some_of, some-put}
use Rattle.reference_model.specs.declared.changes.Changes.{Changes}
use Rattle.reference_model.specs.declared.changes.GuestChange.{GuestChange}
use Rattle.reference_model.specs.declared.changes.GuestChange.TheVariants.{Empty}
use Rattle.reference_model.specs.declared.changes.Stage.TheVariants.{Dying as dying_vm, Finished as finished}
use Rattle.reference_model.specs.help.Conditions.{guest_condition, IsUsable, IsGood, in_shared, in_vm, one, table_uses, guest_uses}
use Rattle.reference_model.specs.model.GuestRules.{topup, guest_table_count, moved_on}
use Rattle.reference_model.specs.model.Parts.{Names, shared_and_guest, lacks_slot, slot_of, ticket_slot, uses_shared}
use Rattle.reference_model.specs.model.Rule.{Rule, fine, reads}
use Rattle.reference_model.specs.model.Rules.{rule, names, guest_slot}
use Rattle.reference_model.specs.model.SharedRules.{hand_of, to_host}
use Rattle.reference_model.specs.claims.Sound.{StageFits}
use Rattle.reference_model.specs.model.State.{Guest, Cpu, Contents, empty, dying, no_guest}
use Rattle.reference_model.specs.model.Step.{first_test, rule_of, is_touched, own_row, with_rows, changed, made, shared_after, guest_after}
use Rattle.reference_model.specs.model.Used.{Used, used_of, put_back, guest_at}
use Rattle.freedoms.specs.Ample.{asks_pool, rule_fails, AnswersAmply, StepsAmply}
use Rattle.freedoms.specs.AnyTrees.{LegalInAnyTrees}
use Rattle.freedoms.specs.Laws.{LeadsToo, StepsOfAny, JudgedFromAny}
use Rattle.freedoms.specs.OwnTables.{OwnTables, bare_used, bare_guest, without_tables}
use Rattle.freedoms.proofs.Bare.{changed-bare, put-bare, used-bare}
use Rattle.freedoms.proofs.Gone.{still-apart, guest_holds}
use Rattle.reference_model.specs.model.Changes.{guest_by}
use Rattle.freedoms.proofs.Judged.{alike, Made}
use Rattle.freedoms.proofs.Loose.{loose-topup}
use Rattle.freedoms.proofs.OwnRows.{rows-bare, own-alike, apart-of, used-apart, with_row, choose}
use Rattle.freedoms.proofs.Totals.{total, total-same, vm-same}

-- what is answered, up to tables and free frames
abbrev pub Twin : (l : Layout) (cpu : ℕ) (slot : Option ℕ) (step : Step) (x z : Used) (reply : Reply) → Type 0
Twin l cpu slot step x z reply =
    (y : Used)
    → AnswersAmply l cpu slot step x reply y
    → (w : Used) × AnswersAmply l cpu slot step z reply w × (bare_used y ≡ bare_used w)

-- by the rule's first test, its value and what is made
pub twin-by : (l : Layout) (cpu : ℕ) (slot : Option ℕ) (step : Step) (x z : Used) (reply : Reply)
    → bare_used x ≡ bare_used z
    → rule_fails l cpu slot step x ≡ rule_fails l cpu slot step z
    → (rule_of l cpu slot step x).changes.value ≡ (rule_of l cpu slot step z).changes.value
    → (rule_fails l cpu slot step x ≡ None → bare_used (made l cpu slot step x) ≡ bare_used (made l cpu slot step z))
    → Twin l cpu slot step x z reply
twin-by l cpu slot step x z reply e fails value done y (inl p) = (
  made l cpu slot step z,
  inl (record { passes = sym fails ∙ p.passes; reply_is = p.reply_is ∙ ap Done value; next = refl }),
  ap bare_used p.next
      ∙ done p.passes,
)
twin-by l cpu slot step x z reply e fails value done y (inr (inl p)) = (
  z,
  inr (inl (record { why = p.why; fail = sym fails ∙ p.fail; reply_is = p.reply_is; next = refl })),
  ap bare_used p.next
      ∙ e,
)
twin-by l cpu slot step x z reply e fails value done y (inr (inr p)) = (
  z,
  inr (inr (record { passes = sym fails ∙ p.passes; grows = p.grows; reply_is = p.reply_is; next = refl })),
  ap bare_used p.next
      ∙ e,
)

-- a step of one state, by that of another
pub packed : (l : Layout) (s t : Contents) (cpu : ℕ) (step : Step) (reply : Reply)
    → OwnTables s t
    → Twin l cpu (guest_slot (s.cpu cpu) step) step (used_of (names step) (guest_slot (s.cpu cpu) step) cpu s)
    (used_of (names step) (guest_slot (s.cpu cpu) step) cpu t) reply
    → (u : Contents)
    → StepsAmply l s cpu step reply u
    → (w : Contents) × StepsAmply l t cpu step reply w × OwnTables u w
packed l s t cpu step reply e twin u p =
    let n = names step in
    let slot = guest_slot (s.cpu cpu) step in
    let a = twin p.after p.answers in
    let w = put_back n slot cpu t a.0 in
    let here : Made l t cpu step reply w slot = (a.0, a.1, refl) in
    let at = subst (Made l t cpu step reply w) (ap (λ (c : Contents). guest_slot (c.cpu cpu) step) e) here in (
      w,
      record { after = at.0; answers = at.1; next = at.2 },
      ap without_tables p.next ∙ put-bare n slot cpu s p.after
          ∙ same2 (put_back n slot cpu) e a.2 ∙ sym (put-bare n slot cpu t a.0),
    )

pub used-alike : (n : Names) (slot : Option ℕ) (cpu : ℕ) (s t : Contents)
    → OwnTables s t
    → bare_used (used_of n slot cpu s) ≡ bare_used (used_of n slot cpu t)
used-alike n slot cpu s t e = sym (used-bare n slot cpu s) ∙ ap (used_of n slot cpu) e ∙ used-bare n slot cpu t

pub rows-of : (s t : Contents) → OwnTables s t → s.shared.row ≡ t.shared.row
rows-of s t e = ap (λ (c : Contents). c.shared.row) e

-- topup

topup_by : Layout → ℕ → Option ℕ → VmId → Used → ℕ → Rule
topup_by l cpu slot vm z n =
    let r = topup vm (reads l cpu slot z) in
    record r { allowed = record r.allowed { passes = is_some z.cpu.hand && nat_le (n + (hand_of z.cpu).count) 512 } }

rule-by : (l : Layout) (cpu : ℕ) (slot : Option ℕ) (vm : VmId) (x : Used)
    → rule_of l cpu slot (Topup vm) x ≡ topup_by l cpu slot vm (bare_used x) (total l x.guest)
unfolding rule topup_by
rule-by l cpu slot vm x = refl

topup-made : (l : Layout) (s : Contents) (legal : LegalInAnyTrees l s) (cpu : ℕ) (slot : Option ℕ) (vm : VmId)
    → rule_fails l cpu slot (Topup vm) (used_of shared_and_guest slot cpu s) ≡ None
    → bare_used (made l cpu slot (Topup vm) (used_of shared_and_guest slot cpu s))
    ≡ bare_used (made l cpu slot (Topup vm) (bare_used (used_of shared_and_guest slot cpu s)))
unfolding made rule
topup-made l s legal cpu slot vm passes =
    rows-bare l s legal cpu slot (Topup vm)
    (rule_of l cpu slot (Topup vm) (used_of shared_and_guest slot cpu s)).changes
    (loose-topup l s legal cpu vm slot passes)

-- finish_guest

finish-changes : Cpu → ℕ → Changes
finish-changes k root = record (to_host root 1) { part = Empty; cpu = moved_on finished k }

is-clean : Layout → Guest → Bool
is-clean l g = all_below (pages_below l.depth) (λ p. is_unmapped (g.tree.map p))

root-of : Layout → Guest → ℕ
root-of l g = unwrap_or (g.tree.table (l.depth + 1, 0)) 0

finish-by : (l : Layout) (cpu : ℕ) (slot : Option ℕ) (x : Used)
    → (rule_of l cpu slot FinishGuest x).changes ≡ finish-changes x.cpu (root-of l x.guest)
unfolding rule root-of finish-changes
finish-by l cpu slot x = refl

fails_by : Option ℕ → Bool → ℕ → Option Refusal
fails_by slot clean n =
    first_test (record fine { allowed = record fine.allowed { passes = clean && n == 0 } })
    (lacks_slot shared_and_guest slot)

finish-fails : (l : Layout) (cpu : ℕ) (slot : Option ℕ) (x : Used)
    → rule_fails l cpu slot FinishGuest x ≡ fails_by slot (is-clean l x.guest) (length x.guest.free)
unfolding rule fails_by is-clean
finish-fails l cpu slot x = refl

chosen-none : (b : Bool) (why : Refusal) → (if not b then Some why else None) ≡ None → b ≡ true
chosen-none true why h = refl
chosen-none false why h = cc

-- passes where the guest is there, clean, and has no free frame
passes-by : (v : ℕ) (clean : Bool) (n : ℕ) → fails_by (Some v) clean n ≡ None → (clean ≡ true) × (n ≡ 0)
unfolding fails_by
passes-by v true n h = let none = chosen-none (n == 0) Perm h in (refl, grind (arith, nat_tests))
passes-by v false n h = cc

dirty : (v : ℕ) (p q : Bool) (m n : ℕ) → p ≡ false → q ≡ false → fails_by (Some v) p m ≡ fails_by (Some v) q n
unfolding fails_by
dirty v false false m n c d = refl
dirty v true q m n c d = cc
dirty v false true m n c d = cc

gone-part : (l : Layout) (p : GuestChange) (g : Guest) (f : ℕ)
    → p ≡ Empty
    → guest_holds l (guest_by l.depth p g) f ≡ guest_holds l no_guest f
gone-part l p g f e = ap (λ (q : GuestChange). guest_holds l (guest_by l.depth q g) f) e

emptied-holds : (l : Layout) (h : Changes) (g : Guest) (f : ℕ)
    → h.part ≡ Empty
    → guest_holds l (guest_after l.depth h g) f ≡ guest_holds l no_guest f
unfolding guest_after
emptied-holds l h g f e = gone-part l h.part _ f e

finish-part : (k : Cpu) (root : ℕ) → (finish-changes k root).part ≡ Empty
unfolding finish-changes
finish-part k root = refl

finish-value : (l : Layout) (cpu : ℕ) (slot : Option ℕ) (x z : Used)
    → (rule_of l cpu slot FinishGuest x).changes.value ≡ (rule_of l cpu slot FinishGuest z).changes.value
unfolding rule
finish-value l cpu slot x z = refl

pub chosen-same : (p q : Bool) (x y m n : Row) → m ≡ n → (q ≡ true → x ≡ y) → choose (p && q) x m ≡ choose (p && q) y n
chosen-same true true x y m n e h = h refl
chosen-same true false x y m n e h = e
chosen-same false q x y m n e h = e

-- all pages are unmapped, those past the input pages too

named-low : (l : Layout) (state : State) (v g : ℕ) → IsGood l (guest_condition state v g) → g < pages_below l.depth
named-low l Owned v g h = h.1
named-low l SharedOwned v g h = h.1
named-low l SharedBorrowed v g h = h.1

unmapped-is : (e : _) → is_unmapped e ≡ true → e ≡ Unmapped
unmapped-is Unmapped h = refl
unmapped-is e h = cc

clean-all : (l : Layout) (s : Contents) (legal : LegalInAnyTrees l s) (v : ℕ)
    → is-clean l (s.guest v) ≡ true
    → (g : ℕ)
    → (s.guest v).tree.map g ≡ Unmapped
unfolding is-clean
clean-all l s legal v h g = by_lt g (pages_below l.depth)
    (λ low. unmapped-is ((s.guest v).tree.map g)
    (all_from-each 0 (pages_below l.depth) (λ p. is_unmapped ((s.guest v).tree.map p)) h g (omega arith)
    (omega arith)))
    (λ high. elim (legal.state.frames.maps.guest v g) [
      | inl e ↦ e
      | inr e ↦ absurd
          (let low = named-low l e.state v g (subst (IsGood l) e.named (legal.state.frames.of_layout.good e.frame)) in
          omega arith)
    ])

-- its root is its one table

is-none : (o : Option ℕ) → ((f : ℕ) → o ≡ Some f → ⊥) → o ≡ None
is-none None h = refl
is-none (Some f) h = absurd (h f refl)

nothing : Block → Option ℕ
nothing b = None

one-table : (l : Layout) (s : Contents) (legal : LegalInAnyTrees l s) (v : ℕ)
    → (s.guest v).phase ≢ empty
    → ((g : ℕ) → (s.guest v).tree.map g ≡ Unmapped)
    → guest_table_count l (s.guest v).tree ≡ 1
unfolding some_of nothing
one-table l s legal v alive bare =
    let table = (s.guest v).tree.table in
    let top : Block = (l.depth + 1, 0) in
    let root = legal.state.guest_parts.rooted v alive in
    let put =
    some-put l.depth top table nothing (legal.state.inside (suc (suc v)) top root.0 root.1)
    (λ b apart. is-none (table b) (λ f e. apart (legal.emptied v bare b f e))) in
    let none : some_of l.depth nothing ≡ 0 = count_blocks-none (l.depth + 1) (l.depth + 1) (λ b. false) (λ b. refl) in
    let some : one (is_some (table top)) ≡ 1 = ap (λ o. one (is_some o)) root.1 in
    let count : guest_table_count l (s.guest v).tree ≡ some_of l.depth table = refl in
    count ∙ omega arith

-- a frame that a clean guest without free frames holds is its root
held-root : (l : Layout) (s : Contents) (legal : LegalInAnyTrees l s) (v f : ℕ)
    → ((g : ℕ) → (s.guest v).tree.map g ≡ Unmapped)
    → length (s.guest v).free ≡ 0
    → 1 ≤ guest_uses l.depth (s.guest v) f
    → (s.guest v).tree.table (l.depth + 1, 0) ≡ Some f
held-root l s legal v f bare none some =
    let free : frame_count f (s.guest v).free ≡ 0 = no-free f (s.guest v).free none in
    let at =
    is_table_frame-block l (s.guest v).tree f
    (is_table_frame-uses l (s.guest v).tree f
    ∙ (let more : 1 ≤ table_uses l.depth (s.guest v).tree f = omega arith in grind (arith, nat_tests))) in
    subst (λ c. (s.guest v).tree.table c ≡ Some f) (legal.emptied v bare at.0 f at.1) at.1
  where
    no-free : (f : ℕ) (fs : Pool) → length fs ≡ 0 → frame_count f fs ≡ 0
    no-free f [] h = refl
    no-free f (g ∷ gs) h = absurd (omega arith)

module _ (l : Layout) (usable : IsUsable l) (s t : Contents) (a : LegalInAnyTrees l s) (b : LegalInAnyTrees l t)
    (e : OwnTables s t) (cpu : ℕ) where
  total-at : (slot : Option ℕ) → total l (guest_at s.guest slot) ≡ total l (guest_at t.guest slot)
  total-at None = refl
  total-at (Some v) = total-same l s t usable a b (rows-of s t e) v

  topup-twin : (vm : VmId) (slot : Option ℕ) (reply : Reply)
      → Twin l cpu slot (Topup vm) (used_of shared_and_guest slot cpu s) (used_of shared_and_guest slot cpu t) reply
  unfolding used_of
  topup-twin vm slot reply =
      let x = used_of shared_and_guest slot cpu s in
      let z = used_of shared_and_guest slot cpu t in
      let bare = used-alike shared_and_guest slot cpu s t e in
      let same : rule_of l cpu slot (Topup vm) x ≡ rule_of l cpu slot (Topup vm) z =
      rule-by l cpu slot vm x ∙ same2 (topup_by l cpu slot vm) bare (total-at slot)
      ∙ sym (rule-by l cpu slot vm z) in
      let fails : rule_fails l cpu slot (Topup vm) x ≡ rule_fails l cpu slot (Topup vm) z =
      ap (λ (r : Rule). first_test r (lacks_slot shared_and_guest slot)) same in
      twin-by l cpu slot (Topup vm) x z reply bare fails (ap (λ (r : Rule). r.changes.value) same)
      (λ passes. topup-made l s a cpu slot vm passes ∙ ap (λ (w : Used). bare_used (made l cpu slot (Topup vm) w)) bare
      ∙ sym (topup-made l t b cpu slot vm (sym fails ∙ passes)))

  -- the guests of a slot

  guests-alike : (v : ℕ) → bare_guest (s.guest v) ≡ bare_guest (t.guest v)
  guests-alike v = ap (λ (c : Contents). c.guest v) e

  clean-same : (v : ℕ) → is-clean l (s.guest v) ≡ is-clean l (t.guest v)
  unfolding is-clean
  clean-same v = ap (λ (g : Guest). all_below (pages_below l.depth) (λ p. is_unmapped (g.tree.map p))) (guests-alike v)

  dying-alive : (v : ℕ) → ticket_slot dying_vm (s.cpu cpu) ≡ Some v → (s.guest v).phase ≢ empty
  dying-alive v h =
      let k = stage-slot dying_vm (s.cpu cpu) v h in
      let fits = (a.state.slots.agree.tickets.ticket cpu k.0 k.1).fits in
      let phase : (s.guest k.0.vm.slot).phase ≡ dying =
      (subst (λ stage. StageFits stage (s.vms.slot k.0.vm.slot).stand (s.guest k.0.vm.slot).phase) k.3 fits).1 in
      let here : (s.guest v).phase ≡ dying = sym (ap (λ n. (s.guest n).phase) k.2) ∙ phase in
      λ z. let bad : empty ≡ dying = sym z ∙ here in cc

  alive-too : (v : ℕ) → (s.guest v).phase ≢ empty → (t.guest v).phase ≢ empty
  alive-too v h z = h (ap (λ (g : Guest). g.phase) (guests-alike v) ∙ z)

  free-same : (v : ℕ)
      → (s.guest v).phase ≢ empty
      → is-clean l (s.guest v) ≡ true
      → length (s.guest v).free ≡ length (t.guest v).free
  free-same v alive clean =
      let one-s = one-table l s a v alive (clean-all l s a v clean) in
      let one-t = one-table l t b v (alive-too v alive) (clean-all l t b v (sym (clean-same v) ∙ clean)) in
      let all = total-same l s t usable a b (rows-of s t e) v in
      omega arith

  fails-alike : (v : ℕ)
      → (s.guest v).phase ≢ empty
      → fails_by (Some v) (is-clean l (s.guest v)) (length (s.guest v).free)
      ≡ fails_by (Some v) (is-clean l (t.guest v)) (length (t.guest v).free)
  fails-alike v alive = elim (both (is-clean l (s.guest v))) [
    | inl c ↦ same2 (fails_by (Some v)) (clean-same v) (free-same v alive c)
    | inr c ↦ let d : is-clean l (t.guest v) ≡ false = sym (clean-same v) ∙ c in
        dirty v (is-clean l (s.guest v)) (is-clean l (t.guest v)) (length (s.guest v).free)
        (length (t.guest v).free) c d
  ]

  root-same : (v : ℕ)
      → (s.guest v).phase ≢ empty
      → is-clean l (s.guest v) ≡ true
      → length (s.guest v).free ≡ 0
      → root-of l (s.guest v) ≡ root-of l (t.guest v)
  unfolding root-of table_uses uses_of
  root-same v alive clean none =
      let root = b.state.guest_parts.rooted v (alive-too v alive) in
      let some =
      uses-some l.depth root.0 (l.depth + 1, 0) (t.guest v).tree.table
      (b.state.inside (suc (suc v)) (l.depth + 1, 0) root.0 root.1) root.1 in
      let uses : guest_uses l.depth (s.guest v) root.0 ≡ guest_uses l.depth (t.guest v) root.0 =
      a.state.frames.held.vm v root.0 ∙ ap one (vm-same l s t a b (rows-of s t e) v root.0)
      ∙ sym (b.state.frames.held.vm v root.0) in
      let here = held-root l s a v root.0 (clean-all l s a v clean) none (omega arith) in
      ap (λ o. unwrap_or o 0) (here ∙ sym root.1)

  -- what finish_guest leaves

  -- the touched frame is the root, which is no frame of the Shared part
  touched-root : (v : ℕ)
      → (s.guest v).phase ≢ empty
      → is-clean l (s.guest v) ≡ true
      → length (s.guest v).free ≡ 0
      → (f : ℕ)
      → is_touched (finish-changes (s.cpu cpu) (root-of l (s.guest v))) f ≡ true
      → (in_shared (a.state.frames.condition f) ≡ false) × (in_shared (b.state.frames.condition f) ≡ false)
  unfolding finish-changes root-of table_uses uses_of
  touched-root v alive clean none f w =
      let root = a.state.guest_parts.rooted v alive in
      let some =
      uses-some l.depth root.0 (l.depth + 1, 0) (s.guest v).tree.table
      (a.state.inside (suc (suc v)) (l.depth + 1, 0) root.0 root.1) root.1 in
      let vm =
      one-true (in_vm v (a.state.frames.condition root.0)) (guest_uses l.depth (s.guest v) root.0) (omega arith)
      (a.state.frames.held.vm v root.0) in
      let at : root.0 ≡ f = sym (ap (λ o. unwrap_or o 0) root.1) ∙ one-within _ f w in
      let here : in_vm v (a.state.frames.condition f) ≡ true =
      subst (λ n. in_vm v (a.state.frames.condition n) ≡ true) at vm in
      let there : in_vm v (b.state.frames.condition f) ≡ true = sym (vm-same l s t a b (rows-of s t e) v f) ∙ here in (
        ap in_shared (in_vm-is v (a.state.frames.condition f) here),
        ap in_shared (in_vm-is v (b.state.frames.condition f) there),
      )

  own-same : (slot : Option ℕ) (h : Changes)
      → h.part ≡ Empty
      → (f : ℕ)
      → (in_shared (a.state.frames.condition f) ≡ false) × (in_shared (b.state.frames.condition f) ≡ false)
      → bare_used (changed l.depth h (used_of shared_and_guest slot cpu s))
      ≡ bare_used (changed l.depth h (used_of shared_and_guest slot cpu t))
      → own_row l cpu slot FinishGuest (changed l.depth h (used_of shared_and_guest slot cpu s)) f
      ≡ own_row l cpu slot FinishGuest (changed l.depth h (used_of shared_and_guest slot cpu t)) f
  unfolding changed used_of
  own-same slot h part f out after =
      let x = used_of shared_and_guest slot cpu s in
      let z = used_of shared_and_guest slot cpu t in
      own-alike l cpu slot FinishGuest (changed l.depth h x) (changed l.depth h z) f after
      (still-apart l l.depth h x.shared f
      (used-apart f (uses_shared shared_and_guest slot) s.shared (apart-of l s a f out.0)))
      (still-apart l l.depth h z.shared f
      (used-apart f (uses_shared shared_and_guest slot) t.shared (apart-of l t b f out.1)))
      (emptied-holds l h x.guest f part ∙ sym (emptied-holds l h z.guest f part))

  finish-rows : (slot : Option ℕ) (h : Changes)
      → h.part ≡ Empty
      → ((f : ℕ)
      → is_touched h f ≡ true
      → (in_shared (a.state.frames.condition f) ≡ false) × (in_shared (b.state.frames.condition f) ≡ false))
      → bare_used (with_rows l cpu slot FinishGuest h (changed l.depth h (used_of shared_and_guest slot cpu s)))
      ≡ bare_used (with_rows l cpu slot FinishGuest h (changed l.depth h (used_of shared_and_guest slot cpu t)))
  unfolding with_rows changed shared_after
  finish-rows slot h part out =
      let x = used_of shared_and_guest slot cpu s in
      let z = used_of shared_and_guest slot cpu t in
      let bare = used-alike shared_and_guest slot cpu s t e in
      let after : bare_used (changed l.depth h x) ≡ bare_used (changed l.depth h z) =
      changed-bare l.depth h x ∙ ap (λ (w : Used). bare_used (changed l.depth h w)) bare
      ∙ sym (changed-bare l.depth h z) in
      same2 with_row after
      (fun_ext
      (λ f. chosen-same (is_memory l f) (is_touched h f)
      (own_row l cpu slot FinishGuest (changed l.depth h x) f)
      (own_row l cpu slot FinishGuest (changed l.depth h z) f) (x.shared.row f) (z.shared.row f)
      (ap (λ (w : Used). w.shared.row f) bare) (λ k. own-same slot h part f (out f k) after)))

  finish-made : (v : ℕ)
      → (s.guest v).phase ≢ empty
      → rule_fails l cpu (Some v) FinishGuest (used_of shared_and_guest (Some v) cpu s) ≡ None
      → bare_used (made l cpu (Some v) FinishGuest (used_of shared_and_guest (Some v) cpu s))
      ≡ bare_used (made l cpu (Some v) FinishGuest (used_of shared_and_guest (Some v) cpu t))
  unfolding made used_of
  finish-made v alive passes =
      let x = used_of shared_and_guest (Some v) cpu s in
      let z = used_of shared_and_guest (Some v) cpu t in
      let p =
      passes-by v (is-clean l (s.guest v)) (length (s.guest v).free)
      (sym (finish-fails l cpu (Some v) x) ∙ passes) in
      let root = root-same v alive p.0 p.1 in
      let own : s.cpu cpu ≡ t.cpu cpu = ap (λ (c : Contents). c.cpu cpu) e in
      let h = finish-changes (s.cpu cpu) (root-of l (s.guest v)) in
      let here : (rule_of l cpu (Some v) FinishGuest x).changes ≡ h = finish-by l cpu (Some v) x in
      let there : (rule_of l cpu (Some v) FinishGuest z).changes ≡ h =
      finish-by l cpu (Some v) z ∙ sym (same2 finish-changes own root) in
      ap (λ (c : Changes). bare_used (with_rows l cpu (Some v) FinishGuest c (changed l.depth c x))) here
      ∙ finish-rows (Some v) h (finish-part (s.cpu cpu) (root-of l (s.guest v))) (touched-root v alive p.0 p.1)
      ∙ sym (ap (λ (c : Changes). bare_used (with_rows l cpu (Some v) FinishGuest c (changed l.depth c z))) there)

  -- the two answers
  finish-twin : (v : ℕ)
      → ticket_slot dying_vm (s.cpu cpu) ≡ Some v
      → (reply : Reply)
      → Twin l cpu (Some v) FinishGuest (used_of shared_and_guest (Some v) cpu s)
      (used_of shared_and_guest (Some v) cpu t) reply
  unfolding used_of
  finish-twin v named reply =
      let x = used_of shared_and_guest (Some v) cpu s in
      let z = used_of shared_and_guest (Some v) cpu t in
      let alive = dying-alive v named in
      let bare = used-alike shared_and_guest (Some v) cpu s t e in
      let fails = finish-fails l cpu (Some v) x ∙ fails-alike v alive ∙ sym (finish-fails l cpu (Some v) z) in
      twin-by l cpu (Some v) FinishGuest x z reply bare fails (finish-value l cpu (Some v) x z)
      (λ passes. finish-made v alive passes)

  finish-none : (reply : Reply)
      → Twin l cpu None FinishGuest (used_of shared_and_guest None cpu s) (used_of shared_and_guest None cpu t) reply
  unfolding used_of fails_by
  finish-none reply =
      let x = used_of shared_and_guest None cpu s in
      let z = used_of shared_and_guest None cpu t in
      twin-by l cpu None FinishGuest x z reply (used-alike shared_and_guest None cpu s t e)
      (finish-fails l cpu None x ∙ sym (finish-fails l cpu None z)) (finish-value l cpu None x z)
      (λ passes. absurd (let bad = sym (finish-fails l cpu None x) ∙ passes in cc))

  finish-at : (slot : Option ℕ)
      → ticket_slot dying_vm (s.cpu cpu) ≡ slot
      → (reply : Reply)
      → Twin l cpu slot FinishGuest (used_of shared_and_guest slot cpu s) (used_of shared_and_guest slot cpu t) reply
  finish-at (Some v) named reply = finish-twin v named reply
  finish-at None named reply = finish-none reply

by-maps : (l : Layout) (s t : Contents) (cpu : ℕ) (step : Step) (reply : Reply) (u : Contents)
    → LegalInAnyTrees l s
    → LegalInAnyTrees l t
    → OwnTables s t
    → asks_pool step ≡ false
    → StepsAmply l s cpu step reply u
    → LeadsToo l t cpu step reply u
by-maps l s t cpu step reply u a b e asks p =
    let d = (alike l s cpu step reply a asks).down u p in
    let up = (alike l t cpu step reply b asks).up d.0 (subst (λ c. StepsAmply l c cpu step reply d.0) e d.1) in
    (up.0, up.1, d.2 ∙ sym up.2)

pub steps_of_any : StepsOfAny
steps_of_any l s t cpu (Topup vm) reply u usable a b e h p =
    packed l s t cpu (Topup vm) reply e (topup-twin l usable s t a b e cpu vm (slot_of vm) reply) u p
steps_of_any l s t cpu FinishGuest reply u usable a b e h p =
    packed l s t cpu FinishGuest reply e
    (finish-at l usable s t a b e cpu (ticket_slot dying_vm (s.cpu cpu)) refl reply) u p
steps_of_any l s t cpu (ReclaimPool vm) reply u usable a b e h p = cc
steps_of_any l s t cpu step reply u usable a b e h p = by-maps l s t cpu step reply u a b e refl p

pub judged_from_any : JudgedFromAny
judged_from_any l before legal cpu step reply after usable begins is order = (
  λ j. let k =
      steps_of_any l j.state legal cpu step reply j.next usable j.legal is (sym j.begins ∙ begins) order j.steps in
      (k.0, k.1, sym j.ends ∙ k.2),
  λ k. record { state = legal; next = k.0; begins = begins; legal = is; steps = k.1; ends = sym k.2 },
)
