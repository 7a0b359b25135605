-- reclaim_pool: the judge agrees if and only if it is made so of some legal state like the one before.
use Rattle.std.proofs.Common.{◌≡◌, ◌≢◌, ℕ, suc, ◌+◌, ◌≤◌, List, [], ◌∷◌, length, refl, ap, sym, ◌∙◌, subst, arith, inl, inr}
use Rattle.std.specs.Prelude.{◌↔◌, Bool, true, false, not, ◌&&◌, ◌||◌, ◌==◌, is_some, nat_le, nat_lt, Option, Some, None, if◌then◌else◌}
use Rattle.std.proofs.lemmas.Bool.Decides.{nat_tests}
use Rattle.call_table.specs.declared.reply.Refusal.{Refusal}
use Rattle.call_table.specs.declared.reply.Refusal.TheVariants.{Invalid, NoVm, Perm, NoMemory, NoPool}
use Rattle.call_table.specs.declared.reply.Reply.{Reply}
use Rattle.call_table.specs.declared.reply.Reply.TheVariants.{Done, Refused}
use Rattle.call_table.specs.declared.reply.Value.TheVariants.{Frame as FrameOf}
use Rattle.call_table.specs.declared.step.Step.{Step}
use Rattle.call_table.specs.declared.step.Step.TheVariants.{FinishGuest, ReclaimPool, Topup}
use Rattle.call_table.specs.declared.step.VmId.{VmId}
use Rattle.coarse_trees.specs.Coarsest.{IsInTree}
use Rattle.page_state.proofs.Common.{and-left, and-right, both, eq-made, eq-other, eq-same, not-holds, same2}
use Rattle.page_state.proofs.Counts.{count_next}
use Rattle.page_state.specs.Counts.{frame_count, is_one}
use Rattle.page_state.specs.declared.entry.Entry.{Entry}
use Rattle.page_state.specs.declared.entry.Entry.TheVariants.{Unmapped}
use Rattle.page_state.specs.EntryTests.{is_unmapped}
use Rattle.page_state.specs.Layouts.{Layout}
use Rattle.page_state.specs.Trees.{Block, Tree}
use Rattle.reference_model.proofs.Frames.{count_blocks-none}
use Rattle.reference_model.proofs.Steps.{used-self}
use Rattle.reference_model.proofs.conditions.Tables.{some-put, some_of, uses-some, uses_of}
use Rattle.reference_model.specs.help.Conditions.{one, table_uses, IsUsable}
use Rattle.reference_model.specs.model.GuestRules.{guest_table_count, is_guest, least}
use Rattle.reference_model.specs.model.Parts.{is_good_vm, lacks_slot, shared_and_guest, slot_of}
use Rattle.reference_model.specs.model.Rules.{may_grow, rule}
use Rattle.reference_model.specs.model.State.{Contents, Guest, Phase, all_rooms, dying, empty}
use Rattle.reference_model.specs.model.Used.{Used, guest_at, put_back, used_of}
use Rattle.freedoms.specs.Ample.{asks_pool, is_by_order, predict_step_amply, rule_fails, IsMadeAmply, IsWant, StepsAmply}
use Rattle.freedoms.specs.AnyTrees.{LegalInAnyTrees}
use Rattle.freedoms.specs.declared.Freedoms.{Freedoms}
use Rattle.freedoms.specs.Freedoms.{view, Alike, CountsAs, JudgedWith, is_test}
use Rattle.freedoms.specs.Laws.{with_pool, with_root}
use Rattle.freedoms.specs.OwnTables.{bare_guest}
use Rattle.freedoms.proofs.ByRows.{pools_by_rows, root-at, root-is}
use Rattle.freedoms.proofs.More.{viewed}
use Rattle.freedoms.proofs.Reclaims.{reclaims_of_any}
use Rattle.freedoms.proofs.Seen.{down, up, Agrees}
use Rattle.freedoms.proofs.Totals.{total, total-same}
use Rattle.free_judge.specs.Freely.{AgreesFreely, IsReady}
use Rattle.free_judge.specs.Laws.{HasLowMemory}
use Rattle.free_judge.specs.PoolByRows.{frame_named, free_of, is_pool_frame, may_hold, may_lack_free, most_tables, pool_frames, root_of, HasPage, HasPoolByRows, IsAskedOf}
use Rattle.free_judge.proofs.PoolStands.{at-put, by-phase, by-rows, each-once, held-is, held-once, once, root-listed, rooted-is, stands, stands-dead, stands-live, Stands}
use Rattle.free_judge.proofs.PoolSteps.{agrees-by, asked, counted_judged, first-free, judged-by, no-abort, ready-alike, whole}
use Rattle.free_judge.proofs.RowsPool.{all-parts, free-length, named-first, root-other, root-some}
use Rattle.free_judge.proofs.Tabled.{tabled}
use Rattle.free_judge.proofs.TreeBlocks.{tables-most}

-- the first test that fails, by whether the VM's name is bad, its guest isn't Dying, and a frame is free

chain : Bool → Bool → Bool → Option Refusal
chain bad gone some = if bad then Some Invalid else if gone then Some NoVm else if not some then Some Perm else None

abbrev gone : VmId → Option ℕ → Guest → Bool
gone vm slot g = lacks_slot shared_and_guest slot || not (is_guest dying vm g)

fails-by : (l : Layout) (cpu : ℕ) (slot : Option ℕ) (vm : VmId) (x : Used)
    → rule_fails l cpu slot (ReclaimPool vm) x
    ≡ chain (not (is_good_vm vm)) (gone vm slot (bare_guest x.guest)) (nat_lt 0 (length x.guest.free))
unfolding rule chain
fails-by l cpu slot vm x = refl

early : (a b : Bool) (why : Refusal) → chain a b true ≡ Some why → (some : Bool) → chain a b some ≡ Some why
unfolding chain
early true b why h some = h
early false true why h some = h
early false false why h some = cc

late : (a b : Bool) → chain a b true ≡ None → chain a b false ≡ Some Perm
unfolding chain
late true b h = cc
late false true h = cc
late false false h = refl

never : {P : Type 0} (a b : Bool) → chain a b false ≡ None → P
unfolding chain
never true b h = cc
never false true h = cc
never false false h = cc

some-free : (a b some : Bool) → chain a b some ≡ None → some ≡ true
some-free a b true h = refl
some-free a b false h = never a b h

there-is : (a b some : Bool) → chain a b some ≡ None → b ≡ false
unfolding chain
there-is true b some h = cc
there-is false true some h = cc
there-is false false some h = refl

with-free : (o : Option Refusal) → ((why : Refusal) → o ≡ Some why → ⊥) → o ≡ None
with-free None h = refl
with-free (Some why) h = absurd (h why refl)

-- a guest that is Dying isn't Empty

dying-phase : (vm : VmId) (slot : Option ℕ) (g : Guest) → gone vm slot g ≡ false → g.phase ≢ empty
dying-phase vm slot g h e = go (lacks_slot shared_and_guest slot) (is_guest dying vm g) h (not-dying g.phase e)
  where
    not-dying : (p : Phase) → p ≡ empty → is_guest dying vm (record g { phase = p }) ≡ false
    not-dying p e = ap (λ (q : Phase). is_guest dying vm (record g { phase = q })) e

    go : (a b : Bool) → (a || not b) ≡ false → b ≡ false → ⊥
    go true b p q = cc
    go false true p q = cc
    go false false p q = cc

-- lists

none-free : (fs : List ℕ) → nat_lt 0 (length fs) ≡ false → fs ≡ []
none-free [] h = refl
none-free (f ∷ fs) h = let bad : 1 ≤ length (f ∷ fs) = omega arith in absurd (no-length (length (f ∷ fs)) bad h)
  where
    no-length : (n : ℕ) → 1 ≤ n → nat_lt 0 n ≡ false → ⊥
    no-length n p q = let t : nat_lt 0 n ≡ true = grind (arith, nat_tests) in let bad : true ≡ false = sym t ∙ q in cc

least-first : (fs : List ℕ) → nat_lt 0 (length fs) ≡ true → (gs : List ℕ) × (fs ≡ least fs ∷ gs)
least-first [] h = cc
least-first (f ∷ fs) h = (fs, refl)

some-length : (f : ℕ) (fs : List ℕ) → 1 ≤ frame_count f fs → nat_lt 0 (length fs) ≡ true
some-length f [] h = absurd (omega arith)
some-length f (g ∷ gs) h = let n : 1 ≤ length (g ∷ gs) = omega arith in is-some (length (g ∷ gs)) n
  where
    is-some : (n : ℕ) → 1 ≤ n → nat_lt 0 n ≡ true
    is-some n p = grind (arith, nat_tests)

by-length : (fs : List ℕ) (n : ℕ) → length fs + 1 ≡ n → n ≤ 1 → fs ≡ []
by-length [] n h k = refl
by-length (f ∷ fs) n h k = absurd (omega arith)

-- replies

said-done : (w : Freedoms) (reply : Reply) (v : _) → CountsAs w (Done v) reply → reply ≡ Done v
said-done w reply v (inl e) = e
said-done w reply v (inr h) = let bad = h.1.1 in cc

want-rule : (told : Reply) (why : Refusal) → IsWant told → told ≡ Refused why → is_test why ≡ true → ⊥
want-rule told why (inl e) k t = let same : Refused NoMemory ≡ Refused why = sym e ∙ k in cc
want-rule told why (inr e) k t = let same : Refused NoPool ≡ Refused why = sym e ∙ k in cc

said-want : (w : Freedoms) (told reply : Reply) → IsWant told → CountsAs w told reply → reply ≡ told
said-want w told reply want (inl e) = e
said-want w told reply want (inr h) = absurd (want-rule told h.1.0 want h.1.1 h.1.2)

-- a refusal by Perm may be of a pool without a free frame
lack-perm : (w : Freedoms) (vm : VmId) (reply : Reply)
    → CountsAs w (Refused Perm) reply
    → may_lack_free w (ReclaimPool vm) reply ≡ true
lack-perm w vm reply (inl e) = ap (may_lack_free w (ReclaimPool vm)) e
lack-perm w vm reply (inr h) = ap (may_lack_free w (ReclaimPool vm)) h.2.1 ∙ any h.2.0 h.0
  where
    any : (why : Refusal) → w.any_refusal ≡ true → may_lack_free w (ReclaimPool vm) (Refused why) ≡ true
    any Perm e = refl
    any why e = e

-- if want of memory may be one too, any name of a refusal is as good
any-want : (w : Freedoms) (vm : VmId) (reply : Reply)
    → IsWant reply
    → may_lack_free w (ReclaimPool vm) reply ≡ true
    → CountsAs w (Refused Perm) reply
any-want w vm reply (inl e) h =
    let any : w.any_refusal ≡ true = sym (ap (may_lack_free w (ReclaimPool vm)) e) ∙ h in
    inr ((any, (Perm, refl, refl), (NoMemory, e)))
any-want w vm reply (inr e) h =
    let any : w.any_refusal ≡ true = sym (ap (may_lack_free w (ReclaimPool vm)) e) ∙ h in
    inr ((any, (Perm, refl, refl), (NoPool, e)))

-- how many tables a guest has

nothing : Block → Option ℕ
nothing b = None

no-table : (o : Option ℕ) → ((f : ℕ) → o ≡ Some f → ⊥) → o ≡ None
no-table None h = refl
no-table (Some f) h = absurd (h f refl)

count-alone : (l : Layout) (t : Tree)
    → IsInTree l.depth (l.depth + 1, 0)
    → ((b : Block) (f : ℕ) → t.table b ≡ Some f → b ≡ (l.depth + 1, 0))
    → guest_table_count l t ≡ one (is_some (t.table (l.depth + 1, 0)))
unfolding some_of nothing
count-alone l t inside alone =
    let top : Block = (l.depth + 1, 0) in
    let put =
    some-put l.depth top t.table nothing inside (λ b apart. no-table (t.table b) (λ f e. apart (alone b f e))) in
    let none : some_of l.depth nothing ≡ 0 = count_blocks-none (l.depth + 1) (l.depth + 1) (λ b. false) (λ b. refl) in
    let count : guest_table_count l t ≡ some_of l.depth t.table = refl in
    sums (guest_table_count l t) (some_of l.depth t.table) (some_of l.depth nothing)
    (one (is_some (t.table top))) count put none
  where
    sums : (c n o q : ℕ) → c ≡ n → n + 0 ≡ o + q → o ≡ 0 → c ≡ q
    sums c n o q a b d = omega arith

one-most : (b : Bool) → one b ≤ 1
one-most true = omega arith
one-most false = omega arith

-- a legal state, and the frames of its guest

module _ (l : Layout) (usable : IsUsable l) (s : Contents) (legal : LegalInAnyTrees l s) (low : HasLowMemory l) (v : ℕ)
    (alive : (s.guest v).phase ≢ empty) where
  abbrev fs : List ℕ
  fs = pool_frames l s v

  most-one : (f : ℕ) → frame_count f fs ≤ 1
  most-one f = at-most (frame_count f fs) (is_pool_frame l s v f) (each-once l s legal low v f)
    where
      at-most : (n : ℕ) (b : Bool) → n ≡ one b → n ≤ 1
      at-most n true h = omega arith
      at-most n false h = omega arith

  -- a free frame isn't the root
  free-apart : (f : ℕ)
      → 1 ≤ frame_count f (s.guest v).free
      → (r : ℕ)
      → (s.guest v).tree.table (l.depth + 1, 0) ≡ Some r
      → f ≡ r
      → ⊥
  unfolding table_uses uses_of
  free-apart f some r e same =
      let here : (s.guest v).tree.table (l.depth + 1, 0) ≡ Some f = e ∙ ap Some (sym same) in
      let table =
      uses-some l.depth f (l.depth + 1, 0) (s.guest v).tree.table
      (legal.state.inside (suc (suc v)) (l.depth + 1, 0) f here) here in
      let held = held-once l s legal low v f in
      let most = most-one f in
      sums (frame_count f (s.guest v).free) (uses_of l.depth (s.guest v).tree.table f) (frame_count f fs) some table
      held most
    where
      sums : (a b c : ℕ) → 1 ≤ a → 1 ≤ b → a + b ≡ c → c ≤ 1 → ⊥
      sums a b c p q r s = absurd (omega arith)

  free-listed : (f : ℕ) → 1 ≤ frame_count f (s.guest v).free → 1 ≤ frame_count f fs
  free-listed f some =
      sums (frame_count f (s.guest v).free) (table_uses l.depth (s.guest v).tree f) (frame_count f fs) some
      (held-once l s legal low v f)
    where
      sums : (a b c : ℕ) → 1 ≤ a → a + b ≡ c → 1 ≤ c
      sums a b c p q = omega arith

  -- a pool with a free frame has another beside the root
  another : nat_lt 0 (length (s.guest v).free) ≡ true
      → (named : Option ℕ) (root : ℕ)
      → root_of named fs ≡ Some root
      → nat_lt 0 (length (free_of named (Some root) fs)) ≡ true
  another some named root r =
      let f = least (s.guest v).free in
      let free = first-free (s.guest v).free some in
      let own = root-listed l s legal low v alive in
      let parts = all-parts named root fs (once l s legal low v named root r) in
      by-root (f == root) refl f own.0 (free-listed f free) own.2 (free-apart f free own.0 own.1) parts
    where
      left : (q : ℕ)
          → 1 ≤ frame_count q fs
          → (root ≡ q → ⊥)
          → ((f : ℕ) → frame_count f (root ∷ free_of named (Some root) fs) ≡ frame_count f fs)
          → nat_lt 0 (length (free_of named (Some root) fs)) ≡ true
      left q some apart parts =
          let next = count_next q root (free_of named (Some root) fs) in
          let all = parts q in
          let none : is_one root q ≡ 0 = ap one (eq-other root q apart) in
          some-length q (free_of named (Some root) fs) (omega arith)

      by-root : (b : Bool)
          → (least (s.guest v).free == root) ≡ b
          → (f o : ℕ)
          → 1 ≤ frame_count f fs
          → 1 ≤ frame_count o fs
          → (f ≡ o → ⊥)
          → ((f : ℕ) → frame_count f (root ∷ free_of named (Some root) fs) ≡ frame_count f fs)
          → nat_lt 0 (length (free_of named (Some root) fs)) ≡ true
      by-root b e f o some other apart parts = elim (both (root == f)) [
        | inl t ↦ left o other (λ k. apart (sym (eq-same root f t) ∙ k)) parts
        | inr t ↦ left f some (λ k. let bad : true ≡ false = sym (eq-made root f k) ∙ t in cc) parts
      ]

  top-inside : IsInTree l.depth (l.depth + 1, 0)
  top-inside = let r = legal.state.guest_parts.rooted v alive in
      legal.state.inside (suc (suc v)) (l.depth + 1, 0) r.0 r.1

  -- the frames are as many as the guest holds
  number : (named : Option ℕ) (root : ℕ) → root_of named fs ≡ Some root → length fs ≡ total l (s.guest v)
  number named root r =
      let free = free_of named (Some root) fs in
      let t = with_pool l v root free s in
      let there = pools_by_rows l s v root free legal alive (by-rows l s legal low v named root r) in
      let here : t.guest v ≡ with_root l.depth root free (s.guest v) =
      at-put s.guest v (with_root l.depth root free (s.guest v)) in
      let same =
      total-same l s t usable legal there.0 (ap (λ (c : Contents). c.shared.row) there.1) v in
      let parts : total l (t.guest v) ≡ total l (with_root l.depth root free (s.guest v)) =
      ap (λ (g : Guest). total l g) here in
      let count : guest_table_count l (with_root l.depth root free (s.guest v)).tree ≡ 1 =
      count-alone l (with_root l.depth root free (s.guest v)).tree top-inside (root-at l.depth root)
      ∙ ap (λ (o : Option ℕ). one (is_some o)) (root-is l.depth root) in
      sums (length fs) (total l (s.guest v)) (total l (t.guest v))
      (guest_table_count l (with_root l.depth root free (s.guest v)).tree) (length free) same parts count
      (free-length named root fs (once l s legal low v named root r))
    where
      sums : (n a b c f : ℕ) → a ≡ b → b ≡ c + f → c ≡ 1 → f + 1 ≡ n → n ≡ a
      sums n a b c f p q r s = omega arith

  -- if none is free, they can all be tables
  held-fit : (named : Option ℕ) (root : ℕ)
      → root_of named fs ≡ Some root
      → (s.guest v).free ≡ []
      → may_hold l.depth fs ≡ true
  held-fit named root r none =
      let all = number named root r in
      let most = tables-most l.depth (λ b. is_some ((s.guest v).tree.table b)) in
      let no : length (s.guest v).free ≡ 0 = ap (λ (xs : List ℕ). length xs) none in
      fits (length fs) (guest_table_count l (s.guest v).tree) (length (s.guest v).free)
      (most_tables l.depth) all no most
    where
      fits : (n c f m : ℕ) → n ≡ c + f → f ≡ 0 → c ≤ m → nat_le n m ≡ true
      fits n c f m p q r = grind (arith, nat_tests)

  -- and if it has no page, there is only the root
  root-only : (named : Option ℕ) (root : ℕ)
      → root_of named fs ≡ Some root
      → (s.guest v).free ≡ []
      → ((p : ℕ) → (s.guest v).tree.map p ≡ Unmapped)
      → free_of named (Some root) fs ≡ []
  root-only named root r none clean =
      let all = number named root r in
      let count = count-alone l (s.guest v).tree top-inside (legal.emptied v clean) in
      let most = one-most (is_some ((s.guest v).tree.table (l.depth + 1, 0))) in
      let no : length (s.guest v).free ≡ 0 = ap (λ (xs : List ℕ). length xs) none in
      by-length (free_of named (Some root) fs) (length fs)
      (free-length named root fs (once l s legal low v named root r))
      (sums (length fs) (guest_table_count l (s.guest v).tree) (length (s.guest v).free)
      (one (is_some ((s.guest v).tree.table (l.depth + 1, 0)))) all no count most)
    where
      sums : (n c f o : ℕ) → n ≡ c + f → f ≡ 0 → c ≡ o → o ≤ 1 → n ≤ 1
      sums n c f o p q r s = omega arith

unmapped-is : (e : Entry) → (is_unmapped e ≡ false → ⊥) → e ≡ Unmapped
unmapped-is Unmapped h = refl
unmapped-is e h = absurd (h refl)

module _ (w : Freedoms) (l : Layout) (before : Contents) (cpu : ℕ) (vm : VmId) (reply : Reply) (after ready : Contents)
    (usable : IsUsable l) (low : HasLowMemory l) (from : IsReady w l before cpu (ReclaimPool vm) reply ready) where
  abbrev Agreed : Type 0
  Agreed = AgreesFreely w l before (ReclaimPool vm) reply after (predict_step_amply l ready cpu (ReclaimPool vm))

  abbrev at : Option ℕ
  at = slot_of vm

  abbrev x_of : Contents → Used
  x_of c = used_of shared_and_guest at cpu c

  put-self : (c : Contents) → put_back shared_and_guest at cpu c (x_of c) ≡ c
  put-self c =
      used-self (record { cpu = cpu; number = 0; step = ReclaimPool vm; reply = reply; slot = at })
      (record { contents = c; rooms = all_rooms 0 })

  refusing : (c : Contents) (why : Refusal)
      → rule_fails l cpu at (ReclaimPool vm) (x_of c) ≡ Some why
      → StepsAmply l c cpu (ReclaimPool vm) (Refused why) c
  refusing c why e =
      record {
        after = x_of c;
        answers = inr (inl (record { why = why; fail = e; reply_is = refl; next = refl }));
        next = sym (put-self c);
      }

  -- of a legal state like the one before, whose guest has the judge's pool
  module _ (s : Contents) (legal : LegalInAnyTrees l s) (begins : Alike w l before s) (v : ℕ)
      (named : slot_of vm ≡ Some v)
      (h : HasPoolByRows w l (view w l s) v (ReclaimPool vm) reply ready) where
    same : Alike w l s ready
    same = ready-alike w l before cpu (ReclaimPool vm) reply after ready usable low refl from s legal begins

    all : Alike w l before ready
    all = whole w l before cpu (ReclaimPool vm) reply after ready usable low refl from s legal begins

    abbrev all-held : Bool
    all-held = h.held && may_hold l.depth (pool_frames l s v)

    abbrev name : Option ℕ
    name = frame_named (ReclaimPool vm) reply

    abbrev chain-of : Bool → Option Refusal
    chain-of some = chain (not (is_good_vm vm)) (gone vm at (bare_guest (s.guest v))) some

    guest-of : (c : Contents) → (x_of c).guest ≡ c.guest v
    unfolding used_of
    guest-of c = ap (guest_at c.guest) named

    fails-like : (c : Contents)
        → Alike w l s c
        → (some : Bool)
        → nat_lt 0 (length (c.guest v).free) ≡ some
        → rule_fails l cpu at (ReclaimPool vm) (x_of c) ≡ chain-of some
    fails-like c e some k =
        let bare : bare_guest (s.guest v) ≡ bare_guest (c.guest v) = ap (λ (d : Contents). d.guest v) e in
        fails-by l cpu at vm (x_of c)
        ∙ ap
        (λ (g : Guest). chain (not (is_good_vm vm)) (gone vm at (bare_guest g)) (nat_lt 0 (length g.free)))
        (guest-of c)
        ∙ same2 (λ (g : Guest) (b : Bool). chain (not (is_good_vm vm)) (gone vm at g) b) (sym bare) k

    abbrev free-in : Contents → Bool
    free-in c = nat_lt 0 (length (c.guest v).free)

    -- where all are held, none is free
    held-none : all-held ≡ true → free-in ready ≡ false
    held-none yes-held =
        ap (λ (xs : List ℕ). nat_lt 0 (length xs)) (held-is w l s legal low v name h.held ready h.ready_is yes-held)

    may-lack : all-held ≡ true → may_lack_free w (ReclaimPool vm) reply ≡ true
    may-lack yes-held = (h.held_is.0 (and-left h.held (may_hold l.depth (pool_frames l s v)) yes-held)).0

    alive : chain-of true ≡ None → (s.guest v).phase ≢ empty
    alive e = dying-phase vm at (bare_guest (s.guest v)) (there-is _ _ true e)

    rooted : (s.guest v).phase ≢ empty → (r : ℕ) × (root_of name (pool_frames l s v) ≡ Some r)
    rooted live =
        let own = root-listed l s legal low v live in
        root-some name (pool_frames l s v) own.0 own.2

    -- else the free frames are those of the rows
    free-is : all-held ≡ false
        → (root : ℕ)
        → root_of name (pool_frames l s v) ≡ Some root
        → (ready.guest v).free ≡ free_of name (Some root) (pool_frames l s v)
    free-is none root r =
        ap (λ (g : Guest). g.free) (rooted-is w l s legal low v root name h.held ready h.ready_is none r)

    agree-from : (told : Reply)
        → StepsAmply l ready cpu (ReclaimPool vm) told ready
        → CountsAs w told reply
        → Alike w l ready after
        → Agreed
    unfolding Agrees
    agree-from told p says ends =
        record {
          agrees = down w l before ready cpu (ReclaimPool vm) reply after all ready told p says ends;
          mapped = λ lazy. no-abort (ReclaimPool vm) reply after refl;
        }

    -- a step of the legal state agrees

    module _ (told : Reply) (next : Contents) (steps : StepsAmply l s cpu (ReclaimPool vm) told next)
        (says : CountsAs w told reply) (ends : Alike w l next after) where
      stays : steps.after ≡ x_of s → Alike w l ready after
      stays e =
          let back : next ≡ s = steps.next ∙ ap (put_back shared_and_guest at cpu s) e ∙ put-self s in
          sym same ∙ ap (view w l) (sym back) ∙ ends

      as-refused : (why : Refusal)
          → told ≡ Refused why
          → steps.after ≡ x_of s
          → rule_fails l cpu at (ReclaimPool vm) (x_of ready) ≡ Some why
          → Agreed
      as-refused why e stay fails =
          agree-from (Refused why) (refusing ready why fails) (subst (λ r. CountsAs w r reply) e says) (stays stay)

      -- the guest is Dying, and none is free in the legal state: none is in the judge's
      none-too : (why : Refusal)
          → told ≡ Refused why
          → chain-of true ≡ None
          → chain-of false ≡ Some why
          → (s.guest v).free ≡ []
          → all-held ≡ false
          → (ready.guest v).free ≡ []
      none-too why e some none free out =
          let perm : Refused why ≡ Refused Perm =
          ap Refused (some-same (sym none ∙ late (not (is_good_vm vm)) (gone vm at (bare_guest (s.guest v))) some)) in
          let lack = lack-perm w vm reply (subst (λ r. CountsAs w r reply) (e ∙ perm) says) in
          let live = alive some in
          let root = rooted live in
          let fit = held-fit l usable s legal low v live name root.0 root.1 free in
          let unheld : h.held ≡ false = first-false h.held (may_hold l.depth (pool_frames l s v)) out fit in
          let empty : (p : ℕ) → (s.guest v).tree.map p ≡ Unmapped =
          λ p. unmapped-is ((s.guest v).tree.map p)
          (λ k. let held : h.held ≡ true = h.held_is.1 (lack, (p, k)) in
          let bad : true ≡ false = sym held ∙ unheld in cc) in
          free-is out root.0 root.1 ∙ root-only l usable s legal low v live name root.0 root.1 free empty
        where
          some-same : {a b : Refusal} → Some a ≡ Some b → a ≡ b
          some-same k = cc

          first-false : (a b : Bool) → (a && b) ≡ false → b ≡ true → a ≡ false
          first-false true b p q = let bad : true ≡ false = sym q ∙ p in cc
          first-false false b p q = refl

      refused-agrees : (why : Refusal)
          → told ≡ Refused why
          → steps.after ≡ x_of s
          → rule_fails l cpu at (ReclaimPool vm) (x_of s) ≡ Some why
          → Agreed
      refused-agrees why e stay fail = elim (both (free-in s)) [
        | inl t ↦
            let first : chain-of true ≡ Some why = sym (fails-like s refl true t) ∙ fail in
            as-refused why e stay
            (fails-like ready same (free-in ready) refl ∙ early _ _ why first (free-in ready))
        | inr t ↦
            let first : chain-of false ≡ Some why = sym (fails-like s refl false t) ∙ fail in
            as-refused why e stay (by-free first (none-free (s.guest v).free t) (free-in ready) refl)
      ]
        where
          by-chain : chain-of false ≡ Some why
              → (s.guest v).free ≡ []
              → free-in ready ≡ true
              → (o : Option Refusal)
              → chain-of true ≡ o
              → rule_fails l cpu at (ReclaimPool vm) (x_of ready) ≡ Some why
          by-chain first free k (Some other) c =
              fails-like ready same true k ∙ c ∙ sym (early _ _ other c false) ∙ first
          by-chain first free k None c = elim (both all-held) [
            | inl t ↦ let bad : true ≡ false = sym k ∙ held-none t in cc
            | inr t ↦
                let none : free-in ready ≡ false =
                ap (λ (xs : List ℕ). nat_lt 0 (length xs)) (none-too why e c first free t) in
                let bad : true ≡ false = sym k ∙ none in cc
          ]

          by-free : chain-of false ≡ Some why
              → (s.guest v).free ≡ []
              → (some : Bool)
              → free-in ready ≡ some
              → rule_fails l cpu at (ReclaimPool vm) (x_of ready) ≡ Some why
          by-free first free true k = by-chain first free k (chain-of true) refl
          by-free first free false k = fails-like ready same false k ∙ first

      want-agrees : IsWant told
          → may_grow (ReclaimPool vm) ≡ true
          → steps.after ≡ x_of s
          → rule_fails l cpu at (ReclaimPool vm) (x_of s) ≡ None
          → Agreed
      want-agrees want grows stay fail =
          let some = some-free _ _ (free-in s) (sym (fails-like s refl (free-in s) refl) ∙ fail) in
          let passes : chain-of true ≡ None = sym (fails-like s refl true some) ∙ fail in
          let said = said-want w told reply want says in
          elim (both all-held) [
            | inl t ↦ agree-from (Refused Perm)
                (refusing ready Perm (fails-like ready same false (held-none t) ∙ late _ _ passes))
                (any-want w vm reply (subst IsWant (sym said) want) (may-lack t)) (stays stay)
            | inr t ↦
                let live = alive passes in
                let root = rooted live in
                let left : free-in ready ≡ true =
                ap (λ (xs : List ℕ). nat_lt 0 (length xs)) (free-is t root.0 root.1)
                ∙ another l usable s legal low v live some name root.0 root.1 in
                agree-from told
                (record {
                  after = x_of ready;
                  answers =
                      inr
                      (inr
                      (record {
                        passes = fails-like ready same true left ∙ passes;
                        grows = grows;
                        reply_is = want;
                        next = refl;
                      }));
                  next = sym (put-self ready);
                }) says (stays stay)
          ]

      -- a made step names the first free frame
      made-agrees : told ≡ Done (FrameOf (record { 0 = least (s.guest v).free }))
          → rule_fails l cpu at (ReclaimPool vm) (x_of s) ≡ None
          → Agreed
      made-agrees e fail =
          let some = some-free _ _ (free-in s) (sym (fails-like s refl (free-in s) refl) ∙ fail) in
          let passes : chain-of true ≡ None = sym (fails-like s refl true some) ∙ fail in
          let f = least (s.guest v).free in
          let said : reply ≡ Done (FrameOf (record { 0 = f })) =
          said-done w reply (FrameOf (record { 0 = f })) (subst (λ r. CountsAs w r reply) e says) in
          let told-name : name ≡ Some f = ap (frame_named (ReclaimPool vm)) said in
          let unheld : all-held ≡ false =
          not-holds all-held
          (λ t. let bad : false ≡ true = sym (ap (may_lack_free w (ReclaimPool vm)) said) ∙ may-lack t in cc) in
          let live = alive passes in
          let root = rooted live in
          let own = root-listed l s legal low v live in
          let free = first-free (s.guest v).free some in
          let listed = free-listed l usable s legal low v live f free in
          let apart = free-apart l usable s legal low v live f free own.0 own.1 in
          let root-is-named : root_of (Some f) (pool_frames l s v) ≡ Some root.0 =
          ap (λ (o : Option ℕ). root_of o (pool_frames l s v)) (sym told-name) ∙ root.1 in
          let other = root-other f (pool_frames l s v) own.0 apart own.2 root.0 root-is-named in
          let first = named-first f root.0 (pool_frames l s v) other listed in
          let st = stands-live w l s legal low v root.0 name h.held ready live h.ready_is unheld root.1 in
          let second : (st.state.guest v).free ≡ f ∷ first.0 =
          ap (λ (g : Guest). g.free) st.guest ∙ free-is unheld root.0 root.1
          ∙ ap (λ (o : Option ℕ). free_of o (Some root.0) (pool_frames l s v)) told-name ∙ first.1 in
          let any =
          reclaims_of_any l s st.state cpu v f vm first.0 next legal st.legal st.own named second
          (subst (λ r. StepsAmply l s cpu (ReclaimPool vm) r next) e steps) in
          agrees-by w l before cpu (ReclaimPool vm) reply after ready usable low refl from s legal begins
          (record {
            state = st.state;
            legal = st.legal;
            own = st.own;
            guest =
                subst (λ o. guest_at st.state.guest o ≡ guest_at ready.guest o) (sym named) st.guest;
          })
          (Done (FrameOf (record { 0 = f }))) any.0 any.1 (subst (λ r. CountsAs w r reply) e says)
          (sym (viewed w l next any.0 any.2) ∙ ends)

      value-is : IsMadeAmply l cpu at (ReclaimPool vm) (x_of s) told steps.after
          → told ≡ Done (FrameOf (record { 0 = least (s.guest v).free }))
      unfolding rule
      value-is p =
          p.reply_is ∙ ap (λ (g : Guest). Done (FrameOf (record { 0 = least g.free }))) (guest-of s)

      pub step-agrees : Agreed
      step-agrees = elim (steps.answers) [
        | inl p ↦ made-agrees (value-is p) p.passes
        | inr (inl p) ↦ refused-agrees p.why p.reply_is p.next p.fail
        | inr (inr p) ↦ want-agrees p.reply_is p.grows p.next p.passes
      ]

    -- agreement is of a step from a legal state

    abbrev Judged : Type 0
    Judged = JudgedWith w l before cpu (ReclaimPool vm) reply after

    -- all frames are held
    held-judged : all-held ≡ true → (s.guest v).phase ≢ empty → Agreed → Judged
    unfolding Agrees
    held-judged yes-held live a =
        let page : HasPage (s.guest v).tree.map =
        (h.held_is.0 (and-left h.held (may_hold l.depth (pool_frames l s v)) yes-held)).1 in
        let u =
        tabled l s legal low v live page (and-right h.held (may_hold l.depth (pool_frames l s v)) yes-held) in
        let own = viewed w l s u.0 u.2 in
        let none : free-in u.0 ≡ false = ap (λ (xs : List ℕ). nat_lt 0 (length xs)) u.3 in
        let k = up w l before ready cpu (ReclaimPool vm) reply after all a.agrees in
        let here : rule_fails l cpu at (ReclaimPool vm) (x_of ready) ≡ chain-of false =
        fails-like ready same false (held-none yes-held) in
        elim (k.steps.answers) [
          | inl p ↦ never _ _ (sym here ∙ p.passes)
          | inr (inl p) ↦
              let back : k.next ≡ ready =
              k.steps.next ∙ ap (put_back shared_and_guest at cpu ready) p.next ∙ put-self ready in
              record {
                state = u.0;
                next = u.0;
                told = Refused p.why;
                begins = begins ∙ own;
                itself = λ r. cc;
                legal = u.1;
                steps = refusing u.0 p.why (fails-like u.0 own false none ∙ sym here ∙ p.fail);
                says = subst (λ r. CountsAs w r reply) p.reply_is k.says;
                ends = sym own ∙ same ∙ ap (view w l) (sym back) ∙ k.ends;
                mapped = λ lazy. no-abort (ReclaimPool vm) reply after refl;
              }
          | inr (inr p) ↦ never _ _ (sym here ∙ p.passes)
        ]

    with-stand : Stands l s (Some v) ready → Agreed → Judged
    with-stand st a =
        judged-by w l before cpu (ReclaimPool vm) reply after ready usable low refl from s legal begins
        (record {
          state = st.state;
          legal = st.legal;
          own = st.own;
          guest =
              subst (λ o. guest_at st.state.guest o ≡ guest_at ready.guest o) (sym named) st.guest;
        }) a

    pub agreement-judged : Agreed → Judged
    agreement-judged a = elim (both all-held) [
      | inl t ↦ by-phase (s.guest v).phase
          (λ dead. with-stand (stands-dead w l s legal low v name h.held ready dead h.ready_is) a)
          (λ live. held-judged t live a)
      | inr t ↦ with-stand (stands w l s legal low v name h.held ready h.ready_is t) a
    ]

  -- by the slot that the VM's name has

  module _ (s : Contents) (legal : LegalInAnyTrees l s) (begins : Alike w l before s) where
    asked-here : IsAskedOf w l (view w l s) at (ReclaimPool vm) reply ready
    asked-here = asked w l before cpu (ReclaimPool vm) reply after ready usable low refl from s legal begins

    abbrev none-stands : slot_of vm ≡ None → Stands l s at ready
    none-stands e =
        record {
          state = s;
          legal = legal;
          own = refl;
          guest = subst (λ o. guest_at s.guest o ≡ guest_at ready.guest o) (sym e) refl;
        }

    pub to-judged : Agreed → JudgedWith w l before cpu (ReclaimPool vm) reply after
    to-judged a = by-slot (slot_of vm) refl asked-here
      where
        by-slot : (slot : Option ℕ)
            → slot_of vm ≡ slot
            → IsAskedOf w l (view w l s) slot (ReclaimPool vm) reply ready
            → JudgedWith w l before cpu (ReclaimPool vm) reply after
        by-slot None e h =
            judged-by w l before cpu (ReclaimPool vm) reply after ready usable low refl from s legal begins
            (none-stands e) a
        by-slot (Some v) e h = agreement-judged s legal begins v e h a

    pub from-step : (told : Reply) (next : Contents)
        → StepsAmply l s cpu (ReclaimPool vm) told next
        → CountsAs w told reply
        → Alike w l next after
        → Agreed
    from-step told next steps says ends = by-slot (slot_of vm) refl asked-here
      where
        by-slot : (slot : Option ℕ)
            → slot_of vm ≡ slot
            → IsAskedOf w l (view w l s) slot (ReclaimPool vm) reply ready
            → Agreed
        by-slot None e h =
            agrees-by w l before cpu (ReclaimPool vm) reply after ready usable low refl from s legal begins
            (none-stands e) told next steps says ends
        by-slot (Some v) e h = step-agrees s legal begins v e h told next steps says ends

-- the three steps

each-asked : (P : Step → Type 0) (step : Step)
    → asks_pool step ≡ true
    → ((vm : VmId) → P (Topup vm))
    → ((vm : VmId) → P (ReclaimPool vm))
    → P FinishGuest
    → P step
each-asked P (Topup vm) h a b c = a vm
each-asked P (ReclaimPool vm) h a b c = b vm
each-asked P FinishGuest h a b c = c
each-asked P step h a b c = cc

module _ (w : Freedoms) (l : Layout) (before legal : Contents) (cpu : ℕ) (reply : Reply) (after ready : Contents)
    (usable : IsUsable l) (low : HasLowMemory l) (begins : Alike w l before legal) (is : LegalInAnyTrees l legal) where
  JudgesSo : Step → Type 0
  JudgesSo step =
      IsReady w l before cpu step reply ready
      → AgreesFreely w l before step reply after (predict_step_amply l ready cpu step)
      ↔ JudgedWith w l before cpu step reply after

  reclaims-so : (vm : VmId) → JudgesSo (ReclaimPool vm)
  unfolding JudgesSo
  reclaims-so vm from = (
    λ a. to-judged w l before cpu vm reply after ready usable low from legal is begins a,
    λ j. from-step w l before cpu vm reply after ready usable low from j.state j.legal j.begins j.told j.next j.steps
        j.says j.ends,
  )

  counted-so : (step : Step) → asks_pool step ≡ true → is_by_order step ≡ false → JudgesSo step
  unfolding JudgesSo
  counted-so step asks order from =
      counted_judged w l before legal cpu step reply after ready usable low begins is asks order from

  by-step : (step : Step) → asks_pool step ≡ true → JudgesSo step
  by-step step asks =
      each-asked JudgesSo step asks (λ vm. counted-so (Topup vm) refl refl) reclaims-so
      (counted-so FinishGuest refl refl)

  pub pools_judged : (step : Step)
      → asks_pool step ≡ true
      → IsReady w l before cpu step reply ready
      → AgreesFreely w l before step reply after (predict_step_amply l ready cpu step)
      ↔ JudgedWith w l before cpu step reply after
  unfolding JudgesSo
  pools_judged step asks = by-step step asks
