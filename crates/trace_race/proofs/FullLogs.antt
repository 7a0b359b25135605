-- Where a call found a log full, the log is full in the history at whose end the machine is.
use Rattle.std.proofs.Common.{◌≡◌, ◌≢◌, ℕ, suc, ◌+◌, ◌<◌, ◌≤◌, refl, sym, ap, subst, ◌∙◌, inl, inr, ⊎_elim, List, [], ◌∷◌, ◌++◌, length, length-append, append-nil, Option, Some, slice_get, arith}
use Rattle.std.specs.Prelude.{Contains}
use Rattle.std.proofs.lemmas.List.{append_assoc}
use Rattle.std.proofs.lemmas.List.Elements.{All-contains, Contains-append_left, Contains-append_right}
use Rattle.page_state.specs.declared.layout.Layout.{Layout as TheLayout}
use Rattle.page_state.specs.LayoutView.{layout_of}
use Rattle.call_table.specs.declared.reply.Call.{Call}
use Rattle.call_table.specs.declared.reply.Reply.{Reply}
use Rattle.call_table.specs.declared.step.Step.{Step}
use Rattle.reference_model.specs.model.History.{calls_by, calls_on}
use Rattle.reference_model.specs.model.Rules.{guest_slot, names}
use Rattle.part_types.specs.declared.parts.CpuState.{CpuState}
use Rattle.part_types.specs.Logs.{IsOfSize, StoredCalls}
use Rattle.part_types.specs.Lent.{with_call}
use Rattle.part_types.specs.View.{cpu_of}
use Rattle.hypercalls.specs.Uses.{parts_of}
use Rattle.part_table.specs.declared.slot.Slot.{Slot}
use Rattle.part_table.specs.Answered.{used_by}
use Rattle.part_table.specs.Before.{before_own}
use Rattle.part_table.specs.Endings.{IsEndOf}
use Rattle.part_table.specs.Parts.{in_order, parts, part_of}
use Rattle.part_table.specs.Known.{AddsTries, AreFronts, IsSame, Known, StartsWith, Try}
use Rattle.part_table.specs.Tried.{EndsIn, FoundFull, FoundRoom}
use Rattle.part_table.proofs.Added.{timed}
use Rattle.part_table.proofs.Before.{own_all}
use Rattle.cpu_threads.proofs.Full.{full_before}
use Rattle.cpu_threads.proofs.Tries.{same_on}
use Rattle.cpu_threads.specs.Machines.{FullInTheEnd, StoresInTheEnd}
use Rattle.trace_race.proofs.Kept.{kept_cases}
use Rattle.part_table.specs.Passes.{Opened, first_known}
use Rattle.part_table.specs.Beginnings.{own_in}
use Rattle.trace_race.specs.Made.{Calls, CallsIn, FindsFull, MakeAll, Makes}

-- what a pass knows after calls: it has tried more, and made more
record IsLater (most : ℕ) (v w : Known) : Type 0 where
  cpu : w.cpu ≡ v.cpu
  tried : (more : List (ℕ × Try)) × (w.tries ≡ v.tries ++ more)
  calls : StartsWith w.own.log.calls v.own.log.calls
  size : IsOfSize most v.own.log → IsOfSize most w.own.log

module _ (most : ℕ) where
  later_on : (u v w : Known) → IsLater most u v → IsLater most v w → IsLater most u w
  later_on u v w a b = record {
    cpu = b.cpu ∙ a.cpu;
    tried = (
      a.tried.0 ++ b.tried.0,
      b.tried.1
          ∙ (ap (λ (ts : List (ℕ × Try)). ts ++ b.tried.0) a.tried.1 ∙ append_assoc u.tries a.tried.0 b.tried.0),
    );
    calls = (
      a.calls.0 ++ b.calls.0,
      b.calls.1
          ∙ (ap (λ (cs : List Call). cs ++ b.calls.0) a.calls.1 ∙ append_assoc u.own.log.calls a.calls.0 b.calls.0),
    );
    size = λ s. b.size (a.size s);
  }

  -- nothing but tries
  same_later : (v w : Known) (ts : List (ℕ × Try)) → IsSame v w → w.tries ≡ v.tries ++ ts → IsLater most v w
  same_later v w ts same tried = record {
    cpu = ap (λ (k : Known). k.cpu) same;
    tried = (ts, tried);
    calls = ([], ap (λ (k : Known). k.own.log.calls) same ∙ sym (append-nil v.own.log.calls));
    size = λ s. subst (λ (k : Known). IsOfSize most k.own.log) (sym same) s;
  }

  size_more : (c : Call) (g h : StoredCalls) → h ≡ with_call c g → g.room ≢ 0 → IsOfSize most g → IsOfSize most h
  size_more c g h is room size =
      subst (IsOfSize most) (sym is)
      (let long = length-append g.calls (c ∷ []) in
      let s : length g.calls + g.room ≡ most = size in
      omega (arith, long, s, room))

  stored_later : (step : Step) (reply : Reply) (v w : Known) → StoresInTheEnd step reply v w → IsLater most v w
  stored_later step reply v w s =
      later_on v s.last w
      (same_later v s.last (timed (length v.own.log.calls) s.met.tries) s.met.same s.met.tried)
      record {
        cpu = s.stores.cpu;
        tried = (timed (length s.last.own.log.calls) s.stores.tries, s.stores.tried);
        calls = (s.stores.call ∷ [], ap (λ (g : StoredCalls). g.calls) s.stores.own);
        size = size_more s.stores.call s.last.own.log w.own.log s.stores.own s.stores.room;
      }

  full_later : (step : Step) (v w : Known) → FullInTheEnd step v w → IsLater most v w
  full_later step v w f =
      later_on v f.last w
      (same_later v f.last (timed (length v.own.log.calls) f.met.tries) f.met.same f.met.tried)
      (same_later f.last w (timed (length f.last.own.log.calls) f.full.tries) f.full.same f.full.tried)

  call_later : (step : Step) (reply : Reply) (v w : Known) → Calls step reply v w → IsLater most v w
  call_later step reply v w c = elim (kept_cases reply c.answered) [
    | inl k ↦ stored_later step reply v w (c.stored k.0)
    | inr k ↦ full_later step v w (c.full k.0)
  ]

  made_later : (v w : Known) (answers : List (Step × Reply)) → Makes v answers w → IsLater most v w
  made_later v w [] made =
      same_later v w [] (subst (IsSame v) (sym made) refl)
      (ap (λ (k : Known). k.tries) made ∙ sym (append-nil v.tries))
  made_later v w (a ∷ more) made =
      later_on v made.0 w (call_later a.0 a.1 v made.0 made.1) (made_later made.0 w more made.2)

-- the part at which tries ended that found its log full, with n calls in the own list
abbrev FoundAt : ℕ → List ℕ → List Try → Type 0
FoundAt n ks ts = (k : ℕ) × (g : StoredCalls) × Contains ks k × Contains (timed n ts) (n, (k, Some g)) × (g.room ≡ 0)

contains-here : {X : Type 0} (x : X) (xs : List X) → Contains (x ∷ xs) x
contains-here x xs = (0, omega arith, refl)

contains-later : {X : Type 0} (y x : X) (xs : List X) → Contains xs x → Contains (y ∷ xs) x
contains-later y x xs h = let less = h.1 in (suc h.0, omega arith, h.2)

full_at : (n : ℕ) (ks : List ℕ) (ts : List Try) → EndsIn FoundFull ks ts → FoundAt n ks ts
full_at n [] ts e = absurd e
full_at n (k ∷ ks) ts e = subst (FoundAt n (k ∷ ks)) (sym e.2) (⊎_elim
    (λ (h : FoundFull e.0 × (e.1 ≡ [])). (
      k,
      h.0.0,
      contains-here k ks,
      subst (λ (o : Option StoredCalls). Contains ((n, (k, o)) ∷ timed n e.1) (n, (k, Some h.0.0))) (sym h.0.1)
          (contains-here (n, (k, Some h.0.0)) (timed n e.1)),
      h.0.2,
    ))
    (λ (h : FoundRoom e.0 × EndsIn FoundFull ks e.1). let more = full_at n ks e.1 h.1 in (
      more.0,
      more.1,
      contains-later k more.0 ks more.2,
      contains-later (n, (k, e.0)) (n, (more.0, Some more.1)) (timed n e.1) more.3,
      more.4,
    ))
    e.3)

module _ {A : Type 0} (l : TheLayout) (found : List (Slot A)) (cpus : List CpuState) (end : IsEndOf l found cpus)
    (cpu : ℕ) (last : Known)
    (here : slice_get cpus cpu ≡ Some last.own)
    (fronts : AreFronts l.config.log cpu end.left.log last.tries) where
  abbrev Full : Step → Known → Type 0
  Full step v = FindsFull (layout_of l) end.left.log step v

  -- the CPU's own log was full
  own_full : (step : Step) (v : Known)
      → v.cpu ≡ cpu
      → IsOfSize l.config.log v.own.log
      → IsLater l.config.log v last
      → v.own.log.room ≡ 0
      → Full step v
  own_full step v is size later none =
      let e = end.left.cpus cpu last.own here in
      let now : length last.own.log.calls + last.own.log.room ≡ l.config.log = e.1.size in
      let was : length v.own.log.calls + v.own.log.room ≡ l.config.log = size in
      let more : length last.own.log.calls ≡ length v.own.log.calls + length later.calls.0 =
      ap (λ (cs : List Call). length cs) later.calls.1 ∙ length-append v.own.log.calls later.calls.0 in
      let all : length last.own.log.calls ≡ length (calls_by v.cpu end.left.log) =
      ap (λ (cs : List Call). length cs) e.0 ∙ ap (λ (c : ℕ). length (calls_by c end.left.log)) (sym is) in
      let full : length (calls_by v.cpu end.left.log) ≡ l.config.log = omega (arith, now, was, more, all, none) in
      let few : length (calls_by v.cpu end.left.log) ≤ length v.own.log.calls = omega (arith, full, was, none) in
      inl
      (ap (λ (cs : List Call). length (calls_by v.cpu cs))
      (own_all v.cpu (length v.own.log.calls) end.left.log few)
      ∙ full)

  -- a part's log was
  part_full : (step : Step) (v u w : Known) (ts : List Try)
      → v.cpu ≡ cpu
      → u.own ≡ v.own
      → AddsTries ts u w
      → IsLater l.config.log w last
      → EndsIn FoundFull (used_by step u) ts
      → Full step v
  part_full step v u w ts is same tried later ends =
      let n : ℕ = length u.own.log.calls in
      let f = full_at n (used_by step u) ts ends in
      let it : ℕ × Try = (n, (f.0, Some f.1)) in
      let there : Contains last.tries it =
      subst (λ (xs : List (ℕ × Try)). Contains xs it) (sym later.tried.1)
      (Contains-append_left w.tries later.tried.0 it
      (subst (λ (xs : List (ℕ × Try)). Contains xs it) (sym tried)
      (Contains-append_right u.tries (timed n ts) it f.3))) in
      let one =
      All-contains
      (λ (t : ℕ × Try). (g : StoredCalls)
      → t.1.1 ≡ Some g
      → (t.1.0 < parts)
      × IsOfSize l.config.log g
      × StartsWith (calls_on (part_of t.1.0) (before_own cpu t.0 end.left.log)) g.calls) last.tries
      it fronts there f.1 refl in
      let full = full_before l found cpus end f.0 cpu n f.1 one f.4 in
      inr (
        f.0,
        subst (λ (k : CpuState). Contains (in_order (parts_of (names step) (guest_slot (cpu_of k) step))) f.0) same f.2,
        subst
            (λ
            (z : ℕ × CpuState). length
            (calls_on (part_of f.0) (before_own z.0 (length z.1.log.calls) end.left.log)) ≡ l.config.log)
            (λ i. (sym is i, same i)) full.0,
      )

  call_in : (step : Step) (reply : Reply) (v w : Known)
      → v.cpu ≡ cpu
      → IsOfSize l.config.log v.own.log
      → IsLater l.config.log w last
      → Calls step reply v w
      → CallsIn (layout_of l) end.left.log step reply v w
  call_in step reply v w is size later c = record {
    answered = c.answered;
    stored = c.stored;
    full = λ e. let f = c.full e in (
      same_on v f.last w f.met.same f.full.same,
      ⊎_elim
          (λ (h : (f.last.own.log.room ≡ 0) × (f.full.tries ≡ [])). own_full step v is size
          (later_on l.config.log v w last (full_later l.config.log step v w f) later)
          (sym (ap (λ (k : Known). k.own.log.room) f.met.same) ∙ h.0))
          (λ
          (h : (f.last.own.log.room ≢ 0) × EndsIn FoundFull (used_by step f.last) f.full.tries). part_full step v
          f.last w f.full.tries is (ap (λ (k : Known). k.own) f.met.same) f.full.tried later h.1)
          f.full.found,
    );
  }

  all_in : (v : Known) (answers : List (Step × Reply))
      → v.cpu ≡ cpu
      → IsOfSize l.config.log v.own.log
      → Makes v answers last
      → MakeAll (CallsIn (layout_of l) end.left.log) v answers last
  all_in v [] is size made = made
  all_in v (a ∷ more) is size made =
      let one = call_later l.config.log a.0 a.1 v made.0 made.1 in (
        made.0,
        call_in a.0 a.1 v made.0 is size (made_later l.config.log made.0 last more made.2) made.1,
        all_in made.0 more (one.cpu ∙ is) (one.size size) made.2,
      )

-- the calls of a pass, in the history at whose end it is
pub made_in : {A : Type 0} (t : Opened) (found : List (Slot A)) (cpus : List CpuState)
    (end : IsEndOf t.layout found cpus) (cpu : ℕ) (last : Known) (answers : List (Step × Reply))
    → IsOfSize t.layout.config.log (own_in t.begun cpu).log
    → Makes (first_known t cpu) answers last
    → slice_get cpus cpu ≡ Some last.own
    → AreFronts t.layout.config.log cpu end.left.log last.tries
    → MakeAll (CallsIn (layout_of t.layout) end.left.log) (first_known t cpu) answers last
made_in t found cpus end cpu last answers size made here fronts =
    all_in t.layout found cpus end cpu last here fronts (first_known t cpu) answers refl size made
