-- What a try tells, from the views that its exchanges leave.
use Rattle.std.proofs.Common.{◌≡◌, ◌≢◌, ◌⊎◌, ℕ, List, [], ◌∷◌, ◌++◌, length, true, false, true≢false, refl, sym, ap, ◌∙◌, subst, ⊎_elim, inl, inr, append_assoc}
use Rattle.std.specs.Prelude.{Option, Some, None}
use Rattle.atomic_table.specs.Seated.{TableId}
use Rattle.page_state.specs.declared.layout.Layout.{Layout as TheLayout}
use Rattle.call_table.specs.declared.reply.Call.{Call}
use Rattle.page_state.specs.LayoutView.{layout_of}
use Rattle.page_state.specs.Layouts.{Layout}
use Rattle.reference_model.specs.model.Boot.{CanBoot}
use Rattle.reference_model.specs.model.History.{IsStored, calls_by}
use Rattle.reference_model.specs.model.Run.{IsRun}
use Rattle.part_types.specs.declared.parts.CpuState.{CpuState}
use Rattle.part_types.specs.Lent.{with_call}
use Rattle.part_types.specs.Logs.{StoredCalls}
use Rattle.part_table.specs.declared.rule.View.{View}
use Rattle.part_table.specs.declared.slot.Slot.{Slot}
use Rattle.part_table.specs.declared.tries.Tried.TheVariants.{Stored, Contended, LogFull}
use Rattle.part_table.specs.declared.tries.Tried.{Tried}
use Rattle.call_table.specs.declared.reply.Refusal.TheVariants.{Contended as contended, LogFull as log_full}
use Rattle.call_table.specs.declared.reply.Reply.{Reply}
use Rattle.call_table.specs.declared.reply.Reply.TheVariants.{Refused}
use Rattle.call_table.specs.declared.step.Step.{Step}
use Rattle.part_table.specs.Parts.{numbers_for, uses, log_of, IsPart, IsOwn}
use Rattle.part_table.specs.Does.{Does, IsCalled, IsLeft, none_at, only_at, both_at}
use Rattle.part_table.proofs.Left.{left_by, list_left, one_cpu, own_left, stands}
use Rattle.part_table.specs.Rule.{Extends, Hands, IsIdle, Seated, tail, held_at, seen_with, taking, missing, releasing, storing, known_of, Standing, AtRest}
use Rattle.part_table.specs.Known.{seen_at, StartsWith, IsSame, AddsTries, Known, Try}
use Rattle.part_table.specs.Tried.{AllTaken, EndsIn, FoundFull, FoundRoom}
use Rattle.part_table.specs.Answered.{Answers, FindsAway, FindsLogFull, MakesCall, StoresNothing, used_by}
use Rattle.part_table.specs.Trying.{Adds, CanTry, IsAtRest, Tells, TriesOf, WhereStored, reply_of}
use Rattle.part_table.proofs.Added.{same_tries, timed}
use Rattle.part_table.proofs.Holding.{only_here, at_first, at_second}
use Rattle.part_table.proofs.Making.{called_next}
use Rattle.part_table.proofs.Pairs.{at_same, at_other, unused_seen, part_same}

module _ {A : Type 0} where
  pub added_by : (c : Call) (es : Hands A) (v w : Known)
      → w.layout ≡ v.layout
      → w.cpu ≡ v.cpu
      → w.own.log ≡ with_call c v.own.log
      → w.seen ≡ seen_with es v.seen
      → ((j : ℕ) (y : Slot A) → held_at es j ≡ Some y → uses c j ≡ true) → Extends c w → Adds c v w
  added_by c es v w b d m s only h = record {
    layout = b;
    cpu = d;
    own = m;
    others =
        λ j unused. ap (λ l. Rattle.part_table.specs.Known.at l [] j) s
        ∙ unused_seen es v.seen j (not_there j unused (held_at es j) refl);
    history = h;
  }
    where
      not_there : (j : ℕ) → uses c j ≡ false → (o : Option (Slot A)) → held_at es j ≡ o → held_at es j ≡ None
      not_there j unused None e = e
      not_there j unused (Some y) e = absurd (true≢false (sym (only j y e) ∙ unused))

  -- the log of a part that a step was lent, and of what it left
  pub log_grows : (l : Layout) (c : Call) (b a : ℕ → Option (Slot A)) (n m : CpuState) (k : ℕ) (x y : Slot A)
      → Does l c b n a m
      → b k ≡ Some x
      → a k ≡ Some y
      → log_of y ≡ with_call c (log_of x)
  log_grows l c b a n m k x y d p q = let t = d.used k (d.only k y q) in
      ap (λ (z : Slot A). log_of z) (part_same y t.1 (sym q ∙ t.3))
      ∙ (t.4 ∙ ap (λ (z : Slot A). with_call c (log_of z)) (part_same t.0 x (sym t.2 ∙ p)))

  pub two_tries : (v : View A) (g : ℕ) (x y : Slot A)
      → (taking (taking v 1 x) g y).tries
      ≡ v.tries ++ timed (length v.own.log.calls) ((1, Some (log_of x)) ∷ (g, Some (log_of y)) ∷ [])
  two_tries v g x y =
      let n : ℕ = length v.own.log.calls in
      append_assoc v.tries (timed n ((1, Some (log_of x)) ∷ [])) (timed n ((g, Some (log_of y)) ∷ []))

  -- a seat once its pass took the part k
  abbrev pub with_taken : Seated A → ℕ → Slot A → Seated A
  with_taken m k x = (taking m.0 k x, (k, None) ∷ m.1)

  -- the Shared part, then the guest g
  abbrev pub with_both : Seated A → Slot A → ℕ → Slot A → Seated A
  with_both m x g y = with_taken (with_taken m 1 x) g y

  -- or found it taken
  abbrev pub with_missed : Seated A → ℕ → Seated A
  with_missed m k = (missing m.0 k, m.1)

  -- or put it home, unused or with a call stored
  abbrev pub with_home : Seated A → ℕ → Seated A
  with_home m k = (releasing m.0 k, tail m.1)

  abbrev pub with_stored : Seated A → CpuState → Hands A → ℕ → Seated A
  with_stored m own after k = (storing own after m.0 k, tail after)

  pub home_of : {m t n : Seated A} (k : ℕ) → t ≡ m → n ≡ with_home t k → n ≡ with_home m k
  home_of k e home = home ∙ ap (λ m. with_home m k) e

  -- what a call that isn't stored tells, of a seat of which all but the tries is as before
  abbrev tells_none : List ℕ → Tried → Seated A → Seated A → Type 0
  tells_none ks t m n = IsSame (known_of m.0) (known_of n.0) × TriesOf ks t (known_of m.0) (known_of n.0)

  -- of a step that uses one part
  pub away_first : {n : Seated A} (m : Seated A) (k : ℕ) (ks : List ℕ)
      → n ≡ with_missed m k
      → tells_none (k ∷ ks) Contended m n
  away_first m k ks e = subst (tells_none (k ∷ ks) Contended m) (sym e) (
    refl,
    ((k, None) ∷ [], refl, (None, [], refl, inl (refl, refl))),
  )

  pub full_first : {n : Seated A} (m : Seated A) (k : ℕ) (ks : List ℕ) (x : Slot A)
      → n ≡ with_home (with_taken m k x) k
      → (log_of x).room ≡ 0
      → tells_none (k ∷ ks) LogFull m n
  full_first m k ks x e full = subst (tells_none (k ∷ ks) LogFull m) (sym e) (
    refl,
    ((k, Some (log_of x)) ∷ [], refl, (Some (log_of x), [], refl, inl ((log_of x, refl, full), refl))),
  )

  -- A stored call is the step's, by the seat z that it left, of which what was tried is told by itself
  pub told_stored : {step : Step} {c : Call} {l : Layout} {id : ℕ} {own owned : CpuState} {b : ℕ → Option (Slot A)}
      {z n : Seated A} (ks : List ℕ) (m : Seated A) (es : Hands A)
      → n ≡ z
      → (z.0.layout ≡ m.0.layout) × (z.0.cpu ≡ m.0.cpu) × (z.0.own ≡ owned) × (z.0.seen ≡ seen_with es m.0.seen)
      → m.0.cpu ≡ id
      → m.0.own ≡ own
      → IsCalled id own step c
      → Does l c b own (held_at es) owned
      → Extends c (known_of n.0)
      → TriesOf ks (Stored c) (known_of m.0) (known_of z.0)
      → Tells step ks (Stored c) (known_of m.0) (known_of n.0)
  told_stored {step = step} {c = c} {n = n} ks m es e same a b called d h tries = (
    subst (λ (z : ℕ × CpuState). IsCalled z.0 z.1 step c) (λ i. (sym a i, sym b i)) called,
    d.stored,
    added_by c es (known_of m.0) (known_of n.0) (ap (λ (z : Seated A). z.0.layout) e ∙ same.0)
        (ap (λ (z : Seated A). z.0.cpu) e ∙ same.1)
        (ap (λ (z : Seated A). z.0.own.log) e
        ∙ (ap (λ (k : CpuState). k.log) same.2 ∙ (d.mine ∙ ap (λ (k : CpuState). with_call c k.log) (sym b))))
        (ap (λ (z : Seated A). z.0.seen) e ∙ same.3) d.only h,
    subst (λ (z : Seated A). TriesOf ks (Stored c) (known_of m.0) (known_of z.0)) (sym e) tries,
  )

  pub stored_first : {step : Step} {c : Call} {l : Layout} {id : ℕ} {own owned : CpuState} {n : Seated A}
      (m : Seated A) (k : ℕ) (x y : Slot A)
      → n ≡ with_stored (with_taken m k x) owned ((k, Some y) ∷ []) k
      → m.0.cpu ≡ id → m.0.own ≡ own → (log_of x).room ≢ 0 → StartsWith (log_of x).calls (seen_at m.0.seen k)
      → IsCalled id own step c
      → Does l c (only_at k x) own (only_at k y) owned
      → Extends c (known_of n.0)
      → Tells step (k ∷ []) (Stored c) (known_of m.0) (known_of n.0)
  stored_first {c = c} {l = l} {own = own} {owned = owned} m k x y e a b room begun called d h =
      let grown = log_grows l c (only_at k x) (only_at k y) own owned k x y d (only_here k x) (only_here k y) in
      told_stored (k ∷ []) m ((k, Some y) ∷ []) e (refl, refl, refl, refl) a b called d h (
        (k, Some (log_of x))
            ∷ [],
        refl,
        (
          log_of x,
          [],
          refl,
          room,
          begun,
          at_same m.0.seen k (log_of y).calls []
              ∙ ap (λ (g : StoredCalls). g.calls) grown,
          refl,
        ),
      )

  -- of a step that uses two
  pub away_second : {n : Seated A} (m : Seated A) (g : ℕ) (x : Slot A)
      → n ≡ with_home (with_missed (with_taken m 1 x) g) 1
      → (log_of x).room ≢ 0
      → tells_none (1 ∷ g ∷ []) Contended m n
  away_second m g x e room = subst (tells_none (1 ∷ g ∷ []) Contended m) (sym e) (
    refl,
    (
      (1, Some (log_of x)) ∷ (g, None) ∷ [],
      append_assoc m.0.tries (timed (length m.0.own.log.calls) ((1, Some (log_of x)) ∷ []))
          (timed (length m.0.own.log.calls) ((g, None) ∷ [])),
      (Some (log_of x), (g, None) ∷ [], refl, inr ((log_of x, refl, room), (None, [], refl, inl (refl, refl)))),
    ),
  )

  pub full_second : {n : Seated A} (m : Seated A) (g : ℕ) (x y : Slot A)
      → n ≡ with_home (with_home (with_both m x g y) g) 1
      → (log_of x).room ≢ 0
      → (log_of y).room ≡ 0
      → tells_none (1 ∷ g ∷ []) LogFull m n
  full_second m g x y e room full = subst (tells_none (1 ∷ g ∷ []) LogFull m) (sym e) (
    refl,
    (
      (1, Some (log_of x)) ∷ (g, Some (log_of y)) ∷ [],
      two_tries m.0 g x y,
      (
        Some (log_of x),
        (g, Some (log_of y))
            ∷ [],
        refl,
        inr ((log_of x, refl, room), (Some (log_of y), [], refl, inl ((log_of y, refl, full), refl))),
      ),
    ),
  )

  pub stored_second : {step : Step} {c : Call} {l : Layout} {id : ℕ} {own owned : CpuState} {n : Seated A}
      (m : Seated A) (g : ℕ) (x y s t : Slot A)
      → n ≡ with_home (with_stored (with_both m x g y) owned ((g, Some t) ∷ (1, Some s) ∷ []) g) 1 → 1 ≢ g
      → m.0.cpu ≡ id
      → m.0.own ≡ own
      → (log_of x).room ≢ 0
      → (log_of y).room ≢ 0
      → StartsWith (log_of x).calls (seen_at m.0.seen 1)
      → StartsWith (log_of y).calls (seen_at m.0.seen g)
      → IsCalled id own step c
      → Does l c (both_at g y 1 x) own (both_at g t 1 s) owned
      → Extends c (known_of n.0)
      → Tells step (1 ∷ g ∷ []) (Stored c) (known_of m.0) (known_of n.0)
  stored_second {c = c} {l = l} {own = own} {owned = owned} m g x y s t e ne a b room room' begun begun' called d h =
      let grown = λ (k : ℕ) (z r : Slot A). log_grows l c (both_at g y 1 x) (both_at g t 1 s) own owned k z r d in
      told_stored (1 ∷ g ∷ []) m ((g, Some t) ∷ (1, Some s) ∷ []) e (refl, refl, refl, refl) a b called d h (
        (1, Some (log_of x)) ∷ (g, Some (log_of y)) ∷ [],
        two_tries m.0 g x y,
        (
          log_of x,
          (g, Some (log_of y)) ∷ [],
          refl,
          room,
          begun,
          at_other ((1, (log_of s).calls) ∷ m.0.seen) g 1 (log_of t).calls [] ne
              ∙ (at_same m.0.seen 1 (log_of s).calls []
              ∙ ap (λ (z : StoredCalls). z.calls) (grown 1 x s (at_second g 1 y x ne) (at_second g 1 t s ne))),
          (
            log_of y,
            [],
            refl,
            room',
            begun',
            at_same ((1, (log_of s).calls) ∷ m.0.seen) g (log_of t).calls []
                ∙ ap (λ (z : StoredCalls). z.calls) (grown g y t (at_first g 1 y x) (at_first g 1 t s)),
            refl,
          ),
        ),
      )

  -- what a pass that can try has of its CPU
  pub cpu_at : {table seat : TableId} {l : TheLayout} {own : CpuState} {m : Seated A}
      → CanTry table l own seat m
      → (m.0.layout ≡ l) × (m.0.cpu ≡ own.id) × (m.0.own ≡ own)
  cpu_at h = (h.rest.layout, h.rest.cpu_is, h.rest.own_is)

  -- what a seat keeps of its CPU and holds of the table, from the seat that it is
  pub cpu_told : {l : TheLayout} {id : ℕ} {own : CpuState} {m n : Seated A}
      → n ≡ m
      → (m.0.layout ≡ l) × (m.0.cpu ≡ id) × (m.0.own ≡ own)
      → m.0.on ≡ true
      → (n.0.layout ≡ l) × (n.0.cpu ≡ id) × (n.0.own ≡ own) × (n.0.on ≡ true)
  cpu_told {l = l} {id = id} {own = own} e q on =
      subst (λ (z : Seated A). (z.0.layout ≡ l) × (z.0.cpu ≡ id) × (z.0.own ≡ own) × (z.0.on ≡ true)) (sym e)
      (q.0, q.1, q.2, on)

  -- what a step may rely on, from what the last take told
  pub left_of : {l : TheLayout} {cpu : ℕ} {own : CpuState} {f : ℕ → Option (Slot A)} (w : View A)
      → Standing w
      → w.layout ≡ l
      → w.cpu ≡ cpu
      → w.own ≡ own
      → ((j : ℕ) → f j ≡ held_at w.held j)
      → IsLeft (layout_of l) cpu own f
  left_of {l = l} {cpu = cpu} {own = own} w s a b d h = record {
    ready = subst (λ (z : TheLayout). CanBoot (layout_of z)) a s.ready;
    whole = left_by s.history.end s.log;
    log = s.log;
    history =
        stands (layout_of l) s.history.end s.log
        (subst (λ (z : TheLayout). IsRun (layout_of z) s.log s.history.end) a s.history.run) s.history.stored;
    cpus = one_cpu (λ c k. (k.log.calls ≡ calls_by c s.log) × IsOwn (layout_of l) s.history.end c k) cpu own (
      ap (λ (z : CpuState). z.log.calls) (sym d) ∙ (list_left w.cpu w.own s ∙ ap (λ n. calls_by n s.log) b),
      subst (λ (z : TheLayout × (ℕ × CpuState)). IsOwn (layout_of z.0) s.history.end z.1.0 z.1.1)
          (λ i. (a i, (b i, d i)))
          (own_left w.cpu w.own s),
    );
    parts = λ j x q. let t = s.parts j x (sym (h j) ∙ q) in
        (subst (λ (z : TheLayout). IsPart (layout_of z) s.history.end j x) a t.0, t.1);
  }

  -- the same of a pass that holds nothing
  pub left_idle : (l : TheLayout) (cpu : ℕ) (own : CpuState) (w : View A)
      → AtRest w
      → w.layout ≡ l
      → w.cpu ≡ cpu
      → w.own ≡ own
      → IsLeft {A = A} (layout_of l) cpu own none_at
  left_idle l cpu own w s a b d = record {
    ready = subst (λ (z : TheLayout). CanBoot (layout_of z)) a s.ready;
    whole = left_by s.history.end s.log;
    log = s.log;
    history =
        stands (layout_of l) s.history.end s.log
        (subst (λ (z : TheLayout). IsRun (layout_of z) s.log s.history.end) a s.history.run) s.history.stored;
    cpus = one_cpu (λ c k. (k.log.calls ≡ calls_by c s.log) × IsOwn (layout_of l) s.history.end c k) cpu own (
      ap (λ (z : CpuState). z.log.calls) (sym d) ∙ (list_left w.cpu w.own s ∙ ap (λ n. calls_by n s.log) b),
      subst (λ (z : TheLayout × (ℕ × CpuState)). IsOwn (layout_of z.0) s.history.end z.1.0 z.1.1)
          (λ i. (a i, (b i, d i)))
          (own_left w.cpu w.own s),
    );
    parts = λ j x q. absurd cc;
  }

  -- after a stored call a pass's own state is as a run leaves it
  pub rest_added : (c : Call) (w : View A) → Extends c (known_of w) → AtRest w
  rest_added c w h = record {
    ready = h.left.ready;
    whole = h.left.whole;
    log = h.left.log;
    history = h.left.history;
    cpus = h.left.cpus;
    parts = λ j x q. absurd cc;
  }

  -- a pass that could try is at rest again, where it stored no call and where it stored one
  pub rests : {table old seat : TableId} {l : TheLayout} {own : CpuState} {m n : Seated A}
      → CanTry table l own old m
      → (hs : Hands A) (ts : List (ℕ × Try))
      → n ≡ (record m.0 { held = hs; tries = ts }, m.1)
      → seat ≡ old
      → ((j : ℕ) → held_at hs j ≡ None) → IsAtRest table l own.id own seat n
  rests {table = table} {seat = seat} {l = l} {own = own} h hs ts e same idle =
      subst (IsAtRest table l own.id own seat) (sym e) record {
        same = same ∙ h.rest.same;
        on = h.rest.on;
        layout = h.rest.layout;
        cpu_is = h.rest.cpu_is;
        own_is = h.rest.own_is;
        empty = h.rest.empty;
        idle = idle;
        left = h.rest.left;
      }

  pub rests_stored : {table old seat : TableId} {l : TheLayout} {own owned : CpuState} {m n : Seated A} {cs : Hands A}
      → CanTry table l own old m
      → (c : Call) (seen : List (ℕ × List Call)) (hs : Hands A) (ts : List (ℕ × Try))
      → n ≡ (record m.0 { own = owned; seen = seen; held = hs; tries = ts }, cs)
      → cs ≡ []
      → seat ≡ old
      → ((j : ℕ) → held_at hs j ≡ None)
      → Extends c (known_of n.0)
      → IsAtRest table l own.id owned seat n
  rests_stored {n = n} h c seen hs ts e none same idle ends = record {
    same = same ∙ h.rest.same;
    on = ap (λ (z : Seated A). z.0.on) e ∙ h.rest.on;
    layout = ap (λ (z : Seated A). z.0.layout) e ∙ h.rest.layout;
    cpu_is = ap (λ (z : Seated A). z.0.cpu) e ∙ h.rest.cpu_is;
    own_is = ap (λ (z : Seated A). z.0.own) e;
    empty = ap (λ (z : Seated A). z.1) e ∙ none;
    idle = λ j. ap (λ (z : Seated A). held_at z.0.held j) e ∙ idle j;
    left = rest_added c n.0 ends;
  }

  -- what a call left of a seat's view stands after a further part went home
  pub rest_home : {c : Call} {n : Seated A} (m : Seated A)
      → n ≡ with_home m 1
      → Extends c (known_of m.0)
      → Extends c (known_of n.0)
  rest_home {c = c} m e h = subst (λ (z : Seated A). Extends c (known_of z.0)) (sym e) record {
    left = h.left;
    ends = h.ends;
    seen = h.seen;
  }

  -- the step that a view's layout, parts and state give, from that which the call was lent
  pub does_for : {l : TheLayout} {c : Call} {b a : ℕ → Option (Slot A)} {own owned : CpuState} (w : View A)
      → w.layout ≡ l
      → w.own ≡ own
      → ((k : ℕ) → b k ≡ held_at w.held k)
      → Does (layout_of l) c b own a owned
      → Does (layout_of w.layout) c (held_at w.held) w.own a owned
  does_for {c = c} {a = a} {owned = owned} w p q h d =
      subst (λ (z : TheLayout × CpuState). Does (layout_of z.0) c (held_at w.held) z.1 a owned)
      (λ i. (sym p i, sym q i)) record {
        stored = d.stored;
        mine = d.mine;
        used = λ k u. let t = d.used k u in (t.0, t.1, sym (h k) ∙ t.2, t.3, t.4);
        only = d.only;
        goes = λ s ps o. d.goes s (λ k x e. ps k x (sym (h k) ∙ e)) o;
        wants =
            λ why s ps o change made has. d.wants why s (λ k x e. ps k x (sym (h k) ∙ e)) o change made
            (λ k x e. has k x (sym (h k) ∙ e));
      }

-- what one try of a step comes to, where the CPU's own log is tested first
abbrev ComesTo : Step → Tried → Known → Known → Type 0
ComesTo step LogFull v w =
    ((v.own.log.room ≡ 0) × IsSame v w × (w.tries ≡ v.tries))
    ⊎ ((v.own.log.room ≢ 0) × Tells step (used_by step v) LogFull v w)
ComesTo step (Stored c) v w = (v.own.log.room ≢ 0) × Tells step (used_by step v) (Stored c) v w
ComesTo step Contended v w = (v.own.log.room ≢ 0) × Tells step (used_by step v) Contended v w

-- the same with its reply
abbrev pub Replies : Step → Reply → Known → Known → Type 0
Replies step reply v w = (t : Tried) × (reply ≡ reply_of t) × ComesTo step t v w

-- the reply to a try, where the CPU's own log had room
pub replies_of : (step : Step) (t : Tried) (reply : Reply) (u v w : Known) (own : CpuState)
    → u ≡ v
    → v.own ≡ own
    → reply ≡ reply_of t
    → own.log.room ≢ 0
    → Tells step (numbers_for own step) t v w → Replies step reply u w
replies_of step t reply u v w own same is told room tells = (
  t,
  told,
  of t
      (subst (λ (z : Known × CpuState). Tells step (numbers_for z.1 step) t z.0 w)
      (λ i. (sym same i, at i)) tells),
)
  where
    at : own ≡ u.own
    at = sym is ∙ ap (λ (z : Known). z.own) (sym same)

    roomy : u.own.log.room ≢ 0
    roomy = subst (λ (k : CpuState). k.log.room ≢ 0) at room

    of : (t : Tried) → Tells step (used_by step u) t u w → ComesTo step t u w
    of (Stored c) h = (roomy, h)
    of Contended h = (roomy, h)
    of LogFull h = inr (roomy, h)

-- no try of these found a part taken by another pass
abbrev NoneAway : List Try → Type 0
NoneAway ts = (k : ℕ) (before after : List Try) → ts ≡ before ++ (k, None) ∷ after → ⊥

none_tried : NoneAway []
none_tried k [] after e = cc
none_tried k (x ∷ before) after e = cc

abbrev first_found : List Try → Option StoredCalls
first_found [] = None
first_found (x ∷ xs) = x.1

one_more_taken : (j : ℕ) (log : StoredCalls) (rest : List Try) → NoneAway rest → NoneAway ((j, Some log) ∷ rest)
one_more_taken j log rest h k [] after e = let never : Some log ≡ None = ap first_found e in cc
one_more_taken j log rest h k (x ∷ before) after e = let later : rest ≡ before ++ (k, None) ∷ after = cc in
    h k before after later

taken_as : (k : ℕ) (x : Option StoredCalls) (log : StoredCalls) (rest : List Try)
    → x ≡ Some log
    → NoneAway rest
    → NoneAway ((k, x) ∷ rest)
taken_as k x log rest e h =
    subst (λ (o : Option StoredCalls). NoneAway ((k, o) ∷ rest)) (sym e) (one_more_taken k log rest h)

taken_none_away : (c : Call) (v w : Known) (ks : List ℕ) (ts : List Try) → AllTaken c v w ks ts → NoneAway ts
taken_none_away c v w [] ts t = subst NoneAway (sym t) none_tried
taken_none_away c v w (k ∷ ks) ts t =
    subst NoneAway (sym t.2) (one_more_taken k t.0 t.1 (taken_none_away c v w ks t.1 t.6))

full_none_away : (ks : List ℕ) (ts : List Try) → EndsIn FoundFull ks ts → NoneAway ts
full_none_away [] ts t = absurd t
full_none_away (k ∷ ks) ts (x, rest, is, how) = subst NoneAway (sym is) (⊎_elim
    (λ (h : FoundFull x × (rest ≡ [])). taken_as k x h.0.0 rest h.0.1 (subst NoneAway (sym h.1) none_tried))
    (λ (h : FoundRoom x × EndsIn FoundFull ks rest). taken_as k x h.0.0 rest h.0.1 (full_none_away ks rest h.1))
    how)

-- what is so where the call of a try is stored
pub where_stored : {F : Type 0} (t : Tried) (reply : Reply) → reply ≡ reply_of t → WhereStored t F → IsStored reply → F
where_stored (Stored c) reply e h s = h
where_stored Contended reply e h s = absurd (subst IsStored e s)
where_stored LogFull reply e h s = absurd (subst IsStored e s)

module _ (step : Step) (reply : Reply) (v w : Known) where
  -- what a stored call's reply tells
  stores_of : Replies step reply v w → IsStored reply → MakesCall step reply v w
  stores_of a s = of a.0 a.1 a.2
    where
      of : (t : Tried) → reply ≡ reply_of t → ComesTo step t v w → MakesCall step reply v w
      of (Stored c) e h =
          record {
            call = c;
            call_is = called_next step reply v c e h.1.0;
            room = h.0;
            layout = h.1.2.layout;
            cpu = h.1.2.cpu;
            own = h.1.2.own;
            left = h.1.2.history.left;
            ends = h.1.2.history.ends;
            seen = h.1.2.history.seen;
            others = h.1.2.others;
            tries = h.1.3.0;
            tried = h.1.3.1;
            taken = h.1.3.2;
          }
      of Contended e h = absurd (subst IsStored e s)
      of LogFull e h = absurd (subst IsStored e s)

  -- what Contended tells
  away_of : Replies step reply v w → reply ≡ Refused contended → StoresNothing (FindsAway step v) v w
  away_of a s = of a.0 a.1 a.2
    where
      of : (t : Tried) → reply ≡ reply_of t → ComesTo step t v w → StoresNothing (FindsAway step v) v w
      of (Stored c) e h = absurd (subst IsStored (sym e ∙ s) h.1.1)
      of Contended e h = record { same = h.1.0; tries = h.1.1.0; tried = h.1.1.1; found = (h.0, h.1.1.2) }
      of LogFull e h = let never : Refused contended ≡ Refused log_full = sym s ∙ e in cc

  -- a part that another pass has is told by Contended alone
  met_of : Replies step reply v w
      → (part : ℕ) (before after : List Try)
      → AddsTries (before ++ (part, None) ∷ after) v w
      → reply ≡ Refused contended
  met_of a part before after tried = of a.0 a.1 a.2
    where
      apart : (ts : List Try) → AddsTries ts v w → NoneAway ts → ⊥
      apart ts is none =
          none part before after (same_tries v w ts (before ++ (part, None) ∷ after) is tried)

      of : (t : Tried) → reply ≡ reply_of t → ComesTo step t v w → reply ≡ Refused contended
      of (Stored c) e h = absurd (apart h.1.3.0 h.1.3.1 (taken_none_away c v w (used_by step v) h.1.3.0 h.1.3.2))
      of Contended e h = e
      of LogFull e h = absurd (⊎_elim by_own by_part h)
        where
          by_own : (v.own.log.room ≡ 0) × IsSame v w × (w.tries ≡ v.tries) → ⊥
          by_own own = apart [] (own.2 ∙ sym (Rattle.std.proofs.Common.append-nil v.tries)) none_tried

          by_part : (v.own.log.room ≢ 0) × Tells step (used_by step v) LogFull v w → ⊥
          by_part part = apart part.1.1.0 part.1.1.1 (full_none_away (used_by step v) part.1.1.0 part.1.1.2)

  -- what LogFull tells
  full_of : Replies step reply v w → reply ≡ Refused log_full → StoresNothing (FindsLogFull step v) v w
  full_of a s = of a.0 a.1 a.2
    where
      by_own : (v.own.log.room ≡ 0) × IsSame v w × (w.tries ≡ v.tries) → StoresNothing (FindsLogFull step v) v w
      by_own h =
          record {
            same = h.1;
            tries = [];
            tried = h.2
                ∙ sym (Rattle.std.proofs.Common.append-nil v.tries);
            found = inl (h.0, refl);
          }

      by_part : (v.own.log.room ≢ 0) × Tells step (used_by step v) LogFull v w → StoresNothing (FindsLogFull step v) v w
      by_part h = record { same = h.1.0; tries = h.1.1.0; tried = h.1.1.1; found = inr (h.0, h.1.1.2) }

      of : (t : Tried) → reply ≡ reply_of t → ComesTo step t v w → StoresNothing (FindsLogFull step v) v w
      of (Stored c) e h = absurd (subst IsStored (sym e ∙ s) h.1.1)
      of Contended e h = let never : Refused log_full ≡ Refused contended = sym s ∙ e in cc
      of LogFull e h = ⊎_elim by_own by_part h

  -- what the reply tells
  pub answers_of : Replies step reply v w → Answers step reply v w
  answers_of a = record { stored = stores_of a; contended = away_of a; met = met_of a; log_full = full_of a }
