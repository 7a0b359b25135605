-- Two runs whose parts are the same have one end: calls that use no part in common can be made in either order.
use Rattle.std.proofs.Common.{◌≡◌, ◌≢◌, ℕ, suc, ◌<◌, All, arith, refl, ap, sym, ◌∙◌, subst, inl, inr, List, [], ◌∷◌, ◌++◌}
use Rattle.std.specs.Prelude.{Bool, true, false, ◌==◌, ◌⊎◌, filter}
use Rattle.std.proofs.lemmas.List.Elements.{All-cons, filter-append}
use mathlib.Core.Path.{fun_ext}
use Rattle.call_table.specs.declared.reply.Call.{Call}
use Rattle.reference_model.specs.model.State.{Reference}
use Rattle.page_state.specs.Layouts.{Layout}
use Rattle.reference_model.specs.model.Parts.{Part, vm_part, shared_part, guest_part}
use Rattle.reference_model.specs.model.Rules.{call_uses}
use Rattle.reference_model.specs.model.Step.{Steps}
use Rattle.reference_model.specs.model.Boot.{boot}
use Rattle.reference_model.specs.model.Run.{Runs}
use Rattle.reference_model.specs.model.History.{calls_on, calls_by, IsStored}
use Rattle.reference_model.specs.claims.Laws.{Agree, AgreeBeside, PartsEnd, vms_in, shared_in, guest_in, cpu_in}
use Rattle.reference_model.specs.claims.OrderLaws.{PartsRun, PartsHistory}
use Rattle.page_state.proofs.Common.{both, eq-self, eq-same, eq-other, same2, same4}
use Rattle.reference_model.proofs.Steps.{state_of, all_of, whole, first-same, second-same, step_changes, step_reads, step_once}

-- states of equal parts are equal
state-same : (s t : Reference)
    → vms_in s ≡ vms_in t
    → shared_in s ≡ shared_in t
    → ((v : ℕ) → guest_in v s ≡ guest_in v t)
    → ((c : ℕ) → cpu_in c s ≡ cpu_in c t)
    → s ≡ t
unfolding state_of all_of
state-same s t a b g k = same2 whole
    (same4 state_of (first-same a) (first-same b) (fun_ext (λ v. first-same (g v))) (fun_ext (λ c. first-same (k c))))
    (same4 all_of (second-same a) (second-same b) (fun_ext (λ v. second-same (g v))) (fun_ext (λ c. second-same (k c))))

-- calls that use no part in common, of two CPUs
record Apart (c d : Call) : Type 0 where
  cpu : d.cpu ≢ c.cpu
  part : (p : Part) → call_uses p c ≡ true → call_uses p d ≡ false

apart-sym : (c d : Call) → Apart c d → Apart d c
apart-sym c d a = record {
  cpu = λ e. a.cpu (sym e);
  part =
      λ p h. elim (both (call_uses p c)) [ inl u ↦ let unused : call_uses p d ≡ false = a.part p u in cc | inr u ↦ u ];
}

agree-sym : (c : Call) (s t : Reference) → Agree c s t → Agree c t s
agree-sym c s t a =
    record {
      vms = λ h. sym (a.vms h);
      shared = λ h. sym (a.shared h);
      guest = λ v h. sym (a.guest v h);
      cpu = sym a.cpu;
    }

-- what a call apart from another changes, the other doesn't use
apart-agree : (c d : Call) (s m : Reference) → Apart c d → AgreeBeside d s m → Agree c s m
apart-agree c d s m a b = record {
  vms = λ h. b.vms (a.part vm_part h);
  shared = λ h. b.shared (a.part shared_part h);
  guest = λ v h. b.guest v (a.part (guest_part v) h);
  cpu = b.cpu c.cpu (λ e. a.cpu (sym e));
}

-- one part, changed by two calls in both orders: from s by the second to m and by the first to n, or by the first to m'
-- and by the second to n'
corner : {X : Type 0} (first second : Bool) (s m n m' n' : X)
    → (first ≡ true → second ≡ false)
    → (second ≡ false → m ≡ s)
    → (first ≡ false → n ≡ m)
    → (first ≡ false → m' ≡ s)
    → (second ≡ false → n' ≡ m')
    → (first ≡ true → m' ≡ n)
    → (second ≡ true → n' ≡ m)
    → n' ≡ n
corner true second s m n m' n' a b c d e f g = e (a refl) ∙ f refl
corner false true s m n m' n' a b c d e f g = g refl ∙ sym (c refl)
corner false false s m n m' n' a b c d e f g = e refl ∙ d refl ∙ sym (b refl) ∙ sym (c refl)

pub eq-unlike : (m n : ℕ) → (m == n) ≡ false → m ≢ n
eq-unlike m n h = λ e. let same : (m == n) ≡ true = subst (λ k. (m == k) ≡ true) e (eq-self m) in cc

-- two steps of calls apart from each other, in the other order
swapped : (l : Layout) (s m n : Reference) (c d : Call)
    → Apart c d
    → Steps l s d m
    → Steps l m c n
    → (m' : Reference) × Steps l s c m' × Steps l m' d n
swapped l s m n c d a h k =
    let beside_d : AgreeBeside d s m = step_changes l s m d h in
    let beside_c : AgreeBeside c m n = step_changes l m n c k in
    let first = step_reads l m n s c (agree-sym c s m (apart-agree c d s m a beside_d)) k in
    let m' : Reference = first.0 in
    let there : Agree c n m' = first.2 in
    let beside_first : AgreeBeside c s m' = step_changes l s m' c first.1 in
    let second = step_reads l s m m' d (apart-agree d c s m' (apart-sym c d a) beside_first) h in
    let n' : Reference = second.0 in
    let here : Agree d m n' = second.2 in
    let beside_second : AgreeBeside d m' n' = step_changes l m' n' d second.1 in
    let same : n' ≡ n = state-same n' n
    (corner (call_uses vm_part c) (call_uses vm_part d) (vms_in s) (vms_in m) (vms_in n) (vms_in m') (vms_in n')
    (a.part vm_part) beside_d.vms beside_c.vms beside_first.vms beside_second.vms there.vms here.vms)
    (corner (call_uses shared_part c) (call_uses shared_part d) (shared_in s) (shared_in m) (shared_in n)
    (shared_in m') (shared_in n')
    (a.part shared_part) beside_d.shared beside_c.shared beside_first.shared beside_second.shared there.shared
    here.shared)
    (λ v. corner (call_uses (guest_part v) c) (call_uses (guest_part v) d) (guest_in v s) (guest_in v m) (guest_in v n)
    (guest_in v m') (guest_in v n') (a.part (guest_part v)) (beside_d.guest v) (beside_c.guest v)
    (beside_first.guest v) (beside_second.guest v) (there.guest v) (here.guest v))
    (λ k. corner (k == c.cpu) (k == d.cpu) (cpu_in k s) (cpu_in k m) (cpu_in k n) (cpu_in k m') (cpu_in k n')
    (λ e. eq-other k d.cpu (λ f. a.cpu (sym f ∙ eq-same k c.cpu e)))
    (λ e. beside_d.cpu k (eq-unlike k d.cpu e))
    (λ e. beside_c.cpu k (eq-unlike k c.cpu e))
    (λ e. beside_first.cpu k (eq-unlike k c.cpu e))
    (λ e. beside_second.cpu k (eq-unlike k d.cpu e))
    (λ e. subst (λ j. cpu_in j m' ≡ cpu_in j n) (sym (eq-same k c.cpu e)) there.cpu)
    (λ e. subst (λ j. cpu_in j n' ≡ cpu_in j m) (sym (eq-same k d.cpu e)) here.cpu)) in
    (m', first.1, subst (Steps l m' d) same second.1)

-- a call apart from each of a list
abbrev AllApart : Call → List Call → Type 0
AllApart c [] = Unit {0}
AllApart c (d ∷ ds) = Apart c d × AllApart c ds

-- a call apart from all before it can be made first
sooner : (l : Layout) (c : Call) (pre post : List Call) (s u : Reference)
    → AllApart c pre
    → Runs (Steps l) s (pre ++ (c ∷ post)) u
    → Runs (Steps l) s (c ∷ (pre ++ post)) u
sooner l c [] post s u a h = h
sooner l c (d ∷ pre) post s u a h =
    let more = sooner l c pre post h.0 u a.1 h.2 in
    let turn = swapped l s h.0 more.0 c d a.0 h.1 more.1 in
    (turn.0, turn.1, (more.0, turn.2, more.2))

-- lists cut down by tests

nil_or_cons : {X : Type 0} (xs : List X) → (xs ≡ []) ⊎ ((x : X) × (rest : List X) × (xs ≡ x ∷ rest))
nil_or_cons [] = inl refl
nil_or_cons (x ∷ xs) = inr (x, xs, refl)

pub filter-true : {X : Type 0} (f : X → Bool) (x : X) (xs : List X) → f x ≡ true → filter f (x ∷ xs) ≡ x ∷ filter f xs
filter-true f x xs h = rw h

pub filter-false : {X : Type 0} (f : X → Bool) (x : X) (xs : List X) → f x ≡ false → filter f (x ∷ xs) ≡ filter f xs
filter-false f x xs h = rw h

-- nothing of a list passes, so neither does its head nor anything behind it
filter-nil : {X : Type 0} (f : X → Bool) (x : X) (xs : List X)
    → filter f (x ∷ xs) ≡ []
    → (f x ≡ false) × (filter f xs ≡ [])
filter-nil f x xs h = elim (both (f x)) [
  | inl t ↦ let e = sym (filter-true f x xs t) ∙ h in cc
  | inr t ↦ (t, sym (filter-false f x xs t) ∙ h)
]

-- the first that passes one test doesn't pass a test that nothing passes
filter-first : {X : Type 0} (f g : X → Bool) (xs : List X) (x : X) (rest : List X)
    → filter g xs ≡ x ∷ rest
    → filter f xs ≡ []
    → f x ≡ false
filter-first f g [] x rest h k = cc
filter-first f g (y ∷ xs) x rest h k = elim (both (g y)) [
  | inl t ↦
      let e : y ∷ filter g xs ≡ x ∷ rest = sym (filter-true g y xs t) ∙ h in
      let same : y ≡ x = cc in
      subst (λ z. f z ≡ false) same (filter-nil f y xs k).0
  | inr t ↦ filter-first f g xs x rest (sym (filter-false g y xs t) ∙ h) (filter-nil f y xs k).1
]

-- a list up to the first that passes
record Cut {X : Type 0} (f : X → Bool) (xs : List X) (x : X) : Type 0 where
  pre : List X
  post : List X
  whole : xs ≡ pre ++ (x ∷ post)
  none : filter f pre ≡ []

cut : {X : Type 0} (f : X → Bool) (xs : List X) (x : X) (rest : List X) → filter f xs ≡ x ∷ rest → Cut f xs x
cut f [] x rest h = cc
cut f (y ∷ xs) x rest h = elim (both (f y)) [
  | inl t ↦
      let e : y ∷ filter f xs ≡ x ∷ rest = sym (filter-true f y xs t) ∙ h in
      let same : y ≡ x = cc in
      record { pre = []; post = xs; whole = ap (λ z. z ∷ xs) same; none = refl }
  | inr t ↦
      let more : Cut f xs x = cut f xs x rest (sym (filter-false f y xs t) ∙ h) in
      record {
        pre = y
            ∷ more.pre;
        post = more.post;
        whole = ap (λ zs. y ∷ zs) more.whole;
        none = filter-false f y more.pre t
            ∙ more.none;
      }
]

-- two lists with the same passing elements, each without one that passes first in both
without : {X : Type 0} (f : X → Bool) (x : X) (pre post xs : List X)
    → filter f (pre ++ (x ∷ post)) ≡ filter f (x ∷ xs)
    → (f x ≡ true → filter f pre ≡ [])
    → filter f (pre ++ post) ≡ filter f xs
without f x pre post xs h none = elim (both (f x)) [
  | inl t ↦
      let left : filter f (pre ++ (x ∷ post)) ≡ x ∷ filter f post =
      filter-append f pre (x ∷ post) ∙ ap (λ zs. zs ++ filter f (x ∷ post)) (none t) ∙ filter-true f x post t in
      let e : x ∷ filter f post ≡ x ∷ filter f xs = sym left ∙ h ∙ filter-true f x xs t in
      let tails : filter f post ≡ filter f xs = cc in
      filter-append f pre post ∙ ap (λ zs. zs ++ filter f post) (none t) ∙ tails
  | inr t ↦ filter-append f pre post ∙ ap (λ zs. filter f pre ++ zs) (sym (filter-false f x post t))
      ∙ sym (filter-append f pre (x ∷ post)) ∙ h ∙ filter-false f x xs t
]

all-apart : (c : Call) (ds : List Call)
    → calls_by c.cpu ds ≡ []
    → ((p : Part) → call_uses p c ≡ true → calls_on p ds ≡ [])
    → AllApart c ds
all-apart c [] h k = tt
all-apart c (d ∷ ds) h k =
    let cpu = filter-nil (λ (x : Call). x.cpu == c.cpu) d ds h in
    let apart : Apart c d =
    record { cpu = eq-unlike d.cpu c.cpu cpu.0; part = λ p u. (filter-nil (call_uses p) d ds (k p u)).0 } in
    (apart, all-apart c ds cpu.1 (λ p u. (filter-nil (call_uses p) d ds (k p u)).1))

-- no call before the first of a CPU uses a part that this one uses, where the parts begin with this one
none-before : (c : Call) (pre post cs : List Call) (p : Part)
    → calls_on p (pre ++ (c ∷ post)) ≡ calls_on p (c ∷ cs)
    → calls_by c.cpu pre ≡ []
    → call_uses p c ≡ true
    → calls_on p pre ≡ []
none-before c pre post cs p h none u = elim (nil_or_cons (calls_on p pre)) [
  | inl e ↦ e
  | inr e ↦
      let left : e.0 ∷ (e.1 ++ calls_on p (c ∷ post)) ≡ calls_on p (pre ++ (c ∷ post)) =
      sym (filter-append (call_uses p) pre (c ∷ post) ∙ ap (λ zs. zs ++ calls_on p (c ∷ post)) e.2) in
      let heads : e.0 ∷ (e.1 ++ calls_on p (c ∷ post)) ≡ c ∷ calls_on p cs =
      left ∙ h ∙ filter-true (call_uses p) c cs u in
      let same : e.0 ≡ c = cc in
      let other : (e.0.cpu == c.cpu) ≡ false =
      filter-first (λ (x : Call). x.cpu == c.cpu) (call_uses p) pre e.0 e.1 e.2 none in
      absurd (eq-unlike e.0.cpu c.cpu other (ap (λ (x : Call). x.cpu) same))
]

ends : (l : Layout) (cs ds : List Call) (s t u : Reference)
    → Runs (Steps l) s cs t
    → Runs (Steps l) s ds u
    → ((p : Part) → calls_on p ds ≡ calls_on p cs)
    → ((cpu : ℕ) → calls_by cpu ds ≡ calls_by cpu cs)
    → t ≡ u
ends l [] [] s t u h k parts cpus = sym h ∙ k
ends l [] (d ∷ ds) s t u h k parts cpus = let e =
    sym (filter-true (λ (x : Call). x.cpu == d.cpu) d ds (eq-self d.cpu)) ∙ cpus d.cpu in
    cc
ends l (c ∷ cs) ds s t u h k parts cpus =
    let at : Cut (λ (x : Call). x.cpu == c.cpu) ds c =
    cut (λ (x : Call). x.cpu == c.cpu) ds c (calls_by c.cpu cs)
    (cpus c.cpu ∙ filter-true (λ (x : Call). x.cpu == c.cpu) c cs (eq-self c.cpu)) in
    let on : (p : Part) → calls_on p (at.pre ++ (c ∷ at.post)) ≡ calls_on p (c ∷ cs) =
    λ p. ap (calls_on p) (sym at.whole) ∙ parts p in
    let by : (cpu : ℕ) → calls_by cpu (at.pre ++ (c ∷ at.post)) ≡ calls_by cpu (c ∷ cs) =
    λ cpu. ap (calls_by cpu) (sym at.whole) ∙ cpus cpu in
    let none : (p : Part) → call_uses p c ≡ true → calls_on p at.pre ≡ [] =
    λ p. none-before c at.pre at.post cs p (on p) at.none in
    let first =
    sooner l c at.pre at.post s u (all-apart c at.pre at.none none)
    (subst (λ xs. Runs (Steps l) s xs u) at.whole k) in
    let same : first.0 ≡ h.0 = step_once l s first.0 h.0 c first.1 h.1 in
    ends l cs (at.pre ++ at.post) h.0 t u h.2 (subst (λ m. Runs (Steps l) m (at.pre ++ at.post) u) same first.2)
    (λ p. without (call_uses p) c at.pre at.post cs (on p) (none p))
    (λ cpu. without (λ (x : Call). x.cpu == cpu) c at.pre at.post cs (by cpu)
    (λ e. subst (λ k. calls_by k at.pre ≡ []) (eq-same c.cpu cpu e) at.none))

pub parts_end : PartsEnd
parts_end l cs ds t u h k parts cpus = ends l cs ds (boot l) t u h.leads k.leads parts cpus

-- what holds of each of a list holds of its first, and of each behind it
all-first : {X : Type 0} (P : X → Type 0) (x : X) (xs : List X) → All P (x ∷ xs) → P x
all-first P x xs h = h 0 x (omega arith)

all-rest : {X : Type 0} (P : X → Type 0) (x : X) (xs : List X) → All P (x ∷ xs) → All P xs
all-rest P x xs h k d less = h (suc k) d (omega (arith, less))

-- and of each one inside it, and of all others
all-cut : {X : Type 0} (P : X → Type 0) (x : X) (pre post : List X)
    → All P (pre ++ (x ∷ post))
    → P x × All P (pre ++ post)
all-cut P x [] post h = (all-first P x post h, all-rest P x post h)
all-cut P x (y ∷ pre) post h =
    let more = all-cut P x pre post (all-rest P y (pre ++ (x ∷ post)) h) in
    (more.0, All-cons P y (pre ++ post) (all-first P y (pre ++ (x ∷ post)) h) more.1)

-- the calls of a run, in any order that keeps its parts and the calls of each CPU, with what holds of each of them
record Moved (l : Layout) (P : Call → Type 0) (ds : List Call) (s t : Reference) : Type 0 where
  leads : Runs (Steps l) s ds t
  each : All P ds

moves : (l : Layout) (P : Call → Type 0) (ds cs : List Call) (s t : Reference)
    → Runs (Steps l) s cs t
    → All P cs
    → ((p : Part) → calls_on p ds ≡ calls_on p cs)
    → ((cpu : ℕ) → calls_by cpu ds ≡ calls_by cpu cs)
    → Moved l P ds s t
moves l P [] [] s t h a parts cpus = record { leads = h; each = a }
moves l P [] (c ∷ cs) s t h a parts cpus = let e =
    cpus c.cpu ∙ filter-true (λ (x : Call). x.cpu == c.cpu) c cs (eq-self c.cpu) in
    cc
moves l P (d ∷ ds) cs s t h a parts cpus =
    let at : Cut (λ (x : Call). x.cpu == d.cpu) cs d =
    cut (λ (x : Call). x.cpu == d.cpu) cs d (calls_by d.cpu ds)
    (sym (cpus d.cpu) ∙ filter-true (λ (x : Call). x.cpu == d.cpu) d ds (eq-self d.cpu)) in
    let on : (p : Part) → calls_on p (at.pre ++ (d ∷ at.post)) ≡ calls_on p (d ∷ ds) =
    λ p. ap (calls_on p) (sym at.whole) ∙ sym (parts p) in
    let by : (cpu : ℕ) → calls_by cpu (at.pre ++ (d ∷ at.post)) ≡ calls_by cpu (d ∷ ds) =
    λ cpu. ap (calls_by cpu) (sym at.whole) ∙ sym (cpus cpu) in
    let none : (p : Part) → call_uses p d ≡ true → calls_on p at.pre ≡ [] =
    λ p. none-before d at.pre at.post ds p (on p) at.none in
    let first =
    sooner l d at.pre at.post s t (all-apart d at.pre at.none none)
    (subst (λ xs. Runs (Steps l) s xs t) at.whole h) in
    let parted = all-cut P d at.pre at.post (subst (All P) at.whole a) in
    let more : Moved l P ds first.0 t = moves l P ds (at.pre ++ at.post) first.0 t first.2 parted.1
    (λ p. sym (without (call_uses p) d at.pre at.post ds (on p) (none p)))
    (λ cpu. sym
    (without (λ (x : Call). x.cpu == cpu) d at.pre at.post ds (by cpu)
    (λ e. subst (λ k. calls_by k at.pre ≡ []) (eq-same d.cpu cpu e) at.none))) in
    record { leads = (first.0, first.1, more.leads); each = All-cons P d ds parted.0 more.each }

pub parts_run : PartsRun
parts_run l cs ds t h parts cpus = let m =
    moves l (λ c. c.cpu < l.config.cpus) ds cs (boot l) t h.leads h.cpus parts cpus in
    record { cpus = m.each; leads = m.leads }

pub parts_history : PartsHistory
parts_history l kept cs ds h parts cpus = record {
  end = h.end;
  run = parts_run l cs ds h.end h.run parts cpus;
  stored = (moves l (λ c. IsStored c.reply) ds cs (boot l) h.end h.run.leads h.stored parts cpus).each;
  vms = h.vms ∙ ap (λ xs. (h.end.contents.vms, xs)) (sym (parts vm_part));
  shared = h.shared ∙ ap (λ xs. (h.end.contents.shared, xs)) (sym (parts shared_part));
  guest = λ v less. h.guest v less ∙ ap (λ xs. (h.end.contents.guest v, xs)) (sym (parts (guest_part v)));
  cpu = λ c less. h.cpu c less ∙ ap (λ xs. (h.end.contents.cpu c, xs)) (sym (cpus c));
}
