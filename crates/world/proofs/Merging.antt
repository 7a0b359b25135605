-- A call that stands first in all its logs can be taken out of each list that has them all.
use Rattle.std.proofs.Common.{◌≡◌, ◌≢◌, ◌⊎◌, ℕ, zero, suc, ◌+◌, ◌<◌, ◌≤◌, List, [], ◌∷◌, ◌++◌, Bool, true, false, refl, sym, ap, ◌∙◌, subst, inl, inr, arith, length, append_assoc, append-nil, map}
use Rattle.std.specs.Prelude.{Option, Some, None, ◌==◌, filter, drop, slice_index, slice_index_or, slice_get, Vec, Result, Ok, Err, IsErrAnd, IfOk, replicate}
use Rattle.std.proofs.lemmas.List.{map-append, length-drop}
use Rattle.std.proofs.lemmas.List.Elements.{filter-append}
use Rattle.std.specs.Global.{Global}
use Rattle.std.proofs.lemmas.Option.{slice_get_past}
use Rattle.page_state.proofs.Cases.{by_lt}
use Rattle.call_table.specs.declared.reply.Call.{Call}
use Rattle.call_table.specs.declared.reply.Reply.{Reply}
use Rattle.call_table.specs.declared.step.Step.{Step}
use Rattle.page_state.proofs.Common.{both, eq-self, eq-same, eq-other, if-true, if-false}
use Rattle.reference_model.proofs.Ends.{filter-true, filter-false}
use Rattle.reference_model.specs.model.Parts.{Part, vm_part, shared_part, guest_part, is_slot}
use Rattle.reference_model.specs.model.Rules.{call_uses}
use Rattle.hypercalls.specs.Stands.{at_place}
use Rattle.world.specs.declared.merge.Histories.{Histories}
use Rattle.world.specs.declared.merge.Places.{Places}
use Rattle.world.specs.Merges.{IsMerged, ReportsMerged, log_at}
use Rattle.world.specs.inner.Merging.{LogName, on, by, has, whole, left, first_of, rest_of, IsNext, after_call, left_by}
use Rattle.call_table.specs.contracts.reply.CallPartialEq.TheImpl as calls
use Rattle.call_table.proofs.Equality.{calls_tell}

-- two calls are the same, or not
same_call : (x y : Call) → (x ≡ y) ⊎ (x ≢ y)
same_call x y = elim (both (calls.ghosts.eq x y)) [
  | inl t ↦ inl ((calls_tell x y).0 t)
  | inr f ↦ inr (λ e. let t : calls.ghosts.eq x y ≡ true = (calls_tell x y).1 e in cc)
]

drop_next : (l : List Call) (n m : ℕ) → m ≡ n + 1 → drop m l ≡ rest_of (drop n l)
drop_next l n zero e = absurd (omega (arith, e))
drop_next [] zero (suc m) e = refl
drop_next [] (suc n) (suc m) e = refl
drop_next (c ∷ cs) zero (suc zero) e = refl
drop_next (c ∷ cs) zero (suc (suc m)) e = absurd (omega (arith, e))
drop_next (c ∷ cs) (suc n) (suc m) e = drop_next cs n m (omega (arith, e))

pub drop_more : (l : List Call) (n : ℕ) → drop (n + 1) l ≡ rest_of (drop n l)
drop_more l n = drop_next l n (n + 1) refl

pub drop_past : (l : List Call) (n : ℕ) → length l ≤ n → drop n l ≡ []
drop_past [] zero e = refl
drop_past [] (suc n) e = refl
drop_past (c ∷ cs) zero e = absurd (omega (arith, e))
drop_past (c ∷ cs) (suc n) e = drop_past cs n (omega (arith, e))

pub drop_within : (l : List Call) (n : ℕ) → drop n l ≡ [] → length l ≤ n
drop_within l n e = let k = ap length e in let m = length-drop n l in omega (arith, k, m)

pub first_drop : (l : List Call) (n : ℕ) → first_of (drop n l) ≡ slice_get l n
first_drop [] zero = refl
first_drop [] (suc n) = refl
first_drop (c ∷ cs) zero = refl
first_drop (c ∷ cs) (suc n) = first_drop cs n

pub none_first : (l : List Call) → first_of l ≡ None → l ≡ []
none_first [] e = refl
none_first (x ∷ xs) e = absurd cc

-- a list cut down by each log's test
abbrev Has : (LogName → List Call) → List Call → Type 0
Has logs all = (x : LogName) → filter (has x) all ≡ logs x

pub has_merged : (h : Histories) (all : List Call) → IsMerged h all → Has (whole h) all
has_merged h all m (on p) = m.on p
has_merged h all m (by cpu) = m.by cpu

pub merged_has : (h : Histories) (all : List Call) → Has (whole h) all → IsMerged h all
merged_has h all m = record { on = λ p. m (on p); by = λ cpu. m (by cpu) }

-- what was given so far, and what is left of the logs: what is left can be merged where the whole can
pub record IsBegun (logs rests : LogName → List Call) (done : List Call) : Type 0 where
  pub each_log : (x : LogName) → logs x ≡ filter (has x) done ++ rests x
  pub goes_on : (all : List Call) → Has logs all → (more : List Call) × Has rests more

-- a list without the first call that is c
abbrev taken_from : {X Y : Type 0} → X ⊎ Y → List Call → List Call → List Call
taken_from (inl a) l m = l
taken_from (inr b) l m = m

without : Call → List Call → List Call
without c [] = []
without c (x ∷ xs) = taken_from (same_call x c) xs (x ∷ without c xs)

some_same : (x y : Call) → Some x ≡ Some y → x ≡ y
some_same x y e = cc

without_in : (f : Call → Bool) (c : Call) (m : List Call)
    → f c ≡ true
    → first_of (filter f m) ≡ Some c
    → filter f (without c m) ≡ rest_of (filter f m)
unfolding without
without_in f c [] of e = absurd cc
without_in f c (x ∷ xs) of e = go (λ q. without_in f c xs of q) (same_call x c)
  where
    go : (first_of (filter f xs) ≡ Some c → filter f (without c xs) ≡ rest_of (filter f xs))
        → (d : (x ≡ c) ⊎ (x ≢ c))
        → filter f (taken_from d xs (x ∷ without c xs)) ≡ rest_of (filter f (x ∷ xs))
    go ih (inl is) = sym (ap rest_of (filter-true f x xs (ap f is ∙ of)))
    go ih (inr ne) = elim (both (f x)) [
      | inl t ↦ absurd (ne (some_same x c (sym (ap first_of (filter-true f x xs t)) ∙ e)))
      | inr n ↦ filter-false f x (without c xs) n
          ∙ (ih (sym (ap first_of (filter-false f x xs n)) ∙ e) ∙ sym (ap rest_of (filter-false f x xs n)))
    ]

cons_same : (f : Call → Bool) (x : Call) (xs ys : List Call)
    → filter f xs ≡ filter f ys
    → filter f (x ∷ xs) ≡ filter f (x ∷ ys)
cons_same f x xs ys e = elim (both (f x)) [
  | inl t ↦ filter-true f x xs t ∙ (ap (λ l. x ∷ l) e ∙ sym (filter-true f x ys t))
  | inr n ↦ filter-false f x xs n ∙ (e ∙ sym (filter-false f x ys n))
]

without_out : (f : Call → Bool) (c : Call) (m : List Call) → f c ≡ false → filter f (without c m) ≡ filter f m
unfolding without
without_out f c [] out = refl
without_out f c (x ∷ xs) out = go (without_out f c xs out) (same_call x c)
  where
    go : filter f (without c xs) ≡ filter f xs
        → (d : (x ≡ c) ⊎ (x ≢ c))
        → filter f (taken_from d xs (x ∷ without c xs)) ≡ filter f (x ∷ xs)
    go ih (inl is) = sym (filter-false f x xs (ap f is ∙ out))
    go ih (inr ne) = cons_same f x (without c xs) xs ih

front : (l : List Call) (c : Call) → first_of l ≡ Some c → l ≡ c ∷ rest_of l
front [] c e = absurd cc
front (x ∷ xs) c e = ap (λ (y : Call). y ∷ xs) (some_same x c e)

pub used_call : (rests : LogName → List Call) (c : Call) (x : LogName)
    → has x c ≡ true
    → after_call rests c x ≡ rest_of (rests x)
used_call rests c x t = if-true (has x c) (rest_of (rests x)) (rests x) t

pub unused_call : (rests : LogName → List Call) (c : Call) (x : LogName)
    → has x c ≡ false
    → after_call rests c x ≡ rests x
unused_call rests c x f = if-false (has x c) (rest_of (rests x)) (rests x) f

filter_one : (f : Call → Bool) (done : List Call) (c : Call)
    → f c ≡ true
    → filter f (done ++ c ∷ []) ≡ filter f done ++ c ∷ []
filter_one f done c t = filter-append f done (c ∷ []) ∙ ap (λ l. filter f done ++ l) (filter-true f c [] t)

filter_none : (f : Call → Bool) (done : List Call) (c : Call) → f c ≡ false → filter f (done ++ c ∷ []) ≡ filter f done
filter_none f done c t =
    filter-append f done (c ∷ []) ∙ (ap (λ l. filter f done ++ l) (filter-false f c [] t) ∙ append-nil (filter f done))

module _ (logs rests : LogName → List Call) where
  -- the calls go on from what is left
  has_on : (c : Call) (m : List Call) → IsNext rests c → Has rests m → Has (after_call rests c) (without c m)
  has_on c m next h x = elim (both (has x c)) [
    | inl t ↦ without_in (has x) c m t (ap first_of (h x) ∙ next x t) ∙ (ap rest_of (h x) ∙ sym (used_call rests c x t))
    | inr f ↦ without_out (has x) c m f ∙ (h x ∙ sym (unused_call rests c x f))
  ]

  pub begins : ((x : LogName) → rests x ≡ logs x) → IsBegun logs rests []
  begins same = record { each_log = λ x. sym (same x); goes_on = λ all h. (all, (λ x. h x ∙ sym (same x))) }

  pub goes_further : (later : LogName → List Call) (done : List Call) (c : Call)
      → IsBegun logs rests done
      → IsNext rests c
      → ((x : LogName) → later x ≡ after_call rests c x)
      → IsBegun logs later (done ++ c ∷ [])
  goes_further later done c b next is = record {
    each_log = λ x. elim (both (has x c)) [
      | inl t ↦ b.each_log x
          ∙ (ap (λ l. filter (has x) done ++ l)
          (front (rests x) c (next x t) ∙ ap (λ l. c ∷ l) (sym (is x ∙ used_call rests c x t)))
          ∙ (sym (append_assoc (filter (has x) done) (c ∷ []) (later x))
          ∙ ap (λ l. l ++ later x) (sym (filter_one (has x) done c t))))
      | inr f ↦ b.each_log x
          ∙ (ap (λ l. filter (has x) done ++ l) (sym (is x ∙ unused_call rests c x f))
          ∙ ap (λ l. l ++ later x) (sym (filter_none (has x) done c f)))
    ];
    goes_on = λ all h. let m = b.goes_on all h in (without c m.0, (λ x. has_on c m.0 next m.1 x ∙ sym (is x)));
  }

  pub ends : (done : List Call) → IsBegun logs rests done → ((x : LogName) → rests x ≡ []) → Has logs done
  ends done b empty x =
      sym (b.each_log x ∙ (ap (λ l. filter (has x) done ++ l) (empty x) ∙ append-nil (filter (has x) done)))

  -- where no call is next, and something is left, there is no list that has them all
  pub no_list : (done : List Call)
      → IsBegun logs rests done
      → ((c : Call) → IsNext rests c → ⊥)
      → (((x : LogName) → rests x ≡ []) → ⊥)
      → (all : List Call)
      → Has logs all
      → ⊥
  no_list done b none some_left all h = let m = b.goes_on all h in stuck m.0 m.1
    where
      stuck : (m : List Call) → Has rests m → ⊥
      stuck [] w = some_left (λ x. sym (w x))
      stuck (c ∷ cs) w = none c (λ x of. ap first_of (sym (w x)) ∙ ap first_of (filter-true (has x) c cs of))

-- one call fewer is left of the lists of the CPUs
shorter : (l : List Call) (c : Call) → first_of l ≡ Some c → length (rest_of l) + 1 ≡ length l
shorter [] c e = absurd cc
shorter (x ∷ xs) c e = omega arith

same_lengths : (rests later : LogName → List Call) (n : ℕ)
    → ((k : ℕ) → k < n → later (by k) ≡ rests (by k))
    → left_by later n ≡ left_by rests n
same_lengths rests later zero same = refl
same_lengths rests later (suc n) same =
    let e = same_lengths rests later n (λ k less. same k (omega (arith, less))) in
    let f = ap length (same n (omega arith)) in
    omega (arith, e, f)

pub fewer : (rests later : LogName → List Call) (c : Call)
    → IsNext rests c
    → ((x : LogName) → later x ≡ after_call rests c x)
    → (n : ℕ)
    → c.cpu < n
    → left_by later n < left_by rests n
fewer rests later c next is zero less = absurd (omega (arith, less))
fewer rests later c next is (suc n) less = elim (both (c.cpu == n)) [
  | inl t ↦
      let here : length (later (by n)) + 1 ≡ length (rests (by n)) =
      ap (λ l. length l + 1) (is (by n) ∙ used_call rests c (by n) t) ∙ shorter (rests (by n)) c (next (by n) t) in
      let others : left_by later n ≡ left_by rests n =
      same_lengths rests later n
      (λ k below. is (by k)
      ∙ unused_call rests c (by k)
      (eq-other c.cpu k (λ e. let f = eq-same c.cpu n t in omega (arith, e, f, below)))) in
      omega (arith, here, others)
  | inr f ↦
      let here : length (later (by n)) ≡ length (rests (by n)) = ap length (is (by n) ∙ unused_call rests c (by n) f) in
      let unlike : c.cpu ≢ n = λ e. let t : (c.cpu == n) ≡ true = subst (λ k. (c.cpu == k) ≡ true) e (eq-self c.cpu) in
      cc in
      let others : left_by later n < left_by rests n = fewer rests later c next is n (omega (arith, less, unlike)) in
      omega (arith, here, others)
]

-- what was told so far are the calls that were given
pub record IsWhyIllegal (h : Histories) (g : Places) (told : List (ℕ × Step × Reply)) : Type 0 where
  pub done : List Call
  pub begun : IsBegun (whole h) (left h g) done
  pub tells : map (λ c. (c.cpu, c.step, c.reply)) done ≡ told

module _ {X : Type 0} where
  pub get_of : (l : List X) (j : ℕ) (d : X) → j < length l → d ≡ slice_index_or l j d → slice_get l j ≡ Some d
  get_of [] j d less e = absurd (omega (arith, less))
  get_of (y ∷ ys) zero d less e = ap (λ (z : X). Some z) (sym e)
  get_of (y ∷ ys) (suc j) d less e = get_of ys j d (omega (arith, less)) e

pub index_of : (l : List ℕ) (j d : ℕ) → j < length l → d ≡ slice_index_or l j d → slice_index l j ≡ d
index_of [] j d less e = absurd (omega (arith, less))
index_of (y ∷ ys) zero d less e = sym e
index_of (y ∷ ys) (suc j) d less e = index_of ys j d (omega (arith, less)) e

pub log_here : {Z : Type 0} (logs : List (Vec Call Z)) (i : ℕ) (v : Vec Call Z)
    → slice_get logs i ≡ Some v
    → log_at logs i ≡ v.items
log_here logs i v e = ap (at_place [] (λ w. w.items)) e

pub log_past : {Z : Type 0} (logs : List (Vec Call Z)) (i : ℕ) → length logs ≤ i → log_at logs i ≡ []
log_past logs i past = ap (at_place [] (λ w. w.items)) (slice_get_past logs i past)

-- where a growth was refused, nothing is said of an Ok
pub if_not_ok : {T E : Type 0} (P : T → Type 0) (Q : E → Type 0) (r : Result T E) → IsErrAnd r Q → IfOk r P
if_not_ok P Q (Ok x) h = absurd h
if_not_ok P Q (Err x) h = tt

pub zeros : (n k : ℕ) → slice_index (replicate n 0) k ≡ 0
zeros zero k = refl
zeros (suc n) zero = refl
zeros (suc n) (suc k) = zeros n k

-- nothing is left of a log whose calls were given, as a look at it told
pub given_here : {Z : Type 0} (logs : List (Vec Call Z)) (i place : ℕ) (v : Vec Call Z) (read : List Call)
    → i < length logs
    → v ≡ slice_index_or logs i v
    → read ≡ v.items
    → drop place read ≡ []
    → drop place (log_at logs i) ≡ []
given_here logs i place v read inside log is none =
    ap (drop place) (log_here logs i v (get_of logs i v inside log) ∙ sym is) ∙ none

pub given_back : {Z : Type 0} (logs : List (Vec Call Z)) (i place : ℕ) (v : Vec Call Z) (read : List Call)
    → i < length logs
    → v ≡ slice_index_or logs i v
    → read ≡ v.items
    → drop place (log_at logs i) ≡ []
    → drop place read ≡ []
given_back logs i place v read inside log is none =
    ap (drop place) (is ∙ sym (log_here logs i v (get_of logs i v inside log))) ∙ none

nothing_left : (l : List Call) (n : ℕ) → l ≡ [] → drop n l ≡ []
nothing_left l n e = ap (drop n) e ∙ drop_past [] n (omega arith)

module _ (h : Histories) (g : Places) where
  -- the call that stands first in what is left of a CPU's list
  pub first_by : (cpu place : ℕ) (v : Vec Call Global) (o : Option Call)
      → slice_get h.cpus.items cpu ≡ Some v
      → slice_index g.cpus.items cpu ≡ place
      → slice_get v.items place ≡ o
      → first_of (left h g (by cpu)) ≡ o
  first_by cpu place v o e f q =
      (λ i. first_of (drop (f i) (log_here h.cpus.items cpu v e i))) ∙ (first_drop v.items place ∙ q)

  -- the same, as it is read
  pub first_read : (cpu place : ℕ) (v : Vec Call Global) (read : List Call)
      → cpu < length h.cpus.items
      → v ≡ slice_index_or h.cpus.items cpu v
      → cpu < length g.cpus.items
      → place ≡ slice_index_or g.cpus.items cpu place
      → read ≡ v.items
      → (o : Option Call)
      → slice_get read place ≡ o
      → first_of (left h g (by cpu)) ≡ o
  first_read cpu place v read inside log fits placed is o got =
      first_by cpu place v o (get_of h.cpus.items cpu v inside log) (index_of g.cpus.items cpu place fits placed)
      (subst (λ xs. slice_get xs place ≡ o) is got)

  -- what is next of a CPU is that call
  pub next_first : (cpu : ℕ) (c : Call) → c.cpu ≡ cpu → IsNext (left h g) c → first_of (left h g (by cpu)) ≡ Some c
  next_first cpu c e next = subst (λ k. first_of (left h g (by k)) ≡ Some c) e (next (by c.cpu) (eq-self c.cpu))

  -- so there is one at most
  pub next_same : (cpu : ℕ) (c d : Call)
      → c.cpu ≡ cpu
      → IsNext (left h g) c
      → first_of (left h g (by cpu)) ≡ Some d
      → c ≡ d
  next_same cpu c d e next f = some_same c d (sym (next_first cpu c e next) ∙ f)

  -- a call of no CPU isn't next
  pub next_inside : (c : Call) → IsNext (left h g) c → c.cpu < length h.cpus.items
  next_inside c next = by_lt c.cpu (length h.cpus.items) (λ less. less)
      (λ past. let none : first_of (left h g (by c.cpu)) ≡ None =
      ap first_of
      (nothing_left (log_at h.cpus.items c.cpu) (slice_index g.cpus.items c.cpu)
      (log_past h.cpus.items c.cpu past)) in
      let some = next (by c.cpu) (eq-self c.cpu) in
      absurd cc)

  -- next in the logs of its parts, and in its CPU's
  pub next_made : (cpu : ℕ) (c : Call)
      → c.cpu ≡ cpu
      → first_of (left h g (by cpu)) ≡ Some c
      → ((p : Part) → call_uses p c ≡ true → first_of (left h g (on p)) ≡ Some c)
      → IsNext (left h g) c
  next_made cpu c e f parts (on p) of = parts p of
  next_made cpu c e f parts (by k) of = subst (λ n. first_of (left h g (by n)) ≡ Some c) (sym e ∙ eq-same c.cpu k of) f

  -- next in the logs of the parts that it uses
  pub parts_next : (c : Call)
      → (call_uses vm_part c ≡ true → first_of (left h g (on vm_part)) ≡ Some c)
      → (call_uses shared_part c ≡ true → first_of (left h g (on shared_part)) ≡ Some c)
      → ((v : ℕ) → is_slot c.slot v ≡ true → first_of (left h g (on (guest_part v))) ≡ Some c)
      → (p : Part)
      → call_uses p c ≡ true
      → first_of (left h g (on p)) ≡ Some c
  parts_next c a b d vm_part = a
  parts_next c a b d shared_part = b
  parts_next c a b d (guest_part v) = d v

  -- nothing is left of any log
  pub none_left : left h g (on vm_part) ≡ []
      → left h g (on shared_part) ≡ []
      → ((v : ℕ) → left h g (on (guest_part v)) ≡ [])
      → ((k : ℕ) → left h g (by k) ≡ [])
      → (x : LogName)
      → left h g x ≡ []
  none_left a b d e (on vm_part) = a
  none_left a b d e (on shared_part) = b
  none_left a b d e (on (guest_part v)) = d v
  none_left a b d e (by k) = e k

-- nothing told at the start, and one more for each call
pub told_none : (h : Histories) (g : Places) → ((x : LogName) → left h g x ≡ whole h x) → IsWhyIllegal h g []
told_none h g same = record { done = []; begun = begins (whole h) (left h g) same; tells = refl }

pub told_more : (h : Histories) (g k : Places) (told : List (ℕ × Step × Reply)) (c : Call)
    → IsWhyIllegal h g told
    → IsNext (left h g) c
    → ((x : LogName) → left h k x ≡ after_call (left h g) c x)
    → IsWhyIllegal h k (told ++ (c.cpu, c.step, c.reply) ∷ [])
told_more h g k told c t next is = record {
  done = t.done ++ c ∷ [];
  begun = goes_further (whole h) (left h g) (left h k) t.done c t.begun next is;
  tells =
      map-append (λ (d : Call). (d.cpu, d.step, d.reply)) t.done (c ∷ [])
      ∙ ap (λ l. l ++ (c.cpu, c.step, c.reply) ∷ []) t.tells;
}

pub told_all : (h : Histories) (g : Places) (told : List (ℕ × Step × Reply))
    → IsWhyIllegal h g told
    → ((x : LogName) → left h g x ≡ [])
    → ReportsMerged h told
told_all h g told t empty =
    record {
      all = t.done;
      merged = merged_has h t.done (ends (whole h) (left h g) t.done t.begun empty);
      tells = t.tells;
    }
