-- The steps of CPUs are made one after another.
use Rattle.std.proofs.Common.{◌≡◌, ◌≢◌, ℕ, zero, suc, ◌+◌, ◌<◌, ◌≤◌, refl, sym, ap, subst, ◌∙◌, arith, inl, inr, ◌⊎◌, Bool, true, false, ◌==◌, List, [], ◌∷◌, ◌++◌, All, drop, get_or, length, map, Option, Some, slice_get, take}
use Rattle.std.proofs.lemmas.List.{append_assoc, append-nil, drop_all, drop_more}
use Rattle.std.proofs.lemmas.Option.{slice_get-get_or}
use Rattle.std.proofs.lemmas.List.Elements.{All-append, All-cons, All-head, All-nil, All-tail}
use Rattle.page_state.proofs.Common.{eq-same}
use Rattle.call_table.specs.declared.reply.Reply.{Reply}
use Rattle.call_table.specs.declared.step.Step.{Step}
use Rattle.part_table.specs.Passes.{IsPassOf, Opened, Pass, first_known, first_pass}
use Rattle.part_table.specs.Known.{Known}
use Rattle.trace_race.specs.declared.course.Asked.{Asked}
use Rattle.trace_race.specs.declared.workers.Done.{Done}
use Rattle.trace_race.specs.Made.{AreDone, AreFirstPasses, Calls, IsDone, IsDoneOf, IsGathered, Makes, answers_of, paired, steps_of}
use Rattle.trace_race.specs.Workers.{AllFinish}

pub cases : (b : Bool) → (b ≡ true) ⊎ (b ≡ false)
cases true = inl refl
cases false = inr refl

-- one more behind is one more in front of what follows
pub behind : {X : Type 0} (xs : List X) (x : X) (more : List X) → (xs ++ x ∷ []) ++ more ≡ xs ++ x ∷ more
behind xs x more = rw append_assoc refl

pub same-number : (n : ℕ) → (n == n) ≡ true
same-number n = grind (arith)

pub length-more : {X : Type 0} (xs : List X) (x : X) → length (xs ++ x ∷ []) ≡ length xs + 1
length-more [] x = refl
length-more (y ∷ xs) x = ap suc (length-more xs x) ∙ omega arith

-- ---- the steps of one CPU

-- the next step is the CPU's
pub own_next : (cpu : ℕ) (steps : List Asked) (i : ℕ) (d : Asked)
    → i < length steps
    → ((get_or steps i d).cpu == cpu) ≡ true
    → steps_of cpu (drop i steps) ≡ (get_or steps i d).step ∷ steps_of cpu (drop (i + 1) steps)
own_next cpu steps i d less own = ap (steps_of cpu) (drop_more steps i d less) ∙ rw own refl

-- or it is another's
pub others_next : (cpu : ℕ) (steps : List Asked) (i : ℕ) (d : Asked)
    → i < length steps
    → ((get_or steps i d).cpu == cpu) ≡ false
    → steps_of cpu (drop i steps) ≡ steps_of cpu (drop (i + 1) steps)
others_next cpu steps i d less other = ap (steps_of cpu) (drop_more steps i d less) ∙ rw other refl

-- a pass makes its own steps: whatever answers those that are left, the calls so far and those lead on from the first
pub record MakesOwn (cpu : ℕ) (steps left : List Asked) (v u : Known) (replies : List Reply) : Type 0 where
  pub count : length replies + length (steps_of cpu left) ≡ length (steps_of cpu steps)
  pub leads : (last : Known) (more : List Reply)
      → Makes u (paired (steps_of cpu left) more) last
      → Makes v (paired (steps_of cpu steps) (replies ++ more)) last

pub own_first : (cpu : ℕ) (steps : List Asked) (v : Known) (replies : List Reply)
    → replies ≡ []
    → MakesOwn cpu steps steps v v replies
own_first cpu steps v replies none = record {
  count = let n = ap length none in omega (arith, n);
  leads = λ last more made. subst (λ rs. Makes v (paired (steps_of cpu steps) (rs ++ more)) last) (sym none) made;
}

pub own_made : (cpu : ℕ) (steps : List Asked) (i : ℕ) (d : Asked) (v u w : Known) (replies next : List Reply)
    (reply : Reply)
    → i < length steps
    → (get_or steps i d).cpu ≡ cpu
    → next ≡ replies ++ reply ∷ []
    → Calls (get_or steps i d).step reply u w
    → MakesOwn cpu steps (drop i steps) v u replies
    → MakesOwn cpu steps (drop (i + 1) steps) v w next
own_made cpu steps i d v u w replies next reply less own is calls so =
    let same : ((get_or steps i d).cpu == cpu) ≡ true =
    subst (λ k. ((get_or steps i d).cpu == k) ≡ true) own (same-number (get_or steps i d).cpu) in
    let mine = own_next cpu steps i d less same in
    record {
      count =
          let long = ap length is ∙ length-more replies reply in
          let n = so.count in
          let m = ap length mine in
          omega (arith, long, n, m);
      leads =
          λ last more made. subst (λ rs. Makes v (paired (steps_of cpu steps) rs) last)
          (sym (ap (λ rs. rs ++ more) is ∙ behind replies reply more))
          (so.leads last (reply ∷ more)
          (subst (λ ss. Makes u (paired ss (reply ∷ more)) last) (sym mine) (w, calls, made)));
    }

pub own_passed : (cpu : ℕ) (steps : List Asked) (i : ℕ) (d : Asked) (v u : Known) (replies : List Reply)
    → i < length steps
    → (get_or steps i d).cpu ≢ cpu
    → MakesOwn cpu steps (drop i steps) v u replies
    → MakesOwn cpu steps (drop (i + 1) steps) v u replies
own_passed cpu steps i d v u replies less other so =
    let apart : ((get_or steps i d).cpu == cpu) ≡ false = differ (cases ((get_or steps i d).cpu == cpu)) in
    let others = others_next cpu steps i d less apart in
    record {
      count = subst (λ ss. length replies + length ss ≡ length (steps_of cpu steps)) others so.count;
      leads = λ last more made. so.leads last more (subst (λ ss. Makes u (paired ss more) last) (sym others) made);
    }
  where
    differ : (((get_or steps i d).cpu == cpu) ≡ true) ⊎ (((get_or steps i d).cpu == cpu) ≡ false)
        → ((get_or steps i d).cpu == cpu) ≡ false
    differ (inl same) = absurd (other (eq-same (get_or steps i d).cpu cpu same))
    differ (inr apart) = apart

pub own_all : (cpu : ℕ) (steps : List Asked) (i : ℕ) (v u : Known) (replies : List Reply)
    → length steps ≤ i
    → MakesOwn cpu steps (drop i steps) v u replies
    → (length replies ≡ length (steps_of cpu steps)) × Makes v (paired (steps_of cpu steps) replies) u
own_all cpu steps i v u replies past so =
    whole (subst (λ left. MakesOwn cpu steps left v u replies) (drop_all i steps past) so)
  where
    whole : MakesOwn cpu steps [] v u replies
        → (length replies ≡ length (steps_of cpu steps)) × Makes v (paired (steps_of cpu steps) replies) u
    whole all = (
      let n = all.count in
          omega (arith, n),
      subst (λ rs. Makes v (paired (steps_of cpu steps) rs) u) (append-nil replies) (all.leads u [] refl),
    )

-- ---- the steps of all CPUs, in order

-- an answer to the next step
pub own_answer : (cpu : ℕ) (a : Asked) (left : List Asked) (reply : Reply) (more : List Reply)
    → (a.cpu == cpu) ≡ true
    → answers_of cpu (a ∷ left) (reply ∷ more) ≡ (a.step, reply) ∷ answers_of cpu left more
own_answer cpu a left reply more own = rw own refl

pub others_answer : (cpu : ℕ) (a : Asked) (left : List Asked) (reply : Reply) (more : List Reply)
    → (a.cpu == cpu) ≡ false
    → answers_of cpu (a ∷ left) (reply ∷ more) ≡ answers_of cpu left more
others_answer cpu a left reply more other = rw other refl

pub apart-numbers : (m n : ℕ) → (m == n) ≡ false → n ≢ m
apart-numbers m n h e = let no : (m == m) ≡ false = subst (λ k. (m == k) ≡ false) e h in
    let both = sym (same-number m) ∙ no in
    cc

pub some-same : {X : Type 0} {x y : X} → Some x ≡ Some y → x ≡ y
some-same e = let same = e in cc

-- the passes are of the table
pub all_of : (t : Opened) (n : ℕ) (passes : List Pass) → AreFirstPasses t n passes → All (IsPassOf t) passes
all_of t n passes first k d less =
    subst (IsPassOf t) (sym (first.each k (get_or passes k d) (slice_get-get_or passes k d less)))
    (record { table = refl; layout = refl })

-- ---- a pass for each CPU, before any step

at-end : {X : Type 0} (xs : List X) (x y : X) (i : ℕ)
    → slice_get (xs ++ x ∷ []) i ≡ Some y
    → (slice_get xs i ≡ Some y) ⊎ ((i ≡ length xs) × (x ≡ y))
at-end [] x y zero e = inr (refl, some-same e)
at-end [] x y (suc i) e = absurd (let no = e in cc)
at-end (z ∷ xs) x y zero e = inl e
at-end (z ∷ xs) x y (suc i) e = elim (at-end xs x y i e) [ inl h ↦ inl h | inr h ↦ inr (ap suc h.0, h.1) ]

pub passes_next : (t : Opened) (n : ℕ) (passes : List Pass) (p : Pass)
    → AreFirstPasses t n passes
    → p ≡ first_pass t n
    → AreFirstPasses t (n + 1) (passes ++ p ∷ [])
passes_next t n passes p so is = record {
  count = length-more passes p ∙ ap (λ k. k + 1) so.count;
  each = λ cpu q there. elim (at-end passes p q cpu there) [
    | inl h ↦ so.each cpu q h
    | inr h ↦ sym h.1 ∙ (is ∙ ap (first_pass t) (sym (h.0 ∙ so.count)))
  ];
}

-- ---- the steps that are made at once

mapped-at : {X Y : Type 0} (f : X → Y) (xs : List X) (j : ℕ) (y : Y)
    → slice_get (map f xs) j ≡ Some y
    → (x : X) × (slice_get xs j ≡ Some x) × (f x ≡ y)
mapped-at f [] j y e = absurd (let no = e in cc)
mapped-at f (x ∷ xs) zero y e = (x, refl, some-same e)
mapped-at f (x ∷ xs) (suc j) y e = mapped-at f xs j y e

-- what has finished, by its place
finished_at : (t : Opened) (steps : List Asked) (passes : List Pass) (done : List Done) (j : ℕ) (d : Done)
    → AllFinish t steps passes done
    → slice_get done j ≡ Some d
    → (p : Pass) × (slice_get passes j ≡ Some p) × IsDoneOf t steps p d
finished_at t steps [] [] j d all e = absurd (let no = e in cc)
finished_at t steps [] (x ∷ ds) j d all e = absurd all
finished_at t steps (p ∷ ps) [] j d all e = absurd all
finished_at t steps (p ∷ ps) (x ∷ ds) zero d all e = (p, refl, subst (IsDoneOf t steps p) (some-same e) all.0)
finished_at t steps (p ∷ ps) (x ∷ ds) (suc j) d all e = finished_at t steps ps ds j d all.1 e

finish_count : (t : Opened) (steps : List Asked) (passes : List Pass) (done : List Done)
    → AllFinish t steps passes done
    → length done ≡ length passes
finish_count t steps [] [] all = refl
finish_count t steps [] (x ∷ ds) all = absurd all
finish_count t steps (p ∷ ps) [] all = absurd all
finish_count t steps (p ∷ ps) (x ∷ ds) all = ap suc (finish_count t steps ps ds all.1)

map-count : {X Y : Type 0} (f : X → Y) (xs : List X) → length (map f xs) ≡ length xs
map-count f [] = refl
map-count f (x ∷ xs) = ap suc (map-count f xs)

-- what each CPU's worker has made
module _ (t : Opened) (steps : List Asked) (passes : List Pass) (done : List Done)
    (first : AreFirstPasses t t.layout.config.cpus passes) (finish : AllFinish t steps passes done) where
  pub count_is : length done ≡ t.layout.config.cpus
  count_is = finish_count t steps passes done finish ∙ first.count

  -- at a CPU's place
  at : (cpu : ℕ) (d : Done) → slice_get done cpu ≡ Some d → IsDoneOf t steps (first_pass t cpu) d
  at cpu d there = let f = finished_at t steps passes done cpu d finish there in
      subst (λ (p : Pass). IsDoneOf t steps p d) (first.each cpu f.0 f.1) f.2

  pub count_at : (cpu : ℕ) (d : Done)
      → slice_get done cpu ≡ Some d
      → length d.replies.items ≡ length (steps_of cpu steps)
  count_at cpu d there = (at cpu d there).count

  pub all_done : (more : List Reply) → IsGathered steps done more → AreDone t steps more (map (λ d. d.pass) done)
  all_done more gathered = record {
    count = map-count (λ (d : Done). d.pass) done ∙ count_is;
    each = λ cpu p there.
        let d = mapped-at (λ (d : Done). d.pass) done cpu p there in
        let one = at cpu d.0 d.1 in
        subst (IsDone t steps more cpu) d.2 record {
          of = one.of;
          cpu_is = one.cpu_is;
          makes = subst (λ xs. Makes (first_known t cpu) xs d.0.pass.knows) (sym (gathered.each cpu d.0 d.1)) one.makes;
        };
  }

-- ---- lists that grow at their end

pub all_more : {X : Type 0} (P : X → Type 0) (xs : List X) (x : X) → All P xs → P x → All P (xs ++ x ∷ [])
all_more P xs x all here = All-append P xs (x ∷ []) all (All-cons P x [] here (All-nil P))

pub map-append : {X Y : Type 0} (f : X → Y) (xs ys : List X) → map f (xs ++ ys) ≡ map f xs ++ map f ys
map-append f [] ys = refl
map-append f (x ∷ xs) ys = ap (λ zs. f x ∷ zs) (map-append f xs ys)

-- one of what is left is put behind what there is
pub mapped_more : {X Y : Type 0} (f : X → Y) (xs next : List X) (x : X) (y : Y) (left rest all : List Y)
    → next ≡ xs ++ x ∷ []
    → f x ≡ y
    → left ≡ y ∷ rest
    → map f xs ++ left ≡ all
    → map f next ++ rest ≡ all
mapped_more f xs next x y left rest all is same first so =
    ap (λ zs. map f zs ++ rest) is
    ∙ (ap (λ zs. zs ++ rest) (map-append f xs (x ∷ []))
    ∙ (behind (map f xs) (f x) rest
    ∙ (ap (λ z. map f xs ++ z ∷ rest) same ∙ (ap (λ zs. map f xs ++ zs) (sym first) ∙ so))))

pub put_more : {X Y : Type 0} (f : X → Y) (ys next : List Y) (x : X) (left rest : List X) (all : List Y)
    → next ≡ ys ++ f x ∷ []
    → left ≡ x ∷ rest
    → ys ++ map f left ≡ all
    → next ++ map f rest ≡ all
put_more f ys next x left rest all is first so =
    ap (λ zs. zs ++ map f rest) is ∙ (behind ys (f x) (map f rest) ∙ (ap (λ zs. ys ++ map f zs) (sym first) ∙ so))

-- ---- places of lists

pub no_items : {X : Type 0} (xs : List X) → length xs ≡ 0 → xs ≡ []
no_items [] none = refl
no_items (x ∷ xs) none = absurd (omega (arith, none))

-- what is at a place
pub at_place : {X : Type 0} (xs : List X) (i : ℕ) → i < length xs → (x : X) × (slice_get xs i ≡ Some x)
at_place [] i less = absurd (omega (arith, less))
at_place (x ∷ xs) zero less = (x, refl)
at_place (x ∷ xs) (suc i) less = at_place xs i (omega (arith, less))

-- a number that is read at a place
pub read_number : (xs : List ℕ) (i x : ℕ) → i < length xs → x ≡ get_or xs i x → x ≡ get_or xs i 0
read_number xs i x inside is = is ∙ some-same (sym (slice_get-get_or xs i x inside) ∙ slice_get-get_or xs i 0 inside)

-- the pass that was handed out
pub pass_given : (t : Opened) (n : ℕ) (result : Option Pass) (p q : Pass)
    → Some (Some q) ≡ Some result
    → result ≡ Some p
    → p ≡ q
pass_given t n result p q there is = some-same (sym is ∙ sym (some-same there))

-- steps behind some are of the same CPUs, and so are those before them
pub below_dropped : (cpus : ℕ) (steps : List Asked) (first : ℕ)
    → All (λ a. a.cpu < cpus) steps
    → All (λ a. a.cpu < cpus) (drop first steps)
below_dropped cpus steps zero all = all
below_dropped cpus [] (suc first) all = all
below_dropped cpus (a ∷ steps) (suc first) all =
    below_dropped cpus steps first (All-tail (λ (a : Asked). a.cpu < cpus) a steps all)

pub below_taken : (cpus : ℕ) (steps : List Asked) (first : ℕ)
    → All (λ a. a.cpu < cpus) steps
    → All (λ a. a.cpu < cpus) (take first steps)
below_taken cpus steps zero all = All-nil (λ (a : Asked). a.cpu < cpus)
below_taken cpus [] (suc first) all = all
below_taken cpus (a ∷ steps) (suc first) all =
    All-cons (λ (a : Asked). a.cpu < cpus) a (take first steps) (All-head (λ (a : Asked). a.cpu < cpus) a steps all)
    (below_taken cpus steps first (All-tail (λ (a : Asked). a.cpu < cpus) a steps all))

-- a list of so many in front, and what is behind
pub front_cut : {X : Type 0} (n : ℕ) (xs ys : List X) → length xs ≡ n → take n (xs ++ ys) ≡ xs
front_cut zero [] ys long = refl
front_cut zero (x ∷ xs) ys long = absurd (omega (arith, long))
front_cut (suc n) [] ys long = absurd (omega (arith, long))
front_cut (suc n) (x ∷ xs) ys long = ap (λ zs. x ∷ zs) (front_cut n xs ys (omega (arith, long)))

pub rest_cut : {X : Type 0} (n : ℕ) (xs ys : List X) → length xs ≡ n → drop n (xs ++ ys) ≡ ys
rest_cut zero [] ys long = refl
rest_cut zero (x ∷ xs) ys long = absurd (omega (arith, long))
rest_cut (suc n) [] ys long = absurd (omega (arith, long))
rest_cut (suc n) (x ∷ xs) ys long = rest_cut n xs ys (omega (arith, long))
