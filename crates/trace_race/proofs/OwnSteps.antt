-- The stored steps of each CPU, one after another.
use Rattle.std.proofs.Common.{◌≡◌, ◌≢◌, ℕ, ◌+◌, ◌<◌, ◌≤◌, ◌==◌, zero, suc, arith, refl, ap, sym, ◌∙◌, subst, inl, inr, List, [], ◌∷◌, ◌++◌, All, drop, get_or, length, map, Some, slice_get}
use Rattle.std.specs.Prelude.{Bool, true, false, ◌⊎◌, filter, slice_index}
use Rattle.std.proofs.lemmas.List.{append_assoc, append-nil, drop_all, drop_more, length-append, map-append}
use Rattle.std.proofs.lemmas.List.Elements.{filter-append}
use Rattle.std.proofs.lemmas.Option.{slice_get-get_or}
use Rattle.page_state.proofs.Common.{both, eq-same, eq-self}
use Rattle.call_table.specs.declared.reply.Reply.{Reply}
use Rattle.reference_model.proofs.Ends.{filter-false, filter-true}
use Rattle.trace_race.specs.declared.course.Asked.{Asked}
use Rattle.trace_race.specs.Made.{is_stored}
use Rattle.trace_race.specs.Ordered.{IsNext, OrdersBy, own_from}
use Rattle.trace_race.specs.Orders.{answered, made_by, stored_of}

pub answered_next : (steps : List Asked) (replies : List Reply) (i : ℕ) (a : Asked) (r : Reply)
    → i < length steps
    → i < length replies
    → answered (drop i steps) (drop i replies)
    ≡ (get_or steps i a, get_or replies i r) ∷ answered (drop (i + 1) steps) (drop (i + 1) replies)
answered_next steps replies i a r less many =
    ap (λ ss. answered ss (drop i replies)) (drop_more steps i a less)
    ∙ ap (answered (get_or steps i a ∷ drop (i + 1) steps)) (drop_more replies i r many)

pub own_none : (cpu : ℕ) (steps : List Asked) (replies : List Reply) (i : ℕ)
    → length steps ≤ i
    → own_from cpu i steps replies ≡ []
own_none cpu steps replies i past =
    ap (λ ss. made_by cpu (stored_of (answered ss (drop i replies)))) (drop_all i steps past)

module _ (cpu : ℕ) (a : Asked) (r : Reply) (more : List (Asked × Reply)) where
  unstored : is_stored r ≡ false → made_by cpu (stored_of ((a, r) ∷ more)) ≡ made_by cpu (stored_of more)
  unstored lost = ap (made_by cpu) (filter-false (λ (x : Asked × Reply). is_stored x.1) (a, r) more lost)

  stored : is_stored r ≡ true → stored_of ((a, r) ∷ more) ≡ (a, r) ∷ stored_of more
  stored kept = filter-true (λ (x : Asked × Reply). is_stored x.1) (a, r) more kept

  pub own_here : is_stored r ≡ true
      → (a.cpu == cpu) ≡ true
      → made_by cpu (stored_of ((a, r) ∷ more)) ≡ (a, r) ∷ made_by cpu (stored_of more)
  own_here kept mine =
      ap (made_by cpu) (stored kept) ∙ filter-true (λ (x : Asked × Reply). x.0.cpu == cpu) (a, r) (stored_of more) mine

  pub own_others : (a.cpu == cpu) ≡ false → made_by cpu (stored_of ((a, r) ∷ more)) ≡ made_by cpu (stored_of more)
  own_others other = elim (both (is_stored r)) [
    | inl kept ↦ ap (made_by cpu) (stored kept)
        ∙ filter-false (λ (x : Asked × Reply). x.0.cpu == cpu) (a, r) (stored_of more) other
    | inr lost ↦ unstored lost
  ]

  pub own_unstored : is_stored r ≡ false → made_by cpu (stored_of ((a, r) ∷ more)) ≡ made_by cpu (stored_of more)
  own_unstored lost = unstored lost

-- what stands at a place
at_place : {X : Type 0} (xs : List X) (i : ℕ) → i < length xs → X
at_place [] i less = absurd (omega (arith, less))
at_place (x ∷ xs) zero less = x
at_place (x ∷ xs) (suc i) less = at_place xs i (omega (arith, less))

module _ (steps : List Asked) (replies : List Reply) (long : length replies ≡ length steps) (i : ℕ)
    (less : i < length steps) (cpu : ℕ) where
  next : (a : Asked) (r : Reply)
      → own_from cpu i steps replies
      ≡ made_by cpu
      (stored_of
      ((get_or steps i a, get_or replies i r) ∷ answered (drop (i + 1) steps) (drop (i + 1) replies)))
  next a r = ap (λ xs. made_by cpu (stored_of xs)) (answered_next steps replies i a r less (omega (arith, long, less)))

  pub next_here : (a : Asked) (r : Reply)
      → is_stored (get_or replies i r) ≡ true
      → ((get_or steps i a).cpu == cpu) ≡ true
      → own_from cpu i steps replies ≡ (get_or steps i a, get_or replies i r) ∷ own_from cpu (i + 1) steps replies
  next_here a r kept mine =
      next a r
      ∙ own_here cpu (get_or steps i a) (get_or replies i r)
      (answered (drop (i + 1) steps) (drop (i + 1) replies)) kept mine

  pub next_others : (a : Asked)
      → ((get_or steps i a).cpu == cpu) ≡ false
      → own_from cpu i steps replies ≡ own_from cpu (i + 1) steps replies
  next_others a other =
      let r : Reply = at_place replies i (omega (arith, long, less)) in
      next a r
      ∙ own_others cpu (get_or steps i a) (get_or replies i r)
      (answered (drop (i + 1) steps) (drop (i + 1) replies)) other

  pub next_unstored : (r : Reply)
      → is_stored (get_or replies i r) ≡ false
      → own_from cpu i steps replies ≡ own_from cpu (i + 1) steps replies
  next_unstored r lost =
      let a : Asked = at_place steps i less in
      next a r
      ∙ own_unstored cpu (get_or steps i a) (get_or replies i r)
      (answered (drop (i + 1) steps) (drop (i + 1) replies)) lost

-- the place of the next
pub is_next : (steps : List Asked) (replies : List Reply) (from i cpu : ℕ) (a : Asked) (r : Reply)
    → length replies ≡ length steps
    → i < length steps
    → own_from cpu i steps replies ≡ own_from cpu from steps replies
    → is_stored (get_or replies i r) ≡ true → ((get_or steps i a).cpu == cpu) ≡ true → IsNext steps replies from cpu i
is_next steps replies from i cpu a r long less same kept mine = record {
  asked = get_or steps i a;
  reply = get_or replies i r;
  there = slice_get-get_or steps i a less;
  cpu_is = eq-same (get_or steps i a).cpu cpu mine;
  next = sym same ∙ next_here steps replies long i less cpu a r kept mine;
}

-- ---- one step after another is put into an order

pub record Ordering (steps : List Asked) (replies : List Reply) (cpus left cursors lines : List ℕ) : Type 0 where
  pub order : List (Asked × Reply)
  pub lines_are : lines ≡ map (λ a. a.0.line) order
  pub cpus_are : map (λ a. a.0.cpu) order ++ left ≡ cpus
  pub each : (cpu : ℕ)
      → made_by cpu order ++ own_from cpu (slice_index cursors cpu) steps replies ≡ own_from cpu 0 steps replies
  pub fits : (cpu : ℕ)
      → length (filter (λ k. k == cpu) left) ≡ length (own_from cpu (slice_index cursors cpu) steps replies)

pub ordering_first : (steps : List Asked) (replies : List Reply) (cpus cursors lines : List ℕ)
    → lines ≡ []
    → ((cpu : ℕ) → slice_index cursors cpu ≡ 0)
    → ((cpu : ℕ) → length (filter (λ k. k == cpu) cpus) ≡ length (own_from cpu 0 steps replies))
    → Ordering steps replies cpus cpus cursors lines
ordering_first steps replies cpus cursors lines none start fits = record {
  order = [];
  lines_are = none;
  cpus_are = refl;
  each = λ cpu. ap (λ n. own_from cpu n steps replies) (start cpu);
  fits = λ cpu. fits cpu ∙ ap (λ n. length (own_from cpu n steps replies)) (sym (start cpu));
}

some-left : {X : Type 0} (n : ℕ) (xs : List X) → suc n ≡ length xs → xs ≢ []
some-left n [] e none = omega (arith, e)
some-left n (x ∷ xs) e none = cc

-- a CPU that is next has a step left
pub left_some : (steps : List Asked) (replies : List Reply) (cpus cursors lines : List ℕ) (i cpu : ℕ)
    → (d : ℕ)
    → i < length cpus
    → cpu ≡ get_or cpus i d
    → Ordering steps replies cpus (drop i cpus) cursors lines
    → own_from cpu (slice_index cursors cpu) steps replies ≢ []
left_some steps replies cpus cursors lines i cpu d less is so =
    let first : drop i cpus ≡ cpu ∷ drop (i + 1) cpus =
    drop_more cpus i d less ∙ ap (λ c. c ∷ drop (i + 1) cpus) (sym is) in
    let many =
    ap length
    (ap (filter (λ k. k == cpu)) first ∙ filter-true (λ k. k == cpu) cpu (drop (i + 1) cpus) (eq-self cpu)) in
    some-left (length (filter (λ k. k == cpu) (drop (i + 1) cpus)))
    (own_from cpu (slice_index cursors cpu) steps replies) (sym many ∙ so.fits cpu)

same-lengths : {X : Type 0} (n : ℕ) (x : X) (xs : List X) → suc n ≡ length (x ∷ xs) → n ≡ length xs
same-lengths n x xs e = omega (arith, e)

same-some : {X : Type 0} {x y : X} → Some x ≡ Some y → x ≡ y
same-some e = let same = e in cc

-- a number that is read
pub index_read : (xs : List ℕ) (i n x : ℕ) → length xs ≡ n → i < n → x ≡ get_or xs i x → x ≡ slice_index xs i
index_read xs i n x long less is = let inside : i < length xs = omega (arith, long, less) in
    is ∙ same-some (sym (slice_get-get_or xs i x inside) ∙ slice_get-get_or xs i 0 inside)

-- the line that is read there
pub line_read : (steps : List Asked) (replies : List Reply) (from cpu place : ℕ) (d : Asked)
    → place < length steps
    → (n : IsNext steps replies from cpu place)
    → (get_or steps place d).line ≡ n.asked.line
line_read steps replies from cpu place d less n =
    ap (λ (a : Asked). a.line) (same-some (sym (slice_get-get_or steps place d less) ∙ n.there))

pub ordering_next : (steps : List Asked) (replies : List Reply) (cpus cursors next lines more : List ℕ)
    (i cpu place line d : ℕ)
    → i < length cpus
    → cpu ≡ get_or cpus i d
    → (from : ℕ)
    → from ≡ slice_index cursors cpu
    → (n : IsNext steps replies from cpu place)
    → line ≡ n.asked.line
    → more ≡ lines ++ line ∷ []
    → slice_index next cpu ≡ place + 1 → ((j : ℕ) → j ≢ cpu → slice_index next j ≡ slice_index cursors j)
    → Ordering steps replies cpus (drop i cpus) cursors lines
    → Ordering steps replies cpus (drop (i + 1) cpus) next more
ordering_next steps replies cpus cursors next lines more i cpu place line d less is from at n told grown here others
    so = record {
      order = so.order ++ (n.asked, n.reply) ∷ [];
      lines_are =
          grown ∙ (λ j. so.lines_are j ++ told j ∷ [])
          ∙ sym (map-append (λ (a : Asked × Reply). a.0.line) so.order ((n.asked, n.reply) ∷ []));
      cpus_are =
          ap (λ cs. cs ++ drop (i + 1) cpus)
          (map-append (λ (a : Asked × Reply). a.0.cpu) so.order ((n.asked, n.reply) ∷ []))
          ∙ append_assoc (map (λ (a : Asked × Reply). a.0.cpu) so.order) (n.asked.cpu ∷ []) (drop (i + 1) cpus)
          ∙ ap (λ c. map (λ (a : Asked × Reply). a.0.cpu) so.order ++ c ∷ drop (i + 1) cpus) n.cpu_is
          ∙ ap (λ cs. map (λ (a : Asked × Reply). a.0.cpu) so.order ++ cs) (sym first)
          ∙ so.cpus_are;
      each = λ k. elim (both (cpu == k)) [
        | inl t ↦ subst
            (λ j. made_by j (so.order ++ (n.asked, n.reply) ∷ []) ++ own_from j (slice_index next j) steps replies
            ≡ own_from j 0 steps replies)
            (eq-same cpu k t) mine
        | inr t ↦
            ap (λ xs. xs ++ own_from k (slice_index next k) steps replies)
            (filter-append (λ (a : Asked × Reply). a.0.cpu == k) so.order ((n.asked, n.reply) ∷ [])
            ∙ ap (λ xs. made_by k so.order ++ xs)
            (filter-false (λ (a : Asked × Reply). a.0.cpu == k) (n.asked, n.reply) []
            (subst (λ c. (c == k) ≡ false) (sym n.cpu_is) t))
            ∙ append-nil (made_by k so.order))
            ∙ ap (λ m. made_by k so.order ++ own_from k m steps replies) (others k (apart k t))
            ∙ so.each k
      ];
      fits = λ k. elim (both (cpu == k)) [
        | inl t ↦ subst
            (λ j. length (filter (λ m. m == j) (drop (i + 1) cpus))
            ≡ length (own_from j (slice_index next j) steps replies))
            (eq-same cpu k t) mine_fits
        | inr t ↦
            ap length (sym (filter-false (λ m. m == k) cpu (drop (i + 1) cpus) t))
            ∙ ap (λ cs. length (filter (λ m. m == k) cs)) (sym first)
            ∙ so.fits k ∙ ap (λ m. length (own_from k m steps replies)) (sym (others k (apart k t)))
      ];
    }
  where
    first : drop i cpus ≡ cpu ∷ drop (i + 1) cpus
    first = drop_more cpus i d less ∙ ap (λ c. c ∷ drop (i + 1) cpus) (sym is)

    apart : (k : ℕ) → (cpu == k) ≡ false → k ≢ cpu
    apart k t e = let here : (cpu == k) ≡ true = subst (λ j. (cpu == j) ≡ true) (sym e) (eq-self cpu) in
        let both : true ≡ false = sym here ∙ t in
        absurd cc

    mine : made_by cpu (so.order ++ (n.asked, n.reply) ∷ []) ++ own_from cpu (slice_index next cpu) steps replies
        ≡ own_from cpu 0 steps replies
    mine =
        ap (λ xs. xs ++ own_from cpu (slice_index next cpu) steps replies)
        (filter-append (λ (a : Asked × Reply). a.0.cpu == cpu) so.order ((n.asked, n.reply) ∷ [])
        ∙ ap (λ xs. made_by cpu so.order ++ xs)
        (filter-true (λ (a : Asked × Reply). a.0.cpu == cpu) (n.asked, n.reply) []
        (subst (λ c. (c == cpu) ≡ true) (sym n.cpu_is) (eq-self cpu))))
        ∙ append_assoc (made_by cpu so.order) ((n.asked, n.reply) ∷ [])
        (own_from cpu (slice_index next cpu) steps replies)
        ∙ ap (λ m. made_by cpu so.order ++ (n.asked, n.reply) ∷ own_from cpu m steps replies) here
        ∙ ap (λ xs. made_by cpu so.order ++ xs) (sym n.next ∙ ap (λ m. own_from cpu m steps replies) at)
        ∙ so.each cpu

    mine_fits : length (filter (λ m. m == cpu) (drop (i + 1) cpus))
        ≡ length (own_from cpu (slice_index next cpu) steps replies)
    mine_fits =
        same-lengths (length (filter (λ m. m == cpu) (drop (i + 1) cpus))) (n.asked, n.reply)
        (own_from cpu (place + 1) steps replies)
        (sym
        (ap length
        (ap (filter (λ m. m == cpu)) first ∙ filter-true (λ m. m == cpu) cpu (drop (i + 1) cpus) (eq-self cpu)))
        ∙ so.fits cpu ∙ ap length (ap (λ m. own_from cpu m steps replies) (sym at) ∙ n.next))
        ∙ ap (λ m. length (own_from cpu m steps replies)) (sym here)

no_items : {X : Type 0} (xs : List X) → 0 ≡ length xs → xs ≡ []
no_items [] none = refl
no_items (x ∷ xs) none = absurd (omega (arith, none))

pub ordering_all : (steps : List Asked) (replies : List Reply) (cpus cursors lines : List ℕ) (i : ℕ)
    → length cpus ≤ i
    → Ordering steps replies cpus (drop i cpus) cursors lines
    → OrdersBy steps replies cpus lines
ordering_all steps replies cpus cursors lines i past so = record {
  order = so.order;
  lines_are = so.lines_are;
  cpus_are =
      sym (append-nil (map (λ (a : Asked × Reply). a.0.cpu) so.order))
      ∙ ap (λ cs. map (λ (a : Asked × Reply). a.0.cpu) so.order ++ cs) (sym none) ∙ so.cpus_are;
  each =
      λ cpu. sym (append-nil (made_by cpu so.order)) ∙ ap (λ xs. made_by cpu so.order ++ xs) (sym (nothing cpu))
      ∙ so.each cpu;
}
  where
    none : drop i cpus ≡ []
    none = drop_all i cpus past

    nothing : (cpu : ℕ) → own_from cpu (slice_index cursors cpu) steps replies ≡ []
    nothing cpu =
        no_items (own_from cpu (slice_index cursors cpu) steps replies)
        (ap (λ cs. length (filter (λ m. m == cpu) cs)) (sym none) ∙ so.fits cpu)

-- ---- how many steps of each CPU are stored

-- what is counted of the steps before a place
abbrev pub Counts : List Asked → List Reply → ℕ → List ℕ → Type 0
Counts steps replies i counts =
    (cpu : ℕ) → slice_index counts cpu + length (own_from cpu i steps replies) ≡ length (own_from cpu 0 steps replies)

none_of : (n m : ℕ) → n ≡ 0 → n + m ≡ m
none_of n m e = omega (arith, e)

pub counts_first : (steps : List Asked) (replies : List Reply) (counts : List ℕ)
    → ((cpu : ℕ) → slice_index counts cpu ≡ 0)
    → Counts steps replies 0 counts
counts_first steps replies counts none cpu =
    none_of (slice_index counts cpu) (length (own_from cpu 0 steps replies)) (none cpu)

pub counts_passed : (steps : List Asked) (replies : List Reply) (i : ℕ) (counts : List ℕ) (r : Reply)
    → length replies ≡ length steps
    → i < length steps
    → is_stored (get_or replies i r) ≡ false
    → Counts steps replies i counts → Counts steps replies (i + 1) counts
counts_passed steps replies i counts r long less lost so cpu =
    ap (λ xs. slice_index counts cpu + length xs) (sym (next_unstored steps replies long i less cpu r lost)) ∙ so cpu

one_of : (n m : ℕ) {X : Type 0} (x : X) (xs : List X) → n ≡ m + 1 → n + length xs ≡ m + length (x ∷ xs)
one_of n m x xs e = omega (arith, e)

pub counts_next : (steps : List Asked) (replies : List Reply) (i : ℕ) (counts next : List ℕ) (a : Asked) (r : Reply)
    → length replies ≡ length steps
    → i < length steps
    → is_stored (get_or replies i r) ≡ true
    → slice_index next (get_or steps i a).cpu ≡ slice_index counts (get_or steps i a).cpu + 1
    → ((j : ℕ) → j ≢ (get_or steps i a).cpu → slice_index next j ≡ slice_index counts j)
    → Counts steps replies i counts → Counts steps replies (i + 1) next
counts_next steps replies i counts next a r long less kept here others so cpu =
    elim (both ((get_or steps i a).cpu == cpu)) [
      | inl t ↦
          let same : (get_or steps i a).cpu ≡ cpu = eq-same (get_or steps i a).cpu cpu t in
          let more : slice_index next cpu ≡ slice_index counts cpu + 1 =
          subst (λ k. slice_index next k ≡ slice_index counts k + 1) same here in
          one_of (slice_index next cpu) (slice_index counts cpu) (get_or steps i a, get_or replies i r)
          (own_from cpu (i + 1) steps replies) more
          ∙ ap (λ xs. slice_index counts cpu + length xs) (sym (next_here steps replies long i less cpu a r kept t))
          ∙ so cpu
      | inr t ↦
          (λ j. others cpu (apart t) j + length (sym (next_others steps replies long i less cpu a t) j)) ∙ so cpu
    ]
  where
    apart : ((get_or steps i a).cpu == cpu) ≡ false → cpu ≢ (get_or steps i a).cpu
    apart t e = let here : ((get_or steps i a).cpu == cpu) ≡ true =
        subst (λ j. ((get_or steps i a).cpu == j) ≡ true) (sym e) (eq-self (get_or steps i a).cpu) in
        let both : true ≡ false = sym here ∙ t in
        absurd cc

-- no more are stored than there are steps
pub counts_few : (steps : List Asked) (replies : List Reply) (cpu : ℕ)
    → length (own_from cpu 0 steps replies) ≤ length steps
counts_few [] replies cpu = omega arith
counts_few (a ∷ steps) [] cpu = omega arith
counts_few (a ∷ steps) (r ∷ replies) cpu = elim (both (is_stored r)) [
  | inl kept ↦ elim (both (a.cpu == cpu)) [
    | inl t ↦ let e = ap length (own_here cpu a r (answered steps replies) kept t) in
        let few = counts_few steps replies cpu in
        omega (arith, e, few)
    | inr t ↦ let e = ap length (own_others cpu a r (answered steps replies) t) in
        let few = counts_few steps replies cpu in
        omega (arith, e, few)
  ]
  | inr lost ↦ let e = ap length (own_unstored cpu a r (answered steps replies) lost) in
      let few = counts_few steps replies cpu in
      omega (arith, e, few)
]

-- ---- two lists that have the same CPUs in order, and the same of each CPU, are one

pub cons-head : {X : Type 0} {x y : X} {xs ys : List X} → x ∷ xs ≡ y ∷ ys → x ≡ y
cons-head e = let same = e in cc

pub cons-tail : {X : Type 0} {x y : X} {xs ys : List X} → x ∷ xs ≡ y ∷ ys → xs ≡ ys
cons-tail e = let same = e in cc

pub one_list : {X : Type 0} (cpu : X → ℕ) (xs ys : List X)
    → map cpu xs ≡ map cpu ys
    → ((k : ℕ) → filter (λ x. cpu x == k) xs ≡ filter (λ x. cpu x == k) ys)
    → xs ≡ ys
one_list cpu [] [] cpus each = refl
one_list cpu [] (y ∷ ys) cpus each = absurd (let e = cpus in cc)
one_list cpu (x ∷ xs) [] cpus each = absurd (let e = cpus in cc)
one_list {X = X} cpu (x ∷ xs) (y ∷ ys) cpus each =
    ap (λ z. z ∷ xs) same ∙ ap (λ zs. y ∷ zs) (one_list cpu xs ys (cons-tail cpus) rest)
  where
    k_is : cpu x ≡ cpu y
    k_is = cons-head cpus

    f : ℕ → X → Bool
    f k z = cpu z == k

    heads : x ∷ filter (f (cpu x)) xs ≡ y ∷ filter (f (cpu x)) ys
    heads =
        sym (filter-true (f (cpu x)) x xs (eq-self (cpu x))) ∙ each (cpu x)
        ∙ filter-true (f (cpu x)) y ys (subst (λ n. (n == cpu x) ≡ true) k_is (eq-self (cpu x)))

    same : x ≡ y
    same = cons-head heads

    rest : (k : ℕ) → filter (f k) xs ≡ filter (f k) ys
    rest k = elim (both (f k x)) [
      | inl t ↦ cons-tail
          (sym (filter-true (f k) x xs t) ∙ each k ∙ filter-true (f k) y ys (subst (λ n. (n == k) ≡ true) k_is t))
      | inr t ↦ sym (filter-false (f k) x xs t) ∙ each k
          ∙ filter-false (f k) y ys (subst (λ n. (n == k) ≡ false) k_is t)
    ]
