-- Lists that are told member by member.
use Rattle.std.proofs.Common.{◌≡◌, ℕ, zero, suc, ◌+◌, ◌<◌, ◌≤◌, Bool, true, false, List, [], ◌∷◌, ◌++◌, Option, Some, None, length, map, take, drop, cond, get_or, ap, refl, subst, sym, ◌∙◌, arith}
use Rattle.std.specs.Prelude.{◌==◌, ◌&&◌, if◌then◌else◌, filter_map, find, option_map, unwrap_or}
use Rattle.std.specs.List.{cons_option, range_with_len}
use Rattle.std.specs.Option.{option_or}
use Rattle.std.proofs.lemmas.Bool.Decides.{nat_tests}
use Rattle.std.proofs.lemmas.List.{append_assoc, append-nil, get_or_past, length-map, length-take-le}
use Rattle.std.proofs.lemmas.List.Elements.{filter_map-append}
use Rattle.std.proofs.lemmas.List.Folds.{find-append}
use Rattle.std.proofs.Math.Seq.{take-suc}
use Rattle.page_state.proofs.Cases.{by_eq}
use Rattle.page_state.proofs.Common.{same2}
use Rattle.c_states.specs.declared.members.PlainLoad.{PlainLoad}
use Rattle.c_states.specs.Lists.{is_load, listed, loader_from_c}

-- one more member of a list, of which a part says something
one_said : {X Y : Type 0} (h : X → Option Y) (x : X) (b : Bool) (y : Y)
    → h x ≡ (if b then Some y else None)
    → filter_map h (x ∷ []) ≡ (if b then y ∷ [] else [])
one_said {X} {Y} h x true y is = ap (λ (o : Option Y). cons_option o []) is
one_said {X} {Y} h x false y is = ap (λ (o : Option Y). cons_option o []) is

pub list_more : {X Y : Type 0} (h : X → Option Y) (b : Bool) (old now : List X) (x : X) (ys : List Y) (i : ℕ) (d : Y)
    → i < length ys
    → filter_map h now ≡ filter_map h old ++ (if b then take i ys else [])
    → h x ≡ (if b then Some (get_or ys i d) else None)
    → filter_map h (now ++ x ∷ []) ≡ filter_map h old ++ (if b then take (i + 1) ys else [])
list_more {X} {Y} h true old now x ys i d less so one =
    let next : i + 1 ≡ suc i = omega arith in
    filter_map-append h now (x ∷ []) ∙ (same2 (λ (us vs : List Y). us ++ vs) so (one_said h x true (get_or ys i d) one)
    ∙ (append_assoc (filter_map h old) (take i ys) (get_or ys i d ∷ [])
    ∙ ap (λ (zs : List Y). filter_map h old ++ zs)
    (sym (take-suc ys i d less) ∙ ap (λ (n : ℕ). take n ys) (sym next))))
list_more {X} {Y} h false old now x ys i d less so one =
    filter_map-append h now (x ∷ [])
    ∙ (same2 (λ (us vs : List Y). us ++ vs) so (one_said h x false (get_or ys i d) one)
    ∙ append-nil (filter_map h old ++ []))

-- what a list has at a place, with one member more
take_here : {X : Type 0} (xs : List X) (i : ℕ) (d z : X) → i < length xs → get_or (take (i + 1) xs) i z ≡ get_or xs i d
take_here {X} xs i d z less = let next : i + 1 ≡ suc i = omega arith in
    ap (λ (n : ℕ). get_or (take n xs) i z) next ∙ here xs i less
  where
    here : (ys : List X) (k : ℕ) → k < length ys → get_or (take (suc k) ys) k z ≡ get_or ys k d
    here [] k bad = absurd (omega (arith, bad))
    here (y ∷ ys) zero l = refl
    here (y ∷ ys) (suc k) l = here ys k (omega (arith, l))

take_other : {X : Type 0} (xs : List X) (i v : ℕ) (z : X)
    → (i ≡ v → ⊥)
    → get_or (take (i + 1) xs) v z ≡ get_or (take i xs) v z
take_other {X} xs i v z apart = let next : i + 1 ≡ suc i = omega arith in
    ap (λ (n : ℕ). get_or (take n xs) v z) next ∙ other xs i v apart
  where
    other : (ys : List X) (k w : ℕ) → (k ≡ w → ⊥) → get_or (take (suc k) ys) w z ≡ get_or (take k ys) w z
    other [] zero w ne = refl
    other [] (suc k) w ne = refl
    other (y ∷ ys) zero zero ne = absurd (ne refl)
    other (y ∷ ys) zero (suc w) ne = refl
    other (y ∷ ys) (suc k) zero ne = refl
    other (y ∷ ys) (suc k) (suc w) ne = other ys k w (λ e. ne (ap suc e))

take_past : {X : Type 0} (xs : List X) (i : ℕ) (z : X) → i < length xs → get_or (take i xs) i z ≡ z
take_past xs i z less = let most : i ≤ length xs = omega (arith, less) in
    get_or_past (take i xs) i z (rw (length-take-le i xs most) (omega arith))

map_take : {G B : Type 0} (f : G → B) (n : ℕ) (gs : List G) → map f (take n gs) ≡ take n (map f gs)
map_take f zero gs = refl
map_take f (suc n) [] = refl
map_take {G} {B} f (suc n) (g ∷ gs) = ap (λ (ys : List B). f g ∷ ys) (map_take f n gs)

pub map_at : {G B : Type 0} (f : G → B) (gs : List G) (i : ℕ) (d : G) (z : B)
    → i < length gs
    → get_or (map f gs) i z ≡ f (get_or gs i d)
map_at f [] i d z less = absurd (omega (arith, less))
map_at f (g ∷ gs) zero d z less = refl
map_at f (g ∷ gs) (suc i) d z less = map_at f gs i d z (omega (arith, less))

module _ {G B : Type 0} (f : G → B) (gs : List G) (i : ℕ) (d : G) (z : B) (less : i < length gs) where
  map_less : i < length (map f gs)
  map_less = rw (length-map gs f) less

  map_here : get_or (map f (take (i + 1) gs)) i z ≡ f (get_or gs i d)
  map_here =
      ap (λ (ys : List B). get_or ys i z) (map_take f (i + 1) gs)
      ∙ (take_here (map f gs) i z z map_less ∙ map_at f gs i d z less)

  map_other : (v : ℕ) → (i ≡ v → ⊥) → get_or (map f (take (i + 1) gs)) v z ≡ get_or (map f (take i gs)) v z
  map_other v apart =
      ap (λ (ys : List B). get_or ys v z) (map_take f (i + 1) gs)
      ∙ (take_other (map f gs) i v z apart ∙ ap (λ (ys : List B). get_or ys v z) (sym (map_take f i gs)))

  map_past : get_or (map f (take i gs)) i z ≡ z
  map_past = ap (λ (ys : List B). get_or ys i z) (map_take f i gs) ∙ take_past (map f gs) i z map_less

-- one more guest: what is told of each
pub guests_more : {G Y : Type 0} (f : G → List Y) (gs : List G) (i : ℕ) (d : G) (before after : ℕ → List Y)
    → i < length gs
    → ((v : ℕ) → before (2 + v) ≡ get_or (map f (take i gs)) v [])
    → ((t : ℕ) → after t ≡ before t ++ (if 2 + i == t then f (get_or gs i d) else []))
    → (v : ℕ) → after (2 + v) ≡ get_or (map f (take (i + 1) gs)) v []
guests_more {G} {Y} f gs i d before after less so one v = by_eq i v
    (λ same. let t : (2 + i == 2 + i) ≡ true = grind (arith, nat_tests) in
    subst (λ (w : ℕ). after (2 + w) ≡ get_or (map f (take (i + 1) gs)) w []) same
    (one (2 + i)
    ∙ (same2 (λ (us vs : List Y). us ++ vs) (so i ∙ map_past f gs i d [] less)
    (ap (λ (b : Bool). if b then f (get_or gs i d) else []) t)
    ∙ sym (map_here f gs i d [] less))))
    (λ apart. let t : (2 + i == 2 + v) ≡ false = grind (arith, nat_tests, apart) in
    one (2 + v)
    ∙ (same2 (λ (us vs : List Y). us ++ vs) (so v) (ap (λ (b : Bool). if b then f (get_or gs i d) else []) t)
    ∙ (append-nil (get_or (map f (take i gs)) v []) ∙ sym (map_other f gs i d [] less v apart))))

-- a tree or a pool that isn't a guest's stays as it is
pub other_stays : {Y : Type 0} (i n : ℕ) (before after : ℕ → List Y) (ys zs : List Y)
    → n < 2
    → before n ≡ zs
    → ((t : ℕ) → after t ≡ before t ++ (if 2 + i == t then ys else []))
    → after n ≡ zs
other_stays {Y} i n before after ys zs low so one =
    let t : (2 + i == n) ≡ false = grind (arith, nat_tests, low) in
    one n ∙ (ap (λ (b : Bool). before n ++ (if b then ys else [])) t ∙ (append-nil (before n) ∙ so))

-- which CPU has a vCPU loaded, with one load more
or_none : {X : Type 0} (o : Option X) → option_or o None ≡ o
or_none None = refl
or_none (Some x) = refl

map_or : {X Y : Type 0} (f : X → Y) (a b : Option X)
    → option_map f (option_or a b) ≡ option_or (option_map f a) (option_map f b)
map_or f None b = refl
map_or f (Some x) b = refl

found_one : (b : Bool) (l : PlainLoad)
    → option_map (λ l. l.cpu) (cond b (Some l) None) ≡ (if b then Some l.cpu else None)
found_one true l = refl
found_one false l = refl

pub load_more : (xs : List PlainLoad) (l : PlainLoad) (s k : ℕ)
    → loader_from_c (xs ++ l ∷ []) s k
    ≡ option_or (loader_from_c xs s k) (if l.slot == s && l.vcpu == k then Some l.cpu else None)
load_more xs l s k =
    ap (option_map (λ x. x.cpu)) (find-append (is_load s k) xs (l ∷ []))
    ∙ (map_or (λ x. x.cpu) (find (is_load s k) xs) (find (is_load s k) (l ∷ []))
    ∙ ap (option_or (loader_from_c xs s k)) (found_one (is_load s k l) l))

abbrev no_number : Option ℕ
no_number = None

none_either : (b : Bool) → (if b then no_number else no_number) ≡ no_number
none_either true = refl
none_either false = refl

-- and with none more
pub load_none : (xs : List PlainLoad) (b : Bool) (s k : ℕ)
    → loader_from_c xs s k ≡ option_or (loader_from_c xs s k) (if b then no_number else no_number)
load_none xs b s k = sym (ap (option_or (loader_from_c xs s k)) (none_either b) ∙ or_none (loader_from_c xs s k))

or_both : (a x y : Option ℕ) (b e : Bool)
    → option_or (option_or a (if b then x else None)) (if b && e then y else None)
    ≡ option_or a (if b then option_or x (if e then y else None) else None)
or_both (Some n) x y b e = refl
or_both None x y true e = refl
or_both None x y false e = refl

vcpu_next : (os : List (Option ℕ)) (i k : ℕ)
    → i < length os
    → option_or (get_or (take i os) k None) (if i == k then get_or os i None else None)
    ≡ get_or (take (i + 1) os) k None
vcpu_next os i k less = by_eq i k
    (λ same. let t : (i == i) ≡ true = grind (arith, nat_tests) in
    subst
    (λ (w : ℕ). option_or (get_or (take i os) w None) (if i == w then get_or os i None else None)
    ≡ get_or (take (i + 1) os) w None) same
    (same2 (λ (u v : Option ℕ). option_or u v) (take_past os i None less)
    (ap (λ (b : Bool). if b then get_or os i None else None) t)
    ∙ sym (take_here os i None None less)))
    (λ apart. let t : (i == k) ≡ false = grind (arith, nat_tests, apart) in
    ap (λ (b : Bool). option_or (get_or (take i os) k None) (if b then get_or os i None else None)) t
    ∙ (or_none (get_or (take i os) k None) ∙ sym (take_other os i k None apart)))

-- one more vCPU of a slot
pub vcpus_more : (os : List (Option ℕ)) (i slot s k : ℕ) (start before after : Option ℕ)
    → i < length os
    → before ≡ option_or start (if slot == s then get_or (take i os) k None else None)
    → after ≡ option_or before (if slot == s && i == k then get_or os i None else None)
    → after ≡ option_or start (if slot == s then get_or (take (i + 1) os) k None else None)
vcpus_more os i slot s k start before after less so one =
    one
    ∙ (ap (λ (o : Option ℕ). option_or o (if slot == s && i == k then get_or os i None else None)) so
    ∙ (or_both start (get_or (take i os) k None) (get_or os i None) (slot == s) (i == k)
    ∙ ap (λ (o : Option ℕ). option_or start (if slot == s then o else None)) (vcpu_next os i k less)))

-- one more slot
pub slots_more : {G : Type 0} (f : G → List (Option ℕ)) (gs : List G) (i : ℕ) (d : G) (s k : ℕ)
    (before after : Option ℕ)
    → i < length gs
    → before ≡ get_or (get_or (map f (take i gs)) s []) k None
    → after ≡ option_or before (if i == s then get_or (f (get_or gs i d)) k None else None)
    → after ≡ get_or (get_or (map f (take (i + 1) gs)) s []) k None
slots_more {G} f gs i d s k before after less so one = one ∙ by_eq i s
    (λ same. let t : (i == s) ≡ true = grind (arith, nat_tests, same) in
    let was : before ≡ None =
    so
    ∙ ap (λ (os : List (Option ℕ)). get_or os k None)
    (subst (λ (w : ℕ). get_or (map f (take i gs)) w [] ≡ []) same (map_past f gs i d [] less)) in
    let is : get_or (map f (take (i + 1) gs)) s [] ≡ f (get_or gs i d) =
    subst (λ (w : ℕ). get_or (map f (take (i + 1) gs)) w [] ≡ f (get_or gs i d)) same (map_here f gs i d [] less) in
    same2
    (λ (u v : Option ℕ). option_or u v) was (ap
    (λ (b : Bool). if b then get_or (f (get_or gs i d)) k None else None) t)
    ∙ ap (λ (os : List (Option ℕ)). get_or os k None) (sym is))
    (λ apart. let t : (i == s) ≡ false = grind (arith, nat_tests, apart) in
    ap (λ (b : Bool). option_or before (if b then get_or (f (get_or gs i d)) k None else None)) t ∙ (or_none before
    ∙ (so ∙ ap (λ (os : List (Option ℕ)). get_or os k None) (sym (map_other f gs i d [] less s apart)))))

abbrev first_or : ℕ → List ℕ → ℕ
first_or d [] = d
first_or d (x ∷ xs) = x

-- members whose numbers are their indices are found by them
listed_from : {X B : Type 0} (number : X → ℕ) (says : X → B) (none : X) (xs : List X) (at n : ℕ)
    → map number xs ≡ map (λ m. m) (range_with_len at n)
    → (v : ℕ)
    → says (listed number none xs (at + v)) ≡ get_or (map says xs) v (says none)
listed_from number says none [] at n is v = refl
listed_from number says none (x ∷ xs) at zero is v = absurd (let bad = is in cc)
listed_from {X} {B} number says none (x ∷ xs) at (suc n) is zero =
    let here : number x ≡ at = ap (first_or 0) is in
    let found : (number x == at + 0) ≡ true = grind (arith, nat_tests, here) in
    ap (λ (b : Bool). says (unwrap_or (cond b (Some x) (find (λ y. number y == at + 0) xs)) none)) found
listed_from {X} {B} number says none (x ∷ xs) at (suc n) is (suc v) =
    let here : number x ≡ at = ap (first_or 0) is in
    let other : (number x == at + suc v) ≡ false = grind (arith, nat_tests, here) in
    let next : at + suc v ≡ (at + 1) + v = omega arith in
    ap (λ (b : Bool). says (unwrap_or (cond b (Some x) (find (λ y. number y == at + suc v) xs)) none)) other
    ∙ (ap (λ (m : ℕ). says (listed number none xs m)) next
    ∙ listed_from number says none xs (at + 1) n (ap (drop 1) is) v)

pub listed_at : {X B : Type 0} (number : X → ℕ) (says : X → B) (none : X) (xs : List X) (n : ℕ)
    → map number xs ≡ map (λ m. m) (range_with_len 0 n)
    → (v : ℕ)
    → says (listed number none xs v) ≡ get_or (map says xs) v (says none)
listed_at {X} {B} number says none xs n is v = let here : 0 + v ≡ v = omega arith in
    ap (λ (m : ℕ). says (listed number none xs m)) (sym here) ∙ listed_from number says none xs 0 n is v

-- the trees of the host and of the hypervisor are told first, or the shared pool alone
pub both_told : {Y : Type 0} (first second : ℕ → List Y) (xs ys : List Y)
    → ((t : ℕ) → first t ≡ (if 0 == t then xs else []))
    → ((t : ℕ) → second t ≡ first t ++ (if 1 == t then ys else []))
    → (second 0 ≡ xs) × (second 1 ≡ ys) × ((v : ℕ) → second (2 + v) ≡ [])
both_told {Y} first second xs ys one two = (
  two 0 ∙ (append-nil (first 0) ∙ one 0),
  two 1 ∙ ap (λ (us : List Y). us ++ ys) (one 1),
  λ v.
      let t : (0 == 2 + v) ≡ false = grind (arith, nat_tests) in
      let u : (1 == 2 + v) ≡ false = grind (arith, nat_tests) in
      two (2 + v)
      ∙ same2 (λ (us vs : List Y). us ++ vs) (one (2 + v) ∙ ap (λ (b : Bool). if b then xs else []) t)
      (ap (λ (b : Bool). if b then ys else []) u),
)

pub shared_told : {Y : Type 0} (first : ℕ → List Y) (xs : List Y)
    → ((t : ℕ) → first t ≡ (if 1 == t then xs else []))
    → (first 1 ≡ xs) × ((v : ℕ) → first (2 + v) ≡ [])
shared_told first xs one = (
  one 1,
  λ v. let t : (1 == 2 + v) ≡ false = grind (arith, nat_tests) in
      one (2 + v) ∙ ap (λ (b : Bool). if b then xs else []) t,
)
