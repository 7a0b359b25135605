-- Members that are told have known numbers, and none is there twice.
use Rattle.std.proofs.Common.{◌≡◌, ℕ, ◌<◌, ◌≤◌, Bool, true, false, List, ◌∷◌, [], ◌++◌, Option, Some, None, map, take, get_or, refl, sym, ap, subst, ◌∙◌, arith}
use Rattle.std.specs.Prelude.{◌==◌, ◌&&◌, if◌then◌else◌, nat_lt, IsTrue, is_some, option_map}
use Rattle.std.specs.List.{list_any, range_with_len}
use Rattle.std.proofs.lemmas.Bool.Decides.{nat_tests}
use Rattle.std.proofs.lemmas.List.{get_or-take, length-take-le}
use Rattle.std.proofs.lemmas.List.Elements.{All-push}
use Rattle.std.proofs.lemmas.List.Folds.{list_any_none}
use Rattle.std.proofs.lemmas.Option.{get_or_from_slice_get, slice_get_within}
use Rattle.page_state.specs.declared.entry.PageRange.{PageRange}
use Rattle.page_state.specs.declared.entry.Run.{Run}
use Rattle.page_state.specs.declared.entry.Target.{Target}
use Rattle.page_state.specs.declared.row.Row.{Row}
use Rattle.run_list.specs.declared.run.Run.{Run as RowRun}
use Rattle.ghost_trees.specs.declared.tree.Table.{Table}
use Rattle.c_words.specs.Said.{row_from_c as owner_said, target_from_c}
use Rattle.c_states.specs.declared.members.PlainCpu.{PlainCpu}
use Rattle.c_states.specs.declared.members.PlainFrame.{PlainFrame}
use Rattle.c_states.specs.declared.members.PlainLoad.{PlainLoad}
use Rattle.c_states.specs.declared.members.PlainRow.{PlainRow}
use Rattle.c_states.specs.declared.members.PlainRun.{PlainRun}
use Rattle.c_states.specs.declared.members.PlainTable.{PlainTable}
use Rattle.c_states.specs.Clashes.{HasNoClash}
use Rattle.c_states.specs.Known.{has_known_ticket, is_frame, is_row, is_run, is_table}
use Rattle.c_states.specs.Lists.{frame_from_c, row_from_c, run_from_c, table_from_c}
use Rattle.c_states.specs.Told.{is_cpu_well_formed, AreKnown, AreLoads}
use Rattle.c_states.proofs.FilledLists.{at}

-- one member more
pub known_more : {X : Type 0} (known : X → Bool) (old new : List X) (x : X)
    → new ≡ old ++ x ∷ []
    → AreKnown known old
    → IsTrue (known x)
    → AreKnown known new
known_more {X} known old new x e h k = subst (AreKnown known) (sym e) (All-push (λ (y : X). IsTrue (known y)) old x h k)

pub loads_known : (old new : List PlainLoad) (slot vcpu cpu : ℕ)
    → new ≡ old ++ record { slot = slot; vcpu = vcpu; cpu = cpu } ∷ []
    → slot < 64
    → AreLoads old
    → AreLoads new
loads_known old new slot vcpu cpu e less h =
    subst AreLoads (sym e)
    (All-push (λ (l : PlainLoad). l.slot < 64) old (record { slot = slot; vcpu = vcpu; cpu = cpu }) h less)

-- what says something of its tree or pool has known numbers
same_number : (n : ℕ) → (n == n) ≡ true
same_number n = grind (arith, nat_tests)

of_number : {Y : Type 0} (f : ℕ → Option Y) (n : ℕ) (y : Y)
    → ((t : ℕ) → f t ≡ (if n == t then Some y else None))
    → f n ≡ Some y
of_number f n y all = all n ∙ ap (λ (b : Bool). if b then Some y else None) (same_number n)

both_true : (a b : Bool) → a ≡ true → b ≡ true → (a && b) ≡ true
both_true true b e f = f
both_true false b e f = absurd (let bad = e in cc)

low_tree : (a b : ℕ) → (a == b) ≡ true → b < 66 → nat_lt a 66 ≡ true
low_tree a b e l = grind (arith, nat_tests)

low_pool : (a b : ℕ) → (a == b) ≡ true → 1 ≤ b → b < 66 → (1 ≤ a) × (a < 66)
low_pool a b e s l = let same : a ≡ b = grind (arith, nat_tests) in (omega (arith, same, s), omega (arith, same, l))

run_is : (b : Bool) (o : Option Target) (pages : PageRange) (r : Run)
    → (if b then option_map (λ target. record { pages = pages; target = target }) o else None) ≡ Some r
    → (b ≡ true) × (is_some o ≡ true)
run_is true None pages r e = absurd (let bad = e in cc)
run_is true (Some target) pages r e = (refl, refl)
run_is false o pages r e = absurd (let bad = e in cc)

tested : {Y : Type 0} (b : Bool) (x y : Y) → (if b then Some x else None) ≡ Some y → b ≡ true
tested true x y e = refl
tested false x y e = absurd (let bad = e in cc)

pub run_known : (tree : ℕ) (told : PlainRun) (r : Run)
    → ((t : ℕ) → run_from_c t told ≡ (if tree == t then Some r else None))
    → tree < 66
    → IsTrue (is_run told)
run_known tree told r all l =
    let is =
    run_is (told.tree == tree) (target_from_c told.word)
    (record { first = record { 0 = told.page }; count = told.count }) r
    (of_number (λ t. run_from_c t told) tree r all) in
    both_true (nat_lt told.tree 66) (is_some (target_from_c told.word)) (low_tree told.tree tree is.0 l) is.1

pub table_known : (tree : ℕ) (told : PlainTable) (x : Table)
    → ((t : ℕ) → table_from_c t told ≡ (if tree == t then Some x else None))
    → tree < 66
    → IsTrue (is_table told)
table_known tree told x all l =
    low_tree told.tree tree
    (tested (told.tree == tree) (record { block = (told.height, told.index); frame = told.frame }) x
    (of_number (λ t. table_from_c t told) tree x all)) l

pub frame_known : (pool : ℕ) (told : PlainFrame) (x : ℕ)
    → ((t : ℕ) → frame_from_c t told ≡ (if pool == t then Some x else None))
    → 1 ≤ pool
    → pool < 66
    → IsTrue (is_frame told)
frame_known pool told x all some l =
    let low =
    low_pool told.pool pool
    (tested (told.pool == pool) told.frame x (of_number (λ t. frame_from_c t told) pool x all)) some l in
    let up = low.0 in
    let down = low.1 in grind (arith, nat_tests)

row_is : (o : Option Row) (pages : PageRange) (x : RowRun Row)
    → option_map (λ row. record { pages = pages; value = row }) o ≡ Some x
    → is_some o ≡ true
row_is None pages x e = absurd (let bad = e in cc)
row_is (Some row) pages x e = refl

pub row_known : (told : PlainRow) (x : RowRun Row) → row_from_c told ≡ Some x → IsTrue (is_row told)
row_known told x e =
    row_is (owner_said told.owner) (record { first = record { 0 = told.frame }; count = told.count }) x e

pub cpu_known : (cpus number : ℕ) (told : PlainCpu)
    → told.cpu ≡ number
    → number < cpus
    → IsTrue (has_known_ticket told)
    → IsTrue (is_cpu_well_formed cpus told)
cpu_known cpus number told e l k = both_true (nat_lt told.cpu cpus) (has_known_ticket told) (grind (arith, nat_tests)) k

-- members whose numbers are their indices
pub numbers_once : {X : Type 0} (number : X → ℕ) (xs : List X) (n : ℕ)
    → map number xs ≡ map (λ m. m) (range_with_len 0 n)
    → HasNoClash (λ a b. number a == number b) xs
numbers_once {X} number xs n is i clash =
    let within = slice_get_within xs i clash.member clash.is in
    let long = length-take-le i xs (omega (arith, within)) in
    let here : number clash.member ≡ i =
    sym
    (at number (λ m. m) n xs is i clash.member within
    ∙ ap number (get_or_from_slice_get xs i clash.member clash.member clash.is)) in
    let none : list_any (λ x. number clash.member == number x) (take i xs) ≡ false =
    list_any_none (λ x. number clash.member == number x) (take i xs)
    (λ k d l.
    let less : k < i = omega (arith, l, long) in
    let other : k ≡ number (get_or (take i xs) k d) =
    at number (λ m. m) n xs is k d (omega (arith, less, within)) ∙ ap number (sym (get_or-take i xs k d less)) in
    grind (arith, nat_tests, here, other, less)) in
    let bad : true ≡ false = sym clash.earlier ∙ none in cc
