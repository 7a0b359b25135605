-- Lists of which no member clashes with an earlier one say trees and pools that are apart.
use Rattle.std.proofs.Common.{◌≡◌, ℕ, suc, Bool, true, false, List, [], ◌∷◌, Option, Some, None, take, get_or, refl, sym, ap, subst, ◌∙◌, arith}
use Rattle.std.specs.Prelude.{◌==◌, ◌&&◌, ◌||◌, nat_lt, if◌then◌else◌, All, AllPairs, MatchOption, filter_map, option_map}
use Rattle.std.specs.List.{cons_option}
use Rattle.std.proofs.lemmas.Bool.Decides.{nat_tests}
use Rattle.std.proofs.lemmas.List.{get_or-take, length-take-le}
use Rattle.std.proofs.lemmas.List.Elements.{All-cons, All-nil}
use Rattle.std.proofs.lemmas.List.Folds.{list_any_at}
use Rattle.std.proofs.lemmas.List.Kept.{AllPairs-cons}
use Rattle.std.proofs.lemmas.Option.{slice_get-get_or}
use Rattle.page_state.specs.declared.entry.PageRange.{PageRange}
use Rattle.page_state.specs.declared.entry.Run.{Run}
use Rattle.page_state.specs.declared.entry.Target.{Target}
use Rattle.page_state.specs.Map.{is_within}
use Rattle.page_state.proofs.Cases.{by_test}
use Rattle.ghost_trees.specs.declared.tree.Table.{Table}
use Rattle.ghost_trees.specs.Apart.{AreOtherFrames, AreOtherTables, AreRunsDisjoint}
use Rattle.ghost_spec.specs.declared.filled.GhostFault.{GhostFault}
use Rattle.ghost_spec.specs.declared.filled.GhostFault.TheVariants.{Overlap, TableTwice, FrameTwice}
use Rattle.c_words.specs.Said.{target_from_c}
use Rattle.c_states.specs.declared.members.PlainFrame.{PlainFrame}
use Rattle.c_states.specs.declared.members.PlainRun.{PlainRun}
use Rattle.c_states.specs.declared.members.PlainTable.{PlainTable}
use Rattle.c_states.specs.declared.state.PlainList.{PlainList}
use Rattle.c_states.specs.Clashes.{do_frames_clash, do_runs_clash, do_tables_clash, HasNoClash, IsFirstClash}
use Rattle.c_states.specs.Faults.{HaveFramesApart, HaveRunsApart, HaveTablesApart, IsCulprit, IsFirstOfLists}
use Rattle.c_states.specs.Lists.{frame_from_c, range_from_c, run_from_c, table_from_c}
use Rattle.c_states.specs.States.{Lists}

-- a member and each later one don't clash
pairs_apart : {X : Type 0} (clash : X → X → Bool) (xs : List X)
    → HasNoClash clash xs
    → AllPairs (λ a b. clash b a ≡ false) xs
pairs_apart clash xs none i j d l k = by_test (clash (get_or xs j d) (get_or xs i d))
    (λ t. absurd (none j (record {
      member = get_or xs j d;
      is = slice_get-get_or xs j d k;
      earlier =
          let front = length-take-le j xs (omega (arith, k)) in
          list_any_at (clash (get_or xs j d)) (take j xs) i d (rw front l)
          (ap (clash (get_or xs j d)) (get_or-take j xs i d l) ∙ t);
    })))
    (λ t. t)

-- so is what they say
module _ {X Y : Type 0} (said : X → Option Y) (S : X → X → Type 0) (R : Y → Y → Type 0)
    (keeps : (a b : X) (r s : Y) → S a b → said a ≡ Some r → said b ≡ Some s → R r s) where
  one_said : (r : Y) (x : X) (rest : List Y) (o : Option Y)
      → said x ≡ o
      → ((s : Y) → said x ≡ Some s → R r s)
      → All (R r) rest
      → All (R r) (cons_option o rest)
  one_said r x rest None t here all = all
  one_said r x rest (Some s) t here all = All-cons (R r) s rest (here s t) all

  all_said : (a : X) (r : Y) (xs : List X) → said a ≡ Some r → All (S a) xs → All (R r) (filter_map said xs)
  all_said a r [] e h = All-nil (R r)
  all_said a r (x ∷ xs) e h =
      one_said r x (filter_map said xs) (said x) refl (λ s t. keeps a x r s (h 0 x (omega arith)) e t)
      (all_said a r xs e (λ k d l. h (suc k) d (omega (arith, l))))

  one_pairs : (x : X) (rest : List Y) (o : Option Y)
      → said x ≡ o
      → ((r : Y) → said x ≡ Some r → All (R r) rest)
      → AllPairs R rest
      → AllPairs R (cons_option o rest)
  one_pairs x rest None t here all = all
  one_pairs x rest (Some r) t here all = AllPairs-cons R r rest (here r t) all

  pairs_said : (xs : List X) → AllPairs S xs → AllPairs R (filter_map said xs)
  pairs_said [] h = λ i j d l k. absurd (omega (arith, k))
  pairs_said (x ∷ xs) h =
      one_pairs x (filter_map said xs) (said x) refl
      (λ r t. all_said x r xs t (λ k d l. h 0 (suc k) d (omega arith) (omega (arith, l))))
      (pairs_said xs (λ i j d l k. h (suc i) (suc j) d (omega (arith, l)) (omega (arith, k))))

-- what a member of a tree or a pool says
said_of : {Y : Type 0} (b : Bool) (y r : Y) → (if b then Some y else None) ≡ Some r → (b ≡ true) × (y ≡ r)
said_of true y r e = (refl, cc)
said_of false y r e = absurd (let bad = e in cc)

run_of : (b : Bool) (o : Option Target) (pages : PageRange) (r : Run)
    → (if b then option_map (λ target. record { pages = pages; target = target }) o else None) ≡ Some r
    → (b ≡ true) × (pages ≡ r.pages)
run_of true None pages r e = absurd (let bad = e in cc)
run_of true (Some target) pages r e = let same : record { pages = pages; target = target } ≡ r = cc in
    (refl, ap (λ (x : Run). x.pages) same)
run_of false o pages r e = absurd (let bad = e in cc)

far : (ta tb a n b m page : ℕ)
    → ta ≡ tb
    → (tb == ta && (nat_lt 0 m && nat_lt 0 n) && (is_within b m a || is_within a n b)) ≡ false
    → is_within a n page ≡ true
    → is_within b m page ≡ true
    → ⊥
far ta tb a n b m page e f g h = grind (arith, nat_tests)

runs_differ : (tree : ℕ) (a b : PlainRun) (r s : Run)
    → do_runs_clash b a ≡ false
    → run_from_c tree a ≡ Some r
    → run_from_c tree b ≡ Some s
    → AreRunsDisjoint r s
runs_differ tree a b r s f x y page g h =
    let first = run_of (a.tree == tree) (target_from_c a.word) (range_from_c a.page a.count) r x in
    let second = run_of (b.tree == tree) (target_from_c b.word) (range_from_c b.page b.count) s y in
    let t : a.tree ≡ tree = let i = first.0 in grind (arith, nat_tests) in
    let u : b.tree ≡ tree = let i = second.0 in grind (arith, nat_tests) in
    far a.tree b.tree a.page a.count b.page b.count page (t ∙ sym u) f
    (subst (λ (q : PageRange). is_within q.first.0 q.count page ≡ true) (sym first.1) g)
    (subst (λ (q : PageRange). is_within q.first.0 q.count page ≡ true) (sym second.1) h)

tables_far : (ta tb ha hb ia ib fa fb : ℕ)
    → ta ≡ tb
    → (tb == ta && (hb == ha && ib == ia || fb == fa)) ≡ false
    → ((ha ≡ hb → ia ≡ ib → ⊥) × (fa ≡ fb → ⊥))
tables_far ta tb ha hb ia ib fa fb e f = (λ h i. grind (arith, nat_tests), λ h. grind (arith, nat_tests))

tables_differ : (tree : ℕ) (a b : PlainTable) (r s : Table)
    → do_tables_clash b a ≡ false
    → table_from_c tree a ≡ Some r
    → table_from_c tree b ≡ Some s
    → AreOtherTables r s
tables_differ tree a b r s f x y =
    let first = said_of (a.tree == tree) (record { block = (a.height, a.index); frame = a.frame }) r x in
    let second = said_of (b.tree == tree) (record { block = (b.height, b.index); frame = b.frame }) s y in
    let t : a.tree ≡ tree = let i = first.0 in grind (arith, nat_tests) in
    let u : b.tree ≡ tree = let i = second.0 in grind (arith, nat_tests) in
    let apart = tables_far a.tree b.tree a.height b.height a.index b.index a.frame b.frame (t ∙ sym u) f in
    record {
      block = λ e. let same : (a.height, a.index) ≡ (b.height, b.index) =
          ap (λ (z : Table). z.block) first.1 ∙ e ∙ ap (λ (z : Table). z.block) (sym second.1) in
          apart.0 (ap (λ z. z.0) same) (ap (λ z. z.1) same);
      frame = λ e. apart.1 (ap (λ (z : Table). z.frame) first.1 ∙ e ∙ ap (λ (z : Table). z.frame) (sym second.1));
    }

frames_far : (pa pb fa fb : ℕ) → pa ≡ pb → (pb == pa && fb == fa) ≡ false → fa ≡ fb → ⊥
frames_far pa pb fa fb e f h = grind (arith, nat_tests)

frames_differ : (pool : ℕ) (a b : PlainFrame) (r s : ℕ)
    → do_frames_clash b a ≡ false
    → frame_from_c pool a ≡ Some r
    → frame_from_c pool b ≡ Some s
    → AreOtherFrames r s
frames_differ pool a b r s f x y e =
    let first = said_of (a.pool == pool) a.frame r x in
    let second = said_of (b.pool == pool) b.frame s y in
    let t : a.pool ≡ pool = let i = first.0 in grind (arith, nat_tests) in
    let u : b.pool ≡ pool = let i = second.0 in grind (arith, nat_tests) in
    frames_far a.pool b.pool a.frame b.frame (t ∙ sym u) f (first.1 ∙ e ∙ sym second.1)

pub runs_apart : (p : Lists) → HasNoClash do_runs_clash p.runs → HaveRunsApart p
runs_apart p none tree l =
    pairs_said (run_from_c tree) (λ a b. do_runs_clash b a ≡ false) AreRunsDisjoint (runs_differ tree) p.runs
    (pairs_apart do_runs_clash p.runs none)

pub tables_apart : (p : Lists) → HasNoClash do_tables_clash p.tables → HaveTablesApart p
tables_apart p none tree l =
    pairs_said (table_from_c tree) (λ a b. do_tables_clash b a ≡ false) AreOtherTables (tables_differ tree) p.tables
    (pairs_apart do_tables_clash p.tables none)

pub frames_apart : (p : Lists) → HasNoClash do_frames_clash p.frames → HaveFramesApart p
frames_apart p none pool some l =
    pairs_said (frame_from_c pool) (λ a b. do_frames_clash b a ≡ false) AreOtherFrames (frames_differ pool) p.frames
    (pairs_apart do_frames_clash p.frames none)

-- where no two members clash there is none to tell, and no fault
pub no_runs : (cpus : ℕ) (p : Lists) (f : GhostFault) (o : Option (PlainList × ℕ)) (r : Option ℕ)
    → f ≡ Overlap
    → r ≡ None
    → MatchOption r (HasNoClash do_runs_clash p.runs) (IsFirstClash do_runs_clash p.runs)
    → IsFirstOfLists cpus p f
    → IsCulprit p f o
no_runs cpus p f o r e n known h =
    absurd
    ((subst (IsFirstOfLists cpus p) e h).1
    (runs_apart p
    (subst
    (λ (x : Option ℕ). MatchOption x (HasNoClash do_runs_clash p.runs)
    (IsFirstClash do_runs_clash p.runs)) n known)))

pub no_tables : (cpus : ℕ) (p : Lists) (f : GhostFault) (o : Option (PlainList × ℕ)) (r : Option ℕ)
    → f ≡ TableTwice
    → r ≡ None
    → MatchOption r (HasNoClash do_tables_clash p.tables) (IsFirstClash do_tables_clash p.tables)
    → IsFirstOfLists cpus p f
    → IsCulprit p f o
no_tables cpus p f o r e n known h =
    absurd
    ((subst (IsFirstOfLists cpus p) e h).2
    (tables_apart p
    (subst
    (λ (x : Option ℕ). MatchOption x (HasNoClash do_tables_clash p.tables)
    (IsFirstClash do_tables_clash p.tables)) n known)))

pub no_frames : (cpus : ℕ) (p : Lists) (f : GhostFault) (o : Option (PlainList × ℕ)) (r : Option ℕ)
    → f ≡ FrameTwice
    → r ≡ None
    → MatchOption r (HasNoClash do_frames_clash p.frames) (IsFirstClash do_frames_clash p.frames)
    → IsFirstOfLists cpus p f
    → IsCulprit p f o
no_frames cpus p f o r e n known h =
    absurd
    ((subst (IsFirstOfLists cpus p) e h).3
    (frames_apart p
    (subst
    (λ (x : Option ℕ). MatchOption x (HasNoClash do_frames_clash p.frames)
    (IsFirstClash do_frames_clash p.frames)) n known)))
