-- A walk over the slots of a table, with a pending run.
use Rattle.std.proofs.Common.{◌≡◌, ℕ, zero, suc, ◌+◌, ◌-◌, ◌*◌, ◌^◌, ◌<◌, ◌≤◌, min, List, ◌∷◌, ◌++◌, refl, sym, ap, subst, ◌∙◌, arith}
use Rattle.std.proofs.Math.Nat.{mul-le-mul_left}
use Rattle.std.specs.declared.boxed.Box.{Box}
use Rattle.page_state.specs.declared.entry.Run.{Run}
use Rattle.page_state.specs.Entries.{advance}
use Rattle.page_state.specs.Geometries.{block_pages}
use Rattle.page_state.specs.Map.{Map}
use Rattle.page_state.specs.Runs.{map_of}
use Rattle.page_state.proofs.Cases.{by_lt}
use Rattle.page_state.proofs.Sizes.{size_some}
use Rattle.table_tree.specs.declared.table.Table.{Table}
use Rattle.table_tree.specs.declared.table.Slot.TheVariants.{Word, Child}
use Rattle.table_tree.specs.Meaning.{entry_at, slot_at}
use Rattle.table_tree.specs.Shape.{IsWide}
use Rattle.table_tree.specs.Tables.{tables_in}
use Rattle.table_tree.proofs.Changes.{seen}
use Rattle.table_tree.proofs.Sums.{tables_more_word, tables_more_child}
use Rattle.ghost_trees.specs.declared.tree.Table.{Table as FoundTable}
use Rattle.ghost_oracle.specs.declared.pending.Pending.{Pending}
use Rattle.ghost_oracle.specs.inner.Eights.{GoesTo, HasLooked}
use Rattle.table_tree.specs.Ahead.{gives}
use Rattle.ghost_oracle.specs.inner.Pending.{IsPending, IsGiven, pending_with}
use Rattle.ghost_oracle.specs.inner.Walking.{AreRunsTo, GoesOn, found_at, found_under}
use Rattle.ghost_oracle.proofs.FoundTables.{found_before, before_word}
use Rattle.ghost_oracle.proofs.Extended.{pending_steps}
use Rattle.ghost_oracle.proofs.Places.{index_in, rest_in, on_twice, on_not, first_part}
use Rattle.ghost_oracle.proofs.Walking.{slots_before, starts_before, ends_last, child_ends, child_goes_on, tables_child}

-- the first page of a part of a table's block
abbrev pub part_at : ℕ → ℕ → ℕ → ℕ
part_at d n i = (n * 512 + i) * block_pages d

-- the walk has come to slot `i`, and has looked at `looked` slots
pub record IsWalked {A : Type 0} (d n : ℕ) (t : Table A) (first_runs : List Run) (first_tables : List FoundTable)
    (first_count : ℕ) (i looked : ℕ) (h : Pending) (found_runs : List Run) (found_tables : List FoundTable)
    (count : ℕ) : Type 0 where
  pub pending : IsPending (entry_at d t) d (part_at d n i) (512 - i) h
  pub runs : AreRunsTo h.first found_runs
  pub order : n * block_pages (d + 1) ≤ h.first
  pub map : GoesOn (entry_at d t) (n * block_pages (d + 1)) h.first (map_of first_runs) (map_of found_runs)
  pub tables : found_tables ≡ first_tables ++ (found_at d n t ∷ found_before d n t i)
  pub reads : min count 18446744073709551615
      ≡ min (first_count + looked + 512 * slots_before d t i) 18446744073709551615
  pub fits : 1 ≤ looked → count ≤ 18446744073709551615

-- the part after it
part_next : (d n i : ℕ) → part_at d n i + block_pages d ≡ part_at d n (i + 1)
part_next d n i = omega arith

part_more : (d n i j : ℕ) → part_at d n i + j * block_pages d ≡ part_at d n (i + j)
part_more d n i j = omega arith

pub block_small : (d n : ℕ) → (n + 1) * block_pages (d + 1) ≤ 2 ^ 36 → n + 1 ≤ 2 ^ 36
block_small d n h = let some : 1 ≤ block_pages (d + 1) = size_some (d + 1) in
    let more : (n + 1) * 1 ≤ (n + 1) * block_pages (d + 1) = mul-le-mul_left (n + 1) some in
    omega (arith, h, more)

pub whole_small : (d n s : ℕ) → s ≡ block_pages d → (n + 1) * block_pages (d + 1) ≤ 2 ^ 36 → (n + 1) * 512 * s ≤ 2 ^ 36
whole_small d n s e h = let all : (n + 1) * block_pages (d + 1) ≡ (n + 1) * 512 * block_pages d =
    first_part d (n + 1) in
    rw e (omega (arith, all, h))

module _ {A : Type 0} (d n : ℕ) (t : Table A) where
  -- what a word's slot says of the map
  pub word_given : (i w : ℕ) → i < 512 → slot_at t i ≡ Word w → IsGiven (entry_at d t) d (part_at d n i) w
  word_given i w l e p a b =
      let inside : p < (n * 512 + i + 1) * block_pages d = omega (arith, b) in
      (seen i t (slot_at t i) l refl).word w d p e (index_in d n i p l a inside)
      ∙ ap (advance (gives d w)) (rest_in (block_pages d) (n * 512 + i) p (size_some d) a inside)

  -- the tables below words
  words_before : (i j : ℕ)
      → IsWide t
      → i + j ≤ 512
      → ((k : ℕ) → k < j → (w : ℕ) × (slot_at t (i + k) ≡ Word w))
      → (found_before d n t (i + j) ≡ found_before d n t i) × (slots_before d t (i + j) ≡ slots_before d t i)
  words_before i zero wide l h = let e : i + 0 ≡ i = omega arith in (ap (found_before d n t) e, ap (slots_before d t) e)
  words_before i (suc j) wide l h =
      let x = words_before i j wide (omega (arith, l)) (λ k m. h k (omega (arith, m))) in
      let w = h j (omega arith) in
      let e : i + suc j ≡ i + j + 1 = omega arith in (
        ap (found_before d n t) e ∙ before_word d n (i + j) w.0 t (slot_at t (i + j)) refl w.1 ∙ x.0,
        ap (slots_before d t) e ∙ tables_more_word d (i + j) w.0 t (slot_at t (i + j)) wide (omega (arith, l)) refl w.1
            ∙ x.1,
      )

  module _ (runs₀ : List Run) (tables₀ : List FoundTable) (count₀ : ℕ) where
    -- before the first slot
    pub walk_begins : (h : Pending) (tables : List FoundTable)
        → h.first ≡ n * 512 * block_pages d
        → ((m : Map) (e left : ℕ) → IsPending m e h.first left h)
        → AreRunsTo (n * block_pages (d + 1)) runs₀
        → tables ≡ tables₀ ++ (found_at d n t ∷ found_before d n t 0)
        → IsWalked d n t runs₀ tables₀ count₀ 0 0 h runs₀ tables count₀
    walk_begins h tables f x r ts =
        let at : part_at d n 0 ≡ h.first = omega (arith, f) in
        let start : n * block_pages (d + 1) ≡ h.first = first_part d n ∙ sym f in
        record {
          pending = subst (λ p. IsPending (entry_at d t) d p 512 h) (sym at) (x (entry_at d t) d 512);
          runs = subst (λ p. AreRunsTo p runs₀) start r;
          order = omega (arith, start);
          map =
              subst (λ p. GoesOn (entry_at d t) (n * block_pages (d + 1)) p (map_of runs₀) (map_of runs₀)) start
              (on_not (entry_at d t) (map_of runs₀) (n * block_pages (d + 1)));
          tables = ts;
          reads = omega arith;
          fits = λ l. omega (arith, l);
        }

    module _ (i looked : ℕ) (h : Pending) (runs : List Run) (tables : List FoundTable) (count : ℕ)
        (x : IsWalked d n t runs₀ tables₀ count₀ i looked h runs tables count) (wide : IsWide t) where
      -- the pending run is put after the others
      put_on : (to : ℕ) (new : List Run)
          → h.first ≤ to
          → to ≤ part_at d n i
          → GoesOn (λ p. advance h.entry (p - h.first)) h.first to (map_of runs) (map_of new)
          → GoesOn (entry_at d t) (n * block_pages (d + 1)) to (map_of runs₀) (map_of new)
      put_on to new a b g =
          on_twice (entry_at d t) (λ p. advance h.entry (p - h.first)) (map_of runs₀) (map_of runs) (map_of new)
          (n * block_pages (d + 1)) h.first to x.order
          (λ p k l. sym (x.pending.given p k (omega (arith, b, l)))) x.map g

      -- words of slots that were looked at extended the pending run
      pub walk_on : (j looked' count' : ℕ) (h' : Pending)
          → i ≤ j
          → j ≤ 512
          → GoesTo t i j h h'
          → (more : ℕ)
          → looked + more ≡ looked'
          → HasLooked count more count'
          → IsWalked d n t runs₀ tables₀ count₀ j looked' h' runs tables count'
      walk_on j looked' count' h' a b g more e c =
          let all : i + (j - i) ≡ j = omega (arith, a) in
          let r = x.reads in
          let r' = c.count in
          let f = c.fits in
          let y =
          words_before i (j - i) wide (omega (arith, all, b))
          (λ k m. (h.next + k * h.step, g.words k (omega (arith, all, m)))) in
          let left : 512 - i ≡ 512 - j + (j - i) = omega (arith, a, b) in
          let z : IsPending (entry_at d t) d (part_at d n i + (j - i) * block_pages d) (512 - j) (pending_with h (h.next + (j - i) * h.step)) =
          by_lt i j
          (λ l. pending_steps (entry_at d t) d (part_at d n i) (512 - j) (j - i) h
          (subst (λ q. IsPending (entry_at d t) d (part_at d n i) q h) left x.pending) (g.on l)
          (λ k m. subst (λ p. IsGiven (entry_at d t) d p (h.next + k * h.step)) (sym (part_more d n i k))
          (word_given (i + k) (h.next + k * h.step) (omega (arith, all, b, m))
          (g.words k (omega (arith, all, m))))))
          (λ l.
          let none : j - i ≡ 0 = omega (arith, l) in
          let at : part_at d n i ≡ part_at d n i + (j - i) * block_pages d = rw none (omega arith) in
          let word : h.next ≡ h.next + (j - i) * h.step = rw none (omega arith) in
          let same : 512 - i ≡ 512 - j = omega (arith, a, l) in
          subst
          (λ w. IsPending (entry_at d t) d (part_at d n i + (j - i) * block_pages d) (512 - j)
          (pending_with h w)) word
          (subst (λ p. IsPending (entry_at d t) d p (512 - j) h) at
          (subst (λ q. IsPending (entry_at d t) d (part_at d n i) q h) same x.pending))) in
          rw g.pending (record {
            pending =
                subst (λ p. IsPending (entry_at d t) d p (512 - j) (pending_with h (h.next + (j - i) * h.step)))
                (part_more d n i (j - i) ∙ ap (part_at d n) all) z;
            runs = x.runs;
            order = x.order;
            map = x.map;
            tables =
                x.tables ∙ ap (λ ts. tables₀ ++ (found_at d n t ∷ ts)) (sym (ap (found_before d n t) (sym all) ∙ y.0));
            reads = let s = ap (slots_before d t) (sym all) ∙ y.1 in omega (arith, r, r', e, s);
            fits = λ l. by_lt 0 more (λ q. f (omega (arith, q))) (λ q. c.kept (x.fits (omega (arith, e, l, q))));
          })

      -- a word
      pub walk_word : (w : ℕ) (h' : Pending) (new : List Run) → i < 512 → slot_at t i ≡ Word w → AreRunsTo h'.first new
          → GoesOn (λ p. advance h.entry (p - h.first)) h.first h'.first (map_of runs) (map_of new)
          → (h.first ≤ h'.first) × (h'.first ≤ part_at d n i)
          → ((m : Map) (left : ℕ)
          → left < 512
          → IsPending m d (part_at d n i) (left + 1) h
          → IsGiven m d (part_at d n i) w
          → IsPending m d (part_at d n i + block_pages d) left h')
          → IsWalked d n t runs₀ tables₀ count₀ (i + 1) looked h' new tables count
      walk_word w h' new l s r g o k =
          let at = before_word d n i w t (slot_at t i) refl s in
          let sums = tables_more_word d i w t (slot_at t i) wide l refl s in
          let left : 512 - i ≡ 512 - (i + 1) + 1 = omega (arith, l) in
          let z =
          k (entry_at d t) (512 - (i + 1)) (omega arith)
          (subst (λ q. IsPending (entry_at d t) d (part_at d n i) q h) left x.pending) (word_given i w l s) in
          let order : n * block_pages (d + 1) ≤ h.first = x.order in
          let on : h.first ≤ h'.first = o.0 in
          record {
            pending = subst (λ p. IsPending (entry_at d t) d p (512 - (i + 1)) h') (part_next d n i) z;
            runs = r;
            order = omega (arith, order, on);
            map = put_on h'.first new o.0 o.1 g;
            tables = x.tables ∙ ap (λ ts. tables₀ ++ (found_at d n t ∷ ts)) (sym at);
            reads = x.reads ∙ ap (λ b. min (count₀ + looked + 512 * b) 18446744073709551615) (sym sums);
            fits = x.fits;
          }

      -- the same, where the pages of a part are another number
      pub walk_word_by : (s w : ℕ) (h' : Pending) (new : List Run)
          → s ≡ block_pages d
          → i < 512
          → slot_at t i ≡ Word w
          → AreRunsTo h'.first new
          → GoesOn (λ p. advance h.entry (p - h.first)) h.first h'.first (map_of runs) (map_of new)
          → (h.first ≤ h'.first) × (h'.first ≤ (n * 512 + i) * s)
          → ((m : Map) (left : ℕ)
          → left < 512
          → IsPending m d ((n * 512 + i) * s) (left + 1) h
          → IsGiven m d ((n * 512 + i) * s) w
          → IsPending m d ((n * 512 + i) * s + s) left h')
          → IsWalked d n t runs₀ tables₀ count₀ (i + 1) looked h' new tables count
      walk_word_by s w h' new e l is r g o k =
          walk_word w h' new l is r g (subst (λ q. (h.first ≤ h'.first) × (h'.first ≤ (n * 512 + i) * q)) e o)
          (subst
          (λ q. (m : Map) (left : ℕ)
          → left < 512
          → IsPending m d ((n * 512 + i) * q) (left + 1) h
          → IsGiven m d ((n * 512 + i) * q) w
          → IsPending m d ((n * 512 + i) * q + q) left h') e k)

      -- a child
      pub walk_child : (s : ℕ) (b : Box (Table A) A) (h' : Pending) (mid new : List Run) (tables' : List FoundTable)
          (count' : ℕ)
          → s ≡ block_pages d
          → i < 512
          → slot_at t i ≡ Child b
          → 1 ≤ d
          → GoesOn (λ p. advance h.entry (p - h.first)) h.first ((n * 512 + i) * s) (map_of runs) (map_of mid)
          → AreRunsTo ((n * 512 + i + 1) * block_pages (d - 1 + 1)) new
          → GoesOn (entry_at (d - 1) b.value) ((n * 512 + i) * block_pages (d - 1 + 1))
          ((n * 512 + i + 1) * block_pages (d - 1 + 1)) (map_of mid) (map_of new)
          → tables' ≡ tables ++ found_under (d - 1) (n * 512 + i) b.value
          → count' ≡ min (count + 512 * tables_in (d - 1) b.value) 18446744073709551615
          → h'.first ≡ (n * 512 + i + 1) * s → ((m : Map) (e left : ℕ) → IsPending m e ((n * 512 + i + 1) * s) left h')
          → IsWalked d n t runs₀ tables₀ count₀ (i + 1) looked h' new tables' count'
      walk_child s b h' mid new tables' count' e l is k g r m ts cs f z =
          let order : h.first ≤ part_at d n i = x.pending.order in
          let mid_on =
          put_on (part_at d n i) mid order (omega arith)
          (subst
          (λ q. GoesOn (λ p. advance h.entry (p - h.first)) h.first ((n * 512 + i) * q) (map_of runs)
          (map_of mid)) e g) in
          let end : (n * 512 + i + 1) * s ≡ part_at d n (i + 1) = ap (λ q. (n * 512 + i + 1) * q) e ∙ omega arith in
          let first : h'.first ≡ part_at d n (i + 1) = f ∙ end in
          let starts = starts_before d n (i + 1) in
          let sums = tables_more_child d i t b (slot_at t i) k wide l refl is in
          let rs = x.reads in
          record {
            pending =
                subst (λ p. IsPending (entry_at d t) d p (512 - (i + 1)) h') end (z (entry_at d t) d (512 - (i + 1)));
            runs = subst (λ p. AreRunsTo p new) (child_ends d n i k ∙ sym first) r;
            order = omega (arith, first, starts);
            map = subst (λ p. GoesOn (entry_at d t) (n * block_pages (d + 1)) p (map_of runs₀) (map_of new)) (sym first)
                (child_goes_on n i t (slot_at t i) l (seen i t (slot_at t i) l refl) (map_of runs₀) (map_of mid)
                (map_of new) (n * block_pages (d + 1)) d b k is (starts_before d n i) mid_on m);
            tables = tables_child d n i t (slot_at t i) refl tables₀ tables x.tables b tables' k is ts;
            reads = omega (arith, rs, cs, sums);
            fits = λ q. omega (arith, cs);
          }

      -- after the last slot
      pub walk_ends : (s : ℕ) (new : List Run)
          → s ≡ block_pages d
          → i ≤ 512
          → 512 ≤ i
          → AreRunsTo ((n + 1) * 512 * s) new
          → GoesOn (λ p. advance h.entry (p - h.first)) h.first ((n + 1) * 512 * s) (map_of runs) (map_of new)
          → AreRunsTo ((n + 1) * block_pages (d + 1)) new
          × GoesOn (entry_at d t) (n * block_pages (d + 1)) ((n + 1) * block_pages (d + 1)) (map_of runs₀) (map_of new)
      walk_ends s new e a b r g =
          let all : (n + 1) * 512 * s ≡ (n + 1) * block_pages (d + 1) =
          ap (λ q. (n + 1) * 512 * q) e ∙ sym (first_part d (n + 1)) in
          let last : part_at d n i ≡ (n + 1) * block_pages (d + 1) = ends_last d n i a b in
          let order : h.first ≤ part_at d n i = x.pending.order in (
            subst (λ p. AreRunsTo p new) all r,
            put_on ((n + 1) * block_pages (d + 1)) new (omega (arith, last, order)) (omega (arith, last))
                (subst (λ p. GoesOn (λ q. advance h.entry (q - h.first)) h.first p (map_of runs) (map_of new)) all g),
          )
