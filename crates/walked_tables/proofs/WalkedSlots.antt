-- A walk over the slots of a table.
use Rattle.std.proofs.Common.{◌≡◌, ℕ, ◌+◌, ◌-◌, ◌*◌, ◌^◌, ◌<◌, ◌≤◌, List, [], ◌∷◌, ◌++◌, get_or, drop, Option, Some, None, refl, sym, ap, subst, ◌∙◌, arith}
use Rattle.std.specs.Prelude.{AllPairs}
use Rattle.std.proofs.lemmas.List.{append_assoc, append-nil, at_drop_more, at_drop_all}
use Rattle.std.proofs.Math.Nat.{mul-le-mul_right}
use Rattle.table_words.specs.declared.profile.Profile.{Profile}
use Rattle.table_words.specs.Decoding.{decoded_of}
use Rattle.page_state.specs.Geometries.{block_pages}
use Rattle.page_state.proofs.Sizes.{size_next}
use Rattle.run_list.specs.declared.run.Run.{Run}
use Rattle.run_list.specs.Runs.{EndBefore, map_updated, option_advance, run_map}
use Rattle.run_list.specs.View.{IsKept}
use Rattle.walked_tables.specs.declared.follow.TablePage.{TablePage}
use Rattle.walked_tables.specs.declared.reached.Reached.{Reached}
use Rattle.walked_tables.specs.declared.reached.Stopped.{Stopped}
use Rattle.walked_tables.specs.ByFrames.{along, said_by, IsWhole, led_at, level_at, reached_at, reached_words, slots_at, table_pages, tables_under, words_of}
use Rattle.walked_tables.specs.declared.said.Said.{Said}
use Rattle.walked_tables.specs.Values.{advance_said, CanGoOn, value_of}
use Rattle.walked_tables.specs.Laid.{laid}
use Rattle.walked_tables.specs.Reached.{AreOtherFrames, IsStopped}
use Rattle.walked_tables.proofs.Laid.{laid_none, laid_on, SaidMap}
use Rattle.walked_tables.proofs.MetTables.{stopped_on}
use Rattle.walked_tables.proofs.Reach.{pages_back, slots_few, words_long, words_same}
use Rattle.walked_tables.proofs.Slots.{led_above, says_below, says_word, slot_tables, tables_below, tables_none, tables_step}

-- places
pub part_first : (d n i : ℕ) → (n * 512 + i) * block_pages d ≡ n * block_pages (d + 1) + i * block_pages d
part_first d n i = let e = size_next d in
    let m : n * block_pages (d + 1) ≡ n * 512 * block_pages d = rw e (omega arith) in
    omega (arith, m)

pub part_ends : (d n i : ℕ)
    → i < slots_at d
    → (n * 512 + i) * block_pages d + block_pages d ≤ n * block_pages (d + 1) + table_pages d
part_ends d n i h =
    let e = part_first d n i in
    let m : (i + 1) * block_pages d ≤ slots_at d * block_pages d =
    mul-le-mul_right (block_pages d) (omega (arith, h)) in
    omega (arith, e, m)

pub depth_back : (d : ℕ) → 1 ≤ d → d - 1 + 1 ≡ d
depth_back d h = omega arith

module _ (profile : Profile) (pages : List TablePage) (tree d n : ℕ) (page : TablePage) (met₀ : List Reached)
    (runs₀ : List (Run Said)) where
  -- the words that addresses reach
  abbrev read : TablePage → List ℕ
  read p = reached_words d (words_of p)

  -- its first slots were walked
  pub record IsWalked (i : ℕ) (met : List Reached) (runs : List (Run Said)) : Type 0 where
    pub met_is : met₀ ++ tables_under profile pages tree d n page
        ≡ met ++ along (slot_tables profile pages tree d) (n * 512 + i) (drop i (read page))
    pub apart : AllPairs AreOtherFrames met
    pub map : run_map advance_said runs
        ≡ laid (n * block_pages (d + 1)) (i * block_pages d) (said_by profile pages d page) (run_map advance_said runs₀)
    pub kept : IsKept advance_said CanGoOn runs
    pub behind : EndBefore ((n * 512 + i) * block_pages d + 1) runs

  first_met : (met : List Reached)
      → met ≡ met₀ ++ reached_at tree d n page ∷ []
      → met₀ ++ tables_under profile pages tree d n page
      ≡ met ++ along (slot_tables profile pages tree d) (n * 512 + 0) (drop 0 (read page))
  first_met met e =
      let zero_more : n * 512 ≡ n * 512 + 0 = omega arith in
      ap (λ us. met₀ ++ us)
      (tables_step profile pages tree d n page
      ∙ ap
      (λ k. reached_at tree d n page
      ∷ along (slot_tables profile pages tree d) k (read page)) zero_more)
      ∙ sym
      (append_assoc met₀ (reached_at tree d n page ∷ [])
      (along (slot_tables profile pages tree d) (n * 512 + 0) (read page)))
      ∙ ap (λ us. us ++ along (slot_tables profile pages tree d) (n * 512 + 0) (read page)) (sym e)

  pub begun : (met : List Reached)
      → met ≡ met₀ ++ reached_at tree d n page ∷ []
      → AllPairs AreOtherFrames met
      → IsKept advance_said CanGoOn runs₀
      → EndBefore (n * block_pages (d + 1) + 1) runs₀
      → IsWalked 0 met runs₀
  begun met e apart kept behind =
      let none : 0 * block_pages d ≡ 0 = omega arith in
      let start : n * block_pages (d + 1) ≡ (n * 512 + 0) * block_pages d = let x = part_first d n 0 in
      omega (arith, x) in
      record {
        met_is = first_met met e;
        apart = apart;
        map =
            sym
            (ap
            (λ k. laid (n * block_pages (d + 1)) k (said_by profile pages d page)
            (run_map advance_said runs₀)) none
            ∙ laid_none (n * block_pages (d + 1)) (said_by profile pages d page) (run_map advance_said runs₀));
        kept = kept;
        behind = subst (λ (k : ℕ). EndBefore (k + 1) runs₀) start behind;
      }

  -- the reason of the first table's end
  pub stopped_first : (s : Stopped)
      → IsStopped (met₀ ++ reached_at tree d n page ∷ []) s
      → IsStopped (met₀ ++ tables_under profile pages tree d n page) s
  stopped_first s h =
      stopped_on (met₀ ++ reached_at tree d n page ∷ []) _ _ s
      (first_met (met₀ ++ reached_at tree d n page ∷ []) refl) h

  module _ (i : ℕ) (met : List Reached) (runs : List (Run Said)) (x : IsWalked i met runs) (inside : i < slots_at d)
      (whole : IsWhole page) (word : ℕ) (word_is : word ≡ get_or (words_of page) i 0) where
    few : i < 512
    few = omega (arith, inside, slots_few d)

    -- the slot's tables, and those of the slots behind it
    rest_is : along (slot_tables profile pages tree d) (n * 512 + i) (drop i (read page))
        ≡ slot_tables profile pages tree d (n * 512 + i) word
        ++ along (slot_tables profile pages tree d) (n * 512 + (i + 1)) (drop (i + 1) (read page))
    rest_is =
        let next : n * 512 + i + 1 ≡ n * 512 + (i + 1) = omega arith in
        let long = words_long d (words_of page) whole in
        at_drop_more (along (slot_tables profile pages tree d) (n * 512 + i)) (read page) i 0
        (omega (arith, inside, long))
        ∙ ap
        (λ w. slot_tables profile pages tree d (n * 512 + i) w
        ++ along (slot_tables profile pages tree d) (n * 512 + i + 1) (drop (i + 1) (read page)))
        (words_same d i (words_of page) inside ∙ sym word_is)
        ∙ ap
        (λ k. slot_tables profile pages tree d (n * 512 + i) word
        ++ along (slot_tables profile pages tree d) k (drop (i + 1) (read page))) next

    more_met : (met' : List Reached)
        → met' ≡ met ++ slot_tables profile pages tree d (n * 512 + i) word
        → met₀ ++ tables_under profile pages tree d n page
        ≡ met' ++ along (slot_tables profile pages tree d) (n * 512 + (i + 1)) (drop (i + 1) (read page))
    more_met met' e =
        x.met_is ∙ ap (λ us. met ++ us) rest_is
        ∙ sym
        (append_assoc met (slot_tables profile pages tree d (n * 512 + i) word)
        (along (slot_tables profile pages tree d) (n * 512 + (i + 1)) (drop (i + 1) (read page))))
        ∙ ap (λ us. us ++ along (slot_tables profile pages tree d) (n * 512 + (i + 1)) (drop (i + 1) (read page)))
        (sym e)

    more_map : (above : SaidMap) (runs' : List (Run Said))
        → run_map advance_said runs'
        ≡ laid ((n * 512 + i) * block_pages d) (block_pages d) above (run_map advance_said runs)
        → ((p : ℕ)
        → (n * 512 + i) * block_pages d ≤ p
        → p < (n * 512 + i) * block_pages d + block_pages d
        → above p ≡ said_by profile pages d page p)
        → run_map advance_said runs'
        ≡ laid (n * block_pages (d + 1)) ((i + 1) * block_pages d) (said_by profile pages d page)
        (run_map advance_said runs₀)
    more_map above runs' e same =
        let at = part_first d n i in
        let end : i * block_pages d + block_pages d ≡ (i + 1) * block_pages d = omega arith in
        laid_on (said_by profile pages d page) above (run_map advance_said runs₀) (run_map advance_said runs)
        (run_map advance_said runs') (n * block_pages (d + 1)) (i * block_pages d) (block_pages d) x.map
        (e ∙ ap (λ k. laid k (block_pages d) above (run_map advance_said runs)) at)
        (λ p low high. same p (omega (arith, low, at)) (omega (arith, high, at)))
        ∙ ap (λ k. laid (n * block_pages (d + 1)) k (said_by profile pages d page) (run_map advance_said runs₀)) end

    pub more_word : (e : Option Said) (s : ℕ) (runs' : List (Run Said))
        → led_at profile pages d word ≡ None
        → s ≡ block_pages d
        → e ≡ value_of (decoded_of profile (level_at d) word)
        → run_map advance_said runs' ≡ map_updated advance_said (run_map advance_said runs) ((n * 512 + i) * s) s e
        → IsKept advance_said CanGoOn runs'
        → EndBefore ((n * 512 + i) * s + s + 1) runs'
        → IsWalked (i + 1) met runs'
    more_word e s runs' none size entry m kept behind =
        let end : (n * 512 + i) * s + s ≡ (n * 512 + (i + 1)) * block_pages d = rw size (omega arith) in
        record {
          met_is =
              more_met met
              (sym
              (ap (λ us. met ++ us) (tables_none profile pages tree d (n * 512 + i) word none)
              ∙ append-nil met));
          apart = x.apart;
          map =
              more_map (λ p. option_advance advance_said e (p - (n * 512 + i) * block_pages d)) runs'
              (m ∙ ap (λ k. map_updated advance_said (run_map advance_said runs) ((n * 512 + i) * k) k e) size)
              (λ p low high. says_word profile pages d n i page few p low high word e word_is none entry);
          kept = kept;
          behind = subst (λ (k : ℕ). EndBefore (k + 1) runs') end behind;
        }

    module _ (next : TablePage) (some : led_at profile pages d word ≡ Some next) (depth_in : d ≤ 4) where
      below_is : table_pages (d - 1) ≡ block_pages d
      below_is = pages_back d (led_above profile pages d word next some) depth_in

      pub more_below : (met' : List Reached) (runs' : List (Run Said))
          → met' ≡ met ++ tables_under profile pages tree (d - 1) (n * 512 + i) next
          → AllPairs AreOtherFrames met'
          → run_map advance_said runs'
          ≡ laid ((n * 512 + i) * block_pages (d - 1 + 1)) (table_pages (d - 1))
          (said_by profile pages (d - 1) next) (run_map advance_said runs)
          → IsKept advance_said CanGoOn runs'
          → EndBefore ((n * 512 + i) * block_pages (d - 1 + 1) + table_pages (d - 1) + 1) runs'
          → IsWalked (i + 1) met' runs'
      more_below met' runs' e apart m kept behind =
          let back = depth_back d (led_above profile pages d word next some) in
          let first = (n * 512 + i) * block_pages (d - 1 + 1) in
          let end : first + table_pages (d - 1) ≡ (n * 512 + (i + 1)) * block_pages d =
          rw (back, below_is) (omega arith) in
          record {
            met_is =
                more_met met'
                (e ∙ ap (λ us. met ++ us) (sym (tables_below profile pages tree d (n * 512 + i) word next some)));
            apart = apart;
            map =
                more_map (said_by profile pages (d - 1) next) runs'
                (m
                ∙ ap
                (λ k. laid ((n * 512 + i) * block_pages k) (table_pages (d - 1))
                (said_by profile pages (d - 1) next) (run_map advance_said runs)) back
                ∙ ap
                (λ k. laid ((n * 512 + i) * block_pages d) k
                (said_by profile pages (d - 1) next) (run_map advance_said runs)) below_is)
                (λ p low high. says_below profile pages d n i page few p low high word next word_is some);
            kept = kept;
            behind = subst (λ (k : ℕ). EndBefore (k + 1) runs') end behind;
          }

      pub stopped_below : (s : Stopped)
          → IsStopped (met ++ tables_under profile pages tree (d - 1) (n * 512 + i) next) s
          → IsStopped (met₀ ++ tables_under profile pages tree d n page) s
      stopped_below s h = stopped_on (met ++ tables_under profile pages tree (d - 1) (n * 512 + i) next) _ _ s
          (more_met (met ++ tables_under profile pages tree (d - 1) (n * 512 + i) next)
          (ap (λ us. met ++ us) (sym (tables_below profile pages tree d (n * 512 + i) word next some)))) h

      pub place_below : n * block_pages (d + 1) + table_pages d ≤ 2 ^ 40
          → (n * 512 + i) * block_pages (d - 1 + 1) + table_pages (d - 1) ≤ 2 ^ 40
      place_below h =
          let back = depth_back d (led_above profile pages d word next some) in
          let ends = part_ends d n i inside in
          rw (back, below_is) (omega (arith, h, ends))

      pub behind_below : EndBefore ((n * 512 + i) * block_pages (d - 1 + 1) + 1) runs
      behind_below =
          subst (λ (k : ℕ). EndBefore ((n * 512 + i) * block_pages k + 1) runs)
          (sym (depth_back d (led_above profile pages d word next some))) x.behind

  -- all slots
  module _ (i : ℕ) (met : List Reached) (runs : List (Run Said)) (x : IsWalked i met runs) (low : i ≤ slots_at d)
      (all : slots_at d ≤ i) (whole : IsWhole page) where
    last : i ≡ slots_at d
    last = omega (arith, low, all)

    pub all_met : met ≡ met₀ ++ tables_under profile pages tree d n page
    all_met =
        sym
        (x.met_is
        ∙ ap (λ us. met ++ us)
        (let long = words_long d (words_of page) whole in
        at_drop_all (along (slot_tables profile pages tree d) (n * 512 + i)) (read page) i
        (omega (arith, long, all)))
        ∙ append-nil met)

    pub all_map : run_map advance_said runs
        ≡ laid (n * block_pages (d + 1)) (table_pages d) (said_by profile pages d page)
        (run_map advance_said runs₀)
    all_map =
        x.map
        ∙ ap (λ k. laid (n * block_pages (d + 1)) k (said_by profile pages d page) (run_map advance_said runs₀))
        (ap (λ k. k * block_pages d) last)

    pub all_behind : EndBefore (n * block_pages (d + 1) + table_pages d + 1) runs
    all_behind =
        subst (λ (k : ℕ). EndBefore (k + 1) runs)
        (ap (λ k. (n * 512 + k) * block_pages d) last ∙ part_first d n (slots_at d)) x.behind
