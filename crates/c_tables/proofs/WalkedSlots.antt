-- A walk over the slots of a table.
use Rattle.std.proofs.Common.{◌≡◌, ℕ, ◌+◌, ◌-◌, ◌*◌, ◌^◌, ◌<◌, ◌≤◌, List, [], ◌∷◌, ◌++◌, get_or, drop, Some, None, refl, sym, ap, subst, ◌∙◌, arith}
use Rattle.std.specs.Prelude.{AllPairs}
use Rattle.std.proofs.lemmas.List.{append_assoc, append-nil, at_drop_more, at_drop_all}
use Rattle.std.proofs.Math.Nat.{mul-le-mul_right}
use Rattle.descriptor.specs.Word.{desc_of}
use Rattle.page_state.specs.declared.entry.Entry.{Entry}
use Rattle.page_state.specs.declared.entry.Target.{Target}
use Rattle.page_state.specs.Entries.{advance, advance_target, entry_of_word}
use Rattle.page_state.specs.Geometries.{block_pages}
use Rattle.page_state.specs.Map.{Map, update}
use Rattle.page_state.proofs.Sizes.{size_next}
use Rattle.run_list.specs.declared.run.Run.{Run}
use Rattle.run_list.specs.Runs.{EndBefore}
use Rattle.run_list.specs.Targets.{HasFrameBelow}
use Rattle.run_list.specs.View.{IsKept}
use Rattle.c_tables.specs.declared.follow.PlainPage.{PlainPage}
use Rattle.c_tables.specs.declared.reached.Reached.{Reached}
use Rattle.c_tables.specs.declared.reached.Stopped.{Stopped}
use Rattle.c_tables.specs.ByFrames.{along, entry_by, IsWhole, led_at, level_at, reached_at, tables_under, words_of}
use Rattle.c_tables.specs.Laid.{laid, target_map}
use Rattle.c_tables.specs.Reached.{AreOtherFrames, IsStopped}
use Rattle.c_tables.proofs.Laid.{laid_none, laid_on}
use Rattle.c_tables.proofs.MetTables.{stopped_on}
use Rattle.c_tables.proofs.Slots.{led_above, says_below, says_word, slot_tables, tables_below, tables_none, tables_step}

-- places
pub part_first : (d n i : ℕ) → (n * 512 + i) * block_pages d ≡ n * block_pages (d + 1) + i * block_pages d
part_first d n i = let e = size_next d in
    let m : n * block_pages (d + 1) ≡ n * 512 * block_pages d = rw e (omega arith) in
    omega (arith, m)

pub part_ends : (d n i : ℕ) → i < 512 → (n * 512 + i + 1) * block_pages d ≤ (n + 1) * block_pages (d + 1)
part_ends d n i h =
    let e : (n + 1) * block_pages (d + 1) ≡ (n + 1) * 512 * block_pages d = rw (size_next d) (omega arith) in
    let m : (n * 512 + i + 1) * block_pages d ≤ (n + 1) * 512 * block_pages d =
    mul-le-mul_right (block_pages d) (omega arith) in
    omega (arith, e, m)

pub depth_back : (d : ℕ) → 1 ≤ d → d - 1 + 1 ≡ d
depth_back d h = omega arith

module _ (pages : List PlainPage) (tree d n : ℕ) (page : PlainPage) (met₀ : List Reached)
    (runs₀ : List (Run Target)) where
  -- its first slots were walked
  pub record IsWalked (i : ℕ) (met : List Reached) (runs : List (Run Target)) : Type 0 where
    pub met_is : met₀ ++ tables_under pages tree d n page
        ≡ met ++ along (slot_tables pages tree d) (n * 512 + i) (drop i (words_of page))
    pub apart : AllPairs AreOtherFrames met
    pub map : target_map runs
        ≡ laid (n * block_pages (d + 1)) (i * block_pages d) (entry_by pages d page) (target_map runs₀)
    pub kept : IsKept advance_target HasFrameBelow runs
    pub behind : EndBefore ((n * 512 + i) * block_pages d + 1) runs

  first_met : (met : List Reached)
      → met ≡ met₀ ++ reached_at tree d n page ∷ []
      → met₀ ++ tables_under pages tree d n page
      ≡ met ++ along (slot_tables pages tree d) (n * 512 + 0) (drop 0 (words_of page))
  first_met met e =
      let zero_more : n * 512 ≡ n * 512 + 0 = omega arith in
      ap (λ us. met₀ ++ us)
      (tables_step pages tree d n page
      ∙ ap (λ k. reached_at tree d n page ∷ along (slot_tables pages tree d) k (words_of page)) zero_more)
      ∙ sym
      (append_assoc met₀ (reached_at tree d n page ∷ [])
      (along (slot_tables pages tree d) (n * 512 + 0) (words_of page)))
      ∙ ap (λ us. us ++ along (slot_tables pages tree d) (n * 512 + 0) (words_of page)) (sym e)

  pub begun : (met : List Reached)
      → met ≡ met₀ ++ reached_at tree d n page ∷ []
      → AllPairs AreOtherFrames met
      → IsKept advance_target HasFrameBelow runs₀
      → EndBefore (n * block_pages (d + 1) + 1) runs₀
      → IsWalked 0 met runs₀
  begun met e apart kept behind =
      let none : 0 * block_pages d ≡ 0 = omega arith in
      let start : n * block_pages (d + 1) ≡ (n * 512 + 0) * block_pages d = let x = part_first d n 0 in
      omega (arith, x) in
      record {
        met_is = first_met met e;
        apart = apart;
        map =
            sym
            (ap (λ k. laid (n * block_pages (d + 1)) k (entry_by pages d page) (target_map runs₀)) none
            ∙ laid_none (n * block_pages (d + 1)) (entry_by pages d page) (target_map runs₀));
        kept = kept;
        behind = subst (λ (k : ℕ). EndBefore (k + 1) runs₀) start behind;
      }

  -- the reason of the first table's end
  pub stopped_first : (s : Stopped)
      → IsStopped (met₀ ++ reached_at tree d n page ∷ []) s
      → IsStopped (met₀ ++ tables_under pages tree d n page) s
  stopped_first s h =
      stopped_on (met₀ ++ reached_at tree d n page ∷ []) _ _ s
      (first_met (met₀ ++ reached_at tree d n page ∷ []) refl) h

  module _ (i : ℕ) (met : List Reached) (runs : List (Run Target)) (x : IsWalked i met runs) (inside : i < 512)
      (whole : IsWhole page) (word : ℕ) (word_is : word ≡ get_or (words_of page) i 0) where
    -- the slot's tables, and those of the slots behind it
    rest_is : along (slot_tables pages tree d) (n * 512 + i) (drop i (words_of page))
        ≡ slot_tables pages tree d (n * 512 + i) word
        ++ along (slot_tables pages tree d) (n * 512 + (i + 1)) (drop (i + 1) (words_of page))
    rest_is =
        let next : n * 512 + i + 1 ≡ n * 512 + (i + 1) = omega arith in
        at_drop_more (along (slot_tables pages tree d) (n * 512 + i)) (words_of page) i 0 (omega (arith, inside, whole))
        ∙ ap
        (λ w. slot_tables pages tree d (n * 512 + i) w
        ++ along (slot_tables pages tree d) (n * 512 + i + 1) (drop (i + 1) (words_of page)))
        (sym word_is)
        ∙ ap
        (λ k. slot_tables pages tree d (n * 512 + i) word
        ++ along (slot_tables pages tree d) k (drop (i + 1) (words_of page))) next

    more_met : (met' : List Reached)
        → met' ≡ met ++ slot_tables pages tree d (n * 512 + i) word
        → met₀ ++ tables_under pages tree d n page
        ≡ met' ++ along (slot_tables pages tree d) (n * 512 + (i + 1)) (drop (i + 1) (words_of page))
    more_met met' e =
        x.met_is ∙ ap (λ us. met ++ us) rest_is
        ∙ sym
        (append_assoc met (slot_tables pages tree d (n * 512 + i) word)
        (along (slot_tables pages tree d) (n * 512 + (i + 1)) (drop (i + 1) (words_of page))))
        ∙ ap (λ us. us ++ along (slot_tables pages tree d) (n * 512 + (i + 1)) (drop (i + 1) (words_of page))) (sym e)

    more_map : (above : Map) (runs' : List (Run Target))
        → target_map runs' ≡ laid ((n * 512 + i) * block_pages d) (block_pages d) above (target_map runs)
        → ((p : ℕ)
        → (n * 512 + i) * block_pages d ≤ p
        → p < (n * 512 + i) * block_pages d + block_pages d
        → above p ≡ entry_by pages d page p)
        → target_map runs'
        ≡ laid (n * block_pages (d + 1)) ((i + 1) * block_pages d) (entry_by pages d page) (target_map runs₀)
    more_map above runs' e same =
        let at = part_first d n i in
        let end : i * block_pages d + block_pages d ≡ (i + 1) * block_pages d = omega arith in
        laid_on (entry_by pages d page) above (target_map runs₀) (target_map runs) (target_map runs')
        (n * block_pages (d + 1)) (i * block_pages d) (block_pages d) x.map
        (e ∙ ap (λ k. laid k (block_pages d) above (target_map runs)) at)
        (λ p low high. same p (omega (arith, low, at)) (omega (arith, high, at)))
        ∙ ap (λ k. laid (n * block_pages (d + 1)) k (entry_by pages d page) (target_map runs₀)) end

    pub more_word : (e : Entry) (s : ℕ) (runs' : List (Run Target))
        → led_at pages d word ≡ None
        → s ≡ block_pages d
        → e ≡ entry_of_word (desc_of (level_at d) word)
        → target_map runs' ≡ update (target_map runs) ((n * 512 + i) * s) s e
        → IsKept advance_target HasFrameBelow runs'
        → EndBefore ((n * 512 + i) * s + s + 1) runs'
        → IsWalked (i + 1) met runs'
    more_word e s runs' none size entry m kept behind =
        let end : (n * 512 + i) * s + s ≡ (n * 512 + (i + 1)) * block_pages d = rw size (omega arith) in
        record {
          met_is =
              more_met met
              (sym (ap (λ us. met ++ us) (tables_none pages tree d (n * 512 + i) word none) ∙ append-nil met));
          apart = x.apart;
          map =
              more_map (λ p. advance e (p - (n * 512 + i) * block_pages d)) runs'
              (m ∙ ap (λ k. update (target_map runs) ((n * 512 + i) * k) k e) size)
              (λ p low high. says_word pages d n i page inside p low high word e word_is none entry);
          kept = kept;
          behind = subst (λ (k : ℕ). EndBefore (k + 1) runs') end behind;
        }

    module _ (next : PlainPage) (some : led_at pages d word ≡ Some next) where
      pub more_below : (met' : List Reached) (runs' : List (Run Target))
          → met' ≡ met ++ tables_under pages tree (d - 1) (n * 512 + i) next
          → AllPairs AreOtherFrames met'
          → target_map runs'
          ≡ laid ((n * 512 + i) * block_pages (d - 1 + 1)) (block_pages (d - 1 + 1)) (entry_by pages (d - 1) next)
          (target_map runs)
          → IsKept advance_target HasFrameBelow runs'
          → EndBefore ((n * 512 + i + 1) * block_pages (d - 1 + 1) + 1) runs'
          → IsWalked (i + 1) met' runs'
      more_below met' runs' e apart m kept behind =
          let back = depth_back d (led_above pages d word next some) in
          let end : (n * 512 + i + 1) * block_pages (d - 1 + 1) ≡ (n * 512 + (i + 1)) * block_pages d =
          rw back (omega arith) in
          record {
            met_is =
                more_met met' (e ∙ ap (λ us. met ++ us) (sym (tables_below pages tree d (n * 512 + i) word next some)));
            apart = apart;
            map =
                more_map (entry_by pages (d - 1) next) runs'
                (m
                ∙ ap
                (λ k. laid ((n * 512 + i) * block_pages k) (block_pages k) (entry_by pages (d - 1) next)
                (target_map runs)) back)
                (λ p low high. says_below pages d n i page inside p low high word next word_is some);
            kept = kept;
            behind = subst (λ (k : ℕ). EndBefore (k + 1) runs') end behind;
          }

      pub stopped_below : (s : Stopped)
          → IsStopped (met ++ tables_under pages tree (d - 1) (n * 512 + i) next) s
          → IsStopped (met₀ ++ tables_under pages tree d n page) s
      stopped_below s h = stopped_on (met ++ tables_under pages tree (d - 1) (n * 512 + i) next) _ _ s
          (more_met (met ++ tables_under pages tree (d - 1) (n * 512 + i) next)
          (ap (λ us. met ++ us) (sym (tables_below pages tree d (n * 512 + i) word next some)))) h

      pub place_below : (n + 1) * block_pages (d + 1) ≤ 2 ^ 36 → (n * 512 + i + 1) * block_pages (d - 1 + 1) ≤ 2 ^ 36
      place_below h =
          let back = depth_back d (led_above pages d word next some) in
          let ends = part_ends d n i inside in
          rw back (omega (arith, h, ends))

      pub behind_below : EndBefore ((n * 512 + i) * block_pages (d - 1 + 1) + 1) runs
      behind_below =
          subst (λ (k : ℕ). EndBefore ((n * 512 + i) * block_pages k + 1) runs)
          (sym (depth_back d (led_above pages d word next some))) x.behind

  -- all slots
  module _ (i : ℕ) (met : List Reached) (runs : List (Run Target)) (x : IsWalked i met runs) (low : i ≤ 512)
      (all : 512 ≤ i) (whole : IsWhole page) where
    last : i ≡ 512
    last = omega (arith, low, all)

    pub all_met : met ≡ met₀ ++ tables_under pages tree d n page
    all_met =
        sym
        (x.met_is
        ∙ ap (λ us. met ++ us)
        (at_drop_all (along (slot_tables pages tree d) (n * 512 + i)) (words_of page) i
        (omega (arith, whole, all)))
        ∙ append-nil met)

    pub all_map : target_map runs
        ≡ laid (n * block_pages (d + 1)) (block_pages (d + 1)) (entry_by pages d page) (target_map runs₀)
    all_map =
        x.map
        ∙ ap (λ k. laid (n * block_pages (d + 1)) k (entry_by pages d page) (target_map runs₀))
        (ap (λ k. k * block_pages d) last ∙ sym (size_next d))

    pub all_behind : EndBefore ((n + 1) * block_pages (d + 1) + 1) runs
    all_behind =
        let e = size_next d in
        let end : (n * 512 + 512) * block_pages d ≡ (n + 1) * block_pages (d + 1) = rw e (omega arith) in
        subst (λ (k : ℕ). EndBefore (k + 1) runs) (ap (λ k. (n * 512 + k) * block_pages d) last ∙ end) x.behind
