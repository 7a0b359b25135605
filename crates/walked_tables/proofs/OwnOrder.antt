use Rattle.std.proofs.Common.{◌≡◌, ◌∙◌, ℕ, zero, suc, ◌+◌, ◌*◌, ◌^◌, ◌<◌, ◌≤◌, List, [], ◌∷◌, ◌++◌, map, Option, Some, None, refl, sym, ap, arith}
use Rattle.std.specs.Prelude.{All}
use Rattle.std.specs.Option.{option_map}
use Rattle.std.proofs.lemmas.List.{append-nil}
use Rattle.std.proofs.lemmas.List.Elements.{All-head, All-tail}
use Rattle.page_state.specs.declared.layout.Geometry.{Geometry}
use Rattle.page_state.specs.declared.layout.Geometry.TheVariants.{Bits39, Bits48}
use Rattle.page_state.specs.Geometries.{levels_below}
use Rattle.c_tables.specs.declared.follow.PlainPage.{PlainPage}
use Rattle.c_tables.specs.declared.reached.Reached.{Reached as PlainReached}
use Rattle.c_tables.specs.ByFrames as plain
use Rattle.table_words.specs.Profiles.{model_profile}
use Rattle.walked_tables.specs.declared.follow.TablePage.{TablePage}
use Rattle.walked_tables.specs.declared.reached.Reached.{Reached}
use Rattle.walked_tables.specs.ByFrames.{along, led_at, led_case, reached_at, tables_by_frames, tables_under, words_of}
use Rattle.walked_tables.specs.Own.{as_plain, as_reached, HasWords, IsPlainOrder}
use Rattle.walked_tables.proofs.OwnPages.{leads_same, led_words}
use Rattle.walked_tables.proofs.Reach.{words_low}

-- lists put together, member by member
map_both : {X Y : Type 0} (f : X → Y) (xs ys : List X) → map f (xs ++ ys) ≡ map f xs ++ map f ys
map_both f [] ys = refl
map_both f (x ∷ xs) ys = ap (λ zs. f x ∷ zs) (map_both f xs ys)

along_same : {X Y : Type 0} (f : X → Y) (F : ℕ → ℕ → List X) (G : ℕ → ℕ → List Y)
    → ((k w : ℕ) → w < 2 ^ 64 → map f (F k w) ≡ G k w)
    → (k : ℕ) (ws : List ℕ)
    → All (λ w. w < 2 ^ 64) ws
    → map f (along F k ws) ≡ plain.along G k ws
along_same f F G h k [] r = refl
along_same f F G h k (w ∷ ws) r =
    map_both f (F k w) (along F (k + 1) ws)
    ∙ ap (λ xs. xs ++ map f (along F (k + 1) ws)) (h k w (All-head (λ w. w < 2 ^ 64) w ws r))
    ∙ ap (λ ys. G k w ++ ys) (along_same f F G h (k + 1) ws (All-tail (λ w. w < 2 ^ 64) w ws r))

led_lists : (f : Reached → PlainReached) (o : Option TablePage) (b : TablePage → List Reached)
    (c : PlainPage → List PlainReached)
    → ((n : TablePage) → o ≡ Some n → map f (b n) ≡ c (as_plain n))
    → map f (led_case [] b o) ≡ plain.led_case [] c (option_map as_plain o)
led_lists f None b c h = refl
led_lists f (Some n) b c h = h n refl

module _ (pages : List TablePage) (words : All HasWords pages) (tree : ℕ) where
  abbrev slots : ℕ → ℕ → ℕ → List Reached
  slots d k w =
      led_case [] (λ next. tables_under model_profile pages tree d k next) (led_at model_profile pages (suc d) w)

  under_same : (d n : ℕ) (table : TablePage)
      → HasWords table
      → d ≤ 3
      → map as_reached (tables_under model_profile pages tree d n table)
      ≡ plain.tables_under (map as_plain pages) tree d n (as_plain table)
  unfolding tables_under plain.tables_under
  under_same zero n table h l = refl
  under_same (suc d) n table h l =
      ap (λ xs. as_reached (reached_at tree (suc d) n table) ∷ xs)
      (ap (λ ws. map as_reached (along (slots d) (n * 512) ws)) (words_low (suc d) (words_of table) (omega (arith, l)))
      ∙ along_same as_reached _ _
      (λ k w r.
      led_lists as_reached (led_at model_profile pages (suc d) w)
      (λ next. tables_under model_profile pages tree d k next)
      (λ next. plain.tables_under (map as_plain pages) tree d k next)
      (λ m e. under_same d k m (led_words pages (suc d) w m e words) (omega (arith, l)))
      ∙ ap (plain.led_case [] (λ next. plain.tables_under (map as_plain pages) tree d k next))
      (sym (leads_same pages (suc d) w r)))
      (n * 512) (words_of table) h)

pub few : (g : Geometry) → levels_below g ≤ 3
few Bits39 = omega arith
few Bits48 = omega arith

pub plain_order : IsPlainOrder
unfolding tables_by_frames
plain_order g pages tree root words own_words =
    ap (map as_reached) (append-nil (tables_under model_profile pages tree (levels_below g) 0 root))
    ∙ under_same pages words tree (levels_below g) 0 root own_words (few g)
