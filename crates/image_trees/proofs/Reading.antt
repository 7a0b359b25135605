-- Pages read one after another.
use Rattle.std.proofs.Common.{◌≡◌, ℕ, zero, suc, ◌+◌, ◌<◌, ◌≤◌, Bool, true, false, List, [], ◌∷◌, ◌++◌, length, map, take, get_or, Option, Some, None, refl, sym, ap, subst, ◌∙◌, length-append, append_assoc, arith}
use Rattle.std.specs.Prelude.{All, slice_get, option_map, option_to_list}
use Rattle.std.specs.Option.{is_some}
use Rattle.std.proofs.lemmas.List.Elements.{All-append, All-cons, All-head, All-map, All-more, All-push, All-tail}
use Rattle.page_state.proofs.Cases.{by_lt}
use Rattle.run_list.specs.declared.run.Run.{Run}
use Rattle.walked_tables.specs.declared.said.Said.{Said}
use Rattle.descriptor.specs.declared.Frame.{Frame}
use Rattle.table_words.specs.declared.word.Decoded.{Decoded}
use Rattle.table_words.specs.declared.word.Decoded.TheVariants.{Table}
use Rattle.image_trees.specs.declared.root.Root.{Root}
use Rattle.walked_tables.specs.ByFrames.{IsWhole}
use Rattle.walked_tables.specs.declared.follow.TablePage.{TablePage}
use Rattle.image_trees.specs.declared.kept.KeptPage.{KeptPage}
use Rattle.image_trees.specs.KeptPages.{kept_told, page_at, told, AreMore, AreRead, Given, HasWords, IsAbsent, IsAdded, IsNamed}

-- a place in the front of a list
pub get_front : {X : Type 0} (xs ys : List X) (j : ℕ) → j < length xs → slice_get (xs ++ ys) j ≡ slice_get xs j
get_front [] ys j h = absurd (omega arith)
get_front (x ∷ xs) ys zero h = refl
get_front (x ∷ xs) ys (suc j) h = get_front xs ys j (omega arith)

pub get_end : {X : Type 0} (xs : List X) (y : X) (n : ℕ) → length xs ≡ n → slice_get (xs ++ y ∷ []) n ≡ Some y
get_end [] y zero h = refl
get_end [] y (suc n) h = absurd (omega arith)
get_end (x ∷ xs) y zero h = absurd (omega arith)
get_end (x ∷ xs) y (suc n) h = get_end xs y n (omega arith)

pub get_taken : {X : Type 0} (xs : List X) (n k : ℕ) → k < n → slice_get (take n xs) k ≡ slice_get xs k
get_taken xs zero k h = absurd (omega arith)
get_taken [] (suc n) k h = refl
get_taken (x ∷ xs) (suc n) zero h = refl
get_taken (x ∷ xs) (suc n) (suc k) h = get_taken xs n k (omega arith)

module _ (read : ℕ → Option (List ℕ)) where
  -- the pages of one frame
  pub one_given : (frame : ℕ) (words : Option (List ℕ))
      → read frame ≡ words
      → All (Given read) (option_to_list (option_map (λ w. (frame, w)) words))
  one_given frame None e = λ k d h. absurd (omega arith)
  one_given frame (Some words) e = All-push (Given read) [] (frame, words) (λ k d h. absurd (omega arith)) e

  module _ (root : Root) where
    -- the root's next page
    next_root : (k : ℕ) (before after : List (ℕ × List ℕ)) (found : Option (ℕ × List ℕ))
        → page_at read (root.frame + k) ≡ found
        → is_some found ≡ true
        → AreRead read root k before
        → length before ≡ k
        → after ≡ before ++ option_to_list found
        → All (Given read) (option_to_list found)
        → AreRead read root (k + 1) after
    next_root k before after None e t h n w g = absurd (let wrong : false ≡ true = t in cc)
    next_root k before after (Some page) e t h n w g = record {
      given = subst (All (Given read)) (sym w) (All-append (Given read) before (page ∷ []) h.given g);
      first = λ j below. by_lt j k
          (λ less. ap (λ ps. slice_get ps j) w ∙ (get_front before (page ∷ []) j (omega arith) ∙ h.first j less))
          (λ more. let same : k ≡ j = omega arith in
          ap (λ ps. slice_get ps j) w
          ∙ (subst (λ m. slice_get (before ++ page ∷ []) m ≡ page_at read (root.frame + m)) same
          (get_end before page k n ∙ sym e)));
    }

    pub more_root : (k : ℕ) (before after : List (ℕ × List ℕ)) (found : Bool)
        → IsAdded read (root.frame + k) before after found
        → found ≡ true
        → AreRead read root k before
        → length before ≡ k
        → AreRead read root (k + 1) after
    more_root k before after found a t h n =
        next_root k before after (page_at read (root.frame + k)) refl (sym a.found_is ∙ t) h n a.pages
        (one_given (root.frame + k) (read (root.frame + k)) refl)

    -- with more pages
    pub still_read : (n : ℕ) (before after more : List (ℕ × List ℕ))
        → AreRead read root n before
        → after ≡ before ++ more
        → All (Given read) more
        → n ≤ length before
        → AreRead read root n after
    still_read n before after more h w g long = record {
      given = subst (All (Given read)) (sym w) (All-append (Given read) before more h.given g);
      first = λ j below. ap (λ ps. slice_get ps j) w ∙ (get_front before more j (omega arith) ∙ h.first j below);
    }

    pub none_read : (pages : List (ℕ × List ℕ)) → pages ≡ [] → AreRead read root 0 pages
    none_read pages e = record {
      given = subst (All (Given read)) (sym e) (λ k d h. absurd (omega arith));
      first = λ j below. absurd (omega arith);
    }

  -- no page for a frame
  none_more : (frame : ℕ) (words : Option (List ℕ)) (before after : List (ℕ × List ℕ))
      → after ≡ before ++ option_to_list (option_map (λ w. (frame, w)) words)
      → length after ≡ length before
      → words ≡ None
  none_more frame None before after w n = refl
  none_more frame (Some words) before after w n =
      absurd (let longer = ap length w ∙ length-append before ((frame, words) ∷ []) in omega (arith, longer))

  -- the page of a table
  pub named : (frame : ℕ) (before after : List (ℕ × List ℕ)) (found : Bool)
      → IsAdded read frame before after found
      → length after ≡ length before
      → read frame ≡ None
  named frame before after found a n = none_more frame (read frame) before after a.pages n

  -- the page that a value names
  pub named_table : (frame : Frame) (decoded : Decoded) (before after : List (ℕ × List ℕ)) (found : Bool)
      → IsAdded read frame.0 before after found
      → decoded ≡ Table frame
      → IsNamed read decoded before after
  named_table frame decoded before after found a d = record {
    more = option_to_list (page_at read frame.0);
    pages = a.pages;
    given = one_given frame.0 (read frame.0) refl;
    absent = λ e. subst (IsAbsent read) (sym d) (named frame.0 before after found a e);
  }

  -- runs one by one
  pub none_named : (before : List (ℕ × List ℕ)) → AreMore read [] before before
  none_named before = record {
    more = [];
    pages = sym (append_nil before);
    given = λ k d h. absurd (omega arith);
    absent = λ e k d h. absurd (omega arith);
  }
    where
      append_nil : (xs : List (ℕ × List ℕ)) → xs ++ [] ≡ xs
      append_nil [] = refl
      append_nil (x ∷ xs) = ap (λ ys. x ∷ ys) (append_nil xs)

  pub more_named : (runs : List (Run Said)) (i : ℕ) (other : Run Said) (start before after : List (ℕ × List ℕ))
      → i < length runs
      → AreMore read (take i runs) start before
      → IsNamed read (get_or runs i other).value.0 before after
      → AreMore read (take (i + 1) runs) start after
  more_named runs i other start before after inside h n = record {
    more = h.more ++ n.more;
    pages = n.pages ∙ (ap (λ ps. ps ++ n.more) h.pages ∙ append_assoc start h.more n.more);
    given = All-append (Given read) h.more n.more h.given n.given;
    absent = λ e.
        let first = ap length h.pages ∙ length-append start h.more in
        let second = ap length n.pages ∙ length-append before n.more in
        let this : IsAbsent read (get_or runs i other).value.0 = n.absent (omega (arith, first, second, e)) in
        let those = h.absent (omega (arith, first, second, e)) in
        All-more (λ r. IsAbsent read r.value.0) runs i other inside those this;
  }

-- all of a list
pub taken_all : {X : Type 0} (xs : List X) (n : ℕ) → length xs ≤ n → take n xs ≡ xs
taken_all [] zero h = refl
taken_all [] (suc n) h = refl
taken_all (x ∷ xs) zero h = absurd (omega arith)
taken_all (x ∷ xs) (suc n) h = ap (λ ys. x ∷ ys) (taken_all xs n (omega arith))

-- pages with 512 words
all_told : (pages : List TablePage) → All (λ (p : ℕ × List ℕ). length p.1 ≡ 512) (map told pages) → All IsWhole pages
all_told [] h = λ k d e. absurd (omega arith)
all_told (p ∷ ps) h =
    All-cons IsWhole p ps (All-head (λ (q : ℕ × List ℕ). length q.1 ≡ 512) (told p) (map told ps) h)
    (all_told ps (All-tail (λ (q : ℕ × List ℕ). length q.1 ≡ 512) (told p) (map told ps) h))

pub whole_pages : (kept : List KeptPage) (pages : List TablePage)
    → map told pages ≡ map kept_told kept
    → All HasWords kept
    → All IsWhole pages
whole_pages kept pages e h =
    all_told pages
    (subst (All (λ (p : ℕ × List ℕ). length p.1 ≡ 512)) (sym e)
    (All-map (λ (p : ℕ × List ℕ). length p.1 ≡ 512) kept_told kept h))
