-- Words that are read one after another.
use Rattle.std.proofs.Common.{◌≡◌, ◌≢◌, ◌∙◌, ◌+◌, ◌<◌, ◌≤◌, ◌==◌, ◌++◌, ℕ, zero, suc, Bool, true, false, cond, List, [], ◌∷◌, Option, Some, None, length, get_or, map, drop, take, refl, sym, ap, arith}
use Rattle.std.specs.Prelude.{find}
use native.Mathlib.Numerals.{unary_clauses}
use Rattle.std.proofs.lemmas.Bool.Decides.{nat_tests}
use Rattle.std.proofs.lemmas.List.{drop_all, drop_more}
use Rattle.table_words.specs.declared.profile.Profile.{Profile}
use Rattle.dump_words.specs.Words.{from}
use Rattle.image_trees.specs.declared.root.Root.{Root}
use Rattle.dump_words.specs.declared.roots.RootWord.{RootWord}
use Rattle.dump_words.specs.Lists.{profile_for, profile_or_model, read_all, read_behind, root_by, roots_by}

pub at_map : {X : Type 0} (f : X → List ℕ) (xs : List X) (i : ℕ) (d : X)
    → i < length xs
    → f (get_or xs i d) ≡ get_or (map f xs) i []
at_map f [] i d h = absurd (omega (arith, h))
at_map f (x ∷ xs) zero d h = refl
at_map f (x ∷ xs) (suc i) d h = at_map f xs i d (omega (arith, h))

module _ {X : Type 0} (read : List ℕ → Option X) (words : List (List ℕ)) where
  -- what was read so far
  abbrev pub IsSoFar : ℕ → List X → Type 0
  IsSoFar i found = read_all read words ≡ read_behind read found (drop i words)

  pub none_read : (found : List X) → found ≡ [] → IsSoFar 0 found
  none_read found is = ap (λ xs. read_behind read xs words) (sym is)

  next : (i : ℕ) (text : List ℕ) (o : Option X) (found : List X)
      → i < length words
      → text ≡ get_or words i []
      → read text ≡ o
      → IsSoFar i found
      → read_all read words ≡ from o (λ x. read_behind read (found ++ x ∷ []) (drop (i + 1) words))
  next i text o found h at is so_far =
      so_far ∙ ap (read_behind read found) (drop_more words i [] h)
      ∙ ap (λ t. from (read t) (λ x. read_behind read (found ++ x ∷ []) (drop (i + 1) words))) (sym at)
      ∙ ap (λ p. from p (λ x. read_behind read (found ++ x ∷ []) (drop (i + 1) words))) is

  pub one_read : (i : ℕ) (text : List ℕ) (x : X) (found after : List X)
      → i < length words
      → text ≡ get_or words i []
      → read text ≡ Some x
      → after ≡ found ++ x ∷ []
      → IsSoFar i found
      → IsSoFar (i + 1) after
  one_read i text x found after h at is grown so_far =
      next i text (Some x) found h at is so_far ∙ ap (λ xs. read_behind read xs (drop (i + 1) words)) (sym grown)

  pub not_read : (i : ℕ) (text : List ℕ) (found : List X)
      → i < length words
      → text ≡ get_or words i []
      → read text ≡ None
      → IsSoFar i found
      → read_all read words ≡ None
  not_read i text found h at is so_far = next i text None found h at is so_far

  pub all_read : (i : ℕ) (found : List X) → length words ≤ i → IsSoFar i found → read_all read words ≡ Some found
  all_read i found h so_far = so_far ∙ ap (read_behind read found) (drop_all i words h)

-- the profile of a tree, which is looked for one after another
module _ (profiles : List (ℕ × Profile)) (tree : ℕ) where
  abbrev pub IsAhead : ℕ → Type 0
  IsAhead i = profile_for profiles tree ≡ profile_for (drop i profiles) tree

  test : (p : ℕ × Profile) (ps : List (ℕ × Profile)) (b : Bool)
      → (p.0 == tree) ≡ b
      → profile_for (p ∷ ps) tree ≡ cond b p.1 (profile_for ps tree)
  test p ps true e = ap (λ b. profile_or_model (cond b (Some p) (find (λ q. q.0 == tree) ps))) e
  test p ps false e = ap (λ b. profile_or_model (cond b (Some p) (find (λ q. q.0 == tree) ps))) e

  is_tree : (n : ℕ) → n ≡ tree → (n == tree) ≡ true
  is_tree n e = grind (arith, nat_tests)

  is_other : (n : ℕ) → n ≢ tree → (n == tree) ≡ false
  is_other n e = grind (arith, nat_tests)

  pub found_at : (i : ℕ) (d : ℕ × Profile)
      → i < length profiles
      → (get_or profiles i d).0 ≡ tree
      → IsAhead i
      → (get_or profiles i d).1 ≡ profile_for profiles tree
  found_at i d h e ahead =
      sym
      (ahead ∙ ap (λ ps. profile_for ps tree) (drop_more profiles i d h)
      ∙ test (get_or profiles i d) (drop (i + 1) profiles) true (is_tree _ e))

  pub passed_at : (i : ℕ) (d : ℕ × Profile)
      → i < length profiles
      → (get_or profiles i d).0 ≢ tree
      → IsAhead i
      → IsAhead (i + 1)
  passed_at i d h e ahead =
      ahead ∙ ap (λ ps. profile_for ps tree) (drop_more profiles i d h)
      ∙ test (get_or profiles i d) (drop (i + 1) profiles) false (is_other _ e)

  pub passed_all : (i : ℕ) → length profiles ≤ i → IsAhead i → profile_for profiles tree ≡ profile_or_model None
  passed_all i h ahead = ahead ∙ ap (λ ps. profile_for ps tree) (drop_all i profiles h)

pub length_pushed : {X : Type 0} (xs : List X) (x : X) → length (xs ++ x ∷ []) ≡ length xs + 1
length_pushed [] x = refl
length_pushed (y ∷ ys) x = omega (arith, length_pushed ys x)

-- what each of the first elements gives, with one more, and of all
pub one_taken : {X Y : Type 0} (f : X → Y) (xs : List X) (i : ℕ) (d : X)
    → i < length xs
    → map f (take (i + 1) xs) ≡ map f (take i xs) ++ f (get_or xs i d) ∷ []
one_taken f [] i d h = absurd (omega (arith, h))
one_taken f (x ∷ xs) zero d h = refl
one_taken f (x ∷ xs) (suc i) d h = let more = simp unary_clauses at (one_taken f xs i d (omega (arith, h))) in
    simp unary_clauses (ap (λ ys. f x ∷ ys) more)

pub all_taken : {X Y : Type 0} (f : X → Y) (xs : List X) (i : ℕ) → length xs ≤ i → map f (take i xs) ≡ map f xs
all_taken f [] zero h = refl
all_taken f [] (suc i) h = refl
all_taken f (x ∷ xs) zero h = absurd (omega (arith, h))
all_taken f (x ∷ xs) (suc i) h = ap (λ ys. f x ∷ ys) (all_taken f xs i (omega (arith, h)))

-- the roots of the host, the hypervisor and the first guests
module _ (profiles : List (ℕ × Profile)) (host hyp : RootWord) (guests : List (ℕ × RootWord)) where
  abbrev own : ℕ × RootWord → Root
  own g = root_by profiles (g.0 + 2) g.1

  abbrev pub roots_to : ℕ → List Root
  roots_to i = root_by profiles 0 host ∷ root_by profiles 1 hyp ∷ map own (take i guests)

  pub one_root : (i : ℕ) (d : ℕ × RootWord)
      → i < length guests
      → roots_to i ++ own (get_or guests i d) ∷ [] ≡ roots_to (i + 1)
  one_root i d h = ap (λ ys. root_by profiles 0 host ∷ root_by profiles 1 hyp ∷ ys) (sym (one_taken own guests i d h))

  pub roots_done : (i : ℕ) → length guests ≤ i → roots_to i ≡ roots_by profiles host hyp guests
  roots_done i h = ap (λ ys. root_by profiles 0 host ∷ root_by profiles 1 hyp ∷ ys) (all_taken own guests i h)
