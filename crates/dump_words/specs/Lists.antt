-- What all words of a dump say together.
use Rattle.std.specs.Borrow.{Bor}
use Rattle.std.specs.Global.{Global}
use Rattle.std.specs.Prelude.{◌≡◌, ℕ, ◌+◌, ◌≤◌, ◌==◌, ◌&&◌, not, nat_lt, Bool, All, Vec, List, [], ◌∷◌, ◌++◌, find, length, map, Option, Some, None, Result, Ok, Err, if◌then◌else◌}
use Rattle.std.specs.List.{list_any}
use Rattle.table_words.specs.Profiles.{model_profile}
use Rattle.table_words.specs.declared.profile.Profile.{Profile}
use Rattle.image_trees.specs.declared.root.Root.{Root}
use Rattle.image_dump.specs.declared.skip.Skip.{Skip}
use Rattle.dump_words.specs.declared.given.BadWord.{BadWord}
use Rattle.dump_words.specs.declared.given.BadWord.TheVariants as bad
use Rattle.dump_words.specs.declared.given.Given.{Given}
use Rattle.dump_words.specs.declared.given.NotGiven.{NotGiven}
use Rattle.dump_words.specs.declared.given.NotGiven.TheVariants.{Bad, NoMemory}
use Rattle.dump_words.specs.declared.roots.RootWord.{RootWord}
use Rattle.dump_words.specs.Words.{IsLowGuest, from, guest_of, profile_of_word, root_of_word, skip_of}

-- texts as they are
abbrev pub texts_in : List (Bor (List ℕ)) → List (List ℕ)
texts_in words = map (λ word. word.now) words

-- the values of words, after those of the words before them; None if one says nothing
abbrev pub read_behind : {X : Type 0}
    → (List ℕ → Option X)
    → List X
    → List (List ℕ)
    → Option (List X)
read_behind read found [] = Some found
read_behind read found (word ∷ more) =
    from (read word) (λ x. read_behind read (found ++ x ∷ []) more)

abbrev pub read_all : {X : Type 0} → (List ℕ → Option X) → List (List ℕ) → Option (List X)
read_all read words = read_behind read [] words

-- the profile of a tree: the first that is given for it, otherwise the model's
abbrev pub profile_or_model : Option (ℕ × Profile) → Profile
profile_or_model None = model_profile
profile_or_model (Some p) = p.1

abbrev pub profile_for : List (ℕ × Profile) → ℕ → Profile
profile_for profiles tree = profile_or_model (find (λ p. p.0 == tree) profiles)

-- a root of a tree
abbrev pub root_by : List (ℕ × Profile) → ℕ → RootWord → Root
root_by profiles tree word =
    record {
      tree = tree;
      frame = word.frame;
      depth = word.depth;
      count = word.pages;
      profile = profile_for profiles tree;
    }

-- the roots of the host's tree, the hypervisor's and those of guests
abbrev pub roots_by : List (ℕ × Profile) → RootWord → RootWord → List (ℕ × RootWord) → List Root
roots_by profiles host hyp guests =
    root_by profiles 0 host ∷ root_by profiles 1 hyp
    ∷ map (λ g. root_by profiles (g.0 + 2) g.1) guests

-- a root of level -1 whose words have addresses of 48 bits
abbrev pub is_narrow : Root → Bool
is_narrow root = root.depth == 4 && not root.profile.lpa2

-- what follows if a word was read, and the fault if it wasn't
abbrev pub or_bad : {X Y : Type 0} → Option X → BadWord → (X → Result Y BadWord) → Result Y BadWord
or_bad None fault next = Err fault
or_bad (Some x) fault next = next x

-- the roots and the pages to skip, or the first kind of words of which one isn't of its form
abbrev pub given_by : (host hyp : List ℕ) (guests profiles skips : List (List ℕ))
    → Result (List Root × List Skip) BadWord
given_by host hyp guests profiles skips =
    or_bad (root_of_word host) bad.Host (λ own. or_bad (root_of_word hyp) bad.Hyp (λ other.
    if nat_lt 64 (length guests) then Err bad.ManyGuests
    else or_bad (read_all guest_of guests) bad.Guest
    (λ roots. or_bad (read_all profile_of_word profiles) bad.Profile
    (λ words. if list_any is_narrow (roots_by words own other roots) then Err bad.Narrow
    else or_bad (read_all skip_of skips) bad.Skip (λ pages.
    Ok (roots_by words own other roots, pages))))))

-- it was read, or it says which kind is wrong, or memory was refused
abbrev pub IsGiven : Result (List Root × List Skip) BadWord → Result Given NotGiven → Type 0
IsGiven said (Ok given) = said ≡ Ok (given.roots.items, given.skips.items)
IsGiven said (Err (Bad fault)) = said ≡ Err fault
IsGiven said (Err NoMemory) = Unit {0}

-- and of words of one kind
abbrev pub AreRead : {X V E : Type 0}
    → (V → List X)
    → Option (List X)
    → Result (Option V) E
    → Type 0
AreRead items said (Ok None) = said ≡ None
AreRead items said (Ok (Some found)) = said ≡ Some (items found)
AreRead items said (Err fault) = Unit {0}

-- guests that were read have small numbers, and there are as many as words at most
abbrev pub AreAllLow : {E : Type 0} → ℕ → Result (Option (Vec (ℕ × RootWord) Global)) E → Type 0
AreAllLow count (Ok None) = Unit {0}
AreAllLow count (Ok (Some found)) = All IsLowGuest found.items × (length found.items ≤ count)
AreAllLow count (Err fault) = Unit {0}
