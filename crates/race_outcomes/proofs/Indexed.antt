-- Nodes and the places of those of each key.
use Rattle.std.proofs.Common.{◌≡◌, ℕ, ◌+◌, ◌<◌, ◌≤◌, sym, ap, subst, ◌∙◌, arith, List, [], ◌∷◌, ◌++◌, length, get_or, set}
use Rattle.std.specs.Prelude.{AllPairs, Contains, Some, Vec, slice_get}
use Rattle.std.specs.Global.{Global}
use Rattle.std.proofs.lemmas.List.{get_or_append_left, get_or_default, get_or-set_other, get_or-set_same, length-map, length_push}
use Rattle.std.proofs.Math.Seq.{get_or-append_seam}
use Rattle.std.proofs.lemmas.List.Elements.{Contains-append_left, Contains-get_or, Contains-push}
use Rattle.std.proofs.lemmas.List.Quantifiers.{all_pairs_push}
use Rattle.std.proofs.lemmas.Option.{get_or_from_slice_get, slice_get-get_or, slice_get_past, slice_get_within}
use Rattle.page_state.proofs.Cases.{by_eq, by_lt}
use Rattle.race_outcomes.specs.declared.layer.Layer.{Layer}
use Rattle.race_outcomes.specs.declared.node.Node.{Node}
use Rattle.race_outcomes.specs.Layers.{AreApart, HavePlaces, IsApartFrom, IsIndexed, key_of, places_in, point_of, points_of}
use Rattle.race_outcomes.specs.Orders.{Point}
use Rattle.race_outcomes.proofs.Members.{to_map}

-- one node more has its place, behind all others
pub places_more : (ns : List Node) (places : List (List ℕ)) (n : Node) (key : ℕ)
    → key ≡ key_of n.told.items
    → key < length places
    → HavePlaces ns places
    → HavePlaces (ns ++ n ∷ []) (set places key (get_or places key [] ++ length ns ∷ []))
places_more ns places n key is less have i m at = by_lt i (length ns) before here
  where
    new : List ℕ
    new = get_or places key [] ++ length ns ∷ []

    after : List (List ℕ)
    after = set places key new

    at_key : (k : ℕ) → k ≡ key → get_or after k [] ≡ new
    at_key k e = ap (λ (j : ℕ). get_or after j []) e ∙ get_or-set_same places key new [] less

    before : i < length ns → Contains (get_or after (key_of m.told.items) []) i
    before lower =
        let same : get_or ns i m ≡ m =
        sym (get_or_append_left ns (n ∷ []) m i lower) ∙ get_or_from_slice_get (ns ++ n ∷ []) i m m at in
        let old : Contains (get_or places (key_of m.told.items) []) i =
        have i m (slice_get-get_or ns i m lower ∙ ap (λ (x : Node). Some x) same) in
        by_eq (key_of m.told.items) key
        (λ e. subst (λ (xs : List ℕ). Contains xs i) (sym (at_key (key_of m.told.items) e))
        (Contains-append_left (get_or places key []) (length ns ∷ []) i
        (subst (λ (k : ℕ). Contains (get_or places k []) i) e old)))
        (λ e. subst (λ (xs : List ℕ). Contains xs i)
        (sym (get_or-set_other places key (key_of m.told.items) new [] e)) old)

    here : length ns ≤ i → Contains (get_or after (key_of m.told.items) []) i
    here upper =
        let within : i < length (ns ++ n ∷ []) = slice_get_within (ns ++ n ∷ []) i m at in
        let count = length_push ns n in
        let last : length ns ≡ i = omega (arith, within, count, upper) in
        let is_it : n ≡ m =
        sym (get_or-append_seam ns n [] m) ∙ ap (λ (j : ℕ). get_or (ns ++ n ∷ []) j m) last
        ∙ get_or_from_slice_get (ns ++ n ∷ []) i m m at in
        let key_is : key_of m.told.items ≡ key = ap (λ (x : Node). key_of x.told.items) (sym is_it) ∙ sym is in
        subst (λ (xs : List ℕ). Contains xs i) (sym (at_key (key_of m.told.items) key_is))
        (subst (λ (j : ℕ). Contains new j) last (Contains-push (get_or places key []) (length ns)))

pub apart_more : (ns : List Node) (n : Node)
    → AllPairs AreApart ns
    → IsApartFrom ns n
    → AllPairs AreApart (ns ++ n ∷ [])
apart_more ns n h apart = all_pairs_push AreApart ns n h (λ k d less. apart k d less)

-- no node of a key is at the point of another, so none at all is
abbrev pub AreLooked : List Node → List ℕ → Node → ℕ → Type 0
AreLooked ns those n upto = (j : ℕ) → j < upto → (m : Node) → slice_get ns (get_or those j 0) ≡ Some m → AreApart m n

pub all_apart : (ns : List Node) (places : List (List ℕ)) (n : Node) (key : ℕ)
    → key ≡ key_of n.told.items
    → HavePlaces ns places
    → (upto : ℕ)
    → length (get_or places key []) ≤ upto
    → AreLooked ns (get_or places key []) n upto
    → IsApartFrom ns n
all_apart ns places n key is have upto past looked k d less layouts same =
    let m = get_or ns k d in
    let told : key_of m.told.items ≡ key = ap (λ (p : Point). key_of p.told) same ∙ sym is in
    let those = get_or places key [] in
    let there : Contains those k =
    subst (λ (i : ℕ). Contains (get_or places i []) k) told (have k m (slice_get-get_or ns k d less)) in
    let lower : there.0 < length those = there.1 in
    let at : get_or those there.0 0 ≡ k = get_or_default those there.0 0 k lower ∙ there.2 in
    looked there.0 (omega (arith, lower, past)) m (ap (slice_get ns) at ∙ slice_get-get_or ns k d less) layouts same

-- one node of a key more is looked at
pub looked_more : (ns : List Node) (those : List ℕ) (n : Node) (upto place : ℕ)
    → place ≡ get_or those upto 0
    → AreLooked ns those n upto
    → ((m : Node) → slice_get ns place ≡ Some m → AreApart m n)
    → AreLooked ns those n (upto + 1)
looked_more ns those n upto place is looked apart j less = by_lt j upto (looked j) (λ past.
    let e : upto ≡ j = omega (arith, less, past) in
    subst (λ (k : ℕ). (m : Node) → slice_get ns k ≡ Some m → AreApart m n)
    (is ∙ ap (λ (i : ℕ). get_or those i 0) e) apart)

pub indexed_more : (x y : Layer) (n : Node) (key : ℕ)
    → IsIndexed x
    → key ≡ key_of n.told.items
    → key < 4093
    → IsApartFrom x.nodes.items n
    → y.nodes.items ≡ x.nodes.items ++ n ∷ []
    → places_in y ≡ set (places_in x) key (get_or (places_in x) key [] ++ length x.nodes.items ∷ [])
    → length y.places.items ≡ length x.places.items
    → IsIndexed y
indexed_more x y n key h is low apart nodes places count = record {
  count = count ∙ h.count;
  apart = subst (AllPairs AreApart) (sym nodes) (apart_more x.nodes.items n h.apart apart);
  has =
      subst (HavePlaces y.nodes.items) (sym places)
      (subst
      (λ (ns : List Node). HavePlaces ns
      (set (places_in x) key (get_or (places_in x) key [] ++ length x.nodes.items ∷ [])))
      (sym nodes)
      (places_more x.nodes.items (places_in x) n key is
      (subst (λ (k : ℕ). key < k)
      (sym (length-map x.places.items (λ (v : Vec ℕ Global). v.items) ∙ h.count)) low) h.has));
}

-- the node at a place
pub at_place : (ns : List Node) (place : ℕ) (n m : Node)
    → m ≡ get_or ns place m
    → place < length ns
    → point_of m ≡ point_of n
    → Contains (points_of ns) (point_of n)
at_place ns place n m is less same =
    subst (Contains (points_of ns)) (ap point_of (sym is) ∙ same)
    (to_map point_of ns (get_or ns place m) (Contains-get_or ns place m less))

pub not_at_place : (ns : List Node) (place : ℕ) (n m : Node)
    → m ≡ get_or ns place m
    → AreApart m n
    → (k : Node)
    → slice_get ns place ≡ Some k
    → AreApart k n
not_at_place ns place n m is apart k at =
    subst (λ (x : Node). AreApart x n) (is ∙ get_or_from_slice_get ns place k m at) apart

pub past_place : (ns : List Node) (place : ℕ) (n : Node)
    → length ns ≤ place
    → (k : Node)
    → slice_get ns place ≡ Some k
    → AreApart k n
past_place ns place n past k at = let none = slice_get_past ns place past in absurd (let e = sym none ∙ at in cc)
