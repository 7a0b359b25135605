-- What a poke leaves is told whole.
use Rattle.std.proofs.Common.{◌≡◌, ℕ, ◌/◌, refl, ap, sym, ◌∙◌, subst, inl, inr, List, [], ◌∷◌, ◌++◌, Option, Some, None}
use Rattle.std.specs.Prelude.{◌⊎◌}
use Rattle.std.proofs.lemmas.List.{append-nil}
use mathlib.Core.Path.{fun_ext}
use Rattle.page_state.specs.Blocks.{span}
use Rattle.page_state.specs.Map.{Map}
use Rattle.page_state.specs.Trees.{Block}
use Rattle.page_state.proofs.Cases.{by_eq}
use Rattle.table_tree.specs.Raw.{BeginsWith, IsPoked, IsPokedMap}
use Rattle.ghost_oracle.specs.declared.raw.Which.{Which}
use Rattle.ghost_oracle.specs.declared.raw.Which.TheVariants.{Host, Hyp, Guest}
use Rattle.ghost_oracle.specs.Poked.{Beside}
use Rattle.ghost_oracle.specs.PokedLaws.{BesideOnce, PokedOnce, HasSameWords}
use Rattle.ghost_oracle.specs.Seen.{SeenTree}

-- tests

is_or_not : (a b : Which) → (a ≡ b) ⊎ (a ≡ b → ⊥)
is_or_not Host Host = inl refl
is_or_not Hyp Hyp = inl refl
is_or_not (Guest v) (Guest u) = by_eq v u (λ e. inl (ap Guest e)) (λ n. inr (λ e. n cc))
is_or_not Host Hyp = inr (λ e. cc)
is_or_not Host (Guest u) = inr (λ e. cc)
is_or_not Hyp Host = inr (λ e. cc)
is_or_not Hyp (Guest u) = inr (λ e. cc)
is_or_not (Guest v) Host = inr (λ e. cc)
is_or_not (Guest v) Hyp = inr (λ e. cc)

stands_or_not : (o : Option ℕ) (w : ℕ) → (o ≡ Some w) ⊎ (o ≡ Some w → ⊥)
stands_or_not None w = inr (λ e. cc)
stands_or_not (Some v) w = by_eq v w (λ e. inl (ap Some e)) (λ n. inr (λ e. n cc))

other_head : (p r : ℕ) (ps rs : List ℕ) → (p ≡ r → ⊥) → BeginsWith (p ∷ ps) (r ∷ rs) → ⊥
other_head p r ps rs n h = n (let e = h.1 in cc)

other_tail : (p r : ℕ) (ps rs : List ℕ) → (BeginsWith ps rs → ⊥) → BeginsWith (p ∷ ps) (r ∷ rs) → ⊥
other_tail p r ps rs n h = n (h.0, let e = h.1 in cc)

begins_or_not : (path q : List ℕ) → BeginsWith path q ⊎ (BeginsWith path q → ⊥)
begins_or_not [] q = inl (q, refl)
begins_or_not (p ∷ ps) [] = inr (λ h. let e = h.1 in cc)
begins_or_not (p ∷ ps) (r ∷ rs) = by_eq p r
    (λ e. elim (begins_or_not ps rs)
    [ inl h ↦ inl (h.0, ap (λ x. x ∷ rs) (sym e) ∙ ap (λ xs. p ∷ xs) h.1) | inr n ↦ inr (other_tail p r ps rs n) ])
    (λ n. inr (other_head p r ps rs n))

-- one tree

module _ (before x y : List ℕ → Option ℕ) (path : List ℕ) (word : ℕ) (a : IsPoked before x path word)
    (b : IsPoked before y path word) where
  through : (q rest : List ℕ) → q ≡ path ++ rest → x q ≡ y q
  through q [] e = subst (λ r. x r ≡ y r) (sym (e ∙ append-nil path)) (a.there ∙ sym b.there)
  through q (i ∷ rest) e = elim (stands_or_not (before path) word) [
    | inl s ↦ a.same s q ∙ sym (b.same s q)
    | inr n ↦ subst (λ r. x r ≡ y r) (sym e) (a.behind n i rest ∙ sym (b.behind n i rest))
  ]

  words_once : (q : List ℕ) → x q ≡ y q
  words_once q =
      elim (begins_or_not path q) [ inl h ↦ through q h.0 h.1 | inr n ↦ a.elsewhere q n ∙ sym (b.elsewhere q n) ]

map_once : (block : Block) (words : List ℕ → Option ℕ) (before x y : Map) (path : List ℕ) (word : ℕ)
    → IsPokedMap block words before x path word
    → IsPokedMap block words before y path word
    → (page : ℕ)
    → x page ≡ y page
map_once block words before x y path word a b page = elim (stands_or_not (words path) word) [
  | inl s ↦ a.same s page ∙ sym (b.same s page)
  | inr n ↦ by_eq (page / span block) block.1 (λ e. a.within n page e ∙ sym (b.within n page e))
      (λ o. a.outside page o ∙ sym (b.outside page o))
]

-- all trees

pub poked_once : PokedOnce
poked_once block before x y which path word a b tree = elim (is_or_not tree which) [
  | inl e ↦ subst (λ w. HasSameWords (x w) (y w)) (sym e) (record {
    words = words_once (before which).words (x which).words (y which).words path word a.poked.words b.poked.words;
    map =
        map_once block (before which).words (before which).tree.map (x which).tree.map
        (y which).tree.map path word a.poked.map b.poked.map;
  })
  | inr n ↦ let e : x tree ≡ y tree = a.others tree n ∙ sym (b.others tree n) in
      subst (λ (t : SeenTree). HasSameWords (x tree) t) e (record { words = λ q. refl; map = λ page. refl })
]

-- beside them

by_fields : (x y : Beside)
    → x.layout ≡ y.layout
    → x.vms ≡ y.vms
    → x.shared ≡ y.shared
    → x.guest ≡ y.guest
    → x.cpus ≡ y.cpus
    → x ≡ y
by_fields x y a b c d e = λ i. record { layout = a i; vms = b i; shared = c i; guest = d i; cpus = e i }

pub beside_once : {A : Type 0} → BesideOnce A
beside_once p x y a b =
    by_fields x y (a.layout ∙ sym b.layout) (a.vms ∙ sym b.vms) (a.shared ∙ sym b.shared)
    (fun_ext (λ v. a.guest v ∙ sym (b.guest v))) (a.cpus ∙ sym b.cpus)
