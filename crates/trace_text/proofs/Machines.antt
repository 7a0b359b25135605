-- The machine that a world stands for.
use Rattle.std.proofs.Common.{◌≡◌, ◌∙◌, ◌+◌, ◌-◌, ◌<◌, ◌≤◌, ℕ, zero, All, refl, sym, ap, subst, arith, suc, true, false, List, filter, get_or, length, slice_get, Option, Some, None, IsSome, IfSome, is_some, nat_lt, nat_le, ◌&&◌, Bool, if◌then◌else◌, inl, inr}
use Rattle.std.proofs.lemmas.Bool.Decides.{nat_tests}
use Rattle.std.proofs.lemmas.Option.{slice_get-get_or, slice_get_cases, slice_get_past}
use Rattle.page_state.specs.declared.layout.Config.{Config}
use Rattle.page_state.specs.Blocks.{block_at}
use Rattle.page_state.specs.Geometries.{levels_below, input_pages}
use Rattle.page_state.specs.Regions.{Memory}
use Rattle.page_state.specs.Trees.{Tree as ReferenceTree}
use Rattle.page_state.specs.Accepted.{IsAcceptedConfig}
use Rattle.page_state.specs.LayoutFaults.{IsAccepted}
use Rattle.page_state.specs.Layouts.{Layout}
use Rattle.reference_model.specs.model.Boot.{IsCarveEnough}
use Rattle.reference_model.specs.model.State.{Guest as ReferenceGuest, no_guest}
use Rattle.page_state.proofs.Geometries.{levels_most}
use Rattle.guest_component.specs.declared.body.Body.{Body}
use Rattle.guest_component.specs.Bodies.{IsOfGeometry}
use Rattle.guest_component.specs.View.{guest_in, runs_of}
use Rattle.part_types.specs.declared.parts.GuestPart.{GuestPart}
use Rattle.part_types.specs.declared.parts.SharedPart.{SharedPart}
use Rattle.part_types.specs.View.{guest_held}
use Rattle.hypercalls.specs.Stands.{at_place}
use Rattle.table_tree.specs.AllBlocks.{blocks_in, table_count}
use Rattle.table_tree.specs.declared.tree.Tree.{Tree}
use Rattle.table_tree.specs.OnPage.{path_of, word_on}
use Rattle.table_tree.specs.Said.{block_above, block_of, HasWord, IsWordOf, IsRunOrTable}
use Rattle.table_tree.specs.View.{tree_of, word_of}
use Rattle.table_tree.proofs.AllFrames.{root_stands}
use Rattle.table_tree.proofs.OnPage.{page_block, path_length}
use Rattle.table_tree.proofs.PathNumbers.{Small, all_small}
use Rattle.table_tree.proofs.Said.{word_where}
use Rattle.trace_lines.specs.declared.line.TreeName.{TreeName}
use Rattle.trace_lines.specs.declared.line.TreeName.TheVariants.{Host, Hyp, Guest}
use Rattle.trace_text.specs.View.{body_at, body_in, machine_of, runs_in}
use Rattle.trace_text.specs.Worlds.{IsBootOf, HasMaplets, HasWordOn, IsWordOn, named_tree, tree_table_count, shared_free_count, guest_free_count}
use Rattle.hypercalls.specs.Booted.{IsBooted}
use Rattle.world.specs.declared.World.{World}

module _ {A : Type 0} (w : World A) where
  abbrev s : SharedPart A
  s = w.parts.shared

  host_depth : levels_below s.host.tree.geometry ≡ (machine_of w).layout.depth
  host_depth = w.parts.depth

  hyp_depth : levels_below s.hyp.tree.geometry ≡ (machine_of w).layout.depth
  hyp_depth = s.alike ∙ host_depth

  count_is : (name : TreeName) (t : Tree A)
      → levels_below t.geometry ≡ (machine_of w).layout.depth
      → named_tree (machine_of w) name ≡ tree_of t
      → table_count t.geometry (tree_of t) ≡ tree_table_count (machine_of w) name
  count_is name t depth told =
      ap (λ d. length (filter (λ b. is_some ((tree_of t).table b)) (blocks_in (d + 1) 0))) depth
      ∙ ap
      (λ (x : ReferenceTree). length
      (filter (λ b. is_some (x.table b)) (blocks_in ((machine_of w).layout.depth + 1) 0)))
      (sym told)

  pub host_count : table_count s.host.tree.geometry (tree_of s.host.tree) ≡ tree_table_count (machine_of w) Host
  host_count = count_is Host s.host.tree host_depth refl

  pub hyp_count : table_count s.hyp.tree.geometry (tree_of s.hyp.tree) ≡ tree_table_count (machine_of w) Hyp
  hyp_count = count_is Hyp s.hyp.tree hyp_depth refl

  pub free_is : length s.pool.frames ≡ shared_free_count (machine_of w)
  free_is = refl

-- the guest in a slot is that of what it holds
guest_is : {A : Type 0} (o : Option (GuestPart A)) → at_place no_guest guest_held o ≡ guest_in (body_in o)
guest_is None = refl
guest_is (Some g) = refl

-- the tree of what it holds, if it isn't Empty
module _ {A : Type 0} (w : World A) (slot : ℕ) where
  guest_told : (machine_of w).state.contents.guest slot ≡ guest_in (body_at w slot)
  guest_told = guest_is (slice_get w.parts.guests.items slot)

  -- it is looked up among the Guest parts
  pub held_at : (g : GuestPart A)
      → slot < length w.parts.guests.items
      → g ≡ get_or w.parts.guests.items slot g
      → body_at w slot ≡ g.guest.body
  held_at g l e = ap body_in (slice_get-get_or w.parts.guests.items slot g l ∙ ap Some (sym e))

  pub none_at : length w.parts.guests.items ≤ slot → body_at w slot ≡ None
  none_at past = ap body_in (slice_get_past w.parts.guests.items slot past)

  pub guest_tree : (o : Option (Body A))
      → body_at w slot ≡ o
      → named_tree (machine_of w) (Guest slot) ≡ (guest_in o).tree
  guest_tree o e = ap (λ (x : ReferenceGuest). x.tree) (guest_told ∙ ap guest_in e)

  pub guest_free_is : (o : Option (Body A))
      → body_at w slot ≡ o
      → length (guest_in o).free ≡ guest_free_count (machine_of w) slot
  guest_free_is o e = ap (λ (x : ReferenceGuest). length x.free) (sym (guest_told ∙ ap guest_in e))

-- the maplets that a world keeps are those of its trees
module _ {A : Type 0} (w : World A) where
  of_guest : (slot : ℕ) (o : Option (Body A))
      → body_at w slot ≡ o
      → HasMaplets (named_tree (machine_of w) (Guest slot)) (runs_of o)
  of_guest slot None e = record { map_is = ap (λ (x : ReferenceTree). x.map) (guest_tree w slot None e); coarsest = tt }
  of_guest slot (Some b) e =
      record {
        map_is = ap (λ (x : ReferenceTree). x.map) (guest_tree w slot (Some b) e)
            ∙ b.map.agree;
        coarsest = b.map.coarsest;
      }

  pub has_maplets : (tree : TreeName) → HasMaplets (named_tree (machine_of w) tree) (runs_in (Some w) tree)
  has_maplets Host = record { map_is = w.parts.shared.host.agree; coarsest = w.parts.shared.host.coarsest }
  has_maplets Hyp = record { map_is = w.parts.shared.hyp.agree; coarsest = w.parts.shared.hyp.coarsest }
  has_maplets (Guest slot) = of_guest slot (body_at w slot) refl

-- the machine that has booted
pub boots : {A : Type 0} (m : Memory) (c : Config) (w : World A) → IsBooted m c w.parts → IsBootOf m c (machine_of w)
boots m c w b = record {
  memory_is = ap (λ l. l.memory) b.layout;
  config_is = ap (λ l. l.config) b.layout;
  ready = record {
    accepted = record {
      memory = subst (λ (l : Layout). IsAccepted l.memory) (sym b.layout) b.memory;
      config = subst (λ (l : Layout). IsAcceptedConfig l.config) (sym b.layout) b.accepted.accepted;
      depth = b.depth;
    };
    enough = subst IsCarveEnough (sym b.layout) b.enough;
  };
  state_is = sym b.stands;
}

-- ---- the word on a page's path

indices_small : (page below n : ℕ) → Small (path_of page below n)
unfolding Small
indices_small page below zero = tt
indices_small page below (suc n) = (omega arith, indices_small page (below - 1) n)

all_passed : (p q a l : ℕ) → p < q → a ≤ l → l ≤ 3 → (nat_lt p q && (nat_le a l && nat_le l 3)) ≡ true
all_passed p q a l x y z = grind (arith, nat_tests)

passed : (p q a l : ℕ) → (nat_lt p q && (nat_le a l && nat_le l 3)) ≡ true → (p < q) × (a ≤ l) × (l ≤ 3)
passed p q a l e = go (nat_lt p q) (nat_le a l) (nat_le l 3) refl refl refl e
  where
    go : (b c d : Bool)
        → nat_lt p q ≡ b
        → nat_le a l ≡ c
        → nat_le l 3 ≡ d
        → (b && (c && d)) ≡ true
        → (p < q) × (a ≤ l) × (l ≤ 3)
    go true true true x y z e = (grind (arith, nat_tests), grind (arith, nat_tests), grind (arith, nat_tests))
    go true true false x y z e = absurd (let h = e in cc)
    go true false d x y z e = absurd (let h = e in cc)
    go false c d x y z e = absurd (let h = e in cc)

off : true ≡ false → ⊥
off h = cc

nothing : (o : Option ℕ) → o ≡ None → IsSome o → ⊥
nothing None e h = cc
nothing (Some w) e h = cc

module _ {A : Type 0} (t : Tree A) (page level : ℕ) where
  depth : ℕ
  depth = levels_below t.geometry

  path : List ℕ
  path = path_of page (levels_below t.geometry) (level + 1 - (3 - levels_below t.geometry))

  block_is : page < input_pages t.geometry
      → 3 - levels_below t.geometry ≤ level
      → level ≤ 3
      → block_of t.geometry path ≡ block_at (3 - level) page
  unfolding path
  block_is a b c =
      let few = levels_most t.geometry in
      page_block t.geometry _ page (3 - levels_below t.geometry) level (omega (arith, few)) b c a
      (ap (λ d. path_of page d (level + 1 - (3 - levels_below t.geometry)))
      (let same : levels_below t.geometry ≡ 3 - (3 - levels_below t.geometry) = omega (arith, few) in same))

  count : length path ≡ level + 1 - (3 - levels_below t.geometry)
  unfolding path
  count = path_length page (levels_below t.geometry) (level + 1 - (3 - levels_below t.geometry))

  small : Small path
  unfolding path
  small = indices_small page (levels_below t.geometry) (level + 1 - (3 - levels_below t.geometry))

  to_page : page < input_pages t.geometry
      → 3 - levels_below t.geometry ≤ level
      → level ≤ 3
      → HasWord t.geometry (tree_of t) path
      → HasWordOn (levels_below t.geometry) (tree_of t) page level
  to_page a b c h =
      let few = levels_most t.geometry in
      let many = count in
      record {
        root = subst IsSome (sym (root_stands t)) refl;
        good = a;
        top = omega (arith, few);
        bottom = c;
        stands =
            λ below. subst (λ x. IsSome ((tree_of t).table (block_above x))) (block_is a b c)
            (h.stands (omega (arith, few, many)));
      }

  from_page : HasWordOn (levels_below t.geometry) (tree_of t) page level → HasWord t.geometry (tree_of t) path
  from_page h =
      let few = levels_most t.geometry in
      let many = count in
      let top = h.top in
      let bottom = h.bottom in
      record {
        some = omega (arith, few, many, top);
        no_deeper = omega (arith, few, many, bottom);
        indices = all_small path small;
        stands =
            λ two. subst (λ x. IsSome ((tree_of t).table (block_above x)))
            (sym (block_is h.good (omega (arith, top)) h.bottom)) (h.stands (omega (arith, few, many, two)));
      }

  found : (r : Option ℕ)
      → r ≡ word_of t path
      → page < input_pages t.geometry
      → 3 - levels_below t.geometry ≤ level
      → level ≤ 3
      → IfSome r (λ w. IsWordOf (tree_of t) (block_at (3 - level) page) w)
      → IfSome r (λ _. IsRunOrTable (tree_of t) (block_at (3 - level) page))
      → IsWordOn (levels_below t.geometry) (tree_of t) page level r
  found None e a b c said run = λ has. nothing (word_of t path) (sym e) ((word_where t path).1 (from_page has))
  found (Some w) e a b c said run = (to_page a b c ((word_where t path).0 (rw (sym e) refl)), said, run)

  pub is_word_on : (r : Option ℕ)
      → r ≡ word_on t page level
      → IfSome r (λ w. IsWordOf (tree_of t) (block_at (3 - level) page) w)
      → IfSome r (λ _. IsRunOrTable (tree_of t) (block_at (3 - level) page))
      → IsWordOn (levels_below t.geometry) (tree_of t) page level r
  unfolding word_on path
  is_word_on r e said run =
      go (nat_lt page (input_pages t.geometry) && (nat_le (3 - levels_below t.geometry) level && nat_le level 3)) refl e
    where
      go : (b : Bool)
          → (nat_lt page (input_pages t.geometry) && (nat_le (3 - levels_below t.geometry) level && nat_le level 3)) ≡ b
          → r ≡ (if b then word_of t path else None)
          → IsWordOn (levels_below t.geometry) (tree_of t) page level r
      go true n e = let all = passed _ _ _ _ n in found r e all.0 all.1 all.2 said run
      go false n e =
          subst (IsWordOn (levels_below t.geometry) (tree_of t) page level) (sym e)
          (λ has. let top = has.top in off (sym (all_passed _ _ _ _ has.good (omega (arith, top)) has.bottom) ∙ n))

-- the word that a world's tree has, told of its machine
module _ {A : Type 0} (w : World A) (page level : ℕ) (r : Option ℕ) where
  on_tree : (name : TreeName) (t : Tree A)
      → levels_below t.geometry ≡ (machine_of w).layout.depth
      → named_tree (machine_of w) name ≡ tree_of t
      → IsWordOn (levels_below t.geometry) (tree_of t) page level r
      → IsWordOn (machine_of w).layout.depth (named_tree (machine_of w) name) page level r
  on_tree name t depth told h =
      subst (λ x. IsWordOn (machine_of w).layout.depth x page level r) (sym told)
      (subst (λ d. IsWordOn d (tree_of t) page level r) depth h)

  pub host_word : IsWordOn (levels_below w.parts.shared.host.tree.geometry)
      (tree_of w.parts.shared.host.tree) page level r
      → IsWordOn (machine_of w).layout.depth (named_tree (machine_of w) Host) page level r
  host_word h = on_tree Host w.parts.shared.host.tree (host_depth w) refl h

  pub hyp_word : IsWordOn (levels_below w.parts.shared.hyp.tree.geometry) (tree_of w.parts.shared.hyp.tree) page level r
      → IsWordOn (machine_of w).layout.depth (named_tree (machine_of w) Hyp) page level r
  hyp_word h = on_tree Hyp w.parts.shared.hyp.tree (hyp_depth w) refl h

-- what holds of all holds at a place
all_at : {P : Type 0} (Is : P → Type 0) (xs : List P) (k : ℕ) → All Is xs → IfSome (slice_get xs k) Is
all_at Is xs k h = elim (slice_get_cases xs k).1 [
  | inl (d, inside, at, is) ↦ rw at (subst Is is (h k d inside))
  | inr past ↦ rw past.1 tt
]

-- the word that a guest's tree has, if it isn't Empty
module _ {A : Type 0} (w : World A) (slot page level : ℕ) where
  guest_depths : (o : Option (GuestPart A)) (b : Body A)
      → IfSome o (λ g. levels_below g.guest.geometry ≡ (machine_of w).layout.depth)
      → body_in o ≡ Some b
      → levels_below b.map.tree.geometry ≡ (machine_of w).layout.depth
  guest_depths None b h e = absurd (let k = e in cc)
  guest_depths (Some g) b h e = ap levels_below (subst (IsOfGeometry g.guest.geometry) e g.guest.alike) ∙ h

  pub guest_word : (b : Body A)
      → body_at w slot ≡ Some b
      → (r : Option ℕ)
      → IsWordOn (levels_below b.map.tree.geometry) (tree_of b.map.tree) page level r
      → IsWordOn (machine_of w).layout.depth (named_tree (machine_of w) (Guest slot)) page level r
  guest_word b e r h =
      let depth =
      guest_depths (slice_get w.parts.guests.items slot) b
      (all_at
      (λ g. levels_below g.guest.geometry ≡ (machine_of w).layout.depth) w.parts.guests.items slot
      w.parts.guest_depth) e in
      subst (λ x. IsWordOn (machine_of w).layout.depth x page level r) (sym (guest_tree w slot (Some b) e))
      (subst (λ d. IsWordOn d (tree_of b.map.tree) page level r) depth h)

  pub no_guest_word : body_at w slot ≡ None
      → IsWordOn (machine_of w).layout.depth (named_tree (machine_of w) (Guest slot)) page level None
  no_guest_word e = λ has. let root =
      subst (λ (x : ReferenceTree). IsSome (x.table ((machine_of w).layout.depth + 1, 0)))
      (guest_tree w slot None e) has.root in
      cc
