-- Whole guests fit.
use Rattle.std.proofs.Common.{◌≡◌, ℕ, zero, suc, ◌+◌, true, List, [], ◌∷◌, map, length, get_or, Option, Some, None, refl, sym, ap, ◌∙◌, arith}
use Rattle.std.specs.Prelude.{All, is_some}
use Rattle.std.proofs.lemmas.List.Elements.{All-head, All-tail}
use Rattle.page_state.specs.LayoutView.{layout_of}
use Rattle.page_state.specs.declared.entry.Run.{Run}
use Rattle.call_table.specs.declared.step.VmKind.{VmKind}
use Rattle.call_table.specs.declared.step.VmKind.TheVariants.{Plain}
use Rattle.reference_model.specs.help.Conditions.{GuestsFit}
use Rattle.reference_model.specs.model.State.{Guest, empty, live, dying, no_guest}
use Rattle.ghost_trees.specs.declared.tree.Table.{Table}
use Rattle.ghost_trees.specs.Trees.{table_of}
use Rattle.page_state.specs.Runs.{map_of}
use Rattle.ghost_spec.specs.declared.lists.GhostLists.{GhostLists}
use Rattle.ghost_spec.specs.declared.parts.GhostGuest.{GhostGuest}
use Rattle.ghost_spec.specs.declared.parts.GhostPhase.{GhostPhase}
use Rattle.ghost_spec.specs.declared.parts.GhostPhase.TheVariants.{Empty, Live, Dying}
use Rattle.ghost_spec.specs.States.{contents_in, guest_in, phase_in}
use Rattle.ghost_legal.specs.Pages.{IsWhole, IsWholeIn}

nil-of : {X : Type 0} (xs : List X) → length xs ≡ 0 → xs ≡ []
nil-of [] e = refl
nil-of (x ∷ xs) e = absurd (omega (arith, e))

empty-made : (generation : ℕ) (kind : VmKind) (runs : List Run) (tables : List Table) (free : List ℕ)
    → generation ≡ 0
    → kind ≡ Plain
    → runs ≡ []
    → tables ≡ []
    → free ≡ []
    → ◌≡◌ {A = Guest}
    (record {
      phase = empty;
      generation = generation;
      kind = kind;
      tree = record { map = map_of runs; table = table_of tables };
      free = free;
    }) no_guest
empty-made generation kind runs tables free a b c d e = rw (a, b, c, d, e) refl

some-root : (o : Option ℕ) → is_some o ≡ true → (root : ℕ) × (o ≡ Some root)
some-root None e = cc
some-root (Some r) e = (r, refl)

blank-one : (depth : ℕ) (g : GhostGuest) (x : GhostPhase)
    → g.phase ≡ x
    → IsWholeIn depth g x
    → (guest_in g).phase ≡ empty
    → guest_in g ≡ no_guest
blank-one depth g Empty p w e =
    ap
    (λ y. record {
      phase = phase_in y;
      generation = g.generation;
      kind = g.kind;
      tree = (guest_in g).tree;
      free = g.free.items;
    }) p
    ∙ empty-made g.generation g.kind g.tree.runs.items g.tree.tables.items g.free.items w.generation w.kind
    (nil-of g.tree.runs.items w.runs) (nil-of g.tree.tables.items w.tables) (nil-of g.free.items w.free)
blank-one depth g Live p w e = let bad : live ≡ empty = sym (ap phase_in p) ∙ e in cc
blank-one depth g Dying p w e = let bad : dying ≡ empty = sym (ap phase_in p) ∙ e in cc

root-one : (depth : ℕ) (g : GhostGuest) (x : GhostPhase)
    → g.phase ≡ x
    → IsWholeIn depth g x
    → ((guest_in g).phase ≡ empty → ⊥)
    → (root : ℕ) × ((guest_in g).tree.table (depth + 1, 0) ≡ Some root)
root-one depth g Empty p w n = absurd (n (ap phase_in p))
root-one depth g Live p w n = some-root (table_of g.tree.tables.items (depth + 1, 0)) w
root-one depth g Dying p w n = some-root (table_of g.tree.tables.items (depth + 1, 0)) w

blank-at : (depth : ℕ) (gs : List GhostGuest) (v : ℕ)
    → All (IsWhole depth) gs
    → (get_or (map guest_in gs) v no_guest).phase ≡ empty
    → get_or (map guest_in gs) v no_guest ≡ no_guest
blank-at depth [] v h e = refl
blank-at depth (x ∷ gs) zero h e = blank-one depth x x.phase refl (All-head (IsWhole depth) x gs h) e
blank-at depth (x ∷ gs) (suc v) h e = blank-at depth gs v (All-tail (IsWhole depth) x gs h) e

root-at : (depth : ℕ) (gs : List GhostGuest) (v : ℕ)
    → All (IsWhole depth) gs
    → ((get_or (map guest_in gs) v no_guest).phase ≡ empty → ⊥)
    → (root : ℕ) × ((get_or (map guest_in gs) v no_guest).tree.table (depth + 1, 0) ≡ Some root)
root-at depth [] v h n = absurd (n refl)
root-at depth (x ∷ gs) zero h n = root-one depth x x.phase refl (All-head (IsWhole depth) x gs h) n
root-at depth (x ∷ gs) (suc v) h n = root-at depth gs v (All-tail (IsWhole depth) x gs h) n

pub guests-fit : (g : GhostLists)
    → All (IsWhole (layout_of g.layout).depth) g.guests.items
    → GuestsFit (layout_of g.layout) (contents_in g)
guests-fit g h =
    record {
      blank = λ v e. blank-at (layout_of g.layout).depth g.guests.items v h e;
      rooted = λ v n. root-at (layout_of g.layout).depth g.guests.items v h n;
    }
