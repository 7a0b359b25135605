-- A legal state with another guest in a slot: the same but for tables and free frames, and it holds the same frames.
use Rattle.std.proofs.Common.{◌≡◌, ◌≢◌, ℕ, zero, suc, ◌+◌, ap, sym, ◌∙◌, subst}
use Rattle.std.specs.Prelude.{Bool, true, false, ◌==◌, Some, if◌then◌else◌}
use mathlib.Core.Path.{fun_ext}
use Rattle.page_state.specs.Layouts.{Layout}
use Rattle.reference_model.proofs.PutAt.{put_at-same}
use Rattle.reference_model.specs.claims.Sound.{StageFits, tree_at}
use Rattle.reference_model.specs.help.Conditions.{guest_uses, in_vm, one, GuestFits, IsMemoryLeaf}
use Rattle.reference_model.specs.model.State.{Contents, Guest, empty, no_guest, put_at}
use Rattle.freedoms.specs.AnyTrees.{HasRootAlone, IsInside, LegalInAnyTrees}
use Rattle.freedoms.specs.OwnTables.{OwnTables, bare_guest, without_tables}

-- what holds of each guest holds with another one in a slot
put-all : (P : Guest → Type 0) (s : ℕ → Guest) (v : ℕ) (g : Guest)
    → P g
    → ((u : ℕ) → P (s u))
    → (u : ℕ)
    → P (put_at s v g u)
put-all P s v g here each u = go (u == v)
  where
    go : (b : Bool) → P (if b then g else s u)
    go true = here
    go false = each u

-- the other guest
pub record Replaces (l : Layout) (s : Contents) (v : ℕ) (g : Guest) : Type 0 where
  pub bare : bare_guest g ≡ bare_guest (s.guest v)
  pub uses : (f : ℕ) → guest_uses l.depth g f ≡ guest_uses l.depth (s.guest v) f
  pub inside : IsInside l.depth g.tree
  pub root : ℕ
  pub rooted : g.tree.table (l.depth + 1, 0) ≡ Some root
  pub emptied : HasRootAlone l.depth g.tree

abbrev pub replaced : Contents → ℕ → Guest → Contents
replaced s v g = record s { guest = put_at s.guest v g }

module _ (l : Layout) (s : Contents) (v : ℕ) (g : Guest) (legal : LegalInAnyTrees l s)
    (alive : (s.guest v).phase ≢ empty) (h : Replaces l s v g) where
  abbrev t : Contents
  t = replaced s v g

  same : {X : Type 0} (f : Guest → X) → f g ≡ f (s.guest v) → (u : ℕ) → f (t.guest u) ≡ f (s.guest u)
  same f e u = put_at-same f s.guest v g e u

  held-vm : (u f : ℕ) → guest_uses l.depth (t.guest u) f ≡ one (in_vm u (legal.state.frames.condition f))
  held-vm u f =
      same (λ (k : Guest). guest_uses l.depth k f) (h.uses f) u ∙ legal.state.frames.held.vm u f

  map-same : (u p : ℕ) → (t.guest u).tree.map p ≡ (s.guest u).tree.map p
  map-same u p = same (λ k. k.tree.map p) (ap (λ (k : Guest). k.tree.map p) h.bare) u

  phase-here : g.phase ≡ (s.guest v).phase
  phase-here = ap (λ (k : Guest). k.phase) h.bare

  phase-same : (u : ℕ) → (t.guest u).phase ≡ (s.guest u).phase
  phase-same u = same (λ k. k.phase) phase-here u

  inside-guest : (u : ℕ) → IsInside l.depth (t.guest u).tree
  inside-guest =
      put-all (λ k. IsInside l.depth k.tree) s.guest v g h.inside (λ k. legal.state.inside (suc (suc k)))

  inside-there : (u : ℕ) → IsInside l.depth (tree_at t u)
  inside-there zero = legal.state.inside zero
  inside-there (suc zero) = legal.state.inside (suc zero)
  inside-there (suc (suc u)) = inside-guest u

  pub legal-there : LegalInAnyTrees l t
  legal-there = record {
    state = record {
      frames = record {
        condition = legal.state.frames.condition;
        of_layout = legal.state.frames.of_layout;
        maps = record {
          host = legal.state.frames.maps.host;
          hyp = legal.state.frames.maps.hyp;
          hyp_below = legal.state.frames.maps.hyp_below;
          guest =
              λ u p. subst (GuestFits legal.state.frames.condition u p) (sym (map-same u p))
              (legal.state.frames.maps.guest u p);
          guest_has =
              λ u p f state k. subst (IsMemoryLeaf f state) (sym (map-same u p))
              (legal.state.frames.maps.guest_has u p f state k);
        };
        held = record { shared = legal.state.frames.held.shared; vm = held-vm; hand = legal.state.frames.held.hand };
        rows = legal.state.frames.rows;
      };
      inside = inside-there;
      guest_parts = record {
        blank =
            put-all (λ k. k.phase ≡ empty → k ≡ no_guest) s.guest v g
            (λ e. absurd (alive (sym phase-here ∙ e))) legal.state.guest_parts.blank;
        rooted =
            put-all (λ k. k.phase ≢ empty → (r : ℕ) × (k.tree.table (l.depth + 1, 0) ≡ Some r)) s.guest v g
            (λ e. (h.root, h.rooted)) legal.state.guest_parts.rooted;
      };
      slots = record {
        agree = record {
          loads = record { loaded = legal.state.slots.agree.loads.loaded; loads = legal.state.slots.agree.loads.loads };
          guests = record {
            open_live = λ u k. phase-same u ∙ legal.state.slots.agree.guests.open_live u k;
            vacant_empty = λ u k. phase-same u ∙ legal.state.slots.agree.guests.vacant_empty u k;
            same_vm = λ u n. let k = legal.state.slots.agree.guests.same_vm u (λ e. n (phase-same u ∙ e)) in
                record {
                  generation = same (λ j. j.generation) (ap (λ (k : Guest). k.generation) h.bare) u ∙ k.generation;
                  kind = same (λ j. j.kind) (ap (λ (k : Guest). k.kind) h.bare) u
                      ∙ k.kind;
                };
          };
          tickets = record {
            ticket = λ c k e. let o = legal.state.slots.agree.tickets.ticket c k e in
                record {
                  fits = subst (StageFits k.stage (s.vms.slot k.vm.slot).stand)
                      (sym (phase-same k.vm.slot)) o.fits;
                  generation = o.generation;
                  kind = o.kind;
                };
            reserved_once = legal.state.slots.agree.tickets.reserved_once;
            closing_once = legal.state.slots.agree.tickets.closing_once;
          };
        };
        few_slots = legal.state.slots.few_slots;
        few_vcpus = legal.state.slots.few_vcpus;
        some_hand = legal.state.slots.some_hand;
      };
    };
    emptied = put-all (λ k. HasRootAlone l.depth k.tree) s.guest v g h.emptied legal.emptied;
  }

  pub same-there : OwnTables s t
  same-there =
      ap (λ (k : ℕ → Guest). record (without_tables s) { guest = k }) (fun_ext (λ u. sym (same bare_guest h.bare u)))
