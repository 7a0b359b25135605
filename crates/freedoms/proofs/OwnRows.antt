-- The rows that a made step finds again, with and without tables and free frames, and so all that it leaves.
use Rattle.std.proofs.Common.{◌≡◌, ℕ, zero, suc, refl, ap, sym, ◌∙◌, arith}
use Rattle.std.specs.Prelude.{Bool, true, false, ◌&&◌, ◌==◌, Option, Some, None, if◌then◌else◌}
use mathlib.Core.Path.{fun_ext}
use Rattle.page_state.proofs.Common.{and-both, same2, same3}
use Rattle.page_state.specs.Layouts.{Layout, is_memory}
use Rattle.page_state.specs.Search.{first_below}
use Rattle.page_state.specs.Trees.{Tree}
use Rattle.page_state.specs.declared.row.Row.{Row}
use Rattle.page_state.specs.declared.row.Usage.{Usage}
use Rattle.page_state.specs.declared.row.Usage.TheVariants.{Plain, SharedPool, VmPool, InHand}
use Rattle.call_table.specs.declared.step.Step.{Step}
use Rattle.reference_model.proofs.conditions.Tables.{uses_of, uses-some}
use Rattle.reference_model.specs.declared.changes.Changes.{Changes}
use Rattle.reference_model.specs.help.Conditions.{in_shared, one, table_uses, shared_uses, guest_uses}
use Rattle.reference_model.specs.model.Owner.{owner_by, lent_to, is_in_shared_pool, vm_pool_of, holding_cpu, usage_of, row_of}
use Rattle.reference_model.specs.model.Parts.{uses_shared}
use Rattle.reference_model.specs.model.Rule.{Rule}
use Rattle.reference_model.specs.model.Rules.{names}
use Rattle.reference_model.specs.model.State.{Shared, Guest, Contents, no_shared, no_guest, blank}
use Rattle.reference_model.specs.model.Step.{rule_of, is_touched, own_row, with_rows, changed, made, shared_after}
use Rattle.reference_model.specs.model.Used.{Used, used_of, put_back, guest_at, put_guest}
use Rattle.freedoms.specs.Ample.{asks_pool, rule_fails}
use Rattle.freedoms.specs.AnyTrees.{LegalInAnyTrees, IsInside}
use Rattle.freedoms.specs.OwnTables.{bare_used, bare_shared, bare_guest, without_tables}
use Rattle.freedoms.proofs.Bare.{rule-bare, changed-bare, put-bare}
use Rattle.freedoms.proofs.Gone.{HasNone, IsApart, IsClear, pool_holds, guest_holds, still-apart, after-brings, count-none}
use Rattle.freedoms.proofs.Loose.{is_pooled, pooled-shared, pooled-vm, loose}

-- the row from scratch by its parts

abbrev row_with : Layout → Contents → ℕ → Usage → Row
row_with l s f usage =
    record { owner = record { 0 = owner_by l s f (s.shared.host.map f) }; lent = lent_to l s f; usage = usage }

abbrev pub use_with : Bool → Option ℕ → Option ℕ → Usage
use_with pool vm cpu = elim pool [
  | true ↦ SharedPool
  | false ↦ elim vm [ Some v ↦ VmPool v | None ↦ elim cpu [ Some c ↦ InHand c | None ↦ Plain ] ]
]

-- two states that differ in tables and free frames alone, and hold the frame for the same
row-alike : (l : Layout) (s t : Contents) (f : ℕ)
    → without_tables s ≡ without_tables t
    → is_in_shared_pool l s f ≡ is_in_shared_pool l t f
    → vm_pool_of l s f ≡ vm_pool_of l t f
    → row_of l s f ≡ row_of l t f
unfolding row_of
row-alike l s t f e pool vm =
    let same : usage_of l s f ≡ usage_of l t f = same3 use_with pool vm (ap (λ (u : Contents). holding_cpu l u f) e) in
    ap (row_with l (without_tables s) f) same ∙ ap (λ (u : Contents). row_with l u f (usage_of l t f)) e

-- a part of a state that a call uses, and a blank one

pub pick-same : (l : Layout) (f : ℕ) (b : Bool) (x y : Shared)
    → pool_holds l x f ≡ false
    → pool_holds l y f ≡ false
    → pool_holds l (if b then x else no_shared) f ≡ pool_holds l (if b then y else no_shared) f
pick-same l f true x y p q = p ∙ sym q
pick-same l f false x y p q = refl

one-same : (l : Layout) (f : ℕ) (b : Bool) (g k : Guest)
    → guest_holds l g f ≡ guest_holds l k f
    → guest_holds l (if b then g else no_guest) f ≡ guest_holds l (if b then k else no_guest) f
one-same l f true g k e = e
one-same l f false g k e = refl

pub put-same : (l : Layout) (f : ℕ) (slot : Option ℕ) (g k : Guest)
    → guest_holds l g f ≡ guest_holds l k f
    → (v : ℕ)
    → guest_holds l (put_guest (λ u. no_guest) slot g v) f ≡ guest_holds l (put_guest (λ u. no_guest) slot k v) f
put-same l f None g k e v = refl
put-same l f (Some u) g k e v = one-same l f (v == u) g k e

-- the row that a call finds again
pub own-alike : (l : Layout) (cpu : ℕ) (slot : Option ℕ) (step : Step) (x y : Used) (f : ℕ)
    → bare_used x ≡ bare_used y
    → pool_holds l x.shared f ≡ false
    → pool_holds l y.shared f ≡ false
    → guest_holds l x.guest f ≡ guest_holds l y.guest f
    → own_row l cpu slot step x f ≡ own_row l cpu slot step y f
unfolding own_row put_back
own-alike l cpu slot step x y f e p q g =
    let n = names step in
    row-alike l (put_back n slot cpu blank x) (put_back n slot cpu blank y) f
    (put-bare n slot cpu blank x ∙ ap (put_back n slot cpu (without_tables blank)) e
    ∙ sym (put-bare n slot cpu blank y))
    (pick-same l f (uses_shared n slot) x.shared y.shared p q)
    (ap (first_below 64) (fun_ext (put-same l f slot x.guest y.guest g)))

-- a frame that is in no pool by its condition

pub none-of : (depth f : ℕ) (t : Tree) → IsInside depth t → table_uses depth t f ≡ 0 → HasNone t f
unfolding table_uses uses_of
none-of depth f t inside h b e = let some = uses-some depth f b t.table (inside b f e) e in absurd (omega arith)

one-none : (n : ℕ) (b : Bool) → n ≡ one b → b ≡ false → n ≡ 0
one-none n true h k = cc
one-none n false h k = h

-- a frame that isn't the Shared part's by its condition
pub apart-of : (l : Layout) (s : Contents) (legal : LegalInAnyTrees l s) (f : ℕ)
    → in_shared (legal.state.frames.condition f) ≡ false
    → IsApart s.shared f
apart-of l s legal f out =
    let none : shared_uses l.depth s.shared f ≡ 0 = one-none _ _ (legal.state.frames.held.shared f) out in
    record {
      free = count-none s.shared.free f (omega arith);
      host = none-of l.depth f s.shared.host (legal.state.inside zero) (omega arith);
      hyp = none-of l.depth f s.shared.hyp (legal.state.inside (suc zero)) (omega arith);
    }

module _ (l : Layout) (s : Contents) (legal : LegalInAnyTrees l s) (f : ℕ)
    (out : is_pooled (legal.state.frames.condition f) ≡ false) where
  shared-apart : IsApart s.shared f
  shared-apart = apart-of l s legal f (pooled-shared (legal.state.frames.condition f) out)

  guest-clear : (v : ℕ) → IsClear (s.guest v) f
  guest-clear v =
      let none : guest_uses l.depth (s.guest v) f ≡ 0 =
      one-none _ _ (legal.state.frames.held.vm v f) (pooled-vm (legal.state.frames.condition f) v out) in
      record {
        free = count-none (s.guest v).free f (omega arith);
        tree = none-of l.depth f (s.guest v).tree (legal.state.inside (suc (suc v))) (omega arith);
      }

pub nothing-apart : (f : ℕ) → IsApart no_shared f
nothing-apart f = record { free = refl; host = λ b e. cc; hyp = λ b e. cc }

pub nothing-clear : (f : ℕ) → IsClear no_guest f
nothing-clear f = record { free = refl; tree = λ b e. cc }

pub bare-apart : (x : Shared) (f : ℕ) → IsApart (bare_shared x) f
bare-apart x f = record { free = refl; host = λ b e. cc; hyp = λ b e. cc }

pub bare-clear : (g : Guest) (f : ℕ) → IsClear (bare_guest g) f
bare-clear g f = record { free = refl; tree = λ b e. cc }

pub used-apart : (f : ℕ) (b : Bool) (x : Shared) → IsApart x f → IsApart (if b then x else no_shared) f
used-apart f true x h = h
used-apart f false x h = nothing-apart f

abbrev pub with_row : Used → (ℕ → Row) → Used
with_row x row = record x { shared = record x.shared { row = row } }

abbrev pub choose : Bool → Row → Row → Row
choose b x z = elim b [ true ↦ x | false ↦ z ]

choose-same : (b : Bool) (x y z : Row) → (b ≡ true → x ≡ y) → choose b x z ≡ choose b y z
choose-same true x y z h = h refl
choose-same false x y z h = refl

module _ (l : Layout) (s : Contents) (legal : LegalInAnyTrees l s) (cpu : ℕ) (slot : Option ℕ) (step : Step) where
  abbrev x_of : Used
  x_of = used_of (names step) slot cpu s

  used-clear : (slot : Option ℕ) (f : ℕ)
      → is_pooled (legal.state.frames.condition f) ≡ false
      → IsClear (guest_at s.guest slot) f
  used-clear None f out = nothing-clear f
  used-clear (Some v) f out = guest-clear l s legal f out v

  -- the row of a touched frame is found the same
  pub own-bare : (h : Changes) (f : ℕ)
      → is_pooled (legal.state.frames.condition f) ≡ false
      → own_row l cpu slot step (changed l.depth h x_of) f
      ≡ own_row l cpu slot step (changed l.depth h (bare_used x_of)) f
  unfolding changed used_of
  own-bare h f out =
      own-alike l cpu slot step (changed l.depth h x_of) (changed l.depth h (bare_used x_of)) f
      (changed-bare l.depth h x_of)
      (still-apart l l.depth h x_of.shared f
      (used-apart f (uses_shared (names step) slot) s.shared (shared-apart l s legal f out)))
      (still-apart l l.depth h (bare_shared x_of.shared) f (bare-apart x_of.shared f))
      (after-brings l h x_of.guest f (used-clear slot f out)
      ∙ sym (after-brings l h (bare_guest x_of.guest) f (bare-clear x_of.guest f)))

  pub rows-bare : (h : Changes)
      → ((f : ℕ) → is_memory l f ≡ true → is_touched h f ≡ true → is_pooled (legal.state.frames.condition f) ≡ false)
      → bare_used (with_rows l cpu slot step h (changed l.depth h x_of))
      ≡ bare_used (with_rows l cpu slot step h (changed l.depth h (bare_used x_of)))
  unfolding with_rows changed shared_after
  rows-bare h out =
      same2 with_row (changed-bare l.depth h x_of)
      (fun_ext
      (λ f. choose-same (is_memory l f && is_touched h f) (own_row l cpu slot step (changed l.depth h x_of) f)
      (own_row l cpu slot step (changed l.depth h (bare_used x_of)) f) (x_of.shared.row f)
      (λ e. let t = and-both (is_memory l f) (is_touched h f) e in own-bare h f (out f t.0 t.1))))

  -- what a made step leaves is the same but for tables and free frames
  pub made-bare : asks_pool step ≡ false
      → rule_fails l cpu slot step x_of ≡ None
      → bare_used (made l cpu slot step x_of) ≡ bare_used (made l cpu slot step (bare_used x_of))
  unfolding made
  made-bare asks passes =
      rows-bare (rule_of l cpu slot step x_of).changes (loose l s legal cpu step slot asks passes)
      ∙ ap (λ (r : Rule). bare_used (with_rows l cpu slot step r.changes (changed l.depth r.changes (bare_used x_of))))
      (sym (rule-bare l cpu slot step x_of asks))
