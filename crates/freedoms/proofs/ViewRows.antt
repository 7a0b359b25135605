-- The rows that a step finds again are the same of what freedoms leave of a state, and so is all that the step leaves.
use Rattle.std.proofs.Common.{◌≡◌, ℕ, refl, ap, sym, ◌∙◌, inl, inr}
use Rattle.std.specs.Prelude.{Bool, true, false, is_some, Option, Some, None, if◌then◌else◌}
use mathlib.Core.Path.{fun_ext}
use Rattle.descriptor.specs.declared.State.TheVariants.{SharedBorrowed}
use Rattle.page_state.proofs.Common.{same2, same3}
use Rattle.page_state.specs.EntryTests.{maps_frame}
use Rattle.page_state.specs.Layouts.{Layout, is_memory}
use Rattle.page_state.specs.Map.{Map}
use Rattle.page_state.specs.Search.{first_below}
use Rattle.page_state.specs.Geometries.{pages_below}
use Rattle.page_state.specs.Trees.{no_tree}
use Rattle.page_state.specs.declared.entry.Entry.{Entry}
use Rattle.page_state.specs.declared.entry.Entry.TheVariants.{Unmapped, Malformed, Annotated, Leaf}
use Rattle.page_state.specs.declared.row.Lent.{Lent}
use Rattle.page_state.specs.declared.row.Row.{Row}
use Rattle.page_state.specs.declared.row.Usage.{Usage}
use Rattle.call_table.specs.declared.reply.Reply.{Reply}
use Rattle.call_table.specs.declared.reply.Reply.TheVariants.{Done}
use Rattle.call_table.specs.declared.step.Step.{Step}
use Rattle.reference_model.specs.declared.changes.Changes.{Changes}
use Rattle.reference_model.specs.model.Owner.{page_of, lent_at, lent_to_guest, sharer, owner_by, lent_to, is_lent_to_host, is_in_shared_pool, vm_pool_of, holding_cpu, usage_of, row_of}
use Rattle.reference_model.specs.model.Parts.{Names, lacks_slot, uses_vms, uses_shared}
use Rattle.reference_model.specs.model.Rule.{Rule}
use Rattle.reference_model.specs.model.Rules.{rule, names, guest_slot}
use Rattle.reference_model.specs.model.State.{Shared, Guest, Contents, no_shared, blank, put_at}
use Rattle.reference_model.specs.model.Step.{first_test, rule_of, is_touched, own_row, with_rows, changed, made, shared_after}
use Rattle.reference_model.specs.model.Used.{Used, used_of, put_back, guest_at, put_guest}
use Rattle.freedoms.specs.Ample.{rule_fails, AnswersAmply}
use Rattle.freedoms.specs.declared.Freedoms.{Freedoms}
use Rattle.freedoms.specs.Freedoms.{view, Alike}
use Rattle.freedoms.specs.Laws.{StepsInView, ViewSteps}
use Rattle.freedoms.specs.OwnTables.{bare_shared, bare_guest, bare_used, without_tables}
use Rattle.freedoms.proofs.Bare.{if-over, put-over}
use Rattle.freedoms.proofs.Gone.{IsApart, IsClear, pool_holds, guest_holds, still-apart, after-brings}
use Rattle.freedoms.proofs.OwnRows.{use_with, pick-same, put-same, with_row, used-apart, nothing-clear, bare-apart, bare-clear}
use Rattle.freedoms.proofs.Twins.{chosen-same}
use Rattle.freedoms.proofs.Views.{Leaves, view-test, borrow-leaves, annot, annot-leaves, view-twice, view_shared, view_used, changed-alike, rule-alike}

-- a row by what tells it

abbrev built : Option ℕ → Option ℕ → ℕ → Option Lent → Usage → Row
built named page other lent usage = record {
  owner = record { 0 = elim named [ Some o ↦ o | None ↦ elim (is_some page) [ true ↦ other | false ↦ 0 ] ] };
  lent = elim page [ Some p ↦ Some (lent_at 0 p) | None ↦ lent ];
  usage = usage;
}

-- to whom others lend it
abbrev lent_else : Layout → Contents → ℕ → Option Lent
lent_else l s f =
    elim (page_of l s.shared.hyp.map SharedBorrowed f)
    [ Some page ↦ Some (lent_at 1 page) | None ↦ lent_to_guest l s f ]

owner-built : (l : Layout) (s : Contents) (f : ℕ) (e : Entry)
    → owner_by l s f e
    ≡ elim (annot e) [ Some o ↦ o | None ↦ elim (is_lent_to_host l s f) [ true ↦ sharer l s f | false ↦ 0 ] ]
owner-built l s f Unmapped = refl
owner-built l s f Malformed = refl
owner-built l s f (Annotated o) = refl
owner-built l s f (Leaf g q k z) = refl

abbrev row_owned : Layout → Contents → ℕ → ℕ → Row
row_owned l s f owner = record { owner = record { 0 = owner }; lent = lent_to l s f; usage = usage_of l s f }

row-built : (l : Layout) (s : Contents) (f : ℕ)
    → row_of l s f
    ≡ built (annot (s.shared.host.map f)) (page_of l s.shared.host.map SharedBorrowed f) (sharer l s f)
    (lent_else l s f) (usage_of l s f)
unfolding row_of
row-built l s f = ap (row_owned l s f) (owner-built l s f (s.shared.host.map f))

same5 : {A B C D E F : Type 0} (f : A → B → C → D → E → F) {a a' : A} {b b' : B} {c c' : C} {d d' : D} {e e' : E}
    → a ≡ a'
    → b ≡ b'
    → c ≡ c'
    → d ≡ d'
    → e ≡ e'
    → f a b c d e ≡ f a' b' c' d' e'
same5 f p q r s t = cc

-- a state without the host's tree

abbrev hostless_shared : Shared → Shared
hostless_shared x = record (bare_shared x) { host = no_tree }

abbrev hostless : Contents → Contents
hostless s = record (without_tables s) { shared = hostless_shared s.shared }

abbrev hostless_used : Used → Used
hostless_used x = record (bare_used x) { shared = hostless_shared x.shared }

put-hostless : (n : Names) (slot : Option ℕ) (cpu : ℕ) (s : Contents) (y : Used)
    → hostless (put_back n slot cpu s y) ≡ put_back n slot cpu (hostless s) (hostless_used y)
unfolding put_back
put-hostless n slot cpu s y =
    same2
    (λ (a : Shared) (g : ℕ → Guest). record (put_back n slot cpu (hostless s) (hostless_used y))
    { shared = a; guest = g })
    (if-over hostless_shared (uses_shared n slot) y.shared s.shared) (fun_ext (put-over slot s.guest y.guest))

module _ (w : Freedoms) (l : Layout) (x y : Used) (e : view_used w l x ≡ view_used w l y) where
  -- what freedoms leave alone is the same in both
  entry-same : {X : Type 0} (test : Entry → X)
      → Leaves l test
      → (p : ℕ)
      → test (x.shared.host.map p) ≡ test (y.shared.host.map p)
  entry-same test h p =
      sym (view-test w l test h p (x.shared.host.map p)) ∙ ap (λ (z : Used). test (z.shared.host.map p)) e
      ∙ view-test w l test h p (y.shared.host.map p)

  hostless-same : hostless_used x ≡ hostless_used y
  hostless-same = ap (λ (z : Used). record z { shared = record z.shared { host = no_tree } }) e

  page-same : (b : Bool) (f : ℕ)
      → page_of l (if b then x.shared else no_shared).host.map SharedBorrowed f
      ≡ page_of l (if b then y.shared else no_shared).host.map SharedBorrowed f
  page-same true f =
      ap (first_below (pages_below l.depth)) (fun_ext (entry-same (maps_frame f SharedBorrowed) (borrow-leaves l f)))
  page-same false f = refl

  annot-same : (b : Bool) (f : ℕ)
      → annot ((if b then x.shared else no_shared).host.map f) ≡ annot ((if b then y.shared else no_shared).host.map f)
  annot-same true f = entry-same annot (annot-leaves l) f
  annot-same false f = refl

  pub own-view : (cpu : ℕ) (slot : Option ℕ) (step : Step) (f : ℕ)
      → pool_holds l x.shared f ≡ false
      → pool_holds l y.shared f ≡ false
      → guest_holds l x.guest f ≡ guest_holds l y.guest f
      → own_row l cpu slot step x f ≡ own_row l cpu slot step y f
  unfolding own_row put_back
  own-view cpu slot step f p q g =
      let n = names step in
      let s = put_back n slot cpu blank x in
      let t = put_back n slot cpu blank y in
      let same : hostless s ≡ hostless t =
      put-hostless n slot cpu blank x ∙ ap (put_back n slot cpu (hostless blank)) hostless-same
      ∙ sym (put-hostless n slot cpu blank y) in
      let pool : is_in_shared_pool l s f ≡ is_in_shared_pool l t f =
      pick-same l f (uses_shared n slot) x.shared y.shared p q in
      let vm : vm_pool_of l s f ≡ vm_pool_of l t f =
      ap (first_below 64) (fun_ext (put-same l f slot x.guest y.guest g)) in
      let used : usage_of l s f ≡ usage_of l t f =
      same3 use_with pool vm (ap (λ (u : Contents). holding_cpu l u f) same) in
      row-built l s f
      ∙ same5 built (annot-same (uses_shared n slot) f) (page-same (uses_shared n slot) f)
      (ap (λ (u : Contents). sharer l u f) same) (ap (λ (u : Contents). lent_else l u f) same) used
      ∙ sym (row-built l t f)

-- what is used, without a frame
pub record IsBare (x : Used) : Type 0 where
  pub shared : (f : ℕ) → IsApart x.shared f
  pub guest : (f : ℕ) → IsClear x.guest f

module _ (w : Freedoms) (l : Layout) (cpu : ℕ) (slot : Option ℕ) (step : Step) (x z : Used) (a : IsBare x)
    (b : IsBare z) (e : view_used w l x ≡ view_used w l z) where
  own-same : (h : Changes) (f : ℕ)
      → own_row l cpu slot step (changed l.depth h x) f ≡ own_row l cpu slot step (changed l.depth h z) f
  unfolding changed
  own-same h f =
      own-view w l (changed l.depth h x) (changed l.depth h z) (changed-alike w l h x z e) cpu slot step f
      (still-apart l l.depth h x.shared f (a.shared f)) (still-apart l l.depth h z.shared f (b.shared f))
      (after-brings l h x.guest f (a.guest f) ∙ sym (after-brings l h z.guest f (b.guest f)))

  rows-same : (h : Changes)
      → view_used w l (with_rows l cpu slot step h (changed l.depth h x))
      ≡ view_used w l (with_rows l cpu slot step h (changed l.depth h z))
  unfolding with_rows changed shared_after
  rows-same h =
      same2 with_row (changed-alike w l h x z e)
      (fun_ext
      (λ f. chosen-same (is_memory l f) (is_touched h f) (own_row l cpu slot step (changed l.depth h x) f)
      (own_row l cpu slot step (changed l.depth h z) f) (x.shared.row f) (z.shared.row f)
      (ap (λ (u : Used). u.shared.row f) e) (λ k. own-same h f)))

  module _ (same : rule_of l cpu slot step x ≡ rule_of l cpu slot step z) where
    made-same : view_used w l (made l cpu slot step x) ≡ view_used w l (made l cpu slot step z)
    unfolding made
    made-same =
        rows-same (rule_of l cpu slot step x).changes
        ∙ ap (λ (r : Rule). view_used w l (with_rows l cpu slot step r.changes (changed l.depth r.changes z))) same

    pub twin-view : (reply : Reply) (y : Used)
        → AnswersAmply l cpu slot step x reply y
        → (u : Used) × AnswersAmply l cpu slot step z reply u × (view_used w l y ≡ view_used w l u)
    twin-view reply y p =
        let fails : rule_fails l cpu slot step x ≡ rule_fails l cpu slot step z =
        ap (λ (r : Rule). first_test r (lacks_slot (names step) slot)) same in
        elim p [
          | inl m ↦ (
            made l cpu slot step z,
            inl
                (record {
                  passes = sym fails ∙ m.passes;
                  reply_is = m.reply_is
                      ∙ ap (λ (r : Rule). Done r.changes.value) same;
                  next = refl;
                }),
            ap (view_used w l) m.next
                ∙ made-same,
          )
          | inr (inl m) ↦ (
            z,
            inr (inl (record { why = m.why; fail = sym fails ∙ m.fail; reply_is = m.reply_is; next = refl })),
            ap (view_used w l) m.next
                ∙ e,
          )
          | inr (inr m) ↦ (
            z,
            inr
                (inr
                (record {
                  passes = sym fails
                      ∙ m.passes;
                  grows = m.grows;
                  reply_is = m.reply_is;
                  next = refl;
                })),
            ap (view_used w l) m.next
                ∙ e,
          )
        ]

-- states

module _ (w : Freedoms) (l : Layout) (s : Contents) (n : Names) (slot : Option ℕ) (cpu : ℕ) where
  abbrev pub bare_of : Used
  bare_of = used_of n slot cpu (without_tables s)

  abbrev pub seen_of : Used
  seen_of = used_of n slot cpu (view w l s)

  seen-shared : (b : Bool)
      → view_shared w l (if b then bare_shared s.shared else no_shared)
      ≡ view_shared w l (if b then (view w l s).shared else no_shared)
  seen-shared true =
      ap (λ (m : Map). record (bare_shared s.shared) { host = record { map = m; table = no_tree.table } })
      (fun_ext (λ p. sym (view-twice w l p (s.shared.host.map p))))
  seen-shared false = refl

  pub seen : view_used w l bare_of ≡ view_used w l seen_of
  unfolding used_of
  seen = ap (λ (a : Shared). record (view_used w l bare_of) { shared = a }) (seen-shared (uses_shared n slot))

  clear-at : (slot : Option ℕ) (f : ℕ) → IsClear (guest_at (λ v. bare_guest (s.guest v)) slot) f
  clear-at None f = nothing-clear f
  clear-at (Some v) f = bare-clear (s.guest v) f

  pub bare-is : IsBare bare_of
  unfolding used_of
  bare-is =
      record {
        shared = λ f. used-apart f (uses_shared n slot) (bare_shared s.shared) (bare-apart s.shared f);
        guest = clear-at slot;
      }

  seen-apart : (f : ℕ) → IsApart (view w l s).shared f
  seen-apart f = record { free = refl; host = λ b e. cc; hyp = λ b e. cc }

  pub seen-is : IsBare seen_of
  unfolding used_of
  seen-is =
      record {
        shared = λ f. used-apart f (uses_shared n slot) (view w l s).shared (seen-apart f);
        guest = clear-at slot;
      }

  -- what is put back is seen the same
  put_seen : Used → Contents
  put_seen v =
      record {
        vms = if uses_vms n then v.vms
            else s.vms;
        shared = if uses_shared n slot then v.shared
            else view_shared w l s.shared;
        guest =
            put_guest (λ u. bare_guest (s.guest u)) slot v.guest;
        cpu = put_at s.cpu cpu v.cpu;
      }

  bare-put : (y : Used) → view w l (put_back n slot cpu (without_tables s) y) ≡ put_seen (view_used w l y)
  unfolding put_back put_seen
  bare-put y =
      same2 (λ (a : Shared) (g : ℕ → Guest). record (put_seen (view_used w l y)) { shared = a; guest = g })
      (if-over (view_shared w l) (uses_shared n slot) y.shared (bare_shared s.shared))
      (fun_ext (put-over slot (λ u. bare_guest (s.guest u)) y.guest))

  else-same : (b : Bool) (y : Shared)
      → (if b then view_shared w l y else view_shared w l (view w l s).shared)
      ≡ (if b then view_shared w l y else view_shared w l s.shared)
  else-same true y = refl
  else-same false y =
      ap (λ (m : Map). record (bare_shared s.shared) { host = record { map = m; table = no_tree.table } })
      (fun_ext (λ p. view-twice w l p (s.shared.host.map p)))

  seen-put : (y : Used) → view w l (put_back n slot cpu (view w l s) y) ≡ put_seen (view_used w l y)
  unfolding put_back put_seen
  seen-put y =
      same2 (λ (a : Shared) (g : ℕ → Guest). record (put_seen (view_used w l y)) { shared = a; guest = g })
      (if-over (view_shared w l) (uses_shared n slot) y.shared (view w l s).shared
      ∙ else-same (uses_shared n slot) y.shared)
      (fun_ext (put-over slot (λ u. bare_guest (s.guest u)) y.guest))

  pub put-alike : (y u : Used)
      → view_used w l y ≡ view_used w l u
      → Alike w l (put_back n slot cpu (without_tables s) y) (put_back n slot cpu (view w l s) u)
  put-alike y u e = bare-put y ∙ ap put_seen e ∙ sym (seen-put u)

-- a rule reads of what is used only what is seen of it
abbrev pub RuleIsSeen : Freedoms → Layout → ℕ → Step → Type 0
RuleIsSeen w l cpu step =
    (slot : Option ℕ) (x z : Used)
    → view_used w l x ≡ view_used w l z
    → rule_of l cpu slot step x ≡ rule_of l cpu slot step z

pub steps-seen : (w : Freedoms) (l : Layout) (s : Contents) (cpu : ℕ) (step : Step) (reply : Reply)
    → RuleIsSeen w l cpu step
    → StepsInView w l s cpu step reply
steps-seen w l s cpu step reply rule =
    let n = names step in
    let slot = guest_slot (s.cpu cpu) step in
    let x = used_of n slot cpu (without_tables s) in
    let z = used_of n slot cpu (view w l s) in
    let a = bare-is w l s n slot cpu in
    let b = seen-is w l s n slot cpu in
    let e = seen w l s n slot cpu in
    record {
      down = λ t p.
          let k = twin-view w l cpu slot step x z a b e (rule slot x z e) reply p.after p.answers in (
            put_back n slot cpu (view w l s) k.0,
            record { after = k.0; answers = k.1; next = refl },
            ap (view w l) p.next
                ∙ put-alike w l s n slot cpu p.after k.0 k.2,
          );
      up = λ u p.
          let k = twin-view w l cpu slot step z x b a (sym e) (rule slot z x (sym e)) reply p.after p.answers in (
            put_back n slot cpu (without_tables s) k.0,
            record { after = k.0; answers = k.1; next = refl },
            put-alike w l s n slot cpu k.0 p.after (sym k.2)
                ∙ sym (ap (view w l) p.next),
          );
    }

pub view_steps : ViewSteps
view_steps w l s cpu step reply asks reads =
    steps-seen w l s cpu step reply (λ slot x z e. rule-alike w l cpu slot step x z asks reads e)
