-- What an audit tells, from what its parts find.
use Rattle.std.proofs.Common.{◌≡◌, ℕ, ◌+◌, ◌<◌, ◌≤◌, List, Option, Some, None, length, get_or, refl, sym, ap, subst, ◌∙◌, arith}
use Rattle.std.specs.Prelude.{◌↔◌, IfOk, IfSome, MatchOption, Result, Ok, Err}
use Rattle.std.specs.declared.alloc.AllocError.{AllocError}
use Rattle.std.proofs.lemmas.List.{get_or-map}
use Rattle.page_state.specs.Layouts.{Layout}
use Rattle.page_state.specs.Trees.{Block}
use Rattle.reference_model.specs.help.Conditions.{Legal}
use Rattle.reference_model.specs.model.State.{Contents, no_guest}
use Rattle.ghost_trees.specs.Trees.{table_of}
use Rattle.ghost_spec.specs.declared.lists.GhostLists.{GhostLists}
use Rattle.ghost_spec.specs.declared.parts.GhostGuest.{GhostGuest}
use Rattle.ghost_spec.specs.States.{contents_in, guest_in}
use Rattle.ghost_judge.specs.Audits.{AuditAgrees}
use Rattle.ghost_judge.specs.declared.disagreement.TreeOf.TheVariants.{Host, Hyp, Guest}
use Rattle.ghost_judge.proofs.Judged.{below_next, everywhere, past_end}
use Rattle.table_audit.specs.declared.finding.Finding.{Finding}
use Rattle.table_audit.specs.declared.finding.Finding.TheVariants.{Differs, Table as TableDiffers, Unsound, Illegal}
use Rattle.table_audit.specs.Audited.{guest_table, AgreesWith, IsFirstFinding, IsFirstTable, IsFirstTableOf, IsGuestTable, IsUnlawful, IsWell, TablesAgree}
use Rattle.table_audit.specs.Tables.{IsTableFinding, IsTableReported}

module _ (s t : Contents) where
  pub host_first : (f : Finding) → IsTableFinding Host s.shared.host.table t.shared.host.table f → IsFirstTable s t f
  host_first (Differs d) h = absurd h
  host_first (Unsound why) h = absurd h
  host_first (Illegal why) h = absurd h
  host_first (TableDiffers tree height index x y) h =
      subst (λ o. IsFirstTableOf s t o (height, index) x y) (sym h.0) h.1

  pub hyp_first : (f : Finding)
      → s.shared.host.table ≡ t.shared.host.table
      → IsTableFinding Hyp s.shared.hyp.table t.shared.hyp.table f
      → IsFirstTable s t f
  hyp_first (Differs d) e h = absurd h
  hyp_first (Unsound why) e h = absurd h
  hyp_first (Illegal why) e h = absurd h
  hyp_first (TableDiffers tree height index x y) e h =
      subst (λ o. IsFirstTableOf s t o (height, index) x y) (sym h.0) (e, h.1)

  pub not_first : (f : Finding) → IsFirstTable s t f → TablesAgree s t → ⊥
  not_first (Differs d) h a = h
  not_first (Unsound why) h a = h
  not_first (Illegal why) h a = h
  not_first (TableDiffers Host height index x y) h a = h.apart (ap (λ g. g (height, index)) a.host)
  not_first (TableDiffers Hyp height index x y) h a = h.1.apart (ap (λ g. g (height, index)) a.hyp)
  not_first (TableDiffers (Guest v) height index x y) h a = h.3.apart (ap (λ g. g (height, index)) (a.guests v))

  pub tables_none : (o : Option Finding)
      → AuditAgrees s t
      → MatchOption o (TablesAgree s t) (IsFirstTable s t)
      → (o ≡ None) ↔ AgreesWith s t
  tables_none None a h = (λ e. record { audit = a; tables = h }, λ b. refl)
  tables_none (Some f) a h = (λ e. absurd (cc), λ b. absurd (not_first f h b.tables))

  as_first : (l : Layout) (f : Finding) → AuditAgrees s t → IsFirstTable s t f → IsFirstFinding l s t f
  as_first l (Differs d) a h = absurd h
  as_first l (Unsound why) a h = absurd h
  as_first l (Illegal why) a h = absurd h
  as_first l (TableDiffers tree height index x y) a h = (a, h)

  pub tables_first : (l : Layout) (o : Option Finding)
      → AuditAgrees s t
      → MatchOption o (TablesAgree s t) (IsFirstTable s t)
      → IfSome o (IsFirstFinding l s t)
  tables_first l None a h = tt
  tables_first l (Some f) a h = as_first l f a h

-- where all agrees, what is found is why the state isn't legal
lawful_none : (l : Layout) (s t : Contents) (o : Option Finding)
    → AgreesWith s t
    → (o ≡ None) ↔ Legal l s
    → (o ≡ None) ↔ IsWell l s t
lawful_none l s t o a h = (λ e. record { agrees = a; legal = h.0 e }, λ w. h.1 w.legal)

pub found_not_well : (l : Layout) (s t : Contents) (f : Finding)
    → (Some f ≡ None) ↔ AgreesWith s t
    → (Some f ≡ None) ↔ IsWell l s t
found_not_well l s t f h = (λ e. absurd (cc), λ w. h.1 w.agrees)

pub lawful_in : (l : Layout) (s t : Contents) (r : Result (Option Finding) AllocError)
    → AgreesWith s t
    → IfOk r (λ o. (o ≡ None) ↔ Legal l s)
    → IfOk r (λ o. (o ≡ None) ↔ IsWell l s t)
lawful_in l s t (Ok o) a h = lawful_none l s t o a h
lawful_in l s t (Err e) a h = tt

unlawful_one : (l : Layout) (s t : Contents) (f : Finding) → AgreesWith s t → IsUnlawful l s f → IsFirstFinding l s t f
unlawful_one l s t (Differs d) a h = absurd h
unlawful_one l s t (TableDiffers tree height index x y) a h = absurd h
unlawful_one l s t (Unsound why) a h = (a, h)
unlawful_one l s t (Illegal why) a h = (a, h)

unlawful_first : (l : Layout) (s t : Contents) (o : Option Finding)
    → AgreesWith s t
    → IfSome o (IsUnlawful l s)
    → IfSome o (IsFirstFinding l s t)
unlawful_first l s t None a h = tt
unlawful_first l s t (Some f) a h = unlawful_one l s t f a h

pub unlawful_in : (l : Layout) (s t : Contents) (r : Result (Option Finding) AllocError)
    → AgreesWith s t
    → IfOk r (λ o. IfSome o (IsUnlawful l s))
    → IfOk r (λ o. IfSome o (IsFirstFinding l s t))
unlawful_in l s t (Ok o) a h = unlawful_first l s t o a h
unlawful_in l s t (Err e) a h = tt

-- what a part has that found nothing
pub none_of : {X : Type 0} (A : Type 0) (P : X → Type 0) (o : Option X) → o ≡ None → MatchOption o A P → A
none_of A P None e h = h
none_of A P (Some x) e h = absurd (cc)

-- the tables of guests

pub table_at_guest : (guests : List GhostGuest) (v : ℕ) (d : GhostGuest)
    → v < length guests
    → guest_table guests v ≡ table_of (get_or guests v d).tree.tables.items
table_at_guest guests v d l = ap (λ g. g.tree.table) (get_or-map guest_in guests v d no_guest l)

module _ (kept walked : List GhostGuest) where
  pub guest_told : (v : ℕ) (d e : GhostGuest) (f : Finding)
      → v < length kept
      → v < length walked
      → ((w : ℕ) → w < v → guest_table kept w ≡ guest_table walked w)
      → IsTableFinding (Guest v) (table_of (get_or kept v d).tree.tables.items)
      (table_of (get_or walked v e).tree.tables.items) f
      → IsGuestTable kept walked f
  guest_told v d e (Differs x) k l before h = absurd h
  guest_told v d e (Unsound why) k l before h = absurd h
  guest_told v d e (Illegal why) k l before h = absurd h
  guest_told v d e (TableDiffers tree height index x y) k l before h =
      subst (λ o. IsGuestTable kept walked (TableDiffers o height index x y)) (sym h.0) (record {
        before = before;
        told =
            subst (λ (g : Block → Option ℕ). IsTableReported g (guest_table walked v) (height, index) x y)
            (sym (table_at_guest kept v d k))
            (subst
            (λ (g : Block → Option ℕ). IsTableReported (table_of (get_or kept v d).tree.tables.items) g
            (height, index) x y)
            (sym (table_at_guest walked v e l)) h.1);
      })

  pub guests_next : (v : ℕ) (d e : GhostGuest)
      → v < length kept
      → v < length walked
      → ((w : ℕ) → w < v → guest_table kept w ≡ guest_table walked w)
      → table_of (get_or kept v d).tree.tables.items ≡ table_of (get_or walked v e).tree.tables.items
      → (w : ℕ)
      → w < v + 1
      → guest_table kept w ≡ guest_table walked w
  guests_next v d e k l before h =
      below_next (guest_table kept) (guest_table walked) v before
      (table_at_guest kept v d k ∙ h ∙ sym (table_at_guest walked v e l))

  pub guests_all : (v : ℕ)
      → length kept ≤ v
      → length walked ≤ v
      → ((w : ℕ) → w < v → guest_table kept w ≡ guest_table walked w)
      → (w : ℕ)
      → guest_table kept w ≡ guest_table walked w
  guests_all v k l before = everywhere (guest_table kept) (guest_table walked) (λ b. None) v
      (λ u h. ap (λ g. g.tree.table) (past_end guest_in no_guest kept u (omega (arith, k, h))))
      (λ u h. ap (λ g. g.tree.table) (past_end guest_in no_guest walked u (omega (arith, l, h))))
      before

-- from the guests to all
module _ (kept walked : GhostLists)
    (host : (contents_in kept).shared.host.table ≡ (contents_in walked).shared.host.table)
    (hyp : (contents_in kept).shared.hyp.table ≡ (contents_in walked).shared.hyp.table) where
  by_guest : (f : Finding)
      → IsGuestTable kept.guests.items walked.guests.items f
      → IsFirstTable (contents_in kept) (contents_in walked) f
  by_guest (Differs d) h = absurd h
  by_guest (Unsound why) h = absurd h
  by_guest (Illegal why) h = absurd h
  by_guest (TableDiffers Host height index x y) h = absurd h
  by_guest (TableDiffers Hyp height index x y) h = absurd h
  by_guest (TableDiffers (Guest v) height index x y) h = (host, hyp, h.before, h.told)

  pub by_guests : (o : Option Finding)
      → MatchOption o ((v : ℕ) → guest_table kept.guests.items v ≡ guest_table walked.guests.items v)
      (IsGuestTable kept.guests.items walked.guests.items)
      → MatchOption o (TablesAgree (contents_in kept) (contents_in walked))
      (IsFirstTable (contents_in kept) (contents_in walked))
  by_guests None h = record { host = host; hyp = hyp; guests = h }
  by_guests (Some f) h = by_guest f h
