-- What the lists tell of a frame is the row from scratch.
use Rattle.std.proofs.Common.{◌≡◌, ℕ, zero, suc, ◌+◌, ◌||◌, Bool, true, false, length, Option, Some, None, refl, ap, ◌∙◌, arith}
use Rattle.std.specs.Prelude.{is_some}
use Rattle.std.specs.Option.{option_or}
use Rattle.descriptor.specs.declared.State.{State}
use Rattle.descriptor.specs.declared.State.TheVariants.{SharedOwned, SharedBorrowed}
use Rattle.page_state.specs.declared.entry.Entry.{Entry}
use Rattle.page_state.specs.declared.entry.Entry.TheVariants.{Unmapped, Malformed, Annotated, Leaf}
use Rattle.page_state.specs.declared.row.Lent.{Lent}
use Rattle.page_state.specs.declared.row.Row.{Row}
use Rattle.page_state.specs.declared.row.Usage.{Usage}
use Rattle.page_state.specs.declared.row.Usage.TheVariants.{Plain, SharedPool, VmPool, InHand}
use Rattle.page_state.specs.Layouts.{Layout}
use Rattle.page_state.specs.Runs.{map_of}
use Rattle.page_state.specs.Search.{first_from}
use Rattle.page_state.proofs.Common.{eq-other, same3}
use Rattle.reference_model.specs.model.Owner.{page_of, lent_at, is_free, is_table_frame, is_in_hand, is_lent_to_host, sharer, owner_by, lent_to, usage_of, row_of}
use Rattle.reference_model.specs.model.State.{Contents}
use Rattle.ghost_spec.specs.declared.lists.GhostLists.{GhostLists}
use Rattle.ghost_spec.specs.RowsFound.{owner_or}
use Rattle.ghost_spec.specs.States.{contents_in}
use Rattle.ghost_trees.specs.Trees.{tree_in_lists}
use Rattle.ghost_spec.specs.Views.{shared_in_lists}
use Rattle.ghost_rows.specs.RowsLaid.{first_some, guests_in, cpus_in, annotated_row, loan_at, guest_loan, guests_loan, any_loan, used_row, used_if, guest_use, hand_use, guests_use, hands_use, any_use}
use Rattle.ghost_rows.specs.ListedRows.{lent_told, usage_told, number_told, is_of_host, owner_told, row_told}

-- the first that a test takes

-- a number where a test holds there, and else what is found behind it
abbrev here_or : Bool → ℕ → Option ℕ → Option ℕ
here_or b from next = elim b [ true ↦ Some from | false ↦ next ]

-- lent to the guest of a slot
abbrev lent_by : (ℕ → Option ℕ) → Option ℕ → Option Row
lent_by page found = elim found [ Some v ↦ loan_at (2 + v) (page v) | None ↦ None ]

abbrev number_by : Option ℕ → ℕ
number_by found = elim found [ Some v ↦ 2 + v | None ↦ 0 ]

abbrev used_by : (ℕ → Usage) → Option ℕ → Option Row
used_by use_of found = elim found [ Some v ↦ Some (used_row (use_of v)) | None ↦ None ]

loan-step : (o next : Option ℕ) (from : ℕ) (rest : Option Row) (page : ℕ → Option ℕ)
    → o ≡ page from
    → rest ≡ lent_by page next
    → option_or (loan_at (2 + from) o) rest ≡ lent_by page (here_or (is_some o) from next)
loan-step None next from rest page e h = h
loan-step (Some p) next from rest page e h = ap (loan_at (2 + from)) e

loan-found : (from n : ℕ) (page : ℕ → Option ℕ)
    → first_some from n (λ v. loan_at (2 + v) (page v)) ≡ lent_by page (first_from from n (λ v. is_some (page v)))
unfolding first_some
loan-found from zero page = refl
loan-found from (suc n) page =
    loan-step (page from) (first_from (suc from) n (λ v. is_some (page v))) from
    (first_some (suc from) n (λ v. loan_at (2 + v) (page v))) page refl (loan-found (suc from) n page)

number-step : (o next : Option ℕ) (from : ℕ) (rest : Option Row)
    → number_told (lent_told rest) ≡ number_by next
    → number_told (lent_told (option_or (loan_at (2 + from) o) rest)) ≡ number_by (here_or (is_some o) from next)
number-step None next from rest h = h
number-step (Some p) next from rest h = refl

number-found : (from n : ℕ) (page : ℕ → Option ℕ)
    → number_told (lent_told (first_some from n (λ v. loan_at (2 + v) (page v))))
    ≡ number_by (first_from from n (λ v. is_some (page v)))
unfolding first_some
number-found from zero page = refl
number-found from (suc n) page =
    number-step (page from) (first_from (suc from) n (λ v. is_some (page v))) from
    (first_some (suc from) n (λ v. loan_at (2 + v) (page v))) (number-found (suc from) n page)

use-step : (b : Bool) (next : Option ℕ) (from : ℕ) (rest : Option Row) (use_of : ℕ → Usage)
    → rest ≡ used_by use_of next
    → option_or (used_if b (use_of from)) rest ≡ used_by use_of (here_or b from next)
use-step true next from rest use_of h = refl
use-step false next from rest use_of h = h

use-found : (from n : ℕ) (test : ℕ → Bool) (use_of : ℕ → Usage)
    → first_some from n (λ v. used_if (test v) (use_of v)) ≡ used_by use_of (first_from from n test)
unfolding first_some
use-found from zero test use_of = refl
use-found from (suc n) test use_of =
    use-step (test from) (first_from (suc from) n test) from
    (first_some (suc from) n (λ v. used_if (test v) (use_of v))) use_of (use-found (suc from) n test use_of)

-- loans

-- lent to a component at a page, where there is one
abbrev lent_on : ℕ → Option ℕ → Option Lent
lent_on n page = elim page [ Some p ↦ Some (lent_at n p) | None ↦ None ]

abbrev guest_lent : (ℕ → Option ℕ) → Option ℕ → Option Lent
guest_lent page found = elim found [ Some v ↦ lent_on (2 + v) (page v) | None ↦ None ]

abbrev lent_first : Option ℕ → Option ℕ → Option Lent → Option Lent
lent_first host hyp other =
    elim host [ Some p ↦ Some (lent_at 0 p) | None ↦ elim hyp [ Some p ↦ Some (lent_at 1 p) | None ↦ other ] ]

one-loan : (n : ℕ) (o : Option ℕ) → lent_told (loan_at n o) ≡ lent_on n o
one-loan n None = refl
one-loan n (Some p) = refl

guest-lent : (found : Option ℕ) (page : ℕ → Option ℕ) → lent_told (lent_by page found) ≡ guest_lent page found
guest-lent None page = refl
guest-lent (Some v) page = one-loan (2 + v) (page v)

lent-is : (host hyp : Option ℕ) (rest : Option Row) (other : Option Lent)
    → lent_told rest ≡ other
    → lent_told (option_or (loan_at 0 host) (option_or (loan_at 1 hyp) rest)) ≡ lent_first host hyp other
lent-is None None rest other h = h
lent-is None (Some p) rest other h = refl
lent-is (Some p) hyp rest other h = refl

not-one : (v : ℕ) (o : Option ℕ) → is_of_host (lent_on (2 + v) o) ≡ false
not-one v None = refl
not-one v (Some p) = eq-other (2 + v) 0 (λ (e : 2 + v ≡ 0). omega (arith, e))

not-host : (found : Option ℕ) (page : ℕ → Option ℕ) → is_of_host (guest_lent page found) ≡ false
not-host None page = refl
not-host (Some v) page = not-one v (page v)

host-is : (host hyp : Option ℕ) (other : Option Lent)
    → is_of_host other ≡ false
    → is_of_host (lent_first host hyp other) ≡ is_some host
host-is None None other h = h
host-is None (Some p) other h = refl
host-is (Some p) hyp other h = refl

-- owners

abbrev lender : Bool → ℕ → ℕ
lender b n = elim b [ true ↦ n | false ↦ 0 ]

lender-is : (lent shared : Option Row) (b : Bool) (n : ℕ)
    → is_of_host (lent_told lent) ≡ b
    → number_told (lent_told shared) ≡ n
    → owner_told None lent shared ≡ lender b n
lender-is lent shared b n h k = ap (λ (c : Bool). lender c (number_told (lent_told shared))) h ∙ ap (lender b) k

owner-is : (e : Entry) (lent shared : Option Row) (b : Bool) (n : ℕ)
    → is_of_host (lent_told lent) ≡ b
    → number_told (lent_told shared) ≡ n
    → owner_told (annotated_row e) lent shared ≡ owner_or (lender b n) e
owner-is Unmapped lent shared b n h k = lender-is lent shared b n h k
owner-is Malformed lent shared b n h k = lender-is lent shared b n h k
owner-is (Annotated o) lent shared b n h k = refl
owner-is (Leaf frame prot kind state) lent shared b n h k = lender-is lent shared b n h k

owner-by : (l : Layout) (s : Contents) (f : ℕ) (e : Entry)
    → owner_or (lender (is_lent_to_host l s f) (sharer l s f)) e ≡ owner_by l s f e
owner-by l s f Unmapped = refl
owner-by l s f Malformed = refl
owner-by l s f (Annotated o) = refl
owner-by l s f (Leaf frame prot kind state) = refl

-- uses

abbrev first_use : Bool → Option ℕ → Option ℕ → Usage
first_use b vm cpu =
    elim b [
      | true ↦ SharedPool
      | false ↦ elim vm [ Some v ↦ VmPool v | None ↦ elim cpu [ Some c ↦ InHand c | None ↦ Plain ] ]
    ]

use-is : (b : Bool) (vm cpu : Option ℕ)
    → usage_told (option_or (used_if b SharedPool) (option_or (used_by VmPool vm) (used_by InHand cpu)))
    ≡ first_use b vm cpu
use-is true vm cpu = refl
use-is false (Some v) cpu = refl
use-is false None (Some c) = refl
use-is false None None = refl

module _ (l : Layout) (g : GhostLists) (f : ℕ) (guests : length g.guests.items ≡ 64)
    (cpus : length g.cpus.items ≡ l.config.cpus) where
  abbrev page : State → ℕ → Option ℕ
  page s v = page_of l (guests_in g.guests.items v).tree.map s f

  abbrev loan : Option Row
  loan = any_loan l (map_of g.shared.host.runs.items) (map_of g.shared.hyp.runs.items) g.guests.items f

  guests-loan : (s : State)
      → guests_loan l g.guests.items s f ≡ first_some 0 64 (guest_loan l (guests_in g.guests.items) s f)
  guests-loan s = ap (λ (n : ℕ). first_some 0 n (guest_loan l (guests_in g.guests.items) s f)) guests

  lent-first : lent_told loan
      ≡ lent_first (page_of l (map_of g.shared.host.runs.items) SharedBorrowed f)
      (page_of l (map_of g.shared.hyp.runs.items) SharedBorrowed f)
      (guest_lent (page SharedBorrowed) (first_from 0 64 (λ v. is_some (page SharedBorrowed v))))
  lent-first =
      lent-is (page_of l (map_of g.shared.host.runs.items) SharedBorrowed f)
      (page_of l (map_of g.shared.hyp.runs.items) SharedBorrowed f) (guests_loan l g.guests.items SharedBorrowed f)
      (guest_lent (page SharedBorrowed) (first_from 0 64 (λ v. is_some (page SharedBorrowed v))))
      (ap lent_told (guests-loan SharedBorrowed ∙ loan-found 0 64 (page SharedBorrowed))
      ∙ guest-lent (first_from 0 64 (λ v. is_some (page SharedBorrowed v))) (page SharedBorrowed))

  lent : lent_told loan ≡ lent_to l (contents_in g) f
  lent = lent-first

  of-host : is_of_host (lent_told loan) ≡ is_lent_to_host l (contents_in g) f
  of-host = ap is_of_host lent-first
      ∙ host-is (page_of l (map_of g.shared.host.runs.items) SharedBorrowed f)
      (page_of l (map_of g.shared.hyp.runs.items) SharedBorrowed f)
      (guest_lent (page SharedBorrowed) (first_from 0 64 (λ v. is_some (page SharedBorrowed v))))
      (not-host (first_from 0 64 (λ v. is_some (page SharedBorrowed v))) (page SharedBorrowed))

  shared : number_told (lent_told (guests_loan l g.guests.items SharedOwned f)) ≡ sharer l (contents_in g) f
  shared =
      ap (λ (o : Option Row). number_told (lent_told o)) (guests-loan SharedOwned)
      ∙ number-found 0 64 (page SharedOwned)

  owner : owner_told (annotated_row (map_of g.shared.host.runs.items f)) loan
      (guests_loan l g.guests.items SharedOwned f)
      ≡ owner_by l (contents_in g) f (map_of g.shared.host.runs.items f)
  owner =
      owner-is (map_of g.shared.host.runs.items f) loan (guests_loan l g.guests.items SharedOwned f)
      (is_lent_to_host l (contents_in g) f) (sharer l (contents_in g) f) of-host shared
      ∙ owner-by l (contents_in g) f (map_of g.shared.host.runs.items f)

  abbrev used : Option Row
  used = any_use l (shared_in_lists g.shared) g.guests.items g.cpus.items f

  abbrev in_pool : ℕ → Bool
  in_pool v = is_free (guests_in g.guests.items v).free f || is_table_frame l (guests_in g.guests.items v).tree f

  abbrev in_hand : ℕ → Bool
  in_hand c = is_in_hand (cpus_in g.cpus.items c).hand f

  abbrev in_shared : Bool
  in_shared =
      is_free g.shared.free.items f || is_table_frame l (tree_in_lists g.shared.host) f
      || is_table_frame l (tree_in_lists g.shared.hyp) f

  pools : guests_use l g.guests.items f ≡ used_by VmPool (first_from 0 64 in_pool)
  pools =
      ap (λ (n : ℕ). first_some 0 n (guest_use l (guests_in g.guests.items) f)) guests ∙ use-found 0 64 in_pool VmPool

  hands : hands_use g.cpus.items f ≡ used_by InHand (first_from 0 l.config.cpus in_hand)
  hands =
      ap (λ (n : ℕ). first_some 0 n (hand_use (cpus_in g.cpus.items) f)) cpus ∙ use-found 0 l.config.cpus in_hand InHand

  uses : usage_told used ≡ usage_of l (contents_in g) f
  uses =
      ap
      (λ (o : Option Row). usage_told
      (option_or (used_if in_shared SharedPool) (option_or o (hands_use g.cpus.items f)))) pools
      ∙ ap
      (λ (o : Option Row). usage_told
      (option_or (used_if in_shared SharedPool) (option_or (used_by VmPool (first_from 0 64 in_pool)) o))) hands
      ∙ use-is in_shared (first_from 0 64 in_pool) (first_from 0 l.config.cpus in_hand)

  pub told-is : row_told (annotated_row (map_of g.shared.host.runs.items f)) loan
      (guests_loan l g.guests.items SharedOwned f) used
      ≡ row_of l (contents_in g) f
  unfolding row_of
  told-is =
      same3
      (λ (o : ℕ) (x : Option Lent) (u : Usage). record { owner = record { 0 = o }; lent = x; usage = u }) owner
      lent uses
