-- Two seats of one CPU: no state under the rule has them.
use Rattle.std.proofs.Common.{◌≡◌, ℕ, ◌+◌, ◌<◌, true, refl, sym, ap, ◌∙◌, arith}
use mathlib.Core.Option.{some}
use lib.ListN.{get_elem?}
use Rattle.atomic_table.specs.Table.{Allows, Joins}
use Rattle.atomic_table.proofs.Lists.{set_else}
use Rattle.page_state.specs.declared.layout.Layout.{Layout as TheLayout}
use Rattle.part_table.specs.declared.rule.View.{View}
use Rattle.part_table.specs.Rule.{Hands, IsLawful, Seated, clash, nobody, nowhere}

module _ (A : Type 0) (key : TheLayout) where
  -- a seat's number is told by its CPU's
  pub clashes : (id other : ℕ) (v w : View A)
      → v.on ≡ true
      → w.on ≡ true
      → v.cpu ≡ w.cpu
      → Joins (IsLawful key) id v other w (clash v w) nobody
  clashes id other v w on_v on_w same s r here apart there =
      let there' : get_elem? s.views other ≡ some w = sym (set_else s.views id other (clash v w) apart) ∙ there in
      absurd
      (apart
      (sym ((r.each_seat other w there').seat on_w)
      ∙ (ap (λ n. n + 1) (sym same) ∙ (r.each_seat id v here).seat on_v)))

  -- no layout without CPUs has a CPU's seat
  pub never_steps : (slots id i : ℕ) (c : Hands A) (f : ℕ → ℕ) (then : ℕ → Seated A → Type 0)
      → Allows (IsLawful key) slots id (nowhere, c) i f then
  never_steps slots id i c f then s r _ here _ =
      let k = r.each_seat id nowhere here in
      let none : 0 ≡ key.config.cpus = ap (λ (l : TheLayout). l.config.cpus) (k.layout refl) in
      let one : 0 < key.config.cpus = k.known refl in
      absurd (omega (arith, none, one))
