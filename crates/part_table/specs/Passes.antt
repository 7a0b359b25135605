-- What contracts see of a CPU's pass.
use Rattle.std.specs.Prelude.{◌≡◌, ℕ, zero, suc, ◌<◌, ◌≤◌, true, length, List, [], ◌∷◌, filter, Option, Some, is_some, slice_get}
use Rattle.atomic_table.specs.Seated.{TableId}
use Rattle.page_state.specs.declared.layout.Layout.{Layout as TheLayout}
use Rattle.part_table.specs.Parts.{parts}
use Rattle.part_table.specs.declared.rule.Begun.{Begun}
use Rattle.part_table.specs.declared.rule.Opening.{Opening}
use Rattle.part_table.specs.Beginnings.{begun_in, own_in}
use Rattle.part_table.specs.Rule.{Hands, Seated, held_at}
use Rattle.part_table.specs.Known.{Known}

-- a pass: its table, all that it knows, and the numbers of the parts that it holds
pub record Pass : Type 0 where
  pub table : TableId
  pub knows : Known
  pub holds : List ℕ

abbrev pub numbers_below : ℕ → List ℕ
numbers_below zero = []
numbers_below (suc n) = n ∷ numbers_below n

-- the numbers of the parts that are held
unfoldable pub numbers_held : {A : Type 0} → Hands A → List ℕ
numbers_held h = filter (λ k. is_some (held_at h k)) (numbers_below parts)

-- a table of parts: its identity, its layout, and the state that it begins with
pub record Opened : Type 0 where
  pub table : TableId
  pub layout : TheLayout
  pub begun : Begun

abbrev pub opened_as : TableId → TheLayout → Begun → Opened
opened_as table l b = record { table = table; layout = l; begun = b }

-- the table that an opening describes
abbrev pub opened_in : {A : Type 0} → TableId → Opening A → Opened
opened_in table k = opened_as table k.layout (begun_in k)

-- what a CPU's pass knows before its first call
abbrev pub first_known : Opened → ℕ → Known
first_known t cpu =
    record { layout = t.layout; cpu = cpu; own = own_in t.begun cpu; seen = []; tries = [] }

-- and the pass
abbrev pub first_pass : Opened → ℕ → Pass
first_pass t cpu = record { table = t.table; knows = first_known t cpu; holds = [] }

-- each of the first n CPUs has its pass at its place, before its first call
abbrev pub AreFirst : Opened → ℕ → List (Option Pass) → Type 0
AreFirst t n passes =
    (length passes ≡ n) × ((c : ℕ) → c < n → slice_get passes c ≡ Some (Some (first_pass t c)))

-- the pass is of this table
pub record IsPassOf (t : Opened) (p : Pass) : Type 0 where
  pub table : p.table ≡ t.table
  pub layout : p.knows.layout ≡ t.layout

-- a pass of the table is at its CPU's place
abbrev pub IsThere : TableId → List (Option Pass) → ℕ → Type 0
IsThere table passes c =
    (p : Pass) × (slice_get passes c ≡ Some (Some p)) × (p.table ≡ table) × (p.knows.cpu ≡ c)

-- so it is for each CPU from c on, below n
abbrev pub AreHomeFrom : TableId → ℕ → ℕ → List (Option Pass) → Type 0
AreHomeFrom table n c passes = (j : ℕ) → c ≤ j → j < n → IsThere table passes j

-- the root's seat of an open table
pub record IsReady {A : Type 0} (table : TableId) (key : Opening A) (root_table : TableId)
    (root : ℕ) (me : Seated A) (layout : TheLayout) : Type 0 where
  pub words : table.words ≡ parts
  pub slots : table.slots ≡ parts
  pub key_is : key.layout ≡ layout
  pub same : root_table ≡ table
  pub first : root ≡ 0
  pub empty : me.1 ≡ []
  pub rooted : me.0.root ≡ true
  pub begun : me.0.begun ≡ begun_in key
  pub made : me.0.made ≡ layout.config.cpus
  pub none : me.0.ended ≡ []
