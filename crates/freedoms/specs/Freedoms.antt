-- More freedoms than own tables: a lazy host, any kind of a device's page, any name of a refusal;
-- and when a judge with these agrees.
use Rattle.std.specs.Prelude.{◌≡◌, ◌⊎◌, ℕ, Bool, true, false, not, Some, None, if◌then◌else◌}
use Rattle.descriptor.specs.declared.Kind.TheVariants.{Device}
use Rattle.call_table.specs.declared.reply.Refusal.{Refusal}
use Rattle.call_table.specs.declared.reply.Refusal.TheVariants.{Invalid, NoVm, Busy, Perm}
use Rattle.call_table.specs.declared.reply.Reply.{Reply}
use Rattle.call_table.specs.declared.reply.Reply.TheVariants.{Refused}
use Rattle.call_table.specs.declared.step.Step.{Step}
use Rattle.call_table.specs.declared.step.Step.TheVariants.{HostAbort, HostTranslate, HypTranslate, OwnerOf, GuestTranslate}
use Rattle.page_state.specs.declared.entry.Entry.{Entry}
use Rattle.page_state.specs.declared.entry.Entry.TheVariants.{Unmapped, Leaf}
use Rattle.page_state.specs.EntryTests.{is_unmapped}
use Rattle.page_state.specs.Layouts.{Layout}
use Rattle.page_state.specs.Regions.{region_of, is_memory_kind}
use Rattle.page_state.specs.Trees.{no_tree}
use Rattle.reference_model.specs.model.SharedRules.{abort_leaf}
use Rattle.reference_model.specs.model.State.{Contents}
use Rattle.freedoms.specs.declared.Freedoms.{Freedoms}
use Rattle.freedoms.specs.Ample.{is_done, StepsAmply}
use Rattle.freedoms.specs.AnyTrees.{LegalInAnyTrees}
use Rattle.freedoms.specs.OwnTables.{OwnTables, bare_shared, without_tables}

-- the host's entry of its own page: the one that host_abort maps there
abbrev pub own_entry : Layout → ℕ → Entry
own_entry l p = elim (region_of l.memory p) [ Some r ↦ abort_leaf r p | None ↦ Unmapped ]

-- an entry as if the host had touched the page
abbrev pub touched_entry : Layout → ℕ → Entry → Entry
touched_entry l p e = if is_unmapped e then own_entry l p else e

-- a page of a device
abbrev pub is_device : Layout → ℕ → Bool
is_device l p = elim (region_of l.memory p) [ Some r ↦ not (is_memory_kind r.kind) | None ↦ false ]

-- a leaf as one of a device
abbrev pub as_device : Entry → Entry
as_device (Leaf frame prot kind state) = Leaf frame prot Device state
as_device other = other

-- an entry of a device's page as one of a device
abbrev pub kind_entry : Layout → ℕ → Entry → Entry
kind_entry l p e = if is_device l p then as_device e else e

-- the host's entry of a page, as far as the freedoms leave it to the model
abbrev pub view_entry : Freedoms → Layout → ℕ → Entry → Entry
view_entry w l p e =
    let k = if w.any_kind then kind_entry l p e else e in
    if w.lazy_host then touched_entry l p k else k

-- a state, as far as the freedoms leave it to the model
abbrev pub view : Freedoms → Layout → Contents → Contents
view w l s =
    record (without_tables s) {
      shared = record (bare_shared s.shared) {
        host = record {
          map = λ p. view_entry w l p (s.shared.host.map p);
          table = no_tree.table;
        };
      };
    }

-- two states that differ as the freedoms allow
abbrev pub Alike : Freedoms → Layout → Contents → Contents → Type 0
Alike w l s t = view w l s ≡ view w l t

-- a refusal by a rule's test
abbrev pub is_test : Refusal → Bool
is_test Invalid = true
is_test NoVm = true
is_test Busy = true
is_test Perm = true
is_test other = false

-- a given reply counts as the model's: it is the same, or, with the freedom of names, any refusal
-- if a rule's test refuses
abbrev pub CountsAs : Freedoms → Reply → Reply → Type 0
CountsAs w told said =
    (said ≡ told)
    ⊎ ((w.any_refusal ≡ true)
    × ((why : Refusal) × (told ≡ Refused why) × (is_test why ≡ true))
    × ((why : Refusal) × (said ≡ Refused why)))

-- a step that only reads
abbrev pub is_read : Step → Bool
is_read (HostTranslate p) = true
is_read (HypTranslate p) = true
is_read (OwnerOf f) = true
is_read (GuestTranslate vm g) = true
is_read other = false

-- a step that depends on which of its own pages the host has
abbrev pub reads_host : Step → Bool
reads_host (HostAbort p) = true
reads_host (HostTranslate p) = true
reads_host other = false

-- a page that the host touched is mapped
abbrev pub Touches : Step → Reply → Contents → Type 0
Touches step reply after =
    (p : ℕ)
    → step ≡ HostAbort p
    → is_done reply ≡ true
    → is_unmapped (after.shared.host.map p) ≡ false

-- judged with freedoms: some legal state like the one before makes the step with a reply that the
-- given one counts as, to a state like the one after; a read is from the state itself, and a lazy
-- host maps the page that it touched
pub record JudgedWith (w : Freedoms) (l : Layout) (before : Contents) (cpu : ℕ) (step : Step)
    (reply : Reply) (after : Contents) : Type 0 where
  pub state : Contents
  pub next : Contents
  pub told : Reply
  pub begins : Alike w l before state
  pub itself : is_read step ≡ true → OwnTables before state
  pub legal : LegalInAnyTrees l state
  pub steps : StepsAmply l state cpu step told next
  pub says : CountsAs w told reply
  pub ends : Alike w l next after
  pub mapped : w.lazy_host ≡ true → Touches step reply after

-- the judgement that a program computes: the state before, as far as the freedoms fix it, makes the
-- step, and the result equals the state after as far as they fix that
pub record IsJudgedInView (w : Freedoms) (l : Layout) (before : Contents) (cpu : ℕ) (step : Step)
    (reply : Reply) (after : Contents) : Type 0 where
  pub next : Contents
  pub told : Reply
  pub steps : StepsAmply l (view w l before) cpu step told next
  pub says : CountsAs w told reply
  pub ends : Alike w l next after

-- no freedom but own tables
abbrev pub no_more : Freedoms
no_more = record { lazy_host = false; any_kind = false; any_refusal = false }
