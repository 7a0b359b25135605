-- What a page has, as an entry of the model.
use Rattle.std.specs.Prelude.{ℕ, ◌-◌, ◌==◌, Bool, List, Option, Some, None, if◌then◌else◌}
use Rattle.std.specs.List.{list_any}
use Rattle.descriptor.specs.declared.State.{State}
use Rattle.descriptor.specs.declared.State.TheVariants.{Owned}
use Rattle.page_state.specs.declared.entry.Entry.{Entry}
use Rattle.page_state.specs.declared.entry.Entry.TheVariants.{Unmapped, Leaf}
use Rattle.page_state.specs.declared.entry.Run.{Run}
use Rattle.page_state.specs.declared.entry.Target.{Target}
use Rattle.page_state.specs.Entries.{entry_of_word}
use Rattle.page_state.specs.Map.{Map, is_within}
use Rattle.reference_model.specs.model.State.{Contents}
use Rattle.run_list.specs.declared.run.Run.{Run as ListRun}
use Rattle.table_words.specs.declared.profile.Profile.{Profile}
use Rattle.walked_tables.specs.declared.said.Said.{Said}
use Rattle.c_profiles.specs.Words.{desc_by}
use Rattle.c_trees.specs.declared.root.PlainRange.{PlainRange}

abbrev pub state_in : Entry → State
state_in (Leaf frame prot kind state) = state
state_in other = Owned

-- the state of a leaf whose word says none: that of the kept leaf of its page, if there is one
abbrev pub state_for : Profile → Entry → State
state_for profile kept = if profile.has_states then Owned else state_in kept

-- the entry of a page, of what it has and of the kept entry
abbrev pub entry_by : Profile → Entry → Option Said → Entry
entry_by profile kept None = Unmapped
entry_by profile kept (Some said) =
    entry_of_word (desc_by profile (state_for profile kept) said.0)

-- those of all pages
abbrev pub entries_by : Profile → Map → (ℕ → Option Said) → Map
entries_by profile kept said page = entry_by profile (kept page) (said page)

-- a run of a map as one of a list
abbrev pub run_in : Run → ListRun Target
run_in r = record { pages = r.pages; value = r.target }

-- a page is in one of the ranges
abbrev pub is_skipped : List PlainRange → ℕ → Bool
is_skipped ranges page = list_any (λ r. is_within r.first r.count page) ranges

-- a map that has nothing there
abbrev pub without : List PlainRange → Map → Map
without ranges m page = if is_skipped ranges page then Unmapped else m page

-- the kept map of a tree: 0 the host's, 1 the hypervisor's, 2 + v that of the guest in slot v
abbrev pub kept_map : Contents → ℕ → Map
kept_map kept n =
    if n == 0 then kept.shared.host.map
    else (if n == 1 then kept.shared.hyp.map else (kept.guest (n - 2)).tree.map)
