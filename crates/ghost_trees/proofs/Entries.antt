-- Targets of entries, and frames below 2^63.
use Rattle.std.proofs.Common.{◌≡◌, ℕ, ◌+◌, ◌≤◌, Some, None, sym, ap, ◌∙◌, arith}
use Rattle.page_state.specs.declared.entry.Entry.{Entry}
use Rattle.page_state.specs.declared.entry.Entry.TheVariants.{Unmapped, Malformed as MalformedEntry, Annotated as AnnotatedEntry, Leaf as LeafEntry}
use Rattle.page_state.specs.declared.entry.Target.{Target}
use Rattle.page_state.specs.Entries.{advance, entry_of_target, entry_of, target_of}
use Rattle.page_state.proofs.Entries.{entry_of-target_of}
use Rattle.ghost_trees.specs.Small.{HasLowFrames}

pub some_target : (e : Entry) (t : Target) → target_of e ≡ Some t → entry_of_target t ≡ e
some_target e t h = sym (ap entry_of h) ∙ entry_of-target_of e

pub no_target : (e : Entry) → target_of e ≡ None → e ≡ Unmapped
no_target e h = sym (entry_of-target_of e) ∙ ap entry_of h

-- frames of fewer pages, and of pages further on
pub low_fewer : (e : Entry) (m n : ℕ) → m ≤ n → HasLowFrames e n → HasLowFrames e m
low_fewer Unmapped m n h l = tt
low_fewer MalformedEntry m n h l = tt
low_fewer (AnnotatedEntry o) m n h l = tt
low_fewer (LeafEntry f p k s) m n h l = omega arith

pub low_behind : (e : Entry) (m n : ℕ) → HasLowFrames e (m + n) → HasLowFrames (advance e m) n
low_behind Unmapped m n l = tt
low_behind MalformedEntry m n l = tt
low_behind (AnnotatedEntry o) m n l = tt
low_behind (LeafEntry f p k s) m n l = omega arith

pub low_before : (e : Entry) (m n : ℕ) → HasLowFrames (advance e m) n → HasLowFrames e (m + n)
low_before Unmapped m n l = tt
low_before MalformedEntry m n l = tt
low_before (AnnotatedEntry o) m n l = tt
low_before (LeafEntry f p k s) m n l = omega arith
