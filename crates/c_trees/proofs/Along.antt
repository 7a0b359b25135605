-- Entries by what pages have and by kept entries, along pages on which both go on.
use Rattle.std.proofs.Common.{◌≡◌, ℕ, ◌+◌, ◌-◌, ◌^◌, ◌<◌, ◌≤◌, true, false, Bool, List, Option, Some, None, refl, sym, ap, subst, ◌∙◌, arith}
use Rattle.std.specs.Prelude.{IfSome, nat_lt, if◌then◌else◌}
use Rattle.std.specs.Option.{ForSome}
use Rattle.std.proofs.lemmas.Bool.Decides.{nat_tests}
use Rattle.descriptor.specs.declared.Desc.{Desc}
use Rattle.descriptor.specs.declared.Desc.TheVariants as desc
use Rattle.descriptor.specs.declared.Frame.{Frame}
use Rattle.descriptor.specs.declared.Kind.{Kind}
use Rattle.descriptor.specs.declared.Owner.{Owner}
use Rattle.descriptor.specs.declared.Prot.{Prot}
use Rattle.descriptor.specs.declared.State.{State}
use Rattle.descriptor.specs.declared.State.TheVariants.{Owned}
use Rattle.page_state.specs.declared.entry.Entry.{Entry}
use Rattle.page_state.specs.declared.entry.Entry.TheVariants as entry
use Rattle.page_state.specs.declared.entry.Target.{Target}
use Rattle.page_state.specs.Entries.{advance, advance_target, entry_of, entry_of_word, target_of}
use Rattle.page_state.specs.Map.{Map, is_within, update}
use Rattle.page_state.proofs.Cases.{by_lt}
use Rattle.page_state.proofs.Common.{if-true, if-false}
use Rattle.page_state.proofs.Entries.{entry_advanced}
use Rattle.run_list.specs.Runs.{option_advance}
use Rattle.run_list.specs.Targets.{HasFrameBelow}
use Rattle.table_words.specs.declared.profile.InvalidForm.{InvalidForm}
use Rattle.table_words.specs.declared.profile.InvalidForm.TheVariants.{OwnerByte, OwnerOrLock, Lock, Donation, Poison, ClearedLeaf}
use Rattle.table_words.specs.declared.profile.Profile.{Profile}
use Rattle.table_words.specs.declared.word.Decoded.{Decoded}
use Rattle.table_words.specs.declared.word.Decoded.TheVariants.{Malformed, Unmapped, Annotated, Poisoned, Locked, Cleared, Leaf, Table}
use Rattle.table_words.specs.declared.word.Guest.{Guest}
use Rattle.table_words.specs.Entries.{kind_of, leaf_entry, prot_of}
use Rattle.walked_tables.specs.declared.said.Said.{Said}
use Rattle.walked_tables.specs.Values.{advance_decoded, advance_said, CanGo, CanGoOn}
use Rattle.c_profiles.specs.Words.{desc_by, or_malformed, owner_by_handle}
use Rattle.c_trees.specs.Entries.{entries_by, entry_by, state_for, state_in}

-- an annotation is the same on each page

if_still : (b : Bool) (o : Owner) (n : ℕ)
    → entry_of_word (if b then desc.Malformed else desc.Annotated o)
    ≡ advance (entry_of_word (if b then desc.Malformed else desc.Annotated o)) n
if_still true o n = refl
if_still false o n = refl

handle_still : (f : InvalidForm) (g : Guest) (n : ℕ)
    → entry_of_word (owner_by_handle f g) ≡ advance (entry_of_word (owner_by_handle f g)) n
handle_still OwnerByte g n = refl
handle_still OwnerOrLock g n = refl
handle_still Lock g n = refl
handle_still Donation g n = if_still (nat_lt g.handle 4096) (record { 0 = g.handle - 4094 }) n
handle_still Poison g n = refl
handle_still ClearedLeaf g n = refl

leaf_on : (o : Option Prot) (f : Frame) (k : Kind) (s : State) (n : ℕ)
    → entry_of_word (or_malformed (leaf_entry o (record { 0 = f.0 + n }) k s))
    ≡ advance (entry_of_word (or_malformed (leaf_entry o f k s))) n
leaf_on None f k s n = refl
leaf_on (Some p) f k s n = refl

word_on : (p : Profile) (s : State) (d : Decoded) (n : ℕ)
    → entry_of_word (desc_by p s (advance_decoded d n)) ≡ advance (entry_of_word (desc_by p s d)) n
word_on p s Malformed n = refl
word_on p s Unmapped n = refl
word_on p s (Annotated o None) n = refl
word_on p s (Annotated o (Some g)) n = handle_still p.invalid g n
word_on p s Poisoned n = refl
word_on p s Locked n = refl
word_on p s (Cleared m) n = refl
word_on p s (Leaf m) n = leaf_on (prot_of m.access m.execute) m.frame (kind_of m.memory) _ n
word_on p s (Table f) n = refl

state_on : (e : Entry) (n : ℕ) → state_in (advance e n) ≡ state_in e
state_on entry.Unmapped n = refl
state_on entry.Malformed n = refl
state_on (entry.Annotated o) n = refl
state_on (entry.Leaf f p k s) n = refl

pub entry_on : (p : Profile) (e : Entry) (o : Option Said) (n : ℕ)
    → entry_by p (advance e n) (option_advance advance_said o n) ≡ advance (entry_by p e o) n
entry_on p e None n = refl
entry_on p e (Some s) n =
    ap
    (λ t. entry_of_word (desc_by p (if p.has_states then Owned else t) (advance_decoded s.0 n)))
    (state_on e n)
    ∙ word_on p (state_for p e) s.0 n

pub kept_on : (o : Option Target) (n : ℕ) → entry_of (option_advance advance_target o n) ≡ advance (entry_of o) n
kept_on None n = refl
kept_on (Some t) n = entry_advanced t n

-- code reaches a leaf's frame

abbrev Reaches : Entry → ℕ → Type 0
Reaches e n = IfSome (target_of e) (λ v. HasFrameBelow v n)

reach_if : (b : Bool) (o : Owner) (n : ℕ) → Reaches (entry_of_word (if b then desc.Malformed else desc.Annotated o)) n
reach_if true o n = tt
reach_if false o n = tt

reach_handle : (f : InvalidForm) (g : Guest) (n : ℕ) → Reaches (entry_of_word (owner_by_handle f g)) n
reach_handle OwnerByte g n = tt
reach_handle OwnerOrLock g n = tt
reach_handle Lock g n = tt
reach_handle Donation g n = reach_if (nat_lt g.handle 4096) (record { 0 = g.handle - 4094 }) n
reach_handle Poison g n = tt
reach_handle ClearedLeaf g n = tt

reach_leaf : (o : Option Prot) (f : Frame) (k : Kind) (s : State) (n : ℕ)
    → f.0 + n ≤ 2 ^ 63
    → Reaches (entry_of_word (or_malformed (leaf_entry o f k s))) n
reach_leaf None f k s n h = tt
reach_leaf (Some p) f k s n h = h

reach_word : (p : Profile) (s : State) (d : Decoded) (n : ℕ) → CanGo d n → Reaches (entry_of_word (desc_by p s d)) n
reach_word p s Malformed n h = tt
reach_word p s Unmapped n h = tt
reach_word p s (Annotated o None) n h = tt
reach_word p s (Annotated o (Some g)) n h = reach_handle p.invalid g n
reach_word p s Poisoned n h = tt
reach_word p s Locked n h = tt
reach_word p s (Cleared m) n h = tt
reach_word p s (Leaf m) n h = reach_leaf (prot_of m.access m.execute) m.frame (kind_of m.memory) _ n h
reach_word p s (Table f) n h = tt

by_said : (p : Profile) (e : Entry) (o : Option Said) (n : ℕ)
    → ForSome o (λ s. CanGoOn s n)
    → Reaches (entry_by p e o) n
by_said p e None n h = tt
by_said p e (Some s) n h = reach_word p (state_for p e) s.0 n (h s refl)

pub reach_entry : (p : Profile) (e : Entry) (o : Option Said) (n : ℕ)
    → ForSome o (λ s. CanGoOn s n)
    → ForSome (target_of (entry_by p e o)) (λ v. HasFrameBelow v n)
reach_entry p e o n h t is = subst (λ x. IfSome x (λ v. HasFrameBelow v n)) is (by_said p e o n h)

-- a piece of pages along which both go on

within : (a n p : ℕ) → a ≤ p → p < a + n → is_within a n p ≡ true
within a n p h k = grind (arith, nat_tests)

before : (a n p : ℕ) → p < a → is_within a n p ≡ false
before a n p h = grind (arith, nat_tests)

behind : (a n p : ℕ) → a + n ≤ p → is_within a n p ≡ false
behind a n p h = grind (arith, nat_tests)

module _ (p : Profile) (kept : Map) (said : ℕ → Option Said) (found new : Map) (low high : ℕ) (own : Entry)
    (less : low < high) (is : own ≡ entry_by p (kept low) (said low))
    (laid : new ≡ update found low (high - low) own) where
  off : (q : ℕ) → is_within low (high - low) q ≡ false → new q ≡ found q
  off q h =
      ap (λ m. m q) laid
      ∙ if-false (is_within low (high - low) q) (advance own (q - low)) (found q) h

  on : (q : ℕ) → low ≤ q → q < high → new q ≡ advance own (q - low)
  on q h k =
      ap (λ m. m q) laid
      ∙ if-true (is_within low (high - low) q) (advance own (q - low)) (found q)
      (within low (high - low) q h (omega (arith, k, less)))

  pub front_piece : ((q : ℕ) → q < low → found q ≡ entries_by p kept said q)
      → ((q : ℕ) → low ≤ q → q < high → kept q ≡ advance (kept low) (q - low))
      → ((q : ℕ) → low ≤ q → q < high → said q ≡ option_advance advance_said (said low) (q - low))
      → (q : ℕ)
      → q < high
      → new q ≡ entries_by p kept said q
  front_piece old goes_kept goes_said q h =
      by_lt q low
      (λ l. off q (before low (high - low) q l) ∙ old q l)
      (λ g. on q g h ∙ ap (λ e. advance e (q - low)) is
      ∙ sym (entry_on p (kept low) (said low) (q - low))
      ∙ ap (λ e. entry_by p e (option_advance advance_said (said low) (q - low))) (sym (goes_kept q g h))
      ∙ ap (entry_by p (kept q)) (sym (goes_said q g h)))

  pub back_piece : ((q : ℕ) → low ≤ q → found q ≡ entry.Unmapped) → (q : ℕ) → high ≤ q → new q ≡ entry.Unmapped
  back_piece old q h = off q (behind low (high - low) q (omega (arith, h, less))) ∙ old q (omega (arith, h, less))
