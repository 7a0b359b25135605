use Rattle.std.proofs.Common.{◌≡◌, ℕ, zero, suc, ◌+◌, ◌/◌, ◌%◌, ◌^◌, ◌<◌, ◌==◌, Bool, true, false, List, [], ◌∷◌, get_or, map, Option, Some, None, cond, refl, sym, ap, ◌∙◌, arith}
use Rattle.std.specs.Prelude.{All, nat_lt, slice_get}
use Rattle.std.specs.Option.{option_map}
use Rattle.std.proofs.lemmas.Bool.Decides.{nat_tests}
use Rattle.std.proofs.lemmas.List.Elements.{All-head, All-tail}
use Rattle.descriptor.specs.Word.{desc_of}
use Rattle.descriptor.specs.declared.Desc.{Desc}
use Rattle.descriptor.specs.declared.Frame.{Frame}
use Rattle.descriptor.specs.declared.Kind.{Kind}
use Rattle.descriptor.specs.declared.Prot.{Prot}
use Rattle.descriptor.specs.declared.State.{State}
use Rattle.descriptor.specs.declared.State.TheVariants.{Owned}
use Rattle.page_state.specs.declared.entry.Entry.{Entry}
use Rattle.page_state.specs.declared.entry.Entry.TheVariants as entry
use Rattle.page_state.specs.declared.layout.Geometry.{Geometry}
use Rattle.page_state.specs.declared.layout.Geometry.TheVariants.{Bits39, Bits48}
use Rattle.page_state.specs.Entries.{advance, entry_of_word}
use Rattle.page_state.specs.Geometries.{block_pages, input_pages, levels_below}
use Rattle.page_state.proofs.Cases.{by_lt}
use Rattle.page_state.proofs.Common.{if-true, if-false}
use Rattle.page_state.proofs.Sizes.{size_some}
use Rattle.run_list.specs.Runs.{option_advance}
use Rattle.c_tables.specs.declared.follow.PlainPage.{PlainPage}
use Rattle.c_tables.specs.ByFrames as plain
use Rattle.table_words.specs.Decoding.{decoded_of}
use Rattle.table_words.specs.Entries.{entry_of, kind_of, leaf_entry, prot_of}
use Rattle.table_words.specs.Profiles.{model_profile}
use Rattle.table_words.proofs.OwnWords.{law}
use Rattle.table_words.specs.declared.word.Decoded.{Decoded}
use Rattle.table_words.specs.declared.word.Decoded.TheVariants.{Malformed, Unmapped, Annotated, Poisoned, Locked, Cleared, Leaf, Table}
use Rattle.walked_tables.specs.declared.follow.TablePage.{TablePage}
use Rattle.walked_tables.specs.declared.said.Said.{Said}
use Rattle.walked_tables.specs.ByFrames.{index_at, led, led_at, led_case, level_at, map_by_frames, page_of, said_by, table_pages, word_gives, word_on, words_of}
use Rattle.walked_tables.specs.Values.{advance_decoded, advance_said, value_of}
use Rattle.walked_tables.proofs.FromRoots.{none_past, past_div}
use Rattle.walked_tables.proofs.Slots.{found_in, part_of}
use Rattle.walked_tables.specs.Own.{as_plain, desc_entry, entry_of_said, HasWords, IsPlainWalk}

-- what a word gives
value_entry : (x : Decoded) (d : Desc) → entry_of x Owned ≡ Some d → entry_of_said (value_of x) ≡ entry_of_word d
value_entry Malformed d e = ap desc_entry e
value_entry Unmapped d e = ap desc_entry e
value_entry (Annotated o g) d e = ap desc_entry e
value_entry Poisoned d e = ap desc_entry e
value_entry Locked d e = ap desc_entry e
value_entry (Cleared m) d e = ap desc_entry e
value_entry (Leaf m) d e = ap desc_entry e
value_entry (Table f) d e = ap desc_entry e

leaf_on : (o : Option Prot) (f : Frame) (k : Kind) (s : State) (n : ℕ)
    → desc_entry (leaf_entry o (record { 0 = f.0 + n }) k s) ≡ advance (desc_entry (leaf_entry o f k s)) n
leaf_on (Some p) f k s n = refl
leaf_on None f k s n = refl

decoded_on : (x : Decoded) (n : ℕ)
    → desc_entry (entry_of (advance_decoded x n) Owned) ≡ advance (desc_entry (entry_of x Owned)) n
decoded_on Malformed n = refl
decoded_on Unmapped n = refl
decoded_on (Annotated o None) n = refl
decoded_on (Annotated o (Some g)) n = refl
decoded_on Poisoned n = refl
decoded_on Locked n = refl
decoded_on (Cleared m) n = refl
decoded_on (Leaf m) n = leaf_on (prot_of m.access m.execute) m.frame (kind_of m.memory) _ n
decoded_on (Table f) n = refl

said_on : (o : Option Said) (n : ℕ) → entry_of_said (option_advance advance_said o n) ≡ advance (entry_of_said o) n
said_on None n = refl
said_on (Some s) n = decoded_on s.0 n

same_level : (d : ℕ) → level_at d ≡ plain.level_at d
same_level zero = refl
same_level (suc zero) = refl
same_level (suc (suc zero)) = refl
same_level (suc (suc (suc d))) = refl

own : (d w : ℕ)
    → w < 2 ^ 64
    → entry_of (decoded_of model_profile (level_at d) w) Owned ≡ Some (desc_of (plain.level_at d) w)
own d w r = (law (level_at d) w r).entry Owned ∙ ap (λ l. Some (desc_of l w)) (same_level d)

gives_same : (d w page : ℕ) → w < 2 ^ 64 → entry_of_said (word_gives model_profile d w page) ≡ plain.word_gives d w page
gives_same d w page r =
    said_on (value_of (decoded_of model_profile (level_at d) w)) (page % block_pages d)
    ∙ ap (λ e. advance e (page % block_pages d))
    (value_entry (decoded_of model_profile (level_at d) w) (desc_of (plain.level_at d) w) (own d w r))

-- the page that a word leads on to
page_case : (b : Bool) (p : TablePage) (x : Option PlainPage) (y : Option TablePage)
    → x ≡ option_map as_plain y
    → cond b (Some (as_plain p)) x ≡ option_map as_plain (cond b (Some p) y)
page_case true p x y e = refl
page_case false p x y e = e

page_same : (pages : List TablePage) (f : ℕ)
    → plain.page_of (map as_plain pages) f ≡ option_map as_plain (page_of pages f)
page_same [] f = refl
page_same (p ∷ ps) f = page_case (p.frame == f) p (plain.page_of (map as_plain ps) f) (page_of ps f) (page_same ps f)

abbrev led_of : List TablePage → Option Desc → Option PlainPage
led_of pages (Some d) = plain.led (map as_plain pages) d
led_of pages None = None

leaf_leads : (pages : List TablePage) (o : Option Prot) (f : Frame) (k : Kind) (s : State)
    → led_of pages (leaf_entry o f k s) ≡ None
leaf_leads pages (Some p) f k s = refl
leaf_leads pages None f k s = refl

decoded_leads : (pages : List TablePage) (x : Decoded)
    → led_of pages (entry_of x Owned) ≡ option_map as_plain (led pages x)
decoded_leads pages Malformed = refl
decoded_leads pages Unmapped = refl
decoded_leads pages (Annotated o None) = refl
decoded_leads pages (Annotated o (Some g)) = refl
decoded_leads pages Poisoned = refl
decoded_leads pages Locked = refl
decoded_leads pages (Cleared m) = refl
decoded_leads pages (Leaf m) = leaf_leads pages (prot_of m.access m.execute) m.frame (kind_of m.memory) _
decoded_leads pages (Table f) = page_same pages f.0

pub leads_same : (pages : List TablePage) (d w : ℕ)
    → w < 2 ^ 64
    → plain.led_at (map as_plain pages) d w ≡ option_map as_plain (led_at model_profile pages d w)
leads_same pages zero w r = refl
leads_same pages (suc d) w r =
    sym (ap (led_of pages) (own (suc d) w r)) ∙ decoded_leads pages (decoded_of model_profile (level_at (suc d)) w)

led_both : (o : Option TablePage) (a : Option Said) (b : TablePage → Option Said) (e : Entry) (f : PlainPage → Entry)
    → entry_of_said a ≡ e
    → ((n : TablePage) → o ≡ Some n → entry_of_said (b n) ≡ f (as_plain n))
    → entry_of_said (led_case a b o) ≡ plain.led_case e f (option_map as_plain o)
led_both None a b e f h k = h
led_both (Some n) a b e f h k = k n refl

-- words have 64 bits
pub word_fits : (ws : List ℕ) (i : ℕ) → All (λ w. w < 2 ^ 64) ws → get_or ws i 0 < 2 ^ 64
word_fits [] i h = omega arith
word_fits (w ∷ ws) zero h = All-head (λ w. w < 2 ^ 64) w ws h
word_fits (w ∷ ws) (suc i) h = word_fits ws i (All-tail (λ w. w < 2 ^ 64) w ws h)

pub led_words : (pages : List TablePage) (d w : ℕ) (next : TablePage)
    → led_at model_profile pages d w ≡ Some next
    → All HasWords pages
    → HasWords next
led_words pages zero w next e h = absurd (cc)
led_words pages (suc d) w next e h = by_decoded (decoded_of model_profile (level_at (suc d)) w) e
  where
    by_decoded : (x : Decoded) → led pages x ≡ Some next → HasWords next
    by_decoded Malformed e = absurd (cc)
    by_decoded Unmapped e = absurd (cc)
    by_decoded (Annotated o g) e = absurd (cc)
    by_decoded Poisoned e = absurd (cc)
    by_decoded Locked e = absurd (cc)
    by_decoded (Cleared m) e = absurd (cc)
    by_decoded (Leaf m) e = absurd (cc)
    by_decoded (Table f) e = found_in HasWords _ pages next e h

module _ (pages : List TablePage) (words : All HasWords pages) (page : ℕ) where
  tables_same : (d : ℕ) (table : TablePage)
      → HasWords table
      → entry_of_said (said_by model_profile pages d table page)
      ≡ plain.entry_by (map as_plain pages) d (as_plain table) page
  unfolding said_by plain.entry_by
  tables_same zero table h =
      gives_same zero (word_on zero table page) page (word_fits (words_of table) (index_at zero page) h)
  tables_same (suc d) table h =
      let w = word_on (suc d) table page in
      let r = word_fits (words_of table) (index_at (suc d) page) h in
      led_both (led_at model_profile pages (suc d) w) _ _ _ _ (gives_same (suc d) w page r)
      (λ n e. tables_same d n (led_words pages (suc d) w n e words))
      ∙ ap (plain.led_case (plain.word_gives (suc d) w page) (λ next. plain.entry_by (map as_plain pages) d next page))
      (sym (leads_same pages (suc d) w r))

input_are : (g : Geometry) → table_pages (levels_below g) ≡ input_pages g
input_are Bits39 = refl
input_are Bits48 = refl

pub plain_walk : IsPlainWalk
unfolding map_by_frames plain.map_by_frames
plain_walk g pages root page words own_words =
    let size = input_pages g in
    let pages_are = input_are g in
    by_lt page size
    (λ l.
    let first : page / size ≡ 0 =
    part_of model_profile pages size 0 page (size_some (levels_below g + 1)) (omega arith) (omega (arith, l)) in
    ap
    (λ k. entry_of_said
    (led_case None (λ r. said_by model_profile pages (levels_below g) r page) (slice_get (root ∷ []) k)))
    (ap (λ n. page / n) pages_are ∙ first)
    ∙ tables_same pages words page (levels_below g) root own_words
    ∙ sym
    (if-true (nat_lt page size)
    (plain.entry_by (map as_plain pages) (levels_below g) (as_plain root) page) entry.Unmapped
    (grind (arith, nat_tests, l))))
    (λ l.
    let past : slice_get (root ∷ []) (page / size) ≡ None =
    none_past (root ∷ []) (page / size)
    (past_div size 1 page (size_some (levels_below g + 1)) (omega (arith, l))) in
    ap (λ o. entry_of_said (led_case None (λ r. said_by model_profile pages (levels_below g) r page) o))
    (ap (λ n. slice_get (root ∷ []) (page / n)) pages_are ∙ past)
    ∙ sym
    (if-false (nat_lt page size)
    (plain.entry_by (map as_plain pages) (levels_below g) (as_plain root) page) entry.Unmapped
    (grind (arith, nat_tests, l))))
