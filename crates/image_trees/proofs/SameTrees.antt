-- The tree by pages of the image is the tree in the image, where no value names a table that is there.
use mathlib.Core.Path.{fun_ext}
use Rattle.std.proofs.Common.{◌≡◌, ℕ, zero, suc, ◌+◌, ◌-◌, ◌/◌, ◌%◌, true, false, List, [], ◌∷◌, length, map, take, Option, Some, None, refl, sym, ap, subst, ◌∙◌, arith}
use Rattle.std.specs.Prelude.{All, find, nat_lt, slice_get, option_map, ◌==◌}
use Rattle.std.proofs.lemmas.Bool.Decides.{nat_tests}
use Rattle.std.proofs.lemmas.List.Elements.{All-head, All-tail}
use Rattle.std.proofs.lemmas.List.{length-take}
use Rattle.std.proofs.lemmas.Option.{slice_get-map, slice_get_past}
use Rattle.descriptor.specs.declared.Frame.{Frame}
use Rattle.page_state.proofs.Cases.{by_lt, by_test}
use Rattle.page_state.specs.Geometries.{block_pages}
use Rattle.page_state.specs.Regions.{is_in_range}
use Rattle.run_list.specs.Runs.{option_advance, run_map, value_on}
use Rattle.run_list.specs.declared.run.Run.{Run}
use Rattle.table_words.specs.Decoding.{decoded_of}
use Rattle.table_words.specs.declared.profile.Profile.{Profile}
use Rattle.table_words.specs.declared.word.Decoded.{Decoded}
use Rattle.table_words.specs.declared.word.Decoded.TheVariants.{Malformed, Unmapped, Annotated, Poisoned, Locked, Cleared, Leaf, Table}
use Rattle.walked_tables.specs.ByFrames.{led, led_case, level_at, map_by_frames, page_of, said_by, table_pages, word_on, words_of}
use Rattle.walked_tables.specs.Values.{advance_decoded, advance_said, value_of}
use Rattle.walked_tables.specs.declared.follow.TablePage.{TablePage}
use Rattle.walked_tables.specs.declared.said.Said.{Said}
use Rattle.image_trees.specs.InImage.{below_case, image_map, image_said, leads, root_words}
use Rattle.walked_tables.specs.declared.reached.Reached.{Reached}
use Rattle.image_trees.specs.KeptPages.{told, AreAbsent, AreMore, AreRead, Given, IsAbsent, IsWalkedBy}
use Rattle.image_trees.specs.Trees.{IsTreeIn}
use Rattle.image_trees.specs.declared.root.Root.{Root}
use Rattle.image_trees.proofs.Reading.{get_taken}

-- a value that says a table
abbrev table_said : Frame → Option Said
table_said f = Some (record { 0 = Table f })

-- no value says a table whose page is there
abbrev pub IsClosed : (ℕ → Option (List ℕ)) → Option Said → Type 0
IsClosed read value = (f : Frame) → value ≡ table_said f → read f.0 ≡ None

module _ (profile : Profile) (read : ℕ → Option (List ℕ)) (pages : List TablePage) where
  -- the page of a frame has its words
  found : (ps : List TablePage) (frame : ℕ) (p : TablePage)
      → find (λ q. q.frame == frame) ps ≡ Some p
      → All (Given read) (map told ps)
      → read frame ≡ Some (words_of p)
  found [] frame p e h = absurd (cc)
  found (q ∷ qs) frame p e h = by_test (q.frame == frame)
      (λ t. let here : Some q ≡ Some p = rw t at e in
      let same : q ≡ p = cc in
      let is : q.frame ≡ frame = grind (arith, nat_tests) in
      subst (λ f. read f ≡ Some (words_of p)) is
      (subst (λ r. read q.frame ≡ Some (words_of r)) same (All-head (Given read) (told q) (map told qs) h)))
      (λ t. found qs frame p (rw t at e) (All-tail (Given read) (told q) (map told qs) h))

  module _ (given : All (Given read) (map told pages)) where
    -- what a value gives, a table's too
    gives : ℕ → Decoded → Option Said
    gives n decoded = option_advance advance_said (value_of decoded) n

    by_page : (d n page : ℕ) (f : Frame) (o : Option TablePage)
        → page_of pages f.0 ≡ o
        → ((p : TablePage)
        → IsClosed read (said_by profile pages d p page)
        → said_by profile pages d p page ≡ image_said profile read d (words_of p) page)
        → IsClosed read
        (led_case (option_advance advance_said (value_of (Table f)) n)
        (λ next. said_by profile pages d next page) o)
        → led_case (option_advance advance_said (value_of (Table f)) n) (λ next. said_by profile pages d next page) o
        ≡ below_case (option_advance advance_said (value_of (Table f)) n)
        (λ words. image_said profile read d words page) (read f.0)
    by_page d n page f None e below closed =
        ap
        (below_case (option_advance advance_said (value_of (Table f)) n)
        (λ words. image_said profile read d words page))
        (sym (closed f refl))
    by_page d n page f (Some p) e below closed =
        below p closed
        ∙ ap
        (below_case (option_advance advance_said (value_of (Table f)) n)
        (λ words. image_said profile read d words page))
        (sym (found pages f.0 p e given))

    by_word : (d n page : ℕ) (decoded : Decoded)
        → ((p : TablePage)
        → IsClosed read (said_by profile pages d p page)
        → said_by profile pages d p page ≡ image_said profile read d (words_of p) page)
        → IsClosed read
        (led_case (option_advance advance_said (value_of decoded) n) (λ next. said_by profile pages d next page)
        (led pages decoded))
        → led_case (option_advance advance_said (value_of decoded) n) (λ next. said_by profile pages d next page)
        (led pages decoded)
        ≡ below_case (option_advance advance_said (value_of decoded) n)
        (λ words. image_said profile read d words page) (leads read decoded)
    by_word d n page Malformed below closed = refl
    by_word d n page Unmapped below closed = refl
    by_word d n page (Annotated owner guest) below closed = refl
    by_word d n page Poisoned below closed = refl
    by_word d n page Locked below closed = refl
    by_word d n page (Cleared m) below closed = refl
    by_word d n page (Leaf m) below closed = refl
    by_word d n page (Table f) below closed = by_page d n page f (page_of pages f.0) refl below closed

    said_same : (d : ℕ) (table : TablePage) (page : ℕ)
        → IsClosed read (said_by profile pages d table page)
        → said_by profile pages d table page ≡ image_said profile read d (words_of table) page
    unfolding said_by image_said
    said_same zero table page closed = refl
    said_same (suc d) table page closed =
        by_word d (page % block_pages (suc d)) page
        (decoded_of profile (level_at (suc d)) (word_on (suc d) table page)) (λ p c. said_same d p page c) closed

-- values of runs
absent_value : (read : ℕ → Option (List ℕ)) (decoded : Decoded) (n : ℕ) (f : Frame)
    → IsAbsent read decoded
    → advance_decoded decoded n ≡ Table f
    → read f.0 ≡ None
absent_value read (Table g) n f h e = let same : g ≡ f = cc in subst (λ x. read x.0 ≡ None) same h
absent_value read Malformed n f h e = absurd (cc)
absent_value read Unmapped n f h e = absurd (cc)
absent_value read (Annotated owner guest) n f h e = absurd (cc)
absent_value read Poisoned n f h e = absurd (cc)
absent_value read Locked n f h e = absurd (cc)
absent_value read (Cleared m) n f h e = absurd (cc)
absent_value read (Leaf m) n f h e = absurd (cc)

pub runs_closed : (read : ℕ → Option (List ℕ)) (runs : List (Run Said)) (page : ℕ)
    → AreAbsent read runs
    → IsClosed read (run_map advance_said runs page)
runs_closed read [] page h = λ f e. absurd (cc)
runs_closed read (r ∷ rs) page h = λ f. by_test (is_in_range r.pages page)
    (λ t e. let here : Some (value_on advance_said r page) ≡ table_said f = rw t at e in
    let is : advance_decoded r.value.0 (page - r.pages.first.0) ≡ Table f = ap (λ o. said_or o) here in
    absent_value read r.value.0 (page - r.pages.first.0) f (All-head (λ q. IsAbsent read q.value.0) r rs h) is)
    (λ t e. let here : run_map advance_said rs page ≡ table_said f = rw t at e in
    runs_closed read rs page (All-tail (λ q. IsAbsent read q.value.0) r rs h) f here)
  where
    said_or : Option Said → Decoded
    said_or None = Malformed
    said_or (Some s) = s.0

module _ (read : ℕ → Option (List ℕ)) (root : Root) (pages : List TablePage)
    (all : AreRead read root root.count (map told pages)) where
  -- the root's page at a place
  by_root : (page k : ℕ) (o : Option TablePage) (words : Option (List ℕ))
      → option_map told o ≡ option_map (λ w. (root.frame + k, w)) words
      → IsClosed read (led_case None (λ r. said_by root.profile pages root.depth r page) o)
      → led_case None (λ r. said_by root.profile pages root.depth r page) o
      ≡ below_case None (λ words. image_said root.profile read root.depth words page) words
  by_root page k None None e closed = refl
  by_root page k None (Some words) e closed = absurd (cc)
  by_root page k (Some p) None e closed = absurd (cc)
  by_root page k (Some p) (Some words) e closed =
      let same : words_of p ≡ words = ap (λ o. words_or o) e in
      said_same root.profile read pages all.given root.depth p page closed
      ∙ ap (λ w. image_said root.profile read root.depth w page) same
    where
      words_or : Option (ℕ × List ℕ) → List ℕ
      words_or None = []
      words_or (Some w) = w.1

  at_root : (page k : ℕ)
      → IsClosed read
      (led_case None (λ r. said_by root.profile pages root.depth r page) (slice_get (take root.count pages) k))
      → led_case None (λ r. said_by root.profile pages root.depth r page) (slice_get (take root.count pages) k)
      ≡ below_case None (λ words. image_said root.profile read root.depth words page) (root_words read root k)
  at_root page k closed = by_lt k root.count
      (λ less.
      let taken = get_taken pages root.count k less in
      let here : nat_lt k root.count ≡ true = grind (arith, nat_tests) in
      let is : root_words read root k ≡ read (root.frame + k) = rw here refl in
      let told_is = sym (slice_get-map told pages k) ∙ all.first k less in
      ap (led_case None (λ r. said_by root.profile pages root.depth r page)) taken
      ∙ (by_root page k (slice_get pages k) (read (root.frame + k)) told_is
      (subst
      (λ o. IsClosed read
      (led_case None (λ r. said_by root.profile pages root.depth r page) o)) taken closed)
      ∙ ap (below_case None (λ words. image_said root.profile read root.depth words page)) (sym is)))
      (λ more.
      let past : slice_get (take root.count pages) k ≡ None =
      slice_get_past (take root.count pages) k (omega (arith, length-take root.count pages)) in
      let here : nat_lt k root.count ≡ false = grind (arith, nat_tests) in
      let is : root_words read root k ≡ None = rw here refl in
      ap (led_case None (λ r. said_by root.profile pages root.depth r page)) past
      ∙ ap (below_case None (λ words. image_said root.profile read root.depth words page)) (sym is))

  pub map_same : (page : ℕ)
      → IsClosed read (map_by_frames root.profile pages root.depth (take root.count pages) page)
      → map_by_frames root.profile pages root.depth (take root.count pages) page ≡ image_map read root page
  unfolding map_by_frames image_map
  map_same page closed = at_root page (page / table_pages root.depth) closed

-- the tree by the pages that were read is the tree in the image, where no page was to be added
pub tree_in : (read : ℕ → Option (List ℕ)) (root : Root) (kept after : List (ℕ × List ℕ)) (tables : List Reached)
    (runs : List (Run Said))
    → AreRead read root root.count kept
    → IsWalkedBy root kept tables runs
    → AreMore read runs kept after
    → length after ≡ length kept
    → IsTreeIn read root runs tables
tree_in read root kept after tables runs h w more n =
    let absent = more.absent n in
    let all = subst (AreRead read root root.count) (sym w.same) h in
    let each : (page : ℕ) → run_map advance_said runs page ≡ image_map read root page = (λ page.
    let same = ap (λ (f : ℕ → Option Said). f page) w.walked.map in
    same
    ∙ map_same read root w.table_pages all page (subst (IsClosed read) same (runs_closed read runs page absent))) in
    record {
      map_is = fun_ext each;
      coarsest = w.walked.coarsest;
      pages = w.table_pages;
      read_from = all;
      tables_are = w.walked.met;
      apart = w.walked.apart;
    }
