-- The elements of lines, one after another.
use Rattle.std.proofs.Common.{◌≡◌, ℕ, zero, suc, ◌+◌, ◌<◌, ◌≤◌, Bool, true, false, List, [], ◌∷◌, ◌++◌, length, map, drop, get_or, Result, Ok, Err, OnOk, refl, sym, ap, ap₂, ◌∙◌, append_assoc, add-one, arith}
use Rattle.std.specs.List.{flat_map, list_any}
use Rattle.std.proofs.lemmas.Grind.{flat_map-append}
use Rattle.image_findings.specs.declared.finding.Finding.{Finding}
use Rattle.page_state.specs.Texts.{text_of_page}
use Rattle.run_list.specs.declared.run.Run.{Run}
use Rattle.walked_tables.specs.declared.said.Said.{Said}
use Rattle.svg_elements.specs.Items.{text_of_filled, text_of_titled, text_of_words}
use Rattle.svg_elements.specs.declared.item.Paint.TheVariants.{Plain}
use Rattle.image_dump.specs.Looks.{look_of}
use Rattle.image_dump.specs.Pictures.{behind, block_area, block_at, block_text, last, mark, names_run, page_head, placed, shown, shown_line, text_of_shown, width_of, Shown}
use Rattle.image_dump.specs.ShownLines.{block_told, run_text, told_by, AreLinesShown, AreRunsBlocks}
use Rattle.image_dump.specs.Texts.{text_of_line}
use Rattle.image_dump.specs.declared.line.DumpLine.{DumpLine}
use Rattle.image_dump.specs.declared.line.DumpLine.TheVariants as line
use Rattle.image_dump.specs.declared.places.Pen.{Pen}

front : {X : Type 0} (xs : List X) (i : ℕ) (d : X) → i < length xs → drop i xs ≡ get_or xs i d ∷ drop (i + 1) xs
front [] i d h = absurd (omega (arith, h))
front (x ∷ xs) zero d h = refl
front (x ∷ xs) (suc i) d h = rw add-one (front xs i d (omega (arith, h)) ∙ rw add-one refl)

gone : {X : Type 0} (xs : List X) (i : ℕ) → length xs ≤ i → drop i xs ≡ []
gone [] zero h = refl
gone [] (suc i) h = refl
gone (x ∷ xs) zero h = absurd (omega (arith, h))
gone (x ∷ xs) (suc i) h = gone xs i (omega (arith, h))

last_step : (pen : Pen) (l : DumpLine) (ls : List DumpLine) → last pen (l ∷ ls) ≡ last (behind pen l) ls
unfolding last
last_step pen l ls = refl

last_none : (pen : Pen) → last pen [] ≡ pen
unfolding last
last_none pen = refl

-- where lines end, from the next on
pub last_further : (ls : List DumpLine) (i : ℕ) (d : DumpLine) (pen next goal : Pen)
    → i < length ls
    → last pen (drop i ls) ≡ goal
    → next ≡ behind pen (get_or ls i d)
    → last next (drop (i + 1) ls) ≡ goal
last_further ls i d pen next goal h e n =
    let step = ap (last pen) (front ls i d h) ∙ last_step pen (get_or ls i d) (drop (i + 1) ls) in
    ap (λ p. last p (drop (i + 1) ls)) n ∙ (sym step ∙ e)

pub last_all : (ls : List DumpLine) (i : ℕ) (pen goal : Pen)
    → length ls ≤ i
    → last pen (drop i ls) ≡ goal
    → pen ≡ goal
last_all ls i pen goal h e = sym (ap (last pen) (gone ls i h) ∙ last_none pen) ∙ e

nothing_more : {X : Type 0} (xs : List X) → xs ++ [] ≡ xs
nothing_more [] = refl
nothing_more (x ∷ xs) = ap (λ ys. x ∷ ys) (nothing_more xs)

-- pieces one after another
module _ {X E : Type 0} (r : Result X E) (old a b : List ℕ) where
  pub two_written : (c now new : List ℕ)
      → now ≡ old ++ a
      → b ≡ c
      → OnOk r (new ≡ now ++ b)
      → OnOk r (new ≡ old ++ (a ++ c))
  two_written c now new e same n =
      done r (λ is. is ∙ (ap₂ (λ t u. t ++ u) e same ∙ append_assoc old a c)) n
    where
      done : {P Q : Type 0} (s : Result X E) → (P → Q) → OnOk s P → OnOk s Q
      done (Ok x) f p = f p
      done (Err e) f p = tt

  both : (one two : List ℕ) → one ≡ old ++ a → two ≡ one ++ b → two ≡ old ++ (a ++ b)
  both one two e f = f ∙ (ap (λ t. t ++ b) e ∙ append_assoc old a b)

pub three_written : {X E : Type 0} (r : Result X E) (old a b c d one two new : List ℕ)
    → one ≡ old ++ a
    → two ≡ one ++ b
    → c ≡ d
    → OnOk r (new ≡ two ++ c)
    → OnOk r (new ≡ old ++ (a ++ b ++ d))
three_written r old a b c d one two new e f same n =
    two_written r old (a ++ b) c d two new (both r old a b one two e f) same n

pub four_written : {X E : Type 0} (r : Result X E) (old a b c d e one two three new : List ℕ)
    → one ≡ old ++ a
    → two ≡ one ++ b
    → three ≡ two ++ c
    → d ≡ e
    → OnOk r (new ≡ three ++ d)
    → OnOk r (new ≡ old ++ (a ++ b ++ c ++ e))
four_written r old a b c d e one two three new f g h same n =
    three_written r old (a ++ b) c d e two three new (both r old a b one two f g) h same n

-- pieces of a block one after another
pieces : (ground paint page bar old now new : List ℕ)
    → now ≡ old ++ ((ground ++ (paint ++ [])) ++ page)
    → new ≡ now ++ bar
    → new ≡ old ++ (ground ++ (paint ++ (page ++ bar)))
pieces ground paint page bar old now new e n =
    let same : (old ++ ((ground ++ paint) ++ page)) ++ bar ≡ old ++ (ground ++ (paint ++ (page ++ bar))) =
    simp append_assoc refl in
    n ∙ (ap (λ t. t ++ bar) (e ∙ ap (λ t. old ++ ((ground ++ t) ++ page)) (nothing_more paint)) ∙ same)

-- a run was written
pub run_written : {X E : Type 0} (r : Result X E) (fs : List Finding) (at : Pen) (width : ℕ) (run : Run Said)
    (bad : Bool) (old now new : List ℕ)
    → now
    ≡ old
    ++ block_text at width (look_of at.tree run.value.0) (text_of_line (line.Run run))
    (text_of_page run.pages.first.0)
    → bad ≡ list_any (names_run at.tree run.pages.first.0) fs
    → OnOk r (new ≡ now ++ flat_map text_of_shown (mark bad at width))
    → OnOk r (new ≡ old ++ flat_map text_of_shown (block_at fs at width run))
run_written (Err e) fs at width run bad old now new is b n = tt
run_written (Ok x) fs at width run bad old now new is b n =
    let l = look_of at.tree run.value.0 in
    pieces (text_of_filled (record { area = block_area at width; paint = Plain l.base }))
    (text_of_titled (record { area = block_area at width; paint = l.paint }) (text_of_line (line.Run run)))
    (text_of_words (page_head at) (text_of_page run.pages.first.0))
    (flat_map text_of_shown (mark (list_any (names_run at.tree run.pages.first.0) fs) at width)) old now new is
    (n ∙ ap (λ z. now ++ flat_map text_of_shown (mark z at width)) b)

module _ (fs : List Finding) where
  shown_step : (pen : Pen) (l : DumpLine) (ls : List DumpLine)
      → shown fs pen (l ∷ ls) ≡ shown_line fs pen l ++ shown fs (behind pen l) ls
  unfolding shown
  shown_step pen l ls = refl

  shown_none : (pen : Pen) → shown fs pen [] ≡ []
  unfolding shown
  shown_none pen = refl

  -- what is left to write, from the next line on
  pub shown_further : (ls : List DumpLine) (i : ℕ) (d : DumpLine) (pen next : Pen) (now new goal : List ℕ)
      → i < length ls
      → now ++ flat_map text_of_shown (shown fs pen (drop i ls)) ≡ goal
      → new ≡ now ++ flat_map text_of_shown (shown_line fs pen (get_or ls i d))
      → next ≡ behind pen (get_or ls i d)
      → new ++ flat_map text_of_shown (shown fs next (drop (i + 1) ls)) ≡ goal
  shown_further ls i d pen next now new goal h e more n =
      let l = get_or ls i d in
      let rest = drop (i + 1) ls in
      let here = flat_map text_of_shown (shown_line fs pen l) in
      let after = flat_map text_of_shown (shown fs (behind pen l) rest) in
      let step : flat_map text_of_shown (shown fs pen (drop i ls)) ≡ here ++ after =
      ap (λ z. flat_map text_of_shown (shown fs pen z)) (front ls i d h)
      ∙ (ap (flat_map text_of_shown) (shown_step pen l rest)
      ∙ flat_map-append text_of_shown (shown_line fs pen l) (shown fs (behind pen l) rest)) in
      ap (λ p. new ++ flat_map text_of_shown (shown fs p rest)) n
      ∙ (ap (λ t. t ++ after) more
      ∙ (append_assoc now here after ∙ (ap (λ t. now ++ t) (sym step) ∙ e)))

  pub shown_all : (ls : List DumpLine) (i : ℕ) (pen : Pen) (now goal : List ℕ)
      → length ls ≤ i
      → now ++ flat_map text_of_shown (shown fs pen (drop i ls)) ≡ goal
      → now ≡ goal
  shown_all ls i pen now goal h e =
      let none =
      ap (λ z. flat_map text_of_shown (shown fs pen z)) (gone ls i h)
      ∙ ap (flat_map text_of_shown) (shown_none pen) in
      sym (nothing_more now) ∙ (ap (λ t. now ++ t) (sym none) ∙ e)

  mark_told : (b : Bool) (pen : Pen) (width : ℕ) → flat_map told_by (mark b pen width) ≡ []
  mark_told true pen width = refl
  mark_told false pen width = refl

  line_told : (pen : Pen) (l : DumpLine) → flat_map told_by (shown_line fs pen l) ≡ text_of_line l ∷ []
  line_told pen (line.Run run) =
      let at = placed pen (width_of run.pages.count) in
      ap (λ t. text_of_line (line.Run run) ∷ t)
      (mark_told (list_any (names_run at.tree run.pages.first.0) fs) at (width_of run.pages.count))
  line_told pen (line.Tree root tables) = refl
  line_told pen (line.Unwalked tree why) = refl
  line_told pen (line.Finding finding) = refl
  line_told pen (line.End trees findings) = refl

  mark_block : (b : Bool) (pen : Pen) (width : ℕ) → flat_map block_told (mark b pen width) ≡ []
  mark_block true pen width = refl
  mark_block false pen width = refl

  line_block : (pen : Pen) (l : DumpLine) → flat_map block_told (shown_line fs pen l) ≡ run_text l
  line_block pen (line.Run run) =
      let at = placed pen (width_of run.pages.count) in
      ap (λ t. text_of_line (line.Run run) ∷ t)
      (mark_block (list_any (names_run at.tree run.pages.first.0) fs) at (width_of run.pages.count))
  line_block pen (line.Tree root tables) = refl
  line_block pen (line.Unwalked tree why) = refl
  line_block pen (line.Finding finding) = refl
  line_block pen (line.End trees findings) = refl

  given_by_lines : {X : Type 0} (f : Shown → List X) (g : DumpLine → List X)
      → ((pen : Pen) (l : DumpLine) → flat_map f (shown_line fs pen l) ≡ g l)
      → (pen : Pen) (ls : List DumpLine)
      → flat_map f (shown fs pen ls) ≡ flat_map g ls
  given_by_lines f g each pen [] = ap (flat_map f) (shown_none pen)
  given_by_lines f g each pen (l ∷ ls) =
      ap (flat_map f) (shown_step pen l ls)
      ∙ (flat_map-append f (shown_line fs pen l) (shown fs (behind pen l) ls)
      ∙ (ap (λ t. t ++ flat_map f (shown fs (behind pen l) ls)) (each pen l)
      ∙ ap (λ t. g l ++ t) (given_by_lines f g each (behind pen l) ls)))

mapped : {X Y : Type 0} (f : X → Y) (xs : List X) → flat_map (λ x. f x ∷ []) xs ≡ map f xs
mapped f [] = refl
mapped f (x ∷ xs) = ap (λ ys. f x ∷ ys) (mapped f xs)

pub lines_shown : AreLinesShown
lines_shown fs pen ls =
    given_by_lines fs told_by (λ l. text_of_line l ∷ []) (line_told fs) pen ls ∙ mapped text_of_line ls

pub runs_blocks : AreRunsBlocks
runs_blocks fs pen ls = given_by_lines fs block_told run_text (line_block fs) pen ls
