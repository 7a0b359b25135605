-- Trees one after another, and the lines of a report.
use Rattle.std.proofs.Common.{◌≡◌, ℕ, zero, suc, ◌+◌, ◌<◌, ◌≤◌, Bool, true, false, List, [], ◌∷◌, ◌++◌, length, map, take, get_or, Option, Some, None, Result, Ok, Err, refl, sym, ap, subst, ◌∙◌, append_assoc, arith}
use Rattle.std.specs.Prelude.{if◌then◌else◌}
use Rattle.std.specs.List.{flat_map, list_all}
use Rattle.std.specs.Io.KnownBytes.{Appends}
use Rattle.std.specs.Option.{is_some}
use Rattle.std.proofs.lemmas.List.{take_more}
use Rattle.image_trees.specs.declared.records.Records.{Records}
use Rattle.image_dump.specs.Stating.{hyp_root, is_stated, reported_root, AreDenied, AreRecords}
use Rattle.memory_image.specs.declared.segment.Segment.{Segment}
use Rattle.image_trees.specs.declared.root.Root.{Root}
use Rattle.image_findings.specs.declared.finding.Finding.{Finding}
use Rattle.image_dump.specs.Collecting.{claims_of, findings_by, lines_of, tables_of, words_of, Found}
use Rattle.image_dump.specs.Dumped.{fault_count, faults_in, findings_of, outcome_of, report_of, gives_states, text_by, text_of_lines, AreCollected, AreFoundIn, IsAdded, IsDumped, IsFoundIn}
use Rattle.image_dump.specs.declared.dump.Dumped.{Dumped}
use Rattle.image_dump.specs.declared.dump.Shape.{Shape}
use Rattle.image_dump.specs.declared.line.DumpLine.TheVariants as line
use Rattle.image_dump.specs.Texts.{text_of_line}
use Rattle.image_dump.specs.declared.collect.Collected.{Collected}
use Rattle.image_dump.specs.declared.line.DumpLine.{DumpLine}
use Rattle.image_dump.specs.declared.skip.Skip.{Skip}

-- what follows in two parts
pub in_two : {X : Type 0} (start first second mid next : List X)
    → mid ≡ start ++ first
    → next ≡ mid ++ second
    → next ≡ start ++ (first ++ second)
in_two start first second mid next e n = n ∙ (ap (λ z. z ++ second) e ∙ append_assoc start first second)

-- a tree that isn't walked has nothing that is denied
pub none_denied : (known : Option (List ℕ)) (segments : List Segment) (records : Option Records) (root : Root)
    → AreDenied known segments records root [] []
none_denied known segments None root = refl
none_denied known segments (Some records) root = ((λ told all e. refl), (λ other. refl))

pub append_nil : {X : Type 0} (xs : List X) → xs ++ [] ≡ xs
append_nil [] = refl
append_nil (x ∷ xs) = ap (λ ys. x ∷ ys) (append_nil xs)

pub taken_all : {X : Type 0} (xs : List X) (n : ℕ) → length xs ≤ n → take n xs ≡ xs
taken_all [] zero h = refl
taken_all [] (suc n) h = refl
taken_all (x ∷ xs) zero h = absurd (omega arith)
taken_all (x ∷ xs) (suc n) h = ap (λ ys. x ∷ ys) (taken_all xs n (omega arith))

either_tree : (b : Bool) (r s : Root) → r.tree ≡ s.tree → (if b then r else s).tree ≡ s.tree
either_tree true r s h = h
either_tree false r s h = refl

-- a root as the report has it is of the same tree
pub same_tree : (has_records : Bool) (root : Root) → (reported_root has_records root).tree ≡ root.tree
same_tree has_records root =
    either_tree (is_stated has_records root)
    (record root { profile = record root.profile { has_states = true } }) root refl

-- what more elements give
flat_more : {X Y : Type 0} (f : X → List Y) (xs : List X) (x : X) → flat_map f (xs ++ x ∷ []) ≡ flat_map f xs ++ f x
flat_more f [] x = append_nil (f x)
flat_more f (y ∷ ys) x = ap (λ z. f y ++ z) (flat_more f ys x) ∙ sym (append_assoc (f y) (flat_map f ys) (f x))

joined : {X Y : Type 0} (f : X → List Y) (xs : List X) (x : X) (start now next : List Y)
    → now ≡ start ++ flat_map f xs
    → next ≡ now ++ f x
    → next ≡ start ++ flat_map f (xs ++ x ∷ [])
joined f xs x start now next e n =
    n
    ∙ (ap (λ z. z ++ f x) e
    ∙ (append_assoc start (flat_map f xs) (f x) ∙ ap (λ z. start ++ z) (sym (flat_more f xs x))))

faults_more : (fs : List Found) (f : Found) → faults_in (fs ++ f ∷ []) ≡ faults_in fs + fault_count f.walked
faults_more [] f = omega arith
faults_more (g ∷ gs) f = let rest = faults_more gs f in omega (arith, rest)

fault_small : {X Y : Type 0} (r : Result X Y) → fault_count r ≤ 1
fault_small (Ok x) = omega arith
fault_small (Err y) = omega arith

module _ (known : Option (List ℕ)) (may_fail : ℕ → ℕ → Type 0) (segments : List Segment) (records : Option Records)
    (skips : List Skip) where
  found_more : (roots : List Root) (fs : List Found) (root : Root) (f : Found)
      → AreFoundIn known may_fail segments records skips roots fs
      → IsFoundIn known may_fail segments records skips root f
      → AreFoundIn known may_fail segments records skips (roots ++ root ∷ []) (fs ++ f ∷ [])
  found_more [] [] root f h k = (k, tt)
  found_more [] (g ∷ gs) root f h k = absurd h
  found_more (r ∷ rs) [] root f h k = absurd h
  found_more (r ∷ rs) (g ∷ gs) root f h k = (h.0, found_more rs gs root f h.1 k)

  pub none_collected : (roots : List Root) (start : Collected)
      → AreCollected known may_fail segments records (take 0 roots) skips start start 0
  none_collected roots start = record {
    trees = [];
    each = tt;
    lines_are = sym (append_nil _);
    words_are = sym (append_nil _);
    claims_are = sym (append_nil _);
    tables_are = sym (append_nil _);
    faults_are = refl;
  }

  pub more_collected : (roots : List Root) (i : ℕ) (d : Root) (start now next : Collected) (n r : ℕ)
      → i < length roots
      → AreCollected known may_fail segments records (take i roots) skips start now n
      → IsAdded known may_fail segments records (get_or roots i d) skips now next r
      → AreCollected known may_fail segments records (take (i + 1) roots) skips start next (n + r)
  more_collected roots i d start now next n r inside h a = record {
    trees = h.trees ++ a.found ∷ [];
    each =
        subst (λ rs. AreFoundIn known may_fail segments records skips rs (h.trees ++ a.found ∷ []))
        (sym (take_more roots i d inside))
        (found_more (take i roots) h.trees (get_or roots i d) a.found h.each a.found_in);
    lines_are =
        joined
        (lines_of skips) h.trees a.found start.lines.items now.lines.items next.lines.items
        h.lines_are a.grows.lines_are;
    words_are =
        joined
        (words_of skips) h.trees a.found start.words.items now.words.items next.words.items
        h.words_are a.grows.words_are;
    claims_are =
        joined
        (claims_of skips) h.trees a.found start.claims.items now.claims.items next.claims.items
        h.claims_are a.grows.claims_are;
    tables_are =
        joined tables_of h.trees a.found start.tables.items now.tables.items next.tables.items
        h.tables_are a.grows.tables_are;
    faults_are = let more = faults_more h.trees a.found in omega (arith, h.faults_are, a.faults_are, more);
  }

  pub one_fault : (root : Root) (now next : Collected) (r : ℕ)
      → IsAdded known may_fail segments records root skips now next r
      → r ≤ 1
  one_fault root now next r a = let small = fault_small a.found.walked in omega (arith, a.faults_are, small)

-- lines one after another
pub one_line : (l : DumpLine) → text_of_lines (l ∷ []) ≡ text_of_line l ++ 10 ∷ []
unfolding text_of_lines
one_line l = append_nil (text_of_line l ++ 10 ∷ [])

lines_more : (ls : List DumpLine) (l : DumpLine)
    → text_of_lines (ls ++ l ∷ []) ≡ text_of_lines ls ++ text_of_lines (l ∷ [])
unfolding text_of_lines
lines_more [] l = refl
lines_more (m ∷ ms) l =
    ap (λ z. (text_of_line m ++ 10 ∷ []) ++ z) (lines_more ms l)
    ∙ sym (append_assoc (text_of_line m ++ 10 ∷ []) (text_of_lines ms) _)

no_lines : text_of_lines [] ≡ []
unfolding text_of_lines
no_lines = refl

appends_none : (a : Option (List ℕ)) → Appends a a []
appends_none None = tt
appends_none (Some xs) = sym (append_nil xs)

appends_more : (a b c : Option (List ℕ)) (xs ys : List ℕ) → Appends a b xs → Appends b c ys → Appends a c (xs ++ ys)
appends_more None b c xs ys h k = tt
appends_more (Some ws) None c xs ys h k = absurd h
appends_more (Some ws) (Some bs) None xs ys h k = absurd k
appends_more (Some ws) (Some bs) (Some cs) xs ys h k = k ∙ (ap (λ z. z ++ ys) h ∙ append_assoc ws xs ys)

pub none_written : (a : Option (List ℕ)) (ls : List DumpLine) → Appends a a (text_of_lines (take 0 ls))
none_written a ls = subst (Appends a a) (sym no_lines) (appends_none a)

pub more_written : (a b c : Option (List ℕ)) (ls : List DumpLine) (i : ℕ) (d : DumpLine)
    → i < length ls
    → Appends a b (text_of_lines (take i ls))
    → Appends b c (text_of_lines (get_or ls i d ∷ []))
    → Appends a c (text_of_lines (take (i + 1) ls))
more_written a b c ls i d inside h k =
    let e = ap text_of_lines (take_more ls i d inside) ∙ lines_more (take i ls) (get_or ls i d) in
    subst (Appends a c) (sym e)
    (appends_more a b c (text_of_lines (take i ls)) (text_of_lines (get_or ls i d ∷ [])) h k)

from_none : {X : Type 0} (start xs now : List X) → start ≡ [] → now ≡ start ++ xs → now ≡ xs
from_none start xs now e n = n ∙ ap (λ z. z ++ xs) e

-- what the last lines say
pub all_dumped : (known : Option (List ℕ)) (may_fail : ℕ → ℕ → Type 0) (segments : List Segment) (roots : List Root)
    (vmemmap : Option ℕ) (records : Option Records) (skips : List Skip) (shape : Shape)
    (before after : Option (List ℕ)) (start all : Collected) (unwalked : ℕ) (states : Bool) (words : List Finding)
    (first lines : List DumpLine)
    (trees findings : ℕ) (outcome : Dumped)
    → AreRecords known may_fail segments (hyp_root roots) vmemmap records
    → AreCollected known may_fail segments records roots skips start all unwalked
    → start.lines.items ≡ [] → start.words.items ≡ [] → start.claims.items ≡ [] → start.tables.items ≡ []
    → states ≡ list_all (gives_states (is_some records)) roots
    → words ≡ all.words.items ++ findings_by states all.claims.items all.tables.items
    → first ≡ all.lines.items ++ map (λ finding. line.Finding finding) words
    → findings ≡ unwalked + length words
    → trees ≡ length roots
    → lines ≡ first ++ line.End trees findings ∷ []
    → Appends before after (text_by shape lines)
    → outcome ≡ outcome_of findings
    → IsDumped known may_fail segments roots vmemmap skips shape before after outcome
all_dumped known may_fail segments roots vmemmap records skips shape before after start all unwalked states words first
    lines
    trees findings outcome are h no_lines no_words no_claims no_tables s w f n t l written o =
    let fs = h.trees in
    let ws = from_none start.words.items (flat_map (words_of skips) fs) all.words.items no_words h.words_are in
    let cs = from_none start.claims.items (flat_map (claims_of skips) fs) all.claims.items no_claims h.claims_are in
    let ts = from_none start.tables.items (flat_map tables_of fs) all.tables.items no_tables h.tables_are in
    let ls = from_none start.lines.items (flat_map (lines_of skips) fs) all.lines.items no_lines h.lines_are in
    let by : findings_by states all.claims.items all.tables.items ≡ findings_by (list_all (gives_states (is_some records)) roots) (flat_map (claims_of skips) fs) (flat_map tables_of fs) =
    ap (λ b. findings_by b all.claims.items all.tables.items) s
    ∙ (ap (λ cl. findings_by (list_all (gives_states (is_some records)) roots) cl all.tables.items) cs
    ∙ ap
    (findings_by (list_all (gives_states (is_some records)) roots)
    (flat_map (claims_of skips) fs)) ts) in
    let named : words ≡ findings_of (is_some records) skips roots fs =
    w
    ∙ (ap (λ z. z ++ findings_by states all.claims.items all.tables.items) ws
    ∙ ap (λ z. flat_map (words_of skips) fs ++ z) by) in
    let count : findings ≡ faults_in fs + length (findings_of (is_some records) skips roots fs) =
    n ∙ (ap (λ k. k + length words) h.faults_are ∙ ap (λ z. faults_in fs + length z) named) in
    let begun : first ≡ flat_map (lines_of skips) fs ++ map (λ finding. line.Finding finding) (findings_of (is_some records) skips roots fs) =
    f
    ∙ (ap (λ z. z ++ map (λ finding. line.Finding finding) words) ls
    ∙ ap (λ z. flat_map (lines_of skips) fs ++ map (λ finding. line.Finding finding) z) named) in
    let told : lines ≡ report_of (is_some records) skips roots fs =
    l
    ∙ (ap (λ z. z ++ line.End trees findings ∷ []) begun
    ∙ (ap
    (λ (k : ℕ).
    (flat_map (lines_of skips) fs
    ++ map (λ finding. line.Finding finding) (findings_of (is_some records) skips roots fs))
    ++ line.End k findings ∷ []) t
    ∙ ap
    (λ (k : ℕ).
    (flat_map (lines_of skips) fs
    ++ map (λ finding. line.Finding finding) (findings_of (is_some records) skips roots fs))
    ++ line.End (length roots) k ∷ []) count)) in
    record {
      records = records;
      records_are = are;
      trees = fs;
      each = h.each;
      written = subst (λ z. Appends before after (text_by shape z)) told written;
      outcome_is = o ∙ ap outcome_of count;
    }
