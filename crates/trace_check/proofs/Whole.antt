-- The record of a trace, read back.
use Rattle.std.proofs.Common.{◌≡◌, ℕ, ◌≤◌, refl, sym, ◌∙◌, ap, subst, ◌==◌, not, ◌&&◌, ◌||◌, nat_lt, Bool, true, false, List, [], ◌∷◌, ◌++◌, length, map, Some, None, arith}
use Rattle.std.specs.Prelude.{is_some, if◌then◌else◌}
use Rattle.std.specs.List.{list_all}
use Rattle.std.proofs.lemmas.Bool.Decides.{nat_tests}
use Rattle.trace_reader.specs.Reading.{HasNoEnd, lines_of}
use Rattle.trace_reader.proofs.LinesBack.{HaveNoEnds, lines_plain}
use Rattle.trace_text.specs.declared.report.ReportLine.{ReportLine}
use Rattle.trace_text.specs.Session.{at_start}
use Rattle.trace_words.specs.Words.{has_stray_byte, is_stray}
use Rattle.trace_check.specs.Expectations.{comment, expectation}
use Rattle.trace_check.specs.Laws.{IsTraceMet, RecordIsMet}
use Rattle.trace_check.specs.Misses.{misses, rest_missed}
use Rattle.trace_check.specs.Records.{IsRecord, bytes_of, can_expect, ends_empty, ends_expected, is_lacking, joined, lacks_end, noted, notes, recorded, recorded_at, recorded_text, without_own}
use Rattle.trace_check.specs.Runs.{Runs}
use Rattle.trace_check.proofs.Comments.{as_comment}
use Rattle.trace_check.proofs.Joined.{bytes_back, ended_back, front_back, lacking_back}
use Rattle.trace_check.proofs.Recorded.{recorded_met}

off : {P : Type 0} → false ≡ true → P
off h = cc

either : (a b : Bool) → (a || b) ≡ false → (a ≡ false) × (b ≡ false)
either true b h = off (sym h)
either false b h = (refl, h)

-- a line without a stray byte has no end
plain_line : (line : List ℕ) → has_stray_byte line ≡ false → HasNoEnd line
plain_line [] h = tt
plain_line (byte ∷ bytes) h =
    let e = either (is_stray byte) (has_stray_byte bytes) h in
    let low = (either (nat_lt byte 0x20) (nat_lt 0x7e byte) e.0).0 in
    (grind (arith, nat_tests), plain_line bytes e.1)

both_plain : (xs ys : List (List ℕ)) → HaveNoEnds xs → HaveNoEnds ys → HaveNoEnds (xs ++ ys)
both_plain [] ys h k = k
both_plain (x ∷ xs) ys h k = (h.0, both_plain xs ys h.1 k)

both : (a b : Bool) → (a && b) ≡ true → (a ≡ true) × (b ≡ true)
both true b h = (refl, h)
both false b h = off h

expected_plain : (lines : List (List ℕ)) → can_expect lines ≡ true → HaveNoEnds lines
expected_plain [] h = tt
expected_plain (line ∷ rest) h =
    let e = both (is_some (expectation line)) (can_expect rest) h in
    (plain_line line (as_comment line e.0).plain, expected_plain rest e.1)

noted_by : (lines : List (List ℕ)) (b : Bool) → can_expect lines ≡ b → HaveNoEnds (if b then lines else [])
noted_by lines true e = expected_plain lines e
noted_by lines false e = tt

noted_plain : (reported : List ReportLine) → HaveNoEnds (noted reported)
noted_plain reported = noted_by (notes reported) (can_expect (notes reported)) refl

at_plain : (line : List ℕ) (noted : List (List ℕ)) (b : Bool)
    → HasNoEnd line
    → HaveNoEnds noted
    → HaveNoEnds (if b then [] else line ∷ noted)
at_plain line noted true h k = tt
at_plain line noted false h k = (h, k)

own_plain : (lines : List (List ℕ)) → HaveNoEnds lines → HaveNoEnds (without_own lines)
own_plain [] h = tt
own_plain (line ∷ rest) h = by_own (is_some (expectation line)) (own_plain rest h.1)
  where
    by_own : (b : Bool) → HaveNoEnds (without_own rest) → HaveNoEnds (if b then without_own rest else line ∷ rest)
    by_own true k = k
    by_own false k = h

-- so has no line of a record
recorded_plain : (lines : List (List ℕ)) (told : List (List ReportLine))
    → HaveNoEnds lines
    → HaveNoEnds (recorded lines told)
recorded_plain [] [] h = tt
recorded_plain (line ∷ rest) [] h = own_plain (line ∷ rest) h
recorded_plain [] (reported ∷ more) h = tt
recorded_plain (line ∷ rest) (reported ∷ more) h =
    both_plain (recorded_at line reported) (recorded rest more)
    (at_plain line (noted reported) (is_some (expectation line)) h.0 (noted_plain reported))
    (recorded_plain rest more h.1)

-- lines are read back from their bytes, and whether the last lacks its end too
module _ (lines : List (List ℕ)) (plain : HaveNoEnds lines) where
  read_back : (a b c : Bool) → ends_empty lines ≡ c → lines_of (joined (a && (not b && not c)) lines) ≡ lines
  read_back false b c e = bytes_back lines plain
  read_back true true c e = bytes_back lines plain
  read_back true false true e = bytes_back lines plain
  read_back true false false e = front_back lines plain e

  lacks_back : (a b c : Bool)
      → ends_empty lines ≡ c
      → (lacks_end (joined (a && (not b && not c)) lines) && (not b && not c)) ≡ (a && (not b && not c))
  lacks_back false b c e = rw (ended_back lines) refl
  lacks_back true true c e = no_more (lacks_end (bytes_of lines))
    where
      no_more : (b : Bool) → (b && false) ≡ false
      no_more true = refl
      no_more false = refl
  lacks_back true false true e = rw (ended_back lines) refl
  lacks_back true false false e = rw (lacking_back lines plain e) refl

pub record_met : RecordIsMet
record_met trace text r few few' =
    let lines = recorded (lines_of trace) r.told in
    let plain = recorded_plain (lines_of trace) r.told (lines_plain trace) in
    let lacking = is_lacking trace lines in
    let back : lines_of text ≡ lines =
    ap lines_of r.text_is ∙ read_back lines plain (lacks_end trace) (ends_expected lines) (ends_empty lines) refl in
    let same : is_lacking text lines ≡ lacking =
    ap (λ t. is_lacking t lines) r.text_is
    ∙ lacks_back lines plain (lacks_end trace) (ends_expected lines) (ends_empty lines) refl in
    let m = recorded_met (lines_of trace) r.told r.runs few (subst (λ l. length l ≤ 1048576) back few') in
    record {
      told = m.told;
      runs = subst (λ l. Runs 1 at_start l m.told) (sym back) m.runs;
      met = subst (λ l. misses l m.told ≡ rest_missed l m.told) (sym back) m.met;
      again =
          r.text_is ∙ ap (λ b. joined b lines) (sym same)
          ∙ sym (ap (λ l. joined (is_lacking text l) l) (ap (λ l. recorded l m.told) back ∙ m.again));
    }
