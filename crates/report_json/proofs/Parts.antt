-- What cutting a line gives, by the place that a search finds.
use Rattle.std.proofs.Common.{◌≡◌, ℕ, suc, ◌+◌, ◌==◌, List, [], ◌∷◌, Option, Some, true, false, length, take, drop, option_map, refl, sym, ap}
use Rattle.std.proofs.lemmas.Bool.{false≢true}
use Rattle.std.proofs.lemmas.Bool.Decides.{Decides-eqb}
use Rattle.memchr.specs.Find.{FindsNeedle}
use Rattle.memchr.proofs.lemmas.ValueLemmas.{FindsNeedle-value}
use Rattle.report_json.specs.Forms.{cut}

no_suc : {P : Type 0} (n : ℕ) → suc n ≡ 0 → P
no_suc n h = cc

pub cut_all : (stop bytes : List ℕ) → (length stop == 0) ≡ true → cut stop bytes ≡ Some (bytes, [])
cut_all [] bytes none = refl
cut_all (byte ∷ stop) bytes none = no_suc (length stop) ((Decides-eqb (length (byte ∷ stop)) 0).0 none)

-- the parts at a place
abbrev pub parts_at : List ℕ → List ℕ → Option ℕ → Option (List ℕ × List ℕ)
parts_at stop bytes found = option_map (λ place. (take place bytes, drop (place + length stop) bytes)) found

pub cut_by : (stop bytes : List ℕ) (found : Option ℕ)
    → (length stop == 0) ≡ false
    → FindsNeedle bytes stop 0 found
    → cut stop bytes ≡ parts_at stop bytes found
cut_by [] bytes found some finds = absurd (false≢true (sym some))
cut_by (byte ∷ stop) bytes found some finds =
    ap (parts_at (byte ∷ stop) bytes) (sym (FindsNeedle-value bytes (byte ∷ stop) found finds))
