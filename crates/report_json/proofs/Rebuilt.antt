-- A line is made of the texts of its fields.
use Rattle.std.proofs.Common.{◌≡◌, ℕ, zero, suc, ◌+◌, List, [], ◌∷◌, ◌++◌, Option, Some, None, Bool, true, false, cond, length, take, drop, nat_eq, option_map, refl, sym, ap, subst, ◌∙◌, ⊎_elim, take-append-drop}
use Rattle.std.specs.List.{starts_with}
use Rattle.std.specs.Prelude.{codes}
use Rattle.std.proofs.lemmas.Bool.{cases_Bool, cond-true, cond-false}
use Rattle.std.proofs.lemmas.Bool.Decides.{Decides-eqb}
use Rattle.std.proofs.lemmas.Option.{option_and_then_some}
use Rattle.std.proofs.lemmas.Slice.Eq.{starts_is}
use Rattle.memchr.specs.Find.{first_of, matches, matches_from, occurs_at}
use Rattle.memchr.proofs.lemmas.MatchLemmas.{OccursAt-split, OccursAt-true}
use Rattle.serde_json.specs.Data.{Data, Members, string, object, no_members, put}
use Rattle.report_json.specs.declared.forms.Field.{Field}
use Rattle.report_json.specs.declared.forms.Form.{Form}
use Rattle.report_json.specs.Forms.{cut, data_of, filled, form_object}
use Rattle.report_json.specs.Made.{AreValues, IsMade, line_of}

some_is : {X : Type 0} {x y : X} → Some x ≡ Some y → x ≡ y
some_is h = cc

append_none : (xs : List ℕ) → xs ++ [] ≡ xs
append_none [] = refl
append_none (x ∷ xs) = ap (λ ys. x ∷ ys) (append_none xs)

module _ (hay needle : List ℕ) where
  first_occurs : (n i k : ℕ) → first_of (matches_from hay needle 0 i n) ≡ Some k → occurs_at hay needle k ≡ true
  unfolding first_of matches_from
  first_occurs zero i k h = cc
  first_occurs (suc n) i k h =
      ⊎_elim (λ t. subst (λ at. occurs_at hay needle at ≡ true) (some_is (sym (ap first_of (cond-true _ _ _ t)) ∙ h)) t)
      (λ f. first_occurs n (i + 1) k (sym (ap first_of (cond-false _ _ _ f)) ∙ h)) (cases_Bool (occurs_at hay needle i))

-- the parts of a cut and what they were cut at are all bytes
pub cut_joins : (stop bytes : List ℕ) (parts : List ℕ × List ℕ)
    → cut stop bytes ≡ Some parts
    → bytes ≡ parts.0 ++ (stop ++ parts.1)
cut_joins [] bytes parts h = subst (λ (p : List ℕ × List ℕ). bytes ≡ p.0 ++ p.1) (some_is h) (sym (append_none bytes))
cut_joins (byte ∷ more) bytes parts h = go (first_of (matches bytes stop 0)) refl h
  where
    stop : List ℕ
    stop = byte ∷ more

    go : (o : Option ℕ)
        → first_of (matches bytes (byte ∷ more) 0) ≡ o
        → option_map (λ place. (take place bytes, drop (place + length (byte ∷ more)) bytes)) o ≡ Some parts
        → bytes ≡ parts.0 ++ ((byte ∷ more) ++ parts.1)
    go None is h = cc
    go (Some place) is h =
        subst (λ (p : List ℕ × List ℕ). bytes ≡ p.0 ++ ((byte ∷ more) ++ p.1)) (some_is h)
        (sym (take-append-drop place bytes)
        ∙ ap (λ rest. take place bytes ++ rest)
        (OccursAt-split bytes (byte ∷ more) place
        (OccursAt-true bytes (byte ∷ more) place (first_occurs bytes (byte ∷ more) _ 0 place is))))

-- a text that has just these fields
pub fits : (fields : List Field) (text : List ℕ) (set all : Members) → filled fields text set ≡ Some all
    → (texts : List (List ℕ)) × (text ≡ line_of fields texts) × AreValues fields texts set all
fits [] [] set all h = ([], refl, sym (some_is h))
fits [] (byte ∷ text) set all h = cc
fits (field ∷ fields) text set all h =
    option_and_then_some _ (cut field.stop.now text) all h
    (λ parts is_cut then. option_and_then_some _ (data_of field.kind parts.0) all then (λ value is_value rest.
    let more = fits fields parts.1 (put field.name.now value set) all rest in (
      parts.0 ∷ more.0,
      cut_joins field.stop.now text parts is_cut
          ∙ ap (λ r. parts.0 ++ (field.stop.now ++ r)) more.1,
      (value, is_value, more.2),
    )))

pub made : (form : Form) (line : List ℕ) (found : Data) → form_object form line ≡ Some found → IsMade form line found
made form line found h = go (starts_with nat_eq line form.start.now) refl h
  where
    begun : Members
    begun = put (codes "type") (string form.kind.now) no_members

    found_in : Option Data
    found_in = option_map object (filled form.fields.now (drop (length form.start.now) line) begun)

    of_all : (o : Option Members)
        → filled form.fields.now (drop (length form.start.now) line) begun ≡ o
        → option_map object o ≡ Some found
        → line ≡ form.start.now ++ drop (length form.start.now) line
        → IsMade form line found
    of_all None is h starts = cc
    of_all (Some all) is h starts =
        let fit = fits form.fields.now (drop (length form.start.now) line) begun all is in
        record {
          texts = fit.0;
          is_line = starts
              ∙ ap (λ rest. form.start.now ++ rest) fit.1;
          all = all;
          is_object = sym (some_is h);
          has_values = fit.2;
        }

    go : (b : Bool)
        → starts_with nat_eq line form.start.now ≡ b
        → (cond b found_in None) ≡ Some found
        → IsMade form line found
    go false is h = cc
    go true is h =
        of_all _ refl h ((starts_is Decides-eqb line form.start.now (starts_with nat_eq line form.start.now) refl).0 is)
