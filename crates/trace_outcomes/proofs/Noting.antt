-- What is told of one step more.
use Rattle.std.proofs.Common.{◌≡◌, ℕ, ◌<◌, List, ◌∙◌, refl, sym, ap, true, false, get_or, is_some, Vec, Global, Option, Some, None, Ok, length}
use Rattle.std.specs.Prelude.{option_map, slice_get, slice_set}
use Rattle.std.proofs.lemmas.List.{map-set}
use Rattle.std.proofs.lemmas.Option.{slice_get-map, slice_get_read}
use Rattle.call_table.specs.declared.step.Step.TheVariants.{Unfund}
use Rattle.trace_race.specs.declared.course.Asked.{Asked}
use Rattle.trace_outcomes.specs.Races.{texts_in}
use Rattle.trace_outcomes.specs.Reports.{is_reply, put}

one_text : (texts : List (Option (Vec ℕ Global))) (place : ℕ) (v : Vec ℕ Global)
    → texts_in (slice_set texts place (Some v)) ≡ slice_set (texts_in texts) place (Some v.items)
one_text texts place v = map-set (option_map (λ (x : Vec ℕ Global). x.items)) texts place (Some v)

pub put_down : (texts : List (Option (Vec ℕ Global))) (place : ℕ) (text : List ℕ) (v : Vec ℕ Global)
    → is_reply text ≡ true
    → slice_get texts place ≡ Some None
    → v.items ≡ text
    → put (texts_in texts) place text ≡ Ok (texts_in (slice_set texts place (Some v)))
put_down texts place text v reply none is =
    let there : slice_get (texts_in texts) place ≡ Some None =
    slice_get-map (option_map (λ (x : Vec ℕ Global). x.items)) texts place
    ∙ ap (option_map (option_map (λ (x : Vec ℕ Global). x.items))) none in
    rw (reply, there)
    (ap (λ t. Ok (slice_set (texts_in texts) place (Some t))) (sym is) ∙ ap Ok (sym (one_text texts place v)))

-- a step that stands for none
abbrev pub no_step : Asked
no_step = record { line = 0; cpu = 0; step = Unfund }

is_none : {X : Type 0} (o : Option X) → is_some o ≡ false → o ≡ None
is_none None e = refl
is_none (Some x) e = cc

-- nothing is told of a step
pub none_there : {X : Type 0} (texts : List (Option X)) (place : ℕ) (o : Option X)
    → place < length texts
    → o ≡ get_or texts place o
    → is_some o ≡ false
    → slice_get texts place ≡ Some None
none_there texts place o less there none =
    slice_get_read texts (length texts) place o refl less there ∙ ap Some (is_none o none)
