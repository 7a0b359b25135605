-- What a parse found, and its rows.
use Rattle.std.proofs.Common.{◌≡◌, refl, ap, ◌∙◌, List, [], ◌∷◌, map, Option, Some, None, option_map, option_and_then, slice_get, find}
use Rattle.std.specs.Borrow.{Bor}
use Rattle.std.specs.Str.{bytes_eq}
use Rattle.clap.specs.Facts.{Entry}
use Rattle.clap.specs.Walk.{row_of}
use Rattle.clap.specs.Words.{Text, all_of, first_of, first_value, matched_of, raw_values, rows_of}
use Rattle.clap.specs.declared.parser.matches.Found.{Found}
use Rattle.clap.proofs.WalkLemmas.{find_row}

first_text : (xs : List (Bor Text)) → slice_get (map (λ s. s.now) xs) 0 ≡ option_map (λ s. s.now) (slice_get xs 0)
first_text [] = refl
first_text (x ∷ xs) = refl

in_row : (o : Option Entry)
    → option_and_then (λ r. slice_get r.values 0) (option_map row_of o)
    ≡ option_and_then (λ a. option_map (λ s. s.now) (slice_get a.vals.items 0)) (option_map (λ e. e.1) o)
in_row None = refl
in_row (Some e) = first_text e.1.vals.items

-- the first value of an id is the first of its row
pub first_is : (f : Found) (id : Text) → first_of id (rows_of f) ≡ first_value f id
first_is f id =
    ap (option_and_then (λ r. slice_get r.values 0)) (find_row f.entries.items id)
    ∙ in_row (find (λ e. bytes_eq e.0.now id) f.entries.items)

texts_of : (o : Option Entry)
    → option_map (λ r. r.values) (option_map row_of o) ≡ option_map raw_values (option_map (λ e. e.1) o)
texts_of None = refl
texts_of (Some e) = refl

-- all values of an id are those of its row
pub all_is : (f : Found) (id : Text) → all_of id (rows_of f) ≡ option_map raw_values (matched_of f id)
all_is f id =
    ap (option_map (λ r. r.values)) (find_row f.entries.items id)
    ∙ texts_of (find (λ e. bytes_eq e.0.now id) f.entries.items)
