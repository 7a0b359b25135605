-- Lists of items with ranges, in order.
use Rattle.std.specs.Prelude.{◌≡◌, ℕ, ◌<◌, ◌≤◌, true, false, List, [], ◌∷◌, Option, Some, None, length, take, drop, get_or, if◌then◌else◌}
use Rattle.page_state.specs.declared.entry.PageRange.{PageRange}
use Rattle.page_state.specs.Regions.{end_of, is_in_range}
use Rattle.ghost_legal.specs.declared.places.Place.{Place}

module _ {T : Type 0} (range : T → PageRange) where
  -- the first range begins at the page or after it
  abbrev pub BeginsFrom : ℕ → List T → Type 0
  BeginsFrom page [] = Unit {0}
  BeginsFrom page (x ∷ xs) = page ≤ (range x).first.0

  -- each ends before the next begins
  abbrev pub AreInOrder : List T → Type 0
  AreInOrder [] = Unit {0}
  AreInOrder (x ∷ xs) = BeginsFrom (end_of (range x)) xs × AreInOrder xs

  -- each ends at the page or before it
  abbrev pub EndBy : ℕ → List T → Type 0
  EndBy page [] = Unit {0}
  EndBy page (x ∷ xs) = (end_of (range x) ≤ page) × EndBy page xs

  -- the first that has a page
  abbrev pub at : List T → ℕ → Option T
  at [] page = None
  at (x ∷ xs) page = if is_in_range (range x) page then Some x else at xs page

  -- so many of the first end at the page or before it
  pub record IsNear (page number : ℕ) (xs : List T) : Type 0 where
    pub within : number ≤ length xs
    pub before : EndBy page (take number xs)

  -- and no more do
  pub record IsNumber (page number : ℕ) (xs : List T) : Type 0 where
    pub near : IsNear page number xs
    pub next : (d : T) → number < length xs → page < end_of (range (get_or xs number d))

  -- the place of a page
  pub record IsPlace (page : ℕ) (p : Place) (xs : List T) : Type 0 where
    pub near : IsNear page p.number xs
    pub above : page < p.until
    pub inside : p.inside ≡ true
        → (p.number < length xs)
        × ((d : T)
        → ((range (get_or xs p.number d)).first.0 ≤ page)
        × (p.until ≡ end_of (range (get_or xs p.number d))))
    pub outside : p.inside ≡ false → BeginsFrom p.until (drop p.number xs)
