-- What a run looks like in a picture: a colour, and the paint over it.
use Rattle.std.specs.Prelude.{ℕ, Option, Some, None}
use Rattle.descriptor.specs.declared.State.{State}
use Rattle.descriptor.specs.declared.State.TheVariants.{Owned, SharedOwned, SharedBorrowed}
use Rattle.svg_elements.specs.Items.{owner_colour}
use Rattle.svg_elements.specs.declared.colours.Colour.{Colour}
use Rattle.svg_elements.specs.declared.colours.Colour.TheVariants.{Black, Pale, White, Red}
use Rattle.svg_elements.specs.declared.item.Paint.{Paint}
use Rattle.svg_elements.specs.declared.item.Paint.TheVariants.{Plain, Lines, Dots, Bars}
use Rattle.table_words.specs.declared.word.Decoded.{Decoded}
use Rattle.table_words.specs.declared.word.Decoded.TheVariants as word
use Rattle.image_dump.specs.declared.looks.Look.{Look}

abbrev pub look : Colour → Paint → Look
look base paint = record { base = base; paint = paint }

-- pages of an owner
abbrev pub owned_by : ℕ → Look
owned_by owner = look (owner_colour owner) (Plain (owner_colour owner))

-- pages that a tree maps: its own, its own and shared, borrowed from another, or in no known state
abbrev pub mapped_look : ℕ → Option State → Look
mapped_look tree (Some Owned) = owned_by tree
mapped_look tree (Some SharedOwned) = look (owner_colour tree) (Lines Black)
mapped_look tree (Some SharedBorrowed) = look Pale (Lines (owner_colour tree))
mapped_look tree None = look Pale (Dots (owner_colour tree))

-- what pages of a tree look like: words that say nothing, or name a table that isn't there, have
-- red bars; a guest known by its handle alone has no colour, nor has a page that nobody maps
abbrev pub look_of : ℕ → Decoded → Look
look_of tree (word.Leaf m) = mapped_look tree m.state
look_of tree (word.Annotated owner None) = owned_by owner.0
look_of tree (word.Annotated owner (Some guest)) = look Pale (Bars Black)
look_of tree word.Poisoned = look Pale (Dots Black)
look_of tree word.Locked = look Pale (Dots Black)
look_of tree (word.Cleared m) = look Pale (Dots Black)
look_of tree word.Malformed = look White (Bars Red)
look_of tree word.Unmapped = look White (Bars Red)
look_of tree (word.Table frame) = look White (Bars Red)
