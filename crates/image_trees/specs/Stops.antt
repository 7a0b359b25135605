-- How a walk ends early.
use Rattle.memory_image.specs.declared.refused.Refused.TheVariants.{NoMemory}
use Rattle.walked_tables.specs.declared.reached.Stopped.{Stopped}
use Rattle.walked_tables.specs.declared.reached.Stopped.TheVariants as stopped
use Rattle.image_trees.specs.declared.root.Unwalked.{Unwalked}
use Rattle.image_trees.specs.declared.root.Unwalked.TheVariants.{Again, Failed}

-- as the report of a tree has it
abbrev pub unwalked_by : Stopped → Unwalked
unwalked_by (stopped.Again first second) = Again first second
unwalked_by stopped.NoMemory = Failed NoMemory
