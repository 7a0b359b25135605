-- The words for kinds of VMs and for rights, and their parsing (profile).
use Rattle.std.specs.Prelude.{ℕ, List, [], ◌∷◌, codes, Option}
use Rattle.std.specs.Map.{lookup}
use Rattle.std.specs.Str.{bytes_eq}
use Rattle.descriptor.specs.declared.Prot.{Prot}
use Rattle.descriptor.specs.declared.Prot.TheVariants.{R, RW, RX, RWX}
use Rattle.call_table.specs.declared.step.VmKind.{VmKind}
use Rattle.call_table.specs.declared.step.VmKind.TheVariants.{Protected, Plain}

abbrev pub text_of_vm_kind : VmKind → List ℕ
text_of_vm_kind Protected = codes "protected"
text_of_vm_kind Plain = codes "plain"

-- the words for kinds of VMs
abbrev pub vm_kinds : List (List ℕ × VmKind)
vm_kinds = (codes "protected", Protected) ∷ (codes "plain", Plain) ∷ []

-- the kind of VMs that a word names
abbrev pub vm_kind_named : List ℕ → Option VmKind
vm_kind_named word = lookup (bytes_eq word) vm_kinds

-- the words for rights: read, write, execute
abbrev pub rights_words : List (List ℕ × Prot)
rights_words = (codes "r", R) ∷ (codes "rw", RW) ∷ (codes "rx", RX) ∷ (codes "rwx", RWX) ∷ []

-- the rights that a word names
abbrev pub rights_named : List ℕ → Option Prot
rights_named word = lookup (bytes_eq word) rights_words
