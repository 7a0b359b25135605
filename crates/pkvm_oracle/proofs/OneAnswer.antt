-- What is audited isn't refused, and has one answer; and what is refused has one reason.
use Rattle.std.proofs.Common.{Some, None, ap, inl, inr, refl}
use Rattle.c_states.specs.Layouts.{layout_from_c}
use Rattle.c_states.specs.States.{contents_from_c}
use Rattle.c_states.proofs.NoRefusal.{made_else}
use Rattle.c_states.proofs.OneReason.{either, next, unmade_once}
use Rattle.c_trees.specs.Entries.{kept_map}
use Rattle.c_trees.specs.Given.{tree_of}
use Rattle.c_trees.proofs.OneAnswer.{fault_once, trees_else}
use Rattle.table_audit.proofs.OneAnswer.{finding_once, well_else}
use Rattle.pkvm_oracle.specs.declared.audited.Unchecked.TheVariants.{Kept, Trees, NoMemory}
use Rattle.pkvm_oracle.specs.Audited.{found_from_c, geometry_from_c}
use Rattle.pkvm_oracle.specs.Laws.{CheckedElse, CheckedOnce, UncheckedOnce}

pub checked_else : CheckedElse
checked_else l regions kept pages roots told (Kept why) c h = made_else l regions kept why c.layout c.taken h
checked_else l regions kept pages roots told (Trees fault) c h =
    trees_else (geometry_from_c l) pages roots (kept_map (contents_from_c kept))
    (tree_of (geometry_from_c l) pages roots (kept_map (contents_from_c kept))) fault
    (record { given = c.checked.given; once = c.checked.once; trees_are = λ tree less. refl }) h.2
checked_else l regions kept pages roots told NoMemory c h = tt

pub checked_once : CheckedOnce
checked_once l regions kept pages roots None None a b = tt
checked_once l regions kept pages roots None (Some g) a b =
    absurd
    (well_else (layout_from_c l regions) (contents_from_c kept)
    (found_from_c (layout_from_c l regions) (contents_from_c kept) (geometry_from_c l) pages roots) g
    (a.checked.none.0 refl) b.checked.first)
checked_once l regions kept pages roots (Some f) None a b =
    absurd
    (well_else (layout_from_c l regions) (contents_from_c kept)
    (found_from_c (layout_from_c l regions) (contents_from_c kept) (geometry_from_c l) pages roots) f
    (b.checked.none.0 refl) a.checked.first)
checked_once l regions kept pages roots (Some f) (Some g) a b =
    finding_once (layout_from_c l regions) (contents_from_c kept)
    (found_from_c (layout_from_c l regions) (contents_from_c kept) (geometry_from_c l) pages roots) f g a.checked.first
    b.checked.first

pub unchecked_once : UncheckedOnce
unchecked_once l regions kept pages roots NoMemory g h k = inl tt
unchecked_once l regions kept pages roots (Kept f) NoMemory h k = inr (inl tt)
unchecked_once l regions kept pages roots (Kept f) (Kept g) h k =
    either (λ x. x) (next (λ x. x) (ap Kept)) (unmade_once l regions kept f g h k)
unchecked_once l regions kept pages roots (Kept f) (Trees g) h k = inl (made_else l regions kept f k.0 k.1 h)
unchecked_once l regions kept pages roots (Trees f) NoMemory h k = inr (inl tt)
unchecked_once l regions kept pages roots (Trees f) (Kept g) h k = inr (inl (made_else l regions kept g h.0 h.1 k))
unchecked_once l regions kept pages roots (Trees f) (Trees g) h k =
    either (λ x. x) (next (λ x. x) (ap Trees)) (fault_once (geometry_from_c l) pages roots f g h.2 k.2)
