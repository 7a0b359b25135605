-- The boot state is legal.
use Rattle.std.proofs.Common.{◌≡◌, ℕ, zero, suc, ◌+◌, ◌-◌, ◌≤◌, ◌<◌, refl, ap, sym, ◌∙◌, arith, inl, inr, List, [], ◌∷◌, length, take, drop}
use Rattle.std.specs.Prelude.{Bool, true, false, Option, None, if◌then◌else◌, filter_map, All}
use Rattle.std.specs.List.{cons_option}
use Rattle.std.proofs.lemmas.List.Elements.{All-weaker}
use Rattle.std.proofs.lemmas.Bool.Decides.{nat_tests}
use Rattle.descriptor.specs.declared.Kind.TheVariants.{Normal}
use Rattle.descriptor.specs.declared.Prot.TheVariants.{RW}
use Rattle.descriptor.specs.declared.State.TheVariants.{Owned}
use Rattle.page_state.specs.declared.entry.Entry.{Entry}
use Rattle.page_state.specs.declared.entry.Entry.TheVariants.{Unmapped, Leaf}
use Rattle.page_state.specs.declared.row.Usage.TheVariants.{SharedPool}
use Rattle.page_state.specs.Trees.{frames_from, root_tree, Block}
use Rattle.reference_model.specs.model.Boot.{pool_row, carve_first, host_edit, hyp_edit, host_root, hyp_root, spare, host_need, hyp_need, IsCarveEnough, boot_without_rows, booted}
use Rattle.page_state.specs.Counts.{is_one, frame_count}
use Rattle.page_state.specs.EntryTests.{annotation, leaf}
use Rattle.page_state.specs.Geometries.{pages_below}
use Rattle.page_state.specs.Map.{is_within}
use Rattle.reference_model.specs.model.State.{Contents, plain_row}
use Rattle.page_state.specs.declared.row.Row.{Row}
use Rattle.page_state.specs.Layouts.{Layout, is_memory, hyp_page}
use Rattle.reference_model.specs.model.Owner.{row_of}
use Rattle.page_state.specs.Tables.{Edit, freed, returned, edited}
use Rattle.reference_model.specs.help.Conditions.{Condition, outside, hosts, hyps, HostFits, hyp_entry_by, MapsFit, HeldFit, Legal, IsUsable, row_in, in_shared, in_vm, in_hand, one, table_uses, is_inside, IsGood}
use Rattle.reference_model.specs.claims.RunLaws.{BootLegal, EachBootRow}
use Rattle.reference_model.proofs.Boot.{spare-frames, boot_sound}
use Rattle.page_state.proofs.Common.{both, if-true, if-false}
use Rattle.page_state.proofs.Counts.{count_next, count_parts, count_split}
use Rattle.coarse_trees.specs.Coarsest.{IsInRange}
use Rattle.reference_model.proofs.conditions.Stands.{row-stands}
use Rattle.reference_model.proofs.conditions.OfLegal.{shared-of, guests-of}
use Rattle.reference_model.proofs.conditions.Tables.{edited-uses, freed-below}
use Rattle.coarse_trees.proofs.Stays.{root_is_coarsest, none_is_coarsest, edit_keeps_coarsest}
use Rattle.reference_model.proofs.conditions.Conserved.{length-drop}
use Rattle.reference_model.proofs.conditions.Moves.{pageless-named, is_calm, calm-pageless, calm-vm}
use Rattle.reference_model.proofs.conditions.FrameMoves.{no-uses}
use Rattle.reference_model.proofs.conditions.RangeMoves.{range-in, within-is}
use Rattle.reference_model.proofs.conditions.PoolSteps.{count-frames, root-none}
use Rattle.reference_model.proofs.conditions.HandSteps.{root-table-uses}

-- the carve-out is the hypervisor's, for trees and pool, and the rest of memory the host's
abbrev in_carve : Layout → ℕ → Bool
in_carve l f = is_within (carve_first l) l.memory.carve.count f

abbrev boot_condition : Layout → ℕ → Condition
boot_condition l f = if in_carve l f then hyps SharedPool else (if is_memory l f then hosts else outside)

filter_map-none : (table : Block → Option ℕ) (bs : List Block) → All (λ b. table b ≡ None) bs → filter_map table bs ≡ []
filter_map-none table [] h = refl
filter_map-none table (a ∷ bs) h =
    ap (λ o. cons_option o (filter_map table bs)) (h 0 a (omega arith))
    ∙ filter_map-none table bs (λ k d less. h (suc k) d (omega arith))

-- no table below a root alone comes back
returned-none : (depth root : ℕ) (e : Edit) → IsInRange depth e → returned depth (root_tree depth root) e ≡ []
unfolding returned
returned-none depth root e r =
    let low = freed-below depth (root_tree depth root) e r in
    filter_map-none (root_tree depth root).table (freed depth (root_tree depth root) e)
    (All-weaker (λ b. b.0 ≤ depth) (λ b. (root_tree depth root).table b ≡ None) none
    (freed depth (root_tree depth root) e) low)
  where
    none : (b : Block) → b.0 ≤ depth → (root_tree depth root).table b ≡ None
    none b low = root-none depth root b (λ e. let z : b.0 ≡ depth + 1 = ap (λ (x : Block). x.0) e in omega arith)

length-frames : (first n : ℕ) → length (frames_from first n) ≡ n
length-frames first zero = refl
length-frames first (suc n) = let e = length-frames (first + 1) n in omega arith

-- the frames of a range by its first two and the rest
two-first : (first n f : ℕ)
    → 2 ≤ n
    → is_one first f + (is_one (first + 1) f + frame_count f (frames_from (first + 2) (n - 2)))
    ≡ one (is_within first n f)
two-first first zero f h = absurd (omega arith)
two-first first (suc zero) f h = absurd (omega arith)
two-first first (suc (suc n)) f h =
    let a = count_next f first (frames_from (first + 1) (suc n)) in
    let b = count_next f (first + 1) (frames_from (first + 1 + 1) n) in
    let c = count-frames first (suc (suc n)) f in
    let p : first + 1 + 1 ≡ first + 2 = omega arith in
    let q : suc (suc n) - 2 ≡ n = omega arith in
    let d : frame_count f (frames_from (first + 2) (suc (suc n) - 2)) ≡ frame_count f (frames_from (first + 1 + 1) n) =
    ap (λ k. frame_count f (frames_from (first + 2) k)) q ∙ ap (λ k. frame_count f (frames_from k n)) (sym p) in
    omega arith

all-frames : (free host hyp ra rb ua ub oa ob ta tb t sp fr c z : ℕ)
    → host + ra ≡ ua + ta
    → hyp + rb ≡ ub + tb
    → ra ≡ 0
    → rb ≡ 0
    → ua ≡ oa
    → ub ≡ ob
    → t + free ≡ sp
    → t ≡ ta + tb
    → sp ≡ fr
    → oa + (ob + fr) ≡ c
    → z ≡ c
    → free + (host + hyp) ≡ z
all-frames free host hyp ra rb ua ub oa ob ta tb t sp fr c z a b d e g h p q i j k = omega arith

module _ (l : Layout) (enough : IsCarveEnough l) (usable : IsUsable l) where
  s : Contents
  s = boot_without_rows l

  carved : (f : ℕ) → in_carve l f ≡ true → boot_condition l f ≡ hyps SharedPool
  carved f h = if-true (in_carve l f) (hyps SharedPool) (if is_memory l f then hosts else outside) h

  calm : (f : ℕ) → is_calm (boot_condition l f) ≡ true
  calm f = go (in_carve l f) (is_memory l f)
    where
      go : (a b : Bool) → is_calm (if a then hyps SharedPool else (if b then hosts else outside)) ≡ true
      go true b = refl
      go false true = refl
      go false false = refl

  low : hyp_page (carve_first l) + l.memory.carve.count ≤ pages_below l.depth
  low = range-in l usable (carve_first l) l.memory.carve.count (omega arith) usable.carve

  host_range : IsInRange l.depth (host_edit l)
  host_range = let k = low in omega arith

  hyp_range : IsInRange l.depth (hyp_edit l)
  hyp_range = low

  maps : MapsFit s (boot_condition l)
  unfolding s edited
  maps = record {
    host = λ p. host (in_carve l p) (is_memory l p) p;
    hyp = λ f. elim (both (in_carve l f)) [
      | inl w ↦
          let at = within-is (carve_first l) l.memory.carve.count f w in
          let less : carve_first l ≤ f = at.0 in
          let in_hyp : is_within (hyp_page (carve_first l)) l.memory.carve.count (hyp_page f) ≡ true =
          let more : f < carve_first l + l.memory.carve.count = at.1 in
          grind (arith, nat_tests) in
          let e : Entry =
          Leaf (record { 0 = carve_first l + (hyp_page f - hyp_page (carve_first l)) }) RW Normal Owned in
          let n : carve_first l + (hyp_page f - hyp_page (carve_first l)) ≡ f = omega arith in
          if-true (is_within (hyp_page (carve_first l)) l.memory.carve.count (hyp_page f)) e Unmapped in_hyp
          ∙ ap (λ k. leaf RW k Owned) n ∙ ap (hyp_entry_by f) (sym (carved f w))
      | inr w ↦
          let out : is_within (hyp_page (carve_first l)) l.memory.carve.count (hyp_page f) ≡ false = hyp-out f w in
          let e : Entry =
          Leaf (record { 0 = carve_first l + (hyp_page f - hyp_page (carve_first l)) }) RW Normal Owned in
          if-false (is_within (hyp_page (carve_first l)) l.memory.carve.count (hyp_page f)) e Unmapped out
          ∙ says (in_carve l f) (is_memory l f) f w
    ];
    hyp_below = λ p less.
        let out : is_within (hyp_page (carve_first l)) l.memory.carve.count p ≡ false = grind (arith, nat_tests) in
        let e : Entry = Leaf (record { 0 = carve_first l + (p - hyp_page (carve_first l)) }) RW Normal Owned in
        if-false (is_within (hyp_page (carve_first l)) l.memory.carve.count p) e Unmapped out;
    guest = λ v g. inl refl;
    guest_has =
        λ v g f state h. pageless-named (boot_condition l f) state v g (calm-pageless (boot_condition l f) (calm f)) h;
  }
    where
      host : (a b : Bool) (p : ℕ)
          → HostFits p (if a then hyps SharedPool else (if b then hosts else outside))
          (if a then annotation 1 else Unmapped)
      host true b p = refl
      host false true p = inl refl
      host false false p = inl refl

      says : (a b : Bool) (f : ℕ)
          → a ≡ false
          → Unmapped ≡ hyp_entry_by f (if a then hyps SharedPool else (if b then hosts else outside))
      says true b f w = cc
      says false true f w = refl
      says false false f w = refl

      hyp-out : (f : ℕ)
          → in_carve l f ≡ false
          → is_within (hyp_page (carve_first l)) l.memory.carve.count (hyp_page f) ≡ false
      hyp-out f w = grind (arith, nat_tests)

  held : HeldFit l s (boot_condition l)
  unfolding s
  held = record {
    shared = λ f. sum-of f;
    vm = λ v f. let e = no-uses l.depth f in
        let k : one (in_vm v (boot_condition l f)) ≡ 0 = ap one (calm-vm v (boot_condition l f) (calm f)) in
        omega arith;
    hand = λ c f. hands (in_carve l f) (is_memory l f) c;
  }
    where
      hands : (a b : Bool) (c : ℕ) → false ≡ in_hand c (if a then hyps SharedPool else (if b then hosts else outside))
      hands true b c = refl
      hands false true c = refl
      hands false false c = refl

      shared-is : (a b : Bool) → in_shared (if a then hyps SharedPool else (if b then hosts else outside)) ≡ a
      shared-is true b = refl
      shared-is false true = refl
      shared-is false false = refl

      sum-of : (f : ℕ)
          → frame_count f (drop (host_need l + hyp_need l) (spare l)) +
          (table_uses l.depth (edited l.depth (host_root l) (host_edit l) (spare l)) f + table_uses l.depth
          (edited l.depth (hyp_root l) (hyp_edit l) (drop (host_need l) (spare l))) f)
          ≡ one (in_shared (boot_condition l f))
      sum-of f =
          let size : length (spare l) ≡ l.memory.carve.count - 2 =
          ap length (spare-frames l) ∙ length-frames (carve_first l + 2) (l.memory.carve.count - 2) in
          let left = length-drop (host_need l) (spare l) in
          let a = edited-uses l.depth (host_root l) (host_edit l) (spare l) f host_range (omega arith) in
          let b =
          edited-uses l.depth (hyp_root l) (hyp_edit l) (drop (host_need l) (spare l)) f hyp_range (omega arith) in
          let ra : frame_count f (returned l.depth (host_root l) (host_edit l)) ≡ 0 =
          ap (frame_count f) (returned-none l.depth (carve_first l) (host_edit l) host_range) in
          let rb : frame_count f (returned l.depth (hyp_root l) (hyp_edit l)) ≡ 0 =
          ap (frame_count f) (returned-none l.depth (carve_first l + 1) (hyp_edit l) hyp_range) in
          let ua = root-table-uses l.depth (carve_first l) f in
          let ub = root-table-uses l.depth (carve_first l + 1) f in
          let p = count_parts f (host_need l + hyp_need l) (spare l) in
          let q = count_split f (host_need l) (hyp_need l) (spare l) in
          let c : frame_count f (spare l) ≡ frame_count f (frames_from (carve_first l + 2) (l.memory.carve.count - 2)) =
          ap (frame_count f) (spare-frames l) in
          let d = two-first (carve_first l) l.memory.carve.count f (omega arith) in
          let z : one (in_shared (boot_condition l f)) ≡ one (in_carve l f) =
          ap one (shared-is (in_carve l f) (is_memory l f)) in
          all-frames (frame_count f (drop (host_need l + hyp_need l) (spare l)))
          (table_uses l.depth (edited l.depth (host_root l) (host_edit l) (spare l)) f)
          (table_uses l.depth (edited l.depth (hyp_root l) (hyp_edit l) (drop (host_need l) (spare l))) f)
          (frame_count f (returned l.depth (host_root l) (host_edit l)))
          (frame_count f (returned l.depth (hyp_root l) (hyp_edit l)))
          (table_uses l.depth (host_root l) f) (table_uses l.depth (hyp_root l) f) (is_one (carve_first l) f)
          (is_one (carve_first l + 1) f)
          (frame_count f (take (host_need l) (spare l)))
          (frame_count f (take (hyp_need l) (drop (host_need l) (spare l))))
          (frame_count f (take (host_need l + hyp_need l) (spare l))) (frame_count f (spare l))
          (frame_count f (frames_from (carve_first l + 2) (l.memory.carve.count - 2))) (one (in_carve l f))
          (one (in_shared (boot_condition l f))) a b ra rb ua ub p q c d z

  good : (f : ℕ) → IsGood l (boot_condition l f)
  good f = go (in_carve l f) (is_memory l f)
    where
      go : (a b : Bool) → IsGood l (if a then hyps SharedPool else (if b then hosts else outside))
      go true b = tt
      go false true = tt
      go false false = tt

  row-at : (f : ℕ) → is_memory l f ≡ true → row_of l (boot_without_rows l) f ≡ row_in f (boot_condition l f)
  unfolding s
  row-at f m =
      row-stands l (boot_without_rows l) f (boot_condition l f)
      (shared-of (boot_without_rows l) (boot_condition l) maps f l held)
      (guests-of (boot_without_rows l) (boot_condition l) maps f l held) (λ c. held.hand c f) (good f)
      (λ i. usable.pages f m)

  spare-size : length (spare l) ≡ l.memory.carve.count - 2
  spare-size = ap length (spare-frames l) ∙ length-frames (carve_first l + 2) (l.memory.carve.count - 2)

  legal : Legal l (booted l)
  unfolding s booted
  legal = record {
    condition = boot_condition l;
    of_layout = record { inside = λ f. inside (in_carve l f) (is_memory l f) (usable.carve f); good = good };
    maps =
        record {
          host = maps.host;
          hyp = maps.hyp;
          hyp_below = maps.hyp_below;
          guest = maps.guest;
          guest_has = maps.guest_has;
        };
    held = record { shared = held.shared; vm = held.vm; hand = held.hand };
    rows = λ f m. elim-true (is_memory l f) (row_of l (boot_without_rows l) f) m ∙ row-at f m;
    trees = record {
      host =
          edit_keeps_coarsest l.depth (host_root l) (host_edit l) (spare l) host_range
          (root_is_coarsest l.depth (carve_first l)) (let size = spare-size in omega arith);
      hyp =
          edit_keeps_coarsest l.depth (hyp_root l) (hyp_edit l) (drop (host_need l) (spare l)) hyp_range
          (root_is_coarsest l.depth (carve_first l + 1))
          (let size = spare-size in let left = length-drop (host_need l) (spare l) in omega arith);
      guest = λ v. none_is_coarsest l.depth;
    };
    guest_parts = record { blank = λ v h. refl; rooted = λ v h. absurd (h refl) };
    slots =
        record {
          agree = (boot_sound l enough).slots_agree;
          few_slots = λ v h. refl;
          few_vcpus = λ v i c h. cc;
          some_hand = λ c r h. cc;
        };
  }
    where
      inside : (a b : Bool)
          → (a ≡ true → b ≡ true)
          → is_inside (if a then hyps SharedPool else (if b then hosts else outside)) ≡ b
      inside true b h = sym (h refl)
      inside false true h = refl
      inside false false h = refl

      elim-true : (b : Bool) (r : Row) → b ≡ true → elim b [ true ↦ r | false ↦ plain_row ] ≡ r
      elim-true true r h = refl
      elim-true false r h = cc

pub boot_legal : BootLegal
boot_legal l enough usable = legal l enough usable

boot-row : (c m : Bool) (scratch : Row) (f : ℕ)
    → (c ≡ true → m ≡ true)
    → (m ≡ true → scratch ≡ row_in f (if c then hyps SharedPool else (if m then hosts else outside)))
    → (elim m [ true ↦ scratch | false ↦ plain_row ]) ≡ (if c then pool_row else plain_row)
boot-row true true r f h e = e refl
boot-row true false r f h e = let bad : false ≡ true = h refl in cc
boot-row false true r f h e = e refl
boot-row false false r f h e = refl

pub boot_rows : EachBootRow
unfolding booted
boot_rows l f enough usable =
    boot-row (in_carve l f) (is_memory l f) (row_of l (boot_without_rows l) f) f (usable.carve f)
    (row-at l enough usable f)
