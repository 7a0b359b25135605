use Rattle.std.proofs.Common.{◌≡◌, ℕ, ◌∙◌, ◌+◌, ◌*◌, ◌%◌, ◌^◌, ◌↔◌, refl, sym, subst, ap, arith, cond, Bool, true, false, Some, None, Option, ◌&&◌, ◌==◌}
use Rattle.std.proofs.lemmas.Bool.Decides.{nat_tests}
use Rattle.descriptor.specs.Word.{field, page_bit, has_leaves, level_pages, is_upper, IsAnnotation}
use Rattle.descriptor.specs.declared.Level.{Level}
use Rattle.descriptor.specs.declared.Level.TheVariants.{Zero, One, Two, Three}
use Rattle.descriptor.specs.declared.Owner.{Owner}
use Rattle.descriptor.specs.declared.Frame.{Frame}
use Rattle.descriptor.specs.declared.State.{State}
use Rattle.table_words.specs.Said.{memory_of, access_of, execute_of, state_of, aged_of, guarded_of, frame_of, HasBesideAddress, IsLeaf, IsTable, IsAnnotated, IsPoisoned, IsLocked, IsCleared, IsHypervisors, IsGuests, Says, DecodesTo}
use Rattle.table_words.specs.Decoding.{has_beside_address, has_leaf_form, mapping_of, leaf_in, table_in, byte_owner_in, donated_in, cleared_of, invalid_in, leaf_or_malformed, table_or_leaf, decoded_of}
use Rattle.table_words.specs.declared.profile.Profile.{Profile}
use Rattle.table_words.specs.declared.profile.InvalidForm.{InvalidForm}
use Rattle.table_words.specs.declared.profile.InvalidForm.TheVariants.{OwnerByte, OwnerOrLock, Lock, Donation, Poison, ClearedLeaf}
use Rattle.table_words.specs.declared.word.Access.{Access}
use Rattle.table_words.specs.declared.word.Execute.{Execute}
use Rattle.table_words.specs.declared.word.Memory.{Memory}
use Rattle.table_words.specs.declared.word.Mapping.{Mapping}
use Rattle.table_words.specs.declared.word.Guest.{Guest}
use Rattle.table_words.specs.declared.word.Decoded.{Decoded}
use Rattle.table_words.specs.declared.word.Decoded.TheVariants.{Malformed, Unmapped, Annotated, Poisoned, Locked, Cleared, Leaf, Table}

cond_ind : {D : Type 0} (P : D → Type 0) (b : Bool) (x y : D) → (b ≡ true → P x) → (b ≡ false → P y) → P (cond b x y)
cond_ind P true x y f g = f refl
cond_ind P false x y f g = g refl

-- a leaf's form is found where the leaf is said
form_found : (p : Profile) (l : Level) (w : ℕ) (m : Mapping)
    → IsLeaf p l w m
    → (wide : Bool)
    → p.lpa2 ≡ wide
    → has_leaf_form wide l w ≡ true
form_found p l w m h true e = let a : frame_of true w % level_pages l ≡ 0 =
    subst (λ x. frame_of x w % level_pages l ≡ 0) e h.aligned in
    grind (arith, nat_tests)
form_found p l w m h false e =
    let s : HasBesideAddress false 3 w = subst (λ x. HasBesideAddress x 3 w) e h.shareable in
    let a : frame_of false w % level_pages l ≡ 0 = subst (λ x. frame_of x w % level_pages l ≡ 0) e h.aligned in
    grind (arith, nat_tests)

leaf_found : (p : Profile) (l : Level) (w : ℕ) (m : Mapping) → IsLeaf p l w m → leaf_in p l w ≡ Some m
unfolding leaf_in
leaf_found p l w m h =
    rw (
      form_found p l w m h p.lpa2 refl,
      h.memory_is,
      h.access_is,
      h.execute_is,
      h.state_is,
      h.guarded_is,
      h.aged_is,
      sym h.frame_is,
    ) refl

-- the leaf of an option that has one
abbrev held : Mapping → Option Mapping → Mapping
held d None = d
held d (Some m) = m

-- what was found of a mapping
record Parts (b : Bool) (om : Option Memory) (oa : Option Access) (oe : Option Execute) (os : Option (Option State))
    (og oo : Option Bool) (n : ℕ) (m : Mapping) : Type 0 where
  form : b ≡ true
  memory : om ≡ Some m.memory
  access : oa ≡ Some m.access
  execute : oe ≡ Some m.execute
  state : os ≡ Some m.state
  guarded : og ≡ Some m.guarded
  aged : oo ≡ Some m.aged
  number : m.frame.0 ≡ n

parts : (b : Bool) (om : Option Memory) (oa : Option Access) (oe : Option Execute) (os : Option (Option State))
    (og oo : Option Bool) (n : ℕ) (m : Mapping)
    → mapping_of b om oa oe os og oo n ≡ Some m
    → Parts b om oa oe os og oo n m
parts true (Some a) (Some b) (Some c) (Some d) (Some g) (Some o) n m e =
    let x : Mapping =
    record { frame = record { 0 = n }; access = b; execute = c; memory = a; state = d; guarded = g; aged = o } in
    let q : x ≡ m = ap (held m) e in
    record {
      form = refl;
      memory = ap (λ (y : Mapping). Some y.memory) q;
      access = ap (λ (y : Mapping). Some y.access) q;
      execute = ap (λ (y : Mapping). Some y.execute) q;
      state = ap (λ (y : Mapping). Some y.state) q;
      guarded = ap (λ (y : Mapping). Some y.guarded) q;
      aged = ap (λ (y : Mapping). Some y.aged) q;
      number = sym (ap (λ (y : Mapping). y.frame.0) q);
    }
parts b om oa oe os og oo n m e = absurd (cc)

-- the bits that every leaf has
record Form (wide : Bool) (l : Level) (w : ℕ) : Type 0 where
  leaves : has_leaves l ≡ true
  valid : field w 0 1 ≡ 1
  page : field w 1 1 ≡ page_bit l
  shareable : HasBesideAddress wide 3 w
  zero_11 : field w 11 1 ≡ 0
  aligned : frame_of wide w % level_pages l ≡ 0
  zero_51 : field w 51 2 ≡ 0
  zero_57 : field w 57 7 ≡ 0

form_right : (wide : Bool) (l : Level) (w : ℕ) → has_leaf_form wide l w ≡ true → Form wide l w
form_right true Zero w e = absurd (grind (arith, nat_tests))
form_right false Zero w e = absurd (grind (arith, nat_tests))
form_right true One w e =
    record {
      leaves = refl;
      valid = grind (arith, nat_tests);
      page = grind (arith, nat_tests);
      shareable = tt;
      zero_11 =
          grind (arith, nat_tests);
      aligned =
          grind (arith, nat_tests);
      zero_51 = grind (arith, nat_tests);
      zero_57 = grind (arith, nat_tests);
    }
form_right true Two w e =
    record {
      leaves = refl;
      valid = grind (arith, nat_tests);
      page = grind (arith, nat_tests);
      shareable = tt;
      zero_11 =
          grind (arith, nat_tests);
      aligned =
          grind (arith, nat_tests);
      zero_51 = grind (arith, nat_tests);
      zero_57 = grind (arith, nat_tests);
    }
form_right true Three w e =
    record {
      leaves = refl;
      valid = grind (arith, nat_tests);
      page = grind (arith, nat_tests);
      shareable = tt;
      zero_11 =
          grind (arith, nat_tests);
      aligned =
          grind (arith, nat_tests);
      zero_51 = grind (arith, nat_tests);
      zero_57 = grind (arith, nat_tests);
    }
form_right false One w e =
    record {
      leaves = refl;
      valid = grind (arith, nat_tests);
      page = grind (arith, nat_tests);
      shareable =
          (grind (arith, nat_tests), grind (arith, nat_tests));
      zero_11 =
          grind (arith, nat_tests);
      aligned =
          grind (arith, nat_tests);
      zero_51 = grind (arith, nat_tests);
      zero_57 = grind (arith, nat_tests);
    }
form_right false Two w e =
    record {
      leaves = refl;
      valid = grind (arith, nat_tests);
      page = grind (arith, nat_tests);
      shareable =
          (grind (arith, nat_tests), grind (arith, nat_tests));
      zero_11 =
          grind (arith, nat_tests);
      aligned =
          grind (arith, nat_tests);
      zero_51 = grind (arith, nat_tests);
      zero_57 = grind (arith, nat_tests);
    }
form_right false Three w e =
    record {
      leaves = refl;
      valid = grind (arith, nat_tests);
      page = grind (arith, nat_tests);
      shareable =
          (grind (arith, nat_tests), grind (arith, nat_tests));
      zero_11 =
          grind (arith, nat_tests);
      aligned =
          grind (arith, nat_tests);
      zero_51 = grind (arith, nat_tests);
      zero_57 = grind (arith, nat_tests);
    }

leaf_from_c : (p : Profile) (l : Level) (w : ℕ) (m : Mapping) → leaf_in p l w ≡ Some m → IsLeaf p l w m
unfolding leaf_in
leaf_from_c p l w m e =
    let x =
    parts (has_leaf_form p.lpa2 l w) (memory_of p.memory (field w 2 4)) (access_of p.access (field w 6 2))
    (execute_of p.execute (field w 53 2)) (state_of p.has_states (field w 55 2))
    (guarded_of p.guards (field w 50 1)) (aged_of p.ages (field w 10 1)) (frame_of p.lpa2 w) m e in
    let f = form_right p.lpa2 l w x.form in
    record {
      leaves = f.leaves;
      valid = f.valid;
      page = f.page;
      memory_is = x.memory;
      access_is = x.access;
      shareable = f.shareable;
      aged_is = x.aged;
      zero_11 = f.zero_11;
      frame_is = x.number;
      aligned = f.aligned;
      guarded_is = x.guarded;
      zero_51 = f.zero_51;
      execute_is = x.execute;
      state_is = x.state;
      zero_57 = f.zero_57;
    }

-- tables
abbrev table_test : Bool → Level → ℕ → Bool
table_test lpa2 level word =
    is_upper level && field word 0 2 == 3 && field word 2 6 == 0 && has_beside_address lpa2 0 word
    && field word 10 2 == 0 && field word 50 14 == 0

table_found : (wide : Bool) (l : Level) (w : ℕ) (f : Frame) → IsTable wide l w f.0 → table_in wide l w ≡ Some f
unfolding table_in
table_found wide Three w f h = absurd (h.upper refl)
table_found true Zero w f h = let t : table_test true Zero w ≡ true = grind (arith, nat_tests) in
    rw (t, sym h.frame_is) refl
table_found true One w f h = let t : table_test true One w ≡ true = grind (arith, nat_tests) in
    rw (t, sym h.frame_is) refl
table_found true Two w f h = let t : table_test true Two w ≡ true = grind (arith, nat_tests) in
    rw (t, sym h.frame_is) refl
table_found false Zero w f h = let t : table_test false Zero w ≡ true = grind (arith, nat_tests) in
    rw (t, sym h.frame_is) refl
table_found false One w f h = let t : table_test false One w ≡ true = grind (arith, nat_tests) in
    rw (t, sym h.frame_is) refl
table_found false Two w f h = let t : table_test false Two w ≡ true = grind (arith, nat_tests) in
    rw (t, sym h.frame_is) refl

table_right : (wide : Bool) (l : Level) (w : ℕ) → table_test wide l w ≡ true → IsTable wide l w (frame_of wide w)
table_right wide Three w e = absurd (grind (arith, nat_tests))
table_right true Zero w e =
    record {
      upper = λ h. cc;
      valid = grind (arith, nat_tests);
      middle = grind (arith, nat_tests);
      plain = tt;
      zero_10 = grind (arith, nat_tests);
      frame_is = refl;
      top = grind (arith, nat_tests);
    }
table_right true One w e =
    record {
      upper = λ h. cc;
      valid = grind (arith, nat_tests);
      middle = grind (arith, nat_tests);
      plain = tt;
      zero_10 = grind (arith, nat_tests);
      frame_is = refl;
      top = grind (arith, nat_tests);
    }
table_right true Two w e =
    record {
      upper = λ h. cc;
      valid = grind (arith, nat_tests);
      middle = grind (arith, nat_tests);
      plain = tt;
      zero_10 = grind (arith, nat_tests);
      frame_is = refl;
      top = grind (arith, nat_tests);
    }
table_right false Zero w e =
    record {
      upper = λ h. cc;
      valid = grind (arith, nat_tests);
      middle = grind (arith, nat_tests);
      plain =
          (grind (arith, nat_tests), grind (arith, nat_tests));
      zero_10 =
          grind (arith, nat_tests);
      frame_is = refl;
      top = grind (arith, nat_tests);
    }
table_right false One w e =
    record {
      upper = λ h. cc;
      valid = grind (arith, nat_tests);
      middle = grind (arith, nat_tests);
      plain =
          (grind (arith, nat_tests), grind (arith, nat_tests));
      zero_10 =
          grind (arith, nat_tests);
      frame_is = refl;
      top = grind (arith, nat_tests);
    }
table_right false Two w e =
    record {
      upper = λ h. cc;
      valid = grind (arith, nat_tests);
      middle = grind (arith, nat_tests);
      plain =
          (grind (arith, nat_tests), grind (arith, nat_tests));
      zero_10 =
          grind (arith, nat_tests);
      frame_is = refl;
      top = grind (arith, nat_tests);
    }

abbrev frame_held : Frame → Option Frame → Frame
frame_held d None = d
frame_held d (Some f) = f

table_said : (wide : Bool) (l : Level) (w : ℕ) (f : Frame) → table_in wide l w ≡ Some f → IsTable wide l w f.0
unfolding table_in
table_said wide l w f =
    cond_ind (λ o. o ≡ Some f → IsTable wide l w f.0) (table_test wide l w) (Some (record { 0 = frame_of wide w })) None
    (λ t e. let q : frame_of wide w ≡ f.0 = ap (λ o. (frame_held f o).0) e in
    subst (λ n. IsTable wide l w n) q (table_right wide l w t))
    (λ t e. absurd (cc))

-- a leaf is no table
not_table : (p : Profile) (l : Level) (w : ℕ) (m : Mapping) → IsLeaf p l w m → table_in p.lpa2 l w ≡ None
unfolding table_in
not_table p Zero w m h = absurd (let e : has_leaves Zero ≡ true = h.leaves in cc)
not_table p One w m h = let t : table_test p.lpa2 One w ≡ false = grind (arith, nat_tests) in rw t refl
not_table p Two w m h = let t : table_test p.lpa2 Two w ≡ false = grind (arith, nat_tests) in rw t refl
not_table p Three w m h = refl

-- invalid words: what is said is found, and neither 0 nor valid
record Found (p : Profile) (f : InvalidForm) (l : Level) (w : ℕ) (d : Decoded) : Type 0 where
  found : invalid_in p f l w ≡ d
  some : (w == 0) ≡ false
  invalid : (field w 0 1 == 0) ≡ true

byte_found : (w : ℕ) (o : Owner) → IsAnnotation w o.0 → byte_owner_in w ≡ Annotated o None
byte_found w o h =
    let some : (field w 2 8 == 0) ≡ false = grind (arith, nat_tests) in
    let rest : (field w 0 2 == 0) && (field w 10 54 == 0) ≡ true = grind (arith, nat_tests) in
    rw (some, rest, h.owner_is) refl

hypervisors_found : (w : ℕ) (o : Owner) → IsHypervisors w o.0 → donated_in w ≡ Annotated o None
hypervisors_found w o h =
    let kind : (field w 60 4 == 2) ≡ true = grind (arith, nat_tests) in
    let rest : (field w 0 4 == 2) && (field w 4 56 == 0) ≡ true = grind (arith, nat_tests) in
    rw (kind, rest, sym h.owner_one) refl

guests_found : (w : ℕ) (o : Owner) (g : Guest) → IsGuests w o.0 g → donated_in w ≡ Annotated o (Some g)
guests_found w o g h =
    let kind : (field w 60 4 == 2) ≡ true = grind (arith, nat_tests) in
    let other : (field w 0 4 == 2) && (field w 4 56 == 0) ≡ false = grind (arith, nat_tests) in
    let low : (field w 0 4 == 4) ≡ true = grind (arith, nat_tests) in
    rw (kind, other, low, h.handle_is, h.gfn_is, sym h.owner_two) refl

annotated_found : (p : Profile) (f : InvalidForm) (l : Level) (w : ℕ) (o : Owner) (g : Option Guest)
    → IsAnnotated f w o.0 g
    → Found p f l w (Annotated o g)
unfolding invalid_in
annotated_found p OwnerByte l w o None h =
    record { found = byte_found w o h; some = grind (arith, nat_tests); invalid = grind (arith, nat_tests) }
annotated_found p OwnerOrLock l w o None h = record {
  found = let t : (w == 2 ^ 10) ≡ false = grind (arith, nat_tests) in rw t (byte_found w o h);
  some = grind (arith, nat_tests);
  invalid = grind (arith, nat_tests);
}
annotated_found p Donation l w o None h = record {
  found = let t : (w == 2 ^ 60) ≡ false = grind (arith, nat_tests) in rw t (hypervisors_found w o h);
  some = grind (arith, nat_tests);
  invalid = grind (arith, nat_tests);
}
annotated_found p Donation l w o (Some g) h = record {
  found = let t : (w == 2 ^ 60) ≡ false = grind (arith, nat_tests) in rw t (guests_found w o g h);
  some = grind (arith, nat_tests);
  invalid = grind (arith, nat_tests);
}
annotated_found p f l w o g h = absurd h

poisoned_found : (p : Profile) (f : InvalidForm) (l : Level) (w : ℕ) → IsPoisoned f w → Found p f l w Poisoned
unfolding invalid_in
poisoned_found p Poison l w h = rw h (record { found = refl; some = refl; invalid = refl })
poisoned_found p f l w h = absurd h

locked_found : (p : Profile) (f : InvalidForm) (l : Level) (w : ℕ) → IsLocked f w → Found p f l w Locked
unfolding invalid_in
locked_found p OwnerOrLock l w h = rw h (record { found = refl; some = refl; invalid = refl })
locked_found p Lock l w h = rw h (record { found = refl; some = refl; invalid = refl })
locked_found p Donation l w h = rw h (record { found = refl; some = refl; invalid = refl })
locked_found p Poison l w h = rw h (record { found = refl; some = refl; invalid = refl })
locked_found p f l w h = absurd h

cleared_found : (p : Profile) (l : Level) (w : ℕ) (m : Mapping) → IsCleared p l w m → Found p p.invalid l w (Cleared m)
unfolding invalid_in
cleared_found p l w m h =
    let e : invalid_in p ClearedLeaf l w ≡ Cleared m = ap cleared_of (leaf_found p l (w + 1) m h.was) in
    record {
      found = subst (λ f. invalid_in p f l w ≡ Cleared m) (sym h.kept) e;
      some = let n : w ≡ 0 → ⊥ = h.some in grind (arith, nat_tests);
      invalid = let n : field w 0 1 ≡ 0 = h.invalid in grind (arith, nat_tests);
    }

-- what a word says is what the function gives
invalid_decoded : (p : Profile) (l : Level) (w : ℕ) (d : Decoded) → Found p p.invalid l w d → decoded_of p l w ≡ d
unfolding decoded_of
invalid_decoded p l w d h = rw (h.some, h.invalid) h.found

said_decoded : (p : Profile) (l : Level) (w : ℕ) (d : Decoded) → Says p l w d → decoded_of p l w ≡ d
unfolding decoded_of
said_decoded p l w Malformed h = absurd h
said_decoded p l w Unmapped h = rw h refl
said_decoded p l w (Annotated o g) h = invalid_decoded p l w (Annotated o g) (annotated_found p p.invalid l w o g h)
said_decoded p l w Poisoned h = invalid_decoded p l w Poisoned (poisoned_found p p.invalid l w h)
said_decoded p l w Locked h = invalid_decoded p l w Locked (locked_found p p.invalid l w h)
said_decoded p l w (Cleared m) h = invalid_decoded p l w (Cleared m) (cleared_found p l w m h)
said_decoded p l w (Leaf m) h =
    let v : field w 0 1 ≡ 1 = h.valid in
    let some : (w == 0) ≡ false = grind (arith, nat_tests) in
    let valid : (field w 0 1 == 0) ≡ false = grind (arith, nat_tests) in
    rw (some, valid, not_table p l w m h, leaf_found p l w m h) refl
said_decoded p l w (Table f) h =
    let v : field w 0 2 ≡ 3 = h.valid in
    let some : (w == 0) ≡ false = grind (arith, nat_tests) in
    let valid : (field w 0 1 == 0) ≡ false = grind (arith, nat_tests) in
    rw (some, valid, table_found p.lpa2 l w f h) refl

-- what the function gives is said, but for Malformed
abbrev IsSound : Profile → Level → ℕ → Decoded → Type 0
IsSound p l w Malformed = Unit {0}
IsSound p l w Unmapped = Says p l w Unmapped
IsSound p l w (Annotated o g) = Says p l w (Annotated o g)
IsSound p l w Poisoned = Says p l w Poisoned
IsSound p l w Locked = Says p l w Locked
IsSound p l w (Cleared m) = Says p l w (Cleared m)
IsSound p l w (Leaf m) = Says p l w (Leaf m)
IsSound p l w (Table f) = Says p l w (Table f)

leaf_sound : (p : Profile) (l : Level) (w : ℕ) (o : Option Mapping)
    → leaf_in p l w ≡ o
    → IsSound p l w (leaf_or_malformed o)
leaf_sound p l w (Some m) e = leaf_from_c p l w m e
leaf_sound p l w None e = tt

valid_sound : (p : Profile) (l : Level) (w : ℕ) (t : Option Frame) (o : Option Mapping)
    → table_in p.lpa2 l w ≡ t
    → leaf_in p l w ≡ o
    → IsSound p l w (table_or_leaf t o)
valid_sound p l w (Some f) o s e = table_said p.lpa2 l w f s
valid_sound p l w None o s e = leaf_sound p l w o e

byte_sound : (p : Profile) (f : InvalidForm) (l : Level) (w : ℕ)
    → p.invalid ≡ f
    → ((o : Owner) → IsAnnotation w o.0 → IsAnnotated f w o.0 None)
    → IsSound p l w (byte_owner_in w)
byte_sound p f l w e give =
    cond_ind (IsSound p l w) (field w 2 8 == 0) _ _ (λ z. tt)
    (λ nz. cond_ind (IsSound p l w) (field w 0 2 == 0 && field w 10 54 == 0) _ _
    (λ r. let o : Owner = record { 0 = field w 2 8 } in
    subst (λ x. IsAnnotated x w o.0 None) (sym e)
    (give o
    (record {
      from_one = grind (arith, nat_tests);
      byte = grind (arith, nat_tests);
      low = grind (arith, nat_tests);
      owner_is = refl;
      top = grind (arith, nat_tests);
    })))
    (λ r. tt))

donated_sound : (p : Profile) (l : Level) (w : ℕ) → p.invalid ≡ Donation → IsSound p l w (donated_in w)
donated_sound p l w e =
    cond_ind (IsSound p l w) (field w 60 4 == 2) _ _
    (λ k. cond_ind (IsSound p l w) (field w 0 4 == 2 && field w 4 56 == 0) _ _
    (λ r. subst (λ x. IsAnnotated x w 1 None) (sym e)
    (record {
      owner_one = refl;
      low = grind (arith, nat_tests);
      rest = grind (arith, nat_tests);
      donated = grind (arith, nat_tests);
    }))
    (λ r. cond_ind (IsSound p l w) (field w 0 4 == 4) _ _
    (λ s. let g : Guest = record { handle = field w 4 16; gfn = field w 20 40 } in
    subst (λ x. IsAnnotated x w 2 (Some g)) (sym e)
    (record {
      owner_two = refl;
      low = grind (arith, nat_tests);
      handle_is = refl;
      gfn_is = refl;
      donated = grind (arith, nat_tests);
    }))
    (λ s. tt)))
    (λ k. tt)

cleared_sound : (p : Profile) (l : Level) (w : ℕ) (o : Option Mapping)
    → p.invalid ≡ ClearedLeaf
    → (w ≡ 0 → ⊥)
    → field w 0 1 ≡ 0
    → leaf_in p l (w + 1) ≡ o
    → IsSound p l w (cleared_of o)
cleared_sound p l w (Some m) f some z e =
    record { kept = f; some = some; invalid = z; was = leaf_from_c p l (w + 1) m e }
cleared_sound p l w None f some z e = tt

invalid_sound : (p : Profile) (f : InvalidForm) (l : Level) (w : ℕ)
    → p.invalid ≡ f
    → (w ≡ 0 → ⊥)
    → field w 0 1 ≡ 0
    → IsSound p l w (invalid_in p f l w)
unfolding invalid_in
invalid_sound p OwnerByte l w e some z = byte_sound p OwnerByte l w e (λ o h. h)
invalid_sound p OwnerOrLock l w e some z =
    cond_ind (IsSound p l w) (w == 2 ^ 10) _ _ (λ t. subst (λ x. IsLocked x w) (sym e) (grind (arith, nat_tests)))
    (λ t. byte_sound p OwnerOrLock l w e (λ o h. h))
invalid_sound p Lock l w e some z =
    cond_ind (IsSound p l w) (w == 2 ^ 10) _ _ (λ t. subst (λ x. IsLocked x w) (sym e) (grind (arith, nat_tests)))
    (λ t. tt)
invalid_sound p Donation l w e some z =
    cond_ind (IsSound p l w) (w == 2 ^ 60) _ _ (λ t. subst (λ x. IsLocked x w) (sym e) (grind (arith, nat_tests)))
    (λ t. donated_sound p l w e)
invalid_sound p Poison l w e some z =
    cond_ind (IsSound p l w) (w == 2 ^ 60) _ _ (λ t. subst (λ x. IsLocked x w) (sym e) (grind (arith, nat_tests)))
    (λ t. cond_ind (IsSound p l w) (w == 3 * 2 ^ 60) _ _
    (λ s. subst (λ x. IsPoisoned x w) (sym e) (grind (arith, nat_tests))) (λ s. tt))
invalid_sound p ClearedLeaf l w e some z = cleared_sound p l w (leaf_in p l (w + 1)) e some z refl

sound : (p : Profile) (l : Level) (w : ℕ) → IsSound p l w (decoded_of p l w)
unfolding decoded_of
sound p l w =
    cond_ind (IsSound p l w) (w == 0) _ _ (λ z. grind (arith, nat_tests))
    (λ nz. cond_ind (IsSound p l w) (field w 0 1 == 0) _ _
    (λ i. invalid_sound p p.invalid l w refl (grind (arith, nat_tests)) (grind (arith, nat_tests)))
    (λ v. valid_sound p l w (table_in p.lpa2 l w) (leaf_in p l w) refl refl))

-- the function gives what is said
given_said : (p : Profile) (l : Level) (w : ℕ) (d : Decoded)
    → decoded_of p l w ≡ d
    → IsSound p l w d
    → DecodesTo p l w d
given_said p l w Malformed e h = λ d s. let q : Malformed ≡ d = sym e ∙ said_decoded p l w d s in
    subst (λ x. Says p l w x) (sym q) s
given_said p l w Unmapped e h = h
given_said p l w (Annotated o g) e h = h
given_said p l w Poisoned e h = h
given_said p l w Locked e h = h
given_said p l w (Cleared m) e h = h
given_said p l w (Leaf m) e h = h
given_said p l w (Table f) e h = h

said_given : (p : Profile) (l : Level) (w : ℕ) (d : Decoded)
    → DecodesTo p l w d
    → (x : Decoded)
    → decoded_of p l w ≡ x
    → IsSound p l w x
    → x ≡ d
said_given p l w Malformed h Malformed e s = refl
said_given p l w Malformed h Unmapped e s = absurd (h Unmapped s)
said_given p l w Malformed h (Annotated o g) e s = absurd (h (Annotated o g) s)
said_given p l w Malformed h Poisoned e s = absurd (h Poisoned s)
said_given p l w Malformed h Locked e s = absurd (h Locked s)
said_given p l w Malformed h (Cleared m) e s = absurd (h (Cleared m) s)
said_given p l w Malformed h (Leaf m) e s = absurd (h (Leaf m) s)
said_given p l w Malformed h (Table f) e s = absurd (h (Table f) s)
said_given p l w Unmapped h x e s = sym e ∙ said_decoded p l w Unmapped h
said_given p l w (Annotated o g) h x e s = sym e ∙ said_decoded p l w (Annotated o g) h
said_given p l w Poisoned h x e s = sym e ∙ said_decoded p l w Poisoned h
said_given p l w Locked h x e s = sym e ∙ said_decoded p l w Locked h
said_given p l w (Cleared m) h x e s = sym e ∙ said_decoded p l w (Cleared m) h
said_given p l w (Leaf m) h x e s = sym e ∙ said_decoded p l w (Leaf m) h
said_given p l w (Table f) h x e s = sym e ∙ said_decoded p l w (Table f) h

-- each word is decoded to what it says, and to nothing else
pub exactly : (p : Profile) (l : Level) (w : ℕ) (r : Decoded)
    → r ≡ decoded_of p l w
    → (d : Decoded)
    → (r ≡ d) ↔ DecodesTo p l w d
exactly p l w r v d = (
  λ e. let q : decoded_of p l w ≡ d = sym v ∙ e in given_said p l w d q (subst (λ x. IsSound p l w x) q (sound p l w)),
  λ h. v ∙ said_given p l w d h (decoded_of p l w) refl (sound p l w),
)
