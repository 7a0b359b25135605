use Rattle.std.proofs.Common.{◌≡◌, ℕ, ◌∙◌, ◌*◌, ◌%◌, ◌^◌, ◌<◌, refl, sym, subst, ap, arith, Bool, true, false, Some, None, Option}
use Rattle.std.proofs.lemmas.Bool.Decides.{nat_tests}
use Rattle.descriptor.specs.Word as word
use Rattle.descriptor.specs.Word.{field, kind_bits, access_bits, execute_never_bit, state_bits, level_pages, page_bit, desc_of, HasLeafForm}
use Rattle.descriptor.proofs.Unique.{same_as_function}
use Rattle.descriptor.specs.declared.Level.{Level}
use Rattle.descriptor.specs.declared.Frame.{Frame}
use Rattle.descriptor.specs.declared.Prot.{Prot}
use Rattle.descriptor.specs.declared.Prot.TheVariants.{R, RW, RX, RWX}
use Rattle.descriptor.specs.declared.Kind.{Kind}
use Rattle.descriptor.specs.declared.Kind.TheVariants.{Normal, Device}
use Rattle.descriptor.specs.declared.State.{State}
use Rattle.descriptor.specs.declared.State.TheVariants.{Owned, SharedOwned, SharedBorrowed}
use Rattle.descriptor.specs.declared.Desc.{Desc}
use Rattle.descriptor.specs.declared.Desc.TheVariants as desc
use Rattle.table_words.specs.Profiles.{model_profile}
use Rattle.table_words.specs.Said.{memory_of, access_of, execute_of, state_of, aged_of, guarded_of, IsLeaf, IsTable, Says, DecodesTo}
use Rattle.table_words.specs.Decoding.{decoded_of}
use Rattle.table_words.specs.Entries.{prot_of, kind_of, entry_of, is_unreadable, alone_of, other_memory, beyond_of, nothing_beyond}
use Rattle.table_words.proofs.Exactly.{exactly}
use Rattle.table_words.specs.declared.profile.MemoryForm.TheVariants.{TwoKinds}
use Rattle.table_words.specs.declared.profile.AccessForm.TheVariants.{Readable}
use Rattle.table_words.specs.declared.profile.ExecuteForm.TheVariants.{OneBit}
use Rattle.table_words.specs.declared.profile.InvalidForm.TheVariants.{OwnerByte, ClearedLeaf}
use Rattle.table_words.specs.declared.word.Access.{Access}
use Rattle.table_words.specs.declared.word.Access.TheVariants.{Neither, ReadOnly, WriteOnly, ReadWrite}
use Rattle.table_words.specs.declared.word.Execute.{Execute}
use Rattle.table_words.specs.declared.word.Execute.TheVariants.{Nobody, Everybody, UnprivilegedAlone, PrivilegedAlone}
use Rattle.table_words.specs.declared.word.Memory.{Memory}
use Rattle.table_words.specs.declared.word.Memory.TheVariants.{WriteBack, Uncached, FromStage1, Registers}
use Rattle.table_words.specs.declared.word.Mapping.{Mapping}
use Rattle.table_words.specs.declared.word.Decoded.{Decoded}
use Rattle.table_words.specs.declared.word.Decoded.TheVariants.{Malformed, Unmapped, Annotated, Poisoned, Locked, Cleared, Leaf, Table}

-- The model's own words: both definitions say the same.

abbrev state_number : Option State → ℕ
state_number (Some s) = state_bits s
state_number None = 0

abbrev access_number : Access → ℕ
access_number ReadOnly = 1
access_number ReadWrite = 3
access_number a = 0

abbrev execute_number : Execute → ℕ
execute_number Nobody = 2
execute_number x = 0

memory_known : (m : Memory) (n : ℕ)
    → memory_of TwoKinds n ≡ Some m
    → (n ≡ kind_bits (kind_of m)) × (other_memory m ≡ None)
memory_known WriteBack n e = (grind (arith, nat_tests), refl)
memory_known Registers n e = (grind (arith, nat_tests), refl)
memory_known Uncached n e = absurd (grind (arith, nat_tests))
memory_known FromStage1 n e = absurd (grind (arith, nat_tests))

access_known : (a : Access) (n : ℕ) → access_of Readable n ≡ Some a → (is_unreadable a ≡ false) × (n ≡ access_number a)
access_known ReadOnly n e = (refl, grind (arith, nat_tests))
access_known ReadWrite n e = (refl, grind (arith, nat_tests))
access_known Neither n e = absurd (grind (arith, nat_tests))
access_known WriteOnly n e = absurd (grind (arith, nat_tests))

execute_known : (x : Execute) (n : ℕ) → execute_of OneBit n ≡ Some x → (alone_of x ≡ None) × (n ≡ execute_number x)
execute_known Nobody n e = (refl, grind (arith, nat_tests))
execute_known Everybody n e = (refl, grind (arith, nat_tests))
execute_known UnprivilegedAlone n e = absurd (grind (arith, nat_tests))
execute_known PrivilegedAlone n e = absurd (grind (arith, nat_tests))

state_known : (s : Option State) (n : ℕ) → state_of true n ≡ Some s → (t : State) × (s ≡ Some t) × (n ≡ state_bits t)
state_known None n e = absurd (grind (arith, nat_tests))
state_known (Some Owned) n e = (Owned, refl, grind (arith, nat_tests))
state_known (Some SharedOwned) n e = (SharedOwned, refl, grind (arith, nat_tests))
state_known (Some SharedBorrowed) n e = (SharedBorrowed, refl, grind (arith, nat_tests))

flag_clear : (g : Bool) (n : ℕ) → guarded_of false n ≡ Some g → (g ≡ false) × (n ≡ 0)
flag_clear true n e = absurd (grind (arith, nat_tests))
flag_clear false n e = (refl, grind (arith, nat_tests))

flag_set : (g : Bool) (n : ℕ) → aged_of false n ≡ Some g → (g ≡ false) × (n ≡ 1)
flag_set true n e = absurd (grind (arith, nat_tests))
flag_set false n e = (refl, grind (arith, nat_tests))

-- the rights of accesses and execution that the model has
rights_known : (a : Access) (x : Execute)
    → is_unreadable a ≡ false
    → alone_of x ≡ None
    → (p : Prot)
    × (prot_of a x ≡ Some p)
    × (access_bits p ≡ access_number a)
    × (2 * execute_never_bit p ≡ execute_number x)
rights_known ReadOnly Nobody h k = (R, refl, refl, refl)
rights_known ReadOnly Everybody h k = (RX, refl, refl, refl)
rights_known ReadWrite Nobody h k = (RW, refl, refl, refl)
rights_known ReadWrite Everybody h k = (RWX, refl, refl, refl)
rights_known a x h k = absurd (cc)

-- the model's descriptor that a decoding is, and what is told of both
pub record Same (l : Level) (w : ℕ) (x : Decoded) : Type 0 where
  pub entry : (s : State) → entry_of x s ≡ Some (desc_of l w)
  pub beyond : beyond_of x ≡ nothing_beyond

-- a leaf of one form is one of the other
leaf_back : (l : Level) (w : ℕ) (m : Mapping) (p : Prot) (t : State)
    → IsLeaf model_profile l w m
    → m.state ≡ Some t
    → access_bits p ≡ access_number m.access
    → 2 * execute_never_bit p ≡ execute_number m.execute
    → word.IsLeaf l w m.frame.0 p (kind_of m.memory) t
leaf_back l w m p t h st pa px =
    let k = memory_known m.memory (field w 2 4) h.memory_is in
    let a = access_known m.access (field w 6 2) h.access_is in
    let x = execute_known m.execute (field w 53 2) h.execute_is in
    let s : state_of true (field w 55 2) ≡ Some (Some t) = rw (← st) h.state_is in
    let u = state_known (Some t) (field w 55 2) s in
    let g = flag_clear m.guarded (field w 50 1) h.guarded_is in
    let f = flag_set m.aged (field w 10 1) h.aged_is in
    let share : field w 8 2 ≡ 3 = h.shareable.0 in
    let high : field w 48 2 ≡ 0 = h.shareable.1 in
    let z51 : field w 51 2 ≡ 0 = h.zero_51 in
    let g0 : field w 50 1 ≡ 0 = g.1 in
    let x0 : field w 53 2 ≡ execute_number m.execute = x.1 in
    let px' : 2 * execute_never_bit p ≡ execute_number m.execute = px in
    record {
      form =
          record {
            leaves = h.leaves;
            valid = h.valid;
            page = h.page;
            shareable = share;
            accessed = f.1;
            zero_11 = h.zero_11;
            zero_48 = omega arith;
            zero_57 = h.zero_57;
          };
      kind_is = k.0;
      access_is = a.1 ∙ sym pa;
      execute_never_is = omega arith;
      state_is = u.2 ∙ sym (ap (λ o. state_number o) u.1);
      frame_is = sym h.frame_is;
      aligned = subst (λ n. n % level_pages l ≡ 0) (sym h.frame_is) h.aligned;
    }

table_back : (l : Level) (w : ℕ) (f : Frame) → IsTable false l w f.0 → word.IsTable l w f.0
table_back l w f h =
    let beside : field w 8 2 ≡ 0 = h.plain.0 in
    let high : field w 48 2 ≡ 0 = h.plain.1 in
    let m : field w 2 6 ≡ 0 = h.middle in
    let z : field w 10 2 ≡ 0 = h.zero_10 in
    let t : field w 50 14 ≡ 0 = h.top in
    record { upper = h.upper; valid = h.valid; middle = omega arith; frame_is = sym h.frame_is; top = omega arith }

table_forth : (l : Level) (w : ℕ) (f : Frame) → word.IsTable l w f.0 → IsTable false l w f.0
table_forth l w f h =
    let m : field w 2 10 ≡ 0 = h.middle in
    let t : field w 48 16 ≡ 0 = h.top in
    record {
      upper = h.upper;
      valid = h.valid;
      middle = omega arith;
      plain = (omega arith, omega arith);
      zero_10 = omega arith;
      frame_is = sym h.frame_is;
      top = omega arith;
    }

-- the access and the execution of the model's rights
abbrev access_by : Prot → Access
access_by R = ReadOnly
access_by RX = ReadOnly
access_by RW = ReadWrite
access_by RWX = ReadWrite

abbrev execute_by : Prot → Execute
execute_by R = Nobody
execute_by RW = Nobody
execute_by RX = Everybody
execute_by RWX = Everybody

abbrev memory_by : Kind → Memory
memory_by Normal = WriteBack
memory_by Device = Registers

access_forth : (p : Prot) (n : ℕ) → n ≡ access_bits p → access_of Readable n ≡ Some (access_by p)
access_forth R n e = rw e refl
access_forth RX n e = rw e refl
access_forth RW n e = rw e refl
access_forth RWX n e = rw e refl

execute_forth : (p : Prot) (n : ℕ) → n ≡ 2 * execute_never_bit p → execute_of OneBit n ≡ Some (execute_by p)
execute_forth R n e = rw e refl
execute_forth RX n e = rw e refl
execute_forth RW n e = rw e refl
execute_forth RWX n e = rw e refl

memory_forth : (k : Kind) (n : ℕ) → n ≡ kind_bits k → memory_of TwoKinds n ≡ Some (memory_by k)
memory_forth Normal n e = rw e refl
memory_forth Device n e = rw e refl

state_forth : (s : State) (n : ℕ) → n ≡ state_bits s → state_of true n ≡ Some (Some s)
state_forth Owned n e = rw e refl
state_forth SharedOwned n e = rw e refl
state_forth SharedBorrowed n e = rw e refl

leaf_forth : (l : Level) (w : ℕ) (f : Frame) (p : Prot) (k : Kind) (s : State)
    → word.IsLeaf l w f.0 p k s
    → IsLeaf model_profile l w
    (record {
      frame = f;
      access = access_by p;
      execute = execute_by p;
      memory = memory_by k;
      state = Some s;
      guarded = false;
      aged = false;
    })
leaf_forth l w f p k s h =
    let z : field w 48 6 ≡ 0 = h.form.zero_48 in
    let x : field w 54 1 ≡ execute_never_bit p = h.execute_never_is in
    let z50 : field w 50 1 ≡ 0 = omega arith in
    let x53 : field w 53 2 ≡ 2 * execute_never_bit p = omega arith in
    record {
      leaves = h.form.leaves;
      valid = h.form.valid;
      page = h.form.page;
      memory_is = memory_forth k (field w 2 4) h.kind_is;
      access_is = access_forth p (field w 6 2) h.access_is;
      shareable = (h.form.shareable, omega arith);
      aged_is = rw h.form.accessed refl;
      zero_11 = h.form.zero_11;
      frame_is = sym h.frame_is;
      aligned = subst (λ n. n % level_pages l ≡ 0) (sym h.frame_is) h.aligned;
      guarded_is = rw z50 refl;
      zero_51 = omega arith;
      execute_is = execute_forth p (field w 53 2) x53;
      state_is = state_forth s (field w 55 2) h.state_is;
      zero_57 = h.form.zero_57;
    }

-- what says nothing by the one definition says nothing by the other
not_said : (l : Level) (w : ℕ) → ((x : Decoded) → Says model_profile l w x → ⊥) → (d : Desc) → word.Says l w d → ⊥
not_said l w h desc.Malformed q = q
not_said l w h desc.Unmapped q = h Unmapped q
not_said l w h (desc.Annotated o) q = h (Annotated o None) q
not_said l w h (desc.Leaf f p k s) q =
    h
    (Leaf
    (record {
      frame = f;
      access = access_by p;
      execute = execute_by p;
      memory = memory_by k;
      state = Some s;
      guarded = false;
      aged = false;
    }))
    (leaf_forth l w f p k s q)
not_said l w h (desc.Table f) q = h (Table f) (table_forth l w f q)

same : (l : Level) (w : ℕ) → w < 2 ^ 64 → (x : Decoded) → DecodesTo model_profile l w x → Same l w x
same l w r Malformed h = record {
  entry = λ s. ap Some (same_as_function l w desc.Malformed r (λ d q. not_said l w h d q));
  beyond = refl;
}
same l w r Unmapped h = record { entry = λ s. ap Some (same_as_function l w desc.Unmapped r h); beyond = refl }
same l w r (Annotated o None) h =
    record { entry = λ s. ap Some (same_as_function l w (desc.Annotated o) r h); beyond = refl }
same l w r (Annotated o (Some g)) h = absurd h
same l w r Poisoned h = absurd h
same l w r Locked h = absurd h
same l w r (Cleared m) h = absurd (let e : OwnerByte ≡ ClearedLeaf = h.kept in cc)
same l w r (Leaf m) h =
    let k = memory_known m.memory (field w 2 4) h.memory_is in
    let a = access_known m.access (field w 6 2) h.access_is in
    let x = execute_known m.execute (field w 53 2) h.execute_is in
    let t = state_known m.state (field w 55 2) h.state_is in
    let g = flag_clear m.guarded (field w 50 1) h.guarded_is in
    let f = flag_set m.aged (field w 10 1) h.aged_is in
    let p = rights_known m.access m.execute a.0 x.0 in
    record {
      entry =
          λ s. rw (p.1, t.1)
          (ap Some
          (same_as_function l w (desc.Leaf m.frame p.0 (kind_of m.memory) t.0) r
          (leaf_back l w m p.0 t.0 h t.1 p.2 p.3)));
      beyond = rw (a.0, x.0, k.1, g.0, f.0) refl;
    }
same l w r (Table f) h =
    record { entry = λ s. ap Some (same_as_function l w (desc.Table f) r (table_back l w f h)); beyond = refl }

pub law : (l : Level) (w : ℕ) → w < 2 ^ 64 → Same l w (decoded_of model_profile l w)
law l w r =
    same l w r (decoded_of model_profile l w)
    ((exactly model_profile l w (decoded_of model_profile l w) refl (decoded_of model_profile l w)).0 refl)
