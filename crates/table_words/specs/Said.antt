use Rattle.std.specs.Prelude.{◌≡◌, ◌≢◌, ℕ, ◌+◌, ◌*◌, ◌%◌, ◌^◌, ◌==◌, Bool, true, false, Option, Some, None, IsTrue, if◌then◌else◌}
use Rattle.descriptor.specs.Word.{field, has_leaves, page_bit, level_pages, IsAnnotation}
use Rattle.descriptor.specs.declared.Level.{Level}
use Rattle.descriptor.specs.declared.Level.TheVariants.{Three}
use Rattle.descriptor.specs.declared.State.{State}
use Rattle.descriptor.specs.declared.State.TheVariants.{Owned, SharedOwned, SharedBorrowed}
use Rattle.table_words.specs.declared.profile.Profile.{Profile}
use Rattle.table_words.specs.declared.profile.MemoryForm.{MemoryForm}
use Rattle.table_words.specs.declared.profile.MemoryForm.TheVariants.{TwoKinds, Index, Combined, Forced, Passed, PassedForced}
use Rattle.table_words.specs.declared.profile.AccessForm.{AccessForm}
use Rattle.table_words.specs.declared.profile.AccessForm.TheVariants.{Readable, OneLevel, TwoLevels, Each}
use Rattle.table_words.specs.declared.profile.ExecuteForm.{ExecuteForm}
use Rattle.table_words.specs.declared.profile.ExecuteForm.TheVariants.{OneBit, UxnPxn, XnPair}
use Rattle.table_words.specs.declared.profile.InvalidForm.{InvalidForm}
use Rattle.table_words.specs.declared.profile.InvalidForm.TheVariants.{OwnerByte, OwnerOrLock, Lock, Donation, Poison, ClearedLeaf}
use Rattle.table_words.specs.declared.word.Access.{Access}
use Rattle.table_words.specs.declared.word.Access.TheVariants.{Neither, ReadOnly, WriteOnly, ReadWrite}
use Rattle.table_words.specs.declared.word.Execute.{Execute}
use Rattle.table_words.specs.declared.word.Execute.TheVariants.{Nobody, Everybody, UnprivilegedAlone, PrivilegedAlone}
use Rattle.table_words.specs.declared.word.Memory.{Memory}
use Rattle.table_words.specs.declared.word.Memory.TheVariants.{WriteBack, Uncached, FromStage1, Registers}
use Rattle.table_words.specs.declared.word.Mapping.{Mapping}
use Rattle.table_words.specs.declared.word.Guest.{Guest}
use Rattle.table_words.specs.declared.word.Decoded.{Decoded}
use Rattle.table_words.specs.declared.word.Decoded.TheVariants.{Malformed, Unmapped, Annotated, Poisoned, Locked, Cleared, Leaf, Table}

-- What a word of a level says by a profile, 4 KiB granule (Arm DDI 0487, D8.3, "VMSAv8-64
-- translation table format descriptors", and D8.4 and D8.5 for permissions and memory attributes;
-- Linux' macros by name).
--
--   Bits    In a block (levels 1 and 2) or page (level 3) descriptor
--   0       1: valid
--   1       1 in a page, 0 in a block
--   5:2     memory (MemoryForm)
--   7:6     access (AccessForm)
--   9:8     SH: 11 inner shareable; with LPA2 bits 51:50 of the address
--   10      AF, the access flag: 1, or 0 if leaves age
--   11      0 (nG in stage 1, FnXS in stage 2; not used)
--   47:12   the address, of a multiple of the block's pages; with LPA2 49:12
--   49:48   0 without LPA2
--   50      GP, guarded, in stage 1; 0 elsewhere
--   52:51   0 (DBM, Contiguous; not used)
--   54:53   who may execute (ExecuteForm)
--   56:55   the state of the pages, or 0 if words say none
--   63:57   0
--
-- A table descriptor (above level 3) has 11 in bits 1:0, the address of the table, zeros elsewhere.
-- A word whose bit 0 is clear is invalid to the hardware, which ignores the rest. It says nothing
-- if it is 0, and else what software wrote into it (InvalidForm). Every other word is malformed.

-- the memory in bits 5:2
abbrev pub memory_of : MemoryForm → ℕ → Option Memory
-- MemAttr: 1111 Normal write-back, 0001 Device-nGnRE
memory_of TwoKinds n = if n == 15 then Some WriteBack else if n == 1 then Some Registers else None
-- AttrIndx in bits 4:2, of MAIR_EL2 as Linux sets it (MT_NORMAL, MT_DEVICE_nGnRE); bit 5, NS, 0
memory_of Index n = if n == 0 then Some WriteBack else if n == 4 then Some Registers else None
-- MemAttr without FWB (MT_S2_NORMAL, MT_S2_NORMAL_NC, MT_S2_DEVICE_nGnRE)
memory_of Combined n =
    if n == 15 then Some WriteBack
    else if n == 5 then Some Uncached
    else if n == 1 then Some Registers
    else None
-- MemAttr with FWB (MT_S2_FWB_NORMAL, MT_S2_FWB_NORMAL_NC, MT_S2_FWB_DEVICE_nGnRE)
memory_of Forced n =
    if n == 6 then Some WriteBack
    else if n == 5 then Some Uncached
    else if n == 1 then Some Registers
    else None
-- MemAttr without FWB (MT_S2_AS_S1): the weakest attributes, so that stage 1's take effect
memory_of Passed n = if n == 15 then Some FromStage1 else None
-- MemAttr with FWB (MT_S2_FWB_AS_S1)
memory_of PassedForced n = if n == 7 then Some FromStage1 else None

-- the accesses to data that bits 7:6 let through
abbrev pub access_of : AccessForm → ℕ → Option Access
-- S2AP: bit 6 lets read, bit 7 lets write; the model lets read always
access_of Readable n = if n == 1 then Some ReadOnly else if n == 3 then Some ReadWrite else None
-- AP[2:1] of a stage 1 with one level of privilege: bit 6 is 1, bit 7 refuses writes
-- (KVM_PTE_LEAF_ATTR_LO_S1_AP_RW, _RO)
access_of OneLevel n = if n == 1 then Some ReadWrite else if n == 3 then Some ReadOnly else None
-- AP[2:1] of a stage 1 with two: bit 6 lets EL0 in and is 0, bit 7 refuses writes (the same under
-- hVHE)
access_of TwoLevels n = if n == 0 then Some ReadWrite else if n == 2 then Some ReadOnly else None
-- S2AP, each way (KVM_PTE_LEAF_ATTR_LO_S2_S2AP_R, _W)
access_of Each n =
    if n == 0 then Some Neither
    else if n == 1 then Some ReadOnly
    else if n == 2 then Some WriteOnly
    else if n == 3 then Some ReadWrite
    else None

-- who may execute, by bits 54:53
abbrev pub execute_of : ExecuteForm → ℕ → Option Execute
-- XN, bit 54, refuses all (KVM_PTE_LEAF_ATTR_HI_S1_XN; KVM_PTE_LEAF_ATTR_HI_S2_XN of 6.12)
execute_of OneBit n = if n == 0 then Some Everybody else if n == 2 then Some Nobody else None
-- UXN, bit 54, refuses EL0, PXN, bit 53, refuses the level above (KVM_PTE_LEAF_ATTR_HI_S1_UXN,
-- _PXN)
execute_of UxnPxn n =
    if n == 0 then Some Everybody
    else if n == 1 then Some UnprivilegedAlone
    else if n == 2 then Some PrivilegedAlone
    else if n == 3 then Some Nobody
    else None
-- XN[1:0] (KVM_PTE_LEAF_ATTR_HI_S2_XN of 7.3, stage2_set_xn_attr)
execute_of XnPair n =
    if n == 0 then Some Everybody
    else if n == 1 then Some UnprivilegedAlone
    else if n == 2 then Some Nobody
    else if n == 3 then Some PrivilegedAlone
    else None

-- the state in bits 56:55, if words say one (PKVM_PAGE_STATE_PROT_MASK); else these bits are 0
abbrev pub state_of : Bool → ℕ → Option (Option State)
state_of true n =
    if n == 0 then Some (Some Owned)
    else if n == 1 then Some (Some SharedOwned)
    else if n == 2 then Some (Some SharedBorrowed)
    else None
state_of false n = if n == 0 then Some None else None

-- whether the access flag, bit 10, is clear, if it may be (KVM_PTE_LEAF_ATTR_LO_S2_AF)
abbrev pub aged_of : (ages : Bool) → ℕ → Option Bool
aged_of ages n = if n == 1 then Some false else if ages then Some true else None

-- whether the leaf is guarded, by bit 50, if it may be (KVM_PTE_LEAF_ATTR_HI_S1_GP)
abbrev pub guarded_of : (guards : Bool) → ℕ → Option Bool
guarded_of guards n = if n == 0 then Some false else if guards then Some true else None

-- the frame of the address (KVM_PTE_ADDR_MASK; with LPA2 KVM_PTE_ADDR_MASK_LPA2 and
-- KVM_PTE_ADDR_51_50_LPA2)
abbrev pub frame_of : (lpa2 : Bool) → ℕ → ℕ
frame_of false word = field word 12 36
frame_of true word = field word 12 38 + 2 ^ 38 * field word 8 2

-- without LPA2, bits 9:8 are as given and bits 49:48 are 0
abbrev pub HasBesideAddress : (lpa2 : Bool) → ℕ → ℕ → Type 0
HasBesideAddress false share word = (field word 8 2 ≡ share) × (field word 48 2 ≡ 0)
HasBesideAddress true share word = Unit {0}

-- the word is the block or page descriptor of this mapping
pub record IsLeaf (profile : Profile) (level : Level) (word : ℕ) (mapping : Mapping) : Type 0 where
  pub leaves : IsTrue (has_leaves level)
  pub valid : field word 0 1 ≡ 1
  pub page : field word 1 1 ≡ page_bit level
  pub memory_is : memory_of profile.memory (field word 2 4) ≡ Some mapping.memory
  pub access_is : access_of profile.access (field word 6 2) ≡ Some mapping.access
  pub shareable : HasBesideAddress profile.lpa2 3 word
  pub aged_is : aged_of profile.ages (field word 10 1) ≡ Some mapping.aged
  pub zero_11 : field word 11 1 ≡ 0
  pub frame_is : mapping.frame.0 ≡ frame_of profile.lpa2 word
  pub aligned : frame_of profile.lpa2 word % level_pages level ≡ 0
  pub guarded_is : guarded_of profile.guards (field word 50 1) ≡ Some mapping.guarded
  pub zero_51 : field word 51 2 ≡ 0
  pub execute_is : execute_of profile.execute (field word 53 2) ≡ Some mapping.execute
  pub state_is : state_of profile.has_states (field word 55 2) ≡ Some mapping.state
  pub zero_57 : field word 57 7 ≡ 0

-- the word is the table descriptor of this frame
pub record IsTable (lpa2 : Bool) (level : Level) (word frame : ℕ) : Type 0 where
  pub upper : level ≢ Three
  pub valid : field word 0 2 ≡ 3
  pub middle : field word 2 6 ≡ 0
  pub plain : HasBesideAddress lpa2 0 word
  pub zero_10 : field word 10 2 ≡ 0
  pub frame_is : frame ≡ frame_of lpa2 word
  pub top : field word 50 14 ≡ 0

-- 7.3's annotation that a page is the hypervisor's: type 2 in bits 63:60, owner 1 in 3:1
-- (KVM_HOST_INVALID_PTE_TYPE_DONATION, KVM_HOST_DONATION_PTE_OWNER_MASK, PKVM_ID_HYP)
pub record IsHypervisors (word owner : ℕ) : Type 0 where
  pub owner_one : owner ≡ 1
  pub low : field word 0 4 ≡ 2
  pub rest : field word 4 56 ≡ 0
  pub donated : field word 60 4 ≡ 2

-- 7.3's annotation that a page is a guest's: owner 2, the VM's handle in bits 19:4, the guest's
-- page in 59:20 (PKVM_ID_GUEST, KVM_HOST_DONATION_PTE_EXTRA_MASK,
-- KVM_HOST_PTE_OWNER_GUEST_HANDLE_MASK, _GFN_MASK)
pub record IsGuests (word owner : ℕ) (guest : Guest) : Type 0 where
  pub owner_two : owner ≡ 2
  pub low : field word 0 4 ≡ 4
  pub handle_is : field word 4 16 ≡ guest.handle
  pub gfn_is : field word 20 40 ≡ guest.gfn
  pub donated : field word 60 4 ≡ 2

-- the word is the annotation of this owner. The byte is in bits 9:2 (KVM_INVALID_PTE_OWNER_MASK;
-- Linux writes 1 alone, KVM_MAX_OWNER_ID).
abbrev pub IsAnnotated : InvalidForm → ℕ → ℕ → Option Guest → Type 0
IsAnnotated OwnerByte word owner None = IsAnnotation word owner
IsAnnotated OwnerOrLock word owner None = IsAnnotation word owner
IsAnnotated Donation word owner None = IsHypervisors word owner
IsAnnotated Donation word owner (Some guest) = IsGuests word owner guest
IsAnnotated form word owner guest = ⊥

-- the word says that its page was taken by force (KVM_GUEST_INVALID_PTE_TYPE_POISONED, 3 in bits
-- 63:60)
abbrev pub IsPoisoned : InvalidForm → ℕ → Type 0
IsPoisoned Poison word = word ≡ 3 * 2 ^ 60
IsPoisoned form word = ⊥

-- the word says that its entry is being changed (KVM_INVALID_PTE_LOCKED, bit 10; in 7.3
-- KVM_INVALID_PTE_TYPE_LOCKED, 1 in bits 63:60)
abbrev pub IsLocked : InvalidForm → ℕ → Type 0
IsLocked OwnerOrLock word = word ≡ 2 ^ 10
IsLocked Lock word = word ≡ 2 ^ 10
IsLocked Donation word = word ≡ 2 ^ 60
IsLocked Poison word = word ≡ 2 ^ 60
IsLocked form word = ⊥

-- the word is the descriptor of this mapping but for bit 0, which was cleared (fixmap_clear_slot)
pub record IsCleared (profile : Profile) (level : Level) (word : ℕ)
    (mapping : Mapping) : Type 0 where
  pub kept : profile.invalid ≡ ClearedLeaf
  pub some : word ≢ 0
  pub invalid : field word 0 1 ≡ 0
  pub was : IsLeaf profile level (word + 1) mapping

-- the word says this by the profile; none says Malformed
abbrev pub Says : Profile → Level → ℕ → Decoded → Type 0
Says profile level word Malformed = ⊥
Says profile level word Unmapped = word ≡ 0
Says profile level word (Annotated owner guest) = IsAnnotated profile.invalid word owner.0 guest
Says profile level word Poisoned = IsPoisoned profile.invalid word
Says profile level word Locked = IsLocked profile.invalid word
Says profile level word (Cleared mapping) = IsCleared profile level word mapping
Says profile level word (Leaf mapping) = IsLeaf profile level word mapping
Says profile level word (Table frame) = IsTable profile.lpa2 level word frame.0

-- the decoded word: its meaning, and Malformed if it has none
abbrev pub DecodesTo : Profile → Level → ℕ → Decoded → Type 0
DecodesTo profile level word Malformed = (decoded : Decoded) → Says profile level word decoded → ⊥
DecodesTo profile level word decoded = Says profile level word decoded
