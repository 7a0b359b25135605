use Rattle.std.specs.Prelude.{Bool, true, false, if◌then◌else◌}
use Rattle.table_words.specs.declared.profile.Profile.{Profile}
use Rattle.table_words.specs.declared.profile.Release.{Release}
use Rattle.table_words.specs.declared.profile.Release.TheVariants.{V6, V7}
use Rattle.table_words.specs.declared.profile.MemoryForm.TheVariants.{TwoKinds, Index, Combined, Forced, Passed, PassedForced}
use Rattle.table_words.specs.declared.profile.AccessForm.TheVariants.{Readable, OneLevel, TwoLevels, Each}
use Rattle.table_words.specs.declared.profile.ExecuteForm.TheVariants.{OneBit, UxnPxn, XnPair}
use Rattle.table_words.specs.declared.profile.InvalidForm.TheVariants.{OwnerByte, OwnerOrLock, Lock, Donation, Poison, ClearedLeaf}

-- The forms of words of each hypervisor and table. Said gives the meaning of each form.
--
-- Linux' words are those of 6.12.117 and 7.3.4, 4 KiB pages: kvm_pgtable.h, hyp/pgtable.c,
-- nvhe/mem_protect.c, nvhe/mm.c and nvhe/memory.h. hyp_set_prot_attr makes the leaves of stage 1,
-- stage2_set_prot_attr those of stage 2, kvm_init_valid_leaf_pte and kvm_init_table_pte the words.
-- FWB is ARM64_HAS_STAGE2_FWB, LPA2 kvm_lpa2_is_enabled.

-- the model's own words, those of descriptor
abbrev pub model_profile : Profile
model_profile =
    record {
      memory = TwoKinds;
      access = Readable;
      execute = OneBit;
      invalid = OwnerByte;
      has_states = true;
      guards = false;
      ages = false;
      lpa2 = false;
    }

-- the hypervisor's own table, stage 1 of EL2. 6.12 writes one execute-never bit under hVHE too
-- (KVM_PTE_LEAF_ATTR_HI_S1_XN), 7.3 then both UXN and PXN. Its words are read as 6.12 reads them,
-- although the architecture takes that bit for UXN there, and PXN, bit 53, is 0. 7.3 keeps states
-- in hyp_vmemmap.
abbrev pub hypervisor_profile : Release → Bool → Bool → Profile
hypervisor_profile V6 hvhe wide =
    record {
      memory = Index;
      access = if hvhe then TwoLevels
          else OneLevel;
      execute =
          OneBit;
      invalid = ClearedLeaf;
      has_states = true;
      guards = true;
      ages = false;
      lpa2 = wide;
    }
hypervisor_profile V7 hvhe wide =
    record {
      memory = Index;
      access = if hvhe then TwoLevels
          else OneLevel;
      execute = if hvhe then UxnPxn
          else OneBit;
      invalid =
          ClearedLeaf;
      has_states = false;
      guards = true;
      ages = false;
      lpa2 = wide;
    }

-- the host's table, stage 2. 6.12 never forces attributes there (KVM_PGTABLE_S2_NOFWB), 7.3 passes
-- stage 1's on (KVM_PGTABLE_S2_AS_S1) and keeps states in hyp_vmemmap.
abbrev pub host_profile : Release → Bool → Bool → Profile
host_profile V6 fwb wide =
    record {
      memory = Combined;
      access = Each;
      execute = OneBit;
      invalid = OwnerOrLock;
      has_states = true;
      guards = false;
      ages = false;
      lpa2 = wide;
    }
host_profile V7 fwb wide =
    record {
      memory = if fwb then PassedForced
          else Passed;
      access =
          Each;
      execute =
          XnPair;
      invalid =
          Donation;
      has_states = false;
      guards = false;
      ages = false;
      lpa2 = wide;
    }

-- a guest's table, stage 2. In 6.12 the host makes it, without states and annotations.
abbrev pub guest_profile : Release → Bool → Bool → Profile
guest_profile V6 fwb wide =
    record {
      memory = if fwb then Forced
          else Combined;
      access =
          Each;
      execute =
          OneBit;
      invalid = Lock;
      has_states = false;
      guards = false;
      ages = true;
      lpa2 = wide;
    }
guest_profile V7 fwb wide =
    record {
      memory = if fwb then Forced
          else Combined;
      access =
          Each;
      execute =
          XnPair;
      invalid = Poison;
      has_states = true;
      guards = false;
      ages = true;
      lpa2 = wide;
    }
