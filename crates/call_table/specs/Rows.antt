-- The table of calls: of each its name, its number in C, and the forms of its arguments (profile).
use Rattle.std.specs.Prelude.{ℕ, ◌==◌, List, [], ◌∷◌, codes, find, Option}
use Rattle.std.specs.Str.{bytes_eq}
use Rattle.call_table.specs.declared.argument.Form.{Form}
use Rattle.call_table.specs.declared.argument.Form.TheVariants.{Frame, Page, Count, LastCount, Vcpus, Vcpu, Vm, Kind, Rights}
use Rattle.call_table.specs.declared.row.CallName.{CallName}
use Rattle.call_table.specs.declared.row.CallName.TheVariants.{ShareHyp, UnshareHyp, DonateHyp, HypDonateHost, HostAbort, HostTranslate, HypTranslate, OwnerOf, Fund, Unfund, ShareGuest, UnshareGuest, DonateGuest, GuestShareHost, GuestUnshareHost, Install, Topup, ReclaimPage, ReclaimPool, FinishGuest, GuestRelax, GuestTranslate, MarkDying, VmReserve, VmOpen, VcpuLoad, VcpuPut, Teardown, VmRelease}

-- the row of the table for a call
pub record RowOf : Type 0 where
  pub word : List ℕ
  pub number : ℕ
  pub forms : List Form

abbrev pub row : CallName → RowOf
row ShareHyp = record { word = codes "share_hyp"; number = 1; forms = Frame ∷ [] }
row UnshareHyp = record { word = codes "unshare_hyp"; number = 2; forms = Frame ∷ [] }
row DonateHyp = record { word = codes "donate_hyp"; number = 3; forms = Frame ∷ Count ∷ [] }
row HypDonateHost =
    record { word = codes "hyp_donate_host"; number = 4; forms = Frame ∷ Count ∷ [] }
row HostAbort = record { word = codes "host_abort"; number = 5; forms = Page ∷ [] }
row HostTranslate = record { word = codes "host_translate"; number = 6; forms = Page ∷ [] }
row HypTranslate = record { word = codes "hyp_translate"; number = 7; forms = Page ∷ [] }
row OwnerOf = record { word = codes "owner_of"; number = 8; forms = Frame ∷ [] }
row Fund = record { word = codes "fund"; number = 9; forms = Frame ∷ Count ∷ [] }
row Unfund = record { word = codes "unfund"; number = 10; forms = [] }
row ShareGuest =
    record {
      word = codes "share_guest";
      number = 11;
      forms = Frame ∷ Page ∷ Rights ∷ LastCount
          ∷ [];
    }
row UnshareGuest = record { word = codes "unshare_guest"; number = 12; forms = Vm ∷ Page ∷ [] }
row DonateGuest =
    record { word = codes "donate_guest"; number = 13; forms = Frame ∷ Page ∷ LastCount ∷ [] }
row GuestShareHost = record { word = codes "guest_share_host"; number = 14; forms = Page ∷ [] }
row GuestUnshareHost = record { word = codes "guest_unshare_host"; number = 15; forms = Page ∷ [] }
row Install = record { word = codes "install"; number = 16; forms = [] }
row Topup = record { word = codes "topup"; number = 17; forms = Vm ∷ [] }
row ReclaimPage = record { word = codes "reclaim_page"; number = 18; forms = Vm ∷ Page ∷ [] }
row ReclaimPool = record { word = codes "reclaim_pool"; number = 19; forms = Vm ∷ [] }
row FinishGuest = record { word = codes "finish_guest"; number = 20; forms = [] }
row GuestRelax = record { word = codes "guest_relax"; number = 21; forms = Page ∷ Rights ∷ [] }
row GuestTranslate = record { word = codes "guest_translate"; number = 22; forms = Vm ∷ Page ∷ [] }
row MarkDying = record { word = codes "mark_dying"; number = 23; forms = [] }
row VmReserve = record { word = codes "vm_reserve"; number = 24; forms = Kind ∷ Vcpus ∷ [] }
row VmOpen = record { word = codes "vm_open"; number = 25; forms = [] }
row VcpuLoad = record { word = codes "vcpu_load"; number = 26; forms = Vm ∷ Vcpu ∷ [] }
row VcpuPut = record { word = codes "vcpu_put"; number = 27; forms = [] }
row Teardown = record { word = codes "teardown"; number = 28; forms = Vm ∷ [] }
row VmRelease = record { word = codes "vm_release"; number = 29; forms = [] }

-- all calls, in the order of the table
abbrev pub calls : List CallName
calls =
    ShareHyp ∷ UnshareHyp ∷ DonateHyp ∷ HypDonateHost ∷ HostAbort ∷ HostTranslate ∷ HypTranslate
    ∷ OwnerOf
    ∷ Fund ∷ Unfund ∷ ShareGuest ∷ UnshareGuest ∷ DonateGuest ∷ GuestShareHost ∷ GuestUnshareHost
    ∷ Install
    ∷ Topup ∷ ReclaimPage ∷ ReclaimPool ∷ FinishGuest ∷ GuestRelax ∷ GuestTranslate ∷ MarkDying
    ∷ VmReserve
    ∷ VmOpen ∷ VcpuLoad ∷ VcpuPut ∷ Teardown ∷ VmRelease ∷ []

-- the first of some calls with a name, and with a number
abbrev pub named_in : List CallName → List ℕ → Option CallName
named_in some word = find (λ call. bytes_eq word (row call).word) some

abbrev pub numbered_in : List CallName → ℕ → Option CallName
numbered_in some number = find (λ call. (row call).number == number) some

-- and of all
unfoldable pub named : List ℕ → Option CallName
named word = named_in calls word

unfoldable pub numbered : ℕ → Option CallName
numbered number = numbered_in calls number
