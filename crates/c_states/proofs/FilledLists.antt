-- What holds of plain lists, and of lists that are filled in as they say.
use Rattle.std.proofs.Common.{◌≡◌, ℕ, zero, suc, ◌+◌, ◌<◌, ◌≤◌, ◌^◌, List, length, map, get_or, ⊎_elim, subst, sym, ap, ◌∙◌, arith}
use Rattle.std.specs.Prelude.{All}
use Rattle.std.specs.List.{range_with_len}
use Rattle.std.proofs.lemmas.List.{length-map}
use Rattle.std.proofs.lemmas.List.FromFn.{get_or-map-range_with_len, length-map-range_with_len}
use Rattle.std.proofs.lemmas.Option.{slice_get_cases}
use Rattle.reference_model.specs.model.State.{Cpu}
use Rattle.ghost_trees.specs.declared.tree.Table.{Table}
use Rattle.ghost_trees.specs.Apart.{AreFramesApart, AreRunsApart, AreTablesApart}
use Rattle.ghost_trees.specs.Small.{AreSmall}
use Rattle.ghost_spec.specs.declared.lists.GhostLists.{GhostLists}
use Rattle.ghost_spec.specs.Filled.{HasFramesApart, HasLowNumbers, HasRunsApart, HasTablesApart}
use Rattle.ghost_spec.specs.Views.{cpu_in}
use Rattle.c_states.specs.Faults.{HaveFramesApart, HaveLowNumbers, HaveRunsApart, HaveTablesApart, IsLowCpu}
use Rattle.c_states.specs.Filled.{GuestLists, guest_lists_from_c, lists_in, IsFilled}
use Rattle.c_states.specs.Lists.{cpu_listed, cpu_from_c, frames_from_c, guest_listed, runs_from_c, tables_from_c}
use Rattle.c_states.specs.States.{Lists}
use Rattle.c_states.proofs.Telling.{map_at}

-- members that are seen as what is said of their numbers
module _ {A B : Type 0} (see : A → B) (said : ℕ → B) (n : ℕ) (xs : List A)
    (is : map see xs ≡ map said (range_with_len 0 n)) where
  count : length xs ≡ n
  count = sym (length-map xs see) ∙ (ap length is ∙ length-map-range_with_len said 0 n)

  pub at : (k : ℕ) (d : A) → k < length xs → said k ≡ see (get_or xs k d)
  at k d less =
      let here : 0 + k ≡ k = omega arith in
      let within : k < n = omega (arith, less, count) in
      sym (get_or-map-range_with_len said 0 n k k (see d) within here)
      ∙ (ap (λ (ys : List B). get_or ys k (see d)) (sym is) ∙ map_at see xs k d (see d) less)

  all_in : (Q : B → Type 0) → ((v : ℕ) → v < n → Q (said v)) → All (λ x. Q (see x)) xs
  all_in Q h = λ k d less. subst Q (at k d less) (h k (omega (arith, less, count)))

  all_out : (Q : B → Type 0) → All (λ x. Q (see x)) xs → (v : ℕ) → v < n → Q (said v)
  all_out Q h v less = ⊎_elim
      (λ found. subst Q (sym (at v found.0 found.1)) (h v found.0 found.1))
      (λ past. let end = past.0 in absurd (omega (arith, end, less, count)))
      (slice_get_cases xs v).1

-- trees and pools by their numbers
by_tree : (P : ℕ → Type 0) → P 0 → P 1 → ((v : ℕ) → v < 64 → P (2 + v)) → (tree : ℕ) → tree < 66 → P tree
by_tree P host hyp guests zero l = host
by_tree P host hyp guests (suc zero) l = hyp
by_tree P host hyp guests (suc (suc v)) l = let e : 2 + v ≡ suc (suc v) = omega arith in
    subst P e (guests v (omega (arith, l)))

by_pool : (P : ℕ → Type 0) → P 1 → ((v : ℕ) → v < 64 → P (2 + v)) → (pool : ℕ) → 1 ≤ pool → pool < 66 → P pool
by_pool P shared guests zero some l = absurd (omega (arith, some))
by_pool P shared guests (suc zero) some l = shared
by_pool P shared guests (suc (suc v)) some l = let e : 2 + v ≡ suc (suc v) = omega arith in
    subst P e (guests v (omega (arith, l)))

abbrev AreLowTables : List Table → Type 0
AreLowTables ts = All (λ t. t.frame ≤ 2 ^ 62) ts

abbrev AreLow : List ℕ → Type 0
AreLow fs = All (λ f. f ≤ 2 ^ 62) fs

module _ (cpus : ℕ) (p : Lists) (l : GhostLists) (f : IsFilled cpus p l) where
  abbrev guest_from_c : ℕ → GuestLists
  guest_from_c v = guest_lists_from_c p v (guest_listed p.guests v)

  abbrev own_said : ℕ → Cpu
  own_said c = cpu_from_c (cpu_listed p.cpus c)

  guests_in : (Q : GuestLists → Type 0)
      → ((v : ℕ) → v < 64 → Q (guest_from_c v))
      → All (λ g. Q (lists_in g)) l.guests.items
  guests_in Q h = all_in lists_in guest_from_c 64 l.guests.items f.guests Q h

  guests_out : (Q : GuestLists → Type 0)
      → All (λ g. Q (lists_in g)) l.guests.items
      → (v : ℕ)
      → v < 64
      → Q (guest_from_c v)
  guests_out Q h = all_out lists_in guest_from_c 64 l.guests.items f.guests Q h

  pub runs_in : HaveRunsApart p → HasRunsApart l
  runs_in h = record {
    host = subst AreRunsApart (sym f.shared.host.runs) (h 0 (omega arith));
    hyp = subst AreRunsApart (sym f.shared.hyp.runs) (h 1 (omega arith));
    guests = guests_in (λ g. AreRunsApart g.runs) (λ v less. h (2 + v) (omega (arith, less)));
  }

  pub runs_out : HasRunsApart l → HaveRunsApart p
  runs_out h =
      by_tree (λ n. AreRunsApart (runs_from_c p.runs n)) (subst AreRunsApart f.shared.host.runs h.host)
      (subst AreRunsApart f.shared.hyp.runs h.hyp) (guests_out (λ g. AreRunsApart g.runs) h.guests)

  pub tables_in : HaveTablesApart p → HasTablesApart l
  tables_in h = record {
    host = subst AreTablesApart (sym f.shared.host.tables) (h 0 (omega arith));
    hyp = subst AreTablesApart (sym f.shared.hyp.tables) (h 1 (omega arith));
    guests = guests_in (λ g. AreTablesApart g.tables) (λ v less. h (2 + v) (omega (arith, less)));
  }

  pub tables_out : HasTablesApart l → HaveTablesApart p
  tables_out h =
      by_tree (λ n. AreTablesApart (tables_from_c p.tables n)) (subst AreTablesApart f.shared.host.tables h.host)
      (subst AreTablesApart f.shared.hyp.tables h.hyp) (guests_out (λ g. AreTablesApart g.tables) h.guests)

  pub frames_in : HaveFramesApart p → HasFramesApart l
  frames_in h = record {
    shared = subst AreFramesApart (sym f.shared.free) (h 1 (omega arith) (omega arith));
    guests = guests_in (λ g. AreFramesApart g.free) (λ v less. h (2 + v) (omega arith) (omega (arith, less)));
  }

  pub frames_out : HasFramesApart l → HaveFramesApart p
  frames_out h =
      by_pool (λ n. AreFramesApart (frames_from_c p.frames n)) (subst AreFramesApart f.shared.free h.shared)
      (guests_out (λ g. AreFramesApart g.free) h.guests)

  pub low_in : HaveLowNumbers cpus p → HasLowNumbers l
  low_in h =
      let runs = guests_in (λ g. AreSmall g.runs) (λ v less. h.runs (2 + v) (omega (arith, less))) in
      let tables = guests_in (λ g. AreLowTables g.tables) (λ v less. h.tables (2 + v) (omega (arith, less))) in
      let free = guests_in (λ g. AreLow g.free) (λ v less. h.frames (2 + v) (omega arith) (omega (arith, less))) in
      let own = all_in cpu_in own_said cpus l.cpus.items f.cpus IsLowCpu h.cpus_are in
      record {
        shared = record {
          host =
              record {
                runs = subst AreSmall (sym f.shared.host.runs) (h.runs 0 (omega arith));
                tables = subst AreLowTables (sym f.shared.host.tables) (h.tables 0 (omega arith));
              };
          hyp =
              record {
                runs = subst AreSmall (sym f.shared.hyp.runs) (h.runs 1 (omega arith));
                tables = subst AreLowTables (sym f.shared.hyp.tables) (h.tables 1 (omega arith));
              };
          free = subst AreLow (sym f.shared.free) (h.frames 1 (omega arith) (omega arith));
        };
        guests =
            λ k
            d less. record {
              tree = record { runs = runs k d less; tables = tables k d less };
              free = free k d less;
            };
        cpus = λ k d less. let x = own k d less in record { hand = x.hand; loaded = x.loaded; ticket = x.ticket };
      }

  pub low_out : HasLowNumbers l → HaveLowNumbers cpus p
  low_out h = record {
    runs =
        by_tree (λ n. AreSmall (runs_from_c p.runs n)) (subst AreSmall f.shared.host.runs h.shared.host.runs)
        (subst AreSmall f.shared.hyp.runs h.shared.hyp.runs)
        (guests_out (λ g. AreSmall g.runs) (λ k d less. (h.guests k d less).tree.runs));
    tables =
        by_tree (λ n. AreLowTables (tables_from_c p.tables n))
        (subst AreLowTables f.shared.host.tables h.shared.host.tables)
        (subst AreLowTables f.shared.hyp.tables h.shared.hyp.tables)
        (guests_out (λ g. AreLowTables g.tables) (λ k d less. (h.guests k d less).tree.tables));
    frames =
        by_pool (λ n. AreLow (frames_from_c p.frames n)) (subst AreLow f.shared.free h.shared.free)
        (guests_out (λ g. AreLow g.free) (λ k d less. (h.guests k d less).free));
    cpus_are =
        all_out cpu_in own_said cpus l.cpus.items f.cpus IsLowCpu
        (λ k d less. let x = h.cpus k d less in record { hand = x.hand; loaded = x.loaded; ticket = x.ticket });
  }
