-- The replies of all workers, put in the trace's order.
use Rattle.std.proofs.Common.{◌≡◌, ◌≢◌, ℕ, zero, suc, ◌+◌, ◌<◌, refl, sym, ap, subst, ◌∙◌, arith, inl, inr, ◌⊎◌, true, false, ◌==◌, List, [], ◌∷◌, ◌++◌, drop, get_or, length, Some, slice_get}
use Rattle.std.specs.Prelude.{slice_index}
use Rattle.std.proofs.lemmas.List.{append-nil, drop_more}
use Rattle.page_state.proofs.Common.{eq-same}
use Rattle.call_table.specs.declared.reply.Reply.{Reply}
use Rattle.trace_race.specs.declared.course.Asked.{Asked}
use Rattle.trace_race.specs.declared.workers.Done.{Done}
use Rattle.trace_race.specs.Made.{IsGathered, answers_of, paired, steps_of}
use Rattle.trace_race.proofs.Made.{behind, cases, apart-numbers, length-more}

-- what is gathered of a CPU's replies: those before its cursor
pub record GatheredOf (steps left : List Asked) (so : List Reply) (cpu : ℕ) (d : Done) (cursor : ℕ) : Type 0 where
  pub some : cursor + length (steps_of cpu left) ≡ length d.replies.items
  pub leads : (more : List Reply)
      → answers_of cpu left more ≡ paired (steps_of cpu left) (drop cursor d.replies.items)
      → answers_of cpu steps (so ++ more) ≡ paired (steps_of cpu steps) d.replies.items

pub record Gathering (steps left : List Asked) (done : List Done) (cursors : List ℕ) (so : List Reply) : Type 0 where
  pub count : length so + length left ≡ length steps
  pub cursors_count : length cursors ≡ length done
  pub each : (cpu : ℕ) (d : Done)
      → slice_get done cpu ≡ Some d
      → GatheredOf steps left so cpu d (slice_index cursors cpu)

pub gather_first : (steps : List Asked) (done : List Done) (cursors : List ℕ)
    → length cursors ≡ length done
    → ((i : ℕ) → slice_index cursors i ≡ 0)
    → ((cpu : ℕ) (d : Done) → slice_get done cpu ≡ Some d → length d.replies.items ≡ length (steps_of cpu steps))
    → Gathering steps steps done cursors []
gather_first steps done cursors count zeros all = record {
  count = omega arith;
  cursors_count = count;
  each =
      λ cpu d there. subst (GatheredOf steps steps [] cpu d)
      (sym (zeros cpu)) record { some = let n = all cpu d there in omega (arith, n); leads = λ more same. same };
}

-- what is at a place is the first of what is left from there
from_place : (rs : List Reply) (i : ℕ) (r : Reply) → slice_get rs i ≡ Some r → drop i rs ≡ r ∷ drop (i + 1) rs
from_place [] i r e = absurd (let no = e in cc)
from_place (x ∷ rs) zero r e = ap (λ z. z ∷ rs) (let same = e in cc)
from_place (x ∷ rs) (suc i) r e =
    from_place rs i r e ∙ ap (λ n. r ∷ drop n (x ∷ rs)) (let n : suc (i + 1) ≡ suc i + 1 = omega arith in n)

module _ (steps : List Asked) (a : Asked) (left : List Asked) (so : List Reply) (r : Reply) where
  by_own : (cpu : ℕ) (d : Done) (cursor : ℕ)
      → (a.cpu == cpu) ≡ true
      → slice_get d.replies.items cursor ≡ Some r
      → GatheredOf steps (a ∷ left) so cpu d cursor
      → GatheredOf steps left (so ++ r ∷ []) cpu d (cursor + 1)
  by_own cpu d cursor own there was =
      let mine : steps_of cpu (a ∷ left) ≡ a.step ∷ steps_of cpu left = rw own refl in
      record {
        some = let n : cursor + suc (length (steps_of cpu left)) ≡ length d.replies.items =
            subst (λ ss. cursor + length ss ≡ length d.replies.items) mine was.some in
            omega (arith, n);
        leads =
            λ more same. ap (answers_of cpu steps) (behind so r more)
            ∙ was.leads (r ∷ more)
            (answer more
            ∙ (ap (λ xs. (a.step, r) ∷ xs) same
            ∙ sym
            (ap (λ ss. paired ss (drop cursor d.replies.items)) mine
            ∙ ap (paired (a.step ∷ steps_of cpu left))
            (from_place d.replies.items cursor r there))));
      }
    where
      answer : (more : List Reply) → answers_of cpu (a ∷ left) (r ∷ more) ≡ (a.step, r) ∷ answers_of cpu left more
      answer more = rw own refl

  by_others : (cpu : ℕ) (d : Done) (cursor : ℕ)
      → (a.cpu == cpu) ≡ false
      → GatheredOf steps (a ∷ left) so cpu d cursor
      → GatheredOf steps left (so ++ r ∷ []) cpu d cursor
  by_others cpu d cursor other was =
      let others : steps_of cpu (a ∷ left) ≡ steps_of cpu left = rw other refl in
      record {
        some = subst (λ ss. cursor + length ss ≡ length d.replies.items) others was.some;
        leads =
            λ more same. ap (answers_of cpu steps) (behind so r more)
            ∙ was.leads (r ∷ more)
            (answer more ∙ (same ∙ sym (ap (λ ss. paired ss (drop cursor d.replies.items)) others)));
      }
    where
      answer : (more : List Reply) → answers_of cpu (a ∷ left) (r ∷ more) ≡ answers_of cpu left more
      answer more = rw other refl

  by_one : (done : List Done) (cursors next : List ℕ)
      → Gathering steps (a ∷ left) done cursors so
      → length next ≡ length cursors
      → slice_index next a.cpu ≡ slice_index cursors a.cpu + 1
      → ((j : ℕ) → j ≢ a.cpu → slice_index next j ≡ slice_index cursors j)
      → ((d : Done) → slice_get done a.cpu ≡ Some d → slice_get d.replies.items (slice_index cursors a.cpu) ≡ Some r)
      → Gathering steps left done next (so ++ r ∷ [])
  by_one done cursors next was count here others reply = record {
    count = let n = length-more so r in let m = was.count in omega (arith, n, m);
    cursors_count = count ∙ was.cursors_count;
    each = λ cpu d there. each cpu d there (cases (a.cpu == cpu));
  }
    where
      each : (cpu : ℕ) (d : Done)
          → slice_get done cpu ≡ Some d
          → ((a.cpu == cpu) ≡ true) ⊎ ((a.cpu == cpu) ≡ false)
          → GatheredOf steps left (so ++ r ∷ []) cpu d (slice_index next cpu)
      each cpu d there (inl own) =
          let same : a.cpu ≡ cpu = eq-same a.cpu cpu own in
          let cursor : slice_index next cpu ≡ slice_index cursors cpu + 1 =
          subst (λ (c : ℕ). slice_index next c ≡ slice_index cursors c + 1) same here in
          let found : slice_get d.replies.items (slice_index cursors cpu) ≡ Some r =
          subst (λ (c : ℕ). slice_get d.replies.items (slice_index cursors c) ≡ Some r) same
          (reply d (ap (slice_get done) same ∙ there)) in
          subst (GatheredOf steps left (so ++ r ∷ []) cpu d) (sym cursor)
          (by_own cpu d (slice_index cursors cpu) own found (was.each cpu d there))
      each cpu d there (inr other) =
          subst (GatheredOf steps left (so ++ r ∷ []) cpu d) (sym (others cpu (apart-numbers a.cpu cpu other)))
          (by_others cpu d (slice_index cursors cpu) other (was.each cpu d there))

-- one reply more
pub gather_next : (steps : List Asked) (i : ℕ) (o : Asked) (done : List Done) (cursors next : List ℕ) (so : List Reply)
    (r : Reply)
    → i < length steps
    → Gathering steps (drop i steps) done cursors so
    → length next ≡ length cursors
    → slice_index next (get_or steps i o).cpu ≡ slice_index cursors (get_or steps i o).cpu + 1
    → ((j : ℕ) → j ≢ (get_or steps i o).cpu → slice_index next j ≡ slice_index cursors j)
    → ((d : Done)
    → slice_get done (get_or steps i o).cpu ≡ Some d
    → slice_get d.replies.items (slice_index cursors (get_or steps i o).cpu) ≡ Some r)
    → Gathering steps (drop (i + 1) steps) done next (so ++ r ∷ [])
gather_next steps i o done cursors next so r less was =
    by_one steps (get_or steps i o) (drop (i + 1) steps) so r done cursors next
    (subst (λ left. Gathering steps left done cursors so) (drop_more steps i o less) was)

-- a CPU whose step is next has a reply left
pub reply_left : (steps : List Asked) (i : ℕ) (o : Asked) (done : List Done) (cursors : List ℕ) (so : List Reply)
    (d : Done)
    → i < length steps
    → Gathering steps (drop i steps) done cursors so
    → slice_get done (get_or steps i o).cpu ≡ Some d
    → slice_index cursors (get_or steps i o).cpu < length d.replies.items
reply_left steps i o done cursors so d less was there =
    let a = get_or steps i o in
    let some = (was.each a.cpu d there).some in
    let mine : steps_of a.cpu (drop i steps) ≡ a.step ∷ steps_of a.cpu (drop (i + 1) steps) =
    ap (steps_of a.cpu) (drop_more steps i o less) ∙ own a (drop (i + 1) steps) in
    let n : slice_index cursors a.cpu + suc (length (steps_of a.cpu (drop (i + 1) steps))) ≡ length d.replies.items =
    subst (λ ss. slice_index cursors a.cpu + length ss ≡ length d.replies.items) mine some in
    omega (arith, n)
  where
    same : (n : ℕ) → (n == n) ≡ true
    same n = grind (arith)

    own : (a : Asked) (left : List Asked) → steps_of a.cpu (a ∷ left) ≡ a.step ∷ steps_of a.cpu left
    own a left = rw (same a.cpu) refl

-- all replies
pub gather_all : (steps : List Asked) (i : ℕ) (done : List Done) (cursors : List ℕ) (so : List Reply)
    → drop i steps ≡ []
    → Gathering steps (drop i steps) done cursors so
    → IsGathered steps done so
gather_all steps i done cursors so none was = whole (subst (λ left. Gathering steps left done cursors so) none was)
  where
    whole : Gathering steps [] done cursors so → IsGathered steps done so
    whole last = record {
      count = let n = last.count in omega (arith, n);
      each = λ cpu d there. ap (answers_of cpu steps) (sym (append-nil so)) ∙ (last.each cpu d there).leads [] refl;
    }
