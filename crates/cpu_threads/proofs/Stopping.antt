-- Where a try stops that stores no call.
use Rattle.std.proofs.Common.{◌≡◌, ◌≢◌, ℕ, List, [], ◌∷◌, ◌++◌, length, refl, sym, ap, ◌∙◌, subst, ⊎_elim, inl, inr}
use Rattle.std.specs.Prelude.{Option, None}
use Rattle.std.proofs.lemmas.List.Elements.{All-cons, All-nil}
use Rattle.part_types.specs.Logs.{StoredCalls}
use Rattle.part_table.specs.Answered.{used_by}
use Rattle.part_table.specs.Known.{AddsTries, Known, Try}
use Rattle.part_table.specs.Tried.{EndsIn, FoundAway, FoundFull, FoundRoom}
use Rattle.part_table.proofs.Added.{timed}
use Rattle.cpu_threads.specs.Laws.{StopAt, StopsAtAnother, StopsAtFullLog}

module _ (Last : Option StoredCalls → Type 0) where
  -- one part before these was taken with room
  stop_later : (k : ℕ) (x : Option StoredCalls) (ks : List ℕ) (ts : List Try)
      → FoundRoom x
      → StopAt Last ks ts
      → StopAt Last (k ∷ ks) ((k, x) ∷ ts)
  stop_later k x ks ts room s = record {
    before = (k, x) ∷ s.before;
    last = s.last;
    all = ap (λ (l : List Try). (k, x) ∷ l) s.all;
    numbers = (s.numbers.0, ap (λ (l : List ℕ). k ∷ l) s.numbers.1);
    room = All-cons (λ (t : Try). FoundRoom t.1) (k, x) s.before room s.room;
    found = s.found;
  }

  pub stop_at : (ks : List ℕ) (ts : List Try) → EndsIn Last ks ts → StopAt Last ks ts
  stop_at [] ts e = absurd e
  stop_at (k ∷ ks) ts e = subst (StopAt Last (k ∷ ks)) (sym e.2) (⊎_elim
      (λ (h : Last e.0 × (e.1 ≡ [])). subst (λ (r : List Try). StopAt Last (k ∷ ks) ((k, e.0) ∷ r)) (sym h.1) record {
        before = [];
        last = (k, e.0);
        all = refl;
        numbers = (ks, refl);
        room = All-nil (λ (t : Try). FoundRoom t.1);
        found = h.0;
      })
      (λ (h : FoundRoom e.0 × EndsIn Last ks e.1). stop_later k e.0 ks e.1 h.0 (stop_at ks e.1 h.1))
      e.3)

met_at : (v w : Known) (ts : List Try)
    → AddsTries ts v w
    → (ks : List ℕ) (s : StopAt FoundAway ks ts)
    → AddsTries (s.before ++ (s.last.0, None) ∷ []) v w
met_at v w ts tried ks s =
    tried
    ∙ ap (λ (l : List Try). v.tries ++ timed (length v.own.log.calls) l)
    (s.all ∙ ap (λ (o : Option StoredCalls). s.before ++ (s.last.0, o) ∷ []) s.found)

pub stops_at_another : StopsAtAnother
stops_at_another step v w f = let s = stop_at FoundAway (used_by step v) f.tries f.found.1 in
    (s, met_at v w f.tries f.tried (used_by step v) s)

pub stops_at_full_log : StopsAtFullLog
stops_at_full_log step v w f = ⊎_elim
    (λ (h : (v.own.log.room ≡ 0) × (f.tries ≡ [])). inl h)
    (λ (h : (v.own.log.room ≢ 0) × EndsIn FoundFull (used_by step v) f.tries). inr
    (stop_at FoundFull (used_by step v) f.tries h.1))
    f.found
