-- Lists that are made piece by piece.
use Rattle.std.proofs.Common.{◌≡◌, ℕ, zero, suc, ◌+◌, ◌-◌, ◌<◌, ◌≤◌, List, [], ◌∷◌, ◌++◌, map, take, length, get_or, refl, sym, ap, subst, ◌∙◌, arith}
use Rattle.std.proofs.lemmas.List.{append_assoc, append-nil}
use Rattle.page_state.specs.declared.entry.Run.{Run}
use Rattle.page_state.specs.Regions.{end_of}
use Rattle.ghost_spec.specs.declared.cpu.GhostCpu.{GhostCpu}
use Rattle.ghost_spec.specs.declared.parts.GhostGuest.{GhostGuest}
use Rattle.ghost_legal.specs.declared.held.Held.{Held}
use Rattle.ghost_legal.specs.Frames.{held_frames}
use Rattle.ghost_legal.specs.Listed.{hand_held, hands_held, guest_held, guests_held, mapped_of, option_list, runs_held}
use Rattle.ghost_legal.specs.Ranges.{AreInOrder, BeginsFrom}

-- one member more
map-more : {X Y : Type 0} (f : X → Y) (xs : List X) (i : ℕ) (d : X)
    → i < length xs
    → map f (take (suc i) xs) ≡ map f (take i xs) ++ f (get_or xs i d) ∷ []
map-more f [] i d less = absurd (omega (arith, less))
map-more f (x ∷ xs) zero d less = refl
map-more f (x ∷ xs) (suc i) d less = ap (λ ys. f x ∷ ys) (map-more f xs i d (omega (arith, less)))

runs-more : (v : ℕ) (rs : List Run) (i : ℕ) (d : Run)
    → i < length rs
    → runs_held v (take (suc i) rs) ≡ runs_held v (take i rs) ++ option_list (mapped_of v (get_or rs i d))
runs-more v [] i d less = absurd (omega (arith, less))
runs-more v (r ∷ rs) zero d less = append-nil (option_list (mapped_of v r))
runs-more v (r ∷ rs) (suc i) d less =
    ap (λ ys. option_list (mapped_of v r) ++ ys) (runs-more v rs i d (omega (arith, less)))
    ∙ sym
    (append_assoc (option_list (mapped_of v r)) (runs_held v (take i rs))
    (option_list (mapped_of v (get_or rs i d))))

hands-more : (from : ℕ) (ks : List GhostCpu) (i : ℕ) (d : GhostCpu)
    → i < length ks
    → hands_held from (take (suc i) ks) ≡ hands_held from (take i ks) ++ hand_held (from + i) (get_or ks i d).hand
hands-more from [] i d less = absurd (omega (arith, less))
hands-more from (k ∷ ks) zero d less = let n : from ≡ from + 0 = omega arith in
    append-nil (hand_held from k.hand) ∙ ap (λ (m : ℕ). hand_held m k.hand) n
hands-more from (k ∷ ks) (suc i) d less =
    let n : suc from + i ≡ from + suc i = omega arith in
    ap (λ ys. hand_held from k.hand ++ ys)
    (hands-more (suc from) ks i d (omega (arith, less))
    ∙ ap (λ (m : ℕ). hands_held (suc from) (take i ks) ++ hand_held m (get_or ks i d).hand) n)
    ∙ sym
    (append_assoc (hand_held from k.hand) (hands_held (suc from) (take i ks))
    (hand_held (from + suc i) (get_or ks i d).hand))

guests-more : (from : ℕ) (gs : List GhostGuest) (i : ℕ) (d : GhostGuest)
    → i < length gs
    → guests_held from (take (suc i) gs) ≡ guests_held from (take i gs) ++ guest_held (from + i) (get_or gs i d)
guests-more from [] i d less = absurd (omega (arith, less))
guests-more from (g ∷ gs) zero d less = let n : from ≡ from + 0 = omega arith in
    append-nil (guest_held from g) ∙ ap (λ (m : ℕ). guest_held m g) n
guests-more from (g ∷ gs) (suc i) d less =
    let n : suc from + i ≡ from + suc i = omega arith in
    ap (λ ys. guest_held from g ++ ys)
    (guests-more (suc from) gs i d (omega (arith, less))
    ∙ ap (λ (m : ℕ). guests_held (suc from) (take i gs) ++ guest_held m (get_or gs i d)) n)
    ∙ sym
    (append_assoc (guest_held from g) (guests_held (suc from) (take i gs))
    (guest_held (from + suc i) (get_or gs i d)))

-- what was put behind a list, and one more
pub next_behind : {X : Type 0} (old now then next : List X) (part : ℕ → List X) (i : ℕ)
    → now ≡ old ++ part i
    → then ≡ now ++ next
    → part (suc i) ≡ part i ++ next
    → then ≡ old ++ part (i + 1)
next_behind old now then next part i a b c =
    let n : suc i ≡ i + 1 = omega arith in
    b ∙ ap (λ ys. ys ++ next) a ∙ append_assoc old (part i) next ∙ ap (λ ys. old ++ ys) (sym c)
    ∙ ap (λ (m : ℕ). old ++ part m) n

pub map_more : {X Y : Type 0} (f : X → Y) (xs : List X) (i : ℕ) (d : X)
    → i < length xs
    → map f (take (suc i) xs) ≡ map f (take i xs) ++ f (get_or xs i d) ∷ []
map_more = map-more

pub runs_more : (v : ℕ) (rs : List Run) (i : ℕ) (d : Run)
    → i < length rs
    → runs_held v (take (suc i) rs) ≡ runs_held v (take i rs) ++ option_list (mapped_of v (get_or rs i d))
runs_more = runs-more

pub hands_more : (ks : List GhostCpu) (i : ℕ) (d : GhostCpu)
    → i < length ks
    → hands_held 0 (take (suc i) ks) ≡ hands_held 0 (take i ks) ++ hand_held i (get_or ks i d).hand
hands_more ks i d less = let n : 0 + i ≡ i = omega arith in
    hands-more 0 ks i d less ∙ ap (λ (m : ℕ). hands_held 0 (take i ks) ++ hand_held m (get_or ks i d).hand) n

pub guests_more : (gs : List GhostGuest) (i : ℕ) (d : GhostGuest)
    → i < length gs
    → guests_held 0 (take (suc i) gs) ≡ guests_held 0 (take i gs) ++ guest_held i (get_or gs i d)
guests_more gs i d less = let n : 0 + i ≡ i = omega arith in
    guests-more 0 gs i d less ∙ ap (λ (m : ℕ). guests_held 0 (take i gs) ++ guest_held m (get_or gs i d)) n

-- one piece more in order
begins-more : (low : ℕ) (hs : List Held) (i : ℕ)
    → 0 < i
    → BeginsFrom held_frames low (take i hs)
    → BeginsFrom held_frames low (take (suc i) hs)
begins-more low [] i p b = tt
begins-more low (h ∷ hs) zero p b = absurd (omega (arith, p))
begins-more low (h ∷ hs) (suc i) p b = b

order-more : (hs : List Held) (i : ℕ) (d e : Held)
    → suc i < length hs
    → AreInOrder held_frames (take (suc i) hs)
    → end_of (get_or hs i d).frames ≤ (get_or hs (suc i) e).frames.first.0
    → AreInOrder held_frames (take (suc (suc i)) hs)
order-more [] i d e less o h = absurd (omega (arith, less))
order-more (x ∷ []) i d e less o h = absurd (omega (arith, less))
order-more (x ∷ y ∷ hs) zero d e less o h = (h, (tt, tt))
order-more (x ∷ y ∷ hs) (suc i) d e less o h = (o.0, order-more (y ∷ hs) i d e (omega (arith, less)) o.1 h)

pub order_more : (hs : List Held) (i : ℕ) (d e : Held)
    → 1 ≤ i
    → i < length hs
    → AreInOrder held_frames (take i hs)
    → end_of (get_or hs (i - 1) d).frames ≤ (get_or hs i e).frames.first.0
    → AreInOrder held_frames (take (i + 1) hs)
order_more hs zero d e p less o h = absurd (omega (arith, p))
order_more hs (suc i) d e p less o h =
    let n : suc (suc i) ≡ suc i + 1 = omega arith in
    let m : suc i - 1 ≡ i = omega arith in
    subst (λ (k : ℕ). AreInOrder held_frames (take k hs)) n
    (order-more hs i d e less o
    (subst (λ (k : ℕ). end_of (get_or hs k d).frames ≤ (get_or hs (suc i) e).frames.first.0) m h))

pub order_first : (hs : List Held) → AreInOrder held_frames (take 1 hs)
order_first [] = tt
order_first (h ∷ hs) = (tt, tt)

pub order_all : (hs : List Held) (i : ℕ)
    → length hs ≤ i
    → AreInOrder held_frames (take i hs)
    → AreInOrder held_frames hs
order_all [] i less o = tt
order_all (h ∷ hs) zero less o = absurd (omega (arith, less))
order_all (h ∷ []) (suc i) less o = (tt, tt)
order_all (h ∷ k ∷ hs) (suc zero) less o = absurd (omega (arith, less))
order_all (h ∷ k ∷ hs) (suc (suc i)) less o = (o.0, order_all (k ∷ hs) (suc i) (omega (arith, less)) o.1)
