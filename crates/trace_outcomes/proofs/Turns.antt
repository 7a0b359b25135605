-- The steps of a trace before `start` and those after it.
use Rattle.std.proofs.Common.{◌≡◌, ℕ, suc, ◌+◌, ◌<◌, ◌^◌, refl, sym, ap, subst, ◌∙◌, arith, List, [], ◌∷◌, length, take, drop, Option, None, Vec, Global}
use Rattle.std.specs.Prelude.{All, option_map, slice_range}
use Rattle.std.proofs.lemmas.List.{drop-map, length-drop, length-map, length-take, take-map}
use Rattle.std.proofs.Math.Seq.{take-length}
use Rattle.std.proofs.lemmas.List.Elements.{All-cons, All-drop, All-head, All-tail, All-take}
use Rattle.page_state.specs.declared.layout.Config.{Config}
use Rattle.page_state.specs.Layouts.{Layout}
use Rattle.page_state.specs.LayoutView.{layout_of}
use Rattle.call_table.specs.declared.reply.Reply.{Reply}
use Rattle.reference_model.specs.model.State.{Reference}
use Rattle.ghost_spec.specs.declared.state.Ghost.{Ghost}
use Rattle.ghost_spec.specs.States.{ghost_state}
use Rattle.race_outcomes.specs.declared.node.Turn.{Turn}
use Rattle.race_outcomes.specs.Orders.{replies_along, model_reply}
use Rattle.trace_lines.specs.Settings.{config_of}
use Rattle.trace_race.specs.Booted.{machine_in}
use Rattle.trace_race.specs.declared.course.Asked.{Asked}
use Rattle.trace_race.specs.Courses.{Asking, IsSound, in_order_of}
use Rattle.trace_race.specs.Judged.{HasGenerationsTo}
use Rattle.trace_text.specs.Worlds.{Machine}
use Rattle.trace_outcomes.specs.declared.making.Race.{Race}
use Rattle.trace_outcomes.specs.Made.{HasMade, IsReady}
use Rattle.trace_outcomes.specs.Races.{Texts, first_of, no_replies, nothing_wanted, texts_in, first_replies, turns_of, turns_raced, wants}
use Rattle.trace_outcomes.proofs.Generated.{along_low}

pub turns_below : (n : ℕ) (steps : List Asked) (texts : Texts)
    → All (λ a. a.cpu < n) steps
    → All (λ t. t.cpu < n) (turns_of steps texts)
turns_below n [] texts h = λ k d less. absurd (omega (arith, less))
turns_below n (a ∷ steps) [] h = λ k d less. absurd (omega (arith, less))
turns_below n (a ∷ steps) (text ∷ texts) h =
    All-cons (λ (t : Turn). t.cpu < n) (record { cpu = a.cpu; step = a.step; wants = wants text })
    (turns_of steps texts) (All-head (λ (x : Asked). x.cpu < n) a steps h)
    (turns_below n steps texts (All-tail (λ (x : Asked). x.cpu < n) a steps h))

pub turns_count : (steps : List Asked) (texts : Texts)
    → length texts ≡ length steps
    → length (turns_of steps texts) ≡ length steps
turns_count [] texts h = refl
turns_count (a ∷ steps) [] h = absurd (omega (arith, h))
turns_count (a ∷ steps) (text ∷ texts) h = ap suc (turns_count steps texts (omega (arith, h)))

pub along_count : (l : Layout) (s : Reference) (turns : List Turn) → length (replies_along l s turns).0 ≡ length turns
along_count l s [] = refl
along_count l s (t ∷ more) = ap suc (along_count l (model_reply l s t).1 more)

pub texts_nothing : (steps : List Asked) → texts_in (nothing_wanted steps) ≡ no_replies steps
texts_nothing [] = refl
texts_nothing (a ∷ more) = ap (λ (ts : Texts). None ∷ ts) (texts_nothing more)

pub texts_behind : (n : ℕ) (texts : List (Option (Vec ℕ Global))) → texts_in (drop n texts) ≡ drop n (texts_in texts)
texts_behind n texts = sym (drop-map (option_map (λ (v : Vec ℕ Global). v.items)) n texts)

pub texts_before : (n : ℕ) (texts : List (Option (Vec ℕ Global))) → texts_in (take n texts) ≡ take n (texts_in texts)
texts_before n texts = sym (take-map (option_map (λ (v : Vec ℕ Global). v.items)) n texts)

length-texts : (texts : List (Option (Vec ℕ Global))) → length (texts_in texts) ≡ length texts
length-texts texts = length-map texts (option_map (λ (v : Vec ℕ Global). v.items))

pub wanted_behind : (n : ℕ) (steps : List Asked) → drop n (nothing_wanted steps) ≡ nothing_wanted (drop n steps)
wanted_behind n steps = drop-map (λ (a : Asked). None) n steps

pub texts_few : (n : ℕ) (texts : List (Option (Vec ℕ Global))) (steps : List Asked)
    → length texts ≡ length steps
    → length (texts_in (take n texts)) ≡ length (take n steps)
texts_few n texts steps count =
    length-texts (take n texts) ∙ omega (arith, length-take n texts, length-take n steps, count)

-- what is left of a list, as code takes it
pub rest_is : {X : Type 0} (n : ℕ) (xs : List X) → slice_range xs n (length xs) ≡ drop n xs
rest_is n xs = ap (λ k. take k (drop n xs)) (sym (length-drop n xs)) ∙ take-length (drop n xs)

pub first_below : (a : Asking) (g : Ghost) (steps : List Asked) (texts : List (Option (Vec ℕ Global)))
    (first : List Turn) (n : ℕ)
    → steps ≡ a.steps
    → IsSound a
    → g.layout.config ≡ config_of a.told
    → first ≡ turns_of (take n steps) (texts_in (take n texts)) → All (λ t. t.cpu < g.layout.config.cpus) first
first_below a g steps texts first n is sound config before =
    subst (All (λ (t : Turn). t.cpu < g.layout.config.cpus)) (sym before)
    (subst (λ k. All (λ (t : Turn). t.cpu < k) (turns_of (take n steps) (texts_in (take n texts))))
    (sym (ap (λ (k : Config). k.cpus) config))
    (turns_below (config_of a.told).cpus (take n steps) (texts_in (take n texts))
    (All-take (λ (s : Asked). s.cpu < (config_of a.told).cpus) n steps
    (subst (All (λ (s : Asked). s.cpu < (config_of a.told).cpus)) (sym is) sound.below))))

module _ (a : Asking) (g : Ghost) (r : Race) (steps : List Asked) (is : steps ≡ a.steps)
    (texts : List (Option (Vec ℕ Global))) (first : List Turn) (n : ℕ) (order : n ≡ in_order_of a)
    (front : first ≡ turns_of (take n steps) (texts_in (take n texts)))
    (rest : r.turns.items
    ≡ turns_of (slice_range steps n (length steps)) (texts_in (slice_range texts n (length texts))))
    (told : (r.replies.items, ghost_state r.state) ≡ replies_along (layout_of g.layout) (ghost_state g) first)
    (layout : layout_of r.state.layout ≡ layout_of g.layout) where
  before : first ≡ turns_of (take n a.steps) (texts_in (take n texts))
  before = front ∙ ap (λ xs. turns_of (take n xs) (texts_in (take n texts))) is

  behind : r.turns.items ≡ turns_of (drop n a.steps) (texts_in (drop n texts))
  behind =
      rest ∙ ap (λ xs. turns_of xs (texts_in (slice_range texts n (length texts)))) (rest_is n steps)
      ∙ ap (λ xs. turns_of (drop n steps) (texts_in xs)) (rest_is n texts)
      ∙ ap (λ xs. turns_of (drop n xs) (texts_in (drop n texts))) is

  pub has_made : HasMade (machine_in g) a (texts_in texts) r
  has_made = record {
    told =
        told
        ∙ ap (replies_along (layout_of g.layout) (ghost_state g))
        (before ∙ ap (turns_of (take n a.steps)) (texts_before n texts)
        ∙ ap (λ k. turns_of (take k a.steps) (take k (texts_in texts))) order);
    layout = layout;
    turns =
        behind ∙ ap (turns_of (drop n a.steps)) (texts_behind n texts)
        ∙ ap (λ k. turns_of (drop k a.steps) (drop k (texts_in texts))) order;
  }

  pub made_ready : IsSound a
      → g.layout.config ≡ config_of a.told
      → length texts ≡ length a.steps
      → length a.steps < 2 ^ 63
      → HasGenerationsTo 1 (ghost_state g).contents
      → IsReady a (drop (in_order_of a) texts) r
  made_ready sound config count few low = record {
    cpus = subst (λ ts. All (λ t. t.cpu < r.state.layout.config.cpus) ts) (sym behind)
        (subst (λ k. All (λ t. t.cpu < k) (turns_of (drop n a.steps) (texts_in (drop n texts))))
        (sym (ap (λ (l : Layout). l.config.cpus) layout ∙ ap (λ (k : Config). k.cpus) config))
        (turns_below (config_of a.told).cpus (drop n a.steps) (texts_in (drop n texts))
        (All-drop (λ (s : Asked). s.cpu < (config_of a.told).cpus) n a.steps sound.below)));
    count =
        subst (λ k. length (drop k texts) ≡ length r.turns.items) order
        (sym
        (ap length behind
        ∙ turns_count (drop n a.steps) (texts_in (drop n texts)) (length-texts (drop n texts) ∙ both_behind)
        ∙ sym both_behind));
    replies =
        ap length (ap (λ (x : List Reply × Reference). x.0) told)
        ∙ along_count (layout_of g.layout) (ghost_state g) first ∙ ap length before
        ∙ turns_count (take n a.steps) (texts_in (take n texts)) (length-texts (take n texts) ∙ both_before)
        ∙ ap (λ k. length (take k a.steps)) order;
    few =
        omega (
          arith,
          few,
          sym (ap (λ k. length (take k a.steps)) order),
          length-take n a.steps,
          length-drop n a.steps,
          count_behind,
        );
    low =
        subst (λ (s : Reference). HasGenerationsTo (1 + length (first_of a)) s.contents)
        (sym (ap (λ (x : List Reply × Reference). x.1) told))
        (subst
        (λ k. HasGenerationsTo (1 + k)
        (replies_along (layout_of g.layout) (ghost_state g) first).1.contents) count_before
        (along_low (layout_of g.layout) 1 (ghost_state g) first (omega arith) low));
  }
    where
      count_behind : length r.turns.items ≡ length (drop n a.steps)
      count_behind =
          ap length behind
          ∙ turns_count (drop n a.steps) (texts_in (drop n texts))
          (length-texts (drop n texts) ∙ omega (arith, length-drop n texts, length-drop n a.steps, count))

      count_before : length first ≡ length (first_of a)
      count_before =
          ap length before
          ∙ turns_count (take n a.steps) (texts_in (take n texts))
          (length-texts (take n texts) ∙ omega (arith, length-take n texts, length-take n a.steps, count))
          ∙ ap (λ k. length (take k a.steps)) order

      both_behind : length (drop n texts) ≡ length (drop n a.steps)
      both_behind = omega (arith, length-drop n texts, length-drop n a.steps, count)

      both_before : length (take n texts) ≡ length (take n a.steps)
      both_before = omega (arith, length-take n texts, length-take n a.steps, count)

-- the same at the machine's state before the steps after `start`
pub moved : (P : Layout → Reference → List Turn → Type 0) (m : Machine) (a : Asking) (texts : Texts) (r : Race)
    → HasMade m a texts r
    → P (layout_of r.state.layout) (ghost_state r.state) r.turns.items
    → P m.layout (first_replies m a texts).1 (turns_raced a texts)
moved P m a texts r made p =
    subst (λ l. P l (first_replies m a texts).1 (turns_raced a texts)) made.layout
    (subst (λ s. P (layout_of r.state.layout) s (turns_raced a texts))
    (ap (λ (x : List Reply × Reference). x.1) made.told)
    (subst (λ ts. P (layout_of r.state.layout) (ghost_state r.state) ts) made.turns p))
