-- The words that are taken, where a word that is no option begins with no hyphen.
use Rattle.std.proofs.Common.{◌≡◌, ℕ, ◌==◌, ◌∙◌, arith, Result, Ok, Err, ap, subst, refl, sym, true≢false, cond, Bool, true, false, codes, List, [], ◌∷◌, Option, Some, None, is_some, option_map, option_and_then, inl, inr}
use Rattle.std.specs.Prelude.{◌⊎◌}
use Rattle.std.specs.Option.{option_map_or}
use Rattle.std.specs.Str.{bytes_eq}
use Rattle.std.proofs.lemmas.Bool.Decides.{nat_tests}
use Rattle.std.proofs.lemmas.Slice.Eq.{bytes_eq-Decides}
use Rattle.clap.proofs.OnLiterals.{clap_on_literals}
use Rattle.clap.specs.Faults.{bundle_fault, check_fault, defaults_fault, fault_of, flag_word_fault, level_fault, other_fault, settle_fault, step_fault, turn_fault, walk_fault}
use Rattle.clap.specs.Kinds.{IsAmong, Kinds, or_else}
use Rattle.clap.specs.Lexer.{long_of, long_of_rest, short_of, short_of_rest, strip_byte}
use Rattle.clap.specs.Simple.{Shape, built_leaf, inherited, marked_built, with_leaf_noted}
use Rattle.clap.specs.Walk.{Held, Rule, Step, Text, Waiting, Walk, after_step, arg_by_index, finished, idle, long_or_other, nothing_held, plain_word, settled, short_or_plain, subcommand_or_other, to_positional, trailing, value, walk, walk_from, walked}
use Rattle.clap.specs.Words.{App, is_simple_and_free, kind_of}
use Rattle.trace_words.specs.Numbers.{number_of}
use Rattle.trace_command.specs.declared.words.Output.TheVariants.{Report}
use Rattle.trace_command.specs.Words.{audit, check, cover, draw, dump, explain, generate, outcomes, program, race, replay}
use Rattle.trace_command.specs.Asked.{Asking, Auditing, Checking, Covering, Drawing, Dumping, Explaining, Finding, Generating, Gives, IsPlain, IsRead, IsRefused, Racing, Replaying, Takes, asked_by, asked_in, asked_heap, of_core}
use Rattle.trace_command.specs.declared.words.Invocation.{Invocation}
use Rattle.trace_command.specs.declared.words.Looks.TheVariants.{Each}
use Rattle.trace_command.specs.declared.words.UsageFault.{UsageFault}
use Rattle.trace_command.specs.declared.words.UsageFault.TheVariants.{NoMemory, Usage}

pub some_is : {X : Type 0} {x y : X} → Some x ≡ Some y → x ≡ y
some_is h = cc

plain_of : (word : Text) → IsPlain word → strip_byte 45 word ≡ None
plain_of [] other = refl
plain_of (x ∷ xs) other = go (x == 45) refl
  where
    go : (b : Bool) → (x == 45) ≡ b → strip_byte 45 (x ∷ xs) ≡ None
    go true e = absurd (other (ap Some (grind (arith, nat_tests))))
    go false e = rw e refl

-- a word that begins with no hyphen is no flag
module _ (word : Text) (plain : strip_byte 45 word ≡ None) where
  not_long : long_of word ≡ None
  not_long = ap (λ (o : Option Text). option_and_then long_of_rest (option_and_then (strip_byte 45) o)) plain

  not_short : short_of word ≡ None
  not_short = ap (option_and_then short_of_rest) plain

  not_dashes : bytes_eq word (45 ∷ 45 ∷ []) ≡ false
  not_dashes = go (bytes_eq word (45 ∷ 45 ∷ [])) refl
    where
      go : (b : Bool) → bytes_eq word (45 ∷ 45 ∷ []) ≡ b → b ≡ false
      go true e =
          let same : word ≡ 45 ∷ 45 ∷ [] = (bytes_eq-Decides word (45 ∷ 45 ∷ [])).0 e in
          absurd (true≢false (ap is_some (sym (ap (strip_byte 45) same) ∙ plain)))
      go false e = refl

  met_is : (c : List Rule) (waiting : Waiting) (position : ℕ) (h : Held)
      → subcommand_or_other c None waiting position word h ≡ plain_word c waiting word h
  met_is c waiting position h =
      ap (λ b. cond b (h, trailing position) (long_or_other c waiting word (long_of word) h)) not_dashes
      ∙ ap (λ o. long_or_other c waiting word o h) not_long
      ∙ ap (λ o. short_or_plain c waiting word o h) not_short

  no_flag_fault : (s : Shape) (h : Held) → other_fault s None word h ≡ []
  no_flag_fault s h =
      ap (λ b. cond b [] (flag_word_fault s.rules s.args_override_self (long_of word) word h)) not_dashes
      ∙ ap (λ o. flag_word_fault s.rules s.args_override_self o word h) not_long
      ∙ ap (λ o. option_map_or (λ flags. bundle_fault s.rules s.args_override_self flags h) o []) not_short

-- what is tested where the words end
abbrev ended : Shape → Walk → Kinds
ended s w = or_else (settle_fault s.rules s.args_override_self w.held)
    (or_else (defaults_fault (settled s.rules w.held).rows s.rules) (check_fault s (finished s.rules w.held) false))

-- the walk after a first word that is no option
abbrev after : Shape → Text → Walk
after s word = to_positional s.rules (arg_by_index s.rules 1) word (walk_from nothing_held) nothing_held

-- a subcommand that takes the first word by its place
module _ (s : Shape) (takes : step_fault s 1 nothing_held value ≡ []) (word : Text)
    (plain : strip_byte 45 word ≡ None) where
  first_walked : walked s.rules [] (walk_from nothing_held) word ≡ after s word
  unfolding clap_on_literals
  first_walked =
      ap (λ (m : Held × Step). after_step s.rules word (walk_from nothing_held) m.0 m.1)
      (met_is word plain s.rules idle 1 nothing_held)

  no_first_fault : turn_fault s [] (walk_from nothing_held) word ≡ []
  unfolding clap_on_literals
  no_first_fault =
      let met = subcommand_or_other s.rules None idle 1 word nothing_held in
      ap (λ k. or_else k (step_fault s 1 met.0 met.1)) (no_flag_fault word plain s nothing_held)
      ∙ ap (λ (m : Held × Step). step_fault s 1 m.0 m.1) (met_is word plain s.rules idle 1 nothing_held)
      ∙ takes

  one_walk : walk s.rules [] nothing_held (word ∷ []) ≡ after s word
  unfolding clap_on_literals
  one_walk = first_walked

  one_fault : walk_fault s [] (walk_from nothing_held) (word ∷ []) ≡ []
  unfolding clap_on_literals
  one_fault = ap (λ k. or_else k []) no_first_fault

  -- words of which it is the only one
  one_none : ended s (after s word) ≡ [] → level_fault s [] nothing_held (word ∷ []) false [] ≡ []
  one_none none =
      ap (λ k. or_else k (ended s (walk s.rules [] nothing_held (word ∷ [])))) one_fault ∙ ap (ended s) one_walk ∙ none

-- the subcommands as the program has them once it is built
abbrev leaf : App → Shape
leaf app = built_leaf (inherited (with_leaf_noted (marked_built program.top)) app.top)

pub is_free : is_simple_and_free program ≡ true
is_free = refl

module _ (name file : Text) (plain : strip_byte 45 file ≡ None) where
  replay_none : fault_of program (name ∷ codes "replay" ∷ file ∷ []) ≡ []
  unfolding clap_on_literals
  replay_none = ap (λ k. or_else k []) (one_none (leaf replay) refl file plain refl)

  replay_asked : asked_by (name ∷ codes "replay" ∷ file ∷ []) ≡ Some (Replaying file None Each Report)
  unfolding clap_on_literals
  replay_asked =
      ap (λ (w : Walk). asked_in (codes "replay", finished (leaf replay).rules w.held))
      (one_walk (leaf replay) refl file plain)

  race_none : fault_of program (name ∷ codes "race" ∷ file ∷ []) ≡ []
  unfolding clap_on_literals
  race_none = ap (λ k. or_else k []) (one_none (leaf race) refl file plain refl)

  race_asked : asked_by (name ∷ codes "race" ∷ file ∷ []) ≡ Some (Racing file false Report)
  unfolding clap_on_literals
  race_asked =
      ap (λ (w : Walk). asked_in (codes "race", finished (leaf race).rules w.held))
      (one_walk (leaf race) refl file plain)

  audit_none : fault_of program (name ∷ codes "audit" ∷ file ∷ []) ≡ []
  unfolding clap_on_literals
  audit_none = ap (λ k. or_else k []) (one_none (leaf audit) refl file plain refl)

  audit_asked : asked_by (name ∷ codes "audit" ∷ file ∷ []) ≡ Some (Auditing file false Report)
  unfolding clap_on_literals
  audit_asked =
      ap (λ (w : Walk). asked_in (codes "audit", finished (leaf audit).rules w.held))
      (one_walk (leaf audit) refl file plain)

  outcomes_none : fault_of program (name ∷ codes "outcomes" ∷ file ∷ []) ≡ []
  unfolding clap_on_literals
  outcomes_none = ap (λ k. or_else k []) (one_none (leaf outcomes) refl file plain refl)

  outcomes_asked : asked_by (name ∷ codes "outcomes" ∷ file ∷ []) ≡ Some (Finding file 100000 None Report)
  unfolding clap_on_literals
  outcomes_asked =
      ap (λ (w : Walk). asked_in (codes "outcomes", finished (leaf outcomes).rules w.held))
      (one_walk (leaf outcomes) refl file plain)

  check_none : fault_of program (name ∷ codes "check" ∷ file ∷ []) ≡ []
  unfolding clap_on_literals
  check_none = ap (λ k. or_else k []) (one_none (leaf check) refl file plain refl)

  check_asked : asked_by (name ∷ codes "check" ∷ file ∷ []) ≡ Some (Checking (file ∷ []) Each Report)
  unfolding clap_on_literals
  check_asked =
      ap (λ (w : Walk). asked_in (codes "check", finished (leaf check).rules w.held))
      (one_walk (leaf check) refl file plain)

  cover_none : fault_of program (name ∷ codes "cover" ∷ file ∷ []) ≡ []
  unfolding clap_on_literals
  cover_none = ap (λ k. or_else k []) (one_none (leaf cover) refl file plain refl)

  cover_asked : asked_by (name ∷ codes "cover" ∷ file ∷ []) ≡ Some (Covering (file ∷ []) false false)
  unfolding clap_on_literals
  cover_asked =
      ap (λ (w : Walk). asked_in (codes "cover", finished (leaf cover).rules w.held))
      (one_walk (leaf cover) refl file plain)

  explain_none : fault_of program (name ∷ codes "explain" ∷ file ∷ []) ≡ []
  unfolding clap_on_literals
  explain_none = ap (λ k. or_else k []) (one_none (leaf explain) refl file plain refl)

  explain_asked : asked_by (name ∷ codes "explain" ∷ file ∷ []) ≡ Some (Explaining file None Report)
  unfolding clap_on_literals
  explain_asked =
      ap (λ (w : Walk). asked_in (codes "explain", finished (leaf explain).rules w.held))
      (one_walk (leaf explain) refl file plain)

  draw_none : fault_of program (name ∷ codes "draw" ∷ file ∷ []) ≡ []
  unfolding clap_on_literals
  draw_none = ap (λ k. or_else k []) (one_none (leaf draw) refl file plain refl)

  draw_asked : asked_by (name ∷ codes "draw" ∷ file ∷ []) ≡ Some (Drawing file false)
  unfolding clap_on_literals
  draw_asked =
      ap (λ (w : Walk). asked_in (codes "draw", finished (leaf draw).rules w.held))
      (one_walk (leaf draw) refl file plain)

-- ---- `replay -`

module _ (name : Text) where
  input_none : fault_of program (name ∷ codes "replay" ∷ codes "-" ∷ []) ≡ []
  unfolding clap_on_literals
  input_none = refl

  input_asked : asked_by (name ∷ codes "replay" ∷ codes "-" ∷ []) ≡ Some (Replaying (codes "-") None Each Report)
  unfolding clap_on_literals
  input_asked = refl

-- ---- `replay FILE --heap BYTES`

-- the walk after `FILE --heap`, and after BYTES
abbrev awaiting : Text → Walk
awaiting file = walked (leaf replay).rules [] (after (leaf replay) file) (codes "--heap")

abbrev sized : Text → Text → Walk
sized file bytes =
    let met = plain_word (leaf replay).rules (awaiting file).waiting bytes (awaiting file).held in
    after_step (leaf replay).rules bytes (awaiting file) met.0 met.1

module _ (name file bytes : Text) (plain : strip_byte 45 file ≡ None) (plain_bytes : strip_byte 45 bytes ≡ None) where
  abbrev given : List Text
  given = file ∷ codes "--heap" ∷ bytes ∷ []

  bytes_walked : walked (leaf replay).rules [] (awaiting file) bytes ≡ sized file bytes
  unfolding clap_on_literals
  bytes_walked =
      let w = awaiting file in
      ap (λ (m : Held × Step). after_step (leaf replay).rules bytes w m.0 m.1)
      (met_is bytes plain_bytes (leaf replay).rules w.waiting w.position w.held)

  no_bytes_fault : turn_fault (leaf replay) [] (awaiting file) bytes ≡ []
  unfolding clap_on_literals
  no_bytes_fault =
      let w = awaiting file in
      let met = subcommand_or_other (leaf replay).rules None w.waiting w.position bytes w.held in
      ap (λ k. or_else k (step_fault (leaf replay) w.position met.0 met.1))
      (no_flag_fault bytes plain_bytes (leaf replay) w.held)
      ∙ ap (λ (m : Held × Step). step_fault (leaf replay) w.position m.0 m.1)
      (met_is bytes plain_bytes (leaf replay).rules w.waiting w.position w.held)

  heap_walk : walk (leaf replay).rules [] nothing_held given ≡ sized file bytes
  unfolding clap_on_literals
  heap_walk =
      ap (λ w. walked (leaf replay).rules [] (walked (leaf replay).rules [] w (codes "--heap")) bytes)
      (first_walked (leaf replay) refl file plain)
      ∙ bytes_walked

  no_heap_fault : turn_fault (leaf replay) [] (after (leaf replay) file) (codes "--heap") ≡ []
  unfolding clap_on_literals
  no_heap_fault = refl

  no_given_fault : walk_fault (leaf replay) [] (walk_from nothing_held) given ≡ []
  unfolding clap_on_literals
  no_given_fault =
      ap
      (λ k. or_else k
      (walk_fault (leaf replay) [] (walked (leaf replay).rules [] (walk_from nothing_held) file)
      (codes "--heap" ∷ bytes ∷ [])))
      (no_first_fault (leaf replay) refl file plain)
      ∙ ap (λ w. walk_fault (leaf replay) [] w (codes "--heap" ∷ bytes ∷ []))
      (first_walked (leaf replay) refl file plain)
      ∙ ap (λ k. or_else k (walk_fault (leaf replay) [] (awaiting file) (bytes ∷ []))) no_heap_fault
      ∙ ap (λ k. or_else k []) no_bytes_fault

  no_sized_fault : ended (leaf replay) (sized file bytes) ≡ []
  unfolding clap_on_literals
  no_sized_fault = refl

  heap_level : level_fault (leaf replay) [] nothing_held given false [] ≡ []
  heap_level =
      ap (λ k. or_else k (ended (leaf replay) (walk (leaf replay).rules [] nothing_held given))) no_given_fault
      ∙ ap (ended (leaf replay)) heap_walk ∙ no_sized_fault

  heap_none : fault_of program (name ∷ codes "replay" ∷ given) ≡ []
  unfolding clap_on_literals
  heap_none = ap (λ k. or_else k []) heap_level

  heap_asked : asked_by (name ∷ codes "replay" ∷ given)
      ≡ option_map (λ heap. Replaying file heap Each Report) (asked_heap (Some bytes))
  unfolding clap_on_literals
  heap_asked =
      ap (λ (w : Walk). asked_in (codes "replay", finished (leaf replay).rules w.held)) heap_walk
      ∙ always (asked_heap (Some bytes))
    where
      always : (o : Option (Option ℕ))
          → option_and_then (λ heap. option_map (λ looks. Replaying file heap looks Report) (Some Each)) o
          ≡ option_map (λ heap. Replaying file heap Each Report) o
      always None = refl
      always (Some heap) = refl

-- ---- a race and an audit take no heap

-- there is a fault
abbrev HasFault : Kinds → Type 0
HasFault [] = ⊥
HasFault (kind ∷ kinds) = Unit {0}

or_fault : (a b : Kinds) → HasFault a → HasFault (or_else a b)
or_fault [] b h = absurd h
or_fault (kind ∷ kinds) b h = tt

module _ (s : Shape) (takes : step_fault s 1 nothing_held value ≡ []) (file bytes : Text)
    (plain : strip_byte 45 file ≡ None)
    (unknown : HasFault (walk_fault s [] (after s file) (codes "--heap" ∷ bytes ∷ []))) where
  unknown_walk : HasFault (walk_fault s [] (walk_from nothing_held) (file ∷ codes "--heap" ∷ bytes ∷ []))
  unfolding clap_on_literals
  unknown_walk =
      let more = codes "--heap" ∷ bytes ∷ [] in
      subst (λ k. HasFault (or_else k (walk_fault s [] (walked s.rules [] (walk_from nothing_held) file) more)))
      (sym (no_first_fault s takes file plain))
      (subst (λ w. HasFault (walk_fault s [] w more)) (sym (first_walked s takes file plain)) unknown)

  unknown_level : HasFault (level_fault s [] nothing_held (file ∷ codes "--heap" ∷ bytes ∷ []) false [])
  unknown_level = or_fault _ _ unknown_walk

module _ (name file bytes : Text) (plain : strip_byte 45 file ≡ None) where
  race_heap : HasFault (fault_of program (name ∷ codes "race" ∷ file ∷ codes "--heap" ∷ bytes ∷ []))
  unfolding clap_on_literals
  race_heap = or_fault _ [] (unknown_level (leaf race) refl file bytes plain tt)

  audit_heap : HasFault (fault_of program (name ∷ codes "audit" ∷ file ∷ codes "--heap" ∷ bytes ∷ []))
  unfolding clap_on_literals
  audit_heap = or_fault _ [] (unknown_level (leaf audit) refl file bytes plain tt)

-- ---- `generate SEED STEPS`

-- the walk after both words
abbrev counted : Text → Text → Walk
counted seed steps =
    let w = after (leaf generate) seed in
    let met = plain_word (leaf generate).rules w.waiting steps w.held in
    after_step (leaf generate).rules steps w met.0 met.1

module _ (name seed steps : Text) (plain : strip_byte 45 seed ≡ None) (plain_steps : strip_byte 45 steps ≡ None) where
  steps_walked : walked (leaf generate).rules [] (after (leaf generate) seed) steps ≡ counted seed steps
  unfolding clap_on_literals
  steps_walked =
      let w = after (leaf generate) seed in
      ap (λ (m : Held × Step). after_step (leaf generate).rules steps w m.0 m.1)
      (met_is steps plain_steps (leaf generate).rules w.waiting w.position w.held)

  no_steps_fault : turn_fault (leaf generate) [] (after (leaf generate) seed) steps ≡ []
  unfolding clap_on_literals
  no_steps_fault =
      let w = after (leaf generate) seed in
      let met = subcommand_or_other (leaf generate).rules None w.waiting w.position steps w.held in
      ap (λ k. or_else k (step_fault (leaf generate) w.position met.0 met.1))
      (no_flag_fault steps plain_steps (leaf generate) w.held)
      ∙ ap (λ (m : Held × Step). step_fault (leaf generate) w.position m.0 m.1)
      (met_is steps plain_steps (leaf generate).rules w.waiting w.position w.held)

  generate_walk : walk (leaf generate).rules [] nothing_held (seed ∷ steps ∷ []) ≡ counted seed steps
  unfolding clap_on_literals
  generate_walk =
      ap (λ w. walked (leaf generate).rules [] w steps) (first_walked (leaf generate) refl seed plain) ∙ steps_walked

  no_words_fault : walk_fault (leaf generate) [] (walk_from nothing_held) (seed ∷ steps ∷ []) ≡ []
  unfolding clap_on_literals
  no_words_fault =
      ap
      (λ k. or_else k
      (walk_fault (leaf generate) [] (walked (leaf generate).rules [] (walk_from nothing_held) seed)
      (steps ∷ [])))
      (no_first_fault (leaf generate) refl seed plain)
      ∙ ap (λ w. walk_fault (leaf generate) [] w (steps ∷ [])) (first_walked (leaf generate) refl seed plain)
      ∙ ap (λ k. or_else k []) no_steps_fault

  no_counted_fault : ended (leaf generate) (counted seed steps) ≡ []
  unfolding clap_on_literals
  no_counted_fault = refl

  generate_level : level_fault (leaf generate) [] nothing_held (seed ∷ steps ∷ []) false [] ≡ []
  generate_level =
      ap
      (λ k. or_else k
      (ended (leaf generate) (walk (leaf generate).rules [] nothing_held (seed ∷ steps ∷ [])))) no_words_fault
      ∙ ap (ended (leaf generate)) generate_walk ∙ no_counted_fault

  generate_none : fault_of program (name ∷ codes "generate" ∷ seed ∷ steps ∷ []) ≡ []
  unfolding clap_on_literals
  generate_none = ap (λ k. or_else k []) generate_level

  generate_asked : (n count : ℕ)
      → number_of seed ≡ Some n
      → number_of steps ≡ Some count
      → asked_by (name ∷ codes "generate" ∷ seed ∷ steps ∷ []) ≡ Some (Generating n count 4 2048 39 0)
  unfolding clap_on_literals
  generate_asked n count is_seed is_steps =
      ap (λ (w : Walk). asked_in (codes "generate", finished (leaf generate).rules w.held)) generate_walk
      ∙ ap
      (option_and_then
      (λ n. option_and_then (λ count. Some (Generating n count 4 2048 39 0)) (number_of steps))) is_seed
      ∙ ap (option_and_then (λ count. Some (Generating n count 4 2048 39 0))) is_steps

-- ---- `dump IMAGE --host ROOT --hyp ROOT`

-- the walk after `--host`, after its word, after `--hyp`, and after that word
abbrev awaits_host : Text → Walk
awaits_host image = walked (leaf dump).rules [] (after (leaf dump) image) (codes "--host")

abbrev with_value : Walk → Text → Walk
with_value w word =
    let met = plain_word (leaf dump).rules w.waiting word w.held in
    after_step (leaf dump).rules word w met.0 met.1

abbrev awaits_hyp : Text → Text → Walk
awaits_hyp image host = walked (leaf dump).rules [] (with_value (awaits_host image) host) (codes "--hyp")

abbrev rooted : Text → Text → Text → Walk
rooted image host hyp = with_value (awaits_hyp image host) hyp

module _ (name image host hyp : Text) (plain : strip_byte 45 image ≡ None) (plain_host : strip_byte 45 host ≡ None)
    (plain_hyp : strip_byte 45 hyp ≡ None) where
  abbrev image_given : List Text
  image_given = image ∷ codes "--host" ∷ host ∷ codes "--hyp" ∷ hyp ∷ []

  host_walked : walked (leaf dump).rules [] (awaits_host image) host ≡ with_value (awaits_host image) host
  unfolding clap_on_literals
  host_walked =
      let w = awaits_host image in
      ap (λ (m : Held × Step). after_step (leaf dump).rules host w m.0 m.1)
      (met_is host plain_host (leaf dump).rules w.waiting w.position w.held)

  hyp_walked : walked (leaf dump).rules [] (awaits_hyp image host) hyp ≡ rooted image host hyp
  unfolding clap_on_literals
  hyp_walked =
      let w = awaits_hyp image host in
      ap (λ (m : Held × Step). after_step (leaf dump).rules hyp w m.0 m.1)
      (met_is hyp plain_hyp (leaf dump).rules w.waiting w.position w.held)

  no_host_fault : turn_fault (leaf dump) [] (awaits_host image) host ≡ []
  unfolding clap_on_literals
  no_host_fault =
      let w = awaits_host image in
      let met = subcommand_or_other (leaf dump).rules None w.waiting w.position host w.held in
      ap (λ k. or_else k (step_fault (leaf dump) w.position met.0 met.1))
      (no_flag_fault host plain_host (leaf dump) w.held)
      ∙ ap (λ (m : Held × Step). step_fault (leaf dump) w.position m.0 m.1)
      (met_is host plain_host (leaf dump).rules w.waiting w.position w.held)

  no_hyp_fault : turn_fault (leaf dump) [] (awaits_hyp image host) hyp ≡ []
  unfolding clap_on_literals
  no_hyp_fault =
      let w = awaits_hyp image host in
      let met = subcommand_or_other (leaf dump).rules None w.waiting w.position hyp w.held in
      ap (λ k. or_else k (step_fault (leaf dump) w.position met.0 met.1))
      (no_flag_fault hyp plain_hyp (leaf dump) w.held)
      ∙ ap (λ (m : Held × Step). step_fault (leaf dump) w.position m.0 m.1)
      (met_is hyp plain_hyp (leaf dump).rules w.waiting w.position w.held)

  image_walk : walk (leaf dump).rules [] nothing_held image_given ≡ rooted image host hyp
  unfolding clap_on_literals
  image_walk =
      ap
      (λ w. walked (leaf dump).rules []
      (walked (leaf dump).rules []
      (walked (leaf dump).rules [] (walked (leaf dump).rules [] w (codes "--host")) host)
      (codes "--hyp")) hyp)
      (first_walked (leaf dump) refl image plain)
      ∙ ap (λ w. walked (leaf dump).rules [] (walked (leaf dump).rules [] w (codes "--hyp")) hyp) host_walked
      ∙ hyp_walked

  no_host_word_fault : turn_fault (leaf dump) [] (after (leaf dump) image) (codes "--host") ≡ []
  unfolding clap_on_literals
  no_host_word_fault = refl

  no_hyp_word_fault : turn_fault (leaf dump) [] (with_value (awaits_host image) host) (codes "--hyp") ≡ []
  unfolding clap_on_literals
  no_hyp_word_fault = refl

  no_image_fault : walk_fault (leaf dump) [] (walk_from nothing_held) image_given ≡ []
  unfolding clap_on_literals
  no_image_fault =
      let behind_hyp = hyp ∷ [] in
      let behind_host = host ∷ codes "--hyp" ∷ behind_hyp in
      ap
      (λ k. or_else k
      (walk_fault (leaf dump) [] (walked (leaf dump).rules [] (walk_from nothing_held) image)
      (codes "--host" ∷ behind_host)))
      (no_first_fault (leaf dump) refl image plain)
      ∙ ap (λ w. walk_fault (leaf dump) [] w (codes "--host" ∷ behind_host)) (first_walked (leaf dump) refl image plain)
      ∙ ap (λ k. or_else k (walk_fault (leaf dump) [] (awaits_host image) behind_host)) no_host_word_fault
      ∙ ap
      (λ k. or_else k
      (walk_fault (leaf dump) [] (walked (leaf dump).rules [] (awaits_host image) host)
      (codes "--hyp" ∷ behind_hyp))) no_host_fault
      ∙ ap (λ w. walk_fault (leaf dump) [] w (codes "--hyp" ∷ behind_hyp)) host_walked
      ∙ ap (λ k. or_else k (walk_fault (leaf dump) [] (awaits_hyp image host) behind_hyp)) no_hyp_word_fault
      ∙ ap (λ k. or_else k []) no_hyp_fault

  no_rooted_fault : ended (leaf dump) (rooted image host hyp) ≡ []
  unfolding clap_on_literals
  no_rooted_fault = refl

  dump_level : level_fault (leaf dump) [] nothing_held image_given false [] ≡ []
  dump_level =
      ap (λ k. or_else k (ended (leaf dump) (walk (leaf dump).rules [] nothing_held image_given))) no_image_fault
      ∙ ap (ended (leaf dump)) image_walk ∙ no_rooted_fault

  dump_none : fault_of program (name ∷ codes "dump" ∷ image_given) ≡ []
  unfolding clap_on_literals
  dump_none = ap (λ k. or_else k []) dump_level

  dump_taken : asked_by (name ∷ codes "dump" ∷ image_given) ≡ Some (Dumping (of_core image host hyp))
  unfolding clap_on_literals
  dump_taken = ap (λ (w : Walk). asked_in (codes "dump", finished (leaf dump).rules w.held)) image_walk

-- ---- all of them

gives : (words : List Text) (r : Result Invocation UsageFault) (asking : Asking)
    → fault_of program words ≡ []
    → asked_by words ≡ Some asking
    → IsRead words r
    → Gives asking r
gives words (Ok invocation) asking none asked read = some_is (sym read.1 ∙ asked)
gives words (Err (Usage error)) asking none asked (inl among) = absurd (subst (IsAmong (kind_of error)) none among)
gives words (Err (Usage error)) asking none asked (inr (_, nothing)) = absurd (let e = sym asked ∙ nothing in cc)
gives words (Err NoMemory) asking none asked read = tt

-- words that are these are taken
taken : (words these : List Text) (r : Result Invocation UsageFault) (asking : Asking)
    → words ≡ these
    → fault_of program these ≡ []
    → asked_by these ≡ Some asking
    → IsRead words r
    → Gives asking r
taken words these r asking is none asked read =
    gives words r asking (ap (fault_of program) is ∙ none) (ap asked_by is ∙ asked) read

-- words in which clap finds a fault, or that ask for nothing, are refused
faulted : (words : List Text) (r : Result Invocation UsageFault)
    → HasFault (fault_of program words)
    → IsRead words r
    → IsRefused r
faulted words (Ok invocation) fault read = absurd (subst HasFault read.0 fault)
faulted words (Err fault) found read = tt

unasked : (words : List Text) (r : Result Invocation UsageFault) → asked_by words ≡ None → IsRead words r → IsRefused r
unasked words (Ok invocation) nothing read = absurd (let e = sym read.1 ∙ nothing in cc)
unasked words (Err fault) nothing read = tt

heapless : (words : List Text) (r : Result Invocation UsageFault) (name subcommand file bytes : Text)
    → (subcommand ≡ codes "race") ⊎ (subcommand ≡ codes "audit")
    → words ≡ name ∷ subcommand ∷ file ∷ codes "--heap" ∷ bytes ∷ []
    → strip_byte 45 file ≡ None
    → IsRead words r
    → IsRefused r
heapless words r name subcommand file bytes (inl is_race) is plain read =
    faulted words r
    (subst (λ ws. HasFault (fault_of program ws))
    (sym (is ∙ ap (λ s. name ∷ s ∷ file ∷ codes "--heap" ∷ bytes ∷ []) is_race))
    (race_heap name file bytes plain)) read
heapless words r name subcommand file bytes (inr is_audit) is plain read =
    faulted words r
    (subst (λ ws. HasFault (fault_of program ws))
    (sym (is ∙ ap (λ s. name ∷ s ∷ file ∷ codes "--heap" ∷ bytes ∷ []) is_audit))
    (audit_heap name file bytes plain)) read

pub takes_of : (words : List Text) (r : Result Invocation UsageFault) → IsRead words r → Takes words r
takes_of words r read = record {
  replay = λ name file is other. let plain = plain_of file other in
      taken words _ r _ is (replay_none name file plain) (replay_asked name file plain) read;
  input = λ name is. taken words _ r _ is (input_none name) (input_asked name) read;
  heaps = record {
    heap = λ name file bytes size is other other_bytes says.
        let plain = plain_of file other in
        let plain_bytes = plain_of bytes other_bytes in
        taken words _ r _ is (heap_none name file bytes plain plain_bytes)
        (heap_asked name file bytes plain plain_bytes
        ∙ ap
        (λ o. option_map (λ heap. Replaying file heap Each Report)
        (option_map (λ size. Some size) o)) says) read;
    no_size = λ name file bytes is other other_bytes says.
        let plain = plain_of file other in
        let plain_bytes = plain_of bytes other_bytes in
        unasked words r
        (ap asked_by is ∙ heap_asked name file bytes plain plain_bytes
        ∙ ap
        (λ o. option_map (λ heap. Replaying file heap Each Report)
        (option_map (λ size. Some size) o)) says) read;
    no_heap =
        λ name subcommand file bytes which is other. heapless words r name subcommand file bytes which is
        (plain_of file other) read;
  };
  race = λ name file is other. let plain = plain_of file other in
      taken words _ r _ is (race_none name file plain) (race_asked name file plain) read;
  outcomes = λ name file is other. let plain = plain_of file other in
      taken words _ r _ is (outcomes_none name file plain) (outcomes_asked name file plain) read;
  audit = λ name file is other. let plain = plain_of file other in
      taken words _ r _ is (audit_none name file plain) (audit_asked name file plain) read;
  check = λ name file is other. let plain = plain_of file other in
      taken words _ r _ is (check_none name file plain) (check_asked name file plain) read;
  cover = λ name file is other. let plain = plain_of file other in
      taken words _ r _ is (cover_none name file plain) (cover_asked name file plain) read;
  explain = λ name file is other. let plain = plain_of file other in
      taken words _ r _ is (explain_none name file plain) (explain_asked name file plain) read;
  generate = λ name seed steps n count is other other_steps is_seed is_steps.
      let plain = plain_of seed other in
      let plain_steps = plain_of steps other_steps in
      taken words _ r _ is (generate_none name seed steps plain plain_steps)
      (generate_asked name seed steps plain plain_steps n count is_seed is_steps) read;
  dump = λ name image host hyp is other other_host other_hyp.
      let plain = plain_of image other in
      let plain_host = plain_of host other_host in
      let plain_hyp = plain_of hyp other_hyp in
      taken words _ r _ is (dump_none name image host hyp plain plain_host plain_hyp)
      (dump_taken name image host hyp plain plain_host plain_hyp) read;
  draw = λ name file is other. let plain = plain_of file other in
      taken words _ r _ is (draw_none name file plain) (draw_asked name file plain) read;
}
