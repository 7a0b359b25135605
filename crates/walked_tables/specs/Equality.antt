-- A derived `==` decides whether two values are the same.
use Rattle.std.proofs.Common.{◌≡◌, true, false, refl, ap}
use Rattle.std.proofs.lemmas.Bool.Decides.{Decides-like}
use Rattle.std.specs.contracts.prelude.BoolPartialEq.TheImpl as bools
use Rattle.std.specs.contracts.prelude.U64PartialEq.TheImpl as numbers
use Rattle.descriptor.specs.contracts.FramePartialEq.TheImpl as frames
use Rattle.descriptor.specs.contracts.OwnerPartialEq.TheImpl as owners
use Rattle.descriptor.specs.contracts.State as state_type
use Rattle.descriptor.specs.contracts.StatePartialEq.TheImpl as states
use Rattle.page_state.proofs.Equality.{Tells, enum_tells, bare_tells, both_tell, none, one, more, options_tell, numbers_tell, frames_tell, owners_tell, states_tell}
use Rattle.table_words.specs.contracts.word.Access as access_type
use Rattle.table_words.specs.contracts.word.AccessPartialEq.TheImpl as accesses
use Rattle.table_words.specs.contracts.word.Execute as execute_type
use Rattle.table_words.specs.contracts.word.ExecutePartialEq.TheImpl as executes
use Rattle.table_words.specs.contracts.word.Memory as memory_type
use Rattle.table_words.specs.contracts.word.MemoryPartialEq.TheImpl as memories
use Rattle.table_words.specs.contracts.word.MappingPartialEq.TheImpl as mappings
use Rattle.table_words.specs.contracts.word.Guest as guest_type
use Rattle.table_words.specs.contracts.word.GuestPartialEq.TheImpl as guests
use Rattle.table_words.specs.contracts.word.Decoded as decoded_type
use Rattle.table_words.specs.contracts.word.DecodedPartialEq.TheImpl as decodings
use Rattle.table_words.specs.declared.word.Decoded.{Decoded}
use Rattle.walked_tables.specs.contracts.said.SaidPartialEq.TheImpl as saids
use Rattle.walked_tables.specs.declared.said.Said.{Said}

bools_tell : Tells bools.ghosts.eq
bools_tell true true = ((λ e. refl), (λ e. refl))
bools_tell true false = ((λ e. cc), (λ e. cc))
bools_tell false true = ((λ e. cc), (λ e. cc))
bools_tell false false = ((λ e. refl), (λ e. refl))

accesses_tell : Tells accesses.ghosts.eq
accesses_tell = bare_tells access_type.the_type tt

executes_tell : Tells executes.ghosts.eq
executes_tell = bare_tells execute_type.the_type tt

memories_tell : Tells memories.ghosts.eq
memories_tell = bare_tells memory_type.the_type tt

mappings_tell : Tells mappings.ghosts.eq
mappings_tell x y =
    let state = options_tell state_type.the_row states.ghosts states.dict states_tell in
    let rest =
    more accesses.ghosts.eq accesses_tell _
    (more executes.ghosts.eq executes_tell _
    (more memories.ghosts.eq memories_tell _
    (more _ state _ (more bools.ghosts.eq bools_tell _ bools_tell)))) in
    Decides-like (mappings.ghosts.eq x y)
    (λ p i. record {
      frame = p.0 i;
      access = (p.1 i).0;
      execute = (p.1 i).1.0;
      memory =
          (p.1 i).1.1.0;
      state =
          (p.1 i).1.1.1.0;
      guarded = (p.1 i).1.1.1.1.0;
      aged = (p.1 i).1.1.1.1.1;
    })
    (λ e. (
      (λ i. (e i).frame),
      (λ i. (
        (e i).access,
        ((e i).execute, ((e i).memory, ((e i).state, ((e i).guarded, (e i).aged)))),
      )),
    ))
    (both_tell frames.ghosts.eq _ frames_tell rest x.frame y.frame
    (x.access, (x.execute, (x.memory, (x.state, (x.guarded, x.aged)))))
    (y.access, (y.execute, (y.memory, (y.state, (y.guarded, y.aged))))))

guests_tell : Tells guests.ghosts.eq
guests_tell x y =
    Decides-like (guests.ghosts.eq x y) (λ p i. record { handle = p.0 i; gfn = p.1 i })
    (λ e. ((λ i. (e i).handle), (λ i. (e i).gfn)))
    (both_tell numbers.ghosts.eq numbers.ghosts.eq numbers_tell numbers_tell x.handle y.handle
    x.gfn y.gfn)

decodings_tell : Tells decodings.ghosts.eq
decodings_tell =
    let guest = options_tell guest_type.the_row guests.ghosts guests.dict guests_tell in
    let annotated = more owners.ghosts.eq owners_tell _ (one _ guest) in
    let mapping = one mappings.ghosts.eq mappings_tell in
    enum_tells decoded_type.enum _ (
      none,
      (
        none,
        (
          annotated,
          (none, (none, (mapping, (mapping, (one frames.ghosts.eq frames_tell, tt))))),
        ),
      ),
    )

same_said : (a b : Said) → a.0 ≡ b.0 → a ≡ b
same_said a b e = let wrap : Decoded → Said = λ d. record { 0 = d } in ap wrap e

pub saids_tell : Tells saids.ghosts.eq
saids_tell x y =
    Decides-like (saids.ghosts.eq x y) (same_said x y) (λ e i. (e i).0) (decodings_tell x.0 y.0)
