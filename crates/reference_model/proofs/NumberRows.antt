-- The rows of NumberRows, computed.
use Rattle.std.proofs.Common.{refl, inl, inr}
use Rattle.reference_model.specs.rows.NumberRows.{NumbersMade, NumbersOnly}
use Rattle.reference_model.proofs.Predictions.{computing}

pub numbers_made : NumbersMade
unfolding computing
numbers_made = (
  record {
    after = _;
    left = _;
    next = refl;
    on =
        record {
          slot = refl;
          number = refl;
          answers =
              inr
              (record {
                room = refl;
                rooms = refl;
                answered = inl (record { passes = refl; reply_is = refl; next = refl });
              });
        };
  },
  record {
    after = _;
    left = _;
    next = refl;
    on =
        record {
          slot = refl;
          number = refl;
          answers =
              inr
              (record {
                room = refl;
                rooms = refl;
                answered = inr (inl (record { why = _; fail = refl; reply_is = refl; next = refl }));
              });
        };
  },
  record {
    after = _;
    left = _;
    next = refl;
    on =
        record {
          slot = refl;
          number = refl;
          answers =
              inr
              (record {
                room = refl;
                rooms = refl;
                answered = inl (record { passes = refl; reply_is = refl; next = refl });
              });
        };
  },
)

pub numbers_only : NumbersOnly
unfolding computing
numbers_only = (λ number t h. h.on.number, λ number t h. h.on.number, λ number t h. h.on.number)
