use Rattle.c_states.specs.Views.{lists_from_c}
use Rattle.c_states.proofs.ApartLists.{no_frames, no_runs, no_tables}
use Rattle.c_states.proofs.state.culprit.Goals as goal

pub returns-in_err-at-in-Overlap : goal.returns-in_err-at-in-Overlap
returns-in_err-at-in-Overlap c =
    λ cpus h. no_runs cpus
    (lists_from_c c.args.state.now) c.args.fault _ c.first_clash.result c.in-Overlap.is c.in_err-at-in-Overlap.was
    c.first_clash.ensures h

pub returns-in_err-at-in-TableTwice : goal.returns-in_err-at-in-TableTwice
returns-in_err-at-in-TableTwice c =
    λ cpus h. no_tables cpus
    (lists_from_c c.args.state.now) c.args.fault _ c.first_clash-in-TableTwice.result c.in-TableTwice.is
    c.in_err-at-in-TableTwice.was c.first_clash-in-TableTwice.ensures h

pub returns-in_err-at-in-FrameTwice : goal.returns-in_err-at-in-FrameTwice
returns-in_err-at-in-FrameTwice c =
    λ cpus h. no_frames cpus
    (lists_from_c c.args.state.now) c.args.fault _ c.first_clash-in-FrameTwice.result c.in-FrameTwice.is
    c.in_err-at-in-FrameTwice.was c.first_clash-in-FrameTwice.ensures h
