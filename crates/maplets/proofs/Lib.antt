pub mod TargetRuns
