pub mod TrialCycles
