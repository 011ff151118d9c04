pub mod LengthsLemmas
