pub mod PlacesLemmas
pub mod RowLemmas
pub mod ScatteredLemmas
pub mod TableLemmas
