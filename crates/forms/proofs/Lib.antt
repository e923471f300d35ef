pub mod EachLemmas
pub mod EscapeLemmas
pub mod TextLemmas
pub mod CellLemmas
pub mod ReadBackLemmas
