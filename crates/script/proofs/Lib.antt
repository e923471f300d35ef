mod FieldLemmas
mod InstantLemmas
mod NumberLemmas
mod WordLemmas
