mod AskLemmas
mod Getters
mod MomentLemmas
