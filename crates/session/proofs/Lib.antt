mod FewerLemmas
mod HexLemmas
mod JobLemmas
mod LineLemmas
mod RunLemmas
mod SayLemmas
mod StepLemmas
mod TextLemmas
