pub mod WriteSets
