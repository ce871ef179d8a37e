pub mod OrderFactLemmas
pub mod EndLemmas
pub mod TopLemmas
pub mod CommandLemmas
pub mod OutcomeLemmas
