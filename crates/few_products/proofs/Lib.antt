pub mod CountLemmas
pub mod DefinitionLemmas
pub mod PlacingLemmas
pub mod ReadingLemmas
pub mod RewritingLemmas
pub mod WritingLemmas
