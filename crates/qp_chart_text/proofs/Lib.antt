pub mod TokenLemmas
pub mod ParserLemmas
pub mod ActionLemmas
pub mod GrammarLemmas
pub mod ActionSound
pub mod ActionComplete
pub mod ActionText
