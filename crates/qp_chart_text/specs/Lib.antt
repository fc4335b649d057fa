pub mod Room
pub mod Terms
pub mod Tokens
pub mod Reading
pub mod ReadingActions
pub mod Grammar
pub mod ActionGrammar
