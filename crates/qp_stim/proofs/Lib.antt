pub mod PartsLemmas
pub mod NumbersLemmas
pub mod NamesLemmas
pub mod ParsLemmas
pub mod VerdictLemmas
pub mod StimuliLemmas
pub mod RulesLemmas
