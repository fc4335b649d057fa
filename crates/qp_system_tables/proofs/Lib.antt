pub mod FrontLemmas
pub mod KeyLemmas
pub mod VarsLemmas
pub mod DocumentLemmas
pub mod ReadLemmas
pub mod RangeLemmas
pub mod FewLemmas
