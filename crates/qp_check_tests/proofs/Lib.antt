mod EmptyLemmas
