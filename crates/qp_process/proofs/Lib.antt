mod ProcessLemmas
mod PieceLemmas
