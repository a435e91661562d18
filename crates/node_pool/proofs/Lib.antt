-- Lemmas on chains and on lists of nodes.
pub mod Newest
pub mod ChainLaws
pub mod Once
