pub mod CauseLaws
pub mod ExchangeLaws
pub mod LimitLaws
pub mod OutputLaws
pub mod PairLaws
pub mod SupportLaws
pub mod WrittenArcs
pub mod WrittenComparisons
