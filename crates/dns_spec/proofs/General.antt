-- Facts about lists, options, results and sums that have nothing to do with DNS, by subject.
pub mod Elements
pub mod Filters
pub mod Fronts
pub mod Numbers
pub mod Options
pub mod Orderings
pub mod Pairs
pub mod Places
pub mod Results
pub mod Sorted
pub mod Tests
pub mod Truths
