pub mod SortedPairs
