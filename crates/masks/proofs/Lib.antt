pub mod Bits
pub mod Members
pub mod Disjoint
pub mod Counts
