pub mod LayoutLaws
pub mod Slices
