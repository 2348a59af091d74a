pub mod Slide
pub mod RootSearch
