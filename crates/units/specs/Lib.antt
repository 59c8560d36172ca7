pub mod SeriesParts
pub mod Links
