pub mod Names
pub mod Excerpt
pub mod Joined
unfoldable pub use Rattle.pie_cut.specs.{Names.*, Excerpt.*, Joined.*}
