pub mod Names
pub mod Replay
pub mod Text
pub mod Beginnings
unfoldable pub use Rattle.pie_audit.specs.{Names.*, Replay.*, Text.*, Beginnings.*}
