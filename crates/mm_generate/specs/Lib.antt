pub mod Outputs
pub mod Generated
pub use Outputs.{outputs_from, seeded}
unfoldable pub use Outputs.{outputs}
pub use Generated.{Drawn, Draws, address_drawn, drawn, drawn_by, drawn_of_kind, fixed_events}
pub use Generated.{read_drawn, script_of, write_drawn}
unfoldable pub use Generated.{drawn_events}
