pub mod OutputLemmas
pub use OutputLemmas.{advance_behind, all_drawn, draws, first_output, low_kind, of_kind, one_more}
pub use OutputLemmas.{one_step, output_behind, outputs_after, read_behind, two_steps, write_behind}
