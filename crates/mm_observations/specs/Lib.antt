pub mod RunLines
pub mod Rows
pub mod Taking
pub mod Checking
pub mod Packing
pub mod Packed
pub mod Packs
pub mod Worked
pub use RunLines.{is_answer, number_answered, process_made, run_after, run_lines_from, run_lines}
pub use Rows.{seen_charge, number_before, row_numbers, parse_row, seen_region, seen_in}
pub use Taking.{HasNoNumber, TakesFirstNumber}
pub use Checking.{good_row, is_allocated, is_committed_region, is_free_region, is_good_row, is_good_seen}
pub use Checking.{is_plain_protection, is_protection, is_region, is_reserved_region, is_within_user}
pub use Packing.{after_row, line_data, none_before, region_letter, region_numbers, row_data}
pub use Packing.{seen_data}
pub use Packed.{RefusesFile, packed_behind, if_row, open_row, packed, packed_from, file_rows_from, file_rows}
pub use Packs.{packs_on}
pub use Worked.{bad_rows, more_data, more_rows, packed_beside, packed_second, second_refused}
pub use Worked.{worked_data, worked_rows}
pub use declared.packing.Before.{Before}
pub use declared.rows.Row.{Row}
pub use declared.rows.Seen.{Seen}
pub use declared.tables.PackFault.{PackFault}
