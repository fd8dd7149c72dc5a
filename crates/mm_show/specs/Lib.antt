pub mod Words
pub mod Data
pub mod PageRest
pub mod Sums
pub mod Counted
pub mod SumRest
pub mod Forms
pub mod Observed
pub mod Rows
pub mod Showing
pub mod Texts
pub mod Beside
pub use Words.{class_rows, class_words_row, group_word, move_word}
pub use Data.{classed_data, data_rest}
pub use PageRest.{page_rest}
pub use Sums.{class_sum_row, class_sums, code_count, is_kind, kind_row, kind_sums, sums_text}
pub use Counted.{AreBounded, of_class, of_kind}
pub use SumRest.{sum_rest, sums_left}
pub use Forms.{files_at, files_of, first_file, form_of, has_answers, has_observations, has_script, key_asked}
pub use Forms.{line_asked_for, page_asked, pid_of, private_key_asked, shared_key_asked, asked_word}
pub use Observed.{FileHas, IfGood, IsRefusedRow, bad_row_text, observed}
pub use Rows.{access_row, answer_row, answer_rows, answers_file, are_digits, are_divided}
pub use Rows.{digit_value, digits_text, is_access, is_capital, is_shown, letter_of, pair_text, plain_row}
pub use Rows.{script_file, script_row, script_rows, told_row}
pub use Showing.{FileIs, IsUnread, PageOf, form_said, form_sought, form_why}
pub use Showing.{page_said, sums_said, unread_text, show_usage_text, whole_page_text}
pub use Texts.{page_read, whole_page}
pub use Beside.{FilesBeside, IfRead, SaysBeside, ShowsForm, ShowsLog, files_beside_log}
pub use Beside.{form_answers, form_exactly}
pub use declared.data.PageTeller.{PageTeller}
pub use declared.forms.Form.{Form}
pub use declared.pages.PageTexts.{PageTexts}
pub use declared.sums.SumTeller.{SumTeller}
