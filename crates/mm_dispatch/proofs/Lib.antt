pub mod Making
pub mod Numbering
pub mod With
pub mod Lines
pub mod Fitting
pub mod Rows
pub mod Writing
pub mod Accesses
pub mod AccessLines
pub mod Files
pub mod PagingLines
pub mod Readiness
pub mod Waiting
pub mod ThreadLines
pub mod AccessForms
pub mod LineForms
pub mod Turning
pub mod Begun
pub mod Alike
pub mod Marking
pub mod CallLines
pub mod Noted
pub mod Memory
pub use Making.{in_alloc, in_close, in_create, in_create_file, in_exit, in_flush, in_free, in_map}
pub use Making.{in_new_file, in_new_process, in_open, in_probe, in_protect, in_query}
pub use Making.{in_reset_watch, in_stack, in_take_fail, in_unmap, in_watch, made-set_row}
pub use With.{charge-with}
pub use Lines.{answered, answers-line, begins-line, begins-plain, bytes-kept, called-across}
pub use Lines.{decided-call, decided-same, decided-served, faulted-answer, faulted-made}
pub use Lines.{full-process, halts-line, idle-grown, idle-still, if-err, if-ok, keeps-made, made}
pub use Lines.{made-beside, none-if, one-later, quiet-beside, quiet-rearranged, quiet-same}
pub use Lines.{served-quiet, stepped-plain}
pub use Fitting.{at-named, fits-rearranged, fits-same, fits_copied, fits_fetch, fits_put}
pub use Fitting.{fits_uncopied, place_itself}
pub use Rows.{gone-by, key-live, key-row, lives-by, no-row, room-to-copy, row-told}
pub use Writing.{key_itself, keys-same}
pub use Accesses.{can-access, can-go-on, copies-write, copy-needs, execute-needs, executes}
pub use Accesses.{is-begun, is-copying, made-marks, no_process, read-needs, reads, store-gone}
pub use Accesses.{store-lives, write-needs, writes}
pub use AccessLines.{access-had, access-lost, changed-at, changed-others, line-made, line-refused}
pub use AccessLines.{twice-at, twice-others}
pub use Files.{beside-fail, beside-file, beside-grow, fail-taken, file-stepped, flush-stepped}
pub use Files.{flushed-line, names-calls}
pub use PagingLines.{grow-line, io-failed, io-none, io-ok, told-line}
pub use Waiting.{decided-forgot, ends-waits, forgot-more, forgot-none, idle_now, idles-more}
pub use Waiting.{idles-none, idles-not, idles-one, keeps-forgot, keeps_kept, keeps_start, kept_told}
pub use Waiting.{rest_forgot, tables_same}
pub use ThreadLines.{begin-alone, begin-awaits, begin-kept, begin-makes, begin-refuses}
pub use ThreadLines.{resume-awaits, resume-fails, resume-makes, resume-none, resume-refuses}
pub use AccessForms.{copied_err, copied_then, copies_tell, gives_bytes, gives_ok, touched_err}
pub use AccessForms.{touched_ok, touches_tell}
pub use Turning.{in_thread, turns-failed, turns-made, turns-refused, turns-waiting}
pub use Marking.{clearings_keep, halted_makes, halted_notes, marked_alone, marked_exactly}
pub use Marking.{marked_still, stack_makes, written_keep}
pub use CallLines.{closes-call, halted_grow, looked, looks-call, makes-keys, makes-none}
pub use CallLines.{makes-turns, marked_age, marked_exit, marked_fail, marked_file, marked_flush}
pub use CallLines.{marked_grow, marked_no_age, marked_no_trim, marked_trim, next-pid, none}
pub use CallLines.{process_kind, releases-call, takes-looking}
pub use Noted.{agrees, at-err, at-ok, breaks, decides, stands}
pub use Memory.{is_ok_with}
