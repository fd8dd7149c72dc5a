pub mod Talks
pub mod Forms
pub use Talks.{HaltsTalk, HaltsAmid, HearingOf, Hears, KeepsByte, Listens, ListensOut, SaidAll, SaidBy, SaidFront}
pub use Talks.{SaidTorn, StopsTalk, StopsBy, Talked, begun_after, ended_from, heard_from, hearing_after, marked_from}
pub use Talks.{most_of_line_kept, names_after, said_by_line, said_of, line_without_mark}
unfoldable pub use Talks.{heard_before, heard_of, to_come}
pub use Forms.{Blamed, GoesWell, NamesRan, RanAs, RanTalk, WriteBlamed}
pub use Forms.{form_named, names_form}
pub use declared.forms.Form.{Form}
