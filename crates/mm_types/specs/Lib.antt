pub mod Address
pub mod Allocation
pub mod Protection
pub mod Machine
pub mod Outside
pub mod Padded
pub mod Spelling
pub mod AnswerText
pub mod Table
pub use Address.{Range, address_of, are_user_pages, end_of, end_of_user_pages, first_user_page}
pub use Address.{granule_pages, granule_range, granule_range_of, granule_size, granules, holds_page}
pub use Address.{is_free, is_granule_address, is_user_page, lies_within, lowest_gap, meets, page_of}
pub use Address.{page_size, pages_for, range_of}
unfoldable pub use Address.{least_from}
pub use Allocation.{commit_type, decommit_type, release_type, reserve_and_commit_type, reserve_type}
pub use Allocation.{watch_type}
pub use Protection.{base_of, execute, execute_read, execute_readwrite, execute_writecopy}
pub use Protection.{guard_flag, noaccess, permits, readonly, readwrite, writecopy}
pub use Machine.{IsMachine, MachineOf, limit_of, reserve_of}
pub use Outside.{Appended, Both, HasCause, IsEnd, Loan, Loans, NoLoan, Rose, Took}
pub use Padded.{IsPadded}
pub use Spelling.{Text, byte_pairs, decimal, glyph, hex8, hex_onto, spaced}
unfoldable pub use Spelling.{decimal_onto}
pub use AnswerText.{answer_text, code_number, spelled, spelling, status_number, why_text}
pub use Table.{found, pairs_from, put_if}
unfoldable pub use Table.{table}
pub use declared.answers.Answer.{Answer}
pub use declared.answers.Counts.{Counts}
pub use declared.answers.QueryInfo.{QueryInfo}
pub use declared.answers.Wait.{Wait}
pub use declared.answers.Why.{Why}
pub use declared.codes.Code.{Code}
pub use declared.codes.Raise.{Raise}
pub use declared.devices.Device.{Device}
pub use declared.devices.Direction.{Direction}
pub use declared.events.AccessSpec.{AccessSpec}
pub use declared.events.Event.{Event}
pub use declared.faults.GrowFault.{GrowFault}
pub use declared.faults.MakeFault.{MakeFault}
pub use declared.faults.NoMemory.{NoMemory}
pub use declared.faults.OpenFault.{OpenFault}
pub use declared.faults.PageFault.{PageFault}
pub use declared.frames.Backing.{Backing}
pub use declared.frames.Held.{Held}
pub use declared.frames.Record.{Record}
pub use declared.frames.Request.{Request}
pub use declared.moves.LineKind.{LineKind}
pub use declared.moves.Move.{Move}
pub use declared.moves.Stored.{Stored}
pub use declared.numbers.Area.{Area}
pub use declared.numbers.Block.{Block}
pub use declared.numbers.Frame.{Frame}
pub use declared.numbers.Key.{Key}
pub use declared.numbers.Pid.{Pid}
pub use declared.numbers.Place.{Place}
pub use declared.numbers.SectionId.{SectionId}
pub use declared.numbers.Slot.{Slot}
pub use declared.numbers.Tid.{Tid}
pub use declared.numbers.Vpn.{Vpn}
pub use declared.protections.Access.{Access}
pub use declared.protections.Prot.{Prot}
pub use declared.texts.Name.{Name}
pub use declared.views.Kind.{Kind}
pub use declared.views.View.{View}
pub use declared.views.ViewAccess.{ViewAccess}
