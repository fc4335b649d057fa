-- What a stream of frames says: the journal and its form, or the first fault.
use Rattle.std.specs.Prelude.{ℕ, ◌+◌, ◌-◌, ◌^◌, ◌%◌, ◌==◌, nat_lt, min, true, false, not, ◌||◌, List, [], ◌∷◌, ◌++◌, length, take, slice_index, if◌then◌else◌, Option, Some, None, Result, Ok, Err}
use Rattle.qp_model.specs.declared.journals.Journal.{Journal}
use Rattle.qp_model.specs.Output.{JournalItem, item, last_id}
use Rattle.qp_model.specs.OutputFrames.{checksum, end_byte, escape_byte}
use Rattle.qp_model.specs.Vocabulary.{has_count}
use Rattle.qp_text.specs.Codes as text
use Rattle.qp_text.specs.declared.progress.Reading.{Reading}
use Rattle.qp_text.specs.Progress.{nothing_read, journal_of, take_item}
use Rattle.qp_frames.specs.Codes.{BAD_ESCAPE, CHECKSUM, SEQUENCE, LENGTH, ID, ITEM, NOT_CANONICAL}
use Rattle.qp_frames.specs.declared.faults.FrameFault.{FrameFault}
use Rattle.qp_frames.specs.declared.faults.FrameFault.TheVariants.{At}
use Rattle.qp_frames.specs.declared.stream.Stream.{Stream}
use Rattle.qp_frames.specs.Parts.{are_numbers_whole, numbers_from}

-- before the first byte
abbrev pub before_all : Stream
before_all = record { reading = nothing_read; sequence = 1; start = 0; offset = 0; is_escaped = false; bytes = [] }

-- the next offset; the count stands still at its end
abbrev pub next_offset : ℕ → ℕ
next_offset offset = min (offset + 1) (2 ^ 64 - 1)

-- the form that a first frame states by its third byte
abbrev pub form_of_bytes : List ℕ → ℕ
form_of_bytes (sequence ∷ id ∷ third ∷ bytes) = if third == 2 then 2 else 1
form_of_bytes _ = 1

-- the first frame states the form of all
abbrev pub stream_form : Stream → ℕ
stream_form p = if p.reading.begun then p.reading.form else form_of_bytes p.bytes

-- the item of a frame is taken, and the next frame may begin; or it has a code
abbrev pub item_taken : Stream → Result Reading ℕ → Result Stream FrameFault
item_taken p (Err code) = Err (At p.start ITEM 0 code)
item_taken p (Ok reading) =
    Ok (record p { reading = reading; sequence = (p.sequence + 1) % 256; start = next_offset p.offset; offset = next_offset p.offset; bytes = [] })

-- the item with these numbers, or a byte shows that one is wrong
abbrev pub with_numbers : ℕ → ℕ → ℕ → Result (List ℕ) ℕ → Result JournalItem FrameFault
with_numbers start form id (Err got) = Err (At start NOT_CANONICAL 0 got)
with_numbers start form id (Ok nums) = if has_count id nums then Ok (item id nums) else Err (At start ITEM 0 text.COUNT)

-- the item of a frame whose checksum is right
abbrev pub item_of_summed : ℕ → ℕ → ℕ → ℕ → ℕ → List ℕ → Result JournalItem FrameFault
item_of_summed start form wanted sequence id numbers =
    if not (sequence == wanted) then Err (At start SEQUENCE wanted sequence)
    else (if (id == 0) || nat_lt (last_id form) id then Err (At start ID 0 id)
    else with_numbers start form id (numbers_from form 0 0 numbers))

-- the item of a frame by the bytes before its checksum, and the checksum that it has
abbrev pub item_of_body : ℕ → ℕ → ℕ → List ℕ → ℕ → Result JournalItem FrameFault
item_of_body start form wanted (sequence ∷ id ∷ numbers) found =
    if not (are_numbers_whole form numbers) then Err (At start LENGTH 0 0)
    else (if not (found == checksum (sequence ∷ id ∷ numbers)) then Err (At start CHECKSUM (checksum (sequence ∷ id ∷ numbers)) found)
    else item_of_summed start form wanted sequence id numbers)
item_of_body start form wanted _ found = Err (At start LENGTH 0 0)

-- the item of a frame at this offset, in this form, for which this sequence byte is wanted; the last byte is its checksum
abbrev pub item_of_frame : ℕ → ℕ → ℕ → List ℕ → Result JournalItem FrameFault
item_of_frame start form wanted bytes = item_of_body start form wanted (take (length bytes - 1) bytes) (slice_index bytes (length bytes - 1))

-- the item is taken, or the frame has a fault
abbrev pub with_item : ℕ → Stream → Result JournalItem FrameFault → Result Stream FrameFault
with_item form p (Ok i) = item_taken p (take_item form p.reading i)
with_item form p (Err fault) = Err fault

-- at the end byte
abbrev pub end_frame : Stream → Result Stream FrameFault
end_frame p = with_item (stream_form p) p (item_of_frame p.start (stream_form p) p.sequence p.bytes)

-- one more byte of the frame
abbrev pub keep_byte : Stream → ℕ → Result Stream FrameFault
keep_byte p b = Ok (record p { bytes = p.bytes ++ b ∷ []; is_escaped = false; offset = next_offset p.offset })

-- the byte behind an escape
abbrev pub after_escape : Stream → ℕ → Result Stream FrameFault
after_escape p b = if b == 0x5E then keep_byte p end_byte else (if b == 0x5D then keep_byte p escape_byte else Err (At p.start BAD_ESCAPE 0 b))

-- a byte without an escape before it
abbrev pub take_plain : Stream → ℕ → Result Stream FrameFault
take_plain p b =
    if b == end_byte then end_frame p
    else (if b == escape_byte then Ok (record p { is_escaped = true; offset = next_offset p.offset }) else keep_byte p b)

-- one more byte of the stream
abbrev pub take_byte : Stream → ℕ → Result Stream FrameFault
take_byte p b = if p.is_escaped then after_escape p b else take_plain p b

-- how far the bytes before led, or their fault
abbrev pub state_of : Stream → Option FrameFault → Result Stream FrameFault
state_of p None = Ok p
state_of p (Some fault) = Err fault

-- more bytes, unless there is a fault
abbrev pub fed : Result Stream FrameFault → List ℕ → Result Stream FrameFault
fed (Err fault) bytes = Err fault
fed (Ok p) [] = Ok p
fed (Ok p) (b ∷ bytes) = fed (take_byte p b) bytes

-- the stream ends behind a frame: with `end`, or without
abbrev pub finish_stream : ℕ → Reading → Option ℕ → Result (ℕ × Journal) FrameFault
finish_stream offset p None = Err (At offset ITEM 0 text.NO_END)
finish_stream offset p (Some status) = Ok (p.form, journal_of p status)

-- the stream ends here
abbrev pub stream_ended : Result Stream FrameFault → Result (ℕ × Journal) FrameFault
stream_ended (Err fault) = Err fault
stream_ended (Ok p) = if p.is_escaped || nat_lt 0 (length p.bytes) then Err (At p.start LENGTH 0 0) else finish_stream p.start p.reading p.reading.end

-- the reading of a stream
abbrev pub decoded : List ℕ → Result (ℕ × Journal) FrameFault
decoded bytes = stream_ended (fed (Ok before_all) bytes)
