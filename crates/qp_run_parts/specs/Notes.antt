-- The number of an answer, and the line about it.
use Rattle.std.specs.Prelude.{codes, ℕ, decimal, Bool, true, false, List, [], ◌++◌, Option}
use Rattle.qp_chart_names.specs.Paths.{path_text}
use Rattle.qp_run_parts.specs.declared.place.Place as place
use Rattle.qp_run_parts.specs.declared.place.Place.TheVariants.{Nowhere, Path, Line, Offset}
use Rattle.qp_commands.specs.WordTable.{Asked, operand_in}
use Rattle.qp_check_words.specs.declared.verdict.Site.{Site}
use Rattle.qp_check_words.specs.declared.verdict.Site.TheVariants as site
use Rattle.qp_run_parts.specs.declared.status.Status.{Status}
use Rattle.qp_run_parts.specs.declared.status.Status.TheVariants.{Done, Words, Absent, TooLong, Refused, Asserted, Spent, Memory, ReadFault, WriteFault, Unlawful}

-- the exit status
abbrev pub status_number : Status → ℕ
status_number Done = 0
status_number Words = 1
status_number (Absent file) = 2
status_number (TooLong file len) = 2
status_number (Refused file code at) = 2
status_number (Asserted code lane) = 3
status_number (Spent lane) = 4
status_number Memory = 5
status_number ReadFault = 6
status_number WriteFault = 7
status_number (Unlawful definition at) = 8

-- a place in a file
abbrev pub place_text : place.Place → List ℕ
place_text Nowhere = codes "-"
place_text (Path path) = path_text path.0.items
place_text (Line number) = decimal number
place_text (Offset number) = decimal number

-- a line about a file, which is named by this word
abbrev pub named_line : (name what : List ℕ) → List ℕ
named_line name what = codes "qp: " ++ name ++ codes ": " ++ what ++ codes "\n"

-- a site of a definition: its kind, then its numbers
abbrev pub site_text : Site → List ℕ
site_text (site.Pool p) = codes " pool " ++ decimal p
site_text (site.Block p b) = codes " block " ++ decimal p ++ codes " " ++ decimal b
site_text (site.Queue o) = codes " queue " ++ decimal o
site_text (site.Signal s) = codes " signal " ++ decimal s
site_text (site.Timer t) = codes " timer " ++ decimal t
site_text (site.Object o) = codes " object " ++ decimal o
site_text (site.Lane n) = codes " lane " ++ decimal n
site_text site.Whole = codes " whole"

-- the line on the notes; `Done` has none
unfoldable pub line_of : Option Asked → Status → List ℕ
line_of asked Done = []
line_of asked Words = codes "qp: bad words\n"
line_of asked (Absent file) = named_line (operand_in asked file) (codes "absent")
line_of asked (TooLong file len) = named_line (operand_in asked file) (codes "too long " ++ decimal len)
line_of asked (Refused file code at) = named_line (operand_in asked file) (decimal code ++ codes " " ++ place_text at)
line_of asked (Asserted code lane) = codes "qp: assertion " ++ decimal code ++ codes " in lane " ++ decimal lane ++ codes "\n"
line_of asked (Spent lane) = codes "qp: spent in lane " ++ decimal lane ++ codes "\n"
line_of asked Memory = codes "qp: memory\n"
line_of asked ReadFault = codes "qp: read fault\n"
line_of asked WriteFault = codes "qp: write fault\n"
line_of asked (Unlawful definition at) = codes "qp: broken D" ++ decimal definition ++ site_text at ++ codes "\n"

-- the run was done, and there is no line
abbrev pub is_quiet_success : Status → Bool
is_quiet_success Done = true
is_quiet_success status = false

-- the line names a file
abbrev pub names_file : Status → Bool
names_file (Absent file) = true
names_file (TooLong file len) = true
names_file (Refused file code at) = true
names_file status = false

-- the place of the operand whose file the line names, from 1; none elsewhere
abbrev pub file_of : Status → ℕ
file_of (Absent file) = file
file_of (TooLong file len) = file
file_of (Refused file code at) = file
file_of status = 0
