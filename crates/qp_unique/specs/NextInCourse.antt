-- The piece by which an object's course goes on, by what the words hold.
use Rattle.std.specs.Prelude.{ℕ, ◌+◌, max, List, [], ◌∷◌, Some, None}
use Rattle.std.specs.declared.option.Option.{Option}
use Rattle.std.specs.Option.{option_map}
use Rattle.qp_model.specs.declared.systems.System.{System}
use Rattle.qp_model.specs.declared.bodies.Entry.{Entry}
use Rattle.qp_model.specs.Told.{Told, plain, raised, told_took}
use Rattle.qp_model.specs.Line.{Line}
use Rattle.qp_model.specs.Pieces.{Piece, Tell, Point}
use Rattle.qp_model.specs.Acts.{Actor}
use Rattle.qp_check_course.specs.Note.{body_of_note}
use Rattle.qp_check_course.specs.Goes.{moment_of}
use Rattle.qp_check_course.specs.Machine.{State, Between, Telling, Raising, AtPoint, InCall, AtPost, Releasing, Returning, Asserted}
use Rattle.qp_unique.specs.Held.{WordsHeld, MayComeNext}
use Rattle.qp_unique.specs.NextInCall.{stage_told, drop_told, return_told}

-- the front entry of a queue is taken, if there is one
abbrev pub took_told : WordsHeld → Line → List Entry → Option Told
took_told h s [] = None
took_told h s (e ∷ others) = option_map (λ ev. told_took s.f s.l (s.m + 1) e ev) (h.events e)

-- the next piece of an object's course in this state; none after an assertion, or where no entry is there
unfoldable pub piece_told : System → WordsHeld → Actor → State → Option Piece
unfolding stage_told
piece_told sys h a (Between c) = option_map Tell (took_told h (h.lines a.o) (h.lines a.o).entries)
piece_told sys h a (Telling way n ends ts leaf c) = Some (Tell (plain (body_of_note n)))
piece_told sys h a (Raising way ceiling ts leaf c) = Some (Tell (raised (max h.ceiling ceiling) h.ceiling))
piece_told sys h a (AtPoint ev e ts leaf c) = Some Point
piece_told sys h a (InCall way inner rest ts leaf c) = option_map Tell (stage_told sys h a.o (moment_of way).entry rest.kept rest.stage)
piece_told sys h a (AtPost way rest ts leaf c) = Some Point
piece_told sys h a (Releasing e c) = Some (Tell (drop_told h e))
piece_told sys h a (Returning p b d c) = Some (Tell (return_told h p b d))
piece_told sys h a Asserted = None

-- a piece may come next: a record by what the words hold, and a point always
unfoldable pub PieceComes : System → WordsHeld → ℕ → Piece → Type 0
PieceComes sys h o (Tell t) = MayComeNext sys h o t
PieceComes sys h o Point = Unit {0}
