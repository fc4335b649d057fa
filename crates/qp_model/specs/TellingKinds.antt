-- What a record says has the record's kind.
use Rattle.std.specs.Prelude.{◌==◌, ◌||◌, IsTrue}
use Rattle.qp_model.specs.declared.record.Rec.{Rec}
use Rattle.qp_model.specs.KindSorts.{is_malformed, kind_in}
use Rattle.qp_model.specs.Record.{body_of}

-- a record says what is of its kind, or nothing
abbrev pub KindsTell : Type 0
KindsTell = (r : Rec) → IsTrue (is_malformed (body_of r) || (kind_in (body_of r) == r.kind))
