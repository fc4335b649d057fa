-- What holds of a call's reader.
use Rattle.std.specs.Prelude.{◌≡◌, ◌↔◌, ℕ, true, List, [], ◌∷◌, Some}
use Rattle.std.specs.declared.option.Option.{Option}
use Rattle.qp_model.specs.declared.systems.System.{System}
use Rattle.qp_model.specs.declared.bodies.Entry.{Entry}
use Rattle.qp_model.specs.Told.{Told}
use Rattle.qp_model.specs.Calls.{Call, Answer}
use Rattle.qp_model.specs.Shapes.{Fits}
use Rattle.qp_model.specs.Deferral.{KeepsDeferred}
use Rattle.qp_check_calls.specs.CallState.{CallState, Whole}
use Rattle.qp_check_calls.specs.CallStateNext.{call_state_begin, call_state_next}
use Rattle.qp_check_calls.specs.Reads.{IsRestOfCall, IsOpen, call_able}

-- what a call that begins reads is its records and its deferred list
abbrev pub ReadsBegin : Type 0
ReadsBegin =
    (sys : System) (o : ℕ) (now : Option Entry) (room : ℕ) (kept : List Entry) (x : Call) (answer : Answer) (new : List Entry) (g : List Told)
    → IsRestOfCall sys o now (call_state_begin room kept x) answer new g ↔ (Fits sys o now x answer g × KeepsDeferred room x g kept new)

-- a record is read by the rest that it leaves
abbrev pub ReadsNext : Type 0
ReadsNext =
    (sys : System) (o : ℕ) (now : Option Entry) (rest : CallState) (answer : Answer) (kept : List Entry) (t : Told) (g : List Told)
    → IsRestOfCall sys o now rest answer kept (t ∷ g) ↔ ((next : CallState) × (call_state_next sys o now rest t ≡ Some next) × IsRestOfCall sys o now next answer kept g)

-- nothing is left exactly of a whole call
abbrev pub ReadsEnd : Type 0
ReadsEnd =
    (sys : System) (o : ℕ) (now : Option Entry) (rest : CallState) (answer : Answer) (kept : List Entry)
    → IsRestOfCall sys o now rest answer kept [] ↔ (rest ≡ record { stage = Whole answer; kept = kept })

-- a whole call reads no record
abbrev pub ReadsWhole : Type 0
ReadsWhole =
    (sys : System) (o : ℕ) (now : Option Entry) (own answer : Answer) (had kept : List Entry) (g : List Told)
    → IsRestOfCall sys o now (record { stage = Whole own; kept = had }) answer kept g → (g ≡ []) × (answer ≡ own) × (kept ≡ had)

-- records are read with one answer and one list
abbrev pub ReadsOnce : Type 0
ReadsOnce =
    (sys : System) (o : ℕ) (now : Option Entry) (rest : CallState) (a b : Answer) (kept new : List Entry) (g : List Told)
    → IsRestOfCall sys o now rest a kept g → IsRestOfCall sys o now rest b new g → (a ≡ b) × (kept ≡ new)

-- a call that has what it asks for begins open
abbrev pub OpenBegin : Type 0
OpenBegin =
    (sys : System) (now : Option Entry) (room : ℕ) (kept : List Entry) (x : Call) → call_able sys now x ≡ true → IsOpen sys now (call_state_begin room kept x)

-- each record leaves it open
abbrev pub OpenNext : Type 0
OpenNext =
    (sys : System) (o : ℕ) (now : Option Entry) (rest next : CallState) (t : Told) → call_state_next sys o now rest t ≡ Some next → IsOpen sys now next

-- where it is open, some records are what is left
abbrev pub OpenReads : Type 0
OpenReads =
    (sys : System) (o : ℕ) (now : Option Entry) (rest : CallState) → IsOpen sys now rest
    → (answer : Answer) × (kept : List Entry) × (g : List Told) × IsRestOfCall sys o now rest answer kept g
