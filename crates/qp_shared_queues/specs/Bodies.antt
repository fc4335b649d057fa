-- What the records of posts say.
use Rattle.std.specs.Prelude.{◌≡◌, ℕ, ◌+◌, Bool, true, false, List}
use Rattle.std.specs.declared.option.Option.{Option}
use Rattle.qp_model.specs.declared.record.Rec.{Rec}
use Rattle.qp_model.specs.declared.bodies.Entry.{Entry}
use Rattle.qp_model.specs.declared.bodies.Body.{Body}
use Rattle.qp_model.specs.declared.bodies.Body.TheVariants.{Post, Lifo, NoLifo}
use Rattle.qp_model.specs.Record.{Item, item_of}
use Rattle.qp_calls.specs.Clauses.{refusal_of}
use Rattle.qp_calls_log.specs.declared.log.Log.{Log}
use Rattle.qp_shared_lane.specs.More.{IsPut}

-- the entry posted at the counts found, or too few free entries there
abbrev pub post_body : Bool → Option ℕ → ℕ → ℕ → ℕ → ℕ → Entry → Body
post_body true margin to f l m e = Post to (f + 1) l m e
post_body false margin to f l m e = refusal_of margin to f l m

abbrev pub lifo_body : Bool → ℕ → ℕ → ℕ → ℕ → Entry → Body
lifo_body true a f l m e = Lifo f (l + 1) m e
lifo_body false a f l m e = NoLifo a f l m

-- a record that says so stands at the end of the log, with no number beside it that counts
abbrev pub IsPutAs : Item → Log → List ℕ → Log → List ℕ → Type 0
IsPutAs item g numbers h more = (rec : Rec) × (item_of rec ≡ item) × IsPut rec 0 g numbers h more
