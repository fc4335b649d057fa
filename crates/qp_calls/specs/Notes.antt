-- Which records `note` adds, and with which last record a lane may stop.
use Rattle.std.specs.Prelude.{◌≡◌, ℕ, ◌-◌, ◌<◌, Bool, true, false, ◌⊎◌, List, [], ◌∷◌, length, if◌then◌else◌, IsTrue, IsFalse}
use Rattle.std.specs.List.{list_any}
use Rattle.qp_model.specs.declared.record.Rec.{Rec}
use Rattle.qp_model.specs.declared.bodies.Body.{Body}
use Rattle.qp_model.specs.declared.bodies.Body.TheVariants.{Begin, Run, Unhandled, Exit, Enter, Init, Say, Done, Lock, Unlock, Defer, NoDefer, Recall, NoRecall, Flush, Stim, Settle, NoEntry, NoBlock, Armed, BadTicks, NoLifo, Spent, Spill, Look, Rest}
use Rattle.qp_model.specs.Record.{body_of}
use Rattle.qp_model.specs.Ends.{is_spill}
use Rattle.qp_model.specs.Told.{Told, ToldItem, plain, raised}
use Rattle.qp_model.specs.Shapes.{ticks_fit}
use Rattle.qp_model.specs.Stops as stop
use Rattle.qp_calls.specs.LaneView.{LaneView, ceiling_in}

-- a note that needs spare and nothing else
abbrev pub needs_spare_alone : Body → Bool
needs_spare_alone Begin = true
needs_spare_alone (Run s k) = true
needs_spare_alone Unhandled = true
needs_spare_alone (Exit s) = true
needs_spare_alone (Enter s) = true
needs_spare_alone (Init s) = true
needs_spare_alone (Say v) = true
needs_spare_alone Done = true
needs_spare_alone (Lock c) = true
needs_spare_alone (Unlock c) = true
needs_spare_alone (Defer e) = true
needs_spare_alone NoDefer = true
needs_spare_alone (Recall e) = true
needs_spare_alone NoRecall = true
needs_spare_alone (Flush e) = true
needs_spare_alone (Stim k look) = true
needs_spare_alone Settle = true
needs_spare_alone Spent = true
needs_spare_alone (Look k floor) = true
needs_spare_alone (Rest k) = true
needs_spare_alone _ = false

-- a `spill` stands among the records as they are told
abbrev pub spills_told : List ToldItem → Bool
spills_told told = list_any (λ t. is_spill t.told.body) told

-- Assertion 4 states values that no timer takes. A `spill` states the length of its lane, which is nearly full and has none yet.
abbrev pub IsNote : Body → LaneView → Type 0
IsNote (Spill n) v = (n ≡ length v.told) × (999992 < n) × IsFalse (spills_told v.told)
IsNote (BadTicks t ticks interval) v = IsFalse (ticks_fit ticks interval) × (0 < v.spare)
IsNote b v = IsTrue (needs_spare_alone b) × (0 < v.spare)

unfoldable pub MayNote : Rec → LaneView → Type 0
unfolding body_of ticks_fit
MayNote r v = IsNote (body_of r) v

-- the place of one `spill` is kept apart from the spare
abbrev pub spare_by : Body → ℕ → ℕ
spare_by b spare = if is_spill b then spare else spare - 1

unfoldable pub spare_after : Rec → ℕ → ℕ
unfolding body_of
spare_after r spare = spare_by (body_of r) spare

-- a note as it is told
abbrev pub note_told : ℕ → Body → Told
note_told c (Lock x) = raised x c
note_told c b = plain b

unfoldable pub told_note : Rec → LaneView → List Told
unfolding body_of ceiling_in
told_note r v = note_told (ceiling_in 0 v.told) (body_of r) ∷ []

-- the code with which a lane stops at this record, 0 for none: an assertion's own, and 6 of `spent` and `spill`
abbrev pub stop_code : Body → ℕ
stop_code (NoEntry a f l m) = 1
stop_code (NoBlock p n free) = 2
stop_code (Armed t n c) = 3
stop_code (BadTicks t n i) = 4
stop_code (NoLifo a f l m) = 5
stop_code Spent = 6
stop_code (Spill n) = 6
stop_code _ = 0

-- the code of the lane's last record
unfoldable pub last_code : List ToldItem → ℕ
last_code [] = 0
last_code (t ∷ []) = stop_code t.told.body
last_code (t ∷ u ∷ ts) = last_code (u ∷ ts)

-- a lane hands in 7 for want of memory, or the code of its last record
abbrev pub MayStop : ℕ → LaneView → Type 0
MayStop code v = (code ≡ stop.memory) ⊎ ((0 < code) × (last_code v.told ≡ code))
