-- Notes: a lane that ends, and what it tells.
use Rattle.std.proofs.Common.{◌≡◌, ◌+◌, List, [], ◌∷◌, ◌++◌, refl, ℕ, ◌-◌, ap, length, subst, ◌<◌, nat_le, true, false, slice_get, ◌∙◌, Option, Some, None, arith, inr}
use Rattle.std.proofs.lemmas.Bool.{le-leb}
use Rattle.qp_model.specs.Told.{ToldItem, plain, Event, for_object}
use Rattle.qp_model.specs.declared.record.Rec.{Rec}
use Rattle.qp_model.specs.Record.{Item, item_of, body_of}
use Rattle.qp_model.specs.Knowing.{ceiling_after}
use Rattle.qp_model.specs.declared.systems.SignalDef.{SignalDef}
use Rattle.qp_model.specs.declared.systems.System.{System}
use Rattle.qp_model.specs.Parts.{is_static}
use Rattle.qp_model.specs.Sound.{IsSound, IsSoundSignal}
use Rattle.qp_model.proofs.ListLemmas.{nothing-left, every-at}
use Rattle.qp_calls.specs.Notes.{MayNote, MayStop, last_code, spills_told, stop_code, told_note, note_told}
use Rattle.qp_calls.specs.LaneView.{LaneView, GrowsOf, ceiling_in}
use Rattle.qp_calls.specs.declared.answers.RoomFault.{RoomFault}
use Rattle.qp_calls.specs.Clauses.{IsFault, IsEvent}
use Rattle.qp_calls.specs.declared.answers.RoomFault.TheVariants as fault
use Rattle.qp_model.specs.declared.bodies.Body.TheVariants as item

-- the last record says how a lane stopped
pub last-snoc : (told : List ToldItem) (t : ToldItem) → last_code (told ++ t ∷ []) ≡ stop_code t.told.body
unfolding last_code
last-snoc [] t = refl
last-snoc (x ∷ []) t = refl
last-snoc (x ∷ y ∷ told) t = last-snoc (y ∷ told) t

-- a `spill` of lane 0
pub spill-body : (n : ℕ) (r : Rec) → item_of r ≡ record { of = 0; body = item.Spill n } → body_of r ≡ item.Spill n
unfolding item_of
spill-body n r is = ap (λ (i : Item). i.body) is

pub spill-of : (n : ℕ) (r : Rec) → item_of r ≡ record { of = 0; body = item.Spill n } → r.of ≡ 0
unfolding item_of
spill-of n r is = ap (λ (i : Item). i.of) is

pub spilled : (n : ℕ) (r : Rec) (v w : LaneView) → item_of r ≡ record { of = 0; body = item.Spill n } → n ≡ length v.told → GrowsOf r.of (told_note r v) v w
    → GrowsOf 0 (plain (item.Spill (length v.told)) ∷ []) v w
unfolding told_note
spilled n r v w is here grown =
    let body : GrowsOf r.of (plain (item.Spill n) ∷ []) v w = subst (λ b. GrowsOf r.of (note_told (ceiling_in 0 v.told) b ∷ []) v w) (spill-body n r is) grown in
    let mine : GrowsOf 0 (plain (item.Spill n) ∷ []) v w = subst (λ o. GrowsOf o (plain (item.Spill n) ∷ []) v w) (spill-of n r is) body in
    subst (λ k. GrowsOf 0 (plain (item.Spill k) ∷ []) v w) here mine

-- the `spill` of a full lane may be added, and the lane may stop behind it
pub spill-may : (n : ℕ) (r : Rec) (v : LaneView) → item_of r ≡ record { of = 0; body = item.Spill n } → n ≡ length v.told → 1000000 < n + 8 → spills_told v.told ≡ false → MayNote r v
unfolding MayNote
spill-may n r v is here full none = rw (spill-body n r is) (here, omega (arith, full), none)

pub spill-stop : (n : ℕ) (v w : LaneView) → GrowsOf 0 (plain (item.Spill n) ∷ []) v w → MayStop 6 w
spill-stop n v w grown = inr (omega arith, rw grown.told (last-snoc v.told (for_object 0 (plain (item.Spill n)))))

-- a lane that is full, and how long it is
pub full-is : (v : LaneView) (f : RoomFault) (len : ℕ) → f ≡ fault.LaneFull len → IsFault v f → (len ≡ length v.told) × (1000000 < len + 8)
full-is v f len is h = subst (λ x. IsFault v x) is h

-- the ceiling behind two lists of records
pub ceiling-append : (c : ℕ) (xs ys : List ToldItem) → ceiling_in c (xs ++ ys) ≡ ceiling_in (ceiling_in c xs) ys
unfolding ceiling_in
ceiling-append c [] ys = refl
ceiling-append c (x ∷ xs) ys = ceiling-append (ceiling_after c x.told.body) xs ys

-- a static event has no parameters
pub static-bare : (sys : System) (ev : Event) → IsSound sys → IsEvent sys ev → is_static sys ev.sig ≡ true → ev.pars ≡ []
unfolding is_static
static-bare sys ev sound is fixed = go (slice_get sys.signals (ev.sig - 4)) refl
  where
    go : (o : Option SignalDef) → slice_get sys.signals (ev.sig - 4) ≡ o → ev.pars ≡ []
    go None at =
        let four : nat_le 4 ev.sig ≡ true = le-leb 4 ev.sig is.from in
        let h : false ≡ true = rw (four, at) at fixed in
        absurd (cc)
    go (Some d) at =
        let four : nat_le 4 ev.sig ≡ true = le-leb 4 ev.sig is.from in
        let here : d.fixed ≡ true = rw (four, at) at fixed in
        let params : length ev.pars ≡ d.params = rw at at is.params in
        let signal = every-at (IsSoundSignal sys.pools) sys.signals sound.signals (ev.sig - 4) d at in
        nothing-left ev.pars (params ∙ signal.bare here)
