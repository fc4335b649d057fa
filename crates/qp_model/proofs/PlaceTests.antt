-- The tests of places and of what is known beside a record, on small journals.
use Rattle.std.proofs.Common.{◌≡◌, ℕ, true, false, List, [], ◌∷◌, refl}
use Rattle.qp_model.specs.declared.record.Rec.{Rec}
use Rattle.qp_model.specs.declared.systems.System.{System}
use Rattle.qp_model.specs.declared.bodies.Body.{Body}
use Rattle.qp_model.specs.declared.bodies.Body.TheVariants as body
use Rattle.qp_model.specs.Record.{Item, entry}
use Rattle.qp_model.specs.Told.{Nothing, plain, told_took, told_new, dropped, raised, same_in}
use Rattle.qp_model.specs.Places.{RecordPlace, must_precede, places, in_order, items_at}
use Rattle.qp_model.specs.Knowing.{records_of}

rec : ℕ → ℕ → List ℕ → Rec
rec kind o nums = record { kind = kind; of = o; nums = record { items = nums } }

-- an object takes what a source posts, and a source looks at the queue before and after
lanes : List (List Rec)
unfolding rec
lanes =
    (rec 5 1 (1 ∷ 0 ∷ 1 ∷ 0 ∷ 4 ∷ 0 ∷ []) ∷ rec 14 1 [] ∷ [])
    ∷ (rec 7 0 (1 ∷ 0 ∷ 0 ∷ 0 ∷ []) ∷ rec 20 0 (1 ∷ 1 ∷ 0 ∷ 0 ∷ 0 ∷ 4 ∷ 0 ∷ []) ∷ [])
    ∷ (rec 7 0 (1 ∷ 1 ∷ 0 ∷ 1 ∷ []) ∷ [])
    ∷ []

at : ℕ → ℕ → RecordPlace
at lane n = record { lane = lane; at = n }

-- in one lane, by place
lane_order : must_precede lanes (at 0 0) (at 0 1) ≡ true
unfolding must_precede lanes at rec
lane_order = refl

lane_reverse : must_precede lanes (at 0 1) (at 0 0) ≡ false
unfolding must_precede lanes at rec
lane_reverse = refl

-- the post draws the lower number
drawn_order : must_precede lanes (at 1 1) (at 0 0) ≡ true
unfolding must_precede lanes at rec
drawn_order = refl

drawn_reverse : must_precede lanes (at 0 0) (at 1 1) ≡ false
unfolding must_precede lanes at rec
drawn_reverse = refl

-- the take draws a number that the look behind it shows, and none that the look before it shows
shown_order : must_precede lanes (at 0 0) (at 2 0) ≡ true
unfolding must_precede lanes at rec
shown_order = refl

shown_reverse : must_precede lanes (at 2 0) (at 0 0) ≡ false
unfolding must_precede lanes at rec
shown_reverse = refl

shown_before : must_precede lanes (at 1 0) (at 0 0) ≡ true
unfolding must_precede lanes at rec
shown_before = refl

-- a note is on no word
note_free : must_precede lanes (at 0 1) (at 2 0) ≡ false
unfolding must_precede lanes at rec
note_free = refl

no_record : must_precede lanes (at 1 1) (at 3 0) ≡ false
unfolding must_precede lanes at rec
no_record = refl

all_places : places lanes ≡ at 0 0 ∷ at 0 1 ∷ at 1 0 ∷ at 1 1 ∷ at 2 0 ∷ []
unfolding places lanes at rec
all_places = refl

serial : in_order [] (items_at lanes (at 1 0 ∷ at 1 1 ∷ at 0 0 ∷ at 2 0 ∷ at 0 1 ∷ [])) ≡ true
unfolding in_order items_at lanes at rec
serial = refl

taken_early : in_order [] (items_at lanes (at 1 0 ∷ at 0 0 ∷ at 1 1 ∷ at 2 0 ∷ [])) ≡ false
unfolding in_order items_at lanes at rec
taken_early = refl

seen_early : in_order [] (items_at lanes (at 1 0 ∷ at 1 1 ∷ at 2 0 ∷ at 0 0 ∷ [])) ≡ false
unfolding in_order items_at lanes at rec
seen_early = refl

-- What is known: the event of an entry, free blocks, references left, a ceiling, a membership.
i : ℕ → Body → Item
i o b = record { of = o; body = b }

system : System
system = record { pools = record { size = 1; blocks = 2 } ∷ []; signals = []; charts = []; objects = []; timers = [] }

life : List Item
unfolding i
life =
    i 1 (body.Sub 5 0) ∷ i 1 (body.New 1 0 0 0 5 (7 ∷ [])) ∷ i 1 (body.Inc 1 0 0) ∷ i 1 (body.Post 1 1 0 0 (entry 1 0 0)) ∷ i 1 (body.Inc 1 0 1) ∷ i 1 (body.Dec 1 0 2 1)
    ∷ i 2 (body.Same 5 1) ∷ i 1 (body.Same 5 1) ∷ i 1 (body.Lock 3) ∷ i 2 (body.Lock 4) ∷ i 1 (body.Took 1 0 1 (entry 1 0 0)) ∷ i 1 (body.Took 1 0 2 (entry 1 1 0))
    ∷ i 1 (body.Took 1 0 3 (entry 0 9 0)) ∷ []

told_of_one : records_of (record { sys = system; items = life }) 1 0 life
    ≡ plain (body.Sub 5 0) ∷ told_new 1 0 0 0 5 (7 ∷ []) 2 ∷ plain (body.Inc 1 0 0) ∷ plain (body.Post 1 1 0 0 (entry 1 0 0)) ∷ plain (body.Inc 1 0 1) ∷ dropped 1 0 2 1 1
    ∷ same_in 5 1 true ∷ raised 3 0 ∷ told_took 1 0 1 (entry 1 0 0) (record { sig = 5; pars = 7 ∷ [] })
    ∷ record { body = body.Took 1 0 2 (entry 1 1 0); known = Nothing } ∷ told_took 1 0 3 (entry 0 9 0) (record { sig = 9; pars = [] }) ∷ []
unfolding records_of life system i
told_of_one = refl

told_of_two : records_of (record { sys = system; items = life }) 2 0 life ≡ same_in 5 1 false ∷ raised 4 3 ∷ []
unfolding records_of life system i
told_of_two = refl
