-- Where the cooperative kernel rests.
use Rattle.std.specs.Prelude.{◌≡◌, ◌≢◌, ℕ, ◌<◌, Bool, List, [], ◌∷◌, ◌++◌, Some}
use Rattle.std.specs.List.{filter}
use Rattle.qp_model.specs.declared.bodies.Body.TheVariants as body
use Rattle.qp_model.specs.declared.journals.Journal.{Journal}
use Rattle.qp_model.specs.declared.stimulus.Stim.{Stim}
use Rattle.qp_model.specs.declared.systems.ObjectDef.{ObjectDef}
use Rattle.qp_model.specs.declared.systems.System.{System}
use Rattle.qp_model.specs.declared.words.Word.TheVariants as word
use Rattle.qp_model.specs.History.{drawn_on, touch}
use Rattle.qp_model.specs.Kernels.{port}
use Rattle.qp_model.specs.Lawful.{Lawful, one_thread}
use Rattle.qp_model.specs.Line.{Line, line}
use Rattle.qp_model.specs.Machine.{after}
use Rattle.qp_model.specs.OneOrder.{IsOneOrder, OneThread, Placed, order, items_placed}
use Rattle.qp_model.specs.Record.{Item}
use Rattle.qp_model.specs.Sites.{object_at, ring_of}
use Rattle.qp_model_order.specs.RunOrder.{placed}

-- the records of a run with one thread in their order
unfoldable pub run_records : OneThread → List Placed
unfolding order
run_records r = order r.cuts r.lane0 r.sources

-- the queue of this object after these records, by those of its operations
unfoldable pub queue_after : System → ℕ → List Item → Line
unfolding after ring_of
queue_after sys a items = after (line (ring_of sys a)) (filter (λ i. drawn_on (word.Queue a) (touch i)) items)

-- wherever lane 0 has a `rest`, no object's queue holds an entry after the records that stand before it in the order
unfoldable pub IsIdleAtRests : System → List Placed → Type 0
unfolding object_at queue_after
IsIdleAtRests sys records =
    (before behind : List Placed) (n : ℕ) → records ≡ before ++ placed 0 (record { of = 0; body = body.Rest n }) ∷ behind
    → (d : ObjectDef) → object_at sys d.priority ≡ Some d → 0 < d.priority → (queue_after sys d.priority (items_placed before)).entries ≡ []

-- so it is in each lawful journal of a run with one thread
abbrev pub RestsWhereNothingWaits : Type 0
RestsWhereNothingWaits =
    (sys : System) (stimuli : List (List Stim)) (j : Journal) → Lawful sys stimuli j → j.kernel ≢ port → (cuts : Bool)
    → IsOneOrder (one_thread sys stimuli j cuts) → IsIdleAtRests sys (run_records (one_thread sys stimuli j cuts))
