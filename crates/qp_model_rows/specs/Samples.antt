-- Small lanes that the tests of a definition accept or refuse.
use Rattle.std.specs.Prelude.{ℕ, List, [], ◌∷◌, ◌++◌, map, true, false, Bool}
use Rattle.qp_model.specs.declared.record.Rec.{Rec}
use Rattle.qp_model.specs.declared.stimulus.Stim.{Stim}
use Rattle.qp_model.specs.History.{lane_items}
use Rattle.qp_model.specs.Kernels.{sim}
use Rattle.qp_model.specs.Ends.{spent}
use Rattle.qp_model.specs.End.{spents_hold}
use Rattle.qp_model.specs.OneOrder.{OneThread, order, looks_right}
use Rattle.qp_model_rows.specs.Lines.{took, seen, post, stim as stimulus, look, budget_spent, line}
use Rattle.qp_model_rows.specs.Systems.{lamp, send, go_twice}
use Rattle.qp_model_rows.specs.Journals.{with_budget}

-- a `spill` that states a length
abbrev pub spill : ℕ → Rec
spill length = line 44 0 (length ∷ [])

-- a run of the lamp with one thread
unfoldable pub thread : List (List Stim) → List Rec → List (List Rec) → Bool → OneThread
unfolding lane_items
thread stimuli lane0 sources cuts = record { sys = lamp; stimuli = stimuli; lane0 = lane_items lane0; sources = map (λ l. lane_items l) sources; cuts = cuts }

-- two sources with a post each
abbrev pub two_sources : List (List Stim)
two_sources = (send 4 ∷ []) ∷ (send 4 ∷ []) ∷ []

-- two looks without a `seen`, in which the sources act
abbrev pub two_looks : List Rec
two_looks = look 0 1 0 ∷ look 0 2 1 ∷ []

-- the post of a source in this look; f is the count after it
abbrev pub posts_in : ℕ → ℕ → List Rec
posts_in k f = stimulus 0 1 k ∷ post 0 1 f 0 0 0 4 0 ∷ []

-- each look has the stimulus that acts in it
unfoldable pub turns_of : OneThread → Bool
unfolding looks_right order
turns_of r = looks_right r [] (order r.cuts r.lane0 r.sources)

-- two sources with a post each, in two looks
unfoldable pub two_threads : List Rec → List Rec → OneThread
unfolding thread
two_threads first second = thread two_sources two_looks (first ∷ second ∷ []) true

-- a source has two posts, of which the first stands in look 1, and then a `spill`
unfoldable pub spilling : List Rec → OneThread
unfolding thread
spilling lane0 = thread go_twice lane0 ((posts_in 1 1 ++ spill 2 ∷ []) ∷ []) false

-- object 1 takes an event, is seen with these first-in posts, and is at its budget
abbrev pub found_spent : ℕ → List Rec
found_spent f = took 1 1 0 1 0 4 0 ∷ seen 0 1 f 0 1 ∷ budget_spent 1 ∷ []

-- each `spent` of these lanes stands where it may, with this budget
unfoldable pub spents_of : ℕ → List (List Rec) → Bool
unfolding spents_hold
spents_of budget lanes = spents_hold lamp (with_budget budget sim spent lanes) 0 lanes
