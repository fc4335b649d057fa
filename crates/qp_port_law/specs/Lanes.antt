-- Lanes with threads of their own, by what each tells, where their run has ended.
use Rattle.std.specs.Prelude.{◌≡◌, ℕ, ◌+◌, List, [], ◌∷◌, ⊤}
use Rattle.std.specs.List.{count_by}
use Rattle.qp_model.specs.declared.stimulus.Stim.{Stim}
use Rattle.qp_model.specs.declared.systems.System.{System}
use Rattle.qp_model.specs.declared.systems.ObjectDef.{ObjectDef}
use Rattle.qp_model.specs.Acts.{Config}
use Rattle.qp_model.specs.Lawful.{is_settle}
use Rattle.qp_model_order.specs.SourceRun.{untold_all}
use Rattle.qp_calls.specs.Counting.{count_of}
use Rattle.qp_calls.specs.Deferring.{tokens_in}
use Rattle.qp_calls.specs.LaneView.{LaneView}
use Rattle.qp_calls.specs.Tokens.{Token}
use Rattle.qp_port_law.specs.Homes.{HomeEnds}
use Rattle.qp_port_law.specs.HomesRest.{RestsWith}
use Rattle.qp_port_law.specs.SourcesLeft.{SourceLeaves}

-- each of these objects has the next of these lanes, which ends as it may
abbrev pub HomesAre : System → ℕ → ℕ → List ObjectDef → List LaneView → Type 0
HomesAre sys budget end [] [] = ⊤
HomesAre sys budget end (d ∷ ds) (v ∷ vs) = HomeEnds sys d budget end v.told × HomesAre sys budget end ds vs
HomesAre sys budget end [] (v ∷ vs) = ⊥
HomesAre sys budget end (d ∷ ds) [] = ⊥

-- each of these sources has the next of these lanes, and leaves it as it may
abbrev pub SourcesAre : System → ℕ → ℕ → List (List Stim) → List LaneView → Type 0
SourcesAre sys kernel end [] [] = ⊤
SourcesAre sys kernel end (ss ∷ more) (v ∷ vs) = SourceLeaves sys kernel end ss v.told × SourcesAre sys kernel end more vs
SourcesAre sys kernel end [] (v ∷ vs) = ⊥
SourcesAre sys kernel end (ss ∷ more) [] = ⊥

-- each of these objects rests so in the next of these lanes, whose hands have its deferred entries
abbrev pub AreAtRest : System → (ℕ → Config) → List ObjectDef → List LaneView → Type 0
AreAtRest sys keeps [] [] = ⊤
AreAtRest sys keeps (d ∷ ds) (v ∷ vs) =
    RestsWith sys d (keeps d.priority) v.told × ((t : Token) → count_of t v.hands ≡ count_of t (tokens_in (keeps d.priority).kept)) × AreAtRest sys keeps ds vs
AreAtRest sys keeps [] (v ∷ vs) = ⊥
AreAtRest sys keeps (d ∷ ds) [] = ⊥

-- none of these lanes has anything in its hands
abbrev pub HaveNone : List LaneView → Type 0
HaveNone [] = ⊤
HaveNone (v ∷ vs) = (v.hands ≡ []) × HaveNone vs

-- how many `settle` records these lanes have
abbrev pub settles_in : List LaneView → ℕ
settles_in [] = 0
settles_in (v ∷ vs) = count_by (λ i. is_settle i.body) (untold_all v.told) + settles_in vs
