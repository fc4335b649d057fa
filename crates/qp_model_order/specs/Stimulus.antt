-- What the records of a stimulus are, whatever the stimulus is.
use Rattle.std.specs.Prelude.{◌≡◌, Bool, true, false, List, [], ◌∷◌, ◌++◌, map, None, ⊤}
use Rattle.std.specs.List.{list_any, filter_map}
use Rattle.qp_model.specs.declared.bodies.Body.{Body}
use Rattle.qp_model.specs.Record.{Item}
use Rattle.qp_model.specs.Told.{Told, for_object, untold}
use Rattle.qp_model.specs.Ends.{is_assert, is_spent, is_end, ends_last}
use Rattle.qp_model.specs.OneOrder.{stim_of, look_of}
use Rattle.qp_model.specs.Sources.{entry_seen}
use Rattle.qp_model_order.specs.Placing.{LooksNone, AreBehind}

-- a record that is no look, no `stim` and no end of a lane, and sees no entry
pub record IsPlain (b : Body) : Type 0 where
  pub look : look_of b ≡ None
  pub stim : stim_of b ≡ None
  pub calm : is_end b ≡ false
  pub seen : entry_seen b ≡ None

abbrev pub ArePlain : List Told → Type 0
ArePlain [] = ⊤
ArePlain (t ∷ ts) = IsPlain t.body × ArePlain ts

-- such records; or such records and an assertion
unfoldable pub StimulusForm : Bool → List Told → Type 0
StimulusForm false g = ArePlain g
StimulusForm true g = (front : List Told) × ArePlain front × (t : Told) × (is_assert t.body ≡ true) × (g ≡ front ++ t ∷ [])

-- the records of a source's lane, which have no object
abbrev pub source_items : List Told → List Item
source_items g = map untold (map (for_object 0) g)

-- what the records of a stimulus are in the lane of its source; an assertion is the last of them
pub record StimulusItems (asserted : Bool) (is : List Item) : Type 0 where
  pub behind : AreBehind false is
  pub lookless : LooksNone is
  pub ends : ends_last is ≡ true
  pub calm : asserted ≡ false → list_any (λ i. is_end i.body) is ≡ false
  pub seen : filter_map (λ i. entry_seen i.body) is ≡ []
  pub unspent : list_any (λ i. is_spent i.body) is ≡ false

-- what they are where a `spill` cut them, with it
pub record CutItems (is : List Item) : Type 0 where
  pub behind : AreBehind true is
  pub lookless : LooksNone is
  pub ends : ends_last is ≡ true
  pub seen : filter_map (λ i. entry_seen i.body) is ≡ []
  pub unspent : list_any (λ i. is_spent i.body) is ≡ false
