-- What comes of it when one lane of a table meets another.
use Rattle.std.specs.Prelude.{◌≡◌, max}
use Rattle.qp_model.specs.declared.words.Word.{Word}
use Rattle.qp_calls.specs.LaneView.{LaneView}

-- of the same table, and of the same system
pub record IsTogether (v w : LaneView) : Type 0 where
  pub world : w.world ≡ v.world
  pub sys : w.sys ≡ v.sys

-- A lane met another. Of each word it knows of as many operations as the one of the two that knew of more, and of what that one saw; where both knew of
-- as many, both saw the same. Nothing else changes.
pub record Met (old other new : LaneView) : Type 0 where
  pub same : new ≡ record old { mark = new.mark; shown = new.shown }
  pub mark : (w : Word) → new.mark w ≡ max (old.mark w) (other.mark w)
  pub own : (w : Word) → new.mark w ≡ old.mark w → new.shown w ≡ old.shown w
  pub its : (w : Word) → new.mark w ≡ other.mark w → new.shown w ≡ other.shown w
