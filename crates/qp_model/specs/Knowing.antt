-- What all records together say beside one record.
use Rattle.std.specs.Prelude.{ℕ, ◌+◌, ◌==◌, nat_le, ◌&&◌, List, [], ◌∷◌, length, map, take, if◌then◌else◌, Some, None, nat_lt}
use Rattle.std.specs.declared.option.Option.{Option}
use Rattle.qp_chart.specs.StateTree.{has}
use Rattle.qp_model.specs.declared.words.Word.TheVariants as word
use Rattle.qp_model.specs.declared.systems.System.{System}
use Rattle.qp_model.specs.declared.bodies.Entry.{Entry}
use Rattle.qp_model.specs.declared.bodies.Body.{Body}
use Rattle.qp_model.specs.declared.bodies.Body.TheVariants.{Took, New, Dec, Back, Lock, Unlock, Same}
use Rattle.qp_model.specs.Record.{Item}
use Rattle.qp_model.specs.Told.{Event, Known, Nothing, OfEvent, Free, Left, Former, Member, Told, ToldItem, for_object}
use Rattle.qp_model.specs.History.{hist}
use Rattle.qp_model.specs.Machine.{after}
use Rattle.qp_model.specs.FreeBlocks.{free_blocks}
use Rattle.qp_model.specs.References.{references}
use Rattle.qp_model.specs.Subscribers.{subscribers}
use Rattle.qp_model.specs.Sites.{blocks_of}

-- a system and the records of all lanes
pub record Facts : Type 0 where
  pub sys : System
  pub items : List Item

-- how many blocks were free before operation n of the pool
unfoldable pub free_before : Facts → ℕ → ℕ → ℕ
unfolding after hist
free_before w p n = length (after (free_blocks (blocks_of w.sys p)) (take n (hist (word.Pool p) w.items))).free

-- how many references stood after operation d of the block
unfoldable pub references_after : Facts → ℕ → ℕ → ℕ → ℕ
unfolding after hist
references_after w p b d = length (after references (take (d + 1) (hist (word.Block p b) w.items))).names

-- the subscribers after the signal's first n operations
unfoldable pub set_at : Facts → ℕ → ℕ → List ℕ
unfolding after hist
set_at w sig n = (after subscribers (take n (hist (word.Signal sig) w.items))).members

-- the event of the life of block b in which number r lies, as far as the pool's operations up to this one tell: a `new` at or before r
-- begins a life, and a `back` at or before r ends it
abbrev pub given_by : ℕ → ℕ → Option Event → Body → Option Event
given_by b r e (New p n c from sig pars) = if (c == b) && nat_le from r then Some (record { sig = sig; pars = pars }) else e
given_by b r e (Back p n c to) = if (c == b) && nat_le to r then None else e
given_by b r e _ = e

unfoldable pub last_given : ℕ → ℕ → Option Event → List Item → Option Event
last_given b r e [] = e
last_given b r e (i ∷ is) = last_given b r (given_by b r e i.body) is

-- the event of the life that holds number r of block b of pool p; one that isn't below the length of the block's history is in no life
unfoldable pub life_event : Facts → ℕ → ℕ → ℕ → Option Event
unfolding hist last_given
life_event w p b r = if nat_lt r (length (hist (word.Block p b) w.items)) then last_given b r None (hist (word.Pool p) w.items) else None

-- the event of an entry: its static signal, or the event of the life that holds its reference
unfoldable pub event_of_entry : Facts → Entry → Option Event
unfolding life_event
event_of_entry w e = if e.pool == 0 then Some (record { sig = e.block; pars = [] }) else life_event w e.pool e.block e.name

abbrev pub event_known : Option Event → Known
event_known None = Nothing
event_known (Some ev) = OfEvent ev

-- what is known beside a record of object o; `ceiling` stood before it in its lane
unfoldable pub known_of : Facts → ℕ → ℕ → Body → Known
unfolding event_of_entry free_before references_after set_at
known_of w o ceiling (Took f l m e) = event_known (event_of_entry w e)
known_of w o ceiling (New p n b from sig pars) = Free (free_before w p n)
known_of w o ceiling (Dec p b d k) = Left (references_after w p b d)
known_of w o ceiling (Lock c) = Former ceiling
known_of w o ceiling (Same sig n) = Member (has (set_at w sig n) o)
known_of w o ceiling _ = Nothing

unfoldable pub told : Facts → ℕ → ℕ → Body → Told
unfolding known_of
told w o ceiling b = record { body = b; known = known_of w o ceiling b }

-- the ceiling after a record of the lane
abbrev pub ceiling_after : ℕ → Body → ℕ
ceiling_after ceiling (Lock c) = c
ceiling_after ceiling (Unlock c) = c
ceiling_after ceiling _ = ceiling

-- the lane's records of o, as told
unfoldable pub records_of : Facts → ℕ → ℕ → List Item → List Told
unfolding told
records_of w o ceiling [] = []
records_of w o ceiling (i ∷ is) =
    if i.of == o then told w o ceiling i.body ∷ records_of w o (ceiling_after ceiling i.body) is else records_of w o (ceiling_after ceiling i.body) is

-- the ceiling after a lane
unfoldable pub ceiling_over : ℕ → List Item → ℕ
ceiling_over ceiling [] = ceiling
ceiling_over ceiling (i ∷ is) = ceiling_over (ceiling_after ceiling i.body) is

-- all records of the lane, as told
unfoldable pub told_lane : Facts → ℕ → List Item → List ToldItem
unfolding told
told_lane w ceiling [] = []
told_lane w ceiling (i ∷ is) = for_object i.of (told w i.of ceiling i.body) ∷ told_lane w (ceiling_after ceiling i.body) is

-- without the objects that they are of
abbrev pub told_alone : List ToldItem → List Told
told_alone ts = map (λ t. t.told) ts
