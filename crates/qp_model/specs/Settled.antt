-- Records whose words have reached the place at which what is known beside them looks: that stays when records are added.
use Rattle.std.specs.Prelude.{◌≡◌, ◌==◌, ◌<◌, ◌≤◌, nat_lt, nat_le, Bool, true, ◌||◌, ◌⊎◌, List, [], ◌∷◌, length}
use Rattle.std.specs.List.{list_all}
use Rattle.qp_model.specs.declared.words.Word.TheVariants as word
use Rattle.qp_model.specs.declared.bodies.Body.{Body}
use Rattle.qp_model.specs.declared.bodies.Body.TheVariants.{Took, New, Dec, Same}
use Rattle.qp_model.specs.Record.{Item}
use Rattle.qp_model.specs.History.{hist}

-- the place of a word's history that what is known beside the record looks at has been reached
unfoldable pub Settled : List Item → Body → Type 0
unfolding hist
Settled items (Took f l m e) = (e.pool ≡ 0) ⊎ (e.name < length (hist (word.Block e.pool e.block) items))
Settled items (New p n b from sig pars) = n ≤ length (hist (word.Pool p) items)
Settled items (Dec p b d k) = d < length (hist (word.Block p b) items)
Settled items (Same sig n) = n ≤ length (hist (word.Signal sig) items)
Settled items _ = Unit {0}

-- all records of a lane have
unfoldable pub AllSettled : List Item → List Item → Type 0
unfolding Settled
AllSettled items [] = Unit {0}
AllSettled items (j ∷ js) = Settled items j.body × AllSettled items js

-- the same as tests
unfoldable pub is_settled : List Item → Body → Bool
unfolding hist
is_settled items (Took f l m e) = (e.pool == 0) || nat_lt e.name (length (hist (word.Block e.pool e.block) items))
is_settled items (New p n b from sig pars) = nat_le n (length (hist (word.Pool p) items))
is_settled items (Dec p b d k) = nat_lt d (length (hist (word.Block p b) items))
is_settled items (Same sig n) = nat_le n (length (hist (word.Signal sig) items))
is_settled items _ = true

unfoldable pub all_settled : List Item → List Item → Bool
unfolding is_settled
all_settled items lane = list_all (λ j. is_settled items j.body) lane
