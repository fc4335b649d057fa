-- The subscribers of a signal.
use Rattle.std.specs.Prelude.{ℕ, ◌+◌, ◌/◌, ◌^◌, ◌==◌, Bool, true, false, not, ◌&&◌, List, [], ◌∷◌}
use Rattle.std.specs.List.{sum_by}
use Rattle.qp_model.specs.declared.bodies.Body.{Body}
use Rattle.qp_model.specs.declared.bodies.Body.TheVariants.{Sub, Unsub, Pub, Same}
use Rattle.qp_chart.specs.StateTree.{has}
use Rattle.qp_model.specs.Lists.{without_all}
use Rattle.qp_model.specs.Machine.{Machine}

pub record Subscribers : Type 0 where
  pub count : ℕ
  pub members : List ℕ

-- `sub` puts its object into the set, `unsub` takes it out
abbrev pub subscribers_next : Subscribers → ℕ → Body → Subscribers
subscribers_next s o (Sub sig n) = record { count = s.count + 1; members = o ∷ without_all o s.members }
subscribers_next s o (Unsub sig n) = record { count = s.count + 1; members = without_all o s.members }
subscribers_next s o _ = s

-- an object that comes isn't in the set, and one that goes is
abbrev pub subscribers_may : Subscribers → ℕ → Body → Bool
subscribers_may s o (Sub sig n) = (n == s.count) && not (has s.members o)
subscribers_may s o (Unsub sig n) = (n == s.count) && has s.members o
subscribers_may s o _ = false

-- the set as bits: bit p - 1 for object p, and none for 0
abbrev pub bits_of_set : List ℕ → ℕ
bits_of_set set = sum_by (λ p. 2 ^ p / 2) set

-- `pub` states the set; `same` states nothing of it
abbrev pub subscribers_says : Subscribers → Body → Bool
subscribers_says s (Pub sig n set) = bits_of_set s.members == set
subscribers_says s (Same sig n) = true
subscribers_says s _ = false

abbrev pub subscribers : Machine Subscribers
subscribers = record {
  first = record { count = 0; members = [] };
  next = λ s i. subscribers_next s i.of i.body;
  may = λ s i. subscribers_may s i.of i.body;
  count = λ s. s.count;
  says = subscribers_says;
}
