-- Under `qk` no reading of lane 0 asks which looks have a stimulus.
use Rattle.std.proofs.Common.{◌≡◌, ℕ, ◌+◌, ◌==◌, nat_lt, Bool, ◌&&◌, cond, List, [], ◌∷◌, ◌++◌, map, refl, sym, ◌∙◌, ap, subst, Option, Some, None}
use Rattle.std.specs.Option.{unwrap_or, option_and_then}
use Rattle.qp_model.specs.declared.systems.System.{System}
use Rattle.qp_model.specs.Record.{Item}
use Rattle.qp_model.specs.Told.{ToldItem, untold}
use Rattle.qp_model.specs.Kernels.{qk}
use Rattle.qp_model.specs.Course.{FollowsTo}
use Rattle.qp_model.specs.KernelLane.{Reading, Role, Looks, Sees, Rests, Drops, Spills, Upcoming, Inside, Looking, Chosen, Ended, Resting, Again, Over, Halted, floor_in, found_none, looking_at, look_next, seen_next, own_next, inside_next, ended_next, rest_next, place_next, started_next, role_next, lane_next, lane_on, unread, role_of}
use Rattle.qp_kernel.specs.LaneZero.{told_pieces_at, told_pieces, setting}
use Rattle.qp_kernel.specs.ZeroEnds.{cut_in, ZeroEnds}

module _ (sys : System) (now has : ℕ → Bool) where
  found-blind : (k : Reading) (running : List ℕ) → found_none (setting sys qk has) k running ≡ found_none (setting sys qk now) k running
  found-blind k [] = refl
  found-blind k (p ∷ outer) = refl

  looking-blind : (k : Reading) (os : List ℕ) → looking_at (setting sys qk has) k os ≡ looking_at (setting sys qk now) k os
  looking-blind k [] = found-blind k k.running
  looking-blind k (p ∷ others) = refl

  look-blind : (k : Reading) (o : ℕ) (role : Role) → look_next (setting sys qk has) k o role ≡ look_next (setting sys qk now) k o role
  unfolding look_next
  look-blind k o (Looks n floor) =
      ap (λ x. cond ((o == 0) && (n == k.looks + 1) && (floor == floor_in sys qk k.running k.ceiling)) (Some x) None)
      (looking-blind (record k { looks = n }) _)
  look-blind k o _ = refl

  seen-blind : (k : Reading) (p : ℕ) (others : List ℕ) (o : ℕ) (role : Role) → seen_next (setting sys qk has) k p others o role ≡ seen_next (setting sys qk now) k p others o role
  seen-blind k p others o (Sees q f l m) =
      ap (λ x. cond ((o == 0) && (q == p)) (Some (cond (nat_lt m (f + l)) (record k { place = Chosen p }) x)) None) (looking-blind k others)
  seen-blind k p others o _ = refl

  inside-blind : (k : Reading) (running : List ℕ) (o : ℕ) (role : Role) → inside_next (setting sys qk has) k running o role ≡ inside_next (setting sys qk now) k running o role
  unfolding inside_next
  inside-blind k [] o role = look-blind k o role
  inside-blind k (p ∷ outer) o role = ap (λ x. cond (o == p) (own_next k p outer role) x) (look-blind k o role)

  ended-blind : (k : Reading) (p o : ℕ) (role : Role) → ended_next (setting sys qk has) k p o role ≡ ended_next (setting sys qk now) k p o role
  unfolding ended_next
  ended-blind k p o Drops = refl
  ended-blind k p o role = look-blind k o role

  rest-blind : (k : Reading) (o : ℕ) (role : Role) → rest_next (setting sys qk has) k o role ≡ rest_next (setting sys qk now) k o role
  rest-blind k o (Rests n) = refl
  rest-blind k o _ = refl

  place-blind : (k : Reading) (o : ℕ) (role : Role) (place : Upcoming) → place_next (setting sys qk has) k o role place ≡ place_next (setting sys qk now) k o role place
  unfolding place_next
  place-blind k o role Inside = inside-blind k k.running o role
  place-blind k o role (Looking p others) = seen-blind k p others o role
  place-blind k o role (Chosen p) = refl
  place-blind k o role (Ended p) = ended-blind k p o role
  place-blind k o role Resting = rest-blind k o role
  place-blind k o role Again = look-blind k o role
  place-blind k o role Over = look-blind k o role
  place-blind k o role Halted = refl

  started-blind : (k : Reading) (o : ℕ) (role : Role) (unstarted : List ℕ) → started_next (setting sys qk has) k o role unstarted ≡ started_next (setting sys qk now) k o role unstarted
  unfolding started_next
  started-blind k o role [] = place-blind k o role k.place
  started-blind k o role (p ∷ others) = refl

  role-blind : (k : Reading) (o : ℕ) (role : Role) → role_next (setting sys qk has) k o role ≡ role_next (setting sys qk now) k o role
  unfolding role_next
  role-blind k o Spills = refl
  role-blind k o role = started-blind k o role k.unstarted

  next-blind : (k : Reading) (i : Item) → lane_next (setting sys qk has) k i ≡ lane_next (setting sys qk now) k i
  unfolding lane_next
  next-blind k i = role-blind k i.of (role_of i.body)

  lane-blind : (k : Reading) (is : List Item) → lane_on (setting sys qk has) k is ≡ lane_on (setting sys qk now) k is
  unfolding lane_on
  lane-blind k [] = refl
  lane-blind k (i ∷ is) = ap (option_and_then (λ next. lane_on (setting sys qk has) next is)) (next-blind k i) ∙ by (lane_next (setting sys qk now) k i) (λ next. lane-blind next is)
    where
      by : (next : Option Reading) → ((k : Reading) → lane_on (setting sys qk has) k is ≡ lane_on (setting sys qk now) k is)
          → option_and_then (λ next. lane_on (setting sys qk has) next is) next ≡ option_and_then (λ next. lane_on (setting sys qk now) next is) next
      by None later = refl
      by (Some next) later = later next

  pieces-blind : (o : ℕ) (k : Reading) (ts : List ToldItem) → told_pieces (setting sys qk has) o k ts ≡ told_pieces (setting sys qk now) o k ts
  unfolding told_pieces
  pieces-blind o k [] = refl
  pieces-blind o k (t ∷ ts) =
      ap (λ next. told_pieces_at o k t ++ told_pieces (setting sys qk has) o (unwrap_or next k) ts) (next-blind k (untold t))
      ∙ ap (λ ps. told_pieces_at o k t ++ ps) (pieces-blind o (unwrap_or (lane_next (setting sys qk now) k (untold t)) k) ts)

  -- So what is known of lane 0 with some looks is known of it with others.
  pub qk-blind : {budget end most : ℕ} {told : List ToldItem} → ZeroEnds sys qk budget end most told now → ZeroEnds sys qk budget end most told has
  qk-blind {budget} {end} {most} {told} ends = record {
    last = ends.last;
    read = lane-blind (unread sys) (map untold told) ∙ ends.read;
    idle = ends.idle;
    spills = ends.spills;
    stands = ends.stands;
    follows = λ d chart at is.
        subst (FollowsTo sys d (cut_in end d.priority (map untold told))) (sym (pieces-blind d.priority (unread sys) told)) (ends.follows d chart at is);
    shapes = ends.shapes;
    ends = ends.ends;
    spents = ends.spents;
    spent = ends.spent;
    states = ends.states;
    budgets = ends.budgets;
  }
