-- A world stays sound, and its hands are what the record leaves.
use Rattle.std.proofs.Common.{◌≡◌, ℕ, suc, ◌<◌, Bool, true, List, [], ◌∷◌, ◌++◌, length, take, drop, refl, sym, ◌∙◌, ap, subst, IsTrue}
use Rattle.std.specs.List.{list_all}
use Rattle.std.proofs.lemmas.Bool.{and_from, and_parts}
use Rattle.std.proofs.lemmas.List.{map-append}
use Rattle.qp_model.specs.declared.record.Rec.{Rec}
use Rattle.qp_model.specs.declared.systems.System.{System}
use Rattle.qp_model.specs.declared.bodies.Body.{Body}
use Rattle.qp_model.specs.Record.{Item, item_of}
use Rattle.qp_model.specs.OneOrder.{Placed, items_placed}
use Rattle.qp_model.specs.Told.{Known, for_object}
use Rattle.qp_model.specs.History.{touch_of, all_items, lane_items}
use Rattle.qp_model.specs.Places.{is_next, in_order}
use Rattle.qp_model.specs.Knowing.{known_of, told}
use Rattle.qp_model.specs.Settled.{AllSettled, is_settled, all_settled}
use Rattle.qp_model.specs.WordLaw.{Words}
use Rattle.qp_model.proofs.WordLemmas.{all_items-split, all_items-grown}
use Rattle.qp_model.proofs.KnowingLemmas.{IsLater, known-stays, all_settled-stays}
use Rattle.qp_model.proofs.SettledLemmas.{all_settled-from, all_settled-to}
use Rattle.qp_calls.specs.Tokens.{Token, hands_of, hands_by, hands_after}
use Rattle.qp_calls.proofs.HandLemmas.{hands-append}
use Rattle.qp_plain_sound.specs.Log.{lane_recs, log_of, with_record}
use Rattle.qp_plain_sound.specs.Sound.{Sound, SoundWorld, facts_in, hands_in, told_log, all_made, handles_made}
use Rattle.qp_plain_sound.specs.May.{May}
use Rattle.qp_plain_sound.proofs.Logs.{log-grows, orders-more, lanes-split, lanes-grown}
use Rattle.qp_plain_sound.proofs.LogTotals.{total-log, in_order-push, next-is}
use Rattle.qp_plain_sound.proofs.NextLemmas.{next-of}
use Rattle.qp_plain_sound.proofs.KindLemmas.{sound-stays}
use Rattle.qp_plain_sound.proofs.LaterLemmas.{later-of, all_made-stays, settled-now, handled-now}
use Rattle.qp_model.proofs.ListLemmas.{all-push}

-- what is told of a log stays
pub told_log-stays : (sys : System) (xs : List Item) (i : Item) (ys : List Item) → IsLater xs i ys → (log : List Placed) → AllSettled (xs ++ ys) (items_placed log)
    → told_log (record { sys = sys; items = xs ++ i ∷ ys }) log ≡ told_log (record { sys = sys; items = xs ++ ys }) log
unfolding told_log told AllSettled
told_log-stays sys xs i ys later [] settled = refl
told_log-stays sys xs i ys later (x ∷ log) settled =
    rw (known-stays sys xs i ys later x.item.of 0 x.item.body settled.0, told_log-stays sys xs i ys later log settled.1) refl

-- of all records in the middle of a list, tests hold
all-insert : {X : Type 0} (p : X → Bool) (xs : List X) (i : X) (ys : List X) → list_all p (xs ++ ys) ≡ true → p i ≡ true → list_all p (xs ++ i ∷ ys) ≡ true
all-insert p [] i ys h k = and_from _ _ k h
all-insert p (x ∷ xs) i ys h k = and_from _ _ (and_parts _ _ h).0 (all-insert p xs i ys (and_parts _ _ h).1 k)

module _ (sys : System) (lanes : List (List Rec)) (order : List ℕ) (at : ℕ) (r : Rec) (o : ℕ) (b : Body) (world : SoundWorld sys lanes order) (within : at < length lanes)
    (is : item_of r ≡ record { of = o; body = b }) (may : May sys lanes (hands_in sys lanes order) o b) where
  -- The lanes with this one among them.
  abbrev pub before : List (List Rec)
  before = take at lanes

  abbrev pub lane : List Rec
  lane = lane_recs lanes at

  abbrev pub behind : List (List Rec)
  behind = drop (suc at) lanes

  abbrev pub split_lanes : List (List Rec)
  split_lanes = before ++ lane ∷ behind

  abbrev pub grown_lanes : List (List Rec)
  grown_lanes = before ++ (lane ++ r ∷ []) ∷ behind

  abbrev pub this : Item
  this = record { of = o; body = b }

  abbrev pub front : List Item
  front = all_items before ++ lane_items lane

  abbrev pub rest : List Item
  rest = all_items behind

  pub is_split : lanes ≡ split_lanes
  is_split = lanes-split lanes at within

  pub is_grown : with_record lanes at r ≡ grown_lanes
  is_grown = lanes-grown lanes at (lane ++ r ∷ []) within

  pub items_before : all_items lanes ≡ front ++ rest
  items_before = ap all_items is_split ∙ all_items-split before lane behind

  pub items_after : all_items (with_record lanes at r) ≡ front ++ this ∷ rest
  items_after = ap all_items is_grown ∙ all_items-grown before lane behind r this is

  abbrev hands : List Token
  hands = hands_in sys lanes order

  sound_split : Sound sys split_lanes hands
  sound_split = subst (λ ls. Sound sys ls hands) is_split world.sound

  may_split : May sys split_lanes hands o b
  may_split = subst (λ ls. May sys ls hands o b) is_split may

  pub later : IsLater front this rest
  later = later-of sys before lane behind r o b is sound_split.words hands may_split

  abbrev pub known_now : Known
  known_now = known_of (facts_in sys (with_record lanes at r)) o 0 b

  pub sound_now : Sound sys (with_record lanes at r) (hands_of hands b known_now)
  sound_now =
      subst (λ ls. Sound sys ls (hands_of hands b (known_of (facts_in sys ls) o 0 b))) (sym is_grown)
      (sound-stays sys before lane behind r hands sound_split world.few o b is may_split)

  words_grown : Words sys grown_lanes
  words_grown = subst (λ ls. Words sys ls) is_grown sound_now.words

  -- The hands of the world.
  logged_then : AllSettled (front ++ rest) (items_placed (log_of lanes order))
  logged_then = subst (λ z. AllSettled z (items_placed (log_of lanes order))) items_before (all_settled-from (all_items lanes) (items_placed (log_of lanes order)) world.logged)

  told_then : told_log (facts_in sys (with_record lanes at r)) (log_of lanes order) ≡ told_log (facts_in sys lanes) (log_of lanes order)
  told_then =
      ap (λ z. told_log (record { sys = sys; items = z }) (log_of lanes order)) items_after
      ∙ told_log-stays sys front this rest later (log_of lanes order) logged_then
      ∙ sym (ap (λ z. told_log (record { sys = sys; items = z }) (log_of lanes order)) items_before)

  log_now : log_of (with_record lanes at r) (order ++ at ∷ []) ≡ log_of lanes order ++ record { lane = at; item = this } ∷ []
  log_now =
      log-grows lanes (with_record lanes at r) order (order ++ at ∷ []) at r world.orders (record { within = within; lanes_are = refl; order_is = refl })
      ∙ ap (λ i. log_of lanes order ++ record { lane = at; item = i } ∷ []) is

  pub hands_now : hands_in sys (with_record lanes at r) (order ++ at ∷ []) ≡ hands_of hands b known_now
  unfolding hands_in told_log told hands_after hands_by
  hands_now =
      ap (λ l. hands_after [] (told_log (facts_in sys (with_record lanes at r)) l)) log_now
      ∙ ap (hands_after []) (map-append (λ x. for_object x.item.of (told (facts_in sys (with_record lanes at r)) x.item.of 0 x.item.body)) (log_of lanes order) (record { lane = at; item = this } ∷ []))
      ∙ hands-append [] (told_log (facts_in sys (with_record lanes at r)) (log_of lanes order)) (for_object o (told (facts_in sys (with_record lanes at r)) o 0 b) ∷ [])
      ∙ ap (λ ts. hands_of (hands_after [] ts) b known_now) told_then

  -- What was settled and made.
  settled_this : is_settled (all_items (with_record lanes at r)) b ≡ true
  settled_this =
      subst (λ ls. is_settled (all_items ls) b ≡ true) (sym is_grown)
      (settled-now sys before lane behind r o b is hands sound_split world.few may_split words_grown)

  handled_this : handles_made (all_items (with_record lanes at r)) b ≡ true
  handled_this =
      subst (λ ls. handles_made (all_items ls) b ≡ true) (sym is_grown)
      (handled-now sys before lane behind r o b is hands sound_split world.few may_split words_grown)

  next_now : is_next (items_placed (log_of lanes order)) (touch_of o b) ≡ true
  next_now =
      next-is (all_items lanes) (items_placed (log_of lanes order)) (touch_of o b) (λ w. total-log w lanes order world.orders)
      (next-of sys lanes world.sound.words hands o b may)

  items_log : items_placed (log_of (with_record lanes at r) (order ++ at ∷ [])) ≡ items_placed (log_of lanes order) ++ this ∷ []
  items_log = ap items_placed log_now ∙ map-append (λ x. x.item) (log_of lanes order) (record { lane = at; item = this } ∷ [])

  settled_all : (js : List Item) → IsTrue (all_settled (all_items lanes) js) → all_settled (front ++ this ∷ rest) js ≡ true
  settled_all js h =
      all_settled-to (front ++ this ∷ rest) js
      (all_settled-stays sys front this rest later js (subst (λ z. AllSettled z js) items_before (all_settled-from (all_items lanes) js h)))

  pub world-more : SoundWorld sys (with_record lanes at r) (order ++ at ∷ [])
  unfolding all_settled all_made
  world-more = record {
    orders = orders-more lanes order at r world.orders within;
    sound = subst (λ hs. Sound sys (with_record lanes at r) hs) (sym hands_now) sound_now;
    settled =
        subst (λ z. all_settled z z ≡ true) (sym items_after)
        (all-insert (λ j. is_settled (front ++ this ∷ rest) j.body) front this rest
        (subst (λ z. all_settled (front ++ this ∷ rest) z ≡ true) items_before (settled_all (all_items lanes) world.settled))
        (subst (λ z. is_settled z b ≡ true) items_after settled_this));
    numbered = subst (λ is. in_order [] is ≡ true) (sym items_log) (in_order-push [] (items_placed (log_of lanes order)) this world.numbered next_now);
    logged =
        subst (λ is. all_settled (all_items (with_record lanes at r)) is ≡ true) (sym items_log)
        (subst (λ z. all_settled z (items_placed (log_of lanes order) ++ this ∷ []) ≡ true) (sym items_after)
        (all-push (λ j. is_settled (front ++ this ∷ rest) j.body) (items_placed (log_of lanes order)) this
        (settled_all (items_placed (log_of lanes order)) world.logged) (subst (λ z. is_settled z b ≡ true) items_after settled_this)));
    made =
        subst (λ z. all_made z z ≡ true) (sym items_after)
        (all-insert (λ j. handles_made (front ++ this ∷ rest) j.body) front this rest
        (all_made-stays sys front this rest later (front ++ rest) (subst (λ z. all_made z z ≡ true) items_before world.made))
        (subst (λ z. handles_made z b ≡ true) items_after handled_this));
    few = world.few;
    bare = world.bare;
  }
