-- Records that show a word, or are on a signal or a time event, or on no word: a sound world stays sound.
use Rattle.std.proofs.Common.{◌≡◌, ℕ, suc, ◌==◌, Bool, true, false, List, [], ◌∷◌, ◌++◌, refl, subst, arith, IsTrue, inl, inr}
use Rattle.std.specs.List.{list_all}
use Rattle.std.proofs.lemmas.Bool.Decides.{nat_tests}
use Rattle.qp_model.specs.declared.record.Rec.{Rec}
use Rattle.qp_model.specs.declared.words.Word.{Word}
use Rattle.qp_model.specs.declared.words.Word.TheVariants as word
use Rattle.qp_model.specs.declared.systems.System.{System}
use Rattle.qp_model.specs.Record.{Item, item_of}
use Rattle.qp_model.specs.History.{Draws, Shows, Neither, touch, hist, total, all_items, lane_items}
use Rattle.qp_model.specs.FreeBlocks.{Pool, free_blocks}
use Rattle.qp_model.specs.Line.{Line, line}
use Rattle.qp_model.specs.Subscribers.{Subscribers, subscribers}
use Rattle.qp_model.specs.TimeEvents.{Clock, time_event}
use Rattle.qp_model.specs.Lives.{HasLives}
use Rattle.qp_model.specs.Sites.{ring_of, blocks_of}
use Rattle.qp_model.specs.WordLaw.{Keeps, is_block, is_object, is_pool, is_signal, is_timer}
use Rattle.qp_model.proofs.WordLemmas.{hist-stays}
use Rattle.qp_model.proofs.WordLawLemmas.{words-note, words-queue, words-pool, words-signal, words-timer}
use Rattle.qp_model.proofs.KnowingLemmas.{IsLater, later-undrawn}
use Rattle.qp_calls.specs.Tokens.{Token}
use Rattle.qp_plain_sound.specs.WordStates.{set_in}
use Rattle.qp_plain_sound.specs.Sound.{Sound}
use Rattle.qp_plain_sound.proofs.Staying.{subscribed-stay, set-stays}
use Rattle.qp_plain_sound.proofs.SoundParts.{later-next}
use Rattle.qp_plain_sound.proofs.SoundQueues.{sound-quiet}

module _ (sys : System) (before : List (List Rec)) (lane : List Rec) (behind : List (List Rec)) (r : Rec) (i : Item) (is : item_of r ≡ i) where
  abbrev old_lanes : List (List Rec)
  old_lanes = before ++ lane ∷ behind

  abbrev new_lanes : List (List Rec)
  new_lanes = before ++ (lane ++ r ∷ []) ∷ behind

  abbrev pub IsLaterHere : Type 0
  IsLaterHere = IsLater (all_items before ++ lane_items lane) i (all_items behind)

  -- what shows a word, or is on none, is later than all
  pub shown-later : (w : Word) (n : ℕ) → touch i ≡ Shows w n → IsLaterHere
  shown-later w n shows = later-undrawn (all_items before ++ lane_items lane) i (all_items behind) (λ v. rw shows refl)

  pub silent-later : touch i ≡ Neither → IsLaterHere
  silent-later none = later-undrawn (all_items before ++ lane_items lane) i (all_items behind) (λ v. rw none refl)

  module _ (hands : List Token) (old : Sound sys old_lanes hands) where
    pub sound-silent : touch i ≡ Neither → Sound sys new_lanes hands
    sound-silent none =
        sound-quiet sys before lane behind r hands old i is (silent-later none) (words-note sys before lane behind r i is old.words none)
        (λ p. rw none refl) (λ p b. rw none refl) (λ a. rw none refl) (subscribed-stay sys before lane behind r i is (λ s. rw none refl) old.subscribed)

    pub sound-pool_shown : (p n : ℕ) → touch i ≡ Shows (word.Pool p) n → (IsTrue (is_pool sys p) → Keeps Pool (free_blocks (blocks_of sys p)) (word.Pool p) new_lanes) → Sound sys new_lanes hands
    sound-pool_shown p n shows keeps =
        sound-quiet sys before lane behind r hands old i is (shown-later (word.Pool p) n shows)
        (words-pool sys before lane behind r i is old.words p n (inr shows) keeps (λ b h. lives b h))
        (λ q. rw shows refl) (λ q b. rw shows refl) (λ a. rw shows refl) (subscribed-stay sys before lane behind r i is (λ s. rw shows refl) old.subscribed)
      where
        lives : (b : ℕ) → IsTrue (is_block sys p b) → HasLives b (hist (word.Pool p) (all_items new_lanes)) (hist (word.Block p b) (all_items new_lanes))
        lives b h =
            rw (hist-stays before lane behind r i is (word.Pool p) (rw shows refl), hist-stays before lane behind r i is (word.Block p b) (rw shows refl))
            (old.words.lives p b h)

    pub sound-queue_shown : (a n : ℕ) → touch i ≡ Shows (word.Queue a) n → (IsTrue (is_object sys a) → Keeps Line (line (ring_of sys a)) (word.Queue a) new_lanes) → Sound sys new_lanes hands
    sound-queue_shown a n shows keeps =
        sound-quiet sys before lane behind r hands old i is (shown-later (word.Queue a) n shows) (words-queue sys before lane behind r i is old.words a n (inr shows) keeps)
        (λ p. rw shows refl) (λ p b. rw shows refl) (λ c. rw shows refl) (subscribed-stay sys before lane behind r i is (λ s. rw shows refl) old.subscribed)

    pub sound-signal_shown : (s n : ℕ) → touch i ≡ Shows (word.Signal s) n → (IsTrue (is_signal sys s) → Keeps Subscribers subscribers (word.Signal s) new_lanes) → Sound sys new_lanes hands
    sound-signal_shown s n shows keeps =
        sound-quiet sys before lane behind r hands old i is (shown-later (word.Signal s) n shows) (words-signal sys before lane behind r i is old.words s n (inr shows) keeps)
        (λ p. rw shows refl) (λ p b. rw shows refl) (λ c. rw shows refl) (subscribed-stay sys before lane behind r i is (λ t. rw shows refl) old.subscribed)

    pub sound-timer_shown : (t n : ℕ) → touch i ≡ Shows (word.Timer t) n → (IsTrue (is_timer sys t) → Keeps Clock time_event (word.Timer t) new_lanes) → Sound sys new_lanes hands
    sound-timer_shown t n shows keeps =
        sound-quiet sys before lane behind r hands old i is (shown-later (word.Timer t) n shows) (words-timer sys before lane behind r i is old.words t n (inr shows) keeps)
        (λ p. rw shows refl) (λ p b. rw shows refl) (λ c. rw shows refl) (subscribed-stay sys before lane behind r i is (λ s. rw shows refl) old.subscribed)

    -- An operation on a time event.
    module _ (t : ℕ) (h : IsTrue (is_timer sys t)) (draws : touch i ≡ Draws (word.Timer t) (suc (total (word.Timer t) (all_items old_lanes)))) where
      pub timer-later : IsLaterHere
      timer-later = later-next sys before lane behind r i is (word.Timer t) draws (old.words.timers t h).numbers (λ p b n same. absurd (cc))

      pub sound-timer_drawn : (IsTrue (is_timer sys t) → Keeps Clock time_event (word.Timer t) new_lanes) → Sound sys new_lanes hands
      sound-timer_drawn keeps =
          sound-quiet sys before lane behind r hands old i is timer-later (words-timer sys before lane behind r i is old.words t _ (inl draws) keeps)
          (λ p. rw draws refl) (λ p b. rw draws refl) (λ c. rw draws refl) (subscribed-stay sys before lane behind r i is (λ s. rw draws refl) old.subscribed)

    -- An operation on a signal's word, after which these are its subscribers.
    module _ (s : ℕ) (h : IsTrue (is_signal sys s)) (draws : touch i ≡ Draws (word.Signal s) (suc (total (word.Signal s) (all_items old_lanes)))) where
      pub signal-later : IsLaterHere
      signal-later = later-next sys before lane behind r i is (word.Signal s) draws (old.words.signals s h).numbers (λ p b n same. absurd (cc))

      pub sound-signal_drawn : (IsTrue (is_signal sys s) → Keeps Subscribers subscribers (word.Signal s) new_lanes)
          → IsTrue (list_all (is_object sys) (set_in new_lanes s).members) → Sound sys new_lanes hands
      sound-signal_drawn keeps members =
          sound-quiet sys before lane behind r hands old i is signal-later (words-signal sys before lane behind r i is old.words s _ (inl draws) keeps)
          (λ p. rw draws refl) (λ p b. rw draws refl) (λ c. rw draws refl) (λ t k. each t k (s == t) refl)
        where
          each : (t : ℕ) → IsTrue (is_signal sys t) → (u : Bool) → (s == t) ≡ u → IsTrue (list_all (is_object sys) (set_in new_lanes t).members)
          each t k true e = let at : s ≡ t = grind (arith, nat_tests) in subst (λ x. IsTrue (list_all (is_object sys) (set_in new_lanes x).members)) at members
          each t k false e = rw (set-stays sys before lane behind r i is t (rw (draws, e) refl)) (old.subscribed t k)
