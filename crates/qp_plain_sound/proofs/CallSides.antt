-- The calls on signals and time events do what their clauses say.
use Rattle.std.proofs.Common.{◌≡◌, ℕ, suc, ◌+◌, Bool, true, false, [], ◌∷◌, take, refl, sym, ◌∙◌, ap, subst, arith, IsTrue, take_all}
use Rattle.std.specs.List.{list_all}
use Rattle.qp_chart.specs.StateTree.{has}
use Rattle.qp_model.specs.declared.words.Word.TheVariants as word
use Rattle.qp_model.specs.declared.bodies.Body.{Body}
use Rattle.qp_model.specs.declared.bodies.Body.TheVariants.{Pub, Sub, Unsub, Same, Arm, Disarm, Rearm, Idle, Tick, Fire, Armed}
use Rattle.qp_model.specs.Told.{plain, same_in}
use Rattle.qp_model.specs.History.{Draws, hist, total, all_items}
use Rattle.qp_model.specs.Machine.{after}
use Rattle.qp_model.specs.Subscribers.{subscribers}
use Rattle.qp_model.specs.Parts.{members}
use Rattle.qp_model.specs.Knowing.{known_of, set_at, told}
use Rattle.qp_model.specs.WordLaw.{is_object}
use Rattle.qp_model.proofs.HistoryLemmas.{length-hist}
use Rattle.qp_calls.specs.LaneView.{AddsOf}
use Rattle.qp_plain_sound.specs.WordStates.{set_in}
use Rattle.qp_plain_sound.specs.Sound.{SoundWorld, facts_in}
use Rattle.qp_plain_sound.specs.May.{May, HasSignalOps, HasTimerOps}
use Rattle.qp_plain_sound.specs.View.{view_of}
use Rattle.qp_plain_sound.specs.Step.{WorldStep, Extends, MayCome, before, behind}
use Rattle.qp_plain_sound.specs.Calls.{SubscribeChanges, SubscribeKeeps, UnsubscribeChanges, UnsubscribeKeeps, SubscribersAreRead, ArmIsDone, ArmIsRefused, DisarmFindsIdle, DisarmIsDone, RearmIsDone, TickFindsIdle, TickGoesDown, TickFires}
use Rattle.qp_plain_sound.proofs.Standing.{set-count, clock-count}
use Rattle.qp_plain_sound.proofs.CallParts.{adds, draws-up, set-same}
use Rattle.qp_plain_sound.proofs.SetLemmas.{subscribers-objects}
use Rattle.qp_model.proofs.LineLemmas.{same_number}

-- Records that state all.

abbrev pub tells_all : Body → Bool
tells_all (Pub sig n set) = true
tells_all (Sub sig n) = true
tells_all (Unsub sig n) = true
tells_all (Arm t n ticks interval) = true
tells_all (Disarm t n former) = true
tells_all (Rearm t n former ticks) = true
tells_all (Idle t n) = true
tells_all (Tick t n counter) = true
tells_all (Fire t n reload) = true
tells_all (Armed t n counter) = true
tells_all _ = false

plain_told : (s : WorldStep) (o c : ℕ) (b : Body) → tells_all b ≡ true → told (facts_in s.sys s.more) o c b ≡ plain b
unfolding told known_of
plain_told s o c (Pub sig n set) h = refl
plain_told s o c (Sub sig n) h = refl
plain_told s o c (Unsub sig n) h = refl
plain_told s o c (Arm t n ticks interval) h = refl
plain_told s o c (Disarm t n former) h = refl
plain_told s o c (Rearm t n former ticks) h = refl
plain_told s o c (Idle t n) h = refl
plain_told s o c (Tick t n counter) h = refl
plain_told s o c (Fire t n reload) h = refl
plain_told s o c (Armed t n counter) h = refl
plain_told s o c _ h = absurd (cc)

-- it is added
adds_plain : (s : WorldStep) (o : ℕ) (b : Body) → Extends s o b → MayCome s o b → tells_all b ≡ true → AddsOf o (plain b ∷ []) (before s) (behind s)
adds_plain s o b ext may all = adds s o b ext.world ext.grown ext.says may ext.less _ (λ c. plain_told s o c b all)

-- Signals.

set_draws : (s : WorldStep) (sig n : ℕ) → SoundWorld s.sys s.lanes s.order → HasSignalOps s.sys s.lanes sig n → Draws (word.Signal sig) (suc n) ≡ Draws (word.Signal sig) (suc (total (word.Signal sig) (all_items s.lanes)))
set_draws s sig n world is = ap (λ x. Draws (word.Signal sig) (suc x)) (is.number ∙ set-count s.sys s.lanes world.sound.words sig is.signal)

pub subscribe-changes : SubscribeChanges
unfolding view_of May
subscribe-changes s sig n ext is object none =
    let may : MayCome s s.by (Sub sig n) = (is, none, object) in
    (n, adds_plain s s.by (Sub sig n) ext may refl, draws-up s s.by (Sub sig n) ext.world ext.grown ext.says may (word.Signal sig) (same_number sig) (set_draws s sig n ext.world is))

pub unsubscribe-changes : UnsubscribeChanges
unfolding view_of May
unsubscribe-changes s sig n ext is there =
    let may : MayCome s s.by (Unsub sig n) = (is, there) in
    (n, adds_plain s s.by (Unsub sig n) ext may refl, draws-up s s.by (Unsub sig n) ext.world ext.grown ext.says may (word.Signal sig) (same_number sig) (set_draws s sig n ext.world is))

-- The set stays: whether the object is in it is known.
module _ (s : WorldStep) (sig n : ℕ) (ext : Extends s s.by (Same sig n)) (is : HasSignalOps s.sys s.lanes sig n) where
  same_may : MayCome s s.by (Same sig n)
  unfolding May
  same_may = is

  members_at : set_at (facts_in s.sys s.more) sig n ≡ (set_in s.lanes sig).members
  unfolding set_at set_in
  members_at =
      let now = set-same s s.by (Same sig n) ext.world ext.grown ext.says same_may sig refl in
      let long = length-hist (word.Signal sig) (all_items s.lanes) (ext.world.sound.words.signals sig is.signal).numbers in
      let counted = set-count s.sys s.lanes ext.world.sound.words sig is.signal in
      let is_n = is.number in
      ap (λ h. (after subscribers (take n h)).members) now
      ∙ ap (λ h. (after subscribers h).members) (take_all n (hist (word.Signal sig) (all_items s.lanes)) (omega (arith, long, counted, is_n)))

  same_told : (u : Bool) → has (set_in s.lanes sig).members s.by ≡ u → (c : ℕ) → told (facts_in s.sys s.more) s.by c (Same sig n) ≡ same_in sig n u
  unfolding told known_of
  same_told u e c = ap (same_in sig n) (ap (λ ms. has ms s.by) members_at ∙ e)

  keeps : (u : Bool) → has (set_in s.lanes sig).members s.by ≡ u → AddsOf s.by (same_in sig n u ∷ []) (before s) (behind s)
  keeps u e = adds s s.by (Same sig n) ext.world ext.grown ext.says same_may ext.less _ (same_told u e)

pub subscribe-keeps : SubscribeKeeps
unfolding view_of
subscribe-keeps s sig n ext is there = (n, keeps s sig n ext is true there)

pub unsubscribe-keeps : UnsubscribeKeeps
unfolding view_of
unsubscribe-keeps s sig n ext is none = (n, keeps s sig n ext is false none)

pub subscribers-read : SubscribersAreRead
unfolding view_of May
subscribers-read s sig n set ext is bits =
    (n, adds_plain s s.by (Pub sig n set) ext (is, bits) refl, subst (λ x. IsTrue (list_all (is_object s.sys) (members x))) (sym bits) (subscribers-objects s.sys s.lanes s.order ext.world sig is.signal))

-- Time events.

clock_draws : (s : WorldStep) (t n c : ℕ) → SoundWorld s.sys s.lanes s.order → HasTimerOps s.sys s.lanes t n c → Draws (word.Timer t) (suc n) ≡ Draws (word.Timer t) (suc (total (word.Timer t) (all_items s.lanes)))
clock_draws s t n c world is = ap (λ x. Draws (word.Timer t) (suc x)) (is.number ∙ clock-count s.sys s.lanes world.sound.words t is.timer)

pub arm-done : ArmIsDone
unfolding view_of May
arm-done s t n ticks interval ext is =
    (n, adds_plain s s.by (Arm t n ticks interval) ext is refl, draws-up s s.by (Arm t n ticks interval) ext.world ext.grown ext.says is (word.Timer t) (same_number t) (clock_draws s t n 0 ext.world is))

pub arm-refused : ArmIsRefused
unfolding view_of May
arm-refused s t n c ticks interval ext is some = (adds_plain s s.by (Armed t n c) ext (is, some) refl, some)

pub disarm-idle : DisarmFindsIdle
unfolding view_of May
disarm-idle s t n ext is = (n, adds_plain s s.by (Idle t n) ext is refl)

pub disarm-done : DisarmIsDone
unfolding view_of May
disarm-done s t n c ext is =
    let may : MayCome s s.by (Disarm t n (suc c)) = (is, omega arith) in
    (n, adds_plain s s.by (Disarm t n (suc c)) ext may refl, draws-up s s.by (Disarm t n (suc c)) ext.world ext.grown ext.says may (word.Timer t) (same_number t) (clock_draws s t n (suc c) ext.world is))

pub rearm-done : RearmIsDone
unfolding view_of May
rearm-done s t n former ticks ext is =
    (n, adds_plain s s.by (Rearm t n former ticks) ext is refl, draws-up s s.by (Rearm t n former ticks) ext.world ext.grown ext.says is (word.Timer t) (same_number t) (clock_draws s t n former ext.world is))

pub tick-idle : TickFindsIdle
unfolding view_of May
tick-idle s t n ext is = (n, adds_plain s s.by (Idle t n) ext is refl)

pub tick-down : TickGoesDown
unfolding view_of May
tick-down s t n counter ext is some =
    let may : MayCome s 0 (Tick t n counter) = (is, some) in
    (counter, some, (n, adds_plain s 0 (Tick t n counter) ext may refl, draws-up s 0 (Tick t n counter) ext.world ext.grown ext.says may (word.Timer t) (same_number t) (clock_draws s t n (counter + 1) ext.world is)))

pub tick-fires : TickFires
unfolding view_of May
tick-fires s t n reload ext is reloads =
    let may : MayCome s 0 (Fire t n reload) = (is, reloads) in
    (reload, (n, adds_plain s 0 (Fire t n reload) ext may refl, draws-up s 0 (Fire t n reload) ext.world ext.grown ext.says may (word.Timer t) (same_number t) (clock_draws s t n 1 ext.world is)))
