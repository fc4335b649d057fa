-- Rows of looks at the base, by the lane's records.
use Rattle.std.proofs.Common.{◌≡◌, ℕ, ◌+◌, ◌<◌, ◌≤◌, ◌==◌, cond, Bool, true, false, not, ◌&&◌, List, [], ◌∷◌, map, length, nat_lt, refl, sym, ◌∙◌, ap, Option, Some, None, arith}
use Rattle.std.specs.List.{AllByRecursion, filter}
use Rattle.std.specs.Option.{option_map_or, unwrap_or}
use Rattle.std.proofs.lemmas.List.{length-map, length-reverse}
use Rattle.std.proofs.lemmas.Bool.Decides.{nat_tests}
use Rattle.qp_model.specs.declared.systems.System.{System}
use Rattle.qp_model.specs.declared.systems.ObjectDef.{ObjectDef}
use Rattle.qp_model.specs.Kernels.{qk, qv}
use Rattle.qp_model.specs.Sound.{IsSound}
use Rattle.qp_model.specs.KernelLane.{Again, Over, Reading, Resting, Setting, above, base_ended, found_none, lane_on, lane_read, looking_at, unread}
use Rattle.qp_model_order.specs.RunOrder.{has_stim}
use Rattle.qp_model.specs.Told.{untold}
use Rattle.qp_calls.specs.LaneView.{LaneView}
use Rattle.qp_kernel.specs.Happenings.{lanes_of}
use Rattle.qp_kernel.specs.LaneZero.{setting}
use Rattle.qp_kernel.specs.Turning.{KernelState, Stands, Terms, kernel_in}
use Rattle.qp_kernel_turns.specs.declared.halting.Halt.{Halt}
use Rattle.qp_kernel_turns.specs.declared.halting.Halt.TheVariants as halt
use Rattle.qp_kernel_turns.specs.BaseRows.{SameRow, reading_in}
use Rattle.qp_kernel_turns.specs.Knowing.{IsObjectWithChart}
use Rattle.qp_kernel_turns.specs.TurnRows.{FewRows, bare_row, idle_rows}
use Rattle.qp_kernel_turns.proofs.SoundObjects.{named, numbered}

-- what the state has read is what the lane says
pub reading-is : (sys : System) (terms : Terms) (s : KernelState) (v : LaneView) → Stands sys terms s → s.told ≡ v.told → s.now ≡ has_stim (lanes_of v) → reading_in sys terms v ≡ s.reading
unfolding lane_read
reading-is sys terms s v stands told now =
    ap (λ ts. unwrap_or (lane_on (setting sys (kernel_in terms) (has_stim (lanes_of v))) (unread sys) (map untold ts)) (unread sys)) (sym told)
    ∙ ap (λ has. unwrap_or (lane_on (setting sys (kernel_in terms) has) (unread sys) (map untold s.told)) (unread sys)) (sym now)
    ∙ ap (λ o. unwrap_or o (unread sys)) (stands.read s.now (λ n le. refl))

pub idle-reads : (sys : System) (terms : Terms) (v : LaneView) → idle_rows sys terms v ≡ (reading_in sys terms v).idle
unfolding unread
idle-reads sys terms v = by (lane_read (setting sys (kernel_in terms) (has_stim (lanes_of v))) (map untold v.told))
  where
    by : (o : Option Reading) → option_map_or (λ (k : Reading). k.idle) o 0 ≡ (unwrap_or o (unread sys)).idle
    by None = refl
    by (Some k) = refl

pub idle-is : (sys : System) (terms : Terms) (v : LaneView) (s : KernelState) → Stands sys terms s → s.told ≡ v.told → s.now ≡ has_stim (lanes_of v) → idle_rows sys terms v ≡ s.reading.idle
idle-is sys terms v s stands told now = idle-reads sys terms v ∙ ap (λ r. r.idle) (reading-is sys terms s v stands told now)

-- more rows than enough
pub few-more : (sys : System) (terms : Terms) (n m : ℕ) (w : LaneView) (h : Halt) → n ≤ m → FewRows sys terms n w h → FewRows sys terms m w h
few-more sys terms n m w halt.Memory le h = tt
few-more sys terms n m w halt.Stopped le h = λ threaded. let few = h threaded in omega (arith, few, le)

-- Looks.

-- within a row no look ends one
pub looks-some : (s : Setting) (k : Reading) (os : List ℕ) → 0 < length os → SameRow k (looking_at s k os)
looks-some s k [] some = absurd (omega (arith, some))
looks-some s k (p ∷ others) some = record { stepped = refl; idle = refl }

-- nor within a step
pub looks-within : (s : Setting) (k : Reading) (os : List ℕ) → 0 < length k.running → SameRow k (looking_at s k os)
looks-within s k (p ∷ others) some = record { stepped = refl; idle = refl }
looks-within s k [] some = by k.running some
  where
    by : (rs : List ℕ) → 0 < length rs → SameRow k (found_none s k rs)
    by [] few = absurd (omega (arith, few))
    by (o ∷ outer) few = record { stepped = refl; idle = refl }

-- at the base one comes to its end
ended-adds : (s : Setting) (k : Reading) → (base_ended s k).idle ≤ k.idle + 1
ended-adds s k = by (not (s.kernel == qk) && s.has_stimulus k.looks) k.stepped
  where
    by : (b c : Bool) → (cond b (record k { place = Again }) (record k { place = Over; idle = cond c k.idle (k.idle + 1); stepped = false })).idle ≤ k.idle + 1
    by true c = omega arith
    by false true = omega arith
    by false false = omega arith

pub looks-add : (s : Setting) (k : Reading) (os : List ℕ) → (looking_at s k os).idle ≤ k.idle + 1
looks-add s k (p ∷ others) = omega arith
looks-add s k [] = by k.running
  where
    rests : (b : Bool) → (cond b (record k { place = Resting }) (base_ended s k)).idle ≤ k.idle + 1
    rests true = omega arith
    rests false = ended-adds s k

    by : (rs : List ℕ) → (found_none s k rs).idle ≤ k.idle + 1
    by (o ∷ outer) = omega arith
    by [] = rests (s.kernel == qv)

-- and adds no row, where it has a step
ended-stepped : (s : Setting) (k : Reading) → k.stepped ≡ true → (base_ended s k).idle ≡ k.idle
ended-stepped s k has = by (not (s.kernel == qk) && s.has_stimulus k.looks)
  where
    by : (b : Bool) → (cond b (record k { place = Again }) (record k { place = Over; idle = cond k.stepped k.idle (k.idle + 1); stepped = false })).idle ≡ k.idle
    by true = refl
    by false = rw has refl

pub looks-stepped : (s : Setting) (k : Reading) (os : List ℕ) → k.stepped ≡ true → (looking_at s k os).idle ≡ k.idle
looks-stepped s k (p ∷ others) has = refl
looks-stepped s k [] has = by k.running
  where
    rests : (b : Bool) → (cond b (record k { place = Resting }) (base_ended s k)).idle ≡ k.idle
    rests true = refl
    rests false = ended-stepped s k has

    by : (rs : List ℕ) → (found_none s k rs).idle ≡ k.idle
    by (o ∷ outer) = refl
    by [] = rests (s.kernel == qv)

-- it goes on where a stimulus came, but for `qk`
pub looks-again : (s : Setting) (k : Reading) (os : List ℕ) → (s.kernel == qk) ≡ false → s.has_stimulus k.looks ≡ true → SameRow k (looking_at s k os)
looks-again s k (p ∷ others) single came = record { stepped = refl; idle = refl }
looks-again s k [] single came = by k.running
  where
    ended : SameRow k (base_ended s k)
    ended = rw (single, came) (record { stepped = refl; idle = refl })

    rests : (b : Bool) → SameRow k (cond b (record k { place = Resting }) (base_ended s k))
    rests true = record { stepped = refl; idle = refl }
    rests false = ended

    by : (rs : List ℕ) → SameRow k (found_none s k rs)
    by (o ∷ outer) = record { stepped = refl; idle = refl }
    by [] = rests (s.kernel == qv)

-- The first look of a row, at an object where there is one.

filtered : (sys : System) → IsSound sys → (ds : List ObjectDef) → AllByRecursion (λ d. IsObjectWithChart sys d.priority) ds → length (filter (λ d. nat_lt 0 d.priority) ds) ≡ length ds
filtered sys sound [] all = refl
filtered sys sound (d ∷ ds) all = by (nat_lt 0 d.priority) refl (filtered sys sound ds all.1)
  where
    positive : 0 < d.priority
    positive = let n = all.0 in let some = numbered sys sound n.object n.found in omega (arith, n.is, some)

    by : (b : Bool) → nat_lt 0 d.priority ≡ b → length (filter (λ x. nat_lt 0 x.priority) ds) ≡ length ds → length (cond b (d ∷ filter (λ x. nat_lt 0 x.priority) ds) (filter (λ x. nat_lt 0 x.priority) ds)) ≡ length (d ∷ ds)
    by true is rest = omega (arith, rest)
    by false is rest = let some = positive in absurd (grind (arith, nat_tests))

above-length : (sys : System) → IsSound sys → length (above sys 0) ≡ length sys.objects
unfolding above
above-length sys sound =
    length-reverse (map (λ d. d.priority) (filter (λ d. nat_lt 0 d.priority) sys.objects)) ∙ length-map (filter (λ d. nat_lt 0 d.priority) sys.objects) (λ d. d.priority)
    ∙ filtered sys sound sys.objects (named sys sound)

pub look-adds : (sys : System) → IsSound sys → (s : Setting) (k : Reading) (floor : ℕ) → (k.running ≡ [] → floor ≡ 0) → (looking_at s k (above sys floor)).idle ≤ k.idle + bare_row sys
look-adds sys sound s k floor base = by k.running refl
  where
    within : 0 < length k.running → (looking_at s k (above sys floor)).idle ≤ k.idle + bare_row sys
    within some = let same = (looks-within s k (above sys floor) some).idle in omega (arith, same)

    objects : (ds : List ObjectDef) → sys.objects ≡ ds → floor ≡ 0 → (looking_at s k (above sys floor)).idle ≤ k.idle + cond (length ds == 0) 1 0
    objects [] none low = looks-add s k (above sys floor)
    objects (d ∷ ds) some low =
        let long : length (above sys floor) ≡ length sys.objects = ap (λ f. length (above sys f)) low ∙ above-length sys sound in
        let more : 0 < length (above sys floor) = let e = ap length some in omega (arith, long, e) in
        let same = (looks-some s k (above sys floor) more).idle in
        omega (arith, same)

    by : (rs : List ℕ) → k.running ≡ rs → (looking_at s k (above sys floor)).idle ≤ k.idle + bare_row sys
    by [] is = objects sys.objects refl (base is)
    by (o ∷ outer) is = within (let e = ap length is in omega (arith, e))
