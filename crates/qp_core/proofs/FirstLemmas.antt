-- The table where nothing has happened meets the rule.
use Rattle.std.proofs.Common.{◌≡◌, ℕ, zero, suc, ◌+◌, ◌-◌, ◌<◌, ◌≤◌, nat_lt, List, [], ◌∷◌, ◌++◌, Bool, true, false, cond, length, get_or, refl, sym, ap, ◌∙◌, arith, eqb, eq-eqb, append_assoc, append-nil, Ok, Err, OnOk}
use Rattle.std.specs.declared.result.Result.{Result}
use Rattle.qp_base.specs.declared.faults.Memory.{Memory}
use mathlib.Core.Logic.{dite}
use native.Mathlib.Decide.{ℕ_discrete}
use Rattle.std.proofs.lemmas.Bool.Decides.{nat_tests}
use Rattle.std.specs.List.{list_any}
use Rattle.qp_model.specs.declared.systems.System.{System}
use Rattle.qp_model.specs.Lists.{count_up}
use Rattle.qp_model.specs.Sound.{IsSound}
use Rattle.qp_table.specs.Counting.{many}
use Rattle.qp_table.specs.Rule.{is_number, Holds}
use Rattle.qp_table.specs.After.{empty_view, newcomer}
use Rattle.qp_table.specs.declared.view.Serve.{Serve}
use Rattle.qp_table.specs.Whole.{later_lanes}
use Rattle.qp_table.specs.First.{first_word, first_serve, first_serves}
use Rattle.qp_table.proofs.Lanes.{adds-nothing, keeps, swaps}
use Rattle.qp_table.proofs.Start.{first-shows, first-cells, serves-once, serves-fresh, starts}
use Rattle.qp_core_steps.specs.Seats.{as_view}
use Rattle.qp_core.specs.Standing.{bank, has_number, TableHolds}
use Rattle.qp_core.specs.Runs.{IsFirstState, first_seat}
use Rattle.qp_core.specs.declared.state.CoreState.{CoreState}

-- The first view becomes that of seat 0 and the lane numbers not handed out
parted : (sys : System) (words ns : List ℕ) (xs : List Serve) → Holds sys words (newcomer ns xs ∷ []) → Holds sys words (bank ns ∷ as_view (first_seat xs) ∷ [])
parted sys words ns xs h =
    let two = adds-nothing sys words (newcomer ns xs ∷ []) h in
    let all = keeps sys words (newcomer ns xs ∷ empty_view ∷ []) two 0 (newcomer ns xs) refl in
    swaps sys words (newcomer ns xs ∷ empty_view ∷ []) two 0 (newcomer ns xs) refl 1 empty_view (λ e. absurd (omega arith)) refl (bank ns) (as_view (first_seat xs))
    (record {
      fresh = λ t. refl;
      used = λ t. refl;
      hands = λ t. refl;
      fills = λ t. refl;
      claims = λ t. refl;
      takes = λ t. refl;
      serves = λ t. omega arith;
      lanes = λ n. omega arith;
      fewer = λ n. omega arith;
      rights = omega arith;
    })
    (record {
      own = tt;
      idle = λ none. record { fresh = refl; used = refl; hands = refl; gives = refl; fills = refl; claims = refl; takes = refl };
      home = record { counts = tt; within = omega arith; others = λ a none. (refl, refl); taking = λ a. omega arith };
      seen = tt;
      beside = record { fills = λ p b. omega arith; gives = λ p b. omega arith; told = tt };
      contents = tt;
    })
    (record {
      own = all.own;
      idle = λ none. absurd (omega arith);
      home = record { counts = all.home.counts; within = all.home.within; others = all.home.others; taking = all.home.taking };
      seen = tt;
      beside = record { fills = λ p b. omega arith; gives = λ p b. omega arith; told = tt };
      contents = tt;
    })

up-some : (from k n : ℕ) → from ≤ n → n < from + k → 0 < many (is_number n) (count_up from k)
up-some from zero n lo hi = absurd (omega arith)
up-some from (suc k) n lo hi = dite (ℕ_discrete from n)
    (λ e. let one : cond {A = ℕ} (eqb from n) 1 0 ≡ 1 = ap (λ (t : Bool). cond {A = ℕ} t 1 0) (eq-eqb from n e) in omega arith)
    (λ ne. let r = up-some (from + 1) k n (omega arith) (omega arith) in omega arith)

later-first : (xs : List Serve) (n : ℕ) → n < 49 → list_any (has_number n) (first_seat xs ∷ []) ≡ false → 0 < many (is_number n) later_lanes
later-first xs zero l gone = absurd (cc)
later-first xs (suc n) l gone = up-some 1 48 (suc n) (omega arith) (omega arith)

pub first-holds : (sys : System) (lanes : ℕ) (words : List ℕ) → IsSound sys → lanes ≤ 49 → length words ≡ 21128 → ((k : ℕ) → k < 21128 → get_or words k 0 ≡ first_word sys k) → TableHolds sys lanes words (first_seat (first_serves sys 32) ∷ [])
first-holds sys lanes words sound few wide each = record {
  lane_numbers = later_lanes;
  views = as_view (first_seat (first_serves sys 32)) ∷ [];
  holds = parted sys words later_lanes (first_serves sys 32) (starts sys words sound wide each);
  seats_are = (refl, tt);
  own = ((λ stands below. refl), tt);
  later = λ n l gone. later-first (first_serves sys 32) n (let x : nat_lt n lanes ≡ true = l in let y : n < lanes = grind (arith, nat_tests) in omega arith) gone;
  few = few;
}

pub first-is : (sys : System) (lanes : ℕ) (s : CoreState) → IsSound sys → s.sys.now ≡ sys → s.lanes ≡ lanes → length s.words ≡ 21128 → ((k : ℕ) → k < 21128 → get_or s.words k 0 ≡ first_word sys k) → s.seats ≡ first_seat (first_serves sys 32) ∷ []
    → IsFirstState sys lanes s
first-is sys lanes s sound a b wide each seat = record {
  sys_is = a;
  lanes_is = b;
  shows = first-shows sys sound s.words wide each;
  cells = first-cells sys sound s.words wide each;
  serves = first_serves sys 32;
  seat = seat;
  all_objects = serves-once sys sound;
  fresh = serves-fresh sys 32;
}

-- one more object is added
pub more-serves : (sys : System) (n : ℕ) (r : Result (Unit {0}) Memory) (old mid new : List Serve) → (n ≡ 0 → ⊥) → mid ≡ old ++ first_serve sys n → OnOk r (new ≡ mid ++ first_serves sys (n - 1)) → OnOk r (new ≡ old ++ first_serves sys n)
unfolding first_serves
more-serves sys zero r old mid new some e h = absurd (some refl)
more-serves sys (suc n) (Ok u) old mid new some e h =
    let one : suc n - 1 ≡ n = omega arith in
    h ∙ (ap (λ k. mid ++ first_serves sys k) one ∙ (ap (λ ys. ys ++ first_serves sys n) e ∙ append_assoc old (first_serve sys (suc n)) (first_serves sys n)))
more-serves sys (suc n) (Err u) old mid new some e h = tt

pub no-serves : (sys : System) (n : ℕ) (xs : List Serve) → n ≡ 0 → xs ≡ xs ++ first_serves sys n
unfolding first_serves
no-serves sys zero xs e = sym (append-nil xs)
no-serves sys (suc n) xs e = absurd (omega arith)
