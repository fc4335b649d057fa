-- Bytes fed one after another.
use Rattle.std.proofs.Common.{◌≡◌, ◌∙◌, ℕ, suc, ◌<◌, true, List, [], ◌∷◌, ◌++◌, Result, Ok, Err, refl, ap}
use Rattle.std.specs.Prelude.{⊤, nat_lt, slice_index}
use Rattle.std.proofs.lemmas.Bool.{lt-ltb, and_from}
use Rattle.std.proofs.lemmas.List.Folds.{list_all-append}
use Rattle.qp_frames.specs.Bytes.{are_bytes}
use Rattle.qp_frames.specs.declared.faults.FrameFault.{FrameFault}
use Rattle.qp_frames.specs.declared.faults.FrameFault.TheVariants.{Memory, At}
use Rattle.qp_frames.specs.declared.stream.Stream.{Stream}
use Rattle.qp_frames.specs.Faults.{Becomes, IsDecoderOf}
use Rattle.qp_frames.specs.Stream.{before_all, fed, take_byte}

-- bytes in two pieces
pub fed-append : (state : Result Stream FrameFault) (xs ys : List ℕ) → fed state (xs ++ ys) ≡ fed (fed state xs) ys
fed-append (Err fault) xs ys = refl
fed-append (Ok p) [] ys = refl
fed-append (Ok p) (x ∷ xs) ys = fed-append (take_byte p x) xs ys

-- the bytes before led to this state, and a piece behind them goes on from it
pub fed-behind : (state : Result Stream FrameFault) (before piece : List ℕ) → fed (Ok before_all) before ≡ state
    → fed (Ok before_all) (before ++ piece) ≡ fed state piece
fed-behind state before piece led = fed-append (Ok before_all) before piece ∙ ap (λ s. fed s piece) led

-- the new state is the one that is wanted, unless memory was refused
abbrev pub Goes : Result Stream FrameFault → Result Stream FrameFault → Type 0
Goes wanted (Err Memory) = ⊤
Goes wanted new = wanted ≡ new

pub goes-same : (fault : FrameFault) → Goes (Err fault) (Err fault)
goes-same Memory = _
goes-same (At offset code want got) = refl

pub goes-fault : (U : Type 0) (q : Stream) (fault : FrameFault) (wanted : Result Stream FrameFault) → Becomes {U = U} (Err fault) q wanted → Goes wanted (Err fault)
goes-fault U q Memory wanted becomes = _
goes-fault U q (At offset code want got) wanted becomes = becomes

-- bytes in two pieces are bytes
pub bytes-append : (xs ys : List ℕ) → are_bytes xs ≡ true → are_bytes ys ≡ true → are_bytes (xs ++ ys) ≡ true
bytes-append xs ys first second = list_all-append (λ (b : ℕ). nat_lt b 256) xs ys ∙ and_from (are_bytes xs) (are_bytes ys) first second

-- a piece is bytes where each of its elements is one
pub bytes-fit : (piece : List ℕ) → ((i : ℕ) → slice_index piece i < 256) → are_bytes piece ≡ true
bytes-fit [] fit = refl
bytes-fit (b ∷ piece) fit = and_from (nat_lt b 256) (are_bytes piece) (lt-ltb b 256 (fit 0)) (bytes-fit piece (λ i. fit (suc i)))

-- what a decoder was fed, with one piece more
module _ (piece before : List ℕ) (fits : are_bytes piece ≡ true) where
  pub stands-next : (old new : Result Stream FrameFault) → Goes (fed old piece) new → IsDecoderOf old before → IsDecoderOf new (before ++ piece)
  stands-next old (Err Memory) goes led = _
  stands-next (Ok p) (Ok q) goes led = (bytes-append before piece led.0 fits, fed-behind (Ok p) before piece led.1 ∙ goes)
  stands-next (Ok p) (Err (At offset code want got)) goes led = (bytes-append before piece led.0 fits, fed-behind (Ok p) before piece led.1 ∙ goes)
  stands-next (Err (At o c w g)) (Ok q) goes led = absurd cc
  stands-next (Err (At o c w g)) (Err (At offset code want got)) goes led =
      (bytes-append before piece led.0 fits, fed-behind (Err (At o c w g)) before piece led.1 ∙ goes)
  stands-next (Err Memory) (Ok q) goes led = absurd cc
  stands-next (Err Memory) (Err (At offset code want got)) goes led = absurd cc

  -- after a fault nothing changes
  pub stands-same : (old : Result Stream FrameFault) (fault : FrameFault) → old ≡ Err fault → IsDecoderOf old before → IsDecoderOf old (before ++ piece)
  stands-same (Ok p) fault is led = absurd cc
  stands-same (Err f) fault is led = stands-next (Err f) (Err f) (goes-same f) led
