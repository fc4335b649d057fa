-- What contracts see of a queue's word.
use Rattle.std.specs.Prelude.{◌≡◌, ℕ, ◌+◌, nat_lt, Bool, true, [], ◌∷◌, Some, None}
use Rattle.std.specs.declared.option.Option.{Option}
use Rattle.qp_model.specs.Line.{Line}
use Rattle.qp_calls.specs.declared.tokens.HeldEntry.{HeldEntry}
use Rattle.qp_calls.specs.declared.tokens.HeldEntry.TheVariants as token
use Rattle.qp_calls.specs.Clauses.{entry_of}

-- a static event, or a reference to a block of a pool, which are numbered from 1
abbrev pub is_token : HeldEntry → Bool
is_token (token.Static sig) = true
is_token (token.Pool h) = nat_lt 0 h.pool

-- its line, and how many entries its ring holds
pub record Queue : Type 0 where
  pub line : Line
  pub ring : ℕ

abbrev pub empty_line : Line
empty_line = record { entries = []; f = 0; l = 0; m = 0 }

-- the front comes out, where there is one
abbrev pub TakesFront : Line → Line → Option HeldEntry → Type 0
TakesFront old new None = (old.entries ≡ []) × (new ≡ old)
TakesFront old new (Some e) = (old.entries ≡ entry_of e ∷ new.entries) × (new ≡ record old { entries = new.entries; m = old.m + 1 })
