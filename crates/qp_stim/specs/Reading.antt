-- What the reader keeps of a line once its names are looked up, and its verdict on that.
use Rattle.std.specs.Prelude.{ℕ, ◌+◌, ◌==◌, nat_lt, nat_le, Bool, true, false, not, ◌&&◌, ◌||◌, List, [], ◌∷◌, ◌++◌, length, is_some, if◌then◌else◌, Some, None, Ok, Err}
use Rattle.std.specs.declared.option.Option.{Option}
use Rattle.std.specs.declared.result.Result.{Result}
use Rattle.std.specs.Option.{option_map}
use Rattle.qp_model.specs.declared.stimulus.Stim.TheVariants as stim
use Rattle.qp_stim.specs.declared.heard.Event.{Event}
use Rattle.qp_stim.specs.declared.heard.Pars.{Pars}
use Rattle.qp_stim.specs.declared.heard.Heard.{Heard}
use Rattle.qp_stim.specs.declared.heard.Heard.TheVariants as heard
use Rattle.qp_stim.specs.declared.names.Signal.{Signal}
use Rattle.qp_stim.specs.declared.tokens.Tokens.{Tokens}
use Rattle.qp_stim.specs.declared.verdict.LineStep.{LineStep}
use Rattle.qp_stim.specs.declared.verdict.LineStep.TheVariants.{Opens, Adds}
use Rattle.qp_stim.specs.LineCodes.{UNDECLARED, RANGE, SOURCE, EVENT_ARITY}
use Rattle.qp_stim.specs.Parts.{split_at_separator}
use Rattle.qp_stim.specs.Names.{Dictionary}
use Rattle.qp_stim.specs.Grammar as line
use Rattle.qp_stim.specs.Grammar.{Said}
use Rattle.qp_model.specs.Results.{◌>>=◌}
use Rattle.qp_model.specs.WordOf.{fitting_number}

abbrev pub no_pars : Pars
no_pars = record { kept = record { items = [] }; fit = true; many = false }

-- the parameters with one more
abbrev pub with_par : Pars → Option ℕ → Pars
with_par p None = record p { fit = false }
with_par p (Some n) = if length p.kept.items == 8 then record p { many = true } else record p { kept = record { items = p.kept.items ++ n ∷ [] } }

abbrev pub with_pars : Pars → List ℕ → Pars
with_pars p [] = p
with_pars p (n ∷ ns) = with_pars (with_par p (fitting_number n)) ns

abbrev pub heard_event : Dictionary → line.EventWords → Event
heard_event names e = record { signal = names.signal e.signal; pars = with_pars no_pars e.pars }

abbrev pub heard_of : Dictionary → Said → Heard
heard_of names (line.Source n) = heard.Source (fitting_number n)
heard_of names (line.Post o e margin reserve) = heard.Post (names.object o) (heard_event names e) (option_map fitting_number margin) (option_map fitting_number reserve)
heard_of names (line.Publish e reserve) = heard.Publish (heard_event names e) (option_map fitting_number reserve)
heard_of names (line.Tick n) = heard.Tick (fitting_number n)
heard_of names line.Settle = heard.Settle

-- the parts that are left
abbrev pub parts_left : ℕ → Option (List ℕ) → List (List ℕ)
parts_left separator None = []
parts_left separator (Some text) = split_at_separator separator text

abbrev pub tokens_left : Tokens → List (List ℕ)
tokens_left t = parts_left 32 (option_map (λ rest. rest.now) t.rest)

-- the number of a `margin` or a `reserve`, and the tokens behind it
abbrev pub held_option : Option ℕ × List (List ℕ) → Option (Option ℕ) × List (List ℕ)
held_option x = (option_map fitting_number x.0, x.1)

abbrev pub option_left : Option (Option ℕ) × Tokens → Option (Option ℕ) × List (List ℕ)
option_left x = (x.0, tokens_left x.1)

-- a margin or a reserve, if there is one
abbrev pub small_of : Option (Option ℕ) → Result (Option ℕ) ℕ
small_of None = Ok None
small_of (Some None) = Err RANGE
small_of (Some (Some n)) = if nat_le n 255 then Ok (Some n) else Err RANGE

abbrev pub declared : {A : Type 0} → Option A → Result A ℕ
declared None = Err UNDECLARED
declared (Some x) = Ok x

-- the codes 3 to 5 of the parameters
abbrev pub admits : ℕ → Signal → Pars → Option ℕ → LineStep → Result LineStep ℕ
admits sources signal pars reserve step =
    if not pars.fit || (signal.fixed && is_some reserve) then Err RANGE
    else if sources == 0 then Err SOURCE
    else if pars.many || not (length pars.kept.items == signal.params) then Err EVENT_ARITY
    else Ok step

unfoldable pub post_verdict : ℕ → Option ℕ → Event → Option (Option ℕ) → Option (Option ℕ) → Result LineStep ℕ
post_verdict sources to event margin reserve = do
  o ← declared to
  signal ← declared event.signal
  m ← small_of margin
  r ← small_of reserve
  admits sources signal event.pars r (Adds (stim.Post o (record { sig = signal.number; pars = event.pars.kept }) m r))

unfoldable pub publish_verdict : ℕ → Event → Option (Option ℕ) → Result LineStep ℕ
publish_verdict sources event reserve = do
  signal ← declared event.signal
  r ← small_of reserve
  admits sources signal event.pars r (Adds (stim.Publish (record { sig = signal.number; pars = event.pars.kept }) r))

abbrev pub is_next_source : ℕ → Option ℕ → Bool
is_next_source sources None = false
is_next_source sources (Some n) = nat_le n 16 && (n == sources + 1)

unfoldable pub tick_verdict : ℕ → Option ℕ → Result LineStep ℕ
tick_verdict sources None = Err RANGE
tick_verdict sources (Some n) = if nat_lt 3 n then Err RANGE else if sources == 0 then Err SOURCE else Ok (Adds (stim.Tick n))

abbrev pub verdict_on : ℕ → Heard → Result LineStep ℕ
verdict_on sources (heard.Source n) = if is_next_source sources n then Ok Opens else Err SOURCE
verdict_on sources (heard.Post to event margin reserve) = post_verdict sources to event margin reserve
verdict_on sources (heard.Publish event reserve) = publish_verdict sources event reserve
verdict_on sources (heard.Tick rate) = tick_verdict sources rate
verdict_on sources heard.Settle = if sources == 0 then Err SOURCE else Ok (Adds stim.Settle)
