-- What an object has and what it works on, as the definitions see it.
use Rattle.std.specs.Prelude.{ℕ, Some, None}
use Rattle.std.specs.declared.option.Option.{Option}
use Rattle.qp_chart.specs.Expr.{Names}
use Rattle.qp_chart.specs.declared.checked.Chart.{Chart}
use Rattle.qp_model.specs.declared.bodies.Entry as model
use Rattle.qp_model.specs.Acts.{Config, Actor, Moment}
use Rattle.qp_calls.specs.declared.tokens.HeldEntry.{HeldEntry}
use Rattle.qp_calls.specs.Clauses.{entry_of, event_of}
use Rattle.qp_calls.specs.Deferring.{kept_in}
use Rattle.qp_dispatch.specs.declared.lasting.Lasting.{Lasting}
use Rattle.qp_dispatch.specs.declared.work.Work.{Work}

-- the configuration of an object
abbrev pub config_of : Lasting → Config
config_of k = record { leaf = k.leaf; vars = k.vars; ok = k.ok; kept = kept_in k.list; former = k.former }

-- the object, with the capacity of its deferred list
abbrev pub actor_of : ℕ → Chart → Lasting → Actor
actor_of me chart k = record { o = me; chart = chart; room = k.list.entries.capacity }

-- the entry that a step works on; a start has none
abbrev pub entry_in : Option HeldEntry → Option model.Entry
entry_in None = None
entry_in (Some e) = Some (entry_of e)

-- the moment of a start or a step
abbrev pub moment_of_work : Work → Moment
moment_of_work work = record { event = event_of work.ev; entry = entry_in work.entry }

-- what the names of its expressions stand for
abbrev pub names_at : ℕ → Lasting → Work → Names
names_at me k work = record { vars = k.vars; pars = work.ev.pars.items; ok = k.ok; me = me }
