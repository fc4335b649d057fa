-- Which step of the core each step of a running lane is, by the word that it finds.
use Rattle.std.specs.Prelude.{ℕ, ◌+◌, eqb, leb, Bool, ◌&&◌, cond, Some, None}
use Rattle.std.specs.declared.option.Option.{Option}
use Rattle.std.specs.Option.{unwrap_or}
use Rattle.qp_base.specs.declared.event.Ev.{Ev}
use Rattle.qp_model.specs.declared.record.Rec.{Rec}
use Rattle.qp_model.specs.declared.systems.System.{System}
use Rattle.qp_model.specs.declared.bodies.Entry.{Entry}
use Rattle.qp_model.specs.declared.words.Word.{Word}
use Rattle.qp_model.specs.declared.words.Word.TheVariants as word
use Rattle.qp_model.specs.Sites.{ring_of}
use Rattle.qp_table.specs.After.{full_rec}
use Rattle.qp_table.specs.QueueLaws.{f_in, l_in, m_in}
use Rattle.qp_core_steps.specs.declared.ops.Op.{Op}
use Rattle.qp_core_steps.specs.declared.ops.Op.TheVariants as op
use Rattle.qp_table.specs.Told.{free_of, shortage_rec, nil_rec, free_in, refusal_rec}

-- a look, with the record where there is one
abbrev pub look_with : Word → Bool → Rec → Op
look_with w t r = op.Look w (cond {A = Option Rec} t (Some r) None)

-- a look at a pool for a give, and a try
abbrev pub look_at_pool : ℕ → ℕ → Option ℕ → ℕ → Op
look_at_pool p o reserve n = look_with (word.Pool p) (leb (free_of n) (unwrap_or reserve 0)) (shortage_rec reserve o p n)

abbrev pub give_or_look : ℕ → ℕ → Option ℕ → Ev → ℕ → ℕ → Op
give_or_look p o reserve ev old n = cond {A = Op} (eqb n old) (op.Give p ev) (look_at_pool p o reserve n)

-- the look of a take
abbrev pub look_for_take : ℕ → (ℕ → Bool) → ℕ → Op
look_for_take a is_new n = look_with (word.Queue a) (eqb (f_in n + l_in n) (m_in n) && is_new n) (nil_rec a n)

-- a look at a queue for a post, and a try; a static entry has its signal as its name in the core
abbrev pub look_for_post : System → ℕ → ℕ → Option ℕ → ℕ → Op
look_for_post sys a o margin n = look_with (word.Queue a) (leb (free_in (ring_of sys a) n) (unwrap_or margin 0)) (refusal_rec margin o a n)

abbrev pub claim : ℕ → Entry → Op
claim a e = cond {A = Op} (eqb e.pool 0) (op.Claim a 0 0 e.block) (op.Claim a e.pool e.block e.name)

abbrev pub claim_or_look : System → ℕ → ℕ → Option ℕ → Entry → ℕ → ℕ → Op
claim_or_look sys a o margin e old n = cond {A = Op} (eqb n old) (claim a e) (look_for_post sys a o margin n)

abbrev pub look_for_last : System → ℕ → ℕ → Op
look_for_last sys a n = look_with (word.Queue a) (eqb (free_in (ring_of sys a) n) 0) (full_rec a n)

abbrev pub last : ℕ → Entry → Op
last a e = cond {A = Op} (eqb e.pool 0) (op.Lifo a 0 0 e.block) (op.Lifo a e.pool e.block e.name)

abbrev pub last_or_look : System → ℕ → Entry → ℕ → ℕ → Op
last_or_look sys a e old n = cond {A = Op} (eqb n old) (last a e) (look_for_last sys a n)

-- the front cell is emptied, or nothing lies there
abbrev pub empty_or_peek : ℕ → ℕ → Op
empty_or_peek a n = cond {A = Op} (eqb n 0) (op.Peek a) (op.Empty a)
