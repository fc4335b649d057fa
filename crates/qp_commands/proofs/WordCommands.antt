-- The command of a call's words, by the first word.
use Rattle.std.proofs.Common.{◌≡◌, codes, refl, List, [], ◌∷◌, Bool, true, false, map, None, Some, option_and_then}
use Rattle.std.specs.Borrow.{Bor}
use Rattle.std.specs.Prelude.{slice_get}
use Rattle.std.specs.Str.{bytes_eq}
use Rattle.std.proofs.lemmas.Slice.Eq.{bytes_eq-Decides}
use Rattle.clap.specs.Words.{Text}
use Rattle.qp_commands.specs.WordLaws.{OtherWords}
use Rattle.qp_commands.specs.WordTable.{asked_by, check_asked, command_in, decode_app, decode_in, found_in, generate_app, generate_in, migrate_app, migrate_in, replay_asked, run_app, run_in}

pub command-first : (words : List (Bor Text)) (word : Bor Text) → slice_get words 0 ≡ Some word
    → command_in (map (λ w. w.now) words) ≡ asked_by word.now (map (λ w. w.now) words)
unfolding command_in
command-first [] word is = cc
command-first (w ∷ ws) word is = let same : w ≡ word = cc in rw same refl

pub command-none : (words : List (Bor Text)) → slice_get words 0 ≡ None → command_in (map (λ w. w.now) words) ≡ None
unfolding command_in
command-none [] is = refl
command-none (w ∷ ws) is = let bad : Some w ≡ None = is in cc

pub asked-run : (word : Text) (words : List Text) → word ≡ codes "run"
    → asked_by word words ≡ option_and_then run_in (found_in run_app words)
unfolding asked_by
asked-run word words is = rw is refl

pub asked-decode : (word : Text) (words : List Text) → word ≡ codes "decode"
    → asked_by word words ≡ option_and_then decode_in (found_in decode_app words)
unfolding asked_by
asked-decode word words is = rw is refl

pub asked-migrate : (word : Text) (words : List Text) → word ≡ codes "migrate"
    → asked_by word words ≡ option_and_then migrate_in (found_in migrate_app words)
unfolding asked_by
asked-migrate word words is = rw is refl

pub asked-check : (word : Text) (words : List Text) → word ≡ codes "check"
    → asked_by word words ≡ check_asked words
unfolding asked_by
asked-check word words is = rw is refl

pub asked-replay : (word : Text) (words : List Text) → word ≡ codes "replay"
    → asked_by word words ≡ replay_asked words
unfolding asked_by
asked-replay word words is = rw is refl

pub asked-generate : (word : Text) (words : List Text) → word ≡ codes "gen"
    → asked_by word words ≡ option_and_then generate_in (found_in generate_app words)
unfolding asked_by
asked-generate word words is = rw is refl

differs : (word other : Text) → (word ≡ other → ⊥) → bytes_eq word other ≡ false
differs word other other_word = go (bytes_eq word other) refl
  where
    go : (b : Bool) → bytes_eq word other ≡ b → b ≡ false
    go true e = absurd (other_word ((bytes_eq-Decides word other).0 e))
    go false e = refl

pub asked-other : (word : Text) (words : List Text) → (word ≡ codes "run" → ⊥) → (word ≡ codes "decode" → ⊥) → (word ≡ codes "migrate" → ⊥)
    → (word ≡ codes "check" → ⊥) → (word ≡ codes "replay" → ⊥) → (word ≡ codes "gen" → ⊥) → asked_by word words ≡ None
unfolding asked_by
asked-other word words run decode migrate check replay generate =
    rw (
      differs word (codes "run") run,
      differs word (codes "decode") decode,
      differs word (codes "migrate") migrate,
      differs word (codes "check") check,
      differs word (codes "replay") replay,
      differs word (codes "gen") generate,
    ) refl

pub other-words : OtherWords
unfolding command_in
other-words = (refl, λ word words run decode migrate check replay generate. asked-other word (word ∷ words) run decode migrate check replay generate)
