use Rattle.std.proofs.Common.{◌++◌, List, map, length, slice_set, ap, ◌∙◌, arith}
use Rattle.std.proofs.lemmas.List.{length-set}
use Rattle.qp_model.specs.declared.record.Rec.{Rec}
use Rattle.qp_plain.specs.Books.{log_recs}
use Rattle.qp_plain.proofs.book.Book.finish.Goals as goal

pub shelve-requires : goal.shelve-requires
shelve-requires c =
    let b = c.args.self in
    let long = length-set b.others.items b.at c.swap.new.y in
    let none = ap (λ (xs : List (List Rec)). length xs) c.requires.none in
    omega (arith, long, none, b.few, c.requires.wide)

pub returns : goal.returns
returns c =
    let b = c.args.self in
    c.shelve.ensures ∙ ap (λ xs. xs ++ map log_recs (slice_set b.others.items b.at c.swap.new.y)) c.requires.none ∙ ap (λ g. map log_recs (slice_set b.others.items b.at g)) c.swap.ensures.y_after
