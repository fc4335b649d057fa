use Rattle.std.proofs.Common.{◌≡◌, suc, ◌+◌, ◌++◌, sym, ◌∙◌, ap, append_assoc, append-nil, arith}
use Rattle.std.specs.Prelude.{string_bytes}
use Rattle.qp_system.specs.Files.{post_lines, posts_text}
use Rattle.qp_system.proofs.files.push_posts.Goals as goal

pub loop-k-init : goal.loop-k-init
loop-k-init c = sym (append-nil (string_bytes c.args.text.now))

pub loop-k-preserved : goal.loop-k-preserved
loop-k-preserved c =
    let before = string_bytes c.args.text.now in
    let up : suc c.loop-k.k ≡ c.loop-k.k + 1 = omega arith in
    c.in_ok-push_post.ensures ∙ ap (λ xs. xs ++ post_lines c.loop-k.k c.args.i) c.loop-k.invariant
    ∙ append_assoc before (posts_text c.loop-k.k c.args.i) (post_lines c.loop-k.k c.args.i)
    ∙ ap (λ n. before ++ posts_text n c.args.i) up
