use Rattle.qp_calls.proofs.Posting.{back-stands, posted-done, posted-short}
use Rattle.qp_calls.proofs.entries.post_entry.Goals as goal

pub unposted-requires-clause-stands : goal.unposted-requires-clause-stands
unposted-requires-clause-stands g c =
    back-stands c.args.margin c.args.to _ _ _ c.args.e c.in-Short.entry _ _ c.in-Short.ensures.claims c.requires.stands

pub returns-in-Done : goal.returns-in-Done
returns-in-Done g c = posted-done c.args.to c.args.e c.args.margin _ _ c.in-Done.ensures.claims

pub returns-in-Short : goal.returns-in-Short
returns-in-Short g c =
    posted-short c.args.margin c.args.to _ _ _ c.args.e c.in-Short.entry _ _ _ _ c.in-Short.ensures.claims c.unposted.ensures.did c.unposted.ensures.adds
