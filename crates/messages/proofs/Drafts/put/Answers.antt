use Rattle.messages.proofs.Listing.{push_counted, push_neat}
use Rattle.messages.proofs.Drafts.put.Goals as goal

pub returns : goal.returns
returns c =
    let h = c.requires in
    record {
      after = push_counted c.args.self.now c.args.draft c.args.n h.first h.less h.places;
      neat = push_neat c.args.self.now c.args.draft c.args.n h.first h.less h.places;
    }
