use Rattle.std.proofs.Common.{rules, ◌≡◌, ◌∙◌, Some, sym}
use Rattle.finder.specs.Calls.{query_of}
use Rattle.finder.specs.Found.{ordinal_of, kth_record}
use Rattle.finder.proofs.Listing.{last_shows}
use Rattle.finder.proofs.finder.Finder.look.Goals as goal

pub returns : goal.returns
returns g c =
    let f = c.args.self.now in
    let last = c.in_ok-last.last in
    let some : f.last ≡ Some last = search rules in
    let shown : last.found ≡ kth_record (query_of f) (ordinal_of f.last) = last_shows (query_of f) (ordinal_of f.last) last (sym some ∙ f.stands) in
    search rules
